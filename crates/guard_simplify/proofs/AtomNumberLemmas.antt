-- The numbers that are counted are atoms where all atoms are within the limit, and forests with few nodes go below a root.
use Rattle.std.proofs.Common.{◌≡◌, ℕ, suc, ◌+◌, ◌≤◌, List, [], ◌∷◌, ◌++◌, length, map, All, Contains, refl, sym, ap, subst, arith, length-append}
use Rattle.std.proofs.lemmas.List.{length-map}
use Rattle.std.proofs.lemmas.List.Elements.{All-nil, All-cons}
use Rattle.tp_base.specs.declared.atoms.TheConstants.{MOST_ATOMS}
use Rattle.tp_base.proofs.Rising.{Contains-here, Contains-behind}
use Rattle.tree_sem.specs.Trees.{LabelTree, count_of}
use Rattle.tree_sem.specs.declared.tree_fault.TheConstants.{MOST_NODES}
use Rattle.tree_sem.proofs.NodeLemmas.{length-paths_of, Contains-map}
use Rattle.simple_core.specs.Systems.{IsAtom}
use Rattle.simple_core.specs.declared.system.TheConstants.{MOST_KINDS}
use Rattle.guard_sem.specs.Guards.{Guard, always, atom, all, any, parent, ancestor, child, descendant, somewhere, Guards, no_guards, guard, parts, same_guard}
use Rattle.guard_sem.specs.declared.rules.Rule.{Rule}
use Rattle.guard_sem.proofs.SameGuards.{same_guard-sound, same_guard-itself}
use Rattle.guard_simplify.specs.declared.keys.Key.{Key}
use Rattle.guard_simplify.specs.declared.formulas.Formulas.{Formulas}
use Rattle.guard_simplify.specs.Firsts.{different}
use Rattle.guard_simplify.specs.Auxiliaries.{formulas, tops_of, forest_of, nodes_of, Place, by_rule, places}
use Rattle.guard_simplify.specs.Simplified.{atom_of}
use Rattle.guard_simplify.specs.Keys.{atom_in, HasNumber, HaveNumbers, PartsHaveNumbers}
use Rattle.guard_simplify.specs.Numbered.{Kept, stored, parts_of, kept_of}
use Rattle.guard_simplify.specs.ForestRules.{rooted}
use Rattle.guard_simplify.specs.Counted.{IsNumbering}
use Rattle.guard_simplify.specs.AtomNumbers.{HaveAtomParts, AreAtoms, HasAtoms, HasFewNodes, HaveFewNodes}
use Rattle.guard_simplify.proofs.NumberLemmas.{different-Contains, place_within}
use Rattle.guard_simplify.proofs.KeyRuleLemmas.{same_atom}
use Rattle.guard_simplify.proofs.SystemLemmas.{count_formulas}

-- what f gives for each element, where each is one
all_map : {X : Type 0} (f : X → ℕ) (xs : List X) → ((x : X) → Contains xs x → IsAtom (f x)) → All IsAtom (map f xs)
all_map f [] each = All-nil IsAtom
all_map f (x ∷ xs) each = All-cons IsAtom (f x) (map f xs) (each x (Contains-here x x xs refl)) (all_map f xs (λ y is. each y (Contains-behind y x xs is)))

are_map : {X : Type 0} (f : X → ℕ) (xs : List X) → ((x : X) → Contains xs x → IsAtom (f x)) → AreAtoms (map f xs)
are_map f [] each = tt
are_map f (x ∷ xs) each = (each x (Contains-here x x xs refl), are_map f xs (λ y is. each y (Contains-behind y x xs is)))

module _ (n : ℕ) (fs : List Guard) (few : n + length fs ≤ MOST_ATOMS) where
  number_atom : (g : Guard) → HasNumber n fs g → IsAtom (atom_in n fs g)
  number_atom (atom a) has = omega (arith, few, has)
  number_atom g has = let place = place_within same_guard same_guard-sound same_guard-itself fs g has in omega (arith, few, place)

  listed_atoms : (gs : Guards) → HaveNumbers n fs gs → All IsAtom (map (atom_in n fs) (parts gs))
  listed_atoms no_guards have = All-nil IsAtom
  listed_atoms (guard g gs) have = All-cons IsAtom (atom_in n fs g) (map (atom_in n fs) (parts gs)) (number_atom g have.0) (listed_atoms gs have.1)

  one_atom : (g : Guard) → HasNumber n fs g → All IsAtom (atom_in n fs g ∷ [])
  one_atom g has = All-cons IsAtom (atom_in n fs g) [] (number_atom g has) (All-nil IsAtom)

  part_atoms : (f : Guard) → PartsHaveNumbers n fs f → All IsAtom (map (atom_in n fs) (parts_of f))
  part_atoms always have = All-nil IsAtom
  part_atoms (atom a) have = All-nil IsAtom
  part_atoms (all gs) have = listed_atoms gs have
  part_atoms (any gs) have = listed_atoms gs have
  part_atoms (parent g) has = one_atom g has
  part_atoms (ancestor g) has = one_atom g has
  part_atoms (child g) has = one_atom g has
  part_atoms (descendant g) has = one_atom g has
  part_atoms (somewhere g) has = one_atom g has

  key_atoms : (some : List Guard) (keys : List Key) → map stored keys ≡ map (kept_of (atom_in n fs)) some → ((f : Guard) → Contains some f → PartsHaveNumbers n fs f) → HaveAtomParts keys
  key_atoms [] [] are closed = tt
  key_atoms [] (k ∷ keys) are closed = cc
  key_atoms (f ∷ some) [] are closed = cc
  key_atoms (f ∷ some) (k ∷ keys) are closed =
      let first : stored k ≡ kept_of (atom_in n fs) f = cc in
      let rest : map stored keys ≡ map (kept_of (atom_in n fs)) some = cc in (
        subst (All IsAtom) (sym (ap (λ (kept : Kept). kept.1) first)) (part_atoms f (closed f (Contains-here f f some refl))),
        key_atoms some keys rest (λ g is. closed g (Contains-behind g f some is)),
      )

module _ (rules : List Rule) (guards : List Guard) (n : ℕ) (f : Formulas) (is : IsNumbering rules guards n f) (within : n + length f.keys.keys ≤ MOST_ATOMS) where
  abbrev fs : List Guard
  fs = formulas rules guards

  abbrev at : Guard → ℕ
  at g = atom_of rules guards n g

  few_formulas : n + length fs ≤ MOST_ATOMS
  few_formulas = let count = count_formulas rules guards n f is in omega (arith, within, count)

  guard_atom : (g : Guard) → HasNumber n fs g → IsAtom (at g)
  guard_atom g has = subst IsAtom (sym (same_atom rules guards n g has)) (number_atom n fs few_formulas g has)

  pub has_atoms : HasAtoms f
  has_atoms = record {
    formulas = key_atoms n fs few_formulas fs f.keys.keys is.table.are is.table.closed;
    rules = subst (All IsAtom) (sym is.of_rules) (all_map (λ (r : Rule). at r.guard) rules (λ r listed. guard_atom r.guard (is.known_rules r.guard (Contains-map (λ (r : Rule). r.guard) rules r listed))));
    seen = subst AreAtoms (sym is.seen) (are_map at (different same_guard guards) (λ g listed. guard_atom g (is.known g ((different-Contains same_guard same_guard-sound same_guard-itself guards g).0 listed))));
  }

-- where all forests together have few nodes, so has each
few_each : (i : ℕ) (rules : List Rule) → length {A = Place} (by_rule (λ i r. map (λ q. (i, q)) (nodes_of r)) i rules) ≤ MOST_KINDS → HaveFewNodes rules
few_each i [] few = tt
few_each i (r ∷ rules) few =
    let mine : List Place = map (λ q. (i, q)) (nodes_of r) in
    let others : List Place = by_rule (λ i r. map (λ q. (i, q)) (nodes_of r)) (suc i) rules in
    let whole : length (mine ++ others) ≡ length mine + length others = length-append mine others in
    let first : length mine ≡ length (nodes_of r) = length-map (nodes_of r) (λ (q : List ℕ). let p : Place = (i, q) in p) in
    (omega (arith, few, whole, first), few_each (suc i) rules (omega (arith, few, whole)))

pub have_few_nodes : (rules : List Rule) → length (places rules) ≤ MOST_KINDS → HaveFewNodes rules
have_few_nodes rules few = few_each 0 rules few

-- the trees of a forest with few nodes go below a root
pub root_fits : (r : Rule) (tops : List LabelTree) → tops_of r.action ≡ tops → HasFewNodes r → count_of (rooted tops) ≤ MOST_NODES
root_fits r tops same few =
    let count : length (nodes_of r) + 1 ≡ count_of (forest_of r) = omega (arith, length-paths_of (forest_of r)) in
    subst (λ z. count_of (rooted z) ≤ MOST_NODES) same (omega (arith, few, count))
