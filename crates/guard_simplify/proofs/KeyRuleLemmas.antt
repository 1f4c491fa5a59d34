-- The rules of the formulas' keys are those of the formulas.
use Rattle.std.proofs.Common.{◌≡◌, ℕ, suc, ◌+◌, false, List, [], ◌∷◌, ◌++◌, length, map, Contains, None, Some, refl, sym, ap, ◌∙◌, inl, inr, arith, length-append}
use Rattle.std.specs.Prelude.{slice_get}
use Rattle.std.specs.List.{flat_map}
use Rattle.std.proofs.lemmas.Bool.{cases_Bool, cases_lt}
use Rattle.std.proofs.lemmas.Option.{slice_get_within}
use Rattle.std.proofs.lemmas.List.Concat.{flat_map-append}
use Rattle.tp_base.proofs.Rising.{Contains-here, Contains-behind}
use Rattle.tp_base.proofs.Lists.{Contains-at, slice_get-append_left, slice_get-push}
use Rattle.simple_core.specs.declared.rules.Local.{Local}
use Rattle.guard_sem.specs.Guards.{Guard, always, atom, all, any, parent, ancestor, child, descendant, somewhere, Guards, no_guards, guard, guards_of, parts, same_guard}
use Rattle.guard_sem.specs.declared.rules.Rule.{Rule}
use Rattle.guard_sem.proofs.SameGuards.{same_guard-sound, same_guard-itself}
use Rattle.guard_simplify.specs.declared.keys.Key.{Key}
use Rattle.guard_simplify.specs.declared.keys.Shape.TheVariants.{All, Parent, Ancestor, Child, Descendant}
use Rattle.guard_simplify.specs.Firsts.{is_among, different, place_of}
use Rattle.guard_simplify.specs.Auxiliaries.{formulas_of, formulas_in, formulas}
use Rattle.guard_simplify.specs.Simplified.{atom_of, formula_locals, formula_ups, formula_downs}
use Rattle.guard_simplify.specs.Keys.{atom_in, HasNumber, HaveNumbers, PartsHaveNumbers}
use Rattle.guard_simplify.specs.Numbered.{Kept, stored, kept_of, IsFormula, IsTable, with_all}
use Rattle.guard_simplify.specs.KeyRules.{by_number, needing_each, locals_by, ups_by, downs_by, key_locals, key_ups, key_downs}
use Rattle.guard_simplify.proofs.Numbering.{place_front, place_new, atom_for-formula}
use Rattle.guard_simplify.proofs.NumberedLemmas.{with_all-append}

-- each formula stands at its own place
abbrev pub ArePlaced : List Guard → Type 0
ArePlaced fs = (i : ℕ) (g : Guard) → slice_get fs i ≡ Some g → place_of same_guard g fs ≡ i

placed_push : (fs : List Guard) (x : Guard) → ArePlaced fs → is_among same_guard x fs ≡ false → ArePlaced (fs ++ x ∷ [])
placed_push fs x placed new i g at = elim (cases_lt i (length fs)) [
  | inl less ↦
      let old : slice_get fs i ≡ Some g = sym (slice_get-append_left fs (x ∷ []) i less) ∙ at in
      place_front same_guard same_guard-sound same_guard-itself fs (x ∷ []) g (Contains-at fs i g old) ∙ placed i g old
  | inr past ↦
      let within = slice_get_within (fs ++ x ∷ []) i g at in
      let long = length-append fs (x ∷ []) in
      let last : i ≡ length fs = omega (arith, past, within, long) in
      let both : Some x ≡ Some g = sym (slice_get-push fs x) ∙ ap (slice_get (fs ++ x ∷ [])) (sym last) ∙ at in
      let same : x ≡ g = cc in
      ap (λ z. place_of same_guard z (fs ++ x ∷ [])) (sym same) ∙ place_new same_guard same_guard-sound same_guard-itself fs x new ∙ sym last
]

placed_all : (fs xs : List Guard) → ArePlaced fs → ArePlaced (with_all fs xs)
placed_all fs [] placed = placed
placed_all fs (x ∷ xs) placed = elim (cases_Bool (is_among same_guard x fs)) [
  | inl yes' ↦ rw yes' (placed_all fs xs placed)
  | inr no' ↦ rw no' (placed_all (fs ++ x ∷ []) xs (placed_push fs x placed no'))
]

pub formulas_placed : (rules : List Rule) (guards : List Guard) → ArePlaced (formulas rules guards)
formulas_placed rules guards = placed_all [] (flat_map formulas_of (map (λ r. r.guard) rules ++ guards)) (λ i g at. cc)

pub guards_placed : (guards : List Guard) → ArePlaced (different same_guard guards)
guards_placed guards = placed_all [] guards (λ i g at. cc)

-- what is numbered in two parts is what is numbered at once
in_list : (gs : List Guard) → formulas_in (guards_of gs) ≡ flat_map formulas_of gs
in_list [] = refl
in_list (g ∷ gs) = ap (λ z. formulas_of g ++ z) (in_list gs)

pub formulas_numbered : (rules : List Rule) (guards : List Guard) → with_all (with_all [] (formulas_in (guards_of (map (λ r. r.guard) rules)))) (formulas_in (guards_of guards)) ≡ formulas rules guards
formulas_numbered rules guards =
    let outer : List Guard = map (λ r. r.guard) rules in
    sym (with_all-append [] (formulas_in (guards_of outer)) (formulas_in (guards_of guards)))
    ∙ ap (with_all []) (ap (λ z. z ++ formulas_in (guards_of guards)) (in_list outer) ∙ ap (λ z. flat_map formulas_of outer ++ z) (in_list guards) ∙ sym (flat_map-append formulas_of outer guards))

-- formula by formula
flat_numbered : {X : Type 0} (f : ℕ → Kept → List X) (F : Guard → List X) (kept : Guard → Kept) (at : Guard → ℕ) (gs : List Guard) (i : ℕ)
    → ((j : ℕ) (g : Guard) → slice_get gs j ≡ Some g → at g ≡ i + j) → ((g : Guard) → Contains gs g → F g ≡ f (at g) (kept g)) → flat_map F gs ≡ by_number f i (map kept gs)
flat_numbered f F kept at [] i places same = refl
flat_numbered f F kept at (g ∷ gs) i places same =
    let here : at g ≡ i = places 0 g refl ∙ omega arith in
    let first : F g ≡ f i (kept g) = same g (Contains-here g g gs refl) ∙ ap (λ k. f k (kept g)) here in
    let rest = flat_numbered f F kept at gs (i + 1) (λ j h is. places (suc j) h is ∙ omega arith) (λ h is. same h (Contains-behind h g gs is)) in
    ap (λ z. z ++ flat_map F gs) first ∙ ap (λ z. f i (kept g) ++ z) rest

module _ (rules : List Rule) (guards : List Guard) (n : ℕ) where
  abbrev fs : List Guard
  fs = formulas rules guards

  abbrev at : Guard → ℕ
  at g = atom_of rules guards n g

  pub same_atom : (g : Guard) → HasNumber n fs g → at g ≡ atom_in n fs g
  same_atom always is = atom_for-formula rules guards n always is
  same_atom (atom a) is = refl
  same_atom (all gs) is = atom_for-formula rules guards n (all gs) is
  same_atom (any gs) is = atom_for-formula rules guards n (any gs) is
  same_atom (parent g) is = atom_for-formula rules guards n (parent g) is
  same_atom (ancestor g) is = atom_for-formula rules guards n (ancestor g) is
  same_atom (child g) is = atom_for-formula rules guards n (child g) is
  same_atom (descendant g) is = atom_for-formula rules guards n (descendant g) is
  same_atom (somewhere g) is = atom_for-formula rules guards n (somewhere g) is

  pub same_atoms : (gs : Guards) → HaveNumbers n fs gs → map at (parts gs) ≡ map (atom_in n fs) (parts gs)
  same_atoms no_guards is = refl
  same_atoms (guard g gs) is = let first = same_atom g is.0 in let rest = same_atoms gs is.1 in λ i. first i ∷ rest i

  needing_parts : (x : ℕ) (gs : List Guard) → ◌≡◌ {A = List Local} (map (λ g. record { needs = at g ∷ []; gives = x; stmt = None }) gs) (needing_each x (map at gs))
  needing_parts x [] = refl
  needing_parts x (g ∷ gs) = ap (λ (z : List Local). record { needs = at g ∷ []; gives = x; stmt = None } ∷ z) (needing_parts x gs)

  locals_same : (g : Guard) → PartsHaveNumbers n fs g → IsFormula g → formula_locals rules guards n g ≡ key_locals (at g) (kept_of (atom_in n fs) g)
  locals_same always k f = refl
  locals_same (atom a) k f = absurd (f a refl)
  locals_same (all gs) k f = ap (λ z. locals_by (at (all gs)) All z) (same_atoms gs k)
  locals_same (any gs) k f = needing_parts (at (any gs)) (parts gs) ∙ ap (needing_each (at (any gs))) (same_atoms gs k)
  locals_same (parent g) k f = refl
  locals_same (ancestor g) k f = refl
  locals_same (child g) k f = refl
  locals_same (descendant g) k f = refl
  locals_same (somewhere g) k f = ap (λ a. needing_each (at (somewhere g)) (a ∷ [])) (same_atom g k)

  ups_same : (g : Guard) → PartsHaveNumbers n fs g → IsFormula g → formula_ups rules guards n g ≡ key_ups (at g) (kept_of (atom_in n fs) g)
  ups_same always k f = refl
  ups_same (atom a) k f = absurd (f a refl)
  ups_same (all gs) k f = refl
  ups_same (any gs) k f = refl
  ups_same (parent g) k f = ap (λ a. ups_by (at (parent g)) Parent (a ∷ [])) (same_atom g k)
  ups_same (ancestor g) k f = ap (λ a. ups_by (at (ancestor g)) Ancestor (a ∷ [])) (same_atom g k)
  ups_same (child g) k f = refl
  ups_same (descendant g) k f = refl
  ups_same (somewhere g) k f = refl

  downs_same : (g : Guard) → PartsHaveNumbers n fs g → IsFormula g → formula_downs rules guards n g ≡ key_downs (at g) (kept_of (atom_in n fs) g)
  downs_same always k f = refl
  downs_same (atom a) k f = absurd (f a refl)
  downs_same (all gs) k f = refl
  downs_same (any gs) k f = refl
  downs_same (parent g) k f = refl
  downs_same (ancestor g) k f = refl
  downs_same (child g) k f = ap (λ a. downs_by (at (child g)) Child (a ∷ [])) (same_atom g k)
  downs_same (descendant g) k f = ap (λ a. downs_by (at (descendant g)) Descendant (a ∷ [])) (same_atom g k)
  downs_same (somewhere g) k f = refl

  -- a formula that is listed has its place as its number
  formula_at : (g : Guard) → Contains fs g → IsFormula g → at g ≡ n + place_of same_guard g fs
  formula_at always is f = atom_for-formula rules guards n always is
  formula_at (atom a) is f = absurd (f a refl)
  formula_at (all gs) is f = atom_for-formula rules guards n (all gs) is
  formula_at (any gs) is f = atom_for-formula rules guards n (any gs) is
  formula_at (parent g) is f = atom_for-formula rules guards n (parent g) is
  formula_at (ancestor g) is f = atom_for-formula rules guards n (ancestor g) is
  formula_at (child g) is f = atom_for-formula rules guards n (child g) is
  formula_at (descendant g) is f = atom_for-formula rules guards n (descendant g) is
  formula_at (somewhere g) is f = atom_for-formula rules guards n (somewhere g) is

  module _ (keys : List Key) (table : IsTable n fs keys) where
    by_keys : {X : Type 0} (f : ℕ → Kept → List X) (F : Guard → List X) → ((g : Guard) → PartsHaveNumbers n fs g → IsFormula g → F g ≡ f (at g) (kept_of (atom_in n fs) g)) → flat_map F fs ≡ by_number f n (map stored keys)
    by_keys f F same =
        flat_numbered f F (kept_of (atom_in n fs)) at fs n
        (λ j g is. let there = Contains-at fs j g is in formula_at g there (table.formulas g there) ∙ ap (λ k. n + k) (formulas_placed rules guards j g is))
        (λ g is. same g (table.closed g is) (table.formulas g is))
        ∙ ap (by_number f n) (sym table.are)

    pub locals_by_keys : flat_map (formula_locals rules guards n) fs ≡ by_number key_locals n (map stored keys)
    locals_by_keys = by_keys key_locals (formula_locals rules guards n) locals_same

    pub ups_by_keys : flat_map (formula_ups rules guards n) fs ≡ by_number key_ups n (map stored keys)
    ups_by_keys = by_keys key_ups (formula_ups rules guards n) ups_same

    pub downs_by_keys : flat_map (formula_downs rules guards n) fs ≡ by_number key_downs n (map stored keys)
    downs_by_keys = by_keys key_downs (formula_downs rules guards n) downs_same
