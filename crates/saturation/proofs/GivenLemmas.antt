-- The atoms that some kind or rule gives.
use Rattle.std.proofs.Common.{◌≡◌, ℕ, zero, suc, ◌<◌, Bool, false, ◌==◌, List, [], ◌∷◌, ◌++◌, map, All, Contains, unwrap_or, option_map, slice_get, refl, sym, ap, subst, ◌∙◌, inl, inr}
use Rattle.std.specs.List.{filter, flat_map}
use Rattle.std.proofs.lemmas.Bool.{eqb-true, false_from_ne_true}
use Rattle.std.proofs.lemmas.List.Elements.{All-contains, All-head, Contains-append_left, Contains-append_right, Contains-append_cases}
use Rattle.tp_base.specs.Classes.{has_class}
use Rattle.tp_base.specs.declared.atoms.TheConstants.{MOST_ATOMS}
use Rattle.tp_base.proofs.ClassLemmas.{Contains-has_class}
use Rattle.tp_base.proofs.Rising.{Contains-here, Contains-behind, Contains-none}
use Rattle.tree_sem.proofs.NodeLemmas.{Contains-map, map-Contains}
use Rattle.class_diagrams.specs.Trees.{leaf}
use Rattle.simple_core.specs.declared.rules.Local.{Local}
use Rattle.simple_core.specs.declared.rules.Link.{Link}
use Rattle.simple_core.specs.declared.rules.Kind.{Kind}
use Rattle.simple_core.specs.declared.system.System.{System}
use Rattle.simple_core.specs.Systems.{kind_label, IsAtom, IsSound}
use Rattle.simple_core.proofs.RoundLemmas.{is-set_of, set_of-is}
use Rattle.simple_core.proofs.Members.{flat_map-Contains}
use Rattle.pushdown_sym.specs.Terms.{CellTrees, terms, disjunction, next_tree}
use Rattle.pushdown_sym.specs.Rounds.{cell, given_atoms}

pub filter_none : {X : Type 0} (q : X → Bool) (xs : List X) → ((x : X) → Contains xs x → q x ≡ false) → filter q xs ≡ []
filter_none q [] none = refl
filter_none q (x ∷ xs) none = rw (none x (Contains-here x x xs refl)) (filter_none q xs (λ y there. none y (Contains-behind y x xs there)))

label_listed : (kinds : List Kind) (j a : ℕ) → Contains (unwrap_or (option_map (λ (k : Kind). k.label) (slice_get kinds j)) []) a → Contains (flat_map (λ (k : Kind). k.label) kinds) a
label_listed [] j a there = absurd (Contains-none a there)
label_listed (k ∷ kinds) zero a there = Contains-append_left k.label (flat_map (λ (k : Kind). k.label) kinds) a there
label_listed (k ∷ kinds) (suc j) a there = Contains-append_right k.label (flat_map (λ (k : Kind). k.label) kinds) a (label_listed kinds j a there)

-- what some rule gives is among the given atoms
module _ (s : System) where
  pub given_local : (r : Local) → Contains s.local r → Contains (given_atoms s) r.gives
  given_local r listed =
      let a = flat_map (λ (k : Kind). k.label) s.kinds in
      let b = map (λ (r : Local). r.gives) s.local in
      let c = map (λ (l : Link). l.to) s.up in
      let d = map (λ (l : Link). l.to) s.down in
      is-set_of (a ++ b ++ c ++ d) r.gives (Contains-append_left (a ++ b ++ c) d r.gives (Contains-append_left (a ++ b) c r.gives (Contains-append_right a b r.gives (Contains-map (λ (r : Local). r.gives) s.local r listed))))

  pub given_up : (l : Link) → Contains s.up l → Contains (given_atoms s) l.to
  given_up l listed =
      let a = flat_map (λ (k : Kind). k.label) s.kinds in
      let b = map (λ (r : Local). r.gives) s.local in
      let c = map (λ (l : Link). l.to) s.up in
      let d = map (λ (l : Link). l.to) s.down in
      is-set_of (a ++ b ++ c ++ d) l.to (Contains-append_left (a ++ b ++ c) d l.to (Contains-append_right (a ++ b) c l.to (Contains-map (λ (l : Link). l.to) s.up l listed)))

  pub given_down : (l : Link) → Contains s.down l → Contains (given_atoms s) l.to
  given_down l listed =
      let a = flat_map (λ (k : Kind). k.label) s.kinds in
      let b = map (λ (r : Local). r.gives) s.local in
      let c = map (λ (l : Link). l.to) s.up in
      let d = map (λ (l : Link). l.to) s.down in
      is-set_of (a ++ b ++ c ++ d) l.to (Contains-append_right (a ++ b ++ c) d l.to (Contains-map (λ (l : Link). l.to) s.down l listed))

  pub given_label : (j a : ℕ) → Contains (kind_label s j) a → Contains (given_atoms s) a
  given_label j a there =
      let a1 = flat_map (λ (k : Kind). k.label) s.kinds in
      let b = map (λ (r : Local). r.gives) s.local in
      let c = map (λ (l : Link). l.to) s.up in
      let d = map (λ (l : Link). l.to) s.down in
      is-set_of (a1 ++ b ++ c ++ d) a (Contains-append_left (a1 ++ b ++ c) d a (Contains-append_left (a1 ++ b) c a (Contains-append_left a1 b a (label_listed s.kinds j a there))))

  module _ (now : CellTrees) (j a : ℕ) (none : Contains (given_atoms s) a → ⊥) where
    other : (b : ℕ) → Contains (given_atoms s) b → (b == a) ≡ false
    other b there = false_from_ne_true (b == a) (λ same. none (subst (λ c. Contains (given_atoms s) c) (eqb-true b a same) there))

    no_terms : terms s now j a ≡ []
    no_terms =
        rw (
          filter_none (λ (r : Local). r.gives == a) s.local (λ r listed. other r.gives (given_local r listed)),
          filter_none (λ (l : Link). l.to == a) s.up (λ l listed. other l.to (given_up l listed)),
          filter_none (λ (l : Link). l.to == a) s.down (λ l listed. other l.to (given_down l listed)),
        ) refl

    pub never_given : next_tree s now j a ≡ now j a
    unfolding next_tree
    never_given = ap (disjunction (now j a)) no_terms

-- an atom that no rule gives never comes
pub never_there : (s : System) (k j a : ℕ) → (Contains (given_atoms s) a → ⊥) → cell s k j a ≡ leaf false
never_there s zero j a none = ap leaf (false_from_ne_true (has_class a (kind_label s j)) (λ there. none (given_label s j a (Contains-has_class a (kind_label s j) there))))
never_there s (suc k) j a none = never_given s (cell s k) j a none ∙ never_there s k j a none

-- they are atoms
pub atoms_below : (s : System) → IsSound s → (a : ℕ) → Contains (given_atoms s) a → a < MOST_ATOMS
atoms_below s sound a there =
    let labels = flat_map (λ (k : Kind). k.label) s.kinds in
    let gives = map (λ (r : Local). r.gives) s.local in
    let ups = map (λ (l : Link). l.to) s.up in
    let downs = map (λ (l : Link). l.to) s.down in
    elim (Contains-append_cases (labels ++ gives ++ ups) downs a (set_of-is (labels ++ gives ++ ups ++ downs) a there)) [
      | inr down ↦
          let l = map-Contains (λ (l : Link). l.to) s.down a down in
          subst IsAtom (sym l.2) (All-contains (λ (l : Link). IsAtom l.from × IsAtom l.to) s.down l.0 sound.down_atoms l.1).1
      | inl before ↦ elim (Contains-append_cases (labels ++ gives) ups a before) [
        | inr up ↦
            let l = map-Contains (λ (l : Link). l.to) s.up a up in
            subst IsAtom (sym l.2) (All-contains (λ (l : Link). IsAtom l.from × IsAtom l.to) s.up l.0 sound.up_atoms l.1).1
        | inl first ↦ elim (Contains-append_cases labels gives a first) [
          | inr given ↦
              let r = map-Contains (λ (r : Local). r.gives) s.local a given in
              subst IsAtom (sym r.2) (All-head IsAtom r.0.gives r.0.needs (All-contains (λ (r : Local). All IsAtom (r.gives ∷ r.needs)) s.local r.0 sound.local_atoms r.1))
          | inl label ↦
              let k = flat_map-Contains (λ (k : Kind). k.label) s.kinds a label in
              All-contains IsAtom k.0.label a (All-contains (λ (k : Kind). All IsAtom k.label) s.kinds k.0 sound.kind_atoms k.1) k.2
        ]
      ]
    ]
