-- A cell that no rule may change in the first round stays as it is.
use Rattle.std.proofs.Common.{◌≡◌, ℕ, ◌<◌, true, false, ◌==◌, List, [], ◌∷◌, ◌++◌, map, filter, length, All, Contains, refl, sym, ap, subst, ◌∙◌, inl, inr}
use Rattle.std.proofs.lemmas.Bool.{cases_Bool, eqb-true, false_from_ne_true}
use Rattle.std.proofs.lemmas.List.{append-nil}
use Rattle.std.proofs.lemmas.List.Elements.{All-head, All-tail, All-append}
use Rattle.tp_base.specs.Classes.{has_class}
use Rattle.tp_base.proofs.ClassLemmas.{Contains-has_class}
use Rattle.tp_base.proofs.Rising.{Contains-here, All-from_Contains}
use Rattle.tp_base.proofs.Lists.{flat_map-Contains}
use Rattle.tree_sem.proofs.NodeLemmas.{map-Contains}
use Rattle.class_diagrams.specs.Trees.{Tree, leaf, tand, tor}
use Rattle.simple_core.specs.declared.rules.Local.{Local}
use Rattle.diagram_ops.specs.Compositions.{tcompose}
use Rattle.simple_core.specs.declared.rules.Link.{Link}
use Rattle.simple_core.specs.declared.rules.Spawn.{Spawn}
use Rattle.simple_core.specs.declared.system.System.{System}
use Rattle.simple_core.specs.Systems.{kind_label}
use Rattle.simple_core.proofs.Members.{filter-Contains}
use Rattle.pushdown_sym.specs.Terms.{CellTrees, Term, local_term, local_terms, up_terms, down_term, down_terms, terms, conjunction, disjunction, next_tree}
use Rattle.pushdown_sym.specs.Rounds.{cell}
use Rattle.pushdown_sym.proofs.LinkLemmas.{tor-false, tand-false}
use Rattle.saturation.specs.Waking.{CellName}
use Rattle.saturation.specs.Starting.{AreFirst}
use Rattle.saturation.proofs.GivenLemmas.{filter_none}

-- terms that are false add nothing
nothing_added : (sofar : Tree) (ts : List Term) → All (λ t. t.tree ≡ leaf false) ts → disjunction sofar ts ≡ sofar
nothing_added sofar [] none = refl
nothing_added sofar (t ∷ ts) none =
    ap (λ (z : Tree). disjunction z ts) (ap (tor sofar) (All-head (λ (t : Term). t.tree ≡ leaf false) t ts none) ∙ tor-false sofar)
    ∙ nothing_added sofar ts (All-tail (λ (t : Term). t.tree ≡ leaf false) t ts none)

stays_false : (now : CellTrees) (j : ℕ) (needs : List ℕ) → conjunction now j (leaf false) needs ≡ leaf false
stays_false now j [] = refl
stays_false now j (b ∷ needs) = ap (λ (z : Tree). conjunction now j z needs) (tand-false (now j b)) ∙ stays_false now j needs

true_and_false : tand (leaf true) (leaf false) ≡ leaf false
unfolding tand
true_and_false = refl

-- a rule whose first atom is missing gives nothing
missing_first : (now : CellTrees) (j b : ℕ) (needs : List ℕ) → now j b ≡ leaf false → conjunction now j (leaf true) (b ∷ needs) ≡ leaf false
missing_first now j b needs none =
    ap (λ (z : Tree). conjunction now j z needs) (ap (tand (leaf true)) none ∙ true_and_false)
    ∙ stays_false now j needs

module _ (s : System) (todo : List CellName) (first : AreFirst s todo) (j a : ℕ) (kind : j < length s.kinds) (none : Contains {X = CellName} todo (j, a) → ⊥) where
  no_up : up_terms s a ≡ []
  no_up = rw (filter_none (λ (l : Link). l.to == a) s.up (λ l listed. false_from_ne_true (l.to == a) (λ same. none (subst (λ z. Contains {X = CellName} todo (j, z)) (eqb-true l.to a same) (first.up l listed j kind))))) refl

  -- a child of a kind or by an atom that isn't there adds nothing
  down_false : (l : Link) → Contains s.down l → l.to ≡ a → (c : Spawn) → Contains s.child c → (down_term (cell s 0) j l c).tree ≡ leaf false
  down_false l listed to c in_child = elim (cases_Bool (has_class c.needs (kind_label s j))) [
    | inr missing ↦ ap (λ (t : Tree). tand t (tcompose (cell s 0 c.kind l.from) (cell s 0 j))) (ap leaf missing) ∙ tand-false (tcompose (cell s 0 c.kind l.from) (cell s 0 j))
    | inl maker ↦ elim (cases_Bool (has_class l.from (kind_label s c.kind))) [
      | inl child ↦ absurd (none (subst (λ z. Contains {X = CellName} todo (j, z)) to
          (first.down l listed c in_child j kind (Contains-has_class c.needs (kind_label s j) maker) (Contains-has_class l.from (kind_label s c.kind) child))))
      | inr missing ↦
          ap (λ (t : Tree). tand (cell s 0 j c.needs) (tcompose t (cell s 0 j))) (ap leaf missing)
          ∙ ap (λ (t : Tree). tand t (leaf false)) (ap leaf maker)
          ∙ true_and_false
    ]
  ]

  downs_false : All (λ (t : Term). t.tree ≡ leaf false) (down_terms s (cell s 0) j a)
  downs_false = All-from_Contains (λ (t : Term). t.tree ≡ leaf false) (down_terms s (cell s 0) j a) (λ t there.
      let found = flat_map-Contains (λ (l : Link). map (down_term (cell s 0) j l) s.child) (filter (λ (l : Link). l.to == a) s.down) t there in
      let link = filter-Contains (λ (l : Link). l.to == a) s.down found.0 found.1 in
      let child = map-Contains (down_term (cell s 0) j found.0) s.child t found.2 in
      ap (λ (u : Term). u.tree) child.2 ∙ down_false found.0 link.0 (eqb-true found.0.to a link.1) child.0 child.1)

  is_false : (r : Local) → Contains s.local r → r.gives ≡ a → (needs : List ℕ) → needs ≡ r.needs → conjunction (cell s 0) j (leaf true) needs ≡ leaf false
  is_false r listed gives [] same = absurd (none (subst (λ z. Contains {X = CellName} todo (j, z)) gives (first.bare r listed (sym same) j kind)))
  is_false r listed gives (b ∷ needs) same = elim (cases_Bool (has_class b (kind_label s j))) [
    | inl there ↦ absurd (none (subst (λ z. Contains {X = CellName} todo (j, z)) gives
        (first.needing r listed b j (subst (λ (z : List ℕ). Contains z b) same (Contains-here b b needs refl)) kind (Contains-has_class b (kind_label s j) there))))
    | inr missing ↦ missing_first (cell s 0) j b needs (ap leaf missing)
  ]

  local_false : All (λ (t : Term). t.tree ≡ leaf false) (local_terms s (cell s 0) j a)
  local_false = All-from_Contains (λ (t : Term). t.tree ≡ leaf false) (local_terms s (cell s 0) j a) (λ t there.
      let found = map-Contains (local_term (cell s 0) j) (filter (λ (r : Local). r.gives == a) s.local) t there in
      let kept = filter-Contains (λ (r : Local). r.gives == a) s.local found.0 found.1 in
      ap (λ (u : Term). u.tree) found.2 ∙ is_false found.0 kept.0 (eqb-true found.0.gives a kept.1) found.0.needs refl)

  no_others : terms s (cell s 0) j a ≡ local_terms s (cell s 0) j a ++ down_terms s (cell s 0) j a
  no_others =
      ap (λ (ts : List Term). local_terms s (cell s 0) j a ++ ts ++ down_terms s (cell s 0) j a) no_up
      ∙ ap (λ (ts : List Term). ts ++ down_terms s (cell s 0) j a) (append-nil (local_terms s (cell s 0) j a))

  pub idle : cell s 1 j a ≡ cell s 0 j a
  unfolding next_tree
  idle =
      ap (disjunction (cell s 0 j a)) no_others
      ∙ nothing_added (cell s 0 j a) (local_terms s (cell s 0) j a ++ down_terms s (cell s 0) j a)
      (All-append (λ (t : Term). t.tree ≡ leaf false) (local_terms s (cell s 0) j a) (down_terms s (cell s 0) j a) local_false downs_false)
