-- What the atoms of a simple tree say, and that each rule of the system says what is true.
use Rattle.std.proofs.Common.{◌≡◌, ℕ, ◌<◌, List, [], ◌∷◌, ◌++◌, length, take, map, Contains, refl, sym, ap, ◌∙◌, subst, inl, inr, arith, append_assoc, length-append}
use Rattle.std.proofs.lemmas.List.{take-append-le}
use Rattle.std.proofs.Math.Seq.{take-length}
use Rattle.tp_base.proofs.ClassLemmas.{Contains-union_of}
use Rattle.tp_base.proofs.Rising.{Contains-here, Contains-behind, Contains-cons, Contains-none}
use Rattle.tree_sem.specs.Trees.{LabelTree}
use Rattle.tree_sem.proofs.NodeLemmas.{map-Contains}
use Rattle.simple_core.specs.declared.rules.Local.{Local}
use Rattle.simple_core.specs.declared.rules.Link.{Link}
use Rattle.guard_sem.specs.Guards.{Guard, always, atom, all, any, parent, ancestor, child, descendant, somewhere, Guards, no_guards, guard, parts}
use Rattle.guard_sem.specs.Holding.{Holds, HoldAll, HoldsOne}
use Rattle.guard_sem.specs.declared.rules.Rule.{Rule}
use Rattle.guard_simplify.specs.Auxiliaries.{formula}
use Rattle.guard_simplify.specs.Simplified.{atom_of, formula_locals, formula_ups, formula_downs}
use Rattle.guard_simplify.specs.Law.{IsFor}
use Rattle.guard_simplify.proofs.Adding.{link_of}
use Rattle.tree_sem.specs.Nodes.{IsNode, HasAtom}

module _ (rules : List Rule) (guards : List Guard) (n : ℕ) where
  abbrev at : Guard → ℕ
  at g = atom_of rules guards n g

  -- the formulas in a guard have atoms, and its own atoms are of the table
  abbrev mutual
    pub Known : Guard → Type 0
    Known always = IsFor rules guards n (at always) (formula always)
    Known (atom a) = a < n
    Known (all gs) = IsFor rules guards n (at (all gs)) (formula (all gs)) × KnownAll gs
    Known (any gs) = IsFor rules guards n (at (any gs)) (formula (any gs)) × KnownAll gs
    Known (parent g) = IsFor rules guards n (at (parent g)) (formula (parent g)) × Known g
    Known (ancestor g) = IsFor rules guards n (at (ancestor g)) (formula (ancestor g)) × Known g
    Known (child g) = IsFor rules guards n (at (child g)) (formula (child g)) × Known g
    Known (descendant g) = IsFor rules guards n (at (descendant g)) (formula (descendant g)) × Known g
    Known (somewhere g) = IsFor rules guards n (at (somewhere g)) (formula (somewhere g)) × Known g

    pub KnownAll : Guards → Type 0
    KnownAll no_guards = Unit {0}
    KnownAll (guard g gs) = Known g × KnownAll gs

  -- In a tree t, with M a w for what the atom a says of the node at w: for atoms of the table and of formulas it is this.
  module _ (t : LabelTree) (M : ℕ → List ℕ → Type 0) (plain : (a : ℕ) (w : List ℕ) → a < n → M a w → HasAtom t w a)
      (says : (a : ℕ) (w : List ℕ) (g : Guard) → IsFor rules guards n a (formula g) → M a w → Holds t w g) where
    pub said : (g : Guard) → Known g → (w : List ℕ) → M (at g) w → Holds t w g
    said always known w m = says (at always) w always known m
    said (atom a) known w m = plain a w known m
    said (all gs) known w m = says (at (all gs)) w (all gs) known.0 m
    said (any gs) known w m = says (at (any gs)) w (any gs) known.0 m
    said (parent g) known w m = says (at (parent g)) w (parent g) known.0 m
    said (ancestor g) known w m = says (at (ancestor g)) w (ancestor g) known.0 m
    said (child g) known w m = says (at (child g)) w (child g) known.0 m
    said (descendant g) known w m = says (at (descendant g)) w (descendant g) known.0 m
    said (somewhere g) known w m = says (at (somewhere g)) w (somewhere g) known.0 m

    all_said : (gs : Guards) → KnownAll gs → (w : List ℕ) → ((a : ℕ) → Contains (map at (parts gs)) a → M a w) → HoldAll t w gs
    all_said no_guards known w m = tt
    all_said (guard g gs) known w m =
        (said g known.0 w (m (at g) (Contains-here (at g) (at g) (map at (parts gs)) refl)), all_said gs known.1 w (λ a is. m a (Contains-behind a (at g) (map at (parts gs)) is)))

    one_said : (gs : Guards) → KnownAll gs → (w : List ℕ) (g : Guard) → Contains (parts gs) g → M (at g) w → HoldsOne t w gs
    one_said no_guards known w g is m = absurd (Contains-none g is)
    one_said (guard h gs) known w g is m = elim ((Contains-cons g h (parts gs)).0 is) [
      | inl same ↦ inl (said h known.0 w (subst (λ z. M (at z) w) same m))
      | inr behind ↦ inr (one_said gs known.1 w g behind m)
    ]

    only : {X : Type 0} (x y : X) → Contains (x ∷ []) y → y ≡ x
    only x y is = elim ((Contains-cons y x []).0 is) [ inl same ↦ same | inr none ↦ absurd (Contains-none y none) ]

    -- what a rule of a formula gives
    pub local_said : (f : Guard) → Known f → (r : Local) → Contains (formula_locals rules guards n f) r → (w : List ℕ) → IsNode t w → ((a : ℕ) → Contains r.needs a → M a w) → (r.gives ≡ at f) × Holds t w f
    local_said always known r is w node m = (ap (λ (z : Local). z.gives) (only _ r is), node)
    local_said (atom a) known r is w node m = absurd (Contains-none r is)
    local_said (all gs) known r is w node m =
        let same = only _ r is in
        (ap (λ (z : Local). z.gives) same, (node, all_said gs known.1 w (λ a listed. m a (subst (λ (z : Local). Contains z.needs a) (sym same) ((Contains-union_of [] (map at (parts gs)) a).1 (inr listed))))))
    local_said (any gs) known r is w node m =
        let of = map-Contains _ (parts gs) r is in
        (ap (λ (z : Local). z.gives) of.2, one_said gs known.1 w of.0 of.1 (m (at of.0) (subst (λ (z : Local). Contains z.needs (at of.0)) (sym of.2) (Contains-here (at of.0) (at of.0) [] refl))))
    local_said (parent g) known r is w node m = absurd (Contains-none r is)
    local_said (ancestor g) known r is w node m = absurd (Contains-none r is)
    local_said (child g) known r is w node m = absurd (Contains-none r is)
    local_said (descendant g) known r is w node m = absurd (Contains-none r is)
    local_said (somewhere g) known r is w node m =
        let same = only _ r is in
        (ap (λ (z : Local). z.gives) same, (node, w, said g known.1 w (m (at g) (subst (λ (z : Local). Contains z.needs (at g)) (sym same) (Contains-here (at g) (at g) [] refl)))))

    pub up_said : (f : Guard) → Known f → (l : Link) → Contains (formula_ups rules guards n f) l → (p : List ℕ) (k : ℕ) → IsNode t (p ++ k ∷ []) → M l.from p → (l.to ≡ at f) × Holds t (p ++ k ∷ []) f
    up_said always known l is p k node m = absurd (Contains-none l is)
    up_said (atom a) known l is p k node m = absurd (Contains-none l is)
    up_said (all gs) known l is p k node m = absurd (Contains-none l is)
    up_said (any gs) known l is p k node m = absurd (Contains-none l is)
    up_said (parent g) known l is p k node m =
        let same = only _ l is in
        (ap (λ (z : Link). z.to) same, (node, k, p, refl, said g known.1 p (subst (λ (z : Link). M z.from p) same m)))
    up_said (ancestor g) known l is p k node m =
        let long = length-append p (k ∷ []) in
        elim ((Contains-cons l (link_of (at g) (at (ancestor g))) (link_of (at (ancestor g)) (at (ancestor g)) ∷ [])).0 is) [
          | inl same ↦
              let front : take (length p) (p ++ k ∷ []) ≡ p = take-append-le (length p) p (k ∷ []) (omega arith) ∙ take-length p in
              (ap (λ (z : Link). z.to) same, (node, length p, omega arith, rw front (said g known.1 p (subst (λ (z : Link). M z.from p) same m))))
          | inr second ↦
              let same = only (link_of (at (ancestor g)) (at (ancestor g))) l second in
              let above = said (ancestor g) known p (subst (λ (z : Link). M z.from p) same m) in
              let front : take above.1 (p ++ k ∷ []) ≡ take above.1 p = take-append-le above.1 p (k ∷ []) (omega (arith, above.2)) in
              (ap (λ (z : Link). z.to) same, (node, above.1, omega (arith, above.2), rw front above.3))
        ]
    up_said (child g) known l is p k node m = absurd (Contains-none l is)
    up_said (descendant g) known l is p k node m = absurd (Contains-none l is)
    up_said (somewhere g) known l is p k node m =
        let same = only _ l is in
        let above = said (somewhere g) known p (subst (λ (z : Link). M z.from p) same m) in
        (ap (λ (z : Link). z.to) same, (node, above.1, above.2))

    pub down_said : (f : Guard) → Known f → (l : Link) → Contains (formula_downs rules guards n f) l → (w : List ℕ) (k : ℕ) → IsNode t w → M l.from (w ++ k ∷ []) → (l.to ≡ at f) × Holds t w f
    down_said always known l is w k node m = absurd (Contains-none l is)
    down_said (atom a) known l is w k node m = absurd (Contains-none l is)
    down_said (all gs) known l is w k node m = absurd (Contains-none l is)
    down_said (any gs) known l is w k node m = absurd (Contains-none l is)
    down_said (parent g) known l is w k node m = absurd (Contains-none l is)
    down_said (ancestor g) known l is w k node m = absurd (Contains-none l is)
    down_said (child g) known l is w k node m =
        let same = only _ l is in
        (ap (λ (z : Link). z.to) same, (k, said g known.1 (w ++ k ∷ []) (subst (λ (z : Link). M z.from (w ++ k ∷ [])) same m)))
    down_said (descendant g) known l is w k node m = elim ((Contains-cons l (link_of (at g) (at (descendant g))) (link_of (at (descendant g)) (at (descendant g)) ∷ [])).0 is) [
      | inl same ↦ (ap (λ (z : Link). z.to) same, (k, [], said g known.1 (w ++ k ∷ []) (subst (λ (z : Link). M z.from (w ++ k ∷ [])) same m)))
      | inr second ↦
          let same = only (link_of (at (descendant g)) (at (descendant g))) l second in
          let below = said (descendant g) known (w ++ k ∷ []) (subst (λ (z : Link). M z.from (w ++ k ∷ [])) same m) in
          (ap (λ (z : Link). z.to) same, (k, below.0 ∷ below.1, subst (λ z. Holds t z g) (append_assoc w (k ∷ []) (below.0 ∷ below.1)) below.2))
    ]
    down_said (somewhere g) known l is w k node m =
        let same = only _ l is in
        let below = said (somewhere g) known (w ++ k ∷ []) (subst (λ (z : Link). M z.from (w ++ k ∷ [])) same m) in
        (ap (λ (z : Link). z.to) same, (node, below.1, below.2))
