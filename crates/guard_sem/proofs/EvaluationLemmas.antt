-- The nodes where a guard holds, from the nodes where its parts hold.
use Rattle.std.proofs.Common.{◌≡◌, ◌↔◌, ◌⊎◌, ℕ, ◌+◌, ◌<◌, Bool, List, [], ◌∷◌, ◌++◌, get_or, length, take, Result, Ok, Err, IfOk, sym, ap, ◌∙◌, subst, inl, inr}
use Rattle.std.proofs.lemmas.List.{take_more}
use Rattle.tp_base.specs.declared.no_memory.NoMemory.{NoMemory}
use Rattle.tree_sem.specs.Trees.{LabelTree}
use Rattle.tree_sem.specs.Nodes.{IsNode, HasAtoms}
use Rattle.tree_sem.proofs.NodeLemmas.{HasAtom-node, HasAtoms-none}
use Rattle.node_marks.specs.Marks.{IsMarked, IsSetOf, HasParentIn, HasAncestorIn, HasChildIn, HasDescendantIn}
use Rattle.guard_sem.specs.Guards.{Guard, atom, parent, ancestor, child, descendant, somewhere, at_or_below, guards_of}
use Rattle.guard_sem.specs.Holding.{Holds, HoldAll, HoldsOne}
use Rattle.guard_sem.proofs.SelectorLemmas.{HasAtoms-more, HasAtoms-first}

-- a set by another test of its nodes
pub of_same : (t : LabelTree) (P Q : List ℕ → Type 0) → ((v : List ℕ) → P v ↔ Q v) → (r : Result (List Bool) NoMemory) → IfOk r (λ m. IsSetOf t m P) → IfOk r (λ m. IsSetOf t m Q)
of_same t P Q same (Ok m) is = λ v. (λ on. (same v).0 ((is v).0 on), λ q. (is v).1 ((same v).1 q))
of_same t P Q same (Err e) is = tt

module _ (t : LabelTree) (h : Guard) (r : Result (List Bool) NoMemory) where
  -- where the guard is known by an equation
  of_guard : (g : Guard) → h ≡ g → IfOk r (λ m. IsSetOf t m (λ v. Holds t v g)) → IfOk r (λ m. IsSetOf t m (λ v. Holds t v h))
  of_guard g same is = subst (λ k. IfOk r (λ m. IsSetOf t m (λ v. Holds t v k))) (sym same) is

  pub of_atom : (a : ℕ) → h ≡ atom a → IfOk r (λ m. IsSetOf t m (λ v. HasAtoms t v (a ∷ []))) → IfOk r (λ m. IsSetOf t m (λ v. Holds t v h))
  of_atom a same is = of_guard (atom a) same
      (of_same t (λ v. HasAtoms t v (a ∷ [])) (λ v. Holds t v (atom a)) (λ v. (λ fits. HasAtoms-first t v a [] fits, λ has. HasAtoms-more t v a [] has (HasAtoms-none t v (HasAtom-node t v a has)))) r is)

  module _ (g : Guard) (b : List Bool) (part : IsSetOf t b (λ v. Holds t v g)) where
    pub of_parent : h ≡ parent g → IfOk r (λ m. IsSetOf t m (λ v. IsNode t v × HasParentIn (IsMarked t b) v)) → IfOk r (λ m. IsSetOf t m (λ v. Holds t v h))
    of_parent same is = of_guard (parent g) same
        (of_same t (λ v. IsNode t v × HasParentIn (IsMarked t b) v) (λ v. Holds t v (parent g))
        (λ v. (λ p. (p.0, p.1.0, p.1.1, p.1.2, (part p.1.1).0 p.1.3), λ q. (q.0, (q.1, q.2, q.3, (part q.2).1 q.4)))) r is)

    pub of_ancestor : h ≡ ancestor g → IfOk r (λ m. IsSetOf t m (λ v. IsNode t v × HasAncestorIn (IsMarked t b) v)) → IfOk r (λ m. IsSetOf t m (λ v. Holds t v h))
    of_ancestor same is = of_guard (ancestor g) same
        (of_same t (λ v. IsNode t v × HasAncestorIn (IsMarked t b) v) (λ v. Holds t v (ancestor g))
        (λ v. (λ p. (p.0, p.1.0, p.1.1, (part (take p.1.0 v)).0 p.1.2), λ q. (q.0, (q.1, q.2, (part (take q.1 v)).1 q.3)))) r is)

    pub of_child : h ≡ child g → IfOk r (λ m. IsSetOf t m (HasChildIn (IsMarked t b))) → IfOk r (λ m. IsSetOf t m (λ v. Holds t v h))
    of_child same is = of_guard (child g) same
        (of_same t (HasChildIn (IsMarked t b)) (λ v. Holds t v (child g)) (λ v. (λ p. (p.0, (part (v ++ p.0 ∷ [])).0 p.1), λ q. (q.0, (part (v ++ q.0 ∷ [])).1 q.1))) r is)

    pub of_descendant : h ≡ descendant g → IfOk r (λ m. IsSetOf t m (HasDescendantIn (IsMarked t b))) → IfOk r (λ m. IsSetOf t m (λ v. Holds t v h))
    of_descendant same is = of_guard (descendant g) same
        (of_same t (HasDescendantIn (IsMarked t b)) (λ v. Holds t v (descendant g))
        (λ v. (λ p. (p.0, p.1, (part (v ++ p.0 ∷ p.1)).0 p.2), λ q. (q.0, q.1, (part (v ++ q.0 ∷ q.1)).1 q.2))) r is)

    pub of_somewhere : h ≡ somewhere g → IfOk r (λ m. IsSetOf t m (λ v. IsNode t v × (w : List ℕ) × IsMarked t b w)) → IfOk r (λ m. IsSetOf t m (λ v. Holds t v h))
    of_somewhere same is = of_guard (somewhere g) same
        (of_same t (λ v. IsNode t v × (w : List ℕ) × IsMarked t b w) (λ v. Holds t v (somewhere g))
        (λ v. (λ p. (p.0, p.1, (part p.1).0 p.2), λ q. (q.0, q.1, (part q.1).1 q.2))) r is)

    pub of_at_or_below : h ≡ at_or_below g → IfOk r (λ m. IsSetOf t m (λ v. IsMarked t b v ⊎ HasDescendantIn (IsMarked t b) v)) → IfOk r (λ m. IsSetOf t m (λ v. Holds t v h))
    of_at_or_below same is = of_guard (at_or_below g) same
        (of_same t (λ v. IsMarked t b v ⊎ HasDescendantIn (IsMarked t b) v) (λ v. Holds t v (at_or_below g))
        (λ v. (
          λ p. elim p [ inl at ↦ inl ((part v).0 at) | inr d ↦ inr (inl (d.0, d.1, (part (v ++ d.0 ∷ d.1)).0 d.2)) ],
          λ q. elim q [
            | inl at ↦ inl ((part v).1 at)
            | inr later ↦ elim later [ inl d ↦ inr (d.0, d.1, (part (v ++ d.0 ∷ d.1)).1 d.2) | inr none ↦ absurd none ]
          ],
        )) r is)

-- one guard more
module _ (t : LabelTree) (v : List ℕ) (g : Guard) where
  HoldAll-push : (gs : List Guard) → HoldAll t v (guards_of (gs ++ g ∷ [])) ↔ (HoldAll t v (guards_of gs) × Holds t v g)
  HoldAll-push [] = (λ h. (tt, h.0), λ h. (h.1, tt))
  HoldAll-push (f ∷ gs) = let rest = HoldAll-push gs in (λ h. let both = rest.0 h.1 in ((h.0, both.0), both.1), λ h. (h.0.0, rest.1 (h.0.1, h.1)))

  HoldsOne-push : (gs : List Guard) → HoldsOne t v (guards_of (gs ++ g ∷ [])) ↔ (HoldsOne t v (guards_of gs) ⊎ Holds t v g)
  HoldsOne-push [] = (λ h. elim h [ inl one ↦ inr one | inr none ↦ absurd none ], λ h. elim h [ inl none ↦ absurd none | inr one ↦ inl one ])
  HoldsOne-push (f ∷ gs) =
      let rest = HoldsOne-push gs in (
        λ h. elim h [
          | inl one ↦ inl (inl one)
          | inr other ↦ elim (rest.0 other) [ inl before ↦ inl (inr before) | inr last ↦ inr last ]
        ],
        λ h. elim h [
          | inl before ↦ elim before [ inl one ↦ inl one | inr other ↦ inr (rest.1 (inl other)) ]
          | inr last ↦ inr (rest.1 (inr last))
        ],
      )

module _ (t : LabelTree) (gs : List Guard) (i : ℕ) (g : Guard) (within : i < length gs) (here : g ≡ get_or gs i g) (a b m : List Bool) (part : IsSetOf t b (λ v. Holds t v g)) where
  next : take (i + 1) gs ≡ take i gs ++ g ∷ []
  next = take_more gs i g within ∙ ap (λ z. take i gs ++ z ∷ []) (sym here)

  pub all_more : IsSetOf t a (λ v. IsNode t v × HoldAll t v (guards_of (take i gs))) → IsSetOf t m (λ v. IsMarked t a v × IsMarked t b v) → IsSetOf t m (λ v. IsNode t v × HoldAll t v (guards_of (take (i + 1) gs)))
  all_more before both = subst (λ z. IsSetOf t m (λ v. IsNode t v × HoldAll t v (guards_of z))) (sym next) (λ v.
      let push = HoldAll-push t v g (take i gs) in (
        λ on. let h = (both v).0 on in let old = (before v).0 h.0 in (old.0, push.1 (old.1, (part v).0 h.1)),
        λ h. let old = push.0 h.1 in (both v).1 ((before v).1 (h.0, old.0), (part v).1 old.1),
      ))

  pub any_more : IsSetOf t a (λ v. HoldsOne t v (guards_of (take i gs))) → IsSetOf t m (λ v. IsMarked t a v ⊎ IsMarked t b v) → IsSetOf t m (λ v. HoldsOne t v (guards_of (take (i + 1) gs)))
  any_more before either = subst (λ z. IsSetOf t m (λ v. HoldsOne t v (guards_of z))) (sym next) (λ v.
      let push = HoldsOne-push t v g (take i gs) in (
        λ on. elim ((either v).0 on) [ inl old ↦ push.1 (inl ((before v).0 old)) | inr new ↦ push.1 (inr ((part v).0 new)) ],
        λ h. elim (push.0 h) [ inl old ↦ (either v).1 (inl ((before v).1 old)) | inr new ↦ (either v).1 (inr ((part v).1 new)) ],
      ))
