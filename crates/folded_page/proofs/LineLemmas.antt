-- A tree that grows at its end, with the numbers of the nodes on the way to the last one.
use Rattle.std.proofs.Common.{◌≡◌, ℕ, suc, ◌-◌, ◌<◌, List, [], ◌∷◌, ◌++◌, length, take, get_or, Some, IfSome, refl, sym, ap, ◌∙◌, subst, inl, inr, arith, length-append, length-take-le}
use Rattle.std.proofs.lemmas.Bool.{cases_lt}
use Rattle.std.proofs.lemmas.List.{get_or_append_left, get_or_push, get_or-take, take-append-le, take_all}
use Rattle.tree_sem.specs.Trees.{LabelTree, length_of, count_of, node_at, edit_at, add_child}
use Rattle.tree_sem.specs.Nodes.{IsNode}
use Rattle.tree_sem.specs.Order.{paths_of}
use Rattle.tree_sem.specs.Growing.{GrowingTree}
use Rattle.tree_sem.proofs.EditLemmas.{node_at-add_child_new}
use Rattle.tree_sem.proofs.PathLemmas.{take_take}
use Rattle.node_marks.specs.Marks.{path_at}
use Rattle.folded_page.specs.Built.{IsOnLastWay, IsAddedLast, IsInOrder}
use Rattle.folded_page.proofs.LastLemmas.{node_on_way, way_above, way_to_last, added_last, paths_of-last, count_more, path_kept, path_more}

-- a child more at the node of this level
module _ (g : GrowingTree) (line : List ℕ) (n level : ℕ) (order : IsInOrder g line n) (within : level < length line) where
  level_length : length (take level g.at) ≡ level
  level_length = let long = order.long in length-take-le level g.at (omega (arith, long, within))

  pub level_is : take (length g.at - (length line - 1 - level)) g.at ≡ take level g.at
  level_is = let long = order.long in ap (λ k. take k g.at) (omega (arith, long, within))

  on_way : IsOnLastWay (take level g.at) g.tree
  on_way = way_above level g.at g.tree order.last

  here : (s : LabelTree) × (node_at (take level g.at) g.tree ≡ Some s)
  here = node_on_way (take level g.at) g.tree on_way

  module _ (l : List ℕ) (step : ℕ) (number : IfSome (node_at (take level g.at) g.tree) (λ s. step ≡ length_of s.below)) where
    step_is : step ≡ length_of here.0.below
    step_is = subst (λ o. IfSome o (λ s. step ≡ length_of s.below)) here.1 number

    pub child_there : IsNode (edit_at (take level g.at) (add_child l) g.tree) (take level g.at ++ step ∷ [])
    child_there = rw (step_is, node_at-add_child_new (take level g.at) l g.tree here.0 here.1) refl

    added_here : IsAddedLast g.tree (edit_at (take level g.at) (add_child l) g.tree) (take level g.at) l
    added_here = added_last (take level g.at) l g.tree here.0 on_way here.1

    pub added_below : (parent : ℕ) → get_or line level 0 ≡ parent → IsAddedLast g.tree (edit_at (take level g.at) (add_child l) g.tree) (path_at g.tree parent) l
    added_below parent is = subst (λ v. IsAddedLast g.tree (edit_at (take level g.at) (add_child l) g.tree) v l) (sym (order.way level within) ∙ ap (path_at g.tree) is) added_here

    more : paths_of (edit_at (take level g.at) (add_child l) g.tree) ≡ paths_of g.tree ++ (take level g.at ++ length_of here.0.below ∷ []) ∷ []
    more = paths_of-last (take level g.at) l g.tree here.0 on_way here.1

    line_length : length (take (suc level) line) ≡ suc level
    line_length = length-take-le (suc level) line (omega (arith, within))

    pub in_order : IsInOrder (record { tree = edit_at (take level g.at) (add_child l) g.tree; at = take level g.at ++ step ∷ [] }) (take (suc level) line ++ n ∷ []) (suc n)
    in_order =
        let count = count_more g.tree (edit_at (take level g.at) (add_child l) g.tree) (take level g.at ++ length_of here.0.below ∷ []) more in
        let old = order.count in
        let long = line_length in
        let long' = length-append (take (suc level) line) (n ∷ []) in
        let deep = level_length in
        let deep' = length-append (take level g.at) (step ∷ []) in
        record {
          count = omega (arith, count, old);
          last = rw step_is (way_to_last (take level g.at) l g.tree here.0 on_way here.1);
          long = omega (arith, long, long', deep, deep');
          within = λ m lt. elim (cases_lt m (suc level)) [
            | inl before ↦
                let same : get_or (take (suc level) line ++ n ∷ []) m 0 ≡ get_or line m 0 = get_or_append_left (take (suc level) line) (n ∷ []) 0 m (omega (arith, before, long)) ∙ get_or-take (suc level) line m 0 before in
                let less = order.within m (omega (arith, before, within)) in
                omega (arith, same, less, count)
            | inr behind ↦
                let same : get_or (take (suc level) line ++ n ∷ []) m 0 ≡ n = get_or_push (take (suc level) line) n 0 m (omega (arith, behind, lt, long, long')) in
                omega (arith, same, old, count)
          ];
          way = λ m lt. elim (cases_lt m (suc level)) [
            | inl before ↦
                let same : get_or (take (suc level) line ++ n ∷ []) m 0 ≡ get_or line m 0 = get_or_append_left (take (suc level) line) (n ∷ []) 0 m (omega (arith, before, long)) ∙ get_or-take (suc level) line m 0 before in
                ap (path_at (edit_at (take level g.at) (add_child l) g.tree)) same
                ∙ path_kept g.tree (edit_at (take level g.at) (add_child l) g.tree) (take level g.at ++ length_of here.0.below ∷ []) more (get_or line m 0) (order.within m (omega (arith, before, within)))
                ∙ order.way m (omega (arith, before, within))
                ∙ sym (take-append-le m (take level g.at) (step ∷ []) (omega (arith, before, deep)) ∙ take_take m level g.at (omega (arith, before)))
            | inr behind ↦
                let at : m ≡ suc level = omega (arith, behind, lt, long, long') in
                let same : get_or (take (suc level) line ++ n ∷ []) m 0 ≡ count_of g.tree = get_or_push (take (suc level) line) n 0 m (omega (arith, at, long)) ∙ old in
                ap (path_at (edit_at (take level g.at) (add_child l) g.tree)) same
                ∙ path_more g.tree (edit_at (take level g.at) (add_child l) g.tree) (take level g.at ++ length_of here.0.below ∷ []) more
                ∙ ap (λ k. take level g.at ++ k ∷ []) (sym step_is)
                ∙ sym (take_all m (take level g.at ++ step ∷ []) (omega (arith, at, deep, deep')))
          ];
        }

-- the same, as the code comes to it: m is g further up, and a is m with a child more
module _ (g m a : GrowingTree) (line : List ℕ) (n level levels step : ℕ) (l : List ℕ) (order : IsInOrder g line n) (within : level < length line) (far : levels ≡ length line - 1 - level)
    (same : m.tree ≡ g.tree) (up : m.at ≡ take (length g.at - levels) g.at) (grown : a.tree ≡ edit_at m.at (add_child l) m.tree) (stays : a.at ≡ m.at)
    (number : IfSome (node_at m.at m.tree) (λ s. step ≡ length_of s.below)) where
  at_is : m.at ≡ take level g.at
  at_is = up ∙ ap (λ k. take (length g.at - k) g.at) far ∙ level_is g line n level order within

  tree_is : a.tree ≡ edit_at (take level g.at) (add_child l) g.tree
  tree_is = grown ∙ ap (λ v. edit_at v (add_child l) m.tree) at_is ∙ ap (edit_at (take level g.at) (add_child l)) same

  number_is : IfSome (node_at (take level g.at) g.tree) (λ s. step ≡ length_of s.below)
  number_is = subst (λ z. IfSome (node_at (take level g.at) z) (λ s. step ≡ length_of s.below)) same (subst (λ v. IfSome (node_at v m.tree) (λ s. step ≡ length_of s.below)) at_is number)

  pub step_there : IsNode a.tree (a.at ++ step ∷ [])
  step_there = rw (stays, at_is, tree_is) (child_there g line n level order within l step number_is)

  module _ (d : GrowingTree) (down : d.at ≡ a.at ++ step ∷ []) (there : d.tree ≡ a.tree) where
    pub added_to : (parent : ℕ) → get_or line level 0 ≡ parent → IsAddedLast g.tree d.tree (path_at g.tree parent) l
    added_to parent is = subst (λ z. IsAddedLast g.tree z (path_at g.tree parent) l) (sym (there ∙ tree_is)) (added_below g line n level order within l step number_is parent is)

    pub order_kept : (line' : List ℕ) (level' n' : ℕ) → level' ≡ suc level → n' ≡ suc n → line' ≡ take level' line ++ n ∷ [] → IsInOrder d line' n'
    order_kept line' level' n' cut count is =
        let end : d.at ≡ take level g.at ++ step ∷ [] = down ∙ ap (λ v. v ++ step ∷ []) (stays ∙ at_is) in
        let whole : d ≡ record { tree = edit_at (take level g.at) (add_child l) g.tree; at = take level g.at ++ step ∷ [] } = λ i. record { tree = (there ∙ tree_is) i; at = end i } in
        let line_is : line' ≡ take (suc level) line ++ n ∷ [] = is ∙ ap (λ k. take k line ++ n ∷ []) cut in
        rw (whole, line_is, count) (in_order g line n level order within l step number_is)
