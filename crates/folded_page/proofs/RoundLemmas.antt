-- The rounds of a page in which nodes are folded, and what it asks.
use Rattle.std.proofs.Common.{◌≡◌, ◌↔◌, ℕ, zero, suc, ◌<◌, List, [], ◌∷◌, ◌++◌, length, Some, None, option_map, unwrap_or, Contains, refl, sym, ap, ◌∙◌, inl, inr, arith, subst, length-append}
use Rattle.std.specs.List.{range_with_len}
use Rattle.std.proofs.lemmas.List.Elements.{Contains-append_left, Contains-append_right, Contains-append_cases}
use Rattle.tp_base.proofs.ClassLemmas.{same_members}
use Rattle.tree_sem.specs.Trees.{LabelTree, count_of, children_at, length_of}
use Rattle.tree_sem.specs.Nodes.{IsNode}
use Rattle.tree_sem.specs.Paths.{parent_of}
use Rattle.tree_sem.proofs.NodeLemmas.{Contains-map, map-Contains}
use Rattle.tree_sem.proofs.PathLemmas.{parent_of-child, parent_of-none, child_of_parent, IsSome-parent_of}
use Rattle.tree_sem.proofs.RowLemmas.{node_at-child, tree_of-number}
use Rattle.node_marks.specs.Marks.{path_at}
use Rattle.node_marks.proofs.NumberLemmas.{node_there, number_there, one_number}
use Rattle.simple_core.specs.declared.system.System.{System}
use Rattle.simple_core.specs.Labels.{set_of, labels_below}
use Rattle.simple_core.specs.Rounds.{grown}
use Rattle.simple_core.specs.Pages.{page_round}
use Rattle.simple_core.specs.Pairs.{Pair, Asks, Asked}
use Rattle.simple_core.proofs.Members.{Among, among_all, Contains-range}
use Rattle.simple_core.proofs.LabelLemmas.{next_label-more}
use Rattle.simple_core.proofs.PageLemmas.{parent_in, real_below, below_in, page-rises}
use Rattle.simple_core.proofs.PageRest.{counted_child}
use Rattle.folded_page.specs.Folding.{IsFolded, image_at}

-- a child in the page has a number below the count
child_number : (v : List ℕ) (n : ℕ) (t : LabelTree) → IsNode t (v ++ n ∷ []) → n < unwrap_or (children_at v t) 0
child_number v n t is =
    let family = node_at-child v n t is in
    let count : children_at v t ≡ Some (length_of family.0.below) = ap (option_map (λ (s : LabelTree). length_of s.below)) family.2 in
    subst (λ o. n < unwrap_or o 0) (sym count) (tree_of-number family.0.below n family.1 family.3)

-- each child of v has a child of w with its label
abbrev HasKidsOf : System → LabelTree → LabelTree → ℕ → List ℕ → List ℕ → Type 0
HasKidsOf s t u k v w = (n : ℕ) → IsNode t (v ++ n ∷ []) → (m : ℕ) × IsNode u (w ++ m ∷ []) × (page_round s t k (v ++ n ∷ []) ≡ page_round s u k (w ++ m ∷ []))

-- where the labels round two nodes are alike, one gets what the other gets
round_within : (s : System) (t u : LabelTree) (k : ℕ) (v w : List ℕ) → page_round s t k v ≡ page_round s u k w → parent_in s t k v ≡ parent_in s u k w → HasKidsOf s t u k v w
    → Among (page_round s t (suc k) v) (page_round s u (suc k) w)
round_within s t u k v w own above kids =
    next_label-more s (parent_in s t k v) (parent_in s u k w) (page_round s t k v) (page_round s u k w) (below_in s t k v) (below_in s u k w)
    (λ a there. subst (λ (z : List ℕ). Contains z a) above there)
    (λ a there. subst (λ (z : List ℕ). Contains z a) own there)
    (λ label there. elim (Contains-append_cases (real_below s t k v) (labels_below s (grown s k) (page_round s t k v)) label there) [
      | inl real ↦
          let of = map-Contains (λ n. page_round s t k (v ++ n ∷ [])) (range_with_len 0 (unwrap_or (children_at v t) 0)) label real in
          let kid = kids of.0 (counted_child v t of.0 of.1) in
          let label' = page_round s u k (w ++ kid.0 ∷ []) in
          let number = Contains-range (unwrap_or (children_at w u) 0) kid.0 (child_number w kid.0 u kid.1) in (
            label',
            Contains-append_left (real_below s u k w) (labels_below s (grown s k) (page_round s u k w)) label' (Contains-map (λ n. page_round s u k (w ++ n ∷ [])) (range_with_len 0 (unwrap_or (children_at w u) 0)) kid.0 number),
            λ a in_label. subst (λ (z : List ℕ). Contains z a) (of.2 ∙ kid.2) in_label,
          )
      | inr added ↦ (
        label,
        Contains-append_right (real_below s u k w) (labels_below s (grown s k) (page_round s u k w)) label (subst (λ (z : List ℕ). Contains (labels_below s (grown s k) z) label) own added),
        λ a in_label. in_label,
      )
    ])

module _ (s : System) (t u : LabelTree) (numbers : List ℕ) (is : IsFolded t u numbers) where
  pub image_node : (i : ℕ) → i < count_of t → IsNode u (image_at u numbers i)
  image_node i less = node_there u _ (is.within i less)

  -- the root's image is the root
  root_image : (i : ℕ) → i < count_of t → path_at t i ≡ [] → image_at u numbers i ≡ []
  root_image i less root =
      let first : i ≡ 0 = one_number t i 0 less (omega arith) root in
      ap (image_at u numbers) first ∙ ap (path_at u) is.root

  -- the number of the parent of the i-th node, which has the parent of its image as its image
  record IsParentOf (i : ℕ) (p : List ℕ) : Type 0 where
    number : ℕ
    within : number < count_of t
    path : path_at t number ≡ p
    image : parent_of (image_at u numbers i) ≡ Some (image_at u numbers number)

  parent_image : (i : ℕ) (p : List ℕ) → i < count_of t → parent_of (path_at t i) ≡ Some p → IsParentOf i p
  parent_image i p less up =
      let last = child_of_parent (path_at t i) p up in
      let j = number_there t p (IsSome-parent_of (path_at t i) p t up (node_there t i less)) in
      let step = is.above i j.0 last.0 less j.1 (last.1 ∙ ap (λ z. z ++ last.0 ∷ []) (sym j.2)) in
      record { number = j.0; within = j.1; path = j.2; image = ap parent_of step.1 ∙ parent_of-child (image_at u numbers j.0) step.0 }

  above_folded : (f g : List ℕ → List ℕ) → ((j : ℕ) → j < count_of t → f (path_at t j) ≡ g (image_at u numbers j)) → (i : ℕ) → i < count_of t
      → unwrap_or (option_map f (parent_of (path_at t i))) [] ≡ unwrap_or (option_map g (parent_of (image_at u numbers i))) []
  above_folded f g same i less = elim (parent_of (path_at t i)) as (λ o. parent_of (path_at t i) ≡ o → unwrap_or (option_map f o) [] ≡ unwrap_or (option_map g (parent_of (image_at u numbers i))) []) [
    | None ↦ λ e. sym (ap (λ z. unwrap_or (option_map g (parent_of z)) []) (root_image i less (parent_of-none (path_at t i) e)))
    | Some p ↦ λ e.
        let j = parent_image i p less e in
        ap f (sym j.path) ∙ same j.number j.within ∙ sym (ap (λ z. unwrap_or (option_map g z) []) j.image)
  ] refl

  pub rounds_folded : (k i : ℕ) → i < count_of t → page_round s t k (path_at t i) ≡ page_round s u k (image_at u numbers i)
  rounds_folded zero i less = ap (λ z. set_of (unwrap_or z [])) (sym (is.label i less))
  rounds_folded (suc k) i less =
      let v = path_at t i in
      let w = image_at u numbers i in
      let own = rounds_folded k i less in
      let above : parent_in s t k v ≡ parent_in s u k w = above_folded (page_round s t k) (page_round s u k) (rounds_folded k) i less in
      let there : HasKidsOf s t u k v w = λ n node.
      let c = number_there t (v ++ n ∷ []) node in
      let step = is.above c.0 i n c.1 less c.2 in
      (step.0, subst (IsNode u) step.1 (image_node c.0 c.1), ap (page_round s t k) (sym c.2) ∙ rounds_folded k c.0 c.1 ∙ ap (page_round s u k) step.1)
      in
      let back : HasKidsOf s u t k w v = λ m node.
      let c = is.below i m less node in
      (c.1, subst (IsNode t) c.3 (node_there t c.0 c.2), ap (page_round s u k) (sym c.4) ∙ sym (rounds_folded k c.0 c.2) ∙ ap (page_round s t k) c.3)
      in
      same_members (page_round s t (suc k) v) (page_round s u (suc k) w) (page-rises s t (suc k) v) (page-rises s u (suc k) w)
      (among_all (page_round s t (suc k) v) (page_round s u (suc k) w) (round_within s t u k v w own above there))
      (among_all (page_round s u (suc k) w) (page_round s t (suc k) v) (round_within s u t k w v (sym own) (sym above) back))

  -- each node is an image
  image_there : (d : ℕ) (w : List ℕ) → length w < d → IsNode u w → (i : ℕ) × (i < count_of t) × (image_at u numbers i ≡ w)
  image_there zero w less node = absurd (omega arith)
  image_there (suc d) w less node = elim (parent_of w) as (λ o. parent_of w ≡ o → (i : ℕ) × (i < count_of t) × (image_at u numbers i ≡ w)) [
    | None ↦ λ e. (0, omega arith, ap (path_at u) is.root ∙ sym (parent_of-none w e))
    | Some p ↦ λ e.
        let last = child_of_parent w p e in
        let long = length-append p (last.0 ∷ []) in
        let long' : length w ≡ length (p ++ last.0 ∷ []) = ap length last.1 in
        let j = image_there d p (omega arith) (IsSome-parent_of w p u e node) in
        let place : w ≡ image_at u numbers j.0 ++ last.0 ∷ [] = last.1 ∙ ap (λ z. z ++ last.0 ∷ []) (sym j.2) in
        let c = is.below j.0 last.0 j.1 (subst (IsNode u) place node) in
        (c.0, c.2, c.4 ∙ sym place)
  ] refl

  pub asked_folded : (q : Pair) → Asked s t q ↔ Asked s u q
  asked_folded q = (
    λ (v, node, k, asks).
        let i = number_there t v node in
        (image_at u numbers i.0, image_node i.0 i.1, k, subst (λ (z : List ℕ). Asks s z q) (ap (page_round s t k) (sym i.2) ∙ rounds_folded k i.0 i.1) asks),
    λ (w, node, k, asks).
        let i = image_there (suc (length w)) w (omega arith) node in
        (path_at t i.0, node_there t i.0 i.1, k, subst (λ (z : List ℕ). Asks s z q) (ap (page_round s u k) (sym i.2) ∙ sym (rounds_folded k i.0 i.1)) asks),
  )
