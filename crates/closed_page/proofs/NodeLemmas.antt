-- The nodes of a page by the numbers of their parents and their steps.
use Rattle.std.proofs.Common.{◌≡◌, ℕ, zero, suc, ◌+◌, ◌-◌, ◌<◌, ◌≤◌, List, [], ◌∷◌, ◌++◌, length, get_or, take, drop, slice_get, Option, Some, None, IfSome, IsNone, Contains, refl, sym, ap, ◌∙◌, inl, inr, arith, subst, add-one, append-nil}
use Rattle.std.proofs.lemmas.Bool.{cases_lt}
use Rattle.std.proofs.lemmas.List.{length-map, get_or-map, append_assoc, take-append-drop, get_or_default, get_or-take, take_more, take_all}
use Rattle.std.proofs.lemmas.List.Elements.{Contains-get_or}
use Rattle.std.proofs.lemmas.Option.{slice_get_within, slice_get-get_or, get_or_from_slice_get}
use Rattle.tree_sem.specs.Trees.{LabelTree, count_of}
use Rattle.tree_sem.specs.Order.{paths_of}
use Rattle.tree_sem.proofs.NodeLemmas.{length-paths_of}
use Rattle.tree_sem.proofs.PathLemmas.{same_parent}
use Rattle.row_index.specs.Rows.{row_of, AreByNumber}
use Rattle.node_marks.specs.Marks.{path_at}
use Rattle.node_marks.specs.Numbering.{IsNumbering}
use Rattle.node_marks.proofs.NumberLemmas.{one_number, take_step}
use Rattle.closed_page.specs.Labelled.{IsAbove, AreKids}
use Rattle.closed_page.specs.Numbered.{path_next, paths_up, paths_by, AreNumbered, parent_told, told}
use Rattle.closed_page.specs.Spreading.{IsNumberAt}
use Rattle.closed_page.proofs.FirstsLemmas.{same_step, not_root, path_there, path_root}

-- ---- the numbers of the parents

pub told-length : (numbers : List ℕ) → length (told numbers) ≡ length numbers
told-length [] = refl
told-length (number ∷ numbers) = ap suc (length-map numbers Some)

pub told-each : (numbers : List ℕ) (i : ℕ) → i < length numbers → get_or (told numbers) i None ≡ parent_told numbers i
told-each [] i less = absurd (omega (arith, less))
told-each (number ∷ numbers) zero less = refl
told-each (number ∷ numbers) (suc i) less = get_or-map Some numbers i 0 None (omega (arith, less))

pub told_here : (numbers lent : List ℕ) (i : ℕ) (o : Option ℕ) → lent ≡ numbers → i < length numbers → o ≡ parent_told lent i → get_or (told numbers) i None ≡ o
told_here numbers lent i o same less is = told-each numbers i less ∙ sym (is ∙ ap (λ z. parent_told z i) same)

-- ---- the paths are those of the page

paths_up-suc : (parents : List (Option ℕ)) (steps : List ℕ) (n : ℕ) → paths_up parents steps (suc n) ≡ paths_up parents steps n ++ path_next (paths_up parents steps n) (get_or parents n None) (get_or steps n 0) ∷ []
unfolding paths_up
paths_up-suc parents steps n = refl

paths_up-zero : (parents : List (Option ℕ)) (steps : List ℕ) → paths_up parents steps 0 ≡ []
unfolding paths_up
paths_up-zero parents steps = refl

module _ (t : LabelTree) (numbers steps : List ℕ) (labels : List (List ℕ)) (is : IsNumbering t numbers steps labels) where
  abbrev parents : List (Option ℕ)
  parents = told numbers

  told_count : length parents ≡ count_of t
  told_count = told-length numbers ∙ is.parents_count

  told_at : (i : ℕ) → i < count_of t → get_or parents i None ≡ parent_told numbers i
  told_at i less = let count = is.parents_count in told-each numbers i (omega (arith, less, count))

  next_is : (n : ℕ) → n < count_of t → path_next (take n (paths_of t)) (get_or parents n None) (get_or steps n 0) ≡ path_at t n
  next_is zero less = ap (λ o. path_next (take 0 (paths_of t)) o (get_or steps 0 0)) (told_at 0 less)
  next_is (suc m) less =
      let n = suc m in
      let p = get_or numbers n 0 in
      let count = is.parents_count in
      let lower = is.smaller n (omega arith) (omega (arith, less, count)) in
      ap (λ o. path_next (take n (paths_of t)) o (get_or steps n 0)) (told_at n less)
      ∙ ap (λ v. v ++ get_or steps n 0 ∷ []) (get_or-take n (paths_of t) p [] lower)
      ∙ sym (is.above n (omega arith) less)

  paths_up_are : (n : ℕ) → n ≤ count_of t → paths_up parents steps n ≡ take n (paths_of t)
  paths_up_are zero le = paths_up-zero parents steps
  paths_up_are (suc n) le =
      let before = paths_up_are n (omega (arith, le)) in
      let count = length-paths_of t in
      let more : take (suc n) (paths_of t) ≡ take n (paths_of t) ++ path_at t n ∷ [] = rw add-one at (take_more (paths_of t) n [] (omega (arith, le, count))) in
      paths_up-suc parents steps n
      ∙ ap (λ z. z ++ path_next z (get_or parents n None) (get_or steps n 0) ∷ []) before
      ∙ ap (λ v. take n (paths_of t) ++ v ∷ []) (next_is n (omega (arith, le)))
      ∙ sym more

  pub paths_are : paths_by parents steps ≡ paths_of t
  paths_are =
      let count = length-paths_of t in
      ap (λ n. paths_up parents steps n) told_count ∙ paths_up_are (count_of t) (omega arith) ∙ take_all (count_of t) (paths_of t) (omega (arith, count))

  root_is : (i : ℕ) → i < count_of t → get_or parents i None ≡ None → path_at t i ≡ []
  root_is zero less none = refl
  root_is (suc i) less none = let never : None ≡ Some (get_or numbers (suc i) 0) = sym none ∙ told_at (suc i) less in absurd (cc)

  above_is : (i p : ℕ) → i < count_of t → get_or parents i None ≡ Some p → (p < i) × (path_at t i ≡ path_at t p ++ get_or steps i 0 ∷ [])
  above_is zero p less some = let never : Some p ≡ None = sym some ∙ told_at 0 less in absurd (cc)
  above_is (suc i) p less some =
      let both : Some (get_or numbers (suc i) 0) ≡ Some p = sym (told_at (suc i) less) ∙ some in
      let same : get_or numbers (suc i) 0 ≡ p = cc in
      let count = is.parents_count in
      let lower = is.smaller (suc i) (omega arith) (omega (arith, less, count)) in
      (subst (λ z. z < suc i) same lower, subst (λ z. path_at t (suc i) ≡ path_at t z ++ get_or steps (suc i) 0 ∷ []) same (is.above (suc i) (omega arith) less))

  pub numbered : (kids : List (List ℕ)) → AreByNumber parents kids → AreNumbered (paths_by parents steps) parents steps kids
  numbered kids below =
      let count = length-paths_of t in
      subst (λ (z : List (List ℕ)). AreNumbered z parents steps kids) (sym paths_are) (record {
        some = omega (arith, count);
        parents_count = told_count ∙ sym count;
        steps_count = is.steps_count ∙ sym count;
        root = λ i less. root_is i (omega (arith, less, count));
        above = λ i p less. above_is i p (omega (arith, less, count));
        once = λ i j less less'. one_number t i j (omega (arith, less, count)) (omega (arith, less', count));
        below = below;
      })

-- ---- what is next to a node

module _ (nodes : List (List ℕ)) (parents : List (Option ℕ)) (steps : List ℕ) (kids : List (List ℕ)) (is : AreNumbered nodes parents steps kids) where
  pub first_root : get_or nodes 0 [] ≡ []
  first_root = elim (get_or parents 0 None) as (λ (o : Option ℕ). get_or parents 0 None ≡ o → get_or nodes 0 [] ≡ []) [
    | None ↦ λ e. is.root 0 is.some e
    | Some p ↦ λ e. let lower = (is.above 0 p is.some e).0 in absurd (omega (arith, lower))
  ] refl

  pub within_above : (i p : ℕ) → i < length nodes → get_or parents i None ≡ Some p → p < length nodes
  within_above i p less e = let lower = (is.above i p less e).0 in omega (arith, lower, less)

  pub above_node : (i : ℕ) → i < length nodes → (o : Option ℕ) → get_or parents i None ≡ o → IsAbove nodes (get_or nodes i []) o
  above_node i less None e = λ p n at there. not_root p n (sym (is.root i less e) ∙ at)
  above_node i less (Some p) e = (within_above i p less e, get_or steps i 0, (is.above i p less e).1)

  pub before_node : (i : ℕ) → i < length nodes → (o : Option ℕ) → get_or parents i None ≡ o → IfSome o (λ p. p < i)
  before_node i less None e = tt
  before_node i less (Some p) e = (is.above i p less e).0

  pub root_node : (i : ℕ) → i < length nodes → (o : Option ℕ) → get_or parents i None ≡ o → IsNone o → get_or nodes i [] ≡ []
  root_node i less None e none = is.root i less e
  root_node i less (Some p) e none = cc

  pub step_node : (i : ℕ) → i < length nodes → (v : List ℕ) (k : ℕ) → get_or nodes i [] ≡ v ++ k ∷ [] → get_or steps i 0 ≡ k
  step_node i less v k at = elim (get_or parents i None) as (λ (o : Option ℕ). get_or parents i None ≡ o → get_or steps i 0 ≡ k) [
    | None ↦ λ e. absurd (not_root v k (sym (is.root i less e) ∙ at))
    | Some p ↦ λ e.
        let path = (is.above i p less e).1 in
        let same = same_parent (get_or nodes p []) v (get_or steps i 0) k (sym path ∙ at) in
        same_step v (get_or steps i 0) k (ap (λ z. z ++ get_or steps i 0 ∷ []) (sym same) ∙ sym path ∙ at)
  ] refl

  pub rooted : (v : List ℕ) (k : ℕ) → Contains nodes (v ++ k ∷ []) → Contains nodes v
  rooted v k there =
      let i = there.0 in
      let at : get_or nodes i [] ≡ v ++ k ∷ [] = get_or_default nodes i [] (v ++ k ∷ []) there.1 ∙ there.2 in
      elim (get_or parents i None) as (λ (o : Option ℕ). get_or parents i None ≡ o → Contains nodes v) [
        | None ↦ λ e. absurd (not_root v k (sym (is.root i there.1 e) ∙ at))
        | Some p ↦ λ e.
            let same = same_parent (get_or nodes p []) v (get_or steps i 0) k (sym (is.above i p there.1 e).1 ∙ at) in
            subst (Contains nodes) same (Contains-get_or nodes p [] (within_above i p there.1 e))
      ] refl

  kid-at : (i c : ℕ) → Contains (row_of kids i) c → (c < length nodes) × (get_or nodes c [] ≡ get_or nodes i [] ++ get_or steps c 0 ∷ [])
  kid-at i c in_row =
      let x = is.below.only i c in_row in
      let here : get_or parents c None ≡ Some i = get_or_from_slice_get parents c (Some i) None x in
      let within : c < length parents = slice_get_within parents c (Some i) x in
      let count = is.parents_count in
      let within' : c < length nodes = omega (arith, within, count) in
      (within', (is.above c i within' here).1)

  is-kid : (i c n : ℕ) → i < length nodes → c < length nodes → get_or nodes c [] ≡ get_or nodes i [] ++ n ∷ [] → Contains (row_of kids i) c
  is-kid i c n less within at =
      let count = is.parents_count in
      let listed : slice_get parents c ≡ Some (get_or parents c None) = slice_get-get_or parents c None (omega (arith, within, count)) in
      elim (get_or parents c None) as (λ (o : Option ℕ). get_or parents c None ≡ o → slice_get parents c ≡ Some o → Contains (row_of kids i) c) [
        | None ↦ λ e x. absurd (not_root (get_or nodes i []) n (sym (is.root c within e) ∙ at))
        | Some j ↦ λ e x.
            let same : j ≡ i = is.once j i (within_above c j within e) less (same_parent (get_or nodes j []) (get_or nodes i []) (get_or steps c 0) n (sym (is.above c j within e).1 ∙ at)) in
            subst (λ z. Contains (row_of kids z) c) same (is.below.whole c j x)
      ] refl listed

  pub kids_are : (i : ℕ) → i < length nodes → AreKids nodes i (row_of kids i)
  kids_are i less = record {
    only = λ c in_row. let kid = kid-at i c in_row in (kid.0, get_or steps c 0, kid.1);
    whole = λ c n. is-kid i c n less;
  }

  -- the child to which a step leads
  pub child_is : (i c k : ℕ) → Contains (row_of kids i) c → slice_get steps c ≡ Some k → (c < length nodes) × (get_or nodes c [] ≡ get_or nodes i [] ++ k ∷ [])
  child_is i c k in_row step =
      let kid = kid-at i c in_row in
      (kid.0, kid.1 ∙ ap (λ z. get_or nodes i [] ++ z ∷ []) (get_or_from_slice_get steps c k 0 step))

  pub child_none : (i k : ℕ) → i < length nodes → ((c : ℕ) → Contains (row_of kids i) c → slice_get steps c ≡ Some k → ⊥) → (c : ℕ) → c < length nodes → get_or nodes c [] ≡ get_or nodes i [] ++ k ∷ [] → ⊥
  child_none i k less none c within at =
      let count = is.steps_count in
      none c (is-kid i c k less within at) (slice_get-get_or steps c 0 (omega (arith, within, count)) ∙ ap Some (step_node c within (get_or nodes i []) k at))

  -- the number of the node to which a step leads
  pub number_is : (p k : ℕ) (told : List ℕ) (o : Option ℕ) → told ≡ steps → p < length nodes → IfSome o (λ c. Contains (row_of kids p) c × (slice_get told c ≡ Some k))
      → (IsNone o → (c : ℕ) → Contains (row_of kids p) c → slice_get told c ≡ Some k → ⊥) → IsNumberAt nodes p k o
  number_is p k told None same less some none = λ there.
      let (c, within, at) = subst (Contains nodes) (path_there nodes p k less) there in
      child_none p k less (λ d in_row step. none refl d in_row (ap (λ z. slice_get z d) same ∙ step)) c within (get_or_default nodes c [] (get_or nodes p [] ++ k ∷ []) within ∙ at)
  number_is p k told (Some c) same less some none =
      let child = child_is p c k some.0 (ap (λ z. slice_get z c) (sym same) ∙ some.1) in
      (child.0, child.1 ∙ sym (path_there nodes p k less))

  pub number_root : (p k : ℕ) → length nodes ≤ p → IsNumberAt nodes p k (Some 0)
  number_root p k le = (is.some, first_root ∙ sym (path_root nodes p k le))

  rooted_front : (v w : List ℕ) → Contains nodes (v ++ w) → Contains nodes v
  rooted_front v [] there = subst (Contains nodes) (append-nil v) there
  rooted_front v (k ∷ w) there = rooted v k (rooted_front (v ++ k ∷ []) w (subst (Contains nodes) (sym (append_assoc v (k ∷ []) w)) there))

  -- a path turns off where a node on its way has no child at its next step
  pub turned_off : (i m k : ℕ) (v : List ℕ) → get_or nodes i [] ≡ take m v → slice_get v m ≡ Some k → ((c : ℕ) → c < length nodes → get_or nodes c [] ≡ get_or nodes i [] ++ k ∷ [] → ⊥) → Contains nodes v → ⊥
  turned_off i m k v here at none there =
      let front : Contains nodes (take (suc m) v) = rooted_front (take (suc m) v) (drop (suc m) v) (subst (Contains nodes) (sym (take-append-drop (suc m) v)) there) in
      let path : get_or nodes front.0 [] ≡ get_or nodes i [] ++ k ∷ [] = get_or_default nodes front.0 [] (take (suc m) v) front.1 ∙ front.2 ∙ take_step v m k at ∙ ap (λ z. z ++ k ∷ []) (sym here) in
      none front.0 front.1 path

-- ---- the number of a parent, and the number that is sought in a row

pub told_none : (numbers : List ℕ) (i : ℕ) → i ≡ 0 → None ≡ parent_told numbers i
told_none numbers i first = sym (ap (parent_told numbers) first)

pub told_some : (numbers : List ℕ) (i : ℕ) → 0 < i → Some (get_or numbers i 0) ≡ parent_told numbers i
told_some numbers zero more = absurd (omega (arith, more))
told_some numbers (suc i) more = refl

pub missing_next : (row : List ℕ) (P : ℕ → Type 0) (i : ℕ) → (P (get_or row i 0) → ⊥) → ((j : ℕ) → j < i → P (get_or row j 0) → ⊥) → (j : ℕ) → j < i + 1 → P (get_or row j 0) → ⊥
missing_next row P i none before j lt = elim (cases_lt j i) [
  | inl early ↦ before j early
  | inr late ↦
      let last : j ≡ i = omega (arith, lt, late) in
      λ h. none (subst P (ap (λ z. get_or row z 0) last) h)
]

pub missing_all : (row : List ℕ) (P : ℕ → Type 0) (n : ℕ) → length row ≤ n → ((j : ℕ) → j < n → P (get_or row j 0) → ⊥) → (c : ℕ) → Contains row c → P c → ⊥
missing_all row P n le before c there h = before there.0 (let less = there.1 in omega (arith, le, less)) (subst P (sym (get_or_default row there.0 0 c there.1 ∙ there.2)) h)

take_0 : (xs : List ℕ) → take 0 xs ≡ []
take_0 [] = refl
take_0 (x ∷ xs) = refl

-- what was popped was the last one
pub none_left : (n : ℕ) (xs ys : List ℕ) → xs ≡ ys ++ [] → ys ≡ take (n - 1) xs → n ≡ 0 → xs ≡ []
none_left n xs ys all rest none = all ∙ append-nil ys ∙ rest ∙ ap (λ k. take (k - 1) xs) none ∙ take_0 xs
