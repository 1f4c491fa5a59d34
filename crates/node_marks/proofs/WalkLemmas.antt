-- A walk that numbers the nodes: what it has of the nodes so far is right, also with the next one.
use Rattle.std.proofs.Common.{◌≡◌, ℕ, zero, suc, ◌-◌, ◌<◌, ◌≤◌, List, [], ◌∷◌, ◌++◌, length, get_or, take, map, Option, Some, None, option_map, unwrap_or, refl, sym, ap, ◌∙◌, subst, inl, inr, arith, append_assoc, length-append}
use Rattle.std.proofs.lemmas.Bool.{cases_lt}
use Rattle.std.proofs.lemmas.List.{get_or_append_left, get_or-take, length-take-le, take-append-le, take_all}
use Rattle.std.proofs.Math.Seq.{get_or-append_seam}
use Rattle.tree_sem.specs.Trees.{Row, no_nodes, node, LabelTree, tree_of, count_of, label_at}
use Rattle.tree_sem.specs.Order.{paths_from, trees_after, rest_of}
use Rattle.tree_sem.proofs.NodeLemmas.{length-paths_of}
use Rattle.tree_sem.proofs.PathLemmas.{take_take}
use Rattle.node_marks.specs.Marks.{path_at}
use Rattle.node_marks.specs.Numbering.{parent_number, AreNumbered, IsNumbering, IsWalkedTo, number_above, last_step}
use Rattle.node_marks.proofs.NumberLemmas.{one_number}

-- w is a child of v, or of a node on the way to v
abbrev pub IsNextTo : List ℕ → List ℕ → Type 0
IsNextTo v w = (m : ℕ) × (k : ℕ) × (m ≤ length v) × (w ≡ take m v ++ k ∷ [])

first_path : (d : ℕ) (row : Row) (w : List ℕ) (others : List (List ℕ)) → paths_from d row ≡ w ∷ others → w ≡ d ∷ []
first_path d no_nodes w others is = cc
first_path d (node l below next) w others is = let same : d ∷ [] ≡ w = cc in sym same

-- so is the next node in the order of the document
pub next_to : (v : List ℕ) (t : LabelTree) (w : List ℕ) (others : List (List ℕ)) → rest_of v t ≡ w ∷ others → IsNextTo v w
next_to [] t w others is = (0, 0, omega arith, first_path 0 t.below w others is)
next_to (k ∷ p) t w others is = by_child (λ c u more is'. next_to p c u more is') (tree_of t.below k) is
  where
    by_paths : (qs : List (List ℕ)) → ((u : List ℕ) (more : List (List ℕ)) → qs ≡ u ∷ more → IsNextTo p u) → map (λ q. k ∷ q) qs ++ paths_from (suc k) (trees_after t.below k) ≡ w ∷ others → IsNextTo (k ∷ p) w
    by_paths [] inner e = (0, suc k, omega arith, first_path (suc k) (trees_after t.below k) w others e)
    by_paths (u ∷ qs) inner e =
        let same : k ∷ u ≡ w = cc in
        let deep = inner u qs refl in
        let less = deep.2 in
        (suc deep.0, deep.1, omega (arith, less), sym same ∙ ap (λ z. k ∷ z) deep.3)

    by_child : ((c : LabelTree) (u : List ℕ) (more : List (List ℕ)) → rest_of p c ≡ u ∷ more → IsNextTo p u) → (o : Option LabelTree) → map (λ q. k ∷ q) (unwrap_or (option_map (rest_of p) o) []) ++ paths_from (suc k) (trees_after t.below k) ≡ w ∷ others → IsNextTo (k ∷ p) w
    by_child inner None e = by_paths [] (λ u more none. cc) e
    by_child inner (Some c) e = by_paths (rest_of p c) (inner c) e

-- nothing is known before the walk
pub not_walked : (t : LabelTree) (line : List ℕ) → IsWalkedTo t [] [] [] line []
not_walked t line = record {
  done = [];
  cut = refl;
  numbered = record {
    parents_count = refl;
    steps_count = refl;
    labels_count = refl;
    smaller = λ i some lt. absurd (omega arith);
    above = λ i some lt. absurd (omega arith);
    label = λ i lt. absurd (omega arith);
  };
  way = λ m lt. absurd (omega arith);
}

-- a path and its last step
last_at : (v : List ℕ) (m : ℕ) → length v ≡ suc m → v ≡ take m v ++ get_or v m 0 ∷ []
last_at [] m long = absurd (omega arith)
last_at (k ∷ []) zero long = refl
last_at (k ∷ l ∷ v) zero long = absurd (omega arith)
last_at (k ∷ v) (suc m) long = ap (λ z. k ∷ z) (last_at v m (omega arith))

last_of : (v : List ℕ) → 0 < length v → v ≡ take (length v - 1) v ++ last_step v ∷ []
last_of v some = last_at v (length v - 1) (omega arith)

pushed_new : {X : Type 0} (xs : List X) (x d : X) (n : ℕ) → n ≡ length xs → get_or (xs ++ x ∷ []) n d ≡ x
pushed_new xs x d n last = ap (λ k. get_or (xs ++ x ∷ []) k d) last ∙ get_or-append_seam xs x [] d

length_pushed : {X : Type 0} (xs : List X) (x : X) (n : ℕ) → length xs ≡ n → length (xs ++ x ∷ []) ≡ suc n
length_pushed xs x n count = let long = length-append xs (x ∷ []) in omega (arith, long, count)

-- the lists with the node at v
module _ (t : LabelTree) (parents steps : List ℕ) (labels : List (List ℕ)) (line v l : List ℕ) (walked : IsWalkedTo t parents steps labels line v) (here : label_at v t ≡ Some l) where
  place : path_at t (length walked.done) ≡ v
  place = ap (λ ps. get_or ps (length walked.done) []) walked.cut ∙ get_or-append_seam walked.done v (rest_of v t) []

  within : length walked.done < count_of t
  within =
      let count = length-paths_of t in
      let long = ap length walked.cut in
      let long' = length-append walked.done (v ∷ rest_of v t) in
      omega (arith, count, long, long')

  -- it is the root only where it is the first one
  below_root : 0 < length walked.done → 0 < length v
  below_root some = elim (cases_lt 0 (length v)) [
    | inl more ↦ more
    | inr none ↦
        let first : length walked.done ≡ 0 = one_number t (length walked.done) 0 within (omega arith) (place ∙ no_steps v none) in
        absurd (omega (arith, first, some))
  ]
    where
      no_steps : (v : List ℕ) → length v ≤ 0 → v ≡ []
      no_steps [] none = refl
      no_steps (k ∷ v) none = absurd (omega arith)

  line_length : length (take (length v) line) ≡ length v
  line_length = elim (cases_lt 0 (length v)) [
    | inl some ↦ let last = (walked.way (length v - 1) (omega arith)).0 in length-take-le (length v) line (omega (arith, last, some))
    | inr none ↦ let zero' : length v ≡ 0 = omega (arith, none) in length-take-le (length v) line (omega (arith, zero'))
  ]

  above_is : 0 < length v → number_above (take (length v) line) v ≡ get_or line (length v - 1) 0
  above_is some = get_or-take (length v) line (length v - 1) 0 (omega arith)

  pub entered : AreNumbered t (parents ++ number_above (take (length v) line) v ∷ []) (steps ++ last_step v ∷ []) (labels ++ l ∷ []) (suc (length walked.done))
  entered =
      let old = walked.numbered in
      let parent = number_above (take (length v) line) v in
      record {
        parents_count = length_pushed parents parent (length walked.done) old.parents_count;
        steps_count = length_pushed steps (last_step v) (length walked.done) old.steps_count;
        labels_count = length_pushed labels l (length walked.done) old.labels_count;
        smaller = λ i some lt. elim (cases_lt i (length parents)) [
          | inl before ↦ subst (λ k. k < i) (sym (get_or_append_left parents (parent ∷ []) 0 i before)) (old.smaller i some before)
          | inr last ↦
              let count = old.parents_count in
              let long = length-append parents (parent ∷ []) in
              let is : i ≡ length parents = omega (arith, last, lt, long) in
              let deep : 0 < length v = below_root (omega (arith, is, count, some)) in
              let lower = (walked.way (length v - 1) (omega (arith, deep))).1 in
              subst (λ k. k < i) (sym (above_is deep) ∙ sym (pushed_new parents parent 0 i is)) (omega (arith, lower, is, count))
        ];
        above = λ i some lt. elim (cases_lt i (length walked.done)) [
          | inl before ↦
              let count = old.parents_count in
              let count' = old.steps_count in
              subst (λ k. path_at t i ≡ path_at t k ++ get_or (steps ++ last_step v ∷ []) i 0 ∷ []) (sym (get_or_append_left parents (parent ∷ []) 0 i (omega (arith, before, count))))
              (subst (λ k. path_at t i ≡ path_at t (parent_number parents i) ++ k ∷ []) (sym (get_or_append_left steps (last_step v ∷ []) 0 i (omega (arith, before, count')))) (old.above i some before))
          | inr last ↦
              let is : i ≡ length walked.done = omega (arith, last, lt) in
              let deep : 0 < length v = below_root (omega (arith, is, some)) in
              let up = (walked.way (length v - 1) (omega (arith, deep))).2 in
              let number : parent_number (parents ++ parent ∷ []) i ≡ get_or line (length v - 1) 0 = pushed_new parents parent 0 i (is ∙ sym old.parents_count) ∙ above_is deep in
              let step : get_or (steps ++ last_step v ∷ []) i 0 ≡ last_step v = pushed_new steps (last_step v) 0 i (is ∙ sym old.steps_count) in
              ap (path_at t) is ∙ place ∙ last_of v deep ∙ ap (λ z. z ++ last_step v ∷ []) (sym up ∙ ap (path_at t) (sym number)) ∙ ap (λ k. path_at t (parent_number (parents ++ parent ∷ []) i) ++ k ∷ []) (sym step)
        ];
        label = λ i lt. elim (cases_lt i (length walked.done)) [
          | inl before ↦ let count = old.labels_count in old.label i before ∙ ap Some (sym (get_or_append_left labels (l ∷ []) [] i (omega (arith, before, count))))
          | inr last ↦
              let is : i ≡ length walked.done = omega (arith, last, lt) in
              ap (λ z. label_at z t) (ap (path_at t) is ∙ place) ∙ here ∙ ap Some (sym (pushed_new labels l [] i (is ∙ sym old.labels_count)))
        ];
      }

  pub walked_on : (w : List ℕ) → rest_of v t ≡ w ∷ rest_of w t
      → IsWalkedTo t (parents ++ number_above (take (length v) line) v ∷ []) (steps ++ last_step v ∷ []) (labels ++ l ∷ []) (take (length v) line ++ length parents ∷ []) w
  walked_on w next = record {
    done = walked.done ++ v ∷ [];
    cut = walked.cut ∙ ap (λ z. walked.done ++ v ∷ z) next ∙ sym (append_assoc walked.done (v ∷ []) (w ∷ rest_of w t));
    numbered = subst (λ k. AreNumbered t (parents ++ number_above (take (length v) line) v ∷ []) (steps ++ last_step v ∷ []) (labels ++ l ∷ []) k) (sym (length_pushed walked.done v (length walked.done) refl)) entered;
    way = λ m lt. way m lt (next_to v t w (rest_of w t) next);
  }
    where
      way : (m : ℕ) → m < length w → IsNextTo v w
          → (m < length (take (length v) line ++ length parents ∷ [])) × (get_or (take (length v) line ++ length parents ∷ []) m 0 < length (walked.done ++ v ∷ []))
          × (path_at t (get_or (take (length v) line ++ length parents ∷ []) m 0) ≡ take m w)
      way m lt turn =
          let long : length w ≡ suc turn.0 = ap length turn.3 ∙ length_pushed (take turn.0 v) turn.1 turn.0 (length-take-le turn.0 v turn.2) in
          let front : take m w ≡ take m v =
          ap (take m) turn.3 ∙ take-append-le m (take turn.0 v) (turn.1 ∷ []) (let short = length-take-le turn.0 v turn.2 in omega (arith, short, lt, long)) ∙ take_take m turn.0 v (omega (arith, lt, long)) in
          let longer = length_pushed (take (length v) line) (length parents) (length v) line_length in
          let more = length_pushed walked.done v (length walked.done) refl in
          let most : turn.0 ≤ length v = turn.2 in
          elim (cases_lt m (length v)) [
            | inl before ↦
                let old = walked.way m before in
                let same : get_or (take (length v) line ++ length parents ∷ []) m 0 ≡ get_or line m 0 =
                get_or_append_left (take (length v) line) (length parents ∷ []) 0 m (let short = line_length in omega (arith, before, short)) ∙ get_or-take (length v) line m 0 before in
                let lower = old.1 in
                (omega (arith, longer, before), omega (arith, same, lower, more), ap (path_at t) same ∙ old.2 ∙ sym front)
            | inr last ↦
                let at : m ≡ length v = omega (arith, last, lt, long, most) in
                let same : get_or (take (length v) line ++ length parents ∷ []) m 0 ≡ length parents = pushed_new (take (length v) line) (length parents) 0 m (at ∙ sym line_length) in
                let count = walked.numbered.parents_count in
                (omega (arith, longer, at), omega (arith, same, count, more), ap (path_at t) (same ∙ count) ∙ place ∙ sym (take_all m v (omega (arith, at))) ∙ sym front)
          ]

  pub walked_all : rest_of v t ≡ [] → IsNumbering t (parents ++ number_above (take (length v) line) v ∷ []) (steps ++ last_step v ∷ []) (labels ++ l ∷ [])
  walked_all none =
      let count = length-paths_of t in
      let long = ap length walked.cut in
      let long' = length-append walked.done (v ∷ rest_of v t) in
      let last = ap length none in
      let all : suc (length walked.done) ≡ count_of t = omega (arith, count, long, long', last) in
      subst (λ k. AreNumbered t (parents ++ number_above (take (length v) line) v ∷ []) (steps ++ last_step v ∷ []) (labels ++ l ∷ []) k) all entered

-- the same, where the new lists are known by equations
module _ (t : LabelTree) (parents steps : List ℕ) (labels : List (List ℕ)) (line v l : List ℕ) (walked : IsWalkedTo t parents steps labels line v) (here : label_at v t ≡ Some l) (parents' steps' : List ℕ) (labels' : List (List ℕ)) where
  pub walked_next : (line' : List ℕ) → parents' ≡ parents ++ number_above (take (length v) line) v ∷ [] → steps' ≡ steps ++ last_step v ∷ [] → labels' ≡ labels ++ l ∷ [] → line' ≡ take (length v) line ++ length parents ∷ []
      → (w : List ℕ) → rest_of v t ≡ w ∷ rest_of w t → IsWalkedTo t parents' steps' labels' line' w
  walked_next line' is_parents is_steps is_labels is_line w next = rw (is_parents, is_steps, is_labels, is_line) (walked_on t parents steps labels line v l walked here w next)

  pub walked_whole : parents' ≡ parents ++ number_above (take (length v) line) v ∷ [] → steps' ≡ steps ++ last_step v ∷ [] → labels' ≡ labels ++ l ∷ [] → rest_of v t ≡ [] → IsNumbering t parents' steps' labels'
  walked_whole is_parents is_steps is_labels none = rw (is_parents, is_steps, is_labels) (walked_all t parents steps labels line v l walked here none)
