-- A composition, step by step.
use Rattle.std.proofs.Common.{◌≡◌, ℕ, List, [], ◌∷◌, ◌++◌, All, Contains, Result, Ok, Err, IsErrAnd, ◌<◌, arith, refl, sym, ap, subst, ◌∙◌, inl, inr, ◌⊎◌}
use Rattle.std.proofs.lemmas.List.Elements.{All-head, All-tail}
use Rattle.class_diagrams.specs.References.{Reference}
use Rattle.class_diagrams.specs.declared.faults.DiagramFault.{DiagramFault}
use Rattle.class_diagrams.specs.Trees.{Tree, branch, tand, tor, IsBranchOf}
use Rattle.class_diagrams.specs.Pairs.{size}
use Rattle.class_diagrams.specs.Arena.{StartsWith, tree_at, IsIn, Arena, IsArena}
use Rattle.class_diagrams.proofs.ArenaLemmas.{tree_at-further, IsIn-further}
use Rattle.diagram_ops.specs.Compositions.{tcompose, inner_results, tree_by}
use Rattle.diagram_ops.specs.Memo.{IsRight, AreRight}
use Rattle.diagram_ops.specs.Steps.{Brings, Calculates, joined_tree, joined_results}
use Rattle.diagram_ops.proofs.HeldLemmas.{AreCovered, covered_left, covered_right}
use Rattle.diagram_ops.proofs.StepLemmas.{brings_itself, brings_part, brings_then, calculates_last, calculates_failed, calculates_same_error}

-- ### the diagrams in the place of atoms stay

tree_by-at : (ts us : List Tree) (by : List (ℕ × Reference)) (atom : ℕ) → StartsWith ts us → All (λ e. IsIn ts e.1) by → tree_by us by atom ≡ tree_by ts by atom
tree_by-at ts us [] atom first each = refl
tree_by-at ts us (e ∷ by) atom first each =
    rw (
      tree_at-further ts us e.1 first (All-head (λ (e : ℕ × Reference). IsIn ts e.1) e by each),
      tree_by-at ts us by atom first (All-tail (λ (e : ℕ × Reference). IsIn ts e.1) e by each),
    ) refl

pub tree_by-further : (ts us : List Tree) (by : List (ℕ × Reference)) → StartsWith ts us → All (λ e. IsIn ts e.1) by → tree_by us by ≡ tree_by ts by
tree_by-further ts us by first each = λ i atom. tree_by-at ts us by atom first each i

pub entries-further : (ts us : List Tree) (by : List (ℕ × Reference)) → StartsWith ts us → All (λ e. IsIn ts e.1) by → All (λ e. IsIn us e.1) by
entries-further ts us by first each k d within = IsIn-further ts us _ first (each k d within)

-- ### what is remembered stays right

pub right-further : (ts us : List Tree) (by : ℕ → Tree) (entries : List (Reference × Reference)) → StartsWith ts us → AreRight ts by entries → AreRight us by entries
right-further ts us by entries first right entry there =
    let at = right entry there in
    record {
      first = IsIn-further ts us entry.0 first at.first;
      result = IsIn-further ts us entry.1 first at.result;
      tree = tree_at-further ts us entry.1 first at.result ∙ at.tree ∙ ap (λ t. tcompose t by) (sym (tree_at-further ts us entry.0 first at.first));
    }

-- ### a branch's inner results

covered_low : (by : ℕ → Tree) (a : ℕ) (l h : Tree) → AreCovered (inner_results l by) (inner_results (branch a l h) by)
covered_low by a l h x there =
    covered_left (inner_results l by ++ inner_results h by) _ x (covered_left (inner_results l by) (inner_results h by) x there)

covered_high : (by : ℕ → Tree) (a : ℕ) (l h : Tree) → AreCovered (inner_results h by) (inner_results (branch a l h) by)
covered_high by a l h x there =
    covered_left (inner_results l by ++ inner_results h by) _ x (covered_right (inner_results l by) (inner_results h by) x there)

covered_joined : (by : ℕ → Tree) (a : ℕ) (l h : Tree) → AreCovered (tand (by a) (tcompose h by) ∷ tcompose (branch a l h) by ∷ []) (inner_results (branch a l h) by)
covered_joined by a l h x there =
    covered_right (inner_results l by ++ inner_results h by) _ x (inr (inr there))

module _ (a : Arena) (f : Reference) (by : ℕ → Tree) (atom : ℕ) (low high : Reference) (arena : IsArena a) (low_in : IsIn a.branches low) (high_in : IsIn a.branches high)
    (is : tree_at a.branches f ≡ branch atom (tree_at a.branches low) (tree_at a.branches high)) where
  whole : List Tree
  whole = inner_results (tree_at a.branches f) by

  of_branch : (part : List Tree) → AreCovered part (inner_results (branch atom (tree_at a.branches low) (tree_at a.branches high)) by) → AreCovered part (inner_results (tree_at a.branches f) by)
  of_branch part covered = subst (λ t. AreCovered part (inner_results t by)) (sym is) covered

  low_covered : AreCovered (inner_results (tree_at a.branches low) by) (inner_results (tree_at a.branches f) by)
  low_covered = of_branch _ (covered_low by atom (tree_at a.branches low) (tree_at a.branches high))

  pub low_failed : (b : Arena) (t u : Tree) (e : DiagramFault) → Calculates a b (inner_results (tree_at a.branches low) by) t (Err e)
      → Calculates a b (inner_results (tree_at a.branches f) by) u (Err e)
  low_failed b t u e failed =
      calculates_failed a a b (inner_results (tree_at a.branches low) by) (inner_results (tree_at a.branches f) by) t u e low_covered
      (brings_itself a (inner_results (tree_at a.branches f) by) arena) failed

  module _ (b : Arena) (l : Reference) (other : ℕ → Tree) (same : other ≡ by) (first : Calculates a b (inner_results (tree_at a.branches low) by) (tcompose (tree_at a.branches low) by) (Ok l)) where
    high_same : tree_at b.branches high ≡ tree_at a.branches high
    high_same = tree_at-further a.branches b.branches high first.brings.stays high_in

    high_covered : AreCovered (inner_results (tree_at b.branches high) other) (inner_results (tree_at a.branches f) by)
    high_covered =
        subst (λ t. AreCovered (inner_results t other) (inner_results (tree_at a.branches f) by)) (sym high_same)
        (subst (λ (g : ℕ → Tree). AreCovered (inner_results (tree_at a.branches high) g) (inner_results (tree_at a.branches f) by)) (sym same)
        (of_branch _ (covered_high by atom (tree_at a.branches low) (tree_at a.branches high))))

    low_brings : Brings a b (inner_results (tree_at a.branches f) by)
    low_brings = brings_part a b (inner_results (tree_at a.branches low) by) (inner_results (tree_at a.branches f) by) low_covered first.brings

    pub high_failed : (c : Arena) (t u : Tree) (e : DiagramFault) → Calculates b c (inner_results (tree_at b.branches high) other) t (Err e)
        → Calculates a c (inner_results (tree_at a.branches f) by) u (Err e)
    high_failed c t u e failed =
        calculates_failed a b c (inner_results (tree_at b.branches high) other) (inner_results (tree_at a.branches f) by) t u e high_covered low_brings failed

    module _ (c : Arena) (h : Reference) (second : Calculates b c (inner_results (tree_at b.branches high) other) (tcompose (tree_at b.branches high) other) (Ok h)) where
      pub both_bring : Brings a c (inner_results (tree_at a.branches f) by)
      both_bring = brings_then a b c (inner_results (tree_at b.branches high) other) (inner_results (tree_at a.branches f) by) high_covered low_brings second.brings

      pub low_in_both : IsIn c.branches l
      low_in_both = IsIn-further b.branches c.branches l second.brings.stays first.answer.0

      low_tree : tree_at c.branches l ≡ tcompose (tree_at a.branches low) by
      low_tree = tree_at-further b.branches c.branches l second.brings.stays first.answer.0 ∙ first.answer.1

      high_tree : tree_at c.branches h ≡ tcompose (tree_at a.branches high) by
      high_tree = second.answer.1 ∙ (λ i. tcompose (high_same i) (same i))

      module _ (put : Reference) (put_tree : tree_at c.branches put ≡ by atom) where
        both : tand (tree_at c.branches put) (tree_at c.branches h) ≡ tand (by atom) (tcompose (tree_at a.branches high) by)
        both = λ i. tand (put_tree i) (high_tree i)

        all : joined_tree c put l h ≡ tcompose (branch atom (tree_at a.branches low) (tree_at a.branches high)) by
        all = λ i. tor (low_tree i) (both i)

        joined_covered : AreCovered (joined_results c put l h) (inner_results (tree_at a.branches f) by)
        joined_covered =
            subst (λ (ts : List Tree). AreCovered ts (inner_results (tree_at a.branches f) by)) (λ i. sym both i ∷ sym all i ∷ [])
            (of_branch (tand (by atom) (tcompose (tree_at a.branches high) by) ∷ tcompose (branch atom (tree_at a.branches low) (tree_at a.branches high)) by ∷ []) (covered_joined by atom (tree_at a.branches low) (tree_at a.branches high)))

        pub joined_whole : (d : Arena) (r : Result Reference DiagramFault) → Calculates c d (joined_results c put l h) (joined_tree c put l h) r
            → Calculates a d (inner_results (tree_at a.branches f) by) (tcompose (tree_at a.branches f) by) r
        joined_whole d r third =
            calculates_last a c d (joined_results c put l h) (inner_results (tree_at a.branches f) by) (joined_tree c put l h) (tcompose (tree_at a.branches f) by) r
            joined_covered both_bring (all ∙ ap (λ t. tcompose t by) (sym is)) third

-- ### the two operations of a branch

module _ (a : Arena) (put low high : Reference) (arena : IsArena a) where
  pub joined_failed : (b : Arena) (t u : Tree) (e : DiagramFault) → Calculates a b (tand (tree_at a.branches put) (tree_at a.branches high) ∷ []) t (Err e)
      → Calculates a b (joined_results a put low high) u (Err e)
  joined_failed b t u e failed =
      calculates_failed a a b (tand (tree_at a.branches put) (tree_at a.branches high) ∷ []) (joined_results a put low high) t u e
      (λ x there. elim there [ inl here ↦ inl here | inr none ↦ absurd none ]) (brings_itself a (joined_results a put low high) arena) failed

  pub joined_both : (b c : Arena) (both : Reference) (r : Result Reference DiagramFault) → IsIn a.branches low
      → Calculates a b (tand (tree_at a.branches put) (tree_at a.branches high) ∷ []) (tand (tree_at a.branches put) (tree_at a.branches high)) (Ok both)
      → Calculates b c (tor (tree_at b.branches low) (tree_at b.branches both) ∷ []) (tor (tree_at b.branches low) (tree_at b.branches both)) r
      → Calculates a c (joined_results a put low high) (joined_tree a put low high) r
  joined_both b c both r low_in first second =
      let same : tor (tree_at b.branches low) (tree_at b.branches both) ≡ joined_tree a put low high =
      λ i. tor (tree_at-further a.branches b.branches low first.brings.stays low_in i) (first.answer.1 i) in
      calculates_last a b c (tor (tree_at b.branches low) (tree_at b.branches both) ∷ []) (joined_results a put low high)
      (tor (tree_at b.branches low) (tree_at b.branches both)) (joined_tree a put low high) r
      (λ x there. elim there [ inl here ↦ inr (inl (subst (λ t. IsBranchOf x t) same here)) | inr none ↦ absurd none ])
      (brings_part a b (tand (tree_at a.branches put) (tree_at a.branches high) ∷ []) (joined_results a put low high)
      (λ x there. elim there [ inl here ↦ inl here | inr none ↦ absurd none ]) first.brings)
      same second

-- ### a leaf, or what is remembered

pub calculates_known : (a : Arena) (results : List Tree) (t : Tree) (r : Reference) → IsArena a → IsIn a.branches r → tree_at a.branches r ≡ t → Calculates a a results t (Ok r)
calculates_known a results t r arena within tree = record { answer = (within, tree); brings = brings_itself a results arena }

-- ### the diagram of an atom

pub found_inside : (ts : List Tree) (e : ℕ × Reference) (by : List (ℕ × Reference)) → All (λ e. IsIn ts e.1) (e ∷ by) → IsIn ts e.1 × All (λ e. IsIn ts e.1) by
found_inside ts e by each = (All-head (λ (e : ℕ × Reference). IsIn ts e.1) e by each, All-tail (λ (e : ℕ × Reference). IsIn ts e.1) e by each)

-- ### one composition more is remembered

pub right-note : (ts : List Tree) (by : ℕ → Tree) (old new : List (Reference × Reference)) (f r : Reference) → IsIn ts f → IsIn ts r → tree_at ts r ≡ tcompose (tree_at ts f) by
    → ((entry : Reference × Reference) → Contains new entry → Contains old entry ⊎ (entry ≡ (f, r))) → AreRight ts by old → AreRight ts by new
right-note ts by old new f r f_in r_in tree noted right entry there = elim (noted entry there) [
  | inl before ↦ right entry before
  | inr is ↦ subst (λ (e : Reference × Reference). IsRight ts by e) (sym is) (record { first = f_in; result = r_in; tree = tree })
]

-- ### the same with the diagrams' list

module _ (a : Arena) (f : Reference) (pairs : List (ℕ × Reference)) (atom : ℕ) (low high : Reference) (arena : IsArena a) (each : All (λ e. IsIn a.branches e.1) pairs)
    (parts : IsIn a.branches low × IsIn a.branches high × (tree_at a.branches f ≡ branch atom (tree_at a.branches low) (tree_at a.branches high))) where
  pub run_low_failed : (b : Arena) (r : Result Reference DiagramFault) (t u : Tree) (e : DiagramFault) → IsErrAnd r (λ x. x ≡ e)
      → Calculates a b (inner_results (tree_at a.branches low) (tree_by a.branches pairs)) t (Err e)
      → Calculates a b (inner_results (tree_at a.branches f) (tree_by a.branches pairs)) u r
  run_low_failed b r t u e is failed =
      calculates_same_error a b (inner_results (tree_at a.branches f) (tree_by a.branches pairs)) u r e is
      (low_failed a f (tree_by a.branches pairs) atom low high arena parts.0 parts.1 parts.2 b t u e failed)

  module _ (b : Arena) (l : Reference)
      (first : Calculates a b (inner_results (tree_at a.branches low) (tree_by a.branches pairs)) (tcompose (tree_at a.branches low) (tree_by a.branches pairs)) (Ok l)) where
    pub by_same : tree_by b.branches pairs ≡ tree_by a.branches pairs
    by_same = tree_by-further a.branches b.branches pairs first.brings.stays each

    pub high_inside : IsIn b.branches high
    high_inside = IsIn-further a.branches b.branches high first.brings.stays parts.1

    pub high_smaller : size (tree_at b.branches high) < size (tree_at a.branches f)
    high_smaller = rw (tree_at-further a.branches b.branches high first.brings.stays parts.1, parts.2) (omega arith)

    pub each_inside : All (λ e. IsIn b.branches e.1) pairs
    each_inside = entries-further a.branches b.branches pairs first.brings.stays each

    pub right_there : (c : Arena) (entries : List (Reference × Reference)) → AreRight c.branches (tree_by a.branches pairs) entries → AreRight c.branches (tree_by b.branches pairs) entries
    right_there c entries right = subst (λ (g : ℕ → Tree). AreRight c.branches g entries) (sym by_same) right

    pub right_back : (c : Arena) (entries : List (Reference × Reference)) → AreRight c.branches (tree_by b.branches pairs) entries → AreRight c.branches (tree_by a.branches pairs) entries
    right_back c entries right = subst (λ (g : ℕ → Tree). AreRight c.branches g entries) by_same right

    pub run_high_failed : (c : Arena) (r : Result Reference DiagramFault) (t u : Tree) (e : DiagramFault) → IsErrAnd r (λ x. x ≡ e)
        → Calculates b c (inner_results (tree_at b.branches high) (tree_by b.branches pairs)) t (Err e)
        → Calculates a c (inner_results (tree_at a.branches f) (tree_by a.branches pairs)) u r
    run_high_failed c r t u e is failed =
        calculates_same_error a c (inner_results (tree_at a.branches f) (tree_by a.branches pairs)) u r e is
        (high_failed a f (tree_by a.branches pairs) atom low high arena parts.0 parts.1 parts.2 b l (tree_by b.branches pairs) by_same first c t u e failed)

    module _ (c : Arena) (h : Reference)
        (second : Calculates b c (inner_results (tree_at b.branches high) (tree_by b.branches pairs)) (tcompose (tree_at b.branches high) (tree_by b.branches pairs)) (Ok h)) where
      pub each_later : All (λ e. IsIn c.branches e.1) pairs
      each_later = entries-further b.branches c.branches pairs second.brings.stays each_inside

      put_same : (put : Reference) → tree_at c.branches put ≡ tree_by c.branches pairs atom → tree_at c.branches put ≡ tree_by a.branches pairs atom
      put_same put tree = tree ∙ (λ i. tree_by-further b.branches c.branches pairs second.brings.stays each_inside i atom) ∙ (λ i. by_same i atom)

      module _ (put : Reference) (put_tree : tree_at c.branches put ≡ tree_by c.branches pairs atom) (d : Arena) where
        pub run_whole : (r : Result Reference DiagramFault) → Calculates c d (joined_results c put l h) (joined_tree c put l h) r
            → Calculates a d (inner_results (tree_at a.branches f) (tree_by a.branches pairs)) (tcompose (tree_at a.branches f) (tree_by a.branches pairs)) r
        run_whole r third =
            joined_whole a f (tree_by a.branches pairs) atom low high arena parts.0 parts.1 parts.2 b l (tree_by b.branches pairs) by_same first c h second
            put (put_same put put_tree) d r third

        pub right_later : (entries : List (Reference × Reference)) → StartsWith c.branches d.branches → AreRight c.branches (tree_by b.branches pairs) entries → AreRight d.branches (tree_by a.branches pairs) entries
        right_later entries stays right = right-further c.branches d.branches (tree_by a.branches pairs) entries stays (right_back c entries right)

        pub right_noted : (old new : List (Reference × Reference)) (r : Reference) → IsIn a.branches f → Calculates c d (joined_results c put l h) (joined_tree c put l h) (Ok r)
            → ((entry : Reference × Reference) → Contains new entry → Contains old entry ⊎ (entry ≡ (f, r))) → AreRight c.branches (tree_by b.branches pairs) old → AreRight d.branches (tree_by a.branches pairs) new
        right_noted old new r f_in third noted right =
            let whole = run_whole (Ok r) third in
            right-note d.branches (tree_by a.branches pairs) old new f r (IsIn-further a.branches d.branches f whole.brings.stays f_in) whole.answer.0
            (whole.answer.1 ∙ ap (λ t. tcompose t (tree_by a.branches pairs)) (sym (tree_at-further a.branches d.branches f whole.brings.stays f_in)))
            noted (right_later old third.brings.stays right)
