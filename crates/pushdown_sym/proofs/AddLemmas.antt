-- Terms added one after another.
use Rattle.std.proofs.Common.{◌≡◌, eqb, ℕ, suc, ◌+◌, ◌<◌, ◌≤◌, Bool, true, false, List, [], ◌∷◌, ◌++◌, map, take, drop, length, get_or, slice_get, Some, None, Result, Ok, Err, IsErrAnd, refl, sym, ap, subst, ◌∙◌, inl, inr, append_assoc, append-nil, arith}
use Rattle.std.specs.List.{filter, flat_map}
use Rattle.std.proofs.lemmas.Bool.{cases_Bool}
use Rattle.std.proofs.lemmas.List.{take_more, take_all}
use Rattle.std.proofs.lemmas.Option.{same_Some, slice_get_within, slice_get-get_or, get_or_from_slice_get}
use Rattle.std.proofs.Math.Seq.{split_at}
use Rattle.std.proofs.lemmas.List.Concat.{flat_map-append}
use Rattle.class_diagrams.specs.References.{Reference}
use Rattle.class_diagrams.specs.declared.faults.DiagramFault.{DiagramFault}
use Rattle.class_diagrams.specs.Trees.{Tree, leaf, tand, tor, IsBranchOf}
use Rattle.class_diagrams.specs.Arena.{StartsWith, tree_at, IsIn, Arena, IsArena}
use Rattle.class_diagrams.proofs.ArenaLemmas.{tree_at-further, IsIn-further}
use Rattle.diagram_ops.specs.Steps.{Brings, Calculates}
use Rattle.diagram_ops.specs.Compositions.{tcompose, inner_results}
use Rattle.diagram_ops.proofs.HeldLemmas.{AreCovered, IsBranchOfOne, covered_left, covered_right}
use Rattle.diagram_ops.proofs.StepLemmas.{brings_itself, brings_part, brings_then, calculates_last, calculates_failed, calculates_same_error}
use Rattle.simple_core.specs.declared.rules.Local.{Local}
use Rattle.simple_core.specs.declared.system.System.{System}
use Rattle.pushdown_sym.specs.CellMap.{Entries, place_in, trees_in}
use Rattle.pushdown_sym.specs.Terms.{CellTrees, Term, local_term, conjunction, conjunctions, terms, disjunction, disjunctions, next_tree}
use Rattle.pushdown_sym.specs.Adding.{AreIn, Adds, next_in, results_in, of_local, term_at}

-- ### a list at one of its places

pub cut_at : {X : Type 0} (xs : List X) (i : ℕ) (x : X) → slice_get xs i ≡ Some x → xs ≡ take i xs ++ x ∷ drop (suc i) xs
cut_at xs i x at =
    subst (λ y. xs ≡ take i xs ++ y ∷ drop (suc i) xs) (get_or_from_slice_get xs i x x at) (split_at xs i x (slice_get_within xs i x at))

-- ### cells stay

pub cells_same : (ts us : List Tree) (cells : Entries) → StartsWith ts us → AreIn ts cells → trees_in us cells ≡ trees_in ts cells
cells_same ts us cells stays inside = λ i j a. tree_at-further ts us (place_in cells j a) stays (inside j a) i

pub cells_in : (ts us : List Tree) (cells : Entries) → StartsWith ts us → AreIn ts cells → AreIn us cells
cells_in ts us cells stays inside j a = IsIn-further ts us (place_in cells j a) stays (inside j a)

-- ### conjunctions

pub conjunction-push : (now : CellTrees) (j : ℕ) (x : Tree) (xs : List ℕ) (a : ℕ) → conjunction now j x (xs ++ a ∷ []) ≡ tand (conjunction now j x xs) (now j a)
conjunction-push now j x [] a = refl
conjunction-push now j x (b ∷ xs) a = conjunction-push now j (tand x (now j b)) xs a

conjunction_covered : (now : CellTrees) (j : ℕ) (x : Tree) (xs : List ℕ) (a : ℕ) (rest : List ℕ)
    → AreCovered (tand (conjunction now j x xs) (now j a) ∷ []) (conjunctions now j x (xs ++ a ∷ rest))
conjunction_covered now j x [] a rest y there = elim there [ inl here ↦ inl here | inr none ↦ absurd none ]
conjunction_covered now j x (b ∷ xs) a rest y there = inr (conjunction_covered now j (tand x (now j b)) xs a rest y there)

-- ### disjunctions

pub disjunction-append : (x : Tree) (ts us : List Term) → disjunction x (ts ++ us) ≡ disjunction (disjunction x ts) us
disjunction-append x [] us = refl
disjunction-append x (t ∷ ts) us = disjunction-append (tor x t.tree) ts us

tor-true : (t : Tree) → tor (leaf true) t ≡ leaf true
unfolding tor
tor-true t = refl

disjunction-true : (ts : List Term) → disjunction (leaf true) ts ≡ leaf true
disjunction-true [] = refl
disjunction-true (t ∷ ts) = ap (λ x. disjunction x ts) (tor-true t.tree) ∙ disjunction-true ts

true_stays : (s : System) (now : CellTrees) (j atom : ℕ) → now j atom ≡ leaf true → next_tree s now j atom ≡ leaf true
unfolding next_tree
true_stays s now j atom is = ap (λ x. disjunction x (terms s now j atom)) is ∙ disjunction-true (terms s now j atom)

-- a cell that holds for every label stays
pub whole_stays : (s : System) (a : Arena) (cells : Entries) (j atom : ℕ) (r : Reference) → IsArena a → AreIn a.branches cells → r ≡ place_in cells j atom → tree_at a.branches r ≡ leaf true
    → Calculates a a (results_in s a cells j atom) (next_in s a cells j atom) (Ok r)
whole_stays s a cells j atom r arena inside is whole = record {
  answer = (
    subst (IsIn a.branches) (sym is) (inside j atom),
    whole ∙ sym (true_stays s (trees_in a.branches cells) j atom (ap (tree_at a.branches) (sym is) ∙ whole)),
  );
  brings = brings_itself a (results_in s a cells j atom) arena;
}

pub covered_behind : (b us vs : List Tree) → AreCovered us vs → AreCovered (b ++ us) (b ++ vs)
covered_behind [] us vs covered x there = covered x there
covered_behind (t ∷ b) us vs covered x there = elim there [ inl here ↦ inl here | inr behind ↦ inr (covered_behind b us vs covered x behind) ]

pub disjunctions_first : (x : Tree) (ts us : List Term) → AreCovered (disjunctions x ts) (disjunctions x (ts ++ us))
disjunctions_first x [] us y there = absurd there
disjunctions_first x (t ∷ ts) us y there =
    covered_behind t.before (t.tree ∷ tor x t.tree ∷ disjunctions (tor x t.tree) ts) (t.tree ∷ tor x t.tree ∷ disjunctions (tor x t.tree) (ts ++ us))
    (λ z within. elim within [
      | inl here ↦ inl here
      | inr more ↦ elim more [ inl here ↦ inr (inl here) | inr behind ↦ inr (inr (disjunctions_first (tor x t.tree) ts us z behind)) ]
    ]) y there

pub disjunctions_second : (x : Tree) (ts us : List Term) → AreCovered (disjunctions (disjunction x ts) us) (disjunctions x (ts ++ us))
disjunctions_second x [] us y there = there
disjunctions_second x (t ∷ ts) us y there =
    covered_right t.before (t.tree ∷ tor x t.tree ∷ disjunctions (tor x t.tree) (ts ++ us)) y (inr (inr (disjunctions_second (tor x t.tree) ts us y there)))

-- ### one step of a loop over rules

-- what was added, and what is still to be
abbrev pub IsAdding : Arena → Arena → Reference → List Term → List Term → Reference → Type 0
IsAdding old d start total done sofar = Calculates old d (disjunctions (tree_at old.branches start) total) (disjunction (tree_at old.branches start) done) (Ok sofar)

module _ (old d : Arena) (start : Reference) (total done more rest : List Term) (sofar : Reference) (whole : total ≡ done ++ more ++ rest) (adding : IsAdding old d start total done sofar) where
  start_tree : tree_at d.branches sofar ≡ disjunction (tree_at old.branches start) done
  start_tree = adding.answer.1

  more_covered : AreCovered (disjunctions (tree_at d.branches sofar) more) (disjunctions (tree_at old.branches start) total)
  more_covered y there =
      subst (λ (ts : List Term). AreCovered (disjunctions (tree_at d.branches sofar) more) (disjunctions (tree_at old.branches start) ts)) (sym whole)
      (λ z within. disjunctions_first (tree_at old.branches start) (done ++ more) rest z
      (disjunctions_second (tree_at old.branches start) done more z (subst (λ t. IsBranchOfOne z (disjunctions t more)) start_tree within)))
      y there

  pub add_more : (e : Arena) (r : Result Reference DiagramFault) → Adds d e sofar more r
      → Calculates old e (disjunctions (tree_at old.branches start) total) (disjunction (tree_at old.branches start) (done ++ more)) r
  add_more e r adds =
      calculates_last old d e (disjunctions (tree_at d.branches sofar) more) (disjunctions (tree_at old.branches start) total)
      (disjunction (tree_at d.branches sofar) more) (disjunction (tree_at old.branches start) (done ++ more)) r more_covered adding.brings
      (ap (λ t. disjunction t more) start_tree ∙ sym (disjunction-append (tree_at old.branches start) done more)) adds

  pub add_failed : (e : Arena) (t u : Tree) (f : DiagramFault) → Calculates d e (disjunctions (tree_at d.branches sofar) more) t (Err f)
      → Calculates old e (disjunctions (tree_at old.branches start) total) u (Err f)
  add_failed e t u f failed =
      calculates_failed old d e (disjunctions (tree_at d.branches sofar) more) (disjunctions (tree_at old.branches start) total) t u f more_covered adding.brings failed

-- ### the terms of a list of rules

pub terms_whole : {X : Type 0} (f : X → List Term) (xs : List X) (i : ℕ) (x : X) → slice_get xs i ≡ Some x
    → flat_map f xs ≡ flat_map f (take i xs) ++ f x ++ flat_map f (drop (suc i) xs)
terms_whole f xs i x at =
    ap (flat_map f) (cut_at xs i x at)
    ∙ flat_map-append f (take i xs) (x ∷ drop (suc i) xs)
    ∙ sym (append_assoc (flat_map f (take i xs)) (f x) (flat_map f (drop (suc i) xs)))

pub terms_more : {X : Type 0} (f : X → List Term) (xs : List X) (i : ℕ) (x : X) → slice_get xs i ≡ Some x
    → flat_map f (take (i + 1) xs) ≡ flat_map f (take i xs) ++ f x
terms_more f xs i x at =
    ap (flat_map f) (take_more xs i x (slice_get_within xs i x at) ∙ (λ k. take i xs ++ get_or_from_slice_get xs i x x at k ∷ []))
    ∙ flat_map-append f (take i xs) (x ∷ [])
    ∙ ap (λ ys. flat_map f (take i xs) ++ ys) (append-nil (f x))

-- ### conjunctions in a loop

pub no_conjunction : (now : CellTrees) (j : ℕ) (needs : List ℕ) → 0 ≡ length needs → conjunction now j (leaf true) needs ≡ leaf true
no_conjunction now j [] none = refl
no_conjunction now j (a ∷ needs) none = absurd (omega (arith, none))

pub first_conjunction : (now : CellTrees) (j : ℕ) (needs : List ℕ) (a : ℕ) → slice_get needs 0 ≡ Some a → conjunction now j (leaf true) (take 1 needs) ≡ now j a
unfolding tand
first_conjunction now j [] a at = let never : None ≡ Some a = at in cc
first_conjunction now j (b ∷ needs) a at = ap (now j) (same_Some b a at)

module _ (now : CellTrees) (j : ℕ) (needs : List ℕ) (i a : ℕ) (at : slice_get needs i ≡ Some a) where
  pub conjunction_more : conjunction now j (leaf true) (take (i + 1) needs) ≡ tand (conjunction now j (leaf true) (take i needs)) (now j a)
  conjunction_more =
      ap (conjunction now j (leaf true)) (take_more needs i a (slice_get_within needs i a at) ∙ (λ k. take i needs ++ get_or_from_slice_get needs i a a at k ∷ []))
      ∙ conjunction-push now j (leaf true) (take i needs) a

  pub conjunction_part : AreCovered (tand (conjunction now j (leaf true) (take i needs)) (now j a) ∷ []) (conjunctions now j (leaf true) needs)
  conjunction_part =
      subst (λ xs. AreCovered (tand (conjunction now j (leaf true) (take i needs)) (now j a) ∷ []) (conjunctions now j (leaf true) xs)) (sym (cut_at needs i a at))
      (conjunction_covered now j (leaf true) (take i needs) a (drop (suc i) needs))

-- the conjunction so far, and one atom more
module _ (old d : Arena) (cells : Entries) (j : ℕ) (inside : (b : ℕ) → IsIn old.branches (place_in cells j b)) (needs : List ℕ) (i a : ℕ) (at : slice_get needs i ≡ Some a) (sofar g : Reference) (is : g ≡ place_in cells j a)
    (before : Calculates old d (conjunctions (trees_in old.branches cells) j (leaf true) needs) (conjunction (trees_in old.branches cells) j (leaf true) (take i needs)) (Ok sofar)) where
  both_trees : tand (tree_at d.branches sofar) (tree_at d.branches g)
      ≡ tand (conjunction (trees_in old.branches cells) j (leaf true) (take i needs)) (trees_in old.branches cells j a)
  both_trees = λ k. tand (before.answer.1 k) ((ap (tree_at d.branches) is ∙ tree_at-further old.branches d.branches (place_in cells j a) before.brings.stays (inside a)) k)

  both_covered : AreCovered (tand (tree_at d.branches sofar) (tree_at d.branches g) ∷ []) (conjunctions (trees_in old.branches cells) j (leaf true) needs)
  both_covered =
      subst (λ t. AreCovered (t ∷ []) (conjunctions (trees_in old.branches cells) j (leaf true) needs)) (sym both_trees)
      (conjunction_part (trees_in old.branches cells) j needs i a at)

  pub one_more : (e : Arena) (r : Result Reference DiagramFault)
      → Calculates d e (tand (tree_at d.branches sofar) (tree_at d.branches g) ∷ []) (tand (tree_at d.branches sofar) (tree_at d.branches g)) r
      → Calculates old e (conjunctions (trees_in old.branches cells) j (leaf true) needs) (conjunction (trees_in old.branches cells) j (leaf true) (take (i + 1) needs)) r
  one_more e r last =
      calculates_last old d e (tand (tree_at d.branches sofar) (tree_at d.branches g) ∷ []) (conjunctions (trees_in old.branches cells) j (leaf true) needs)
      (tand (tree_at d.branches sofar) (tree_at d.branches g)) (conjunction (trees_in old.branches cells) j (leaf true) (take (i + 1) needs)) r
      both_covered before.brings (both_trees ∙ sym (conjunction_more (trees_in old.branches cells) j needs i a at)) last

  pub one_failed : (e : Arena) (t u : Tree) (f : DiagramFault)
      → Calculates d e (tand (tree_at d.branches sofar) (tree_at d.branches g) ∷ []) t (Err f)
      → Calculates old e (conjunctions (trees_in old.branches cells) j (leaf true) needs) u (Err f)
  one_failed e t u f failed =
      calculates_failed old d e (tand (tree_at d.branches sofar) (tree_at d.branches g) ∷ []) (conjunctions (trees_in old.branches cells) j (leaf true) needs) t u f
      both_covered before.brings failed

-- a filter and a map as one
pub filtered : {X Y : Type 0} (q : X → Bool) (g : X → Y) (xs : List X) → map g (filter q xs) ≡ flat_map (λ x. elim (q x) [ true ↦ g x ∷ [] | false ↦ [] ]) xs
filtered q g [] = refl
filtered q g (x ∷ xs) = elim (cases_Bool (q x)) [
  | inl passes ↦ rw passes (ap (λ ys. g x ∷ ys) (filtered q g xs))
  | inr fails ↦ rw fails (filtered q g xs)
]

-- ### one term

module _ (a b : Arena) (sofar : Reference) (t : Term) (sofar_in : IsIn a.branches sofar) (arena : IsArena a) where
  pub term_failed : (u w : Tree) (e : DiagramFault) → Calculates a b t.before u (Err e) → Calculates a b (disjunctions (tree_at a.branches sofar) (t ∷ [])) w (Err e)
  term_failed u w e failed =
      calculates_failed a a b t.before (disjunctions (tree_at a.branches sofar) (t ∷ [])) u w e (covered_left t.before (t.tree ∷ tor (tree_at a.branches sofar) t.tree ∷ []))
      (brings_itself a (disjunctions (tree_at a.branches sofar) (t ∷ [])) arena) failed

  pub term_added : (c : Arena) (g : Reference) (r : Result Reference DiagramFault) → Calculates a b t.before t.tree (Ok g)
      → Calculates b c (tor (tree_at b.branches sofar) (tree_at b.branches g) ∷ []) (tor (tree_at b.branches sofar) (tree_at b.branches g)) r
      → Adds a c sofar (t ∷ []) r
  term_added c g r first second =
      let same : tor (tree_at b.branches sofar) (tree_at b.branches g) ≡ tor (tree_at a.branches sofar) t.tree =
      λ k. tor (tree_at-further a.branches b.branches sofar first.brings.stays sofar_in k) (first.answer.1 k) in
      calculates_last a b c (tor (tree_at b.branches sofar) (tree_at b.branches g) ∷ []) (disjunctions (tree_at a.branches sofar) (t ∷ []))
      (tor (tree_at b.branches sofar) (tree_at b.branches g)) (tor (tree_at a.branches sofar) t.tree) r
      (λ x there. covered_right t.before (t.tree ∷ tor (tree_at a.branches sofar) t.tree ∷ []) x
      (elim there [ inl here ↦ inr (inl (subst (λ u. IsBranchOf x u) same here)) | inr none ↦ absurd none ]))
      (brings_part a b t.before (disjunctions (tree_at a.branches sofar) (t ∷ [])) (covered_left t.before (t.tree ∷ tor (tree_at a.branches sofar) t.tree ∷ [])) first.brings)
      same second

pub nothing_added : (a : Arena) (sofar : Reference) → IsArena a → IsIn a.branches sofar → Adds a a sofar [] (Ok sofar)
nothing_added a sofar arena within = record { answer = (within, refl); brings = brings_itself a [] arena }

pub of_local-gives : (now : CellTrees) (j a : ℕ) (r : Local) → true ≡ eqb r.gives a → of_local now j a r ≡ local_term now j r ∷ []
of_local-gives now j a r gives = rw (← gives) refl

-- ### a loop over rules

-- where the terms of each rule stay as the arena grows
module _ {X : Type 0} (f : List Tree → X → List Term) (old : Arena) (start : Reference) (xs : List X)
    (same : (us : List Tree) (i : ℕ) (x : X) → i < length xs → x ≡ get_or xs i x → StartsWith old.branches us → f us x ≡ f old.branches x) where
  pub each_start : IsArena old → IsIn old.branches start → IsAdding old old start (flat_map (f old.branches) xs) [] start
  each_start arena within = record { answer = (within, refl); brings = brings_itself old (disjunctions (tree_at old.branches start) (flat_map (f old.branches) xs)) arena }

  module _ (d : Arena) (sofar : Reference) (i : ℕ) (x : X) (less : i < length xs) (item : x ≡ get_or xs i x)
      (adding : IsAdding old d start (flat_map (f old.branches) xs) (flat_map (f old.branches) (take i xs)) sofar) where
    listed : slice_get xs i ≡ Some x
    listed = slice_get-get_or xs i x less ∙ ap (λ y. Some y) (sym item)

    now_same : f d.branches x ≡ f old.branches x
    now_same = same d.branches i x less item adding.brings.stays

    pub each_more : (e : Arena) (r : Result Reference DiagramFault) → Adds d e sofar (f d.branches x) r
        → Calculates old e (disjunctions (tree_at old.branches start) (flat_map (f old.branches) xs))
        (disjunction (tree_at old.branches start) (flat_map (f old.branches) (take (i + 1) xs))) r
    each_more e r adds =
        subst (λ (ts : List Term). Calculates old e (disjunctions (tree_at old.branches start) (flat_map (f old.branches) xs)) (disjunction (tree_at old.branches start) ts) r)
        (sym (terms_more (f old.branches) xs i x listed))
        (add_more old d start (flat_map (f old.branches) xs) (flat_map (f old.branches) (take i xs)) (f old.branches x)
        (flat_map (f old.branches) (drop (suc i) xs)) sofar (terms_whole (f old.branches) xs i x listed) adding e r
        (subst (λ (ts : List Term). Adds d e sofar ts r) now_same adds))

    pub each_failed : (e : Arena) (r : Result Reference DiagramFault) (u : Tree) (g : DiagramFault) → IsErrAnd r (λ y. y ≡ g) → Adds d e sofar (f d.branches x) (Err g)
        → Calculates old e (disjunctions (tree_at old.branches start) (flat_map (f old.branches) xs)) u r
    each_failed e r u g is adds =
        calculates_same_error old e (disjunctions (tree_at old.branches start) (flat_map (f old.branches) xs)) u r g is
        (add_failed old d start (flat_map (f old.branches) xs) (flat_map (f old.branches) (take i xs)) (f old.branches x)
        (flat_map (f old.branches) (drop (suc i) xs)) sofar (terms_whole (f old.branches) xs i x listed) adding e
        (disjunction (tree_at d.branches sofar) (f old.branches x)) u g
        (subst (λ (ts : List Term). Adds d e sofar ts (Err g)) now_same adds))

  pub each_end : (d : Arena) (sofar : Reference) (i : ℕ) → length xs ≤ i
      → IsAdding old d start (flat_map (f old.branches) xs) (flat_map (f old.branches) (take i xs)) sofar
      → Adds old d start (flat_map (f old.branches) xs) (Ok sofar)
  each_end d sofar i past adding =
      subst (λ (ys : List X). IsAdding old d start (flat_map (f old.branches) xs) (flat_map (f old.branches) ys) sofar) (take_all i xs past) adding

-- where the terms are of the cells alone
module _ {X : Type 0} (f : CellTrees → X → List Term) (old : Arena) (cells : Entries) (inside : AreIn old.branches cells) (start : Reference) (xs : List X) where
  abbrev of_cells : List Tree → X → List Term
  of_cells ts x = f (trees_in ts cells) x

  cells_stay : (us : List Tree) (i : ℕ) (x : X) → i < length xs → x ≡ get_or xs i x → StartsWith old.branches us → of_cells us x ≡ of_cells old.branches x
  cells_stay us i x less item stays = ap (λ (now : CellTrees). f now x) (cells_same old.branches us cells stays inside)

  pub loop_start : IsArena old → IsIn old.branches start → IsAdding old old start (flat_map (f (trees_in old.branches cells)) xs) [] start
  loop_start arena within = each_start of_cells old start xs cells_stay arena within

  module _ (d : Arena) (sofar : Reference) (i : ℕ) (x : X) (less : i < length xs) (item : x ≡ get_or xs i x)
      (adding : IsAdding old d start (flat_map (f (trees_in old.branches cells)) xs) (flat_map (f (trees_in old.branches cells)) (take i xs)) sofar) where
    pub loop_more : (e : Arena) (r : Result Reference DiagramFault) → Adds d e sofar (f (trees_in d.branches cells) x) r
        → Calculates old e (disjunctions (tree_at old.branches start) (flat_map (f (trees_in old.branches cells)) xs))
        (disjunction (tree_at old.branches start) (flat_map (f (trees_in old.branches cells)) (take (i + 1) xs))) r
    loop_more e r adds = each_more of_cells old start xs cells_stay d sofar i x less item adding e r adds

    pub loop_failed : (e : Arena) (r : Result Reference DiagramFault) (u : Tree) (g : DiagramFault) → IsErrAnd r (λ y. y ≡ g) → Adds d e sofar (f (trees_in d.branches cells) x) (Err g)
        → Calculates old e (disjunctions (tree_at old.branches start) (flat_map (f (trees_in old.branches cells)) xs)) u r
    loop_failed e r u g is adds = each_failed of_cells old start xs cells_stay d sofar i x less item adding e r u g is adds

  pub loop_end : (d : Arena) (sofar : Reference) (i : ℕ) → length xs ≤ i
      → IsAdding old d start (flat_map (f (trees_in old.branches cells)) xs) (flat_map (f (trees_in old.branches cells)) (take i xs)) sofar
      → Adds old d start (flat_map (f (trees_in old.branches cells)) xs) (Ok sofar)
  loop_end d sofar i past adding = each_end of_cells old start xs cells_stay d sofar i past adding

-- ### the term of a child

module _ (a : Arena) (there child : Reference) (by : ℕ → Tree) (sofar : Reference) (arena : IsArena a) (there_in : IsIn a.branches there) (sofar_in : IsIn a.branches sofar) where
  term_of : Term
  term_of = term_at a.branches there child by

  composed_covered : AreCovered (inner_results (tree_at a.branches child) by) (disjunctions (tree_at a.branches sofar) (term_at a.branches there child by ∷ []))
  composed_covered x within = inr (covered_left (inner_results (tree_at a.branches child) by) _ x within)

  pub child_failed : (b : Arena) (r : Result Reference DiagramFault) (t u : Tree) (e : DiagramFault) → IsErrAnd r (λ y. y ≡ e)
      → Calculates a b (inner_results (tree_at a.branches child) by) t (Err e) → Calculates a b (disjunctions (tree_at a.branches sofar) (term_at a.branches there child by ∷ [])) u r
  child_failed b r t u e is failed =
      calculates_same_error a b (disjunctions (tree_at a.branches sofar) (term_at a.branches there child by ∷ [])) u r e is
      (calculates_failed a a b (inner_results (tree_at a.branches child) by) (disjunctions (tree_at a.branches sofar) (term_at a.branches there child by ∷ [])) t u e composed_covered
      (brings_itself a (disjunctions (tree_at a.branches sofar) (term_at a.branches there child by ∷ [])) arena) failed)

  module _ (b : Arena) (g : Reference)
      (first : Calculates a b (inner_results (tree_at a.branches child) by) (tcompose (tree_at a.branches child) by) (Ok g)) where
    first_brings : Brings a b (disjunctions (tree_at a.branches sofar) (term_at a.branches there child by ∷ []))
    first_brings = brings_part a b (inner_results (tree_at a.branches child) by) (disjunctions (tree_at a.branches sofar) (term_at a.branches there child by ∷ [])) composed_covered first.brings

    conjunction_tree : tand (tree_at b.branches there) (tree_at b.branches g) ≡ tand (tree_at a.branches there) (tcompose (tree_at a.branches child) by)
    conjunction_tree = λ k. tand (tree_at-further a.branches b.branches there first.brings.stays there_in k) (first.answer.1 k)

    term_covered : AreCovered (tand (tree_at b.branches there) (tree_at b.branches g) ∷ []) (disjunctions (tree_at a.branches sofar) (term_at a.branches there child by ∷ []))
    term_covered x within =
        inr (covered_right (inner_results (tree_at a.branches child) by) _ x
        (elim within [ inl here ↦ inl (subst (λ t. IsBranchOf x t) conjunction_tree here) | inr none ↦ absurd none ]))

    pub and_failed : (c : Arena) (r : Result Reference DiagramFault) (t u : Tree) (e : DiagramFault) → IsErrAnd r (λ y. y ≡ e)
        → Calculates b c (tand (tree_at b.branches there) (tree_at b.branches g) ∷ []) t (Err e) → Calculates a c (disjunctions (tree_at a.branches sofar) (term_at a.branches there child by ∷ [])) u r
    and_failed c r t u e is failed =
        calculates_same_error a c (disjunctions (tree_at a.branches sofar) (term_at a.branches there child by ∷ [])) u r e is
        (calculates_failed a b c (tand (tree_at b.branches there) (tree_at b.branches g) ∷ []) (disjunctions (tree_at a.branches sofar) (term_at a.branches there child by ∷ [])) t u e term_covered first_brings failed)

    module _ (c : Arena) (h : Reference)
        (second : Calculates b c (tand (tree_at b.branches there) (tree_at b.branches g) ∷ []) (tand (tree_at b.branches there) (tree_at b.branches g)) (Ok h)) where
      both_brings : Brings a c (disjunctions (tree_at a.branches sofar) (term_at a.branches there child by ∷ []))
      both_brings = brings_then a b c (tand (tree_at b.branches there) (tree_at b.branches g) ∷ []) (disjunctions (tree_at a.branches sofar) (term_at a.branches there child by ∷ [])) term_covered first_brings second.brings

      whole_tree : tor (tree_at c.branches sofar) (tree_at c.branches h) ≡ tor (tree_at a.branches sofar) (tand (tree_at a.branches there) (tcompose (tree_at a.branches child) by))
      whole_tree = λ k. tor (tree_at-further a.branches c.branches sofar both_brings.stays sofar_in k) ((second.answer.1 ∙ conjunction_tree) k)

      pub child_added : (d : Arena) (r : Result Reference DiagramFault)
          → Calculates c d (tor (tree_at c.branches sofar) (tree_at c.branches h) ∷ []) (tor (tree_at c.branches sofar) (tree_at c.branches h)) r
          → Adds a d sofar (term_at a.branches there child by ∷ []) r
      child_added d r third =
          calculates_last a c d (tor (tree_at c.branches sofar) (tree_at c.branches h) ∷ []) (disjunctions (tree_at a.branches sofar) (term_at a.branches there child by ∷ []))
          (tor (tree_at c.branches sofar) (tree_at c.branches h)) (disjunction (tree_at a.branches sofar) (term_at a.branches there child by ∷ [])) r
          (λ x within. inr (covered_right (inner_results (tree_at a.branches child) by) _ x
          (elim within [ inl here ↦ inr (inl (subst (λ t. IsBranchOf x t) whole_tree here)) | inr none ↦ absurd none ])))
          both_brings whole_tree third
