-- What compositions mean, and that they keep the condition of decision trees.
use Rattle.std.proofs.Common.{◌≡◌, ℕ, Bool, true, false, ◌&&◌, ◌||◌, cond, List, [], ◌∷◌, ◌++◌, Contains, inl, inr, refl, sym}
use Rattle.std.proofs.lemmas.Bool.{cases_Bool, cases_order}
use Rattle.tp_base.specs.Classes.{has_class, union_of}
use Rattle.tp_base.proofs.ClassLemmas.{Contains-with_class, Contains-union_of}
use Rattle.tp_base.proofs.Truths.{or_false}
use Rattle.class_diagrams.specs.Trees.{Tree, leaf, branch, eval, IsOrdered, tand, tor, join, combine, and_leaf, or_leaf}
use Rattle.class_diagrams.proofs.CombineLemmas.{eval-tand, eval-tor, IsOrdered-tand, IsOrdered-tor, combine-same, combine-less, combine-more}
use Rattle.class_diagrams.proofs.TreeLemmas.{cases_tree, join-same, join-other}
use Rattle.diagram_ops.specs.Compositions.{tcompose, inner_results, atoms_of}

-- P holds of each atom that the tree looks at
abbrev pub AllAtoms : (ℕ → Type 0) → Tree → Type 0
AllAtoms P (leaf value) = Unit {0}
AllAtoms P (branch atom low high) = P atom × AllAtoms P low × AllAtoms P high

pub AllAtoms-further : (P Q : ℕ → Type 0) (t : Tree) → ((a : ℕ) → P a → Q a) → AllAtoms P t → AllAtoms Q t
AllAtoms-further P Q (leaf v) further all = tt
AllAtoms-further P Q (branch a l h) further all = (further a all.0, AllAtoms-further P Q l further all.1, AllAtoms-further P Q h further all.2)

-- so of each of its list of atoms
pub AllAtoms-atoms_of : (P : ℕ → Type 0) (t : Tree) → ((a : ℕ) → Contains (atoms_of t) a → P a) → AllAtoms P t
AllAtoms-atoms_of P (leaf v) all = tt
AllAtoms-atoms_of P (branch a l h) all = (
  all a ((Contains-with_class a (union_of (atoms_of l) (atoms_of h)) a).1 (inl refl)),
  AllAtoms-atoms_of P l (λ b there. all b ((Contains-with_class a (union_of (atoms_of l) (atoms_of h)) b).1 (inr ((Contains-union_of (atoms_of l) (atoms_of h) b).1 (inl there))))),
  AllAtoms-atoms_of P h (λ b there. all b ((Contains-with_class a (union_of (atoms_of l) (atoms_of h)) b).1 (inr ((Contains-union_of (atoms_of l) (atoms_of h) b).1 (inr there))))),
)

-- ### ordered in, ordered out

pub IsOrdered-tcompose : (f : Tree) (by : ℕ → Tree) → ((a : ℕ) → IsOrdered (by a)) → IsOrdered (tcompose f by)
IsOrdered-tcompose (leaf v) by ok = tt
IsOrdered-tcompose (branch a l h) by ok =
    IsOrdered-tor (tcompose l by) (tand (by a) (tcompose h by)) (IsOrdered-tcompose l by ok)
    (IsOrdered-tand (by a) (tcompose h by) (ok a) (IsOrdered-tcompose h by ok))

-- ### simultaneous substitution

or_above : (v w : Bool) → (v ≡ true → w ≡ true) → (v || w) ≡ w
or_above true w implies = sym (implies refl)
or_above false w implies = refl

substituted : (v w : Bool) (has : Bool) → (v ≡ true → w ≡ true) → (v || (has && w)) ≡ cond has w v
substituted v w true implies = or_above v w implies
substituted v w false implies = or_false v

-- f at the set of the atoms whose trees hold
pub eval-tcompose : (f : Tree) (by : ℕ → Tree) (set chosen : List ℕ) → IsOrdered f → AllAtoms (λ a. has_class a chosen ≡ eval (by a) set) f
    → eval (tcompose f by) set ≡ eval f chosen
eval-tcompose (leaf v) by set chosen ok all = refl
eval-tcompose (branch a l h) by set chosen ok all =
    rw (
      eval-tor (tcompose l by) (tand (by a) (tcompose h by)) set,
      eval-tand (by a) (tcompose h by) set,
      eval-tcompose l by set chosen ok.4 all.1,
      eval-tcompose h by set chosen ok.5 all.2,
      ← all.0,
    )
    (substituted (eval l chosen) (eval h chosen) (has_class a chosen) (ok.3 chosen))

-- what is put in place of other atoms does not matter
pub tcompose-same : (f : Tree) (by other : ℕ → Tree) → AllAtoms (λ a. by a ≡ other a) f → tcompose f by ≡ tcompose f other
tcompose-same (leaf v) by other all = refl
tcompose-same (branch a l h) by other all =
    λ i. tor (tcompose-same l by other all.1 i) (tand (all.0 i) (tcompose-same h by other all.2 i))

-- ### trees grow with their sets

pub eval-grows : (t : Tree) (s z : List ℕ) → IsOrdered t → ((a : ℕ) → has_class a s ≡ true → has_class a z ≡ true) → eval t s ≡ true → eval t z ≡ true
eval-grows (leaf v) s z ok within holds = holds
eval-grows (branch a l h) s z ok within holds = elim (cases_Bool (has_class a s)) [
  | inl has ↦ rw (within a has) (eval-grows h s z ok.5 within (rw has at holds))
  | inr lacks ↦
      let low : eval l z ≡ true = eval-grows l s z ok.4 within (rw lacks at holds) in
      elim (cases_Bool (has_class a z)) [
        | inl has ↦ rw has (ok.3 z low)
        | inr none ↦ rw none low
      ]
]

-- ### which atoms come

module _ (P : ℕ → Type 0) where
  AllAtoms-join : (a : ℕ) (t u : Tree) → P a → AllAtoms P t → AllAtoms P u → AllAtoms P (join a t u)
  AllAtoms-join a t u here first second = elim (cases_tree t u) [
    | inl same ↦ rw (join-same a t u same) first
    | inr other ↦ rw (join-other a t u other) (here, first, second)
  ]

  module _ (rule : Bool → Tree → Tree) (keeps : (v : Bool) (t : Tree) → AllAtoms P t → AllAtoms P (rule v t)) where
    AllAtoms-combine : (t u : Tree) → AllAtoms P t → AllAtoms P u → AllAtoms P (combine rule t u)
    AllAtoms-combine (leaf v) u first second = keeps v u second
    AllAtoms-combine (branch a l h) (leaf w) first second = keeps w (branch a l h) first
    AllAtoms-combine (branch a l h) (branch b m k) first second = elim (cases_order a b) [
      | inl same ↦ rw (combine-same rule a b l h m k same) (AllAtoms-join a _ _ first.0 (AllAtoms-combine l m first.1 second.1) (AllAtoms-combine h k first.2 second.2))
      | inr apart ↦ elim apart [
        | inl less ↦ rw (combine-less rule a b l h m k less) (AllAtoms-join a _ _ first.0 (AllAtoms-combine l (branch b m k) first.1 second) (AllAtoms-combine h (branch b m k) first.2 second))
        | inr more ↦ rw (combine-more rule a b l h m k more) (AllAtoms-join b _ _ second.0 (AllAtoms-combine (branch a l h) m first second.1) (AllAtoms-combine (branch a l h) k first second.2))
      ]
    ]

  pub AllAtoms-tand : (t u : Tree) → AllAtoms P t → AllAtoms P u → AllAtoms P (tand t u)
  unfolding tand
  AllAtoms-tand t u first second = AllAtoms-combine and_leaf (λ v w all. elim v as (λ v. AllAtoms P (and_leaf v w)) [ true ↦ all | false ↦ tt ]) t u first second

  pub AllAtoms-tor : (t u : Tree) → AllAtoms P t → AllAtoms P u → AllAtoms P (tor t u)
  unfolding tor
  AllAtoms-tor t u first second = AllAtoms-combine or_leaf (λ v w all. elim v as (λ v. AllAtoms P (or_leaf v w)) [ true ↦ tt | false ↦ all ]) t u first second

  pub AllAtoms-tcompose : (f : Tree) (by : ℕ → Tree) → AllAtoms P f → ((b : ℕ) → AllAtoms P (by b)) → AllAtoms P (tcompose f by)
  AllAtoms-tcompose (leaf v) by all each = tt
  AllAtoms-tcompose (branch a l h) by all each =
      AllAtoms-tor (tcompose l by) (tand (by a) (tcompose h by)) (AllAtoms-tcompose l by all.1 each)
      (AllAtoms-tand (by a) (tcompose h by) (each a) (AllAtoms-tcompose h by all.2 each))

-- and so do the inner results
pub inner_results-same : (f : Tree) (by other : ℕ → Tree) → AllAtoms (λ a. by a ≡ other a) f → inner_results f by ≡ inner_results f other
inner_results-same (leaf v) by other all = refl
inner_results-same (branch a l h) by other all = λ i.
    inner_results-same l by other all.1 i
    ++ inner_results-same h by other all.2 i
    ++ tcompose-same l by other all.1 i ∷ tcompose-same h by other all.2 i ∷ tand (all.0 i) (tcompose-same h by other all.2 i) ∷ tcompose-same (branch a l h) by other all i ∷ []
