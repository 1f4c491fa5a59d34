-- An operation on two diagrams of an arena, by its parts.
use Rattle.std.proofs.Common.{◌≡◌, ℕ, ◌+◌, ◌<◌, Bool, true, false, ◌&&◌, ◌||◌, List, Result, Ok, Err, IfOk, refl, sym, ap, subst, ◌∙◌, inl, inr}
use Rattle.tp_base.specs.Classes.{has_class}
use Rattle.tp_base.proofs.Truths.{cond_itself}
use Rattle.class_diagrams.specs.declared.refs.Target.{Target}
use Rattle.class_diagrams.specs.declared.memo.Operation.{Operation}
use Rattle.class_diagrams.specs.declared.memo.Operation.TheVariants.{And, Or}
use Rattle.class_diagrams.specs.declared.memo.Task.{Task}
use Rattle.class_diagrams.specs.declared.table.Pair.TheVariants.{WithLeaf, Branches}
use Rattle.class_diagrams.specs.declared.faults.DiagramFault.{DiagramFault}
use Rattle.class_diagrams.specs.Trees.{Tree, leaf, eval, join, combine, tand, tor, variable, IsOrdered}
use Rattle.class_diagrams.specs.Arena.{StartsWith, tree_at, IsIn, Arena, IsArena}
use Rattle.class_diagrams.specs.Answers.{Gives}
use Rattle.class_diagrams.specs.Memo.{tree_of, leaf_rule_of, IsRight}
use Rattle.class_diagrams.specs.Tasks.{task_on, IsTaskOf}
use Rattle.class_diagrams.specs.Pairs.{size, IsPair}
use Rattle.class_diagrams.proofs.CombineLemmas.{and_rule, or_rule, IsOrdered-tand, IsOrdered-tor, eval-tand, eval-tor}
use Rattle.class_diagrams.proofs.TreeLemmas.{same_where_agree}
use Rattle.class_diagrams.proofs.ArenaLemmas.{tree_at-further, IsIn-further, IsOrdered-tree_at, gives_held}
use Rattle.class_diagrams.proofs.AnswerLemmas.{gives_low_failed, gives_high_failed, gives_both}

and_itself : (v : Bool) → (v && v) ≡ v
and_itself true = refl
and_itself false = refl

or_itself : (v : Bool) → (v || v) ≡ v
or_itself true = refl
or_itself false = refl

tree_of-combine : (o : Operation) (t u : Tree) → tree_of o t u ≡ combine (leaf_rule_of o) t u
unfolding tand tor
tree_of-combine And t u = refl
tree_of-combine Or t u = refl

IsOrdered-tree_of : (o : Operation) (t u : Tree) → IsOrdered t → IsOrdered u → IsOrdered (tree_of o t u)
IsOrdered-tree_of And t u ok u_ok = IsOrdered-tand t u ok u_ok
IsOrdered-tree_of Or t u ok u_ok = IsOrdered-tor t u ok u_ok

eval-tree_of-itself : (o : Operation) (t : Tree) (set : List ℕ) → eval (tree_of o t t) set ≡ eval t set
eval-tree_of-itself And t set = eval-tand t t set ∙ and_itself (eval t set)
eval-tree_of-itself Or t set = eval-tor t t set ∙ or_itself (eval t set)

tree_of-itself : (o : Operation) (t : Tree) → IsOrdered t → tree_of o t t ≡ t
tree_of-itself o t ok = same_where_agree (tree_of o t t) t (IsOrdered-tree_of o t t ok ok) ok (λ set rises. eval-tree_of-itself o t set)

eval-tree_of-turned : (o : Operation) (t u : Tree) (set : List ℕ) → eval (tree_of o t u) set ≡ eval (tree_of o u t) set
eval-tree_of-turned And t u set = eval-tand t u set ∙ and_rule.turned (eval t set) (eval u set) ∙ sym (eval-tand u t set)
eval-tree_of-turned Or t u set = eval-tor t u set ∙ or_rule.turned (eval t set) (eval u set) ∙ sym (eval-tor u t set)

tree_of-turned : (o : Operation) (t u : Tree) → IsOrdered t → IsOrdered u → tree_of o t u ≡ tree_of o u t
tree_of-turned o t u ok u_ok =
    same_where_agree (tree_of o t u) (tree_of o u t) (IsOrdered-tree_of o t u ok u_ok) (IsOrdered-tree_of o u t u_ok ok) (λ set rises. eval-tree_of-turned o t u set)

-- the tree of an operation on two references
abbrev pub tree_by : Operation → List Tree → Target → Target → Tree
tree_by o ts f g = tree_of o (tree_at ts f) (tree_at ts g)

tree_by-further : (o : Operation) (ts us : List Tree) (f g : Target) → StartsWith ts us → IsIn ts f → IsIn ts g → tree_by o us f g ≡ tree_by o ts f g
tree_by-further o ts us f g first f_in g_in = rw (tree_at-further ts us f first f_in, tree_at-further ts us g first g_in) refl

-- ### a task and its operation

right_turned : (o : Operation) (a : Arena) (f g r : Target) → IsArena a → IsRight a (task_on o f g, r) → IsRight a (task_on o g f, r)
right_turned o a f g r arena right = record {
  first = right.second;
  second = right.first;
  result = right.result;
  tree = right.tree ∙ tree_of-turned o (tree_at a.branches f) (tree_at a.branches g)
      (IsOrdered-tree_at a.branches f arena.ordered right.first) (IsOrdered-tree_at a.branches g arena.ordered right.second);
}

pub operation_right : (o : Operation) (a : Arena) (f g r : Target) (s : Task) → IsArena a → IsTaskOf o f g s → IsRight a (s, r) → IsRight a (task_on o f g, r)
operation_right o a f g r s arena of right = elim of.task [
  | inl same ↦ subst (λ s. IsRight a (s, r)) same right
  | inr turned ↦ right_turned o a g f r arena (subst (λ s. IsRight a (s, r)) turned right)
]

pub task_right : (o : Operation) (a : Arena) (f g r : Target) (s : Task) → IsArena a → IsTaskOf o f g s → IsRight a (task_on o f g, r) → IsRight a (s, r)
task_right o a f g r s arena of right = elim of.task [
  | inl same ↦ subst (λ s. IsRight a (s, r)) (sym same) right
  | inr turned ↦ subst (λ s. IsRight a (s, r)) (sym turned) (right_turned o a f g r arena right)
]

module _ (o : Operation) (a : Arena) (f g : Target) (arena : IsArena a) where
  -- with a leaf
  pub gives_leaf : (value : Bool) (other r : Target) → IsPair a.branches f g (WithLeaf value other)
      → ((ts : List Tree) → IsIn ts other → IsIn ts r × (tree_at ts r ≡ leaf_rule_of o value (tree_at ts other)))
      → Gives a a (tree_by o a.branches f g) (Ok r)
  gives_leaf value other r pair by_rule =
      let answer = by_rule a.branches pair.0 in
      let same : tree_at a.branches r ≡ tree_by o a.branches f g =
      answer.1 ∙ sym (pair.1 (leaf_rule_of o)) ∙ sym (tree_of-combine o (tree_at a.branches f) (tree_at a.branches g)) in
      subst (λ t. Gives a a t (Ok r)) same (gives_held a r arena answer.0)

  -- with itself
  pub gives_itself : IsIn a.branches f → f ≡ g → Gives a a (tree_by o a.branches f g) (Ok f)
  gives_itself f_in equal =
      let same : tree_at a.branches f ≡ tree_by o a.branches f g =
      sym (tree_of-itself o (tree_at a.branches f) (IsOrdered-tree_at a.branches f arena.ordered f_in)) ∙ ap (λ p. tree_by o a.branches f p) equal in
      subst (λ t. Gives a a t (Ok f)) same (gives_held a f arena f_in)

  -- remembered
  pub gives_known : (r : Target) → IsRight a (task_on o f g, r) → Gives a a (tree_by o a.branches f g) (Ok r)
  gives_known r right = subst (λ t. Gives a a t (Ok r)) right.tree (gives_held a r arena right.result)

  module _ (atom : ℕ) (low high : Target × Target) (pair : IsPair a.branches f g (Branches atom low high)) where
    parts_joined : tree_by o a.branches f g ≡ join atom (tree_by o a.branches low.0 low.1) (tree_by o a.branches high.0 high.1)
    parts_joined =
        tree_of-combine o (tree_at a.branches f) (tree_at a.branches g)
        ∙ pair.2 (leaf_rule_of o)
        ∙ (λ i. join atom (sym (tree_of-combine o (tree_at a.branches low.0) (tree_at a.branches low.1)) i) (sym (tree_of-combine o (tree_at a.branches high.0) (tree_at a.branches high.1)) i))

    pub low_fails : (b : Arena) (e : DiagramFault) → Gives a b (tree_by o a.branches low.0 low.1) (Err e) → Gives a b (tree_by o a.branches f g) (Err e)
    low_fails b e gives =
        subst (λ t. Gives a b t (Err e)) (sym parts_joined)
        (gives_low_failed a b atom (tree_by o a.branches low.0 low.1) (tree_by o a.branches high.0 high.1) e arena gives)

    module _ (b : Arena) (r : Target) (first : Gives a b (tree_by o a.branches low.0 low.1) (Ok r)) where
      pub high_in : IsIn b.branches high.0 × IsIn b.branches high.1
      high_in = (IsIn-further a.branches b.branches high.0 first.stays pair.1.0, IsIn-further a.branches b.branches high.1 first.stays pair.1.1)

      pub high_smaller : size (tree_at b.branches high.0) + size (tree_at b.branches high.1) < size (tree_at a.branches f) + size (tree_at a.branches g)
      high_smaller = rw (tree_at-further a.branches b.branches high.0 first.stays pair.1.0, tree_at-further a.branches b.branches high.1 first.stays pair.1.1) pair.1.2

      same_high : tree_by o b.branches high.0 high.1 ≡ tree_by o a.branches high.0 high.1
      same_high = tree_by-further o a.branches b.branches high.0 high.1 first.stays pair.1.0 pair.1.1

      pub high_fails : (c : Arena) (e : DiagramFault) → Gives b c (tree_by o b.branches high.0 high.1) (Err e) → Gives a c (tree_by o a.branches f g) (Err e)
      high_fails c e gives =
          subst (λ t. Gives a c t (Err e)) (sym parts_joined)
          (gives_high_failed a b c atom (tree_by o a.branches low.0 low.1) (tree_by o a.branches high.0 high.1) r e arena first
          (subst (λ t. Gives b c t (Err e)) same_high gives))

      module _ (c : Arena) (s : Target) (second : Gives b c (tree_by o b.branches high.0 high.1) (Ok s)) where
        pub low_in : IsIn c.branches r
        low_in = IsIn-further b.branches c.branches r second.stays first.answer.0

        low_tree : tree_at c.branches r ≡ tree_by o a.branches low.0 low.1
        low_tree = tree_at-further b.branches c.branches r second.stays first.answer.0 ∙ first.answer.1

        high_tree : tree_at c.branches s ≡ tree_by o a.branches high.0 high.1
        high_tree = second.answer.1 ∙ same_high

        joined : join atom (tree_at c.branches r) (tree_at c.branches s) ≡ tree_by o a.branches f g
        joined = (λ i. join atom (low_tree i) (high_tree i)) ∙ sym parts_joined

        both_give : (d : Arena) (answer : Result Target DiagramFault) → Gives c d (join atom (tree_at c.branches r) (tree_at c.branches s)) answer
            → Gives a d (tree_by o a.branches f g) answer
        both_give d answer gives =
            subst (λ t. Gives a d t answer) (sym parts_joined)
            (gives_both a b c d atom (tree_by o a.branches low.0 low.1) (tree_by o a.branches high.0 high.1) r s answer arena first
            (subst (λ t. Gives b c t (Ok s)) same_high second)
            (subst (λ t. Gives c d t answer) (λ i. join atom (low_tree i) (high_tree i)) gives))

        pub f_in : IsIn a.branches f → IsIn c.branches f
        f_in within = IsIn-further b.branches c.branches f second.stays (IsIn-further a.branches b.branches f first.stays within)

        pub g_in : IsIn a.branches g → IsIn c.branches g
        g_in within = IsIn-further b.branches c.branches g second.stays (IsIn-further a.branches b.branches g first.stays within)

        same_whole : IsIn a.branches f → IsIn a.branches g → tree_by o c.branches f g ≡ tree_by o a.branches f g
        same_whole f_in g_in =
            tree_by-further o b.branches c.branches f g second.stays (IsIn-further a.branches b.branches f first.stays f_in) (IsIn-further a.branches b.branches g first.stays g_in)
            ∙ tree_by-further o a.branches b.branches f g first.stays f_in g_in

        pub whole_joined : IsIn a.branches f → IsIn a.branches g → tree_by o c.branches f g ≡ join atom (tree_at c.branches r) (tree_at c.branches s)
        whole_joined f_in g_in = same_whole f_in g_in ∙ sym joined

        pub both_give_whole : (d : Arena) (answer : Result Target DiagramFault) → IsIn a.branches f → IsIn a.branches g → Gives c d (tree_by o c.branches f g) answer
            → Gives a d (tree_by o a.branches f g) answer
        both_give_whole d answer f_in g_in gives = both_give d answer (subst (λ t. Gives c d t answer) (whole_joined f_in g_in) gives)

-- ### an operation from its two parts

module _ (o : Operation) (a : Arena) (f g low high : Target) (atom : ℕ) (arena : IsArena a) (f_in : IsIn a.branches f) (g_in : IsIn a.branches g)
    (parts : tree_by o a.branches f g ≡ join atom (tree_at a.branches low) (tree_at a.branches high)) where
  pub parts_ordered : IsOrdered (join atom (tree_at a.branches low) (tree_at a.branches high))
  parts_ordered = subst IsOrdered parts (IsOrdered-tree_of o (tree_at a.branches f) (tree_at a.branches g)
      (IsOrdered-tree_at a.branches f arena.ordered f_in) (IsOrdered-tree_at a.branches g arena.ordered g_in))

  pub parts_right : (b : Arena) (r : Target) → Gives a b (join atom (tree_at a.branches low) (tree_at a.branches high)) (Ok r)
      → IsRight b (task_on o f g, r)
  parts_right b r gives = record {
    first = IsIn-further a.branches b.branches f gives.stays f_in;
    second = IsIn-further a.branches b.branches g gives.stays g_in;
    result = gives.answer.0;
    tree = gives.answer.1 ∙ sym parts ∙ sym (tree_by-further o a.branches b.branches f g gives.stays f_in g_in);
  }

-- the rules for a leaf that is not the neutral one
pub and_false : (o : Operation) (v : Bool) (t : Tree) → o ≡ And → v ≡ false → leaf false ≡ leaf_rule_of o v t
and_false o v t is at = rw (is, at) refl

pub or_true : (o : Operation) (v : Bool) (t : Tree) → o ≡ Or → v ≡ true → leaf true ≡ leaf_rule_of o v t
or_true o v t is at = rw (is, at) refl

-- ### what an answer means

pub means_both : (r : Result Target DiagramFault) (ts : List Tree) (t u : Tree) → IfOk r (λ f. tree_at ts f ≡ tand t u)
    → IfOk r (λ f. (set : List ℕ) → eval (tree_at ts f) set ≡ (eval t set && eval u set))
means_both (Ok f) ts t u is = λ set. ap (λ v. eval v set) is ∙ eval-tand t u set
means_both (Err e) ts t u is = tt

pub means_either : (r : Result Target DiagramFault) (ts : List Tree) (t u : Tree) → IfOk r (λ f. tree_at ts f ≡ tor t u)
    → IfOk r (λ f. (set : List ℕ) → eval (tree_at ts f) set ≡ (eval t set || eval u set))
means_either (Ok f) ts t u is = λ set. ap (λ v. eval v set) is ∙ eval-tor t u set
means_either (Err e) ts t u is = tt

pub means_atom : (r : Result Target DiagramFault) (ts : List Tree) (a : ℕ) → IfOk r (λ f. tree_at ts f ≡ variable a)
    → IfOk r (λ f. (set : List ℕ) → eval (tree_at ts f) set ≡ has_class a set)
means_atom (Ok f) ts a is = λ set. ap (λ v. eval v set) is ∙ cond_itself (has_class a set)
means_atom (Err e) ts a is = tt

-- the tree of an answer
pub answer_tree : (old new : Arena) (t : Tree) (r : Result Target DiagramFault) → Gives old new t r → IfOk r (λ f. tree_at new.branches f ≡ t)
answer_tree old new t (Ok f) gives = gives.answer.1
answer_tree old new t (Err e) gives = tt
