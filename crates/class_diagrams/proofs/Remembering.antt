-- What stays right while an arena grows.
use Rattle.std.proofs.Common.{◌≡◌, ℕ, List, [], Contains, Option, Some, None, IfSome, Result, Ok, true, false, get_or, sym, ap, subst, ◌∙◌, inl, inr, ◌⊎◌, arith}
use Rattle.class_diagrams.specs.declared.memo.Task.{Task}
use Rattle.class_diagrams.specs.declared.refs.Target.{Target}
use Rattle.class_diagrams.specs.declared.faults.DiagramFault.{DiagramFault}
use Rattle.class_diagrams.specs.Trees.{leaf, join, variable}
use Rattle.class_diagrams.specs.Arena.{StartsWith, tree_at, IsIn, Arena, IsArena}
use Rattle.class_diagrams.specs.Answers.{Gives}
use Rattle.class_diagrams.specs.Memo.{IsRight, AreVariables, IsRemembering}
use Rattle.class_diagrams.proofs.ArenaLemmas.{tree_at-further, IsIn-further, gives_held}

right_further : (a b : Arena) (entry : Task × Target) → StartsWith a.branches b.branches → IsRight a entry → IsRight b entry
right_further a b entry first right = record {
  first = IsIn-further a.branches b.branches entry.0.first first right.first;
  second = IsIn-further a.branches b.branches entry.0.second first right.second;
  result = IsIn-further a.branches b.branches entry.1 first right.result;
  tree = rw (
    tree_at-further a.branches b.branches entry.1 first right.result,
    tree_at-further a.branches b.branches entry.0.first first right.first,
    tree_at-further a.branches b.branches entry.0.second first right.second,
  ) right.tree;
}

variables_further : (a b : Arena) (noted : List (Option Target)) → StartsWith a.branches b.branches → AreVariables a noted → AreVariables b noted
variables_further a b noted first are = λ n f there.
    let known = are n f there in
    (IsIn-further a.branches b.branches f first known.0, tree_at-further a.branches b.branches f first known.0 ∙ known.1)

none_noted : (a : Arena) (noted : List (Option Target)) → noted ≡ [] → AreVariables a noted
none_noted a noted none = subst (λ (fs : List (Option Target)). AreVariables a fs) (sym none) (λ n f there. let never : None ≡ Some f = there in cc)

pub nothing_remembered : (a : Arena) (entries : List (Task × Target)) (noted : List (Option Target)) → IsArena a → entries ≡ [] → noted ≡ [] → IsRemembering a entries noted
nothing_remembered a entries noted arena none no_atom =
    rw none (record { arena = arena; right = λ entry there. absurd (omega (arith, there.1)); variables = none_noted a noted no_atom })

pub remembering_further : (a b : Arena) (entries : List (Task × Target)) (noted : List (Option Target)) → StartsWith a.branches b.branches → IsArena b
    → IsRemembering a entries noted → IsRemembering b entries noted
remembering_further a b entries noted first arena was = record {
  arena = arena;
  right = λ entry there. right_further a b entry first (was.right entry there);
  variables = variables_further a b noted first was.variables;
}

pub remembering_fewer : (a : Arena) (entries fewer : List (Task × Target)) (noted : List (Option Target)) → ((entry : Task × Target) → Contains fewer entry → Contains entries entry)
    → IsRemembering a entries noted → IsRemembering a fewer noted
remembering_fewer a entries fewer noted among was = record { arena = was.arena; right = λ entry there. was.right entry (among entry there); variables = was.variables }

pub remembering_more : (a : Arena) (entries more : List (Task × Target)) (noted : List (Option Target)) (task : Task) (f : Target)
    → ((entry : Task × Target) → Contains more entry → Contains entries entry ⊎ (entry ≡ (task, f)))
    → IsRight a (task, f) → IsRemembering a entries noted → IsRemembering a more noted
remembering_more a entries more noted task f among right was = record {
  arena = was.arena;
  right = λ entry there. elim (among entry there) [
    | inl before ↦ was.right entry before
    | inr new ↦ subst (IsRight a) (sym new) right
  ];
  variables = was.variables;
}

-- ### variables

-- one that is noted
pub gives_noted : (a : Arena) (entries : List (Task × Target)) (noted : List (Option Target)) (n : ℕ) (r : Option Target) → IsRemembering a entries noted → r ≡ get_or noted n None
    → IfSome r (λ f. Gives a a (variable n) (Ok f))
gives_noted a entries noted n None was is = tt
gives_noted a entries noted n (Some f) was is =
    let known = was.variables n f (sym is) in
    subst (λ t. Gives a a t (Ok f)) known.1 (gives_held a f was.arena known.0)

-- one more
pub remembering_noted : (a : Arena) (entries : List (Task × Target)) (noted more : List (Option Target)) (n : ℕ) (f : Target)
    → ((m : ℕ) (g : Target) → get_or more m None ≡ Some g → ((m ≡ n) × (g ≡ f)) ⊎ (get_or noted m None ≡ Some g))
    → IsIn a.branches f → tree_at a.branches f ≡ variable n → IsRemembering a entries noted → IsRemembering a entries more
remembering_noted a entries noted more n f among within tree was = record {
  arena = was.arena;
  right = was.right;
  variables = λ m g there. elim (among m g there) [
    | inl new ↦ (subst (IsIn a.branches) (sym new.1) within, ap (tree_at a.branches) new.1 ∙ tree ∙ ap (λ k. variable k) (sym new.0))
    | inr before ↦ was.variables m g before
  ];
}

-- what the two leaves are joined to
pub gives_variable : (a b : Arena) (n : ℕ) (p q : Target) (r : Result Target DiagramFault) → tree_at a.branches p ≡ leaf false → tree_at a.branches q ≡ leaf true
    → Gives a b (join n (tree_at a.branches p) (tree_at a.branches q)) r → Gives a b (variable n) r
gives_variable a b n p q r low high gives =
    let same : join n (tree_at a.branches p) (tree_at a.branches q) ≡ variable n = λ i. join n (low i) (high i) in
    subst (λ t. Gives a b t r) same gives
