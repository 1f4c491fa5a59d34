-- Answers one after another.
use Rattle.std.proofs.Common.{◌≡◌, ℕ, ◌≤◌, length, Result, Ok, Err, IsErrAnd, refl, sym, ap, subst, ◌∙◌, arith}
use Rattle.class_diagrams.specs.declared.refs.Target.{Target}
use Rattle.class_diagrams.specs.declared.faults.DiagramFault.{DiagramFault}
use Rattle.class_diagrams.specs.declared.faults.DiagramFault.TheVariants.{Full, Memory}
use Rattle.class_diagrams.specs.Trees.{Tree, with_branches, join}
use Rattle.class_diagrams.specs.Arena.{StartsWith, Arena, IsArena}
use Rattle.class_diagrams.specs.Answers.{IsAnswer, Gives}
use Rattle.class_diagrams.proofs.BranchLemmas.{StartsWith-further, StartsWith-length, StartsWith-with_branches, StartsWith-join, with_branches-again}

-- a part that failed
error_further : (a b : Arena) (t u : Tree) (e : DiagramFault) → a.limit ≡ b.limit → length (with_branches a.branches t) ≤ length (with_branches b.branches u)
    → IsAnswer a a t (Err e) → IsAnswer b b u (Err e)
error_further a b t u Full limits longer full = omega arith
error_further a b t u Memory limits longer memory = tt

any_error : (a b c d : Arena) (t : Tree) (e : DiagramFault) → a.branches ≡ c.branches → a.limit ≡ c.limit → IsAnswer a b t (Err e) → IsAnswer c d t (Err e)
any_error a b c d t Full same limits full = rw (← same, ← limits) full
any_error a b c d t Memory same limits memory = tt

pub gives_low_failed : (a b : Arena) (n : ℕ) (low high : Tree) (e : DiagramFault) → IsArena a → Gives a b low (Err e) → Gives a b (join n low high) (Err e)
gives_low_failed a b n low high e arena gives =
    let on : StartsWith (with_branches a.branches low) (with_branches a.branches (join n low high)) =
    StartsWith-further (with_branches a.branches low) (with_branches (with_branches a.branches low) high) _ (StartsWith-with_branches (with_branches a.branches low) high)
    (StartsWith-join a.branches n low high arena.closed) in
    let longer = StartsWith-length (with_branches a.branches low) (with_branches a.branches (join n low high)) on in
    record {
      answer = any_error a a a b (join n low high) e refl refl (error_further a a low (join n low high) e refl longer (any_error a b a a low e refl refl gives.answer));
      stays = gives.stays;
      only = StartsWith-further b.branches (with_branches a.branches low) _ gives.only on;
      limit = gives.limit;
      arena = gives.arena;
    }

pub gives_high_failed : (a b c : Arena) (n : ℕ) (low high : Tree) (f : Target) (e : DiagramFault) → IsArena a
    → Gives a b low (Ok f) → Gives b c high (Err e) → Gives a c (join n low high) (Err e)
gives_high_failed a b c n low high f e arena first second =
    let there : b.branches ≡ with_branches a.branches low = first.answer.2 in
    let both : with_branches b.branches high ≡ with_branches (with_branches a.branches low) high = ap (λ ts. with_branches ts high) there in
    let on : StartsWith (with_branches b.branches high) (with_branches a.branches (join n low high)) =
    rw both (StartsWith-join a.branches n low high arena.closed) in
    let longer = StartsWith-length (with_branches b.branches high) (with_branches a.branches (join n low high)) on in
    record {
      answer = any_error a a a c (join n low high) e refl refl (error_further b a high (join n low high) e first.limit longer (any_error b c b b high e refl refl second.answer));
      stays = StartsWith-further a.branches b.branches c.branches first.stays second.stays;
      only = StartsWith-further c.branches (with_branches b.branches high) _ second.only on;
      limit = second.limit ∙ first.limit;
      arena = second.arena;
    }

join_answer : (a c d : Arena) (t : Tree) (r : Result Target DiagramFault) → with_branches c.branches t ≡ with_branches a.branches t → c.limit ≡ a.limit → IsAnswer c d t r → IsAnswer a d t r
join_answer a c d t (Ok f) same limits answer = (answer.0, answer.1, answer.2 ∙ same)
join_answer a c d t (Err Full) same limits answer = rw (← same, ← limits) answer
join_answer a c d t (Err Memory) same limits answer = tt

pub gives_both : (a b c d : Arena) (n : ℕ) (low high : Tree) (f g : Target) (r : Result Target DiagramFault) → IsArena a
    → Gives a b low (Ok f) → Gives b c high (Ok g) → Gives c d (join n low high) r → Gives a d (join n low high) r
gives_both a b c d n low high f g r arena first second third =
    let there : c.branches ≡ with_branches (with_branches a.branches low) high = second.answer.2 ∙ ap (λ ts. with_branches ts high) first.answer.2 in
    let same : with_branches c.branches (join n low high) ≡ with_branches a.branches (join n low high) =
    ap (λ ts. with_branches ts (join n low high)) there ∙ with_branches-again a.branches n low high arena.closed in
    record {
      answer = join_answer a c d (join n low high) r same (second.limit ∙ first.limit) third.answer;
      stays = StartsWith-further a.branches c.branches d.branches (StartsWith-further a.branches b.branches c.branches first.stays second.stays) third.stays;
      only = subst (λ ts. StartsWith d.branches ts) same third.only;
      limit = third.limit ∙ second.limit ∙ first.limit;
      arena = third.arena;
    }

-- the same fault behind a `?`
pub gives_same_error : (a b : Arena) (t : Tree) (r : Result Target DiagramFault) (e : DiagramFault) → IsErrAnd r (λ x. x ≡ e) → Gives a b t (Err e) → Gives a b t r
gives_same_error a b t (Ok p) e is gives = absurd is
gives_same_error a b t (Err x) e is gives = subst (λ y. Gives a b t (Err y)) (sym is) gives
