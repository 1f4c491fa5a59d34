-- How the answers of statements themselves tell whether a verdict is open, and whether it is dead.
use Rattle.std.proofs.Common.{◌≡◌, ℕ, zero, suc, ◌+◌, ◌<◌, ◌||◌, Bool, true, false, List, [], ◌∷◌, length, map, drop, get_or, take, Option, Some, None, slice_get, unwrap_or, option_map, refl, sym, ap, ◌∙◌, arith}
use Rattle.std.specs.List.{list_any}
use Rattle.std.proofs.lemmas.List.{length-map, drop-map}
use Rattle.std.proofs.lemmas.Option.{unwrap_or-slice_get, slice_get-map}
use Rattle.usage_report.specs.declared.answers.Answer as code
use Rattle.usage_report.specs.Answers.{Answer, used, maybe, used_unshown, unused, skipped, spent}
use Rattle.usage_report.specs.Views.{answer_of}
use Rattle.jq_stmts.specs.declared.stmts.Stmt.{Stmt}
use Rattle.jq_stmts.specs.Views.{chain_of, statements_of}
use Rattle.dead_script.specs.Asked.{by_number}
use Rattle.dead_script.specs.Verdicts as dead
use Rattle.treeped_app.specs.declared.statuses.Question.{Question}
use Rattle.treeped_app.specs.declared.statuses.Question.TheVariants.{Open, Dead}
use Rattle.treeped_app.specs.Verdicts.{is_so, is_so_of}

-- behind handlers a statement is dead, and not open
pub record IsDead (v : dead.Verdict) : Type 0 where
  pub is : dead.is_dead v ≡ true
  pub closed : dead.is_open v ≡ false

always_dead : (k : ℕ) (answers : List Answer) → IsDead (dead.dead_behind k answers)
always_dead k [] = record { is = refl; closed = refl }
always_dead k (a ∷ later) = here a (always_dead (k + 1) later)
  where
    here : (a : Answer) → IsDead (dead.dead_behind (k + 1) later) → IsDead (dead.dead_here k a (dead.dead_behind (k + 1) later))
    here (used proof steps shown) is = is
    here (maybe proof steps shown broken) is = is
    here used_unshown is = is
    here unused is = record { is = refl; closed = refl }
    here (skipped cause at) is = is
    here spent is = is

by_own : (q : Question) (a : Answer) (v : dead.Verdict) → IsDead v → is_so q (dead.verdict_by a v) ≡ is_so_of q (Some a)
by_own Open (used proof steps shown) v is = refl
by_own Open (maybe proof steps shown broken) v is = refl
by_own Open used_unshown v is = refl
by_own Open unused v is = is.closed
by_own Open (skipped cause at) v is = refl
by_own Open spent v is = refl
by_own Dead (used proof steps shown) v is = refl
by_own Dead (maybe proof steps shown broken) v is = refl
by_own Dead used_unshown v is = refl
by_own Dead unused v is = is.is
by_own Dead (skipped cause at) v is = refl
by_own Dead spent v is = refl

-- an answer that isn't there is spent
or_spent : (q : Question) (o : Option Answer) → is_so_of q (Some (unwrap_or o spent)) ≡ is_so_of q o
or_spent Open None = refl
or_spent Dead None = refl
or_spent q (Some a) = refl

one_so : (q : Question) (n : ℕ) (answers : List Answer) → is_so q (dead.verdict_of n answers) ≡ is_so_of q (slice_get answers n)
one_so q n answers =
    by_own q (get_or answers n spent) (dead.dead_behind 0 (take n answers)) (always_dead 0 (take n answers))
    ∙ ap (λ a. is_so_of q (Some a)) (sym (unwrap_or-slice_get answers n spent))
    ∙ or_spent q (slice_get answers n)

-- the own answer of a statement has a number
own_so : (q : Question) (answers : List code.Answer) (k : ℕ) → is_so_of q (Some (get_or (map answer_of answers) k spent)) ≡ is_so_of q (option_map answer_of (slice_get answers k))
own_so q answers k =
    ap (λ a. is_so_of q (Some a)) (sym (unwrap_or-slice_get (map answer_of answers) k spent))
    ∙ or_spent q (slice_get (map answer_of answers) k)
    ∙ ap (is_so_of q) (slice_get-map answer_of answers k)

abbrev pub told_by : List code.Answer → List ℕ → List Answer
told_by answers numbers = by_number spent (map answer_of answers) numbers

pub so_by_number : (q : Question) (answers : List code.Answer) (numbers : List ℕ) (at k : ℕ) → slice_get numbers at ≡ Some k → is_so_of q (option_map answer_of (slice_get answers k)) ≡ is_so_of q (slice_get (told_by answers numbers) at)
so_by_number q answers numbers at k is =
    sym (ap (is_so_of q) (slice_get-map (λ j. get_or (map answer_of answers) j spent) numbers at ∙ ap (option_map (λ j. get_or (map answer_of answers) j spent)) is) ∙ own_so q answers k)

pub so_without : (q : Question) (answers : List code.Answer) (numbers : List ℕ) (at : ℕ) → slice_get numbers at ≡ None → is_so_of q None ≡ is_so_of q (slice_get (told_by answers numbers) at)
so_without q answers numbers at none =
    sym (ap (is_so_of q) (slice_get-map (λ j. get_or (map answer_of answers) j spent) numbers at ∙ ap (option_map (λ j. get_or (map answer_of answers) j spent)) none))

pub told_behind : (answers : List code.Answer) (numbers : List ℕ) (n : ℕ) → told_by answers (drop n numbers) ≡ drop n (told_by answers numbers)
told_behind answers numbers n = sym (drop-map (λ j. get_or (map answer_of answers) j spent) n numbers)

abbrev pub any_so : Question → List Stmt → List Answer → Bool
any_so q stmts told = list_any (is_so q) (dead.verdicts (statements_of stmts) told)

-- the first statement's own answer, and the verdicts of the others
first_so : (q : Question) (s : Stmt) (stmts : List Stmt) (told : List Answer)
    → any_so q (s ∷ stmts) told ≡ (is_so_of q (slice_get told (length s.handlers)) || any_so q stmts (drop (length s.handlers + 1) told))
first_so q s stmts told =
    let many : length (map chain_of s.handlers) ≡ length s.handlers = length-map s.handlers chain_of in
    ap (λ n. is_so q (dead.verdict_of n told) || any_so q stmts (drop (n + 1) told)) many ∙ ap (λ b. b || any_so q stmts (drop (length s.handlers + 1) told)) (one_so q (length s.handlers) told)

-- from the k-th statement on
pub next_so : (q : Question) (stmts : List Stmt) (k : ℕ) (s : Stmt) (told : List Answer) → k < length stmts → s ≡ get_or stmts k s
    → any_so q (drop k stmts) told ≡ (is_so_of q (slice_get told (length s.handlers)) || any_so q (drop (suc k) stmts) (drop (length s.handlers + 1) told))
next_so q [] k s told within at = absurd (omega (arith, within))
next_so q (x ∷ stmts) zero s told within at = rw at (first_so q x stmts told)
next_so q (x ∷ stmts) (suc k) s told within at = next_so q stmts k s told (omega (arith, within)) at

pub or_false : (a b : Bool) → a ≡ false → (a || b) ≡ b
or_false true b e = cc
or_false false b e = refl
