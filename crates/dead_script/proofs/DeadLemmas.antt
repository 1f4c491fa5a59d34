-- Verdicts by the answers at numbers.
use Rattle.std.proofs.Common.{◌≡◌, ℕ, ◌+◌, ◌<◌, true, false, All, List, ◌∷◌, length, map, take, get_or, refl, sym, ap, ◌∙◌, arith}
use Rattle.std.specs.List.{range_with_len}
use Rattle.std.proofs.lemmas.List.{length-map, take-map, get_or-map}
use Rattle.std.proofs.lemmas.List.Elements.{All-from_get_or}
use Rattle.std.proofs.lemmas.List.FromFn.{length-range_with_len, get_or-range_with_len}
use Rattle.usage_report.specs.declared.answers.Answer as code
use Rattle.usage_report.specs.Answers.{Answer, used, maybe, used_unshown, unused, skipped, spent}
use Rattle.usage_report.specs.Views.{answer_of}
use Rattle.dead_script.specs.Asked.{by_number}
use Rattle.dead_script.specs.Sharing.{is_unused}
use Rattle.dead_script.proofs.AskedLemmas.{all_by_number}
use Rattle.dead_script.specs.Verdicts.{Verdict, dead_at_handler, dead_here, dead_behind, verdict_by, verdict_of}

here_dead : (k : ℕ) (a : Answer) (later : Verdict) → true ≡ is_unused a → dead_here k a later ≡ dead_at_handler (k + 1)
here_dead k (used proof steps shown) later is = cc
here_dead k (maybe proof steps shown broken) later is = cc
here_dead k used_unshown later is = cc
here_dead k unused later is = refl
here_dead k (skipped cause at) later is = cc
here_dead k spent later is = cc

here_not : (k : ℕ) (a : Answer) (later : Verdict) → false ≡ is_unused a → dead_here k a later ≡ later
here_not k (used proof steps shown) later is = refl
here_not k (maybe proof steps shown broken) later is = refl
here_not k used_unshown later is = refl
here_not k unused later is = cc
here_not k (skipped cause at) later is = refl
here_not k spent later is = refl

-- the answer at a number
answer_at : (answers : List code.Answer) (k : ℕ) (a : code.Answer) → k < length answers → a ≡ get_or answers k a → get_or (map answer_of answers) k spent ≡ answer_of a
answer_at answers k a less is = get_or-map answer_of answers k a spent less ∙ ap answer_of (sym is)

module _ (answers : List code.Answer) (rest later : List ℕ) (asked number : ℕ) (a : code.Answer) (split : rest ≡ asked ∷ later) (less : asked < length answers) (is : a ≡ get_or answers asked a) where
  abbrev others : Verdict
  others = dead_behind (number + 1) (by_number spent (map answer_of answers) later)

  first : dead_behind number (by_number spent (map answer_of answers) rest) ≡ dead_here number (answer_of a) others
  first = ap (λ (l : List ℕ). dead_behind number (by_number spent (map answer_of answers) l)) split ∙ ap (λ (z : Answer). dead_here number z others) (answer_at answers asked a less is)

  pub dead_now : true ≡ is_unused (answer_of a) → dead_behind number (by_number spent (map answer_of answers) rest) ≡ dead_at_handler (number + 1)
  dead_now dead = first ∙ here_dead number (answer_of a) others dead

  pub dead_later : false ≡ is_unused (answer_of a) → dead_behind number (by_number spent (map answer_of answers) rest) ≡ others
  dead_later live = first ∙ here_not number (answer_of a) others live

-- the verdict on a statement with n handlers, by its answer and the numbers of its handlers
pub verdict_by_numbers : (answers : List code.Answer) (numbers : List ℕ) (n k : ℕ) (a : code.Answer) → n < length numbers → k < length answers → k ≡ get_or numbers n k → a ≡ get_or answers k a
    → verdict_of n (by_number spent (map answer_of answers) numbers) ≡ verdict_by (answer_of a) (dead_behind 0 (by_number spent (map answer_of answers) (take n numbers)))
verdict_by_numbers answers numbers n k a enough less at is =
    let own : get_or (by_number spent (map answer_of answers) numbers) n spent ≡ answer_of a =
    get_or-map (λ j. get_or (map answer_of answers) j spent) numbers n k spent enough
    ∙ ap (λ j. get_or (map answer_of answers) j spent) (sym at)
    ∙ answer_at answers k a less is in
    ap (λ (z : Answer). verdict_by z (dead_behind 0 (take n (by_number spent (map answer_of answers) numbers)))) own
    ∙ ap (λ (l : List Answer). verdict_by (answer_of a) (dead_behind 0 l)) (take-map (λ j. get_or (map answer_of answers) j spent) n numbers)

-- ---- an answer for each probe

pub numbers_known : (n : ℕ) → All (λ k. k < n) (range_with_len 0 n)
numbers_known n = All-from_get_or (λ k. k < n) (range_with_len 0 n) 0 (λ i less. omega (arith, less, length-range_with_len 0 n, get_or-range_with_len 0 n i 0 (omega (arith, less, length-range_with_len 0 n))))

pub each_by_number : (answers : List code.Answer) → by_number spent (map answer_of answers) (range_with_len 0 (length answers)) ≡ map answer_of answers
each_by_number answers = ap (λ n. by_number spent (map answer_of answers) (range_with_len 0 n)) (sym (length-map {B = Answer} answers answer_of)) ∙ all_by_number spent (map answer_of answers)
