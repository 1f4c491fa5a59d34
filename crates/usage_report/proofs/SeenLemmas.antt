-- What the answers of the code are to the definitions.
use Rattle.std.proofs.Common.{◌≡◌, ℕ, Bool, ◌||◌, List, [], ◌∷◌, map, sum_by, refl, sym, ap, ◌∙◌}
use Rattle.std.specs.Prelude.{cond}
use Rattle.std.specs.List.{list_any, count_by, sum}
use Rattle.std.proofs.lemmas.List.Sums.{sum-map}
use Rattle.std.proofs.lemmas.Simd.{map-map}
use Rattle.usage_report.specs.declared.answers.Answer as code
use Rattle.usage_report.specs.Answers.{Answer, line_of}
use Rattle.usage_report.specs.Lines.{Line}
use Rattle.usage_report.specs.Views.{answer_of}

-- a test of the views is one of what is seen
pub any_seen : (p : Answer → Bool) (answers : List code.Answer) → list_any p (map answer_of answers) ≡ list_any (λ a. p (answer_of a)) answers
any_seen p [] = refl
any_seen p (a ∷ answers) = ap (λ b. p (answer_of a) || b) (any_seen p answers)

pub sum_seen : (f : Line → ℕ) (answers : List code.Answer) → sum_by f (map line_of (map answer_of answers)) ≡ sum_by (λ a. f (line_of (answer_of a))) answers
sum_seen f answers =
    sym (sum-map f (map line_of (map answer_of answers)))
    ∙ ap sum (map-map f line_of (map answer_of answers) ∙ map-map (λ a. f (line_of a)) answer_of answers)
    ∙ sum-map (λ a. f (line_of (answer_of a))) answers

pub count_seen : (p : Line → Bool) (answers : List code.Answer) → count_by p (map line_of (map answer_of answers)) ≡ count_by (λ a. p (line_of (answer_of a))) answers
count_seen p answers = sum_seen (λ l. cond (p l) 1 0) answers
