-- Arguments, word by word.
use Rattle.std.proofs.Common.{◌≡◌, ℕ, suc, ◌+◌, Bool, true, false, List, [], ◌∷◌, take, drop, refl, sym, ap, ◌∙◌, arith}
use Rattle.tp_base.proofs.Numbers.{none_more}
use Rattle.jq_words.specs.declared.brackets.Bracket.{Bracket}
use Rattle.jq_words.specs.Words.{Word}
use Rattle.jq_words.specs.Brackets.{is_empty, brackets_behind, ends_argument, argument_len, left_open, commas, arguments, behind_arguments, argument_count}
use Rattle.jq_cursor.specs.Lists.{extent}
use Rattle.jq_cursor.specs.Spans.{Span, span_at, and_comma, span, is_bare, extent_from}

-- ---- one word

pub over : (os : List Bracket) (n : ℕ) (ws : List Word) → ws ≡ [] → span os n ws ≡ span_at n os ws
unfolding span
over os n ws none = rw none refl

pub ends_one : (os : List Bracket) (n : ℕ) (w : Word) (ws : List Word) → ends_argument false os w ≡ true → span os n (w ∷ ws) ≡ span_at n os (w ∷ ws)
unfolding span
ends_one os n w ws ends = rw ends refl

pub ends : (os : List Bracket) (n : ℕ) (w : Word) (ws : List Word) → ws ≡ w ∷ drop 1 ws → ends_argument false os w ≡ true → span os n ws ≡ span_at n os ws
ends os n w ws here is = ap (span os n) here ∙ ends_one os n w (drop 1 ws) is ∙ ap (span_at n os) (sym here)

pub more_one : (os : List Bracket) (n : ℕ) (w : Word) (ws : List Word) → ends_argument false os w ≡ false → span os n (w ∷ ws) ≡ span (brackets_behind os w) (and_comma os w n) ws
unfolding span
more_one os n w ws ends = rw ends refl

pub goes_on : (os : List Bracket) (n : ℕ) (w : Word) (ws : List Word) → ws ≡ w ∷ drop 1 ws → ends_argument false os w ≡ false
    → span os n ws ≡ span (brackets_behind os w) (and_comma os w n) (drop 1 ws)
goes_on os n w ws here ends = ap (span os n) here ∙ more_one os n w (drop 1 ws) ends

-- ---- all of them

one_more : (os : List Bracket) (w : Word) (ws : List Word) → ends_argument false os w ≡ false → argument_len false os (w ∷ ws) ≡ suc (argument_len false (brackets_behind os w) ws)
unfolding argument_len
one_more os w ws ends = rw ends (omega arith)

no_more : (os : List Bracket) (w : Word) (ws : List Word) → ends_argument false os w ≡ true → argument_len false os (w ∷ ws) ≡ 0
unfolding argument_len
no_more os w ws ends = rw ends refl

abbrev whole : List Bracket → ℕ → ℕ → List Word → Span
whole os n k ws = span_at (n + commas os (take k ws)) (left_open os (take k ws)) (drop k ws)

none_taken : (os : List Bracket) (n : ℕ) (ws : List Word) → span_at n os ws ≡ whole os n 0 ws
unfolding commas left_open
none_taken os n ws = ap (λ m. span_at m os ws) (omega arith)

one_taken : (os : List Bracket) (n k : ℕ) (w : Word) (ws : List Word) → whole (brackets_behind os w) (and_comma os w n) k ws ≡ whole os n (suc k) (w ∷ ws)
unfolding commas left_open
one_taken os n k w ws = ap (λ m. span_at m (left_open (brackets_behind os w) (take k ws)) (drop k ws)) (omega arith)

chosen : (b : Bool) (os : List Bracket) (n : ℕ) (w : Word) (ws : List Word) → ends_argument false os w ≡ b
    → ((m : ℕ) → span (brackets_behind os w) m ws ≡ whole (brackets_behind os w) m (argument_len false (brackets_behind os w) ws) ws)
    → span os n (w ∷ ws) ≡ whole os n (argument_len false os (w ∷ ws)) (w ∷ ws)
chosen true os n w ws is further = ends_one os n w ws is ∙ none_taken os n (w ∷ ws) ∙ ap (λ k. whole os n k (w ∷ ws)) (sym (no_more os w ws is))
chosen false os n w ws is further =
    more_one os n w ws is ∙ further (and_comma os w n) ∙ one_taken os n (argument_len false (brackets_behind os w) ws) w ws
    ∙ ap (λ k. whole os n k (w ∷ ws)) (sym (one_more os w ws is))

all_taken : (os : List Bracket) (n : ℕ) (ws : List Word) → span os n ws ≡ whole os n (argument_len false os ws) ws
unfolding span argument_len
all_taken os n [] = none_taken os n []
all_taken os n (w ∷ ws) = chosen (ends_argument false os w) os n w ws refl (λ m. all_taken (brackets_behind os w) m ws)

bare_one : (b : Bool) (w : Word) (ws : List Word) → ends_argument false [] w ≡ b → is_empty (take (argument_len false [] (w ∷ ws)) (w ∷ ws)) ≡ b
bare_one true w ws is = rw (no_more [] w ws is) refl
bare_one false w ws is = rw (one_more [] w ws is) refl

bare : (ws : List Word) → is_empty (arguments ws) ≡ is_bare ws
unfolding argument_len
bare [] = refl
bare (w ∷ ws) = bare_one (ends_argument false [] w) w ws refl

pub whole_extent : (ws : List Word) → extent ws ≡ extent_from ws (span [] 0 ws)
unfolding extent argument_count
whole_extent ws =
    rw (all_taken [] 0 ws, bare ws) (ap (λ n. extent_from ws (span_at n (left_open [] (arguments ws)) (behind_arguments ws))) (none_more (commas [] (arguments ws))))

pub from_span : (ws : List Word) (s : Span) → span [] 0 ws ≡ s → extent ws ≡ extent_from ws s
from_span ws s is = whole_extent ws ∙ ap (extent_from ws) is
