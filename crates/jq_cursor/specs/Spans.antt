-- Arguments, read from any place in them.
--     span          what is left of them
--     extent_from   what they are as a whole
use Rattle.std.specs.Prelude.{ℕ, ◌+◌, ◌-◌, ◌^◌, ◌<◌, ◌&&◌, Bool, true, false, if◌then◌else◌, List, [], ◌∷◌, length, codes}
use Rattle.jq_words.specs.declared.brackets.Bracket.{Bracket}
use Rattle.jq_words.specs.Words.{Word, is_mark}
use Rattle.jq_words.specs.Brackets.{is_empty, brackets_behind, ends_argument}
use Rattle.jq_cursor.specs.Lists.{Extent}

-- How many commas arguments have outside brackets, the brackets that they leave open, and the words behind them.
pub record Span : Type 0 where
  pub commas : ℕ
  pub left : List Bracket
  pub behind : List Word

abbrev pub span_at : ℕ → List Bracket → List Word → Span
span_at commas left behind = record { commas = commas; left = left; behind = behind }

-- so many more where a word is a comma outside brackets
abbrev pub and_comma : List Bracket → Word → ℕ → ℕ
and_comma os w n = n + (if is_empty os && is_mark (codes ",") w then 1 else 0)

-- those that go on with these words, in which these brackets are open and which have so many commas already
unfoldable pub span : List Bracket → ℕ → List Word → Span
span os n [] = span_at n os []
span os n (w ∷ ws) = if ends_argument false os w then span_at n os (w ∷ ws) else span (brackets_behind os w) (and_comma os w n) ws

-- whether there are none
abbrev pub is_bare : List Word → Bool
is_bare [] = true
is_bare (w ∷ ws) = ends_argument false [] w

abbrev pub extent_from : List Word → Span → Extent
extent_from ws s = record { count = if is_bare ws then 0 else 1 + s.commas; whole = is_empty s.left; behind = s.behind }

-- So many commas, with as many more as there are words, and one argument more than commas, can be counted.
abbrev pub CanCount : ℕ → List Word → Type 0
CanCount n ws = n + length ws < 2 ^ 64 - 1
