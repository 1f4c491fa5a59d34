-- The words of a script: its tokens, each with its spelling, its place, and whether a line ends before it.
--     Rest            those from a place on, with the size of the file
--     words, file     all of a file
--     is_mark, is_name, is_text, ..   what a word is
--     fits            the first words are these
--     Outcome         what is read, or the first fault
use Rattle.std.specs.Prelude.{ℕ, ◌==◌, ◌&&◌, ◌||◌, Bool, true, false, if◌then◌else◌, slice_range, List, [], ◌∷◌, length, take, drop, codes, bytes_eq, Result, Ok, Err}
use Rattle.std.specs.List.{list_any}
pub use Rattle.tp_base.specs.Outcomes.{◌>>=◌}
use Rattle.js_scan.specs.declared.token.Token.{Token}
use Rattle.js_scan.specs.declared.token.TokenKind.{TokenKind}
use Rattle.js_scan.specs.declared.token.TokenKind.TheVariants.{Name, Number, Text, Mark}
use Rattle.jq_words.specs.declared.faults.ScriptFault.{ScriptFault}
use Rattle.jq_words.specs.declared.faults.ScriptFault.TheVariants.{UnknownForm, TooDeep}

-- A token: what it is, its bytes, its offset, and whether an LF stands between the token before it and it.
pub record Word : Type 0 where
  pub kind : TokenKind
  pub spelling : List ℕ
  pub at : ℕ
  pub later : Bool

-- the words of tokens, behind one that ends at an offset
unfoldable pub words_behind : List ℕ → ℕ → List Token → List Word
words_behind text end [] = []
words_behind text end (t ∷ ts) =
    (record { kind = t.kind; spelling = slice_range text t.from t.to; at = t.from; later = list_any (λ b. b == 10) (slice_range text end t.from) })
    ∷ words_behind text t.to ts

unfoldable pub words : List ℕ → List Token → List Word
words text ts = words_behind text 0 ts

-- The words of a file from a place on, and the file's size in bytes.
pub record Rest : Type 0 where
  pub words : List Word
  pub size : ℕ

-- a whole file
abbrev pub file : List ℕ → List Token → Rest
file text ts = record { words = words text ts; size = length text }

-- behind so many words, and so many words alone
abbrev pub past : ℕ → Rest → Rest
past n r = record { words = drop n r.words; size = r.size }

abbrev pub front : ℕ → Rest → Rest
front n r = record { words = take n r.words; size = r.size }

-- ---- what a word is

abbrev pub is_mark_kind : TokenKind → Bool
is_mark_kind Mark = true
is_mark_kind k = false

abbrev pub is_name_kind : TokenKind → Bool
is_name_kind Name = true
is_name_kind k = false

abbrev pub is_number_kind : TokenKind → Bool
is_number_kind Number = true
is_number_kind k = false

abbrev pub is_text_kind : TokenKind → Bool
is_text_kind (Text letters) = true
is_text_kind k = false

abbrev pub kind_letters : TokenKind → List ℕ
kind_letters (Text letters) = letters
kind_letters k = []

unfoldable pub is_mark : List ℕ → Word → Bool
is_mark s w = is_mark_kind w.kind && bytes_eq w.spelling s

unfoldable pub is_name : List ℕ → Word → Bool
is_name s w = is_name_kind w.kind && bytes_eq w.spelling s

unfoldable pub is_any_name : Word → Bool
is_any_name w = is_name_kind w.kind

unfoldable pub is_number : Word → Bool
is_number w = is_number_kind w.kind

unfoldable pub is_text : Word → Bool
is_text w = is_text_kind w.kind

-- the letters of a Text
unfoldable pub letters_of : Word → List ℕ
letters_of w = kind_letters w.kind

-- one of a list of spellings
unfoldable pub is_among : List (List ℕ) → List ℕ → Bool
is_among [] s = false
is_among (t ∷ ts) s = if bytes_eq t s then true else is_among ts s

unfoldable pub is_mark_among : List (List ℕ) → Word → Bool
is_mark_among spellings w = is_mark_kind w.kind && is_among spellings w.spelling

unfoldable pub is_name_among : List (List ℕ) → Word → Bool
is_name_among spellings w = is_name_kind w.kind && is_among spellings w.spelling

-- whether the first words are of these forms, one after another
unfoldable pub fits : List (Word → Bool) → List Word → Bool
fits [] ws = true
fits (p ∷ ps) [] = false
fits (p ∷ ps) (w ∷ ws) = p w && fits ps ws

-- whether the words are of these forms, and no more of them
unfoldable pub is_form : List (Word → Bool) → List Word → Bool
is_form [] [] = true
is_form [] (w ∷ ws) = false
is_form (p ∷ ps) [] = false
is_form (p ∷ ps) (w ∷ ws) = p w && is_form ps ws

-- whether the words are one alone
abbrev pub is_one : List Word → Bool
is_one [] = false
is_one (w ∷ []) = true
is_one (w ∷ v ∷ ws) = false

-- the spelling of the first word
unfoldable pub spelled : List Word → List ℕ
spelled [] = []
spelled (w ∷ ws) = w.spelling

-- the first word is of this form
unfoldable pub first_is : (Word → Bool) → List Word → Bool
first_is p [] = false
first_is p (w ∷ ws) = p w

abbrev pub begins : List ℕ → List Word → Bool
begins s ws = first_is (is_mark s) ws

abbrev pub begins_name : List ℕ → List Word → Bool
begins_name s ws = first_is (is_name s) ws

-- the offset of the first word, or the file's length
unfoldable pub place : ℕ → List Word → ℕ
place size [] = size
place size (w ∷ ws) = w.at

-- ---- reading

abbrev pub Outcome : Type 0 → Type 0
Outcome A = Result A ScriptFault

-- the first word fits no form
abbrev pub unexpected : {A : Type 0} → ℕ → List Word → Outcome A
unexpected size ws = Err (UnknownForm (place size ws))

-- the words behind a mark that is wanted
unfoldable pub want : ℕ → List ℕ → List Word → Outcome (List Word)
want size s ws = if begins s ws then Ok (drop 1 ws) else unexpected size ws

-- the words behind a name that is wanted, whichever it is
unfoldable pub want_name : ℕ → List Word → Outcome (List ℕ × List Word)
want_name size [] = Err (UnknownForm size)
want_name size (w ∷ ws) = if is_any_name w then Ok (w.spelling, ws) else Err (UnknownForm w.at)

-- the words behind an opening bracket that is wanted, where so many brackets may still be opened
unfoldable pub want_open : ℕ → ℕ → List ℕ → List Word → Outcome (List Word)
want_open size room s ws =
    if begins s ws then (if room == 0 then Err (TooDeep (place size ws)) else Ok (drop 1 ws))
    else unexpected size ws

-- Behind a statement: `;`, or nothing before `}`, at the end of the file, or before a word on a later line.
unfoldable pub end_fits : List Word → Bool
end_fits [] = true
end_fits (w ∷ ws) = is_mark (codes ";") w || is_mark (codes "}") w || w.later

unfoldable pub end : ℕ → List Word → Outcome (List Word)
end size ws =
    if begins (codes ";") ws then Ok (drop 1 ws)
    else if end_fits ws then Ok ws
    else unexpected size ws
