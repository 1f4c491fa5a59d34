-- Texts in quotes, and the parts of a template.
use Rattle.std.specs.Prelude.{ℕ, zero, suc, ◌+◌, ◌-◌, ◌&&◌, ◌==◌, not, Bool, true, if◌then◌else◌, List, [], ◌∷◌, ◌++◌, take, drop, Option, Some, None}
use Rattle.std.specs.Str.{byte}
use Rattle.std.specs.List.{prefix_len}
use Rattle.js_scan.specs.Bytes.{is_plain}
use Rattle.js_scan.specs.Texts.{is_backquote, begins_template}
use Rattle.code_scan.specs.declared.texts.Ending.{Ending}
use Rattle.code_scan.specs.declared.texts.Ending.TheVariants.{Closed, Hole, Cut}
use Rattle.code_scan.specs.Escapes.{Part, sure_part, wide_escape}

-- the next part of a Text: an escape, or a byte with the plain ones behind it, which stand for themselves
unfoldable pub next_part : ℕ → List ℕ → Part
next_part b bs = if b == byte "\\" then wide_escape bs else (let len = 1 + prefix_len is_plain bs in sure_part (take len (b ∷ bs)) len)

-- the letters of a Text, the bytes behind it, what ends it, and whether it is surely meant so
pub record Quoted : Type 0 where
  pub letters : List ℕ
  pub rest : List ℕ
  pub ending : Ending
  pub sure : Bool

abbrev pub ended : Ending → List ℕ → Quoted
ended ending rest = record { letters = []; rest = rest; ending = ending; sure = true }

abbrev pub with_part : List ℕ → Bool → Quoted → Quoted
with_part letters sure q = record { letters = letters ++ q.letters; rest = q.rest; ending = q.ending; sure = sure && q.sure }

-- What ends a Text at the front, if anything does, and the bytes behind that: the closing quote, in a template a hole, else the end of the
-- line, and the end of all.
unfoldable pub end_of : ℕ → List ℕ → Option (Ending × List ℕ)
end_of quote [] = Some (Cut, [])
end_of quote (b ∷ bs) =
    if b == quote then Some (Closed, bs)
    else if begins_template quote (b ∷ bs) then Some (Hole, drop 2 (b ∷ bs))
    else if b == 10 && not (is_backquote quote) then Some (Cut, b ∷ bs)
    else None

abbrev pub ended_or : Option (Ending × List ℕ) → Quoted → Quoted
ended_or (Some (ending, rest)) later = ended ending rest
ended_or None later = later

-- The letters up to what ends them. `skip` bytes are left of the part that was read last.
unfoldable pub text_from : ℕ → ℕ → List ℕ → Quoted
text_from quote skip [] = ended Cut []
text_from quote (suc skip) (b ∷ bs) = text_from quote skip bs
text_from quote zero (b ∷ bs) =
    let p = next_part b bs in
    ended_or (end_of quote (b ∷ bs)) (with_part p.letters p.sure (text_from quote (p.len - 1) bs))

-- behind an opening quote
abbrev pub read_quoted : ℕ → List ℕ → Quoted
read_quoted quote bs = text_from quote 0 bs
