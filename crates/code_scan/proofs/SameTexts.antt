-- A Text of the subset reads the same.
use Rattle.std.proofs.Common.{◌≡◌, ℕ, zero, suc, ◌-◌, ◌+◌, ◌==◌, ◌&&◌, ◌||◌, not, Bool, true, false, if◌then◌else◌, List, [], ◌∷◌, take, Option, Some, None, Ok, refl, sym, ap, subst, arith, nat_eq, codes}
use Rattle.std.specs.List.{prefix_len, starts_with}
use Rattle.std.specs.Char.{is_ascii_digit}
use Rattle.std.proofs.lemmas.Bool.{and_parts}
use Rattle.std.proofs.lemmas.Bool.Decides.{nat_tests}
use Rattle.js_scan.specs.Bytes.{is_plain}
use Rattle.js_scan.specs.Escapes as script_escapes
use Rattle.js_scan.specs.Texts as script_texts
use Rattle.js_scan.proofs.OwnBytes.{Turn, turn}
use Rattle.js_scan.proofs.OwnBytes.Turn.{closes, reads}
use Rattle.code_scan.specs.declared.texts.Ending.TheVariants.{Closed}
use Rattle.code_scan.specs.Escapes.{Part, sure_part, wide_escape, other_part, is_octal}
use Rattle.code_scan.specs.SameTokens.{is_plain_byte, has_plain_lines}
use Rattle.code_scan.specs.Texts.{ended, next_part, end_of, text_from}

-- ---- escapes

-- a digit is no escape of the subset
digit_none : (c : ℕ) (bs : List ℕ) → is_ascii_digit c ≡ true → script_escapes.escape (c ∷ bs) ≡ None
unfolding script_escapes.escape
digit_none c bs digit =
    let a : (c == 110) ≡ false = grind (arith, nat_tests) in
    let b : (c == 116) ≡ false = grind (arith, nat_tests) in
    let d : (c == 114) ≡ false = grind (arith, nat_tests) in
    let e : (c == 98) ≡ false = grind (arith, nat_tests) in
    let f : (c == 102) ≡ false = grind (arith, nat_tests) in
    let g : (c == 118) ≡ false = grind (arith, nat_tests) in
    let h : (c == 10) ≡ false = grind (arith, nat_tests) in
    let i : (c == 120) ≡ false = grind (arith, nat_tests) in
    let j : (c == 117) ≡ false = grind (arith, nat_tests) in
    rw (a, b, d, e, f, g, h, i, j, digit) refl

brace_none : (c : ℕ) (bs : List ℕ) → (c == 117) ≡ true → starts_with nat_eq bs (codes "{") ≡ true → script_escapes.escape (c ∷ bs) ≡ None
unfolding script_escapes.escape
brace_none c bs same brace =
    let is : c ≡ 117 = grind (arith, nat_tests) in
    subst (λ (k : ℕ). script_escapes.escape (k ∷ bs) ≡ None) (sym is) (rw brace refl)

octal_digit : (c : ℕ) → is_octal c ≡ true → is_ascii_digit c ≡ true
octal_digit c octal = grind (arith, nat_tests)

last_digits : (c : ℕ) → (c == 56 || c == 57) ≡ true → is_ascii_digit c ≡ true
last_digits c last = grind (arith, nat_tests)

never : {R : Type 0} {A : Type 0} (o : Option A) (x : A) → o ≡ None → o ≡ Some x → R
never o x none some = absurd (grind (arith, none, some))

-- a test that doesn't hold where there is an escape
off : (test : Bool) (o : Option script_escapes.Piece) (p : script_escapes.Piece) → (test ≡ true → o ≡ None) → o ≡ Some p → test ≡ false
off true o p none some = never o p (none refl) some
off false o p none some = refl

pub same_escape : (bs : List ℕ) (p : script_escapes.Piece) → script_escapes.escape bs ≡ Some p → starts_with nat_eq bs (13 ∷ []) ≡ false → wide_escape bs ≡ sure_part p.0 p.1
unfolding wide_escape script_escapes.escape
same_escape [] p read plain = absurd (grind arith)
same_escape (c ∷ bs) p read plain =
    let o = script_escapes.escape (c ∷ bs) in
    let no_return : (c == 13) ≡ false = grind (arith, nat_tests, plain) in
    let no_brace : (c == 117 && starts_with nat_eq bs (codes "{")) ≡ false = off (c == 117 && starts_with nat_eq bs (codes "{")) o p (λ is. let both = and_parts (c == 117) (starts_with nat_eq bs (codes "{")) is in brace_none c bs both.0 both.1) read in
    let no_octal : is_octal c ≡ false = off (is_octal c) o p (λ is. digit_none c bs (octal_digit c is)) read in
    let no_last : (c == 56 || c == 57) ≡ false = off (c == 56 || c == 57) o p (λ is. digit_none c bs (last_digits c is)) read in
    rw (no_return, no_brace, no_octal, no_last) (ap other_part read)

-- ---- Texts

not_return : (b : ℕ) (bs : List ℕ) → (b == 92) ≡ true → is_plain_byte b bs ≡ true → starts_with nat_eq bs (13 ∷ []) ≡ false
not_return b bs is plain = by (b == 92) (starts_with nat_eq bs (13 ∷ [])) is (and_parts _ (not (b == 92 && starts_with nat_eq bs (13 ∷ []))) plain).1
  where
    by : (test cr : Bool) → test ≡ true → not (test && cr) ≡ true → cr ≡ false
    by true true is plain = absurd (grind (arith, plain))
    by true false is plain = refl
    by false cr is plain = absurd (grind (arith, is))

abbrev part_of : Option script_escapes.Piece → Part
part_of None = sure_part [] 0
part_of (Some q) = sure_part q.0 q.1

-- a piece of a Text is a part
same_part : (quote b : ℕ) (bs : List ℕ) (p : script_escapes.Piece) → is_plain_byte b bs ≡ true → script_texts.next_piece quote (b ∷ bs) ≡ Some p → next_part b bs ≡ sure_part p.0 p.1
unfolding next_part script_texts.next_piece
same_part quote b bs p plain read =
    by (b == 92) (b == 10 && not (script_texts.is_backquote quote)) (λ is escaped. same_escape bs p escaped (not_return b bs is plain)) refl read
  where
    len : ℕ
    len = 1 + prefix_len is_plain bs

    by : (test cut : Bool) → (b == 92 ≡ true → script_escapes.escape bs ≡ Some p → wide_escape bs ≡ sure_part p.0 p.1) → (b == 92) ≡ test
        → (if test then script_escapes.escape bs else (if cut then None else Some (take len (b ∷ bs), len))) ≡ Some p
        → (if test then wide_escape bs else sure_part (take len (b ∷ bs)) len) ≡ sure_part p.0 p.1
    by true cut escaped is read = escaped is read
    by false true escaped is read = absurd (grind (arith, read))
    by false false escaped is read = ap (λ (o : Option script_escapes.Piece). part_of o) read

cut_none : (quote b : ℕ) (bs : List ℕ) → (b == 10 && not (script_texts.is_backquote quote)) ≡ true → script_texts.next_piece quote (b ∷ bs) ≡ None
unfolding script_texts.next_piece
cut_none quote b bs cut =
    let both = and_parts (b == 10) (not (script_texts.is_backquote quote)) cut in
    let no_slash : (b == 92) ≡ false = grind (arith, nat_tests, both.0) in
    rw (no_slash, cut) refl

not_cut : (quote b : ℕ) (bs : List ℕ) (p : script_escapes.Piece) → script_texts.next_piece quote (b ∷ bs) ≡ Some p → (b == 10 && not (script_texts.is_backquote quote)) ≡ false
not_cut quote b bs p read = off (b == 10 && not (script_texts.is_backquote quote)) (script_texts.next_piece quote (b ∷ bs)) p (cut_none quote b bs) read

-- the letters of a Text that the subset has, and the bytes behind it
abbrev Same : ℕ → ℕ → List ℕ → List ℕ → List ℕ → Type 0
Same quote skip bs letters rest = text_from quote skip bs ≡ record { letters = letters; rest = rest; ending = Closed; sure = true }

same_turn : (quote at b : ℕ) (bs letters rest : List ℕ) → is_plain_byte b bs ≡ true
    → Turn (b == quote) (script_texts.begins_template quote (b ∷ bs)) (script_texts.next_piece quote (b ∷ bs)) (λ skip. script_texts.text_from quote at skip bs) bs letters rest
    → ((skip : ℕ) (more : List ℕ) → script_texts.text_from quote at skip bs ≡ Ok (more, rest) → Same quote skip bs more rest) → Same quote 0 (b ∷ bs) letters rest
unfolding text_from end_of
same_turn quote at b bs letters rest plain (closes same none behind) later = rw (same, none) (ap (ended Closed) behind)
same_turn quote at b bs letters rest plain (reads p more other template found read joined) later =
    let part = same_part quote b bs p plain found in
    let cut = not_cut quote b bs p found in
    rw (other, template, cut, part, later (p.1 - 1) more read) (ap (λ (ls : List ℕ). record { letters = ls; rest = rest; ending = Closed; sure = true }) joined)

pub same_text : (quote at skip : ℕ) (bs letters rest : List ℕ) → has_plain_lines bs ≡ true → script_texts.text_from quote at skip bs ≡ Ok (letters, rest) → Same quote skip bs letters rest
unfolding script_texts.text_from text_from has_plain_lines
same_text quote at skip [] letters rest plain read = absurd (grind (arith, read))
same_text quote at (suc skip) (b ∷ bs) letters rest plain read = same_text quote at skip bs letters rest (and_parts (is_plain_byte b bs) (has_plain_lines bs) plain).1 read
same_text quote at zero (b ∷ bs) letters rest plain read =
    let plains = and_parts (is_plain_byte b bs) (has_plain_lines bs) plain in
    same_turn quote at b bs letters rest plains.0
    (turn (b == quote) (script_texts.begins_template quote (b ∷ bs)) at (script_texts.next_piece quote (b ∷ bs)) (λ skip. script_texts.text_from quote at skip bs) bs letters rest read)
    (λ skip more. same_text quote at skip bs more rest plains.1)
