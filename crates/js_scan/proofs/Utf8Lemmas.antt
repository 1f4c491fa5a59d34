-- In a UTF-8 file the letters of a Text are UTF-8.
use Rattle.std.proofs.Common.{◌≡◌, ℕ, zero, suc, ◌-◌, ◌+◌, ◌*◌, ◌≤◌, ◌<◌, ◌==◌, ◌&&◌, not, Bool, true, false, List, [], ◌∷◌, length, take, drop, Option, Some, None, Ok, Err, refl, sym, subst, arith, IsUtf8, encode_utf8, slice_index, nat_eq, nat_lt, if◌then◌else◌, codes}
use Rattle.std.proofs.lemmas.Bool.Decides.{nat_tests}
use Rattle.std.specs.Char.{is_ascii_digit, is_ascii_hexdigit, IsScalar}
use Rattle.std.specs.Str.{IsCharBoundary}
use Rattle.std.specs.List.{prefix_len, starts_with}
use Rattle.std.proofs.Common.{drop-drop}
use Rattle.std.proofs.lemmas.List.Sums.{prefix_len-le-length, prefix_len_stops}
use Rattle.std.proofs.lemmas.Str.{IsUtf8-drop, IsUtf8-take, IsUtf8-append, IsUtf8-nil, IsUtf8-encode, IsUtf8-from_ascii, IsCharBoundary-after_ascii}
use Rattle.std.proofs.lemmas.Str.Ascii.{IsAscii-nil, IsAscii-cons}
use Rattle.std.specs.Prelude.{option_and_then}
use Rattle.std.specs.Option.{option_map}
use Rattle.std.proofs.lemmas.Bool.{and_parts}
use Rattle.text_bytes.specs.Rests.{IsRest}
use Rattle.js_scan.specs.declared.token.ScanFault.{ScanFault}
use Rattle.js_scan.specs.declared.token.ScanFault.TheVariants.{BadString, Template}
use Rattle.js_scan.specs.Utf8.{TextBehindAscii}
use Rattle.js_scan.specs.Bytes.{is_plain, is_quote, hex_value}
use Rattle.js_scan.specs.Escapes.{Piece, hex_pair, hex_quad, byte_piece, unit_piece, is_surrogate, escape}
use Rattle.js_scan.specs.Texts.{next_piece, is_backquote, text_from, begins_template, with_letters, ok_or, ◌>>=◌, Read, quoted}

pub past_ascii : (b : ℕ) (bs : List ℕ) → b < 128 → IsUtf8 (b ∷ bs) → IsUtf8 bs
past_ascii b bs lt text = IsUtf8-drop (b ∷ bs) 1 text (IsCharBoundary-after_ascii (b ∷ bs) 0 text (omega arith) lt)

pub behind_ascii : (bs : List ℕ) → IsUtf8 bs → TextBehindAscii bs
behind_ascii bs text i lt ascii = IsUtf8-drop bs (i + 1) text (IsCharBoundary-after_ascii bs i text lt ascii)

pub behind_cut : (n : ℕ) (bs : List ℕ) → TextBehindAscii bs → TextBehindAscii (drop n bs)
behind_cut zero bs cut = cut
behind_cut (suc n) [] cut = cut
behind_cut (suc n) (b ∷ bs) cut =
    behind_cut n bs (λ i lt ascii. subst (λ (j : ℕ). IsUtf8 (drop j (b ∷ bs))) {x = suc i + 1} {y = suc (i + 1)} (omega arith) (cut (suc i) (omega arith) ascii))

pub behind_rest : (all rest : List ℕ) → IsRest all rest → TextBehindAscii all → TextBehindAscii rest
behind_rest all rest part cut = subst TextBehindAscii part.last (behind_cut (length all - length rest) all cut)

pub behind_quote : (b : ℕ) (bs : List ℕ) → TextBehindAscii (b ∷ bs) → is_quote b ≡ true → IsUtf8 bs
behind_quote b bs cut quote = cut 0 (omega arith) (grind (arith, nat_tests))

-- ---- a piece is UTF-8, and so is what is behind it

unfoldable Cuts : List ℕ → Option Piece → Type 0
Cuts bs None = Unit {0}
Cuts bs (Some p) = (1 ≤ p.1) × IsUtf8 p.0 × IsUtf8 (drop p.1 bs)

no_piece : (bs : List ℕ) → Cuts bs None
unfolding Cuts
no_piece bs = tt

some_piece : (bs letters : List ℕ) (len : ℕ) → 1 ≤ len → IsUtf8 letters → IsUtf8 (drop len bs) → Cuts bs (Some (letters, len))
unfolding Cuts
some_piece bs letters len low good rest = (low, good, rest)

either : (bs : List ℕ) (test : Bool) (x y : Option Piece) → (test ≡ true → Cuts bs x) → (test ≡ false → Cuts bs y) → Cuts bs (if test then x else y)
either bs true x y yields others = yields refl
either bs false x y yields others = others refl

one_byte : (b : ℕ) → b < 128 → IsUtf8 (b ∷ [])
one_byte b lt = IsUtf8-from_ascii (b ∷ []) (IsAscii-cons b [] lt IsAscii-nil)

-- a backslash with an ASCII byte behind it
stands_for : (c : ℕ) (bs letters : List ℕ) → IsUtf8 (c ∷ bs) → c < 128 → IsUtf8 letters → Cuts (92 ∷ c ∷ bs) (Some (letters, 2))
stands_for c bs letters text lt good = some_piece (92 ∷ c ∷ bs) letters 2 (omega arith) good (past_ascii c bs lt text)

low : (c k : ℕ) → (c == k) ≡ true → k < 128 → c < 128
low c k same lt = grind (arith, nat_tests)

control : (c k b : ℕ) (bs : List ℕ) → IsUtf8 (c ∷ bs) → k < 128 → b < 128 → (c == k) ≡ true → Cuts (92 ∷ c ∷ bs) (Some (b ∷ [], 2))
control c k b bs text lt lt_b same = stands_for c bs (b ∷ []) text (low c k same lt) (one_byte b lt_b)

hex_digit : (b : ℕ) → is_ascii_hexdigit b ≡ true → (b < 128) × (hex_value b < 16)
hex_digit b digit = grind (arith, nat_tests)

-- the digits that a pair takes are ASCII
pair_cut : (bs : List ℕ) (code : ℕ) → IsUtf8 bs → hex_pair bs ≡ Some code → (code < 256) × IsUtf8 (drop 2 bs)
unfolding hex_pair
pair_cut [] code text read = absurd (grind arith)
pair_cut (h ∷ []) code text read = absurd (grind arith)
pair_cut (h ∷ l ∷ bs) code text read =
    let found = when (is_ascii_hexdigit h && is_ascii_hexdigit l) (16 * hex_value h + hex_value l) code read in
    let digits = and_parts (is_ascii_hexdigit h) (is_ascii_hexdigit l) found.0 in
    let high = hex_digit h digits.0 in
    let less = hex_digit l digits.1 in
    (omega (arith, found.1), past_ascii l bs less.0 (past_ascii h (l ∷ bs) high.0 text))
  where
    when : (test : Bool) (n code : ℕ) → (if test then Some n else None) ≡ Some code → (test ≡ true) × (n ≡ code)
    when true n code same = (refl, grind arith)
    when false n code same = absurd (grind arith)

quad_parts : (first second : Option ℕ) (code : ℕ) → option_and_then (λ high. option_map (λ low. 256 * high + low) second) first ≡ Some code
    → (high : ℕ) × (low : ℕ) × (first ≡ Some high) × (second ≡ Some low) × (256 * high + low ≡ code)
quad_parts None second code read = absurd (grind arith)
quad_parts (Some high) None code read = absurd (grind arith)
quad_parts (Some high) (Some low) code read = (high, low, refl, refl, grind arith)

quad_cut : (bs : List ℕ) (code : ℕ) → IsUtf8 bs → hex_quad bs ≡ Some code → (code < 65536) × IsUtf8 (drop 4 bs)
unfolding hex_quad
quad_cut bs code text read =
    let parts = quad_parts (hex_pair bs) (hex_pair (drop 2 bs)) code read in
    let first = pair_cut bs parts.0 text parts.2 in
    let second = pair_cut (drop 2 bs) parts.1 first.1 parts.3 in
    (omega (arith, parts.4, first.0, second.0), subst IsUtf8 (drop-drop 2 2 bs) second.1)

is_scalar : (code : ℕ) → code < 65536 → is_surrogate code ≡ false → IsScalar code
is_scalar code lt other = grind (arith, nat_tests)

small_scalar : (code : ℕ) → code < 256 → IsScalar code
small_scalar code lt = grind (arith, nat_tests)

byte_cuts : (c : ℕ) (bs : List ℕ) (o : Option ℕ) → IsUtf8 (c ∷ bs) → c < 128 → ((code : ℕ) → o ≡ Some code → (code < 256) × IsUtf8 (drop 2 bs)) → Cuts (92 ∷ c ∷ bs) (Some (byte_piece o))
byte_cuts c bs None text lt known = stands_for c bs (120 ∷ []) text lt (one_byte 120 (omega arith))
byte_cuts c bs (Some code) text lt known =
    let found = known code refl in
    some_piece (92 ∷ c ∷ bs) (encode_utf8 code) 4 (omega arith) (IsUtf8-encode code (small_scalar code found.0)) found.1

unit_cuts : (c : ℕ) (bs : List ℕ) (o : Option ℕ) → IsUtf8 (c ∷ bs) → c < 128 → ((code : ℕ) → o ≡ Some code → (code < 65536) × IsUtf8 (drop 4 bs)) → Cuts (92 ∷ c ∷ bs) (unit_piece o)
unit_cuts c bs None text lt known = stands_for c bs (117 ∷ []) text lt (one_byte 117 (omega arith))
unit_cuts c bs (Some code) text lt known =
    let found = known code refl in
    either (92 ∷ c ∷ bs) (is_surrogate code) None (Some (encode_utf8 code, 6)) (λ _. no_piece (92 ∷ c ∷ bs))
    (λ other. some_piece (92 ∷ c ∷ bs) (encode_utf8 code) 6 (omega arith) (IsUtf8-encode code (is_scalar code found.0 other)) found.1)

escape_cuts : (bs : List ℕ) → IsUtf8 (92 ∷ bs) → Cuts (92 ∷ bs) (escape bs)
unfolding escape
escape_cuts [] text = no_piece (92 ∷ [])
escape_cuts (c ∷ bs) text =
    let all = 92 ∷ c ∷ bs in
    let here : IsUtf8 (c ∷ bs) = past_ascii 92 (c ∷ bs) (omega arith) text in
    either all (c == 110) _ _ (control c 110 10 bs here (omega arith) (omega arith)) (λ _.
    either all (c == 116) _ _ (control c 116 9 bs here (omega arith) (omega arith)) (λ _.
    either all (c == 114) _ _ (control c 114 13 bs here (omega arith) (omega arith)) (λ _.
    either all (c == 98) _ _ (control c 98 8 bs here (omega arith) (omega arith)) (λ _.
    either all (c == 102) _ _ (control c 102 12 bs here (omega arith) (omega arith)) (λ _.
    either all (c == 118) _ _ (control c 118 11 bs here (omega arith) (omega arith)) (λ _.
    either all (c == 10) _ _ (λ same. stands_for c bs [] here (low c 10 same (omega arith)) IsUtf8-nil) (λ _.
    either all (c == 120) _ _
    (λ same. let lt = low c 120 same (omega arith) in byte_cuts c bs (hex_pair bs) here lt (λ code. pair_cut bs code (past_ascii c bs lt here))) (λ _.
    either all (c == 117) _ _
    (λ same. let lt = low c 117 same (omega arith) in
    either all (starts_with nat_eq bs (codes "{")) _ _ (λ _. no_piece all) (λ _. unit_cuts c bs (hex_quad bs) here lt (λ code. quad_cut bs code (past_ascii c bs lt here)))) (λ _.
    either all (is_ascii_digit c) _ _ (λ _. no_piece all) (λ _.
    either all (nat_lt c 128) _ _ (λ ascii. let lt : c < 128 = grind (arith, nat_tests) in stands_for c bs (c ∷ []) here lt (one_byte c lt)) (λ _.
    some_piece all [] 1 (omega arith) IsUtf8-nil here)))))))))))

not_plain : (b : ℕ) → is_plain b ≡ false → b < 128
not_plain b other = grind (arith, nat_tests)

-- a run of plain bytes ends before an ASCII byte, or at the end
run_ends : (b : ℕ) (bs : List ℕ) → IsCharBoundary (b ∷ bs) (suc (prefix_len is_plain bs))
run_ends b bs =
    let within = prefix_len-le-length is_plain bs in
    (omega (arith, within), λ lt high. let next = not_plain (slice_index bs (prefix_len is_plain bs)) (prefix_len_stops is_plain bs 0 (omega arith)) in absurd (omega (arith, next)))

run_cuts : (b : ℕ) (bs : List ℕ) → IsUtf8 (b ∷ bs) → Cuts (b ∷ bs) (let len = 1 + prefix_len is_plain bs in Some (take len (b ∷ bs), len))
run_cuts b bs text =
    let len = 1 + prefix_len is_plain bs in
    let ends : IsCharBoundary (b ∷ bs) len = subst (IsCharBoundary (b ∷ bs)) {x = suc (prefix_len is_plain bs)} {y = len} (omega arith) (run_ends b bs) in
    some_piece (b ∷ bs) (take len (b ∷ bs)) len (omega arith) (IsUtf8-take (b ∷ bs) len text ends) (IsUtf8-drop (b ∷ bs) len text ends)

piece_cuts : (quote b : ℕ) (bs : List ℕ) → IsUtf8 (b ∷ bs) → Cuts (b ∷ bs) (next_piece quote (b ∷ bs))
unfolding next_piece
piece_cuts quote b bs text =
    either (b ∷ bs) (b == 92) _ _
    (λ same. let e : b ≡ 92 = grind (arith, nat_tests) in
    subst (λ (x : ℕ). Cuts (x ∷ bs) (escape bs)) (sym e) (escape_cuts bs (subst (λ (x : ℕ). IsUtf8 (x ∷ bs)) e text))) (λ _.
    either (b ∷ bs) (b == 10 && not (is_backquote quote)) _ _ (λ _. no_piece (b ∷ bs)) (λ _. run_cuts b bs text))

-- ---- so all letters are

unfoldable Spells : Read → Type 0
Spells (Ok t) = IsUtf8 t.0
Spells (Err e) = Unit {0}

fault_spells : (e : ScanFault) → Spells (Err e)
unfolding Spells
fault_spells e = tt

none_spell : (rest : List ℕ) → Spells (Ok ([], rest))
unfolding Spells
none_spell rest = IsUtf8-nil

joined : (letters : List ℕ) (r : Read) → IsUtf8 letters → Spells r → Spells (with_letters letters r)
unfolding Spells
joined letters (Ok t) good others = IsUtf8-append letters t.0 good others
joined letters (Err e) good others = tt

choose : (test : Bool) (x y : Read) → Spells x → Spells y → Spells (if test then x else y)
choose true x y yields others = yields
choose false x y yields others = others

behind_piece : (quote at b : ℕ) (bs : List ℕ) (o : Option Piece) → Cuts (b ∷ bs) o → ((skip : ℕ) → IsUtf8 (drop skip bs) → Spells (text_from quote at skip bs))
    → Spells (ok_or o (BadString at) >>= λ p. with_letters p.0 (text_from quote at (p.1 - 1) bs))
unfolding Cuts
behind_piece quote at b bs None cuts others = fault_spells (BadString at)
behind_piece quote at b bs (Some (letters, zero)) cuts others = absurd (omega (arith, cuts.0))
behind_piece quote at b bs (Some (letters, suc len)) cuts others =
    let less : suc len - 1 ≡ len = omega arith in rw less (joined letters (text_from quote at len bs) cuts.1 (others len cuts.2))

spelled : (quote at skip : ℕ) (bs : List ℕ) → IsUtf8 (drop skip bs) → Spells (text_from quote at skip bs)
unfolding text_from
spelled quote at skip [] text = fault_spells (BadString at)
spelled quote at (suc skip) (b ∷ bs) text = spelled quote at skip bs text
spelled quote at zero (b ∷ bs) text =
    choose (b == quote) _ _ (none_spell bs) (choose (begins_template quote (b ∷ bs)) _ _ (fault_spells (Template at))
    (behind_piece quote at b bs (next_piece quote (b ∷ bs)) (piece_cuts quote b bs text) (λ skip. spelled quote at skip bs)))

pub letters_utf8 : (quote at : ℕ) (bs letters rest : List ℕ) → IsUtf8 bs → quoted quote at bs ≡ Ok (letters, rest) → IsUtf8 letters
unfolding Spells
letters_utf8 quote at bs letters rest text read = subst Spells read (spelled quote at 0 bs text)
