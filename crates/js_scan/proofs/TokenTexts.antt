-- The bytes of a token are UTF-8 where the file is: the first and the last of them are ASCII.
use Rattle.std.proofs.Common.{◌≡◌, ℕ, zero, suc, ◌-◌, ◌+◌, ◌≤◌, ◌<◌, ◌&&◌, ◌==◌, Bool, true, false, List, [], ◌∷◌, ◌++◌, length, take, drop, Option, Some, None, Ok, Err, refl, sym, ap, subst, ◌∙◌, arith, if◌then◌else◌, nat_eq, nat_lt, slice_index, slice_range, IsUtf8, length-append, length-drop, get_or-take, get_or-drop}
use Rattle.std.specs.List.{All, prefix_len, starts_with}
use Rattle.std.specs.Str.{IsCharBoundary}
use Rattle.std.specs.Char.{is_ascii_digit}
use Rattle.std.proofs.lemmas.Bool.Decides.{nat_tests}
use Rattle.std.proofs.lemmas.Bool.{and_parts}
use Rattle.std.proofs.lemmas.List.{get_or_at, length-take}
use Rattle.std.proofs.lemmas.List.Elements.{All-head, All-tail}
use Rattle.std.proofs.lemmas.List.Sums.{prefix_len-le-length, prefix_len_passes}
use Rattle.std.proofs.lemmas.Str.{IsUtf8-nil, IsUtf8-take, IsUtf8-drop, IsCharBoundary-before_ascii, IsCharBoundary-after_ascii}
use Rattle.text_bytes.specs.Blanks.{is_blank}
use Rattle.js_scan.specs.declared.token.Token.{Token}
use Rattle.js_scan.specs.declared.token.TokenKind.{TokenKind}
use Rattle.js_scan.specs.declared.token.TokenKind.TheVariants.{Name, Number}
use Rattle.js_scan.specs.Bytes.{begins_name, is_in_name, is_in_number, is_quote}
use Rattle.js_scan.specs.Texts.{quoted}
use Rattle.js_scan.specs.Marks.{marks, first_len, mark_len}
use Rattle.js_scan.specs.Tokens.{Front, text_front, slash, mark_front, front, script_tokens, IsSpelled}
use Rattle.js_scan.specs.Utf8.{AreTexts}
use Rattle.js_scan.proofs.OwnBytes.{own_text}
use Rattle.js_scan.proofs.Spelling.{bind_ok, len_of, slash_mark, some_mark, own_front, all_spelled}

-- ---- marks

abbrev are_low : List ℕ → Bool
are_low [] = true
are_low (b ∷ bs) = nat_lt b 128 && are_low bs

abbrev are_all_low : List (List ℕ) → Bool
are_all_low [] = true
are_all_low (m ∷ ms) = are_low m && are_all_low ms

-- the first bytes, so many of them, are ASCII
abbrev LowFront : List ℕ → ℕ → Type 0
LowFront bs len = (len ≤ length bs) × ((i : ℕ) → i < len → slice_index bs i < 128)

same_low : (k b : ℕ) → nat_lt k 128 ≡ true → nat_eq k b ≡ true → b < 128
same_low k b low same = grind (arith, nat_tests)

low_more : (b : ℕ) (bs : List ℕ) (len : ℕ) → b < 128 → LowFront bs len → LowFront (b ∷ bs) (suc len)
low_more b bs len first later = (omega (arith, later.0), at)
  where
    at : (i : ℕ) → i < suc len → slice_index (b ∷ bs) i < 128
    at zero lt = first
    at (suc i) lt = later.1 i (omega arith)

starts_low : (m bs : List ℕ) → are_low m ≡ true → starts_with nat_eq bs m ≡ true → LowFront bs (length m)
starts_low [] bs low starts = (omega arith, λ i lt. absurd (omega arith))
starts_low (k ∷ ks) [] low starts = absurd (grind arith)
starts_low (k ∷ ks) (b ∷ bs) low starts =
    let lows = and_parts (nat_lt k 128) (are_low ks) low in
    let same = and_parts (nat_eq k b) (starts_with nat_eq bs ks) starts in
    low_more b bs (length ks) (same_low k b lows.0 same.0) (starts_low ks bs lows.1 same.1)

mark_low : (ms : List (List ℕ)) (bs : List ℕ) (len : ℕ) → are_all_low ms ≡ true → first_len ms bs ≡ Some len → LowFront bs len
mark_low [] bs len low read = absurd (grind arith)
mark_low (m ∷ ms) bs len low read =
    let lows = and_parts (are_low m) (are_all_low ms) low in by (starts_with nat_eq bs m) lows.0 refl (mark_low ms bs len lows.1) read
  where
    by : (test : Bool) → are_low m ≡ true → starts_with nat_eq bs m ≡ test → (first_len ms bs ≡ Some len → LowFront bs len) → (if test then Some (length m) else first_len ms bs) ≡ Some len → LowFront bs len
    by true first starts others found = let same : length m ≡ len = grind arith in subst (LowFront bs) same (starts_low m bs first starts)
    by false first starts others found = others found

-- ---- the ends of a token

-- so many bytes begin and end with an ASCII one
abbrev LowEnds : List ℕ → ℕ → Type 0
LowEnds bs len = (slice_index bs 0 < 128) × (len ≤ length bs) × (slice_index bs (len - 1) < 128)

run_low : (p : ℕ → Bool) (b : ℕ) (bs : List ℕ) (n : ℕ) → b < 128 → ((c : ℕ) → p c ≡ true → c < 128) → n ≤ prefix_len p bs → slice_index (b ∷ bs) n < 128
run_low p b bs zero low passes le = low
run_low p b bs (suc n) low passes le = passes (slice_index bs n) (prefix_len_passes p bs n 0 (omega (arith, le)))

run_ends : (p : ℕ → Bool) (own : TokenKind) (b : ℕ) (bs : List ℕ) (len : ℕ) (kind : TokenKind) → b < 128 → ((c : ℕ) → p c ≡ true → c < 128)
    → ◌≡◌ {A = Front} (Ok (Some own, 1 + prefix_len p bs)) (Ok (Some kind, len)) → LowEnds (b ∷ bs) len
run_ends p own b bs len kind low passes read =
    let size : 1 + prefix_len p bs ≡ len = ap len_of read in
    let within = prefix_len-le-length p bs in
    let less : len - 1 ≡ prefix_len p bs = omega (arith, size) in
    (low, omega (arith, size, within), rw less (run_low p b bs (prefix_len p bs) low passes (omega arith)))

text_ends : (quote : ℕ) (behind : List ℕ) (at len : ℕ) (kind : TokenKind) → is_quote quote ≡ true → quote < 128 → text_front quote behind at ≡ Ok (Some kind, len) → LowEnds (quote ∷ behind) len
unfolding text_front
text_ends quote behind at len kind q low read =
    let text = bind_ok (quoted quote at behind) _ (Some kind, len) read in
    let rest = text.0.1 in
    let own = own_text quote at 0 behind text.0.0 rest q text.1 in
    let size : 1 + length behind - length rest ≡ len = ap len_of text.2 in
    let all : length behind ≡ length own.0 + suc (length rest) = ap length own.1 ∙ length-append own.0 (quote ∷ rest) in
    let less : len - 1 ≡ suc (length own.0) = omega (arith, size, all) in
    let last : slice_index behind (length own.0) ≡ quote = ap (λ (bs : List ℕ). slice_index bs (length own.0)) own.1 ∙ get_or_at own.0 quote rest 0 (length own.0) refl in
    (low, omega (arith, size, all), rw (less, last) low)

slash_ends : (divides : Bool) (b : ℕ) (behind : List ℕ) (at len : ℕ) (kind : TokenKind) → b < 128 → slash divides behind at ≡ Ok (Some kind, len) → LowEnds (b ∷ behind) len
slash_ends divides b behind at len kind low read =
    let one : 1 ≡ len = ap len_of (slash_mark divides behind at len kind read) in
    let less : len - 1 ≡ 0 = omega (arith, one) in
    (low, omega (arith, one), rw less low)

mark_ends : (b : ℕ) (bs : List ℕ) (at len : ℕ) (kind : TokenKind) → 1 ≤ len → mark_front (b ∷ bs) at ≡ Ok (Some kind, len) → LowEnds (b ∷ bs) len
unfolding mark_front mark_len
mark_ends b bs at len kind some read =
    let low = mark_low marks (b ∷ bs) len refl (some_mark (mark_len (b ∷ bs)) at len kind read).0 in
    (low.1 0 (omega (arith, some)), low.0, low.1 (len - 1) (omega (arith, some)))

either : (R : Type 0) (r : Front) (test : Bool) (x y : Front) → (test ≡ true → x ≡ r → R) → (test ≡ false → y ≡ r → R) → (if test then x else y) ≡ r → R
either R r true x y first later read = first refl read
either R r false x y first later read = later refl read

name_low : (b : ℕ) → begins_name b ≡ true → b < 128
name_low b begins = grind (arith, nat_tests)

in_name_low : (b : ℕ) → is_in_name b ≡ true → b < 128
in_name_low b inside = grind (arith, nat_tests)

digit_low : (b : ℕ) → is_ascii_digit b ≡ true → b < 128
digit_low b digit = grind (arith, nat_tests)

in_number_low : (b : ℕ) → is_in_number b ≡ true → b < 128
in_number_low b inside = grind (arith, nat_tests)

quote_low : (b : ℕ) → is_quote b ≡ true → b < 128
quote_low b quote = grind (arith, nat_tests)

slash_low : (b : ℕ) → (b == 47) ≡ true → b < 128
slash_low b same = grind (arith, nat_tests)

front_ends : (divides : Bool) (b : ℕ) (bs : List ℕ) (at len : ℕ) (kind : TokenKind) → 1 ≤ len → front divides (b ∷ bs) at ≡ Ok (Some kind, len) → LowEnds (b ∷ bs) len
unfolding front
front_ends divides b bs at len kind some read =
    let r : Front = Ok (Some kind, len) in
    let R = LowEnds (b ∷ bs) len in
    either R r (is_blank b) _ _ (λ _ none. absurd (grind arith)) (λ _.
    either R r (begins_name b) _ _ (λ begins name. run_ends is_in_name Name b bs len kind (name_low b begins) in_name_low name) (λ _.
    either R r (is_ascii_digit b) _ _ (λ digit number. run_ends is_in_number Number b bs len kind (digit_low b digit) in_number_low number) (λ _.
    either R r (is_quote b) _ _ (λ quote text. text_ends b bs at len kind quote (quote_low b quote) text) (λ _.
    either R r (b == 47) _ _ (λ same mark. slash_ends divides b bs at len kind (slash_low b same) mark) (λ _ mark.
    mark_ends b bs at len kind some mark))))) read

-- ---- a token of a file

token_text : (bs : List ℕ) (from len : ℕ) (rest : List ℕ) (kind : TokenKind) → drop from bs ≡ rest → IsUtf8 bs → front true (take len rest) from ≡ Ok (Some kind, len) → IsUtf8 (take len rest)
unfolding front
token_text bs from zero rest kind here text read = IsUtf8-nil
token_text bs from (suc len) [] kind here text read = IsUtf8-nil
token_text bs from (suc len) (c ∷ cs) kind here text read =
    let ends = front_ends true c (take len cs) from (suc len) kind (omega arith) read in
    let size : length bs - from ≡ suc (length cs) = sym (length-drop from bs) ∙ ap length here in
    let first : slice_index bs from ≡ c = ap (λ (k : ℕ). slice_index bs k) {x = from} {y = from + 0} (omega arith) ∙ sym (get_or-drop from bs 0 0) ∙ ap (λ (x : List ℕ). slice_index x 0) here in
    let rest_text : IsUtf8 (c ∷ cs) = subst IsUtf8 here (IsUtf8-drop bs from text (IsCharBoundary-before_ascii bs from (omega (arith, size)) (rw first ends.0))) in
    let shorter : length (take len cs) ≤ length cs = let taken = length-take len cs in omega (arith, taken) in
    let less : suc len - 1 ≡ len = omega arith in
    let last : slice_index (c ∷ cs) len < 128 = rw (less, get_or-take (suc len) (c ∷ cs) len 0 (omega arith)) at ends.2 in
    IsUtf8-take (c ∷ cs) (suc len) rest_text (subst (IsCharBoundary (c ∷ cs)) {x = len + 1} {y = suc len} (omega arith)
    (IsCharBoundary-after_ascii (c ∷ cs) len rest_text (omega (arith, ends.1, shorter)) last))

texts_of : (bs : List ℕ) (ts : List Token) → IsUtf8 bs → All (IsSpelled bs) ts → AreTexts bs ts
texts_of bs [] text spelled = tt
texts_of bs (t ∷ ts) text spelled =
    (token_text bs t.from (t.to - t.from) (drop t.from bs) t.kind refl text (All-head (IsSpelled bs) t ts spelled), texts_of bs ts text (All-tail (IsSpelled bs) t ts spelled))

pub all_texts : (bs : List ℕ) (ts : List Token) → IsUtf8 bs → script_tokens bs ≡ Ok ts → AreTexts bs ts
all_texts bs ts text read = texts_of bs ts text (all_spelled bs ts read)
