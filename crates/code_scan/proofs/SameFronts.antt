-- What stands at a place of a plain text is what the scanner of the subset reads there.
use Rattle.std.proofs.Common.{◌≡◌, ℕ, suc, ◌-◌, ◌+◌, ◌≤◌, ◌<◌, ◌==◌, ◌&&◌, ◌||◌, not, Bool, true, false, if◌then◌else◌, List, [], ◌∷◌, length, drop, Option, Some, None, is_none, Ok, Err, refl, sym, ap, subst, ◌∙◌, arith, nat_eq, nat_lt, nat_le, codes, length-drop}
use Rattle.std.specs.List.{prefix_len, starts_with}
use Rattle.std.proofs.lemmas.List.Sums.{prefix_len-le-length}
use Rattle.std.proofs.lemmas.Bool.{and_parts}
use Rattle.std.proofs.lemmas.Bool.Decides.{nat_tests}
use Rattle.std.proofs.lemmas.Bool.{not-true}
use Rattle.std.specs.Char.{is_ascii_digit}
use Rattle.text_bytes.specs.Blanks.{is_blank}
use Rattle.js_scan.specs.declared.token.ScanFault.TheVariants.{BadByte, Regexp}
use Rattle.js_scan.specs.declared.token.TokenKind as script_kind
use Rattle.js_scan.specs.Bytes.{begins_name, is_in_name, is_in_number, is_quote}
use Rattle.js_scan.specs.Comments.{is_in_line, behind_close}
use Rattle.js_scan.specs.Marks as script_marks
use Rattle.js_scan.specs.Texts as script_texts
use Rattle.js_scan.specs.Texts.{◌>>=◌}
use Rattle.js_scan.specs.Tokens as script_tokens
use Rattle.code_scan.specs.declared.state.Before.{Before}
use Rattle.code_scan.specs.declared.state.Before.TheVariants.{Operator, Dot, Value, Keyword, Head, Block}
use Rattle.code_scan.specs.declared.token.Front.{Front}
use Rattle.code_scan.specs.declared.token.Piece.TheVariants.{Passed, One}
use Rattle.code_scan.specs.declared.token.TokenKind.TheVariants.{Number, Text, Mark}
use Rattle.code_scan.specs.Blanks.{wide_blank, begins_space}
use Rattle.code_scan.specs.Lines.{begins_break, behind_line}
use Rattle.code_scan.specs.Names.{begins_letter, behind_name}
use Rattle.code_scan.specs.Fronts.{sure_front, text_front, hole_front, line_comment, comment_front, block_comment, lone_slash, slash, begins_comment, html_comment, begins_optional, further_len, wide_mark_len, mark_front, name_front, other_front, rare_front, front, read_quoted}
use Rattle.code_scan.specs.SameTokens.{is_plain_byte, has_plain_lines, is_unsure, is_plain_slash, is_plain_front}
use Rattle.code_scan.specs.States.{State, is_in_hole}
use Rattle.code_scan.proofs.SameStates.{is_dividing, no_hole_here, GoesWith, IsPiece}
use Rattle.code_scan.proofs.SameTexts.{same_text}

-- ---- names

-- a name ends before a byte that isn't past ASCII, or is white space
pub same_name : (bs : List ℕ) → begins_letter (drop (prefix_len is_in_name bs) bs) ≡ false → behind_name bs ≡ drop (prefix_len is_in_name bs) bs
unfolding behind_name
same_name [] plain = refl
same_name (b ∷ bs) plain = by (is_in_name b) refl plain (same_name bs)
  where
    by : (test : Bool) → is_in_name b ≡ test → begins_letter (drop (if test then 1 + prefix_len is_in_name bs else 0) (b ∷ bs)) ≡ false
        → (begins_letter (drop (prefix_len is_in_name bs) bs) ≡ false → behind_name bs ≡ drop (prefix_len is_in_name bs) bs)
        → (if (test || begins_letter (b ∷ bs)) then behind_name bs else b ∷ bs) ≡ drop (if test then 1 + prefix_len is_in_name bs else 0) (b ∷ bs)
    by true is plain later =
        let more : 1 + prefix_len is_in_name bs ≡ suc (prefix_len is_in_name bs) = omega arith in
        later (subst (λ (n : ℕ). begins_letter (drop n (b ∷ bs)) ≡ false) more plain) ∙ sym (ap (λ (n : ℕ). drop n (b ∷ bs)) more)
    by false is plain later = rw plain refl

-- how long a run is, from what is behind it
pub run_length : (n : ℕ) (bs rest : List ℕ) → n ≤ length bs → rest ≡ drop n bs → 1 + length bs - length rest ≡ 1 + n
run_length n bs rest within is = let left : length rest ≡ length bs - n = ap (λ (xs : List ℕ). length xs) is ∙ length-drop n bs in omega (arith, left, within)

pub name_length : (bs : List ℕ) → begins_letter (drop (prefix_len is_in_name bs) bs) ≡ false → 1 + length bs - length (behind_name bs) ≡ 1 + prefix_len is_in_name bs
name_length bs plain = run_length (prefix_len is_in_name bs) bs (behind_name bs) (prefix_len-le-length is_in_name bs) (same_name bs plain)

-- ---- comments up to the end of the line

ends_there : (b : ℕ) (bs : List ℕ) → (b == 10) ≡ true → begins_break (b ∷ bs) ≡ true
unfolding begins_break
ends_there b bs is = rw is refl

pub same_line : (bs : List ℕ) → has_plain_lines bs ≡ true → behind_line bs ≡ drop (prefix_len is_in_line bs) bs
unfolding behind_line has_plain_lines
same_line [] plain = refl
same_line (b ∷ bs) plain =
    let plains = and_parts (is_plain_byte b bs) (has_plain_lines bs) plain in
    by (begins_break (b ∷ bs)) (b == 10) (ends_there b bs) (and_parts (not (begins_break (b ∷ bs)) || b == 10) _ plains.0).0 (same_line bs plains.1)
  where
    by : (breaks lf : Bool) → (lf ≡ true → breaks ≡ true) → (not breaks || lf) ≡ true → behind_line bs ≡ drop (prefix_len is_in_line bs) bs
        → (if breaks then b ∷ bs else behind_line bs) ≡ drop (if not lf then 1 + prefix_len is_in_line bs else 0) (b ∷ bs)
    by true true there plain later = refl
    by true false there plain later = absurd (grind (arith, plain))
    by false true there plain later = absurd (let is = there refl in grind (arith, is))
    by false false there plain later =
        let more : 1 + prefix_len is_in_line bs ≡ suc (prefix_len is_in_line bs) = omega arith in
        later ∙ sym (ap (λ (n : ℕ). drop n (b ∷ bs)) more)

pub line_length : (bs : List ℕ) → has_plain_lines bs ≡ true → 1 + length bs - length (behind_line bs) ≡ 1 + prefix_len is_in_line bs
line_length bs plain = run_length (prefix_len is_in_line bs) bs (behind_line bs) (prefix_len-le-length is_in_line bs) (same_line bs plain)

-- ---- marks

-- each of them begins with a byte that can be seen
abbrev are_seen : List (List ℕ) → Bool
are_seen [] = true
are_seen ([] ∷ ms) = false
are_seen ((k ∷ ks) ∷ ms) = (nat_lt 31 k && nat_lt k 128) && are_seen ms

seen_as : (k b : ℕ) → (nat_lt 31 k && nat_lt k 128) ≡ true → nat_eq k b ≡ true → (31 < b) × (b < 128)
seen_as k b seen same = (grind (arith, nat_tests, seen, same), grind (arith, nat_tests, seen, same))

mark_seen : (ms : List (List ℕ)) (b : ℕ) (bs : List ℕ) (len : ℕ) → are_seen ms ≡ true → script_marks.first_len ms (b ∷ bs) ≡ Some len → (31 < b) × (b < 128)
mark_seen [] b bs len seen read = absurd (grind (arith, read))
mark_seen ([] ∷ ms) b bs len seen read = absurd (grind (arith, seen))
mark_seen ((k ∷ ks) ∷ ms) b bs len seen read =
    let seens = and_parts (nat_lt 31 k && nat_lt k 128) (are_seen ms) seen in by (nat_eq k b) (starts_with nat_eq bs ks) refl seens.0 (mark_seen ms b bs len seens.1) read
  where
    by : (test others : Bool) → nat_eq k b ≡ test → (nat_lt 31 k && nat_lt k 128) ≡ true → (script_marks.first_len ms (b ∷ bs) ≡ Some len → (31 < b) × (b < 128))
        → (if (test && others) then Some (suc (length ks)) else script_marks.first_len ms (b ∷ bs)) ≡ Some len → (31 < b) × (b < 128)
    by true others is first later read = seen_as k b first is
    by false others is first later read = later read

pub first_seen : (b : ℕ) (bs : List ℕ) (len : ℕ) → script_marks.mark_len (b ∷ bs) ≡ Some len → (31 < b) × (b < 128)
unfolding script_marks.mark_len
first_seen b bs len read = mark_seen script_marks.marks b bs len refl read

no_space : (b : ℕ) (bs : List ℕ) → b < 128 → begins_space (b ∷ bs) ≡ false
unfolding begins_space
no_space b [] less = refl
no_space b (x ∷ []) less = refl
no_space b (x ∷ y ∷ bs) less = let e : (b == 0xE2) ≡ false = grind (arith, nat_tests, less) in rw e refl

-- what can be seen is no white space
pub seen_blank : (b : ℕ) (bs : List ℕ) → 31 < b → b < 128 → wide_blank (b ∷ bs) ≡ None
unfolding wide_blank
seen_blank b bs more less =
    let a : nat_eq 11 b ≡ false = grind (arith, nat_tests, more, less) in
    let c : nat_eq 0xC2 b ≡ false = grind (arith, nat_tests, more, less) in
    let d : nat_eq 0xE1 b ≡ false = grind (arith, nat_tests, more, less) in
    let e : nat_eq 0xE2 b ≡ false = grind (arith, nat_tests, more, less) in
    let f : nat_eq 0xE3 b ≡ false = grind (arith, nat_tests, more, less) in
    let g : nat_eq 0xEF b ≡ false = grind (arith, nat_tests, more, less) in
    rw (a, c, d, e, f, g, no_space b bs less) refl

pub low_letter : (b : ℕ) (bs : List ℕ) → b < 128 → begins_letter (b ∷ bs) ≡ false
low_letter b bs less = let low : nat_le 128 b ≡ false = grind (arith, nat_tests, less) in rw low refl

-- ---- a front

-- the front is what the scanner of the subset reads
abbrev pub IsRead : Front → script_tokens.Front → Type 0
IsRead f (Ok (w, len)) = (f.len ≡ len) × IsPiece f.piece w
IsRead f (Err e) = Unit {0}

either : (r : script_tokens.Front) (test : Bool) (x y : script_tokens.Front) (f g : Front) → (test ≡ true → x ≡ r → IsRead f r) → (test ≡ false → y ≡ r → IsRead g r)
    → (if test then x else y) ≡ r → IsRead (if test then f else g) r
either r true x y f g first later read = first refl read
either r false x y f g first later read = later refl read

known : (f : Front) (x r : script_tokens.Front) → IsRead f x → x ≡ r → IsRead f r
known f x r is read = subst (IsRead f) read is

-- the bytes behind a front begin no letter past ASCII
abbrev pub EndsWell : script_tokens.Front → List ℕ → Type 0
EndsWell (Ok (w, len)) bs = begins_letter (drop (len - 1) bs) ≡ false
EndsWell (Err e) bs = Unit {0}

read_name : (bs : List ℕ) (r : script_tokens.Front) → EndsWell r bs → ◌≡◌ {A = script_tokens.Front} (Ok (Some script_kind.TheVariants.Name, 1 + prefix_len is_in_name bs)) r → IsRead (name_front bs) r
read_name bs r ends read =
    let less : 1 + prefix_len is_in_name bs - 1 ≡ prefix_len is_in_name bs = omega arith in
    let ends' : begins_letter (drop (1 + prefix_len is_in_name bs - 1) bs) ≡ false = subst (λ (x : script_tokens.Front). EndsWell x bs) (sym read) ends in
    known (name_front bs) _ r (name_length bs (subst (λ (n : ℕ). begins_letter (drop n bs) ≡ false) less ends'), refl) read

read_text : (b at : ℕ) (bs : List ℕ) (r : script_tokens.Front) → has_plain_lines bs ≡ true → script_tokens.text_front b bs at ≡ r → IsRead (text_front bs (read_quoted b bs)) r
unfolding script_tokens.text_front
read_text b at bs r plain read = by (script_texts.quoted b at bs) refl read
  where
    by : (q : script_texts.Read) → script_texts.quoted b at bs ≡ q → (q >>= λ t. Ok (Some (script_kind.TheVariants.Text t.0), 1 + length bs - length t.1)) ≡ r → IsRead (text_front bs (read_quoted b bs)) r
    by (Err e) is read = subst (IsRead (text_front bs (read_quoted b bs))) read tt
    by (Ok (letters, rest)) is read = rw (same_text b at 0 bs letters rest plain is) (subst (IsRead (record { piece = One (Text letters); len = 1 + length bs - length rest; sure = true })) read (refl, refl))

sure_slash : (divides : Bool) (before : Before) (bs : List ℕ) (at : ℕ) (r : script_tokens.Front) → (divides ≡ true → is_dividing before ≡ true) → is_unsure before ≡ false
    → (if divides then Ok (Some script_kind.TheVariants.Mark, 1) else Err (Regexp at)) ≡ r → IsRead (lone_slash before bs) r
unfolding lone_slash
sure_slash false before bs at r slash sure read = subst (IsRead (lone_slash before bs)) read tt
sure_slash true Operator bs at r slash sure read = absurd (let no = slash refl in grind (arith, no))
sure_slash true Dot bs at r slash sure read = absurd (let no = slash refl in grind (arith, no))
sure_slash true Value bs at r slash sure read = known (lone_slash Value bs) _ r (refl, refl) read
sure_slash true Keyword bs at r slash sure read = absurd (grind (arith, sure))
sure_slash true Head bs at r slash sure read = absurd (grind (arith, sure))
sure_slash true Block bs at r slash sure read = known (lone_slash Block bs) _ r (refl, refl) read

read_block : (bs : List ℕ) (at : ℕ) (r : script_tokens.Front) → script_tokens.block_comment bs at ≡ r → IsRead (block_comment bs) r
unfolding script_tokens.block_comment block_comment
read_block bs at r read = by (behind_close bs) read
  where
    by : (o : Option (List ℕ)) → (script_texts.ok_or o (BadByte at) >>= λ rest. Ok (None, 2 + length bs - length rest)) ≡ r → IsRead (comment_front bs o) r
    by None read = subst (IsRead (comment_front bs None)) read tt
    by (Some rest) read = known (comment_front bs (Some rest)) _ r (refl, tt) read

read_slash : (divides : Bool) (before : Before) (bs : List ℕ) (at : ℕ) (r : script_tokens.Front) → has_plain_lines bs ≡ true → (divides ≡ true → is_dividing before ≡ true)
    → (not (is_unsure before) || starts_with nat_eq bs (codes "/") || starts_with nat_eq bs (codes "*")) ≡ true → script_tokens.slash divides bs at ≡ r → IsRead (slash before bs) r
unfolding script_tokens.slash slash
read_slash divides before bs at r plain divided sure read =
    either r (starts_with nat_eq bs (codes "/")) _ _ _ _ (λ _ read. known (line_comment bs true) _ r (line_length bs plain, tt) read) (λ no_line.
    either r (starts_with nat_eq bs (codes "*")) _ _ _ _ (λ _ read. read_block (drop 1 bs) at r read) (λ no_block read.
    sure_slash divides before bs at r divided (surely (is_unsure before) _ _ no_line no_block sure) read)) read
  where
    surely : (unsure line block : Bool) → line ≡ false → block ≡ false → (not unsure || line || block) ≡ true → unsure ≡ false
    surely false line block no_line no_block sure = refl
    surely true true block no_line no_block sure = absurd (grind (arith, no_line))
    surely true false true no_line no_block sure = absurd (grind (arith, no_block))
    surely true false false no_line no_block sure = absurd (grind (arith, sure))

none_is : {A : Type 0} (o : Option A) → is_none o ≡ true → o ≡ None
none_is None is = refl
none_is (Some x) is = absurd (grind (arith, is))

read_mark : (s : State) (b : ℕ) (bs : List ℕ) (at : ℕ) (r : script_tokens.Front) → is_in_hole s.brackets ≡ false → begins_comment s.new_line (b ∷ bs) ≡ false → begins_optional (b ∷ bs) ≡ false
    → further_len (b ∷ bs) ≡ None → script_tokens.mark_front (b ∷ bs) at ≡ r
    → IsRead (if b == 125 && is_in_hole s.brackets then hole_front bs (read_quoted 96 bs) else if begins_comment s.new_line (b ∷ bs) then html_comment (b == 60) bs else rare_front b bs) r
unfolding script_tokens.mark_front rare_front mark_front wide_mark_len
read_mark s b bs at r closed comment optional further read = rw (closed, comment) (by (script_marks.mark_len (b ∷ bs)) refl (b == 125) read)
  where
    seen : (len : ℕ) → script_marks.mark_len (b ∷ bs) ≡ Some len → other_front b bs (wide_blank (b ∷ bs)) ≡ sure_front (One Mark) len
    seen len is =
        let bounds = first_seen b bs len is in
        let low : nat_le 128 b ≡ false = grind (arith, nat_tests, bounds) in
        rw (seen_blank b bs bounds.0 bounds.1, low, optional, further, is) refl

    by : (o : Option ℕ) → script_marks.mark_len (b ∷ bs) ≡ o → (curly : Bool) → (script_texts.ok_or o (BadByte at) >>= λ len. Ok (Some script_kind.TheVariants.Mark, len)) ≡ r
        → IsRead (if curly && false then hole_front bs (read_quoted 96 bs) else other_front b bs (wide_blank (b ∷ bs))) r
    by None is curly read = subst (IsRead (if curly && false then hole_front bs (read_quoted 96 bs) else other_front b bs (wide_blank (b ∷ bs)))) read tt
    by (Some len) is true read = rw (seen len is) (known (sure_front (One Mark) len) _ r (refl, refl) read)
    by (Some len) is false read = rw (seen len is) (known (sure_front (One Mark) len) _ r (refl, refl) read)

pub same_front : (s : State) (divides : Bool) (b : ℕ) (bs : List ℕ) (at : ℕ) (r : script_tokens.Front) → has_plain_lines bs ≡ true → is_plain_front s b bs ≡ true → GoesWith s divides → EndsWell r bs
    → script_tokens.front divides (b ∷ bs) at ≡ r → IsRead (front s (b ∷ bs)) r
unfolding script_tokens.front front is_plain_front
same_front s divides b bs at r plain fronts goes ends read =
    let first = and_parts (is_plain_slash s.before b bs && not (begins_comment s.new_line (b ∷ bs)) && not (begins_optional (b ∷ bs))) (is_none (further_len (b ∷ bs))) fronts in
    let second = and_parts (is_plain_slash s.before b bs && not (begins_comment s.new_line (b ∷ bs))) (not (begins_optional (b ∷ bs))) first.0 in
    let third = and_parts (is_plain_slash s.before b bs) (not (begins_comment s.new_line (b ∷ bs))) second.0 in
    either r (is_blank b) _ _ _ _ (λ _ read. known (sure_front (Passed (begins_break (b ∷ bs))) 1) _ r (refl, tt) read) (λ _.
    either r (begins_name b) _ _ _ _ (λ _ read. read_name bs r ends read) (λ _.
    either r (is_ascii_digit b) _ _ _ _ (λ _ read. known (sure_front (One Number) (1 + prefix_len is_in_number bs)) _ r (refl, refl) read) (λ _.
    either r (is_quote b) _ _ _ _ (λ _ read. read_text b at bs r plain read) (λ _.
    either r (b == 47) _ _ _ _ (λ is read. read_slash divides s.before bs at r plain goes.slash (rw is at third.0) read) (λ _ read.
    read_mark s b bs at r (no_hole_here s.brackets goes.no_hole) (not-true (begins_comment s.new_line (b ∷ bs)) third.1) (not-true (begins_optional (b ∷ bs)) second.1) (none_is (further_len (b ∷ bs)) first.1) read))))) read

-- ---- what is read begins with ASCII

low_when : (r : script_tokens.Front) (low : Type 0) (test : Bool) (x y : script_tokens.Front) → (test ≡ true → low) → (test ≡ false → y ≡ r → low) → (if test then x else y) ≡ r → low
low_when r low true x y first later read = first refl
low_when r low false x y first later read = later refl read

low_mark : (b : ℕ) (bs : List ℕ) (at : ℕ) (v : Option script_kind.TokenKind × ℕ) → script_tokens.mark_front (b ∷ bs) at ≡ Ok v → b < 128
unfolding script_tokens.mark_front
low_mark b bs at v read = by (script_marks.mark_len (b ∷ bs)) refl read
  where
    by : (o : Option ℕ) → script_marks.mark_len (b ∷ bs) ≡ o → (script_texts.ok_or o (BadByte at) >>= λ len. Ok (Some script_kind.TheVariants.Mark, len)) ≡ Ok v → b < 128
    by None is read = absurd (grind (arith, read))
    by (Some len) is read = (first_seen b bs len is).1

pub front_low : (divides : Bool) (b : ℕ) (bs : List ℕ) (at : ℕ) (v : Option script_kind.TokenKind × ℕ) → script_tokens.front divides (b ∷ bs) at ≡ Ok v → b < 128
unfolding script_tokens.front
front_low divides b bs at v read =
    let r : script_tokens.Front = Ok v in
    low_when r (b < 128) (is_blank b) _ _ (λ is. grind (arith, nat_tests, is)) (λ _.
    low_when r (b < 128) (begins_name b) _ _ (λ is. grind (arith, nat_tests, is)) (λ _.
    low_when r (b < 128) (is_ascii_digit b) _ _ (λ is. grind (arith, nat_tests, is)) (λ _.
    low_when r (b < 128) (is_quote b) _ _ (λ is. grind (arith, nat_tests, is)) (λ _.
    low_when r (b < 128) (b == 47) _ _ (λ is. grind (arith, nat_tests, is)) (λ _ read.
    low_mark b bs at v read))))) read
