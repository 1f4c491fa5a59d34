-- The bytes of a token, read by themselves, are that token: whole files.
use Rattle.std.proofs.Common.{◌≡◌, ℕ, zero, suc, ◌-◌, ◌+◌, ◌≤◌, ◌==◌, Bool, true, false, List, [], ◌∷◌, ◌++◌, length, take, drop, Option, Some, None, Ok, Err, refl, sym, ap, subst, ◌∙◌, arith, if◌then◌else◌, nat_eq, append_assoc}
use Rattle.std.specs.List.{All, prefix_len, starts_with}
use Rattle.std.specs.Str.Lossy.{utf8_valid_len}
use Rattle.std.specs.Char.{is_ascii_digit}
use Rattle.std.proofs.lemmas.List.{length-append, take-append-drop}
use Rattle.std.proofs.lemmas.List.Elements.{All-cons, All-nil}
use Rattle.std.proofs.Math.Seq.{take-append_seam, drop-append_seam}
use Rattle.text_bytes.specs.Blanks.{is_blank}
use Rattle.text_bytes.specs.OrderMark.{behind_order_mark}
use Rattle.js_scan.specs.declared.token.ScanFault.{ScanFault}
use Rattle.js_scan.specs.declared.token.ScanFault.TheVariants.{BadByte, Regexp, NotUtf8}
use Rattle.js_scan.specs.declared.token.Token.{Token}
use Rattle.js_scan.specs.declared.token.TokenKind.{TokenKind}
use Rattle.js_scan.specs.declared.token.TokenKind.TheVariants.{Name, Number, Text, Mark}
use Rattle.js_scan.specs.Bytes.{begins_name, is_in_name, is_in_number, is_quote}
use Rattle.js_scan.specs.Comments.{is_in_line, behind_close}
use Rattle.js_scan.specs.Texts.{Outcome, ok_or, ◌>>=◌, quoted}
use Rattle.js_scan.specs.Marks.{mark_len, marks}
use Rattle.js_scan.specs.Tokens.{Front, text_front, block_comment, slash, mark_front, front, divides_next, tokens_of, tokens_from, tokens, script_tokens, IsSpelled}
use Rattle.text_bytes.proofs.Fronts.{own_run}
use Rattle.js_scan.proofs.OwnBytes.{own_mark, own_text}

pub bind_ok : {A B : Type 0} (r : Outcome A) (f : A → Outcome B) (y : B) → (r >>= f) ≡ Ok y → (x : A) × (r ≡ Ok x) × (f x ≡ Ok y)
bind_ok (Ok x) f y read = (x, refl, read)
bind_ok (Err e) f y read = absurd (grind arith)

-- ---- one token

abbrev pub len_of : Front → ℕ
len_of (Ok f) = f.1
len_of (Err e) = 0

text_parts : (quote : ℕ) (behind v letters rest : List ℕ) (at len : ℕ) (kind : TokenKind) → behind ≡ v ++ quote ∷ rest → quoted quote at (v ++ quote ∷ []) ≡ Ok (letters, [])
    → ◌≡◌ {A = Front} (Ok (Some (Text letters), 1 + length behind - length rest)) (Ok (Some kind, len))
    → (1 ≤ len) × (text_front quote (take (len - 1) behind) at ≡ Ok (Some kind, len))
unfolding text_front
text_parts quote behind v letters rest at len kind parts own read =
    let alone = v ++ quote ∷ [] in
    let parts' : behind ≡ alone ++ rest = parts ∙ sym (append_assoc v (quote ∷ []) rest) in
    let size : 1 + length behind - length rest ≡ len = ap len_of read in
    let all : length behind ≡ length alone + length rest = ap length parts' ∙ length-append alone rest in
    let less : len - 1 ≡ length alone = omega (arith, size, all) in
    let taken : take (len - 1) behind ≡ alone =
    ap (λ (n : ℕ). take n behind) less ∙ ap (λ (x : List ℕ). take (length alone) x) parts' ∙ take-append_seam alone rest in
    let same : 1 + length alone - 0 ≡ 1 + length behind - length rest = omega (arith, all) in
    (omega (arith, size, all), rw (taken, own, same) read)

own_text_front : (quote : ℕ) (behind : List ℕ) (at len : ℕ) (kind : TokenKind) → is_quote quote ≡ true → text_front quote behind at ≡ Ok (Some kind, len)
    → (1 ≤ len) × (text_front quote (take (len - 1) behind) at ≡ Ok (Some kind, len))
unfolding text_front
own_text_front quote behind at len kind q read =
    let text = bind_ok (quoted quote at behind) _ (Some kind, len) read in
    let own = own_text quote at 0 behind text.0.0 text.0.1 q text.1 in
    text_parts quote behind own.0 text.0.0 text.0.1 at len kind own.1 own.2 text.2

abbrev passed : ℕ → Front
passed n = Ok (None, n)

abbrev pub as_mark : ℕ → Front
as_mark n = Ok (Some Mark, n)

pub slash_mark : (divides : Bool) (behind : List ℕ) (at len : ℕ) (kind : TokenKind) → slash divides behind at ≡ Ok (Some kind, len) → as_mark 1 ≡ Ok (Some kind, len)
unfolding slash block_comment
slash_mark divides behind at len kind read =
    chosen (starts_with nat_eq behind (47 ∷ [])) (starts_with nat_eq behind (42 ∷ [])) divides at (1 + prefix_len is_in_line behind) (behind_close (drop 1 behind)) _ len kind read
  where
    chosen : (line block divides : Bool) (at n : ℕ) (o : Option (List ℕ)) (f : List ℕ → ℕ) (len : ℕ) (kind : TokenKind)
        → (if line then passed n else (if block then (ok_or o (BadByte at) >>= λ rest. passed (f rest)) else (if divides then as_mark 1 else Err (Regexp at)))) ≡ Ok (Some kind, len)
        → as_mark 1 ≡ Ok (Some kind, len)
    chosen true block divides at n o f len kind read = absurd (grind arith)
    chosen false true divides at n None f len kind read = absurd (grind arith)
    chosen false true divides at n (Some rest) f len kind read = absurd (grind arith)
    chosen false false true at n o f len kind read = read
    chosen false false false at n o f len kind read = absurd (grind arith)

own_slash : (divides : Bool) (behind : List ℕ) (at len : ℕ) (kind : TokenKind) → slash divides behind at ≡ Ok (Some kind, len)
    → (1 ≤ len) × (slash true (take (len - 1) behind) at ≡ Ok (Some kind, len))
unfolding slash
own_slash divides behind at len kind read =
    let mark = slash_mark divides behind at len kind read in
    let one : 1 ≡ len = ap len_of mark in
    let less : len - 1 ≡ 0 = omega arith in
    (omega arith, rw less mark)

pub some_mark : (o : Option ℕ) (at len : ℕ) (kind : TokenKind) → (ok_or o (BadByte at) >>= λ n. as_mark n) ≡ Ok (Some kind, len) → (o ≡ Some len) × (as_mark len ≡ Ok (Some kind, len))
some_mark None at len kind read = absurd (grind arith)
some_mark (Some n) at len kind read =
    let same : n ≡ len = ap len_of read in (ap (λ (k : ℕ). let o : Option ℕ = Some k in o) same, subst (λ (k : ℕ). as_mark k ≡ Ok (Some kind, len)) same read)

own_mark_front : (b : ℕ) (bs : List ℕ) (at len : ℕ) (kind : TokenKind) → mark_front (b ∷ bs) at ≡ Ok (Some kind, len)
    → (1 ≤ len) × (mark_front (b ∷ take (len - 1) bs) at ≡ Ok (Some kind, len))
unfolding mark_front mark_len
own_mark_front b bs at zero kind read = absurd (let none = own_mark marks (b ∷ bs) 0 (some_mark (mark_len (b ∷ bs)) at 0 kind read).0 in grind (arith, none))
own_mark_front b bs at (suc len) kind read =
    let mark = some_mark (mark_len (b ∷ bs)) at (suc len) kind read in
    let less : suc len - 1 ≡ len = omega arith in
    (omega arith, rw (less, own_mark marks (b ∷ bs) (suc len) mark.0) mark.1)

-- a choice by a test of the first byte, which the token keeps
choice : (r : Front) (low : Type 0) (test : Bool) (x y own_x own_y : Front) → (test ≡ true → x ≡ r → low × (own_x ≡ r)) → (test ≡ false → y ≡ r → low × (own_y ≡ r))
    → (if test then x else y) ≡ r → low × ((if test then own_x else own_y) ≡ r)
choice r low true x y own_x own_y first later read = first refl read
choice r low false x y own_x own_y first later read = later refl read

pub own_front : (divides : Bool) (b : ℕ) (bs : List ℕ) (at len : ℕ) (kind : TokenKind) → front divides (b ∷ bs) at ≡ Ok (Some kind, len)
    → (1 ≤ len) × (front true (b ∷ take (len - 1) bs) at ≡ Ok (Some kind, len))
unfolding front
own_front divides b bs at len kind read =
    let r : Front = Ok (Some kind, len) in
    choice r (1 ≤ len) (is_blank b) _ _ _ _ (λ _ none. absurd (grind arith)) (λ _.
    choice r (1 ≤ len) (begins_name b) _ _ _ _ (λ _ name. run is_in_name Name name) (λ _.
    choice r (1 ≤ len) (is_ascii_digit b) _ _ _ _ (λ _ number. run is_in_number Number number) (λ _.
    choice r (1 ≤ len) (is_quote b) _ _ _ _ (λ q text. own_text_front b bs at len kind q text) (λ _.
    choice r (1 ≤ len) (b == 47) _ _ _ _ (λ _ mark. own_slash divides bs at len kind mark) (λ _ mark.
    own_mark_front b bs at len kind mark))))) read
  where
    run : (p : ℕ → Bool) (own : TokenKind) → ◌≡◌ {A = Front} (Ok (Some own, 1 + prefix_len p bs)) (Ok (Some kind, len))
        → (1 ≤ len) × (◌≡◌ {A = Front} (Ok (Some own, 1 + prefix_len p (take (len - 1) bs))) (Ok (Some kind, len)))
    run p own read =
        let size : 1 + prefix_len p bs ≡ len = ap len_of read in
        let less : len - 1 ≡ prefix_len p bs = omega arith in
        (omega arith, rw (less, own_run p bs) read)

-- ---- all tokens

take_first : (b len : ℕ) (bs : List ℕ) → 1 ≤ len → take len (b ∷ bs) ≡ b ∷ take (len - 1) bs
take_first b zero bs low = absurd (omega arith)
take_first b (suc len) bs low = let less : suc len - 1 ≡ len = omega arith in rw less refl

one_spelled : (before : List ℕ) (divides : Bool) (b : ℕ) (bs : List ℕ) (at len : ℕ) (kind : TokenKind) → at ≡ length before → front divides (b ∷ bs) at ≡ Ok (Some kind, len)
    → IsSpelled (before ++ b ∷ bs) (record { kind = kind; from = at; to = at + len })
one_spelled before divides b bs at len kind here read =
    let own = own_front divides b bs at len kind read in
    let diff : at + len - at ≡ len = omega arith in
    let rest : drop at (before ++ b ∷ bs) ≡ b ∷ bs = rw here (drop-append_seam before (b ∷ bs)) in
    rw (diff, rest, take_first b len bs own.0) own.1

next_spelled : (before : List ℕ) (divides : Bool) (b : ℕ) (bs : List ℕ) (at len : ℕ) (w : Option TokenKind) (others : List Token) → at ≡ length before → front divides (b ∷ bs) at ≡ Ok (w, len)
    → All (IsSpelled (before ++ b ∷ bs)) others → All (IsSpelled (before ++ b ∷ bs)) (tokens_of w at (at + len) ++ others)
next_spelled before divides b bs at len None others here read later = later
next_spelled before divides b bs at len (Some kind) others here read later =
    All-cons (IsSpelled (before ++ b ∷ bs)) (record { kind = kind; from = at; to = at + len }) others (one_spelled before divides b bs at len kind here read) later

abbrev tokens_in : Outcome (List Token) → List Token
tokens_in (Ok ts) = ts
tokens_in (Err e) = []

spelled_from : (text before : List ℕ) (divides : Bool) (skip : ℕ) (bs : List ℕ) (ts : List Token) → text ≡ before ++ bs → tokens_from (length text) divides skip bs ≡ Ok ts
    → All (IsSpelled text) ts
unfolding tokens_from
spelled_from text before divides skip [] ts parts read = subst (All (IsSpelled text)) (ap tokens_in read) (All-nil (IsSpelled text))
spelled_from text before divides (suc skip) (b ∷ bs) ts parts read =
    spelled_from text (before ++ b ∷ []) divides skip bs ts (parts ∙ sym (append_assoc before (b ∷ []) bs)) read
spelled_from text before divides zero (b ∷ bs) ts parts read =
    let at = length text - length (b ∷ bs) in
    let first = bind_ok (front divides (b ∷ bs) at) _ ts read in
    let others = bind_ok (tokens_from (length text) (divides_next first.0.0 (take first.0.1 (b ∷ bs)) divides) (first.0.1 - 1) bs) _ ts first.2 in
    let later = spelled_from text (before ++ b ∷ []) (divides_next first.0.0 (take first.0.1 (b ∷ bs)) divides) (first.0.1 - 1) bs others.0 (parts ∙ sym (append_assoc before (b ∷ []) bs)) others.1 in
    let size : length text ≡ length before + length (b ∷ bs) = ap length parts ∙ length-append before (b ∷ bs) in
    let here : at ≡ length before = omega (arith, size) in
    let all = next_spelled before divides b bs at first.0.1 first.0.0 others.0 here first.1 (subst (λ (x : List ℕ). All (IsSpelled x) others.0) parts later) in
    subst (All (IsSpelled text)) (ap tokens_in others.2) (subst (λ (x : List ℕ). All (IsSpelled x) (tokens_of first.0.0 at (at + first.0.1) ++ others.0)) (sym parts) all)

behind_mark : (test : Bool) (bs : List ℕ) → (before : List ℕ) × (bs ≡ before ++ (if test then drop 3 bs else bs))
behind_mark true bs = (take 3 bs, sym (take-append-drop 3 bs))
behind_mark false bs = ([], refl)

when_ok : (test : Bool) (r : Outcome (List Token)) (e : ScanFault) (ts : List Token) → (if test then r else Err e) ≡ Ok ts → r ≡ Ok ts
when_ok true r e ts read = read
when_ok false r e ts read = absurd (grind arith)

pub all_spelled : (bs : List ℕ) (ts : List Token) → script_tokens bs ≡ Ok ts → All (IsSpelled bs) ts
unfolding behind_order_mark
all_spelled bs ts read =
    let cut = behind_mark (starts_with nat_eq bs (0xEF ∷ 0xBB ∷ 0xBF ∷ [])) bs in
    spelled_from bs cut.0 false 0 (behind_order_mark bs) ts cut.1 (when_ok (utf8_valid_len bs == length bs) (tokens bs) (NotUtf8 (utf8_valid_len bs)) ts read)
