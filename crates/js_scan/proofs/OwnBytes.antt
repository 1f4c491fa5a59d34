-- The bytes of a token, read by themselves, are that token: runs, marks and Texts.
use Rattle.std.proofs.Common.{◌≡◌, ℕ, zero, suc, ◌-◌, ◌+◌, ◌≤◌, ◌==◌, ◌&&◌, Bool, true, false, List, [], ◌∷◌, ◌++◌, length, take, Option, Some, None, Ok, Err, refl, sym, ap, subst, ◌∙◌, arith, nat_eq, if◌then◌else◌, codes, eq-eqb}
use Rattle.std.specs.List.{prefix_len, starts_with}
use Rattle.std.proofs.lemmas.List.{take-take, take-append-le}
use Rattle.std.proofs.lemmas.Bool.Decides.{nat_tests}
use Rattle.std.specs.Char.{is_ascii_hexdigit}
use Rattle.js_scan.specs.declared.token.ScanFault.TheVariants.{BadString, Template}
use Rattle.js_scan.specs.Bytes.{is_quote, is_plain}
use Rattle.js_scan.specs.Marks.{first_len}
use Rattle.js_scan.specs.Escapes.{Piece, hex_pair, hex_quad, escape}
use Rattle.js_scan.specs.Texts.{Read, ok_or, ◌>>=◌, next_piece, begins_template, with_letters, text_from}

-- ---- runs

-- ---- marks

apart_when : (test rest own_rest : Bool) → (rest ≡ false → own_rest ≡ false) → (test && rest) ≡ false → (test && own_rest) ≡ false
apart_when true rest own_rest later apart = later apart
apart_when false rest own_rest later apart = refl

stays_apart : (m bs : List ℕ) (len : ℕ) → starts_with nat_eq bs m ≡ false → starts_with nat_eq (take len bs) m ≡ false
stays_apart [] bs len other = other
stays_apart (k ∷ ks) [] zero other = refl
stays_apart (k ∷ ks) [] (suc len) other = refl
stays_apart (k ∷ ks) (b ∷ bs) zero other = refl
stays_apart (k ∷ ks) (b ∷ bs) (suc len) other =
    apart_when (nat_eq k b) (starts_with nat_eq bs ks) (starts_with nat_eq (take len bs) ks) (stays_apart ks bs len) other

same_choice : (test own : Bool) (k len : ℕ) (o own_o : Option ℕ) → (test ≡ true → k ≡ len → own ≡ true) → (test ≡ false → own ≡ false)
    → (o ≡ Some len → own_o ≡ Some len) → (if test then Some k else o) ≡ Some len → (if own then Some k else own_o) ≡ Some len
same_choice true own k len o own_o first later others read = let same : k ≡ len = grind arith in rw (first refl same) read
same_choice false own k len o own_o first later others read = rw (later refl) (others read)

pub own_mark : (ms : List (List ℕ)) (bs : List ℕ) (len : ℕ) → first_len ms bs ≡ Some len → first_len ms (take len bs) ≡ Some len
own_mark [] bs len read = absurd (grind arith)
own_mark (m ∷ ms) bs len read =
    same_choice (starts_with nat_eq bs m) (starts_with nat_eq (take len bs) m) (length m) len (first_len ms bs) (first_len ms (take len bs))
    (λ starts same. rw (take-take (length m) len bs (omega arith)) starts) (stays_apart m bs len) (own_mark ms bs len) read

-- ---- what is read of a Text doesn't depend on what is behind its closing quote `q`

not_digit : (q : ℕ) → is_quote q ≡ true → is_ascii_hexdigit q ≡ false
not_digit q quote = grind (arith, nat_tests)

pair_end : (v : List ℕ) (q : ℕ) (r : List ℕ) → is_quote q ≡ true → hex_pair (v ++ q ∷ r) ≡ hex_pair (v ++ q ∷ [])
unfolding hex_pair
pair_end [] q [] quote = refl
pair_end [] q (x ∷ r) quote = rw (not_digit q quote) refl
pair_end (h ∷ []) q r quote = refl
pair_end (h ∷ l ∷ v) q r quote = refl

no_pair : (q : ℕ) (r : List ℕ) → is_quote q ≡ true → hex_pair (q ∷ r) ≡ None
unfolding hex_pair
no_pair q [] quote = refl
no_pair q (x ∷ r) quote = rw (not_digit q quote) refl

none_of : (a b : Bool) (n : ℕ) → b ≡ false → (if a && b then Some n else None) ≡ None
none_of true b n no_b = rw no_b refl
none_of false b n no_b = refl

half_pair : (h q : ℕ) (r : List ℕ) → is_quote q ≡ true → hex_pair (h ∷ q ∷ r) ≡ None
unfolding hex_pair
half_pair h q r quote = none_of (is_ascii_hexdigit h) (is_ascii_hexdigit q) _ (not_digit q quote)

quad_end : (v : List ℕ) (q : ℕ) (r : List ℕ) → is_quote q ≡ true → hex_quad (v ++ q ∷ r) ≡ hex_quad (v ++ q ∷ [])
unfolding hex_quad
quad_end [] q r quote = rw (no_pair q r quote, no_pair q [] quote) refl
quad_end (h ∷ []) q r quote = rw (half_pair h q r quote, half_pair h q [] quote) refl
quad_end (h ∷ l ∷ v) q r quote = rw (pair_end (h ∷ l ∷ v) q r quote, pair_end v q r quote) refl

brace_end : (v : List ℕ) (q : ℕ) (r : List ℕ) → starts_with nat_eq (v ++ q ∷ r) (codes "{") ≡ starts_with nat_eq (v ++ q ∷ []) (codes "{")
brace_end [] q r = refl
brace_end (c ∷ v) q r = refl

escape_end : (v : List ℕ) (q : ℕ) (r : List ℕ) → is_quote q ≡ true → escape (v ++ q ∷ r) ≡ escape (v ++ q ∷ [])
unfolding escape
escape_end [] q r quote =
    let no_x : (q == 120) ≡ false = grind (arith, nat_tests) in
    let no_u : (q == 117) ≡ false = grind (arith, nat_tests) in
    rw (no_x, no_u) refl
escape_end (c ∷ v) q r quote = rw (pair_end v q r quote, quad_end v q r quote, brace_end v q r) refl

not_plain : (q : ℕ) → is_quote q ≡ true → is_plain q ≡ false
not_plain q quote = grind (arith, nat_tests)

run_end : (v : List ℕ) (q : ℕ) (r : List ℕ) → is_quote q ≡ true → prefix_len is_plain (v ++ q ∷ r) ≡ prefix_len is_plain (v ++ q ∷ [])
run_end [] q r quote = rw (not_plain q quote) refl
run_end (c ∷ v) q r quote = rw (run_end v q r quote) refl

at_most : (test : Bool) (n k : ℕ) → n ≤ k → (if test then 1 + n else 0) ≤ suc k
at_most true n k le = omega arith
at_most false n k le = omega arith

run_within : (v : List ℕ) (q : ℕ) → is_quote q ≡ true → prefix_len is_plain (v ++ q ∷ []) ≤ length v
run_within [] q quote = rw (not_plain q quote) (omega arith)
run_within (c ∷ v) q quote = at_most (is_plain c) (prefix_len is_plain (v ++ q ∷ [])) (length v) (run_within v q quote)

taken_end : (len : ℕ) (v : List ℕ) (q : ℕ) (r : List ℕ) → len ≤ length v → take len (v ++ q ∷ r) ≡ take len (v ++ q ∷ [])
taken_end len v q r le = take-append-le len v (q ∷ r) le ∙ sym (take-append-le len v (q ∷ []) le)

run_piece_end : (b : ℕ) (v : List ℕ) (q : ℕ) (r : List ℕ) → is_quote q ≡ true
    → ◌≡◌ {A = Piece} (take (1 + prefix_len is_plain (v ++ q ∷ r)) (b ∷ v ++ q ∷ r), 1 + prefix_len is_plain (v ++ q ∷ r))
    (take (1 + prefix_len is_plain (v ++ q ∷ [])) (b ∷ v ++ q ∷ []), 1 + prefix_len is_plain (v ++ q ∷ []))
run_piece_end b v q r quote =
    let len = 1 + prefix_len is_plain (v ++ q ∷ []) in
    let within = run_within v q quote in
    rw (run_end v q r quote) (ap (λ (bs : List ℕ). let p : Piece = (bs, len) in p) (taken_end len (b ∷ v) q r (omega (arith, within))))

same_piece : (first second : Bool) (x y : Option Piece) (p s : Piece) → x ≡ y → p ≡ s → (if first then x else (if second then None else Some p)) ≡ (if first then y else (if second then None else Some s))
same_piece first second x y p s one two = λ i. if first then one i else (if second then None else Some (two i))

piece_end : (quote b : ℕ) (v : List ℕ) (q : ℕ) (r : List ℕ) → is_quote q ≡ true → next_piece quote (b ∷ v ++ q ∷ r) ≡ next_piece quote (b ∷ v ++ q ∷ [])
unfolding next_piece
piece_end quote b v q r is_q = same_piece _ _ _ _ _ _ (escape_end v q r is_q) (run_piece_end b v q r is_q)

template_end : (quote b : ℕ) (v : List ℕ) (q : ℕ) (r : List ℕ) → begins_template quote (b ∷ v ++ q ∷ r) ≡ begins_template quote (b ∷ v ++ q ∷ [])
template_end quote b [] q r = refl
template_end quote b (c ∷ v) q r = refl

-- ---- a Text

-- how a Text goes on where it is read whole
pub data Turn (same template : Bool) (o : Option Piece) (others : ℕ → Read) (bs letters rest : List ℕ) : Type 0 where
  closes : same ≡ true → letters ≡ [] → bs ≡ rest → Turn same template o others bs letters rest
  reads : (p : Piece) (more : List ℕ) → same ≡ false → template ≡ false → o ≡ Some p → others (p.1 - 1) ≡ Ok (more, rest) → p.0 ++ more ≡ letters
      → Turn same template o others bs letters rest

abbrev read_of : Read → List ℕ × List ℕ
read_of (Ok t) = t
read_of (Err e) = ([], [])

joined_ok : (front : List ℕ) (r : Read) (letters rest : List ℕ) → with_letters front r ≡ Ok (letters, rest)
    → (more : List ℕ) × (r ≡ Ok (more, rest)) × (front ++ more ≡ letters)
joined_ok front (Ok t) letters rest read =
    let same : ◌≡◌ {A = List ℕ × List ℕ} (front ++ t.0, t.1) (letters, rest) = ap read_of read in
    (t.0, ap (λ (x : List ℕ). let whole : Read = Ok (t.0, x) in whole) (ap (λ (p : List ℕ × List ℕ). p.1) same), ap (λ (p : List ℕ × List ℕ). p.0) same)
joined_ok front (Err e) letters rest read = absurd (grind arith)

pub turn : (same template : Bool) (at : ℕ) (o : Option Piece) (others : ℕ → Read) (bs letters rest : List ℕ)
    → (if same then Ok ([], bs) else (if template then Err (Template at) else (ok_or o (BadString at) >>= λ p. with_letters p.0 (others (p.1 - 1))))) ≡ Ok (letters, rest)
    → Turn same template o others bs letters rest
turn true template at o others bs letters rest read =
    let same : ◌≡◌ {A = List ℕ × List ℕ} ([], bs) (letters, rest) = ap read_of read in
    closes refl (sym (ap (λ (p : List ℕ × List ℕ). p.0) same)) (ap (λ (p : List ℕ × List ℕ). p.1) same)
turn false true at o others bs letters rest read = absurd (grind arith)
turn false false at None others bs letters rest read = absurd (grind arith)
turn false false at (Some p) others bs letters rest read =
    let found = joined_ok p.0 (others (p.1 - 1)) letters rest read in reads p found.0 refl refl refl found.1 found.2

-- the bytes of a Text up to its closing quote
abbrev Own : ℕ → ℕ → ℕ → List ℕ → List ℕ → List ℕ → Type 0
Own quote at skip bs letters rest = (v : List ℕ) × (bs ≡ v ++ quote ∷ rest) × (text_from quote at skip (v ++ quote ∷ []) ≡ Ok (letters, []))

own_turn : (quote at b : ℕ) (bs letters rest : List ℕ) → is_quote quote ≡ true
    → Turn (b == quote) (begins_template quote (b ∷ bs)) (next_piece quote (b ∷ bs)) (λ skip. text_from quote at skip bs) bs letters rest
    → ((skip : ℕ) (more : List ℕ) → text_from quote at skip bs ≡ Ok (more, rest) → Own quote at skip bs more rest) → Own quote at 0 (b ∷ bs) letters rest
unfolding text_from
own_turn quote at b bs letters rest q (closes same none behind) later =
    let e : b ≡ quote = grind (arith, nat_tests) in
    ([], ap (λ (x : ℕ). x ∷ bs) e ∙ ap (λ (x : List ℕ). quote ∷ x) behind, rw (eq-eqb quote quote refl, none) refl)
own_turn quote at b bs letters rest q (reads p more other plain found read joined) later =
    let own = later (p.1 - 1) more read in
    let plain' : begins_template quote (b ∷ own.0 ++ quote ∷ []) ≡ false =
    sym (template_end quote b own.0 quote rest) ∙ sym (ap (λ (x : List ℕ). begins_template quote (b ∷ x)) own.1) ∙ plain in
    let found' : next_piece quote (b ∷ own.0 ++ quote ∷ []) ≡ Some p =
    sym (piece_end quote b own.0 quote rest q) ∙ sym (ap (λ (x : List ℕ). next_piece quote (b ∷ x)) own.1) ∙ found in
    (b ∷ own.0, ap (λ (x : List ℕ). b ∷ x) own.1, rw (other, plain', found', own.2) (ap (λ (x : List ℕ). let whole : Read = Ok (x, []) in whole) joined))

pub own_text : (quote at skip : ℕ) (bs letters rest : List ℕ) → is_quote quote ≡ true → text_from quote at skip bs ≡ Ok (letters, rest) → Own quote at skip bs letters rest
unfolding text_from
own_text quote at skip [] letters rest q read = absurd (grind arith)
own_text quote at (suc skip) (b ∷ bs) letters rest q read =
    let own = own_text quote at skip bs letters rest q read in (b ∷ own.0, ap (λ (x : List ℕ). b ∷ x) own.1, own.2)
own_text quote at zero (b ∷ bs) letters rest q read =
    own_turn quote at b bs letters rest q
    (turn (b == quote) (begins_template quote (b ∷ bs)) at (next_piece quote (b ∷ bs)) (λ skip. text_from quote at skip bs) bs letters rest read)
    (λ skip more. own_text quote at skip bs more rest q)
