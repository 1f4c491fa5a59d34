-- The words of a script's line, whose places don't matter.
use Rattle.std.proofs.Common.{◌≡◌, ℕ, zero, suc, ◌+◌, ◌-◌, ◌≤◌, ◌==◌, ◌||◌, not, Bool, true, false, if◌then◌else◌, List, [], ◌∷◌, ◌++◌, length, take, drop, slice_range, codes, Some, Ok, refl, sym, ap, ◌∙◌, subst, arith, length-append, length-drop, append_assoc}
use Rattle.std.specs.List.{list_any, prefix_len}
use Rattle.std.proofs.Math.Seq.{drop-append_seam, take-append_seam}
use Rattle.std.proofs.lemmas.List.{take-append-drop, take-append-le, drop-append-le}
use Rattle.js_scan.specs.declared.token.Token.{Token}
use Rattle.js_scan.specs.declared.token.TokenKind.{TokenKind}
use Rattle.js_scan.specs.declared.token.TokenKind.TheVariants.{Name, Text, Mark}
use Rattle.js_scan.specs.Bytes.{is_plain}
use Rattle.js_scan.specs.Texts.{next_piece, text_from}
use Rattle.js_scan.specs.Tokens.{text_front, front, mark_front, divides_next, tokens_from}
use Rattle.js_scan.specs.Marks.{mark_len}
use Rattle.js_scan.proofs.TokensLemmas.{tokens_skip}
use Rattle.jq_words.specs.Words.{Word, words_behind}
use Rattle.ring_reads.specs.RingWords.{quoted_text, line_words}
use Rattle.ring_reads.proofs.Digits.{Each, IsLast, drop_before, not_parts}

-- ---- texts in quotes

-- a byte that stands for itself between single quotes
abbrev pub is_easy : ℕ → Bool
is_easy b = not (b == 39 || b == 92 || b == 10)

text_skip : (at n : ℕ) (bs : List ℕ) → text_from 39 at n bs ≡ text_from 39 at 0 (drop n bs)
unfolding text_from
text_skip at zero bs = refl
text_skip at (suc n) [] = refl
text_skip at (suc n) (b ∷ bs) = text_skip at n bs

each_drop : (q : ℕ → Bool) (n : ℕ) (xs : List ℕ) → Each q xs → Each q (drop n xs)
each_drop q zero xs each = each
each_drop q (suc n) [] each = tt
each_drop q (suc n) (x ∷ xs) each = each_drop q n xs each.1

-- a run of plain bytes ends at the quote
run_ends : (xs rest : List ℕ) → prefix_len is_plain (xs ++ 39 ∷ rest) ≤ length xs
run_ends [] rest = omega arith
run_ends (x ∷ xs) rest = by (is_plain x) (run_ends xs rest)
  where
    by : (test : Bool) → prefix_len is_plain (xs ++ 39 ∷ rest) ≤ length xs → (if test then 1 + prefix_len is_plain (xs ++ 39 ∷ rest) else 0) ≤ suc (length xs)
    by true less = omega (arith, less)
    by false less = omega arith

text_is : (fuel at : ℕ) (letters rest : List ℕ) → length letters ≤ fuel → Each is_easy letters → text_from 39 at 0 (letters ++ 39 ∷ rest) ≡ Ok (letters, rest)
unfolding text_from next_piece
text_is fuel at [] rest few each = refl
text_is zero at (b ∷ xs) rest few each = absurd (omega arith)
text_is (suc fuel) at (b ∷ xs) rest few each =
    let parts = not_parts (b == 39) (b == 92) (b == 10) each.0 in
    let m = prefix_len is_plain (xs ++ 39 ∷ rest) in
    let less = run_ends xs rest in
    let one : 1 + m - 1 ≡ m = omega arith in
    let next : 1 + m ≡ suc m = omega arith in
    let others = text_is fuel at (drop m xs) rest (omega (arith, length-drop m xs)) (each_drop is_easy m xs each.1) in
    rw (parts.0, parts.1, parts.2, one, next, text_skip at m (xs ++ 39 ∷ rest), drop-append-le m xs (39 ∷ rest) less, others, take-append-le m xs (39 ∷ rest) less) (ap (λ (l : List ℕ). Ok (b ∷ l, rest)) (take-append-drop m xs))

pub text_front_is : (divides : Bool) (at : ℕ) (letters rest : List ℕ) → Each is_easy letters → front divides (39 ∷ (letters ++ 39 ∷ rest)) at ≡ Ok (Some (Text letters), length (39 ∷ (letters ++ 39 ∷ [])))
unfolding front text_front
text_front_is divides at letters rest each =
    let read = text_is (length letters) at letters rest (omega arith) each in
    let count : 1 + length (letters ++ 39 ∷ rest) - length rest ≡ length (39 ∷ (letters ++ 39 ∷ [])) = omega (arith, length-append letters (39 ∷ rest), length-append letters (39 ∷ [])) in
    rw (read, count) refl

-- ---- words

abbrev pub word : TokenKind → List ℕ → ℕ × Bool → Word
word kind spelling place = record { kind = kind; spelling = spelling; at = place.0; later = place.1 }

-- the words are these, at some places, and this holds of the others
abbrev pub AreWords : List (TokenKind × List ℕ) → (List Word → Type 0) → List Word → Type 0
AreWords [] P ws = P ws
AreWords ((kind, spelling) ∷ more) P ws = (place : ℕ × Bool) × (others : List Word) × (ws ≡ word kind spelling place ∷ others) × AreWords more P others

-- the tokens of these bytes, which stand at the end of a text, are read, and this holds of their words
pub record Scans (P : List Word → Type 0) (text : List ℕ) (end : ℕ) (divides : Bool) (bs : List ℕ) : Type 0 where
  pub tokens : List Token
  pub read : tokens_from (length text) divides 0 bs ≡ Ok tokens
  pub holds : P (words_behind text end tokens)

pub part_behind : (text front rest : List ℕ) → IsLast text (front ++ rest) → IsLast text rest
part_behind text front rest last = record { before = last.before ++ front; is = last.is ∙ sym (append_assoc last.before front rest) }

pub one_word : (P : List Word → Type 0) (text : List ℕ) (end : ℕ) (divides : Bool) (b : ℕ) (sp rest : List ℕ) (kind : TokenKind) → IsLast text (b ∷ (sp ++ rest))
    → front divides (b ∷ (sp ++ rest)) (length text - length (b ∷ (sp ++ rest))) ≡ Ok (Some kind, suc (length sp)) → ((to : ℕ) (again : Bool) → Scans P text to again rest)
    → Scans (AreWords ((kind, b ∷ sp) ∷ []) P) text end divides (b ∷ (sp ++ rest))
unfolding tokens_from words_behind
one_word P text end divides b sp rest kind last is next =
    let at = length text - length (b ∷ (sp ++ rest)) in
    let to = at + suc (length sp) in
    let again = divides_next (Some kind) (take (suc (length sp)) (b ∷ (sp ++ rest))) divides in
    let others = next to again in
    let token : Token = record { kind = kind; from = at; to = to } in
    let size : suc (length sp) - 1 ≡ length sp = omega arith in
    let width : to - at ≡ suc (length sp) = omega arith in
    let spelled : slice_range text at to ≡ b ∷ sp = rw (width, drop_before text (b ∷ (sp ++ rest)) last) (ap (λ (l : List ℕ). b ∷ l) (take-append_seam sp rest)) in
    record {
      tokens = token ∷ others.tokens;
      read = rw (is, size, tokens_skip (length text) again (length sp) (sp ++ rest), drop-append_seam sp rest, others.read) refl;
      holds = ((at, list_any (λ b. b == 10) (slice_range text end at)), words_behind text to others.tokens, ap (λ (l : List ℕ). word kind l (at, list_any (λ b. b == 10) (slice_range text end at)) ∷ words_behind text to others.tokens) spelled, others.holds);
    }

pub line_break : (P : List Word → Type 0) (text : List ℕ) (end : ℕ) (divides : Bool) (rest : List ℕ) → ((to : ℕ) (again : Bool) → Scans P text to again rest) → Scans P text end divides (10 ∷ rest)
unfolding tokens_from front divides_next
line_break P text end divides rest next =
    let others = next end divides in
    record { tokens = others.tokens; read = rw (others.read) refl; holds = others.holds }

-- ---- a line of the script

quote_word : (P : List Word → Type 0) (text : List ℕ) (end : ℕ) (divides : Bool) (letters rest : List ℕ) → IsLast text (39 ∷ (letters ++ 39 ∷ rest)) → Each is_easy letters
    → ((to : ℕ) (again : Bool) → Scans P text to again rest) → Scans (AreWords ((Text letters, quoted_text letters) ∷ []) P) text end divides (39 ∷ (letters ++ 39 ∷ rest))
quote_word P text end divides letters rest last each next =
    let same : (letters ++ 39 ∷ []) ++ rest ≡ letters ++ 39 ∷ rest = append_assoc letters (39 ∷ []) rest in
    subst (λ (bs : List ℕ). Scans (AreWords ((Text letters, quoted_text letters) ∷ []) P) text end divides (39 ∷ bs)) same
    (one_word P text end divides 39 (letters ++ 39 ∷ []) rest (Text letters)
    (subst (λ (bs : List ℕ). IsLast text (39 ∷ bs)) (sym same) last)
    (ap (λ (bs : List ℕ). front divides (39 ∷ bs) (length text - length (39 ∷ bs))) same ∙ text_front_is divides _ letters rest each)
    next)

-- the text of a line
abbrev pub line_text : List ℕ → List ℕ → List ℕ → List ℕ → List ℕ
line_text root call argument rest = codes "$('" ++ (root ++ (codes "')." ++ (call ++ (codes "('" ++ (argument ++ (codes "');\n" ++ rest))))))

-- behind the name of the call
after_call : (P : List Word → Type 0) (text : List ℕ) (end : ℕ) (divides : Bool) (argument rest : List ℕ) → IsLast text (codes "('" ++ (argument ++ (codes "');\n" ++ rest))) → Each is_easy argument
    → ((to : ℕ) (again : Bool) → Scans P text to again rest)
    → Scans (AreWords ((Mark, codes "(") ∷ (Text argument, quoted_text argument) ∷ (Mark, codes ")") ∷ (Mark, codes ";") ∷ []) P) text end divides (codes "('" ++ (argument ++ (codes "');\n" ++ rest)))
unfolding front mark_front mark_len
after_call P text end divides argument rest last each next =
    let a = 39 ∷ (argument ++ (codes "');\n" ++ rest)) in
    let last_a = part_behind text (codes "(") a last in
    let b = codes ");\n" ++ rest in
    let last_b = part_behind text (39 ∷ (argument ++ 39 ∷ [])) b (subst (λ (bs : List ℕ). IsLast text (39 ∷ bs)) (sym (append_assoc argument (39 ∷ []) b)) last_a) in
    let c = codes ";\n" ++ rest in
    let last_c = part_behind text (codes ")") c last_b in
    let d = codes "\n" ++ rest in
    one_word _ text end divides 40 [] a Mark last refl (λ to again.
    quote_word _ text to again argument b last_a each (λ to again.
    one_word _ text to again 41 [] c Mark last_b refl (λ to again.
    one_word _ text to again 59 [] d Mark last_c refl (λ to again.
    line_break P text to again rest next))))

pub line_scan : (P : List Word → Type 0) (text : List ℕ) (end : ℕ) (divides : Bool) (root : List ℕ) (c : ℕ) (sp argument rest : List ℕ) → IsLast text (line_text root (c ∷ sp) argument rest) → Each is_easy root → Each is_easy argument
    → ((again : Bool) (at : ℕ) → front again (c ∷ (sp ++ (codes "('" ++ (argument ++ (codes "');\n" ++ rest))))) at ≡ Ok (Some Name, suc (length sp)))
    → ((to : ℕ) (again : Bool) → Scans P text to again rest) → Scans (AreWords (line_words root (c ∷ sp) argument) P) text end divides (line_text root (c ∷ sp) argument rest)
unfolding front mark_front mark_len
line_scan P text end divides root c sp argument rest last plain easy named next =
    let f = codes "('" ++ (argument ++ (codes "');\n" ++ rest)) in
    let e = c ∷ (sp ++ f) in
    let d = 46 ∷ e in
    let b = 41 ∷ d in
    let a = 39 ∷ (root ++ 39 ∷ b) in
    let last_a = part_behind text (codes "$(") a last in
    let last_b = part_behind text (39 ∷ (root ++ 39 ∷ [])) b (subst (λ (bs : List ℕ). IsLast text (39 ∷ bs)) (sym (append_assoc root (39 ∷ []) b)) last_a) in
    let last_d = part_behind text (codes ")") d last_b in
    let last_e = part_behind text (codes ".") e last_d in
    one_word _ text end divides 36 [] (40 ∷ a) Name last refl (λ to again.
    one_word _ text to again 40 [] a Mark (part_behind text (codes "$") (40 ∷ a) last) refl (λ to again.
    quote_word _ text to again root b last_a plain (λ to again.
    one_word _ text to again 41 [] d Mark last_b refl (λ to again.
    one_word _ text to again 46 [] e Mark last_d refl (λ to again.
    one_word _ text to again c sp f Name last_e (named again (length text - length e)) (λ to again.
    after_call P text to again argument rest (part_behind text (c ∷ sp) f last_e) easy next))))))
