-- The words of a ring's script, line by line.
use Rattle.std.proofs.Common.{◌≡◌, ℕ, zero, suc, ◌+◌, ◌%◌, ◌≤◌, ◌<◌, ◌^◌, ◌==◌, Bool, true, false, List, [], ◌∷◌, ◌++◌, length, map, codes, refl, sym, ap, ◌∙◌, subst, arith, eq-eqb, append_assoc}
use Rattle.std.specs.List.{flat_map, range_with_len}
use Rattle.std.specs.Fmt.{decimal}
use Rattle.std.specs.Str.{IsAscii}
use Rattle.std.specs.Str.Lossy.{utf8_valid_len}
use Rattle.std.proofs.Math.Nat.{mod-le}
use Rattle.std.proofs.lemmas.Fmt.{IsAscii-decimal}
use Rattle.std.proofs.lemmas.List.Concat.{flat_map-cons}
use Rattle.std.proofs.lemmas.Str.{utf8_valid_len-IsUtf8, IsUtf8-from_ascii, IsAscii-append}
use Rattle.text_bytes.specs.OrderMark.{behind_order_mark}
use Rattle.js_scan.specs.Tokens.{front, tokens_from}
use Rattle.jq_words.specs.Words.{Word, words_behind, words}
use Rattle.triple_gen.specs.Ring.{script_line}
use Rattle.ring_reads.specs.RingWords.{Look, look, root_of, classes_of, box_of, box_words, last_words, ScansRings}
use Rattle.ring_reads.proofs.Digits.{Each, each_append, each_digit, each_of, ascii_of, lines_ascii, IsLast}
use Rattle.ring_reads.proofs.ScriptWords.{is_easy, AreWords, Scans, part_behind, line_text, line_scan}

-- ---- what words look like

looked : (pieces others : List Look) (ws : List Word) → AreWords pieces (λ vs. map look vs ≡ others) ws → map look ws ≡ pieces ++ others
looked [] others ws are = are
looked ((kind, spelling) ∷ more) others ws are = ap (map look) are.2 ∙ ap (λ (ps : List Look). (kind, spelling) ∷ ps) (looked more others are.1 are.3)

scan_looked : (pieces others : List Look) (text : List ℕ) (end : ℕ) (divides : Bool) (bs : List ℕ) → Scans (AreWords pieces (λ vs. map look vs ≡ others)) text end divides bs → Scans (λ vs. map look vs ≡ pieces ++ others) text end divides bs
scan_looked pieces others text end divides bs scan = record { tokens = scan.tokens; read = scan.read; holds = looked pieces others (words_behind text end scan.tokens) scan.holds }

-- ---- lines

abbrev last_line : List ℕ
last_line = codes "$('.t').addClass('on');\n"

abbrev lines : (ℕ → ℕ) → ℕ → ℕ → List ℕ
lines next a n = flat_map (λ i. script_line i (next i)) (range_with_len a n) ++ last_line

abbrev lines_words : (ℕ → ℕ) → ℕ → ℕ → List Look
lines_words next a n = flat_map (λ i. box_words i (next i)) (range_with_len a n) ++ last_words

line_is : (i j : ℕ) (rest : List ℕ) → script_line i j ++ rest ≡ line_text (root_of i) (codes "append") (box_of (classes_of i j)) rest
unfolding script_line
line_is i j rest = simp append_assoc

lines_are : (next : ℕ → ℕ) (a n : ℕ) → lines next a (suc n) ≡ line_text (root_of a) (codes "append") (box_of (classes_of a (next a))) (lines next (a + 1) n)
lines_are next a n =
    ap (λ (bs : List ℕ). bs ++ last_line) (flat_map-cons (λ i. script_line i (next i)) a (range_with_len (a + 1) n))
    ∙ append_assoc (script_line a (next a)) (flat_map (λ i. script_line i (next i)) (range_with_len (a + 1) n)) last_line
    ∙ line_is a (next a) (lines next (a + 1) n)

easy_digits : (n : ℕ) → n < 2 ^ 64 → Each is_easy (decimal n)
easy_digits n small = each_digit is_easy refl n small

easy_box : (i j : ℕ) → i < 2 ^ 64 → j < 2 ^ 64 → Each is_easy (box_of (classes_of i j))
easy_box i j small other =
    each_append is_easy (codes "<div class=\"") (classes_of i j ++ codes "\"></div>") (each_of is_easy (codes "<div class=\"") refl)
    (each_append is_easy (classes_of i j) (codes "\"></div>") (each_append is_easy (107 ∷ decimal j) (32 ∷ 103 ∷ decimal i) (refl, easy_digits j other) (refl, (refl, easy_digits i small))) (each_of is_easy (codes "\"></div>") refl))

file_end : (text : List ℕ) (end : ℕ) (divides : Bool) → Scans (λ vs. map look vs ≡ []) text end divides []
unfolding tokens_from words_behind
file_end text end divides = record { tokens = []; read = refl; holds = refl }

lines_scan : (next : ℕ → ℕ) → ((i : ℕ) → i < 1000 → next i < 2 ^ 64) → (a n : ℕ) → a + n ≤ 1000 → (text : List ℕ) (end : ℕ) (divides : Bool) → IsLast text (lines next a n)
    → Scans (λ vs. map look vs ≡ lines_words next a n) text end divides (lines next a n)
unfolding front
lines_scan next small a zero few text end divides last =
    scan_looked last_words [] text end divides last_line
    (line_scan (λ vs. map look vs ≡ []) text end divides (codes ".t") 97 (codes "ddClass") (codes "on") [] last (each_of is_easy (codes ".t") refl) (each_of is_easy (codes "on") refl) (λ again at. refl) (λ to again. file_end text to again))
lines_scan next small a (suc n) few text end divides last =
    let j = next a in
    let rest = lines next (a + 1) n in
    let here = lines_are next a n in
    let last_here = subst (IsLast text) here last in
    let behind = part_behind text (line_text (root_of a) (codes "append") (box_of (classes_of a j)) []) rest (subst (IsLast text) (whole (root_of a) (box_of (classes_of a j)) rest) last_here) in
    let named : flat_map (λ i. box_words i (next i)) (range_with_len a (suc n)) ++ last_words ≡ box_words a j ++ lines_words next (a + 1) n = refl in
    subst (λ (bs : List ℕ). Scans (λ vs. map look vs ≡ lines_words next a (suc n)) text end divides bs) (sym here)
    (subst (λ (ps : List Look). Scans (λ vs. map look vs ≡ ps) text end divides (line_text (root_of a) (codes "append") (box_of (classes_of a j)) rest)) (sym named)
    (scan_looked (box_words a j) (lines_words next (a + 1) n) text end divides _
    (line_scan (λ vs. map look vs ≡ lines_words next (a + 1) n) text end divides (root_of a) 97 (codes "ppend") (box_of (classes_of a j)) rest last_here (refl, (refl, easy_digits a (omega (arith, few)))) (easy_box a j (omega (arith, few)) (small a (omega (arith, few)))) (λ again at. refl)
    (λ to again. lines_scan next small (a + 1) n (omega (arith, few)) text to again behind))))
  where
    whole : (root argument rest : List ℕ) → line_text root (codes "append") argument rest ≡ line_text root (codes "append") argument [] ++ rest
    whole root argument rest = simp append_assoc

-- ---- the whole script

line_ascii : (i j : ℕ) → i < 2 ^ 64 → j < 2 ^ 64 → IsAscii (script_line i j)
unfolding script_line
line_ascii i j small other =
    let a = codes "$('.k" ++ decimal i ++ codes "').append('<div class=\"k" in
    let b = a ++ decimal j ++ codes " g" in
    let first = and_number (codes "$('.k") (codes "').append('<div class=\"k") i small (ascii_of (codes "$('.k") refl) (ascii_of (codes "').append('<div class=\"k") refl) in
    let second = and_number a (codes " g") j other first (ascii_of (codes " g") refl) in
    and_number b (codes "\"></div>');\n") i small second (ascii_of (codes "\"></div>');\n") refl)
  where
    and_number : (front rest : List ℕ) (i : ℕ) → i < 2 ^ 64 → IsAscii front → IsAscii rest → IsAscii (front ++ decimal i ++ rest)
    and_number front rest i small first second = IsAscii-append (front ++ decimal i) rest (IsAscii-append front (decimal i) first (IsAscii-decimal i small)) second

no_mark : (next : ℕ → ℕ) (a n : ℕ) → behind_order_mark (lines next a n) ≡ lines next a n
unfolding behind_order_mark
no_mark next a zero = refl
no_mark next a (suc n) = rw (lines_are next a n) refl

pub scans_rings : ScansRings
unfolding words
scans_rings n few =
    let next : ℕ → ℕ = λ i. (i + 1) % n in
    let small : (i : ℕ) → i < 1000 → next i < 2 ^ 64 = λ i less. let most = mod-le (i + 1) n in omega (arith, less, most) in
    let text = lines next 0 n in
    let ascii = IsAscii-append (flat_map (λ i. script_line i (next i)) (range_with_len 0 n)) last_line (lines_ascii (λ i. script_line i (next i)) (λ i less. line_ascii i (next i) (omega (arith, less)) (small i less)) 0 n (omega (arith, few))) (ascii_of last_line refl) in
    let whole : (utf8_valid_len text == length text) ≡ true = eq-eqb (utf8_valid_len text) (length text) (utf8_valid_len-IsUtf8 text (IsUtf8-from_ascii text ascii)) in
    let scan = lines_scan next small 0 n (omega (arith, few)) text 0 false (record { before = []; is = refl }) in
    (scan.tokens, rw (whole, no_mark next 0 n) (scan.read), scan.holds)
