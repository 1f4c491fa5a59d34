-- The page of a ring is read: each line adds a box with its paragraph, and leaves nothing open.
use Rattle.std.proofs.Common.{◌≡◌, ℕ, zero, suc, ◌+◌, ◌*◌, ◌≤◌, ◌<◌, ◌^◌, ◌==◌, Bool, true, false, List, [], ◌∷◌, ◌++◌, length, codes, Ok, Err, refl, sym, ◌∙◌, subst, arith, eq-eqb, append_assoc}
use Rattle.std.specs.List.{flat_map, range_with_len}
use Rattle.std.specs.Fmt.{decimal}
use Rattle.std.specs.Str.{IsAscii, IsUtf8}
use Rattle.std.specs.Str.Lossy.{utf8_valid_len}
use Rattle.std.proofs.lemmas.Fmt.{length-decimal-le, IsAscii-decimal}
use Rattle.std.proofs.lemmas.List.Concat.{flat_map-cons}
use Rattle.std.proofs.lemmas.Str.{utf8_valid_len-IsUtf8, IsUtf8-from_ascii, IsAscii-append}
use Rattle.text_bytes.specs.OrderMark.{behind_order_mark}
use Rattle.tp_base.specs.Names.{Named}
use Rattle.tp_base.specs.declared.atoms.TheConstants.{MOST_ATOMS}
use Rattle.html_tokens.specs.Bytes.{is_not}
use Rattle.html_tokens.specs.Tokens.{tokens_from}
use Rattle.html_subset.specs.declared.faults.TheConstants.{MOST_PAGE_NODES}
use Rattle.html_subset.specs.Growth.{Growth, nothing, size}
use Rattle.html_subset.specs.Labels.{Outcome, ◌>>=◌}
use Rattle.html_subset.specs.Building.{Roots, State, run}
use Rattle.html_subset.specs.Pages.{bare_roots, root_label, bare_page, page_tree, ending, page_of}
use Rattle.html_subset.specs.Reading.{read_page}
use Rattle.triple_gen.specs.Ring.{page_line}
use Rattle.ring_reads.specs.Readings.{IsRead, ReadsRingPages}
use Rattle.ring_reads.proofs.Digits.{each_digit, ascii_of, lines_ascii}
use Rattle.ring_reads.proofs.PageTokens.{box, IsFresh, box_tokens}
use Rattle.ring_reads.proofs.PageTrees.{Gives, gives_then, all_names, state, box_run}

-- ---- a line

abbrev lines : ℕ → ℕ → List ℕ
lines a n = flat_map page_line (range_with_len a n)

-- what is behind the tag of the box
abbrev in_box : List ℕ → List ℕ
in_box rest = codes "<p class=\"t\"></p></div>\n" ++ rest

line_is : (i : ℕ) (rest : List ℕ) → page_line i ++ rest ≡ box (107 ∷ decimal i) (110 ∷ decimal i) (in_box rest)
unfolding page_line
line_is i rest = simp append_assoc

lines_are : (a n : ℕ) → lines a (suc n) ≡ box (107 ∷ decimal a) (110 ∷ decimal a) (in_box (lines (a + 1) n))
lines_are a n = flat_map-cons page_line a (range_with_len (a + 1) n) ∙ line_is a (lines (a + 1) n)

fresh : (a n : ℕ) → IsFresh (lines a n)
fresh a zero = tt
fresh a (suc n) = subst IsFresh (sym (lines_are a n)) (refl, refl)

-- ---- UTF-8

line_ascii : (i : ℕ) → i < 2 ^ 64 → IsAscii (page_line i)
unfolding page_line
line_ascii i small =
    let d = IsAscii-decimal i small in
    IsAscii-append (codes "<div class=\"k" ++ decimal i ++ codes "\" id=\"n" ++ decimal i) (codes "\"><p class=\"t\"></p></div>\n")
    (IsAscii-append (codes "<div class=\"k" ++ decimal i ++ codes "\" id=\"n") (decimal i)
    (IsAscii-append (codes "<div class=\"k" ++ decimal i) (codes "\" id=\"n") (IsAscii-append (codes "<div class=\"k") (decimal i) (ascii_of (codes "<div class=\"k") refl) d) (ascii_of (codes "\" id=\"n") refl)) d)
    (ascii_of (codes "\"><p class=\"t\"></p></div>\n") refl)

page_utf8 : (n : ℕ) → n ≤ 1000 → IsUtf8 (lines 0 n)
page_utf8 n few = IsUtf8-from_ascii (flat_map page_line (range_with_len 0 n)) (lines_ascii page_line (λ i small. line_ascii i (omega (arith, small))) 0 n (omega (arith, few)))

-- ---- the tree

lines_run : (m size_of a n : ℕ) (r : Roots) (ts : Growth) (begun : Bool) (table : List Named) → a + n ≤ 1000 → 3 + size r.in_head + (size ts + n * 2) < MOST_PAGE_NODES → length table + n * 8 ≤ m → m ≤ MOST_ATOMS
    → Gives (λ s. length s.table ≤ m) (run (tokens_from size_of 0 (lines a n)) (state r ts 0 begun table))
unfolding tokens_from run
lines_run m size_of a zero r ts begun table small few room most = omega (arith, room)
lines_run m size_of a (suc n) r ts begun table small few room most =
    let short = length-decimal-le 3 a (omega arith) (omega (arith, small)) (omega (arith, small)) in
    let class = each_digit (is_not 34) refl a (omega (arith, small)) in
    let here = length table + 8 in
    let is = box_tokens size_of (107 ∷ decimal a) (110 ∷ decimal a) (lines (a + 1) n) (refl, class) (refl, class) (fresh (a + 1) n) in
    rw (lines_are a n)
    (box_run (λ s. length s.table ≤ m) here r ts begun table (107 ∷ decimal a) (110 ∷ decimal a) (tokens_from size_of 0 (box (107 ∷ decimal a) (110 ∷ decimal a) (in_box (lines (a + 1) n)))) (tokens_from size_of 0 (lines (a + 1) n)) is
    (omega (arith, few)) (omega (arith, short)) (omega (arith, room, most))
    (λ us later count named. lines_run m size_of (a + 1) n r us true later (omega (arith, small)) (omega (arith, few, count)) (omega (arith, room, named)) most))

-- nothing but html, head and body, without children
record IsBare (s : State) : Type 0 where
  roots : Roots
  table : List Named
  is : s ≡ state roots nothing 0 false table
  empty : size roots.in_head ≡ 0
  few : length table ≤ 3

bare : Gives IsBare (bare_page [])
unfolding bare_page
bare =
    gives_then (λ l. length l.1 ≤ 1) IsBare (root_label (codes "html") []) _ (all_names 0 1 _ [] [] (omega arith) (omega arith)) (λ html one.
    gives_then (λ l. length l.1 ≤ 2) IsBare (root_label (codes "head") html.1) _ (all_names 0 2 _ [] html.1 (omega (arith, one)) (omega arith)) (λ head two.
    gives_then (λ l. length l.1 ≤ 3) IsBare (root_label (codes "body") head.1) _ (all_names 0 3 _ [] head.1 (omega (arith, two)) (omega arith)) (λ body three.
    record { roots = bare_roots html.0 head.0 body.0; table = body.1; is = refl; empty = refl; few = three })))

as_read : {A : Type 0} (m : ℕ) (seen : State → A) (o : Outcome State) → Gives (λ s. length s.table ≤ m) o → IsRead m (ending (λ s. s.table) seen o)
as_read m seen (Ok s) is = is
as_read m seen (Err e) is = absurd is

tokens_read : (m size_of n : ℕ) → n ≤ 1000 → 3 + n * 8 ≤ m → m ≤ MOST_ATOMS → IsRead m (page_of (tokens_from size_of 0 (lines 0 n)) [])
unfolding page_of
tokens_read m size_of n few room most =
    as_read m (λ s. page_tree s.document s.trees) (bare_page [] >>= run (tokens_from size_of 0 (lines 0 n)))
    (gives_then IsBare (λ s. length s.table ≤ m) (bare_page []) (run (tokens_from size_of 0 (lines 0 n))) bare
    (λ s is. rw (is.is) (lines_run m size_of 0 n is.roots nothing false is.table (omega (arith, few)) (omega (arith, few, is.empty)) (omega (arith, room, is.few)) most)))

no_mark : (a n : ℕ) → behind_order_mark (lines a n) ≡ lines a n
unfolding behind_order_mark
no_mark a zero = refl
no_mark a (suc n) = rw (lines_are a n) refl

pub reads_pages : ReadsRingPages
unfolding read_page
reads_pages n few =
    let text = lines 0 n in
    let whole : (utf8_valid_len text == length text) ≡ true = eq-eqb (utf8_valid_len text) (length text) (utf8_valid_len-IsUtf8 text (page_utf8 n (omega (arith, few)))) in
    rw (whole, no_mark 0 n) (tokens_read (3 + n * 8) (length text) n (omega (arith, few)) (omega arith) (omega (arith, few)))
