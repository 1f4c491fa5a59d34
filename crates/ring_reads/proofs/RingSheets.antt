-- The sheet of a ring is short.
use Rattle.std.proofs.Common.{ℕ, zero, suc, ◌+◌, ◌*◌, ◌≤◌, ◌<◌, ◌^◌, List, ◌++◌, length, codes, Ok, Err, refl, arith}
use Rattle.std.specs.List.{flat_map, range_with_len}
use Rattle.std.specs.Fmt.{decimal}
use Rattle.std.specs.Str.{IsAscii}
use Rattle.std.proofs.lemmas.List.{length-append}
use Rattle.std.proofs.lemmas.List.Concat.{flat_map-cons}
use Rattle.std.proofs.lemmas.Fmt.{length-decimal-le, IsAscii-decimal}
use Rattle.std.proofs.lemmas.Str.{IsUtf8-from_ascii, IsAscii-append}
use Rattle.css_read.specs.Sheets.{Sheet}
use Rattle.css_read.specs.Reading.{Ending, read_sheet}
use Rattle.triple_gen.specs.Ring.{sheet_lines, sheet}
use Rattle.ring_reads.specs.Readings.{IsRead, ReadsRingSheets}
use Rattle.ring_reads.proofs.Digits.{ascii_of, lines_ascii}
use Rattle.ring_reads.proofs.SheetLemmas.{reads_short}

short_lines : (i : ℕ) → i < 1000 → length (sheet_lines i) ≤ 100
unfolding sheet_lines
short_lines i small = let d = length-decimal-le 3 i (omega arith) (omega (arith, small)) (omega (arith, small)) in search (arith, length-append, d)

all_short : (a n : ℕ) → a + n ≤ 1000 → length (flat_map sheet_lines (range_with_len a n)) ≤ n * 100
all_short a zero few = omega arith
all_short a (suc n) few =
    let here = short_lines a (omega (arith, few)) in
    let behind = all_short (a + 1) n (omega (arith, few)) in
    rw (flat_map-cons sheet_lines a (range_with_len (a + 1) n), length-append (sheet_lines a) (flat_map sheet_lines (range_with_len (a + 1) n))) omega (arith, here, behind)

-- a piece of the text, the number, and what is behind both
and_number : (front rest : List ℕ) (i : ℕ) → i < 2 ^ 64 → IsAscii front → IsAscii rest → IsAscii (front ++ decimal i ++ rest)
and_number front rest i small first second = IsAscii-append (front ++ decimal i) rest (IsAscii-append front (decimal i) first (IsAscii-decimal i small)) second

lines_are_ascii : (i : ℕ) → i < 2 ^ 64 → IsAscii (sheet_lines i)
unfolding sheet_lines
lines_are_ascii i small =
    let d = decimal i in
    let text_a = codes ".k" ++ d ++ codes " .g" in
    let text_b = text_a ++ d ++ codes "{}\n" in
    let text_c = text_b ++ codes ".k" ++ d ++ codes " > p.on{}\n" in
    let text_d = text_c ++ codes "#n" ++ d ++ codes " .k" in
    let text_e = text_d ++ d ++ codes " .k" in
    let text_f = text_e ++ d ++ codes "{}\n" in
    let a = and_number (codes ".k") (codes " .g") i small (ascii_of (codes ".k") refl) (ascii_of (codes " .g") refl) in
    let b = and_number text_a (codes "{}\n") i small a (ascii_of (codes "{}\n") refl) in
    let c = and_next text_b (codes ".k") (codes " > p.on{}\n") i small b (ascii_of (codes ".k") refl) (ascii_of (codes " > p.on{}\n") refl) in
    let d = and_next text_c (codes "#n") (codes " .k") i small c (ascii_of (codes "#n") refl) (ascii_of (codes " .k") refl) in
    let e = and_number text_d (codes " .k") i small d (ascii_of (codes " .k") refl) in
    let f = and_number text_e (codes "{}\n") i small e (ascii_of (codes "{}\n") refl) in
    and_next text_f (codes ".g") (codes " > p{}\n") i small f (ascii_of (codes ".g") refl) (ascii_of (codes " > p{}\n") refl)
  where
    and_next : (before front rest : List ℕ) (i : ℕ) → i < 2 ^ 64 → IsAscii before → IsAscii front → IsAscii rest → IsAscii (before ++ front ++ decimal i ++ rest)
    and_next before front rest i small first second third = and_number (before ++ front) rest i small (IsAscii-append before front first second) third

as_short : (m k : ℕ) (e : Ending Sheet) → m ≤ k → IsRead m e → IsRead k e
as_short m k (names, Ok x) less is = omega (arith, less, is)
as_short m k (names, Err e) less is = absurd is

pub reads_sheets : ReadsRingSheets
reads_sheets n names few room =
    let short = all_short 0 n (omega (arith, few)) in
    as_short (length names + length (sheet n)) (length names + n * 100) (read_sheet (sheet n) names) (omega (arith, short))
    (reads_short (sheet n) names (IsUtf8-from_ascii (sheet n) (lines_ascii sheet_lines (λ i small. lines_are_ascii i (omega (arith, small))) 0 n (omega (arith, few)))) (omega (arith, short, few)) (omega (arith, short, room)))
