-- How long the files of a ring are at most.
use Rattle.std.proofs.Common.{◌≤◌, ◌<◌, ◌*◌, ◌+◌, ◌%◌, ℕ, zero, suc, List, length, codes, arith}
use Rattle.std.proofs.Math.Nat.{mod-le}
use Rattle.std.specs.List.{flat_map, range_with_len}
use Rattle.std.specs.Fmt.{decimal}
use Rattle.std.proofs.lemmas.List.{length-append}
use Rattle.std.proofs.lemmas.List.Concat.{flat_map-cons}
use Rattle.std.proofs.lemmas.Fmt.{length-decimal-le}
use Rattle.tp_base.specs.declared.places.TheConstants.{MOST_BYTES}
use Rattle.triple_gen.specs.declared.triple.TheConstants.{MOST_BOXES}
use Rattle.triple_gen.specs.Ring.{page_line, sheet_lines, script_line, page, sheet, script}

short : (i : ℕ) → i < 1000 → length (decimal i) ≤ 3
short i small = length-decimal-le 3 i (omega arith) small (omega (arith, small))

short_page_line : (i : ℕ) → i < 1000 → length (page_line i) ≤ 200
unfolding page_line
short_page_line i small = let d = short i small in search (arith, length-append, d)

short_sheet_lines : (i : ℕ) → i < 1000 → length (sheet_lines i) ≤ 200
unfolding sheet_lines
short_sheet_lines i small = let d = short i small in search (arith, length-append, d)

short_script_line : (i j : ℕ) → i < 1000 → j < 1000 → length (script_line i j) ≤ 200
unfolding script_line
short_script_line i j small other = let d = short i small in let e = short j other in search (arith, length-append, d, e)

-- lines that are short
short_lines : (line : ℕ → List ℕ) → ((i : ℕ) → i < 500 → length (line i) ≤ 200) → (a n : ℕ) → a + n ≤ 500 → length (flat_map line (range_with_len a n)) ≤ n * 200
short_lines line each a zero few = omega arith
short_lines line each a (suc n) few =
    let here = each a (omega (arith, few)) in
    let behind = short_lines line each (a + 1) n (omega (arith, few)) in
    rw (flat_map-cons line a (range_with_len (a + 1) n), length-append (line a) (flat_map line (range_with_len (a + 1) n))) omega (arith, here, behind)

pub small_page : (n : ℕ) → n ≤ MOST_BOXES → length (page n) ≤ MOST_BYTES
small_page n few =
    let lines = short_lines page_line (λ i small. short_page_line i (omega (arith, small))) 0 n (omega (arith, few)) in
    omega (arith, few, lines)

pub small_sheet : (n : ℕ) → n ≤ MOST_BOXES → length (sheet n) ≤ MOST_BYTES
small_sheet n few =
    let lines = short_lines sheet_lines (λ i small. short_sheet_lines i (omega (arith, small))) 0 n (omega (arith, few)) in
    omega (arith, few, lines)

pub small_script : (n : ℕ) → n ≤ MOST_BOXES → length (script n) ≤ MOST_BYTES
small_script n few =
    let next : (i : ℕ) → i < 500 → (i + 1) % n < 1000 = λ i small. let most = mod-le (i + 1) n in omega (arith, small, most) in
    let lines = short_lines (λ i. script_line i ((i + 1) % n)) (λ i small. short_script_line i ((i + 1) % n) (omega (arith, small)) (next i small)) 0 n (omega (arith, few)) in
    rw (length-append (flat_map (λ i. script_line i ((i + 1) % n)) (range_with_len 0 n)) (codes "$('.t').addClass('on');\n")) omega (arith, few, lines)
