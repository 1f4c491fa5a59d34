-- The files of a ring of n boxes: box i has the class `ki` and the id `ni`, and gets children of the classes `kj` and `gi`, where j is the box behind it.
--     page n, sheet n, script n      each file, with the lines of every box in turn
use Rattle.std.specs.Prelude.{ℕ, ◌+◌, ◌%◌, List, ◌++◌, codes}
use Rattle.std.specs.List.{flat_map, range_with_len}
use Rattle.std.specs.Fmt.{decimal}

unfoldable pub page_line : ℕ → List ℕ
page_line i = codes "<div class=\"k" ++ decimal i ++ codes "\" id=\"n" ++ decimal i ++ codes "\"><p class=\"t\"></p></div>\n"

unfoldable pub sheet_lines : ℕ → List ℕ
sheet_lines i =
    codes ".k" ++ decimal i ++ codes " .g" ++ decimal i ++ codes "{}\n"
    ++ codes ".k" ++ decimal i ++ codes " > p.on{}\n"
    ++ codes "#n" ++ decimal i ++ codes " .k" ++ decimal i ++ codes " .k" ++ decimal i ++ codes "{}\n"
    ++ codes ".g" ++ decimal i ++ codes " > p{}\n"

unfoldable pub script_line : ℕ → ℕ → List ℕ
script_line i j = codes "$('.k" ++ decimal i ++ codes "').append('<div class=\"k" ++ decimal j ++ codes " g" ++ decimal i ++ codes "\"></div>');\n"

abbrev pub page : ℕ → List ℕ
page n = flat_map page_line (range_with_len 0 n)

abbrev pub sheet : ℕ → List ℕ
sheet n = flat_map sheet_lines (range_with_len 0 n)

-- and at last every paragraph is switched on
abbrev pub script : ℕ → List ℕ
script n = flat_map (λ i. script_line i ((i + 1) % n)) (range_with_len 0 n) ++ codes "$('.t').addClass('on');\n"
