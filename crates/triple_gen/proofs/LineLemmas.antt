-- The lines of a box, from their pieces.
use Rattle.std.proofs.Common.{◌≡◌, ℕ, List, ◌++◌, codes, append_assoc}
use Rattle.std.specs.Fmt.{decimal}
use Rattle.triple_gen.specs.Ring.{page_line, sheet_lines, script_line}

pub page_line_is : (i : ℕ) (before one two three : List ℕ) → one ≡ before ++ codes "<div class=\"k" ++ decimal i → two ≡ one ++ codes "\" id=\"n" ++ decimal i → three ≡ two ++ codes "\"><p class=\"t\"></p></div>\n"
    → three ≡ before ++ page_line i
unfolding page_line
page_line_is i before one two three first second third = rw (third, second, first) (simp append_assoc)

pub sheet_lines_is : (i : ℕ) (before one two three four five six seven : List ℕ)
    → one ≡ before ++ codes ".k" ++ decimal i ++ codes " .g" ++ decimal i ++ codes "{}\n" → two ≡ one ++ codes ".k" ++ decimal i → three ≡ two ++ codes " > p.on{}\n"
    → four ≡ three ++ codes "#n" ++ decimal i → five ≡ four ++ codes " .k" ++ decimal i ++ codes " .k" ++ decimal i ++ codes "{}\n"
    → six ≡ five ++ codes ".g" ++ decimal i → seven ≡ six ++ codes " > p{}\n" → seven ≡ before ++ sheet_lines i
unfolding sheet_lines
sheet_lines_is i before one two three four five six seven a b c d e f g = rw (g, f, e, d, c, b, a) (simp append_assoc)

pub script_line_is : (i j : ℕ) (before one two three four : List ℕ) → one ≡ before ++ codes "$('.k" ++ decimal i → two ≡ one ++ codes "').append('<div class=\"k" ++ decimal j
    → three ≡ two ++ codes " g" ++ decimal i → four ≡ three ++ codes "\"></div>');\n" → four ≡ before ++ script_line i j
unfolding script_line
script_line_is i j before one two three four a b c d = rw (d, c, b, a) (simp append_assoc)
