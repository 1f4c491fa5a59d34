-- A ring of one box, and of none.
use Rattle.std.proofs.Common.{◌≡◌, codes, refl}
use Rattle.std.specs.Fmt.{digits}
use Rattle.triple_gen.specs.Ring.{page, sheet, script, page_line, sheet_lines, script_line}

one_page : page 1 ≡ codes "<div class=\"k0\" id=\"n0\"><p class=\"t\"></p></div>\n"
unfolding digits page_line
one_page = refl

one_sheet : sheet 1 ≡ codes ".k0 .g0{}\n.k0 > p.on{}\n#n0 .k0 .k0{}\n.g0 > p{}\n"
unfolding digits sheet_lines
one_sheet = refl

-- its own box is the next one
one_script : script 1 ≡ codes "$('.k0').append('<div class=\"k0 g0\"></div>');\n$('.t').addClass('on');\n"
unfolding digits script_line
one_script = refl

-- the last of two makes boxes like the first
two_script : script 2 ≡ codes "$('.k0').append('<div class=\"k1 g0\"></div>');\n$('.k1').append('<div class=\"k0 g1\"></div>');\n$('.t').addClass('on');\n"
unfolding digits script_line
two_script = refl

no_script : script 0 ≡ codes "$('.t').addClass('on');\n"
no_script = refl
