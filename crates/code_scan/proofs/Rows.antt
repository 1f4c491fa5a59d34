-- Worked rows: the definitions compute.
use Rattle.std.proofs.Common.{◌≡◌, ℕ, Bool, true, false, [], ◌∷◌, refl}
use Rattle.std.specs.Prelude.{codes}
use Rattle.text_bytes.specs.OrderMark.{behind_order_mark}
use Rattle.js_scan.specs.Marks.{mark_len}
use Rattle.code_scan.specs.declared.token.Token.{Token}
use Rattle.code_scan.specs.declared.token.TokenKind.{TokenKind}
use Rattle.code_scan.specs.declared.token.TokenKind.TheVariants.{Name, Number, Text, Mark, Regex, Plus, Open, Close}
use Rattle.code_scan.specs.Blanks.{wide_blank, begins_space}
use Rattle.code_scan.specs.Escapes.{wide_escape}
use Rattle.code_scan.specs.Fronts.{front, slash, lone_slash, block_comment, begins_comment, begins_optional, further_len, wide_mark_len, mark_front, rare_front}
use Rattle.code_scan.specs.Lines.{begins_break, behind_line, has_break}
use Rattle.code_scan.specs.Names as names
use Rattle.code_scan.specs.Regexes.{behind_regex}
use Rattle.code_scan.specs.SameTokens.{has_plain_lines, is_plain_front, are_plain_fronts, is_plain_text}
use Rattle.code_scan.specs.States.{behind_name, behind_mark, behind_token, is_heading, opened_by, closes_innermost, open_behind, is_in_hole, after}
use Rattle.code_scan.specs.Texts.{next_part, end_of, text_from}
use Rattle.code_scan.specs.Tokens.{token, joined, one_found, found_from, found_in}

plain : is_plain_text (codes "$('.a').addClass(\"b\"); // x...\n}/2") ≡ true
unfolding is_plain_text has_plain_lines are_plain_fronts is_plain_front begins_break behind_line begins_comment begins_optional further_len wide_mark_len mark_len mark_front rare_front wide_blank begins_space front slash lone_slash names.behind_name behind_name behind_mark behind_token is_heading opened_by closes_innermost open_behind is_in_hole after next_part end_of text_from behind_order_mark
plain = refl

not_plain : is_plain_text (codes "if(a)/b/") ≡ false
unfolding is_plain_text has_plain_lines are_plain_fronts is_plain_front begins_break behind_line begins_comment begins_optional further_len wide_mark_len mark_len mark_front rare_front wide_blank begins_space front slash lone_slash behind_regex names.behind_name behind_name behind_mark behind_token is_heading opened_by closes_innermost open_behind is_in_hole after behind_order_mark
not_plain = refl

template : (found_in (codes "`a${b}`")).tokens ≡ token (Text (codes "a")) 0 4 true ∷ token Plus 0 4 false ∷ token Open 0 4 false ∷ token Name 4 5 false ∷ token Close 5 7 false ∷ token Plus 5 7 false ∷ token (Text []) 5 7 false ∷ []
unfolding found_from joined one_found front text_from next_part end_of names.behind_name wide_blank begins_space behind_name behind_token is_in_hole after behind_order_mark
template = refl

expression : (found_in (codes "if(a)/'/")).unread ≡ 5 ∷ []
unfolding found_from joined one_found begins_break begins_comment begins_optional further_len wide_mark_len mark_len mark_front rare_front wide_blank begins_space front slash lone_slash behind_regex names.behind_name behind_name behind_mark behind_token is_heading opened_by closes_innermost open_behind is_in_hole after behind_order_mark
expression = refl
