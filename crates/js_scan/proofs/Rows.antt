-- Worked rows: the definitions compute.
use Rattle.std.proofs.Common.{◌≡◌, ℕ, [], ◌∷◌, ◌++◌, Ok, Err, refl}
use Rattle.std.specs.Prelude.{codes}
use Rattle.text_bytes.specs.OrderMark.{behind_order_mark}
use Rattle.js_scan.specs.declared.token.TokenKind.{TokenKind}
use Rattle.js_scan.specs.declared.token.TokenKind.TheVariants.{Name, Number, Text, Mark}
use Rattle.js_scan.specs.declared.token.Token.{Token}
use Rattle.js_scan.specs.declared.token.ScanFault.TheVariants.{BadString, Regexp, Template, BadByte}
use Rattle.js_scan.specs.Escapes.{escape, hex_pair, hex_quad}
use Rattle.js_scan.specs.Texts.{text_from, next_piece}
use Rattle.js_scan.specs.Marks.{mark_len}
use Rattle.js_scan.specs.Comments.{behind_close}
use Rattle.js_scan.specs.Tokens.{tokens, tokens_from, front, text_front, block_comment, slash, mark_front, divides_next}

abbrev token : TokenKind → ℕ → ℕ → Token
token kind from to = record { kind = kind; from = from; to = to }

line : tokens (codes "a1===2 'x\\n' // no") ≡ Ok (token Name 0 2 ∷ token Mark 2 5 ∷ token Number 5 6 ∷ token (Text (120 ∷ 10 ∷ [])) 7 12 ∷ [])
unfolding tokens_from front text_front text_from next_piece escape mark_front mark_len slash divides_next behind_order_mark
line = refl

longest : tokens (codes "!==!=!") ≡ Ok (token Mark 0 3 ∷ token Mark 3 5 ∷ token Mark 5 6 ∷ [])
unfolding tokens_from front mark_front mark_len divides_next behind_order_mark
longest = refl

unclosed : tokens (codes "a 'b") ≡ Err (BadString 2)
unfolding tokens_from front text_front text_from next_piece divides_next behind_order_mark
unclosed = refl

-- `'\x41é\u0042'`, whose middle is two bytes
characters : tokens (codes "'\\x41" ++ 0xC3 ∷ 0xA9 ∷ codes "\\u0042'") ≡ Ok (token (Text (65 ∷ 0xC3 ∷ 0xA9 ∷ 66 ∷ [])) 0 14 ∷ [])
unfolding tokens_from front text_front text_from next_piece escape hex_pair hex_quad divides_next behind_order_mark lib.Utf8.encode
characters = refl

surrogate : tokens (codes "'\\ud800'") ≡ Err (BadString 0)
unfolding tokens_from front text_front text_from next_piece escape hex_pair hex_quad divides_next behind_order_mark
surrogate = refl

-- faults of one Text come from left to right
template_first : tokens (codes "`a${b}\\1`") ≡ Err (Template 0)
unfolding tokens_from front text_front text_from next_piece divides_next behind_order_mark
template_first = refl

escaped_dollar : tokens (codes "`a\\${b}`") ≡ Ok (token (Text (codes "a${b}")) 0 8 ∷ [])
unfolding tokens_from front text_front text_from next_piece escape divides_next behind_order_mark
escaped_dollar = refl

division : tokens (codes "a/b") ≡ Ok (token Name 0 1 ∷ token Mark 1 2 ∷ token Name 2 3 ∷ [])
unfolding tokens_from front slash divides_next behind_order_mark
division = refl

expression : tokens (codes "return /b/") ≡ Err (Regexp 7)
unfolding tokens_from front slash divides_next behind_order_mark
expression = refl

unclosed_comment : tokens (codes "a /* b") ≡ Err (BadByte 2)
unfolding tokens_from front slash block_comment behind_close divides_next behind_order_mark
unclosed_comment = refl

order_mark : tokens (0xEF ∷ 0xBB ∷ 0xBF ∷ codes "a") ≡ Ok (token Name 3 4 ∷ [])
unfolding tokens_from front divides_next behind_order_mark
order_mark = refl
