-- The findings of a page.
--     is_standard      whether a browser reads it by the standard, and not in quirks mode
--     page_findings    all that are found
use Rattle.std.specs.Prelude.{ℕ, zero, suc, ◌-◌, ◌&&◌, ◌||◌, not, nat_eq, Bool, false, if◌then◌else◌, List, [], ◌∷◌, ◌++◌, length, take, drop, flat_map, codes}
use Rattle.std.specs.List.{prefix_len}
use Rattle.text_bytes.specs.Blanks.{is_blank}
use Rattle.text_bytes.specs.OrderMark.{behind_order_mark}
use Rattle.std.specs.Str.{str_eq_ignore_ascii_case}
use Rattle.html_tokens.specs.Bytes.{in_bare_value}
use Rattle.html_tokens.specs.Tokens.{Front}
use Rattle.html_tokens.specs.Markup.{behind_angle, behind_arrow}
use Rattle.premise_finds.specs.declared.findings.Finding.{Finding}
use Rattle.premise_finds.specs.declared.names.Name.TheVariants as name
use Rattle.premise_finds.specs.Findings.{when, finding}
use Rattle.page_finds.specs.Trees.{tree_findings}
use Rattle.page_finds.specs.Tags.{tags_at, tags_of}
use Rattle.page_finds.specs.TagNames.{found_at_tag}
use Rattle.premise_finds.specs.Texts.{begins, past_blanks, begins_word, has_somewhere}

-- ---- the document type

abbrev pub is_closed : List ℕ → Bool
is_closed bs = begins (codes ">") (past_blanks bs)

-- the one system identifier that the standard allows
unfoldable pub is_legacy : List ℕ → Bool
is_legacy bs =
    let system = past_blanks (drop 6 bs) in
    begins_word (codes "system") bs && (begins (codes "\"about:legacy-compat\"") system || begins (codes "'about:legacy-compat'") system) && is_closed (drop 21 system)

-- behind `<!doctype`: the name, and nothing else or that identifier
unfoldable pub is_html : List ℕ → Bool
is_html bs =
    let named = past_blanks bs in
    let n = prefix_len in_bare_value named in
    let behind = past_blanks (drop n named) in
    str_eq_ignore_ascii_case (take n named) (codes "html") && (is_closed behind || is_legacy behind)

unfoldable pub is_doctype : List ℕ → Bool
is_doctype bs = begins_word (codes "<!doctype") bs && is_html (drop 9 bs)

-- ---- quirks mode

-- Behind a comment, or behind a `<?` up to its `>`; where neither begins here, or a browser ends the comment further up, nothing is passed.
unfoldable pub behind_comment : List ℕ → List ℕ
behind_comment bs =
    if begins (codes "<!--") bs then (let rest = behind_arrow (drop 1 bs) in if has_somewhere (codes "--!>") (take (length bs - length rest) bs) then bs else rest)
    else (if begins (codes "<?") bs then behind_angle bs else bs)

-- whether a document type of the standard stands behind white space and comments; `skip` bytes are left of one
unfoldable pub is_standard_from : ℕ → List ℕ → Bool
is_standard_from skip [] = false
is_standard_from (suc skip) (b ∷ bs) = is_standard_from skip bs
is_standard_from zero (b ∷ bs) =
    if is_blank b then is_standard_from zero bs
    else (let rest = behind_comment (b ∷ bs) in if nat_eq (length rest) (length (b ∷ bs)) then is_doctype (b ∷ bs) else is_standard_from (length bs - length rest) bs)

abbrev pub is_standard : List ℕ → Bool
is_standard bs = is_standard_from 0 bs

-- ---- all of them

-- quirks mode is told at the page's first byte, and the declaration of XML at its own
unfoldable pub found_at_front : List ℕ → List Finding
found_at_front text =
    let page = behind_order_mark text in
    when (not (is_standard page)) (finding name.Quirks 0 (length text))
    ++ when (begins (codes "<?xml") page) (finding name.Xhtml (length text - length page) (length text - length (behind_angle page)))

-- at the tag that begins the bytes, if one does
unfoldable pub found_at_token : ℕ → List ℕ → Front → List Finding
found_at_token size bs f = flat_map found_at_tag (tags_at size bs f)

-- those that are told by the tokens
unfoldable pub token_findings : List ℕ → List Finding
token_findings text = found_at_front text ++ flat_map found_at_tag (tags_of text)

-- with those of the tree
unfoldable pub page_findings : List ℕ → List Finding
page_findings text = token_findings text ++ tree_findings text
