-- What is found of a page's tree, over the open elements as the table has them. Here the outermost is listed first.
--     after            the elements that are open behind a token
--     found_in_tree    what is found at a token
--     found_closed     which of the elements that a token closes are left open
--     tree_findings    in a page
use Rattle.std.specs.Prelude.{ℕ, zero, suc, ◌+◌, ◌-◌, ◌&&◌, ◌||◌, not, nat_lt, Bool, true, false, if◌then◌else◌, List, [], ◌∷◌, ◌++◌, length, take, drop, map, reverse, replicate, slice_get, unwrap_or, codes, Option, Some, None}
use Rattle.std.specs.List.{list_any}
use Rattle.std.specs.Option.{option_map}
use Rattle.std.specs.Str.{str_eq_ignore_ascii_case}
use Rattle.text_bytes.specs.OrderMark.{behind_order_mark}
use Rattle.html_tokens.specs.Names.{is_among, is_raw}
use Rattle.html_tokens.specs.Tokens.{Token, Front, front}
use Rattle.html_tokens.specs.Tokens.Token.{text, start, stop}
use Rattle.html_tokens.specs.Words.{words}
use Rattle.html_table.specs.declared.elements.Kind.{Kind}
use Rattle.html_table.specs.declared.elements.Kind.TheVariants as k
use Rattle.html_table.specs.declared.scopes.Scope.TheVariants as within
use Rattle.html_table.specs.declared.open_elements.Ending.{Ending}
use Rattle.html_table.specs.declared.open_elements.Ending.TheVariants as does
use Rattle.html_table.specs.Elements.{is, is_root, Element, kind_of, element}
use Rattle.html_table.specs.TreeTable.{behind, has_kind, has_name, is_in_table, place, opens, ending}
use Rattle.html_table.specs.Views.{counted}
use Rattle.premise_finds.specs.declared.findings.Finding.{Finding}
use Rattle.premise_finds.specs.declared.names.Name.TheVariants as name
use Rattle.premise_finds.specs.Findings.{when, finding}
use Rattle.page_finds.specs.declared.left.Opened.{Opened}
use Rattle.page_finds.specs.Tags.{Tag, tag_at}
use Rattle.page_finds.specs.TagNames.{is_named, has, value}
use Rattle.premise_finds.specs.Texts.{is_seen}

-- ---- open elements

abbrev pub is_open : List ℕ → List Element → Bool
is_open name es = list_any (has_name name) (reverse es)

-- an element of svg or math is open
abbrev pub is_in_foreign : List Element → Bool
is_in_foreign es = is_open (codes "svg") es || is_open (codes "math") es

-- whether one of the elements from the n-th on has none of these names
abbrev pub has_other : List (List ℕ) → ℕ → List Element → Bool
has_other names n es = list_any (λ e. not (is_among names e.name)) (drop n es)

-- the same of those inside the n-th
abbrev pub has_other_inside : List (List ℕ) → ℕ → List Element → Bool
has_other_inside names n es = nat_lt n (length es) && has_other names (n + 1) es

-- how many stay open where a paragraph, an item of a list or a term is closed, if one is
abbrev pub left_of_paragraph : List Element → Option ℕ
left_of_paragraph es = option_map length (behind (has_kind k.Paragraph) within.Walls (reverse es))

abbrev pub left_of_item : Kind → List Element → Option ℕ
left_of_item k.Item es = option_map length (behind (has_kind k.Item) within.Items (reverse es))
left_of_item k.Term es = option_map length (behind (has_kind k.Term) within.Terms (reverse es))
left_of_item t es = None

-- how many stay open before an element is added, and the names of those that are implied
abbrev pub place_in : Kind → List Element → Option (ℕ × List (List ℕ))
place_in t es = option_map counted (place false t (reverse es))

-- ---- behind a token

abbrev pub with_element : Element → Bool → List Element → List Element
with_element e closes_itself es = if opens e closes_itself (reverse es) then es ++ e ∷ [] else es

abbrev pub with_place : Element → Bool → List Element → Option (ℕ × List (List ℕ)) → List Element
with_place e closes_itself es None = es
with_place e closes_itself es (Some p) = with_element e closes_itself (take p.0 es ++ map element p.1)

unfoldable pub after_start : Element → Bool → List Element → List Element
after_start e closes_itself es = if is_root e.kind then es else with_place e closes_itself es (place_in e.kind es)

abbrev pub left_by : Option ℕ → List Element → List Element
left_by None es = es
left_by (Some n) es = take n es

abbrev pub after_ending : Ending → List Element → List Element
after_ending does.Nothing es = es
after_ending does.Paragraph es = left_by (left_of_paragraph es) es
after_ending (does.Leaves n) es = take n es

unfoldable pub after_stop : List ℕ → List Element → List Element
after_stop q es = after_ending (ending (element q) (reverse es)) es

abbrev pub after : Option Token → List Element → List Element
after None es = es
after (Some (text bytes)) es = es
after (Some (start t)) es = after_start (element t.name) t.closes_itself es
after (Some (stop q at)) es = after_stop q es

-- ---- at a start tag

unfoldable pub is_raw_in_svg : Tag → List Element → Bool
is_raw_in_svg t es = is_raw t.name && is_in_foreign es

-- the elements that a browser takes out of svg and math
abbrev pub breaking_names : List (List ℕ)
breaking_names =
    words (codes "b big blockquote body br center code dd div dl dt em embed h1 h2 h3 h4 h5 h6 head hr i img li listing menu meta nobr ol p pre ruby s small span strong strike sub sup table tt u ul var")

unfoldable pub breaks_out : List ℕ → Bool
breaks_out q = is_among breaking_names q

unfoldable pub is_html_in_svg : Tag → List Element → Bool
is_html_in_svg t es =
    (breaks_out t.name || is_named (codes "font") t && (has (codes "color") t || has (codes "face") t || has (codes "size") t)) && is_in_foreign es

abbrev pub single_names : List (List ℕ)
single_names = words (codes "a button form nobr select")

abbrev pub heading_names : List (List ℕ)
heading_names = words (codes "h1 h2 h3 h4 h5 h6")

unfoldable pub is_heading : List ℕ → Bool
is_heading q = is_among heading_names q

abbrev pub is_heading_element : Option Element → Bool
is_heading_element None = false
is_heading_element (Some e) = is_heading e.name

-- whether the innermost element is a heading, of those that stay open
abbrev pub is_in_heading : List Element → Option (ℕ × List (List ℕ)) → Bool
is_in_heading es None = false
is_in_heading es (Some p) = nat_lt 0 p.0 && is_heading_element (slice_get es (p.0 - 1))

unfoldable pub is_single : List ℕ → Bool
is_single q = is_among single_names q

unfoldable pub is_in_itself : Tag → List Element → Bool
is_in_itself t es = is_single t.name && is_open t.name es || is_heading t.name && is_in_heading es (place_in (kind_of t.name) es)

abbrev pub holds_rows : Option Element → Bool
holds_rows None = false
holds_rows (Some e) = is e.kind k.Table || is e.kind k.RowGroup || is e.kind k.Row

-- the current element is a table, a group of rows or a row
abbrev pub is_between_cells : List Element → Bool
is_between_cells es = holds_rows (slice_get es (length es - 1))

abbrev pub is_hidden : Option (List ℕ) → Bool
is_hidden None = false
is_hidden (Some v) = str_eq_ignore_ascii_case v (codes "hidden")

-- what a browser lets stand between cells
abbrev pub free_names : List (List ℕ)
free_names = words (codes "script style template form")

unfoldable pub is_free : Tag → Bool
is_free t = is_among free_names t.name || is_named (codes "input") t && is_hidden (value (codes "type") t)

unfoldable pub is_tag_in_a_table : Tag → List Element → Bool
is_tag_in_a_table t es = is_between_cells es && not (is_in_table (kind_of t.name) || is_free t)

abbrev pub choice_names : List (List ℕ)
choice_names = words (codes "option optgroup hr script template")

unfoldable pub is_in_a_select : Tag → List Element → Bool
is_in_a_select t es = not (is_among choice_names t.name) && is_open (codes "select") es

-- the elements past which a browser closes an item, too
abbrev pub passed_names : List (List ℕ)
passed_names = words (codes "div address p a b big code em font i nobr s small strike strong tt u")

abbrev pub is_closed_past : Option ℕ → List Element → Bool
is_closed_past None es = false
is_closed_past (Some n) es = has_other_inside passed_names n es

unfoldable pub is_item_in_a_block : Tag → List Element → Bool
is_item_in_a_block t es = is_closed_past (left_of_item (kind_of t.name) es) es

unfoldable pub found_at_start : Tag → List Element → List Finding
found_at_start t es =
    when (is_raw_in_svg t es) (finding name.RawInSvg t.from t.to)
    ++ when (is_html_in_svg t es) (finding name.HtmlInSvg t.from t.to)
    ++ when (is_in_itself t es) (finding name.InItself t.from t.to)
    ++ when (is_tag_in_a_table t es) (finding name.InATable t.from t.to)
    ++ when (is_in_a_select t es) (finding name.InASelect t.from t.to)
    ++ when (is_item_in_a_block t es) (finding name.ItemInABlock t.from t.to)

-- ---- at an end tag and at a text

-- the elements whose end tags may be left out
abbrev pub omitted_names : List (List ℕ)
omitted_names = words (codes "li dt dd p rt rp optgroup option colgroup caption thead tbody tfoot tr td th html head body")

abbrev pub crosses_inside : Option ℕ → List Element → Bool
crosses_inside None es = false
crosses_inside (Some n) es = has_other_inside omitted_names n es

-- whether an end tag closes an element besides its own whose end tag may not be left out, or nothing that it might
abbrev pub crosses : Ending → List Element → Bool
crosses does.Nothing es = false
crosses does.Paragraph es = crosses_inside (left_of_paragraph es) es
crosses (does.Leaves n) es = not (nat_lt n (length es)) || has_other omitted_names (n + 1) es

-- a raw element is never open, so its end tag closes nothing
unfoldable pub is_across : List ℕ → List Element → Bool
is_across q es = not (is_raw q) && crosses (ending (element q) (reverse es)) es

unfoldable pub is_text_in_a_table : List ℕ → List Element → Bool
is_text_in_a_table bytes es = is_seen bytes && is_between_cells es

-- ---- elements that are left open

-- how many of the open elements stay open
abbrev pub kept_at_start : Option (ℕ × List (List ℕ)) → List Element → ℕ
kept_at_start None es = length es
kept_at_start (Some p) es = p.0

abbrev pub kept_by_ending : Ending → List Element → ℕ
kept_by_ending does.Nothing es = length es
kept_by_ending does.Paragraph es = unwrap_or (left_of_paragraph es) (length es)
kept_by_ending (does.Leaves n) es = n

abbrev pub kept : Option Token → List Element → ℕ
kept None es = length es
kept (Some (text bytes)) es = length es
kept (Some (start t)) es = if is_root (kind_of t.name) then length es else kept_at_start (place_in (kind_of t.name) es) es
kept (Some (stop q at)) es = kept_by_ending (ending (element q) (reverse es)) es

abbrev pub is_stop : Option Token → Bool
is_stop (Some (stop q at)) = true
is_stop t = false

-- the first element that is closed by something else than its own end tag, of so many that are open
abbrev pub first_left : Bool → ℕ → ℕ → ℕ
first_left by_stop kept count = if by_stop && nat_lt kept count then kept + 1 else kept

-- an element with its tag that something else closes; the file's end leaves no form open for a form behind it
unfoldable pub found_left_at : Bool → Element → Opened → List Finding
found_left_at by_end e o =
    when (not (is_among omitted_names e.name)) (finding name.LeftOpen o.from o.to)
    ++ when (not by_end && has_name (codes "form") e) (finding name.FormLeftOpen o.from o.to)

unfoldable pub found_left : Bool → List Element → List Opened → List Finding
found_left by_end [] os = []
found_left by_end (e ∷ es) [] = []
found_left by_end (e ∷ es) (o ∷ os) = found_left_at by_end e o ++ found_left by_end es os

abbrev pub left_from : Bool → ℕ → List Element → List Opened → List Finding
left_from by_end n es os = found_left by_end (drop n es) (drop n os)

-- of the elements that a token closes
unfoldable pub found_closed : Option Token → List Element → List Opened → List Finding
found_closed t es os = left_from false (first_left (is_stop t) (kept t es) (length es)) es os

-- the tags of the open elements: of those that stay open the same, and of the others that of the token
unfoldable pub tags_after : Opened → ℕ → ℕ → List Opened → List Opened
tags_after tag kept count os = take kept os ++ replicate (count - length (take kept os)) tag

-- ---- in a page

-- at the token that begins the bytes, in a file of `size` bytes
unfoldable pub found_in_tree : ℕ → List Element → List ℕ → Front → List Finding
found_in_tree size es bs (None, rest) = []
found_in_tree size es bs (Some (text t), rest) = when (is_text_in_a_table t es) (finding name.InATable (size - length bs) (size - length rest))
found_in_tree size es bs (Some (start t), rest) = found_at_start (tag_at size bs rest) es
found_in_tree size es bs (Some (stop q at), rest) = when (is_across q es) (finding name.TagAcrossAnother (size - length bs) (size - length rest))

-- from a token's first byte to behind its last one
abbrev pub opened_at : ℕ → List ℕ → List ℕ → Opened
opened_at size bs rest = record { from = size - length bs; to = size - length rest }

-- in the last bytes of a file, where some elements are open, with their tags; `skip` bytes are left of what was read last
unfoldable pub tree_from : ℕ → List Element → List Opened → ℕ → List ℕ → List Finding
tree_from size es os skip [] = left_from true 0 es os
tree_from size es os (suc skip) (b ∷ bs) = tree_from size es os skip bs
tree_from size es os zero (b ∷ bs) =
    let f = front (size - length (b ∷ bs)) (b ∷ bs) in
    let more = after f.0 es in
    (found_in_tree size es (b ∷ bs) f ++ found_closed f.0 es os)
    ++ tree_from size more (tags_after (opened_at size (b ∷ bs) f.1) (kept f.0 es) (length more) os) (length bs - length f.1) bs

unfoldable pub tree_findings : List ℕ → List Finding
tree_findings page = tree_from (length page) [] [] 0 (behind_order_mark page)
