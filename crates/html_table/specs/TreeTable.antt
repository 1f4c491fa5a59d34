-- The tree table: which open elements a tag closes, and what it implies. Open elements are listed from the innermost outward.
use Rattle.std.specs.Prelude.{ℕ, ◌&&◌, ◌||◌, not, Bool, true, false, if◌then◌else◌, List, [], ◌∷◌, length, codes, Option, Some, None, unwrap_or}
use Rattle.std.specs.List.{list_any}
use Rattle.std.specs.Str.{bytes_eq}
use Rattle.html_table.specs.declared.elements.Kind.{Kind}
use Rattle.html_table.specs.declared.elements.Kind.TheVariants as k
use Rattle.html_table.specs.declared.scopes.Scope.{Scope}
use Rattle.html_table.specs.declared.scopes.Scope.TheVariants as within
use Rattle.html_table.specs.declared.open_elements.Ending.{Ending}
use Rattle.html_table.specs.declared.open_elements.Ending.TheVariants as does
use Rattle.html_tokens.specs.Names.{is_raw}
use Rattle.html_table.specs.Elements.{is, is_wall, is_root, is_void, is_table_part, ends_paragraph, Element}

-- past these nothing is closed
abbrev pub stops : Scope → Kind → Bool
stops within.Walls t = is_wall t
stops within.Items t = is t k.List || is_wall t
stops within.Terms t = is t k.Terms || is_wall t
stops within.Table t = is t k.Table
stops within.Cells t = is t k.Table || is t k.Cell || is t k.Caption
stops within.Page t = false

-- what stays open where the innermost element that is sought is closed with all in it, unless the scope ends before it
unfoldable pub behind : (Element → Bool) → Scope → List Element → Option (List Element)
behind sought scope [] = None
behind sought scope (e ∷ es) = if sought e then Some es else (if stops scope e.kind then None else behind sought scope es)

abbrev pub has_kind : Kind → Element → Bool
has_kind t e = is e.kind t

abbrev pub has_name : List ℕ → Element → Bool
has_name name e = bytes_eq e.name name

-- what stays open then, or all where nothing is closed
abbrev pub without : (Element → Bool) → Scope → List Element → List Element
without sought scope elements = unwrap_or (behind sought scope elements) elements

-- the current element is closed where it is of this kind
abbrev pub without_current : Kind → List Element → List Element
without_current t [] = []
without_current t (e ∷ es) = if is e.kind t then es else e ∷ es

-- ---- start tags

abbrev pub without_paragraph : List Element → List Element
without_paragraph elements = without (has_kind k.Paragraph) within.Walls elements

-- what stays open before an element is added that stands anywhere
unfoldable pub closed_by : Kind → List Element → List Element
closed_by k.Item elements = without_paragraph (without (has_kind k.Item) within.Items elements)
closed_by k.Term elements = without_paragraph (without (has_kind k.Term) within.Terms elements)
closed_by k.Choice elements = without_current k.Choice elements
closed_by k.Choices elements = without_current k.Choices (without_current k.Choice elements)
closed_by t elements = if ends_paragraph t then without_paragraph elements else elements

-- what is added in a table only
abbrev pub is_in_table : Kind → Bool
is_in_table t = is t k.Column || is_table_part t

-- whether an element of the first kind is added in one of the second
abbrev pub is_held_by : Kind → Kind → Bool
is_held_by k.Column e = is e k.Table || is e k.Columns
is_held_by k.Row e = is e k.Table || is e k.RowGroup
is_held_by k.Cell e = is e k.Table || is e k.RowGroup || is e k.Row
is_held_by t e = is e k.Table

-- from the nearest open element on that holds such a one
unfoldable pub holder : Kind → List Element → List Element
holder t [] = []
holder t (e ∷ es) = if is_held_by t e.kind then e ∷ es else holder t es

abbrev pub implied_in_table : Kind → List (List ℕ)
implied_in_table k.Column = codes "colgroup" ∷ []
implied_in_table k.Row = codes "tbody" ∷ []
implied_in_table k.Cell = codes "tbody" ∷ codes "tr" ∷ []
implied_in_table t = []

-- what is implied between an element of the first kind and the one of the second that holds it
abbrev pub implied : Kind → Kind → List (List ℕ)
implied t e = if is e k.Table then implied_in_table t else (if is e k.RowGroup && is t k.Cell then codes "tr" ∷ [] else [])

-- whether nothing is open, or the outermost element is one that stands in a table
unfoldable pub is_bare : List Element → Bool
is_bare [] = true
is_bare (e ∷ []) = is_table_part e.kind
is_bare (e ∷ f ∷ es) = is_bare (f ∷ es)

-- where an element is added: what stays open, and what is implied inside it
abbrev pub Place : Type 0
Place = List Element × List (List ℕ)

-- At the top of a forest may be what stands in a table. Elsewhere, where nothing holds it, the tag is passed over.
abbrev pub in_table : Bool → Kind → List Element → List Element → Option Place
in_table forest t elements [] = if forest && is_bare elements then Some ([], []) else None
in_table forest t elements (e ∷ es) = Some (e ∷ es, implied t e.kind)

unfoldable pub place : Bool → Kind → List Element → Option Place
place forest t elements = if is_in_table t then in_table forest t elements (holder t elements) else Some (closed_by t elements, [])

-- whether an element is opened, among these: not one that holds no elements, and not svg, math or one inside that closes itself
unfoldable pub opens : Element → Bool → List Element → Bool
opens e closes_itself elements =
    not (is_void e.kind || is_raw e.name || closes_itself && (is e.kind k.Foreign || list_any (has_kind k.Foreign) elements))

-- ---- end tags

abbrev pub end_scope : Kind → Scope
end_scope t = if is t k.Table then within.Page else (if is_table_part t then within.Table else within.Cells)

-- what stays open behind an end tag
unfoldable pub closed_at_end : Element → List Element → List Element
closed_at_end e elements = without (has_name e.name) (end_scope e.kind) elements

-- What an end tag does: nothing where its element is a root or holds nothing. That of a paragraph is `paragraph_end` in
-- `html_subset`, since it may add one.
abbrev pub ending : Element → List Element → Ending
ending e elements =
    if is_root e.kind || is_void e.kind then does.Nothing
    else (if is e.kind k.Paragraph then does.Paragraph
    else does.Leaves (length (closed_at_end e elements)))
