-- Elements by their names, which are in lower case.
--     kinds           the names of each kind
--     kind_of         the kind of a name
use Prim.Native.String.{String}
use Rattle.std.specs.Prelude.{ℕ, Bool, true, false, if◌then◌else◌, List, [], ◌∷◌, map, flat_map, codes}
use Rattle.std.specs.Str.{bytes_eq}
use denote.Enum.Bare.{sameb}
use Rattle.html_table.specs.contracts.elements.Kind.{the_type}
use Rattle.html_table.specs.declared.elements.Kind.{Kind}
use Rattle.html_table.specs.declared.elements.Kind.TheVariants as k
use Rattle.html_tokens.specs.Words.{words}

abbrev pub is : Kind → Kind → Bool
is = sameb the_type

abbrev pub kinds : List (Kind × String)
kinds =
    (k.Html, "html")
    ∷ (k.Head, "head")
    ∷ (k.Body, "body")
    ∷ (k.HeadVoid, "base link meta")
    ∷ (k.HeadRaw, "title style script noscript")
    ∷ (k.Void, "area br embed img input source track wbr")
    ∷ (k.BlockVoid, "hr")
    ∷ (k.Block, "address article aside blockquote center details dialog dir div fieldset figcaption figure footer form h1 h2 h3 h4 h5 h6 header hgroup main nav pre search section summary")
    ∷ (k.Paragraph, "p")
    ∷ (k.List, "ul ol menu")
    ∷ (k.Item, "li")
    ∷ (k.Terms, "dl")
    ∷ (k.Term, "dt dd")
    ∷ (k.Choice, "option")
    ∷ (k.Choices, "optgroup")
    ∷ (k.Table, "table")
    ∷ (k.Caption, "caption")
    ∷ (k.Columns, "colgroup")
    ∷ (k.Column, "col")
    ∷ (k.RowGroup, "tbody thead tfoot")
    ∷ (k.Row, "tr")
    ∷ (k.Cell, "td th")
    ∷ (k.Control, "button object")
    ∷ (k.Foreign, "svg math")
    ∷ []

-- each name with its kind
unfoldable pub named_kinds : List (List ℕ × Kind)
named_kinds = flat_map (λ (r : Kind × String). map (λ name. (name, r.0)) (words (codes r.1))) kinds

abbrev pub lookup : List (List ℕ × Kind) → List ℕ → Kind
lookup [] name = k.Other
lookup (n ∷ ns) name = if bytes_eq n.0 name then n.1 else lookup ns name

unfoldable pub kind_of : List ℕ → Kind
kind_of name = lookup named_kinds name

-- html, head and body, of which a page has one each
abbrev pub is_root : Kind → Bool
is_root k.Html = true
is_root k.Head = true
is_root k.Body = true
is_root t = false

-- what is added to the head as long as the body has not begun
abbrev pub is_in_head : Kind → Bool
is_in_head k.HeadVoid = true
is_in_head k.HeadRaw = true
is_in_head t = false

-- holds nothing
abbrev pub is_void : Kind → Bool
is_void k.HeadVoid = true
is_void k.Void = true
is_void k.BlockVoid = true
is_void k.Column = true
is_void t = false

-- ends a paragraph that is open
abbrev pub ends_paragraph : Kind → Bool
ends_paragraph k.BlockVoid = true
ends_paragraph k.Block = true
ends_paragraph k.Paragraph = true
ends_paragraph k.List = true
ends_paragraph k.Terms = true
ends_paragraph k.Table = true
ends_paragraph t = false

-- what is inside it closes no paragraph, item or term outside it
abbrev pub is_wall : Kind → Bool
is_wall k.Table = true
is_wall k.Cell = true
is_wall k.Caption = true
is_wall k.Control = true
is_wall t = false

-- what is open within a table only; a `col` is never open
abbrev pub is_table_part : Kind → Bool
is_table_part k.Caption = true
is_table_part k.Columns = true
is_table_part k.RowGroup = true
is_table_part k.Row = true
is_table_part k.Cell = true
is_table_part t = false

-- An element: its name, and the kind of it.
pub record Element : Type 0 where
  pub kind : Kind
  pub name : List ℕ

abbrev pub element : List ℕ → Element
element name = record { kind = kind_of name; name = name }
