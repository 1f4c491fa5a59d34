-- What the judged selectors of a sheet ask for, in the order of the sheet, each once.
--     asked_names   the names of the atoms of all judged selectors, as they come
--     asked_of      names by their kinds
--     asked_in      what a sheet asks for
use Rattle.std.specs.Prelude.{ℕ, ◌==◌, not, nat_eq, Bool, if◌then◌else◌, List, [], ◌∷◌, ◌++◌, map, filter, flat_map, take, drop, slice_get, codes, option_to_list, unwrap_or}
use Rattle.std.specs.List.{starts_with, prefix_len}
use Rattle.std.specs.Map.{lookup}
use Rattle.std.specs.Str.{bytes_eq}
use denote.Enum.Bare.{sameb}
use Rattle.tp_base.specs.contracts.atoms.AtomKind.{the_type}
use Rattle.tp_base.specs.declared.atoms.AtomKind.{AtomKind}
use Rattle.tp_base.specs.declared.atoms.AtomKind.TheVariants as kind
use Rattle.tp_base.specs.Names.{Named}
use Rattle.sel_text.specs.Selectors.{Outer, Selector}
use Rattle.css_read.specs.Sheets.{Outcome, judged, skipped, Item, Sheet}
use Rattle.html_tokens.specs.Words.{words}
use Rattle.sheet_asks.specs.Names.{is_among, once}

-- ---- the names of a sheet

-- the atoms of compounds that stand from right to left, as they are written
abbrev pub outer_atoms : List Outer → List ℕ
outer_atoms [] = []
outer_atoms (o ∷ outer) = outer_atoms outer ++ o.atoms

-- the atoms of a selector, as they are written
abbrev pub atoms_of : Selector → List ℕ
atoms_of s = outer_atoms s.outer ++ s.subject

abbrev pub judged_atoms : Outcome → List ℕ
judged_atoms (judged s) = atoms_of s
judged_atoms (skipped why at) = []

-- an atom's name
abbrev pub name_at : List Named → ℕ → List Named
name_at names a = option_to_list (slice_get names a)

abbrev pub named : List Named → List ℕ → List Named
named names atoms = flat_map (name_at names) atoms

abbrev pub asked_names : List Named → List Item → List Named
asked_names names items = flat_map (λ i. named names (judged_atoms i.outcome)) items

-- ---- names by their kinds

-- the names of one kind
abbrev pub of_kind : AtomKind → List Named → List (List ℕ)
of_kind k [] = []
of_kind k (n ∷ ns) = if sameb the_type k n.0 then n.1 ∷ of_kind k ns else of_kind k ns

-- The name of an attribute's atom is the attribute's name, and behind a `=` the value, if one is asked for.
abbrev pub name_len : List ℕ → ℕ
name_len text = prefix_len (λ b. not (b == 61)) text

abbrev pub name_in : List ℕ → List ℕ
name_in text = take (name_len text) text

abbrev pub behind_equals : List ℕ → List (List ℕ)
behind_equals [] = []
behind_equals (b ∷ value) = value ∷ []

-- the value, if one is asked for
abbrev pub value_in : List ℕ → List (List ℕ)
value_in text = behind_equals (drop (name_len text) text)

-- the values that are asked of an attribute
abbrev pub values_in : List ℕ → List (List ℕ) → List (List ℕ)
values_in name [] = []
values_in name (t ∷ ts) = if bytes_eq (name_in t) name then value_in t ++ values_in name ts else values_in name ts

-- an attribute, and the values that are asked of it
abbrev pub Valued : Type 0
Valued = List ℕ × List (List ℕ)

-- each attribute that is asked for, alone or with a value
unfoldable pub attributes_of : List (List ℕ) → List Valued
attributes_of texts = map (λ name. (name, once (values_in name texts))) (once (map name_in texts))

-- the names of classes, ids, elements and attributes that are asked for
pub record Asked : Type 0 where
  pub classes : List (List ℕ)
  pub ids : List (List ℕ)
  pub elements : List (List ℕ)
  pub attributes : List Valued

unfoldable pub asked_of : List Named → Asked
asked_of names = record {
  classes = once (of_kind kind.Class names);
  ids = once (of_kind kind.Ident names);
  elements = once (of_kind kind.Element names);
  attributes = attributes_of (of_kind kind.Attr names);
}

-- what a sheet asks for whose atoms have these names
abbrev pub asked_in : List Named → Sheet → Asked
asked_in names sheet = asked_of (asked_names names sheet.items)

-- ---- questions

abbrev pub attribute_names : Asked → List (List ℕ)
attribute_names asked = map (λ a. a.0) asked.attributes

-- the values that are asked of an attribute
abbrev pub values_at : List Valued → List ℕ → List (List ℕ)
values_at attributes name = unwrap_or (lookup (bytes_eq name) attributes) []

-- the words of a text that are classes asked for, each once
abbrev pub classes_in : Asked → List ℕ → List (List ℕ)
classes_in asked text = once (filter (is_among asked.classes) (words text))

abbrev pub is_data_name : List ℕ → Bool
is_data_name name = starts_with nat_eq name (codes "data-")

-- the attributes that are asked for and whose names begin with `data-`
abbrev pub data_names : Asked → List (List ℕ)
data_names asked = filter is_data_name (attribute_names asked)
