-- How what a sheet asks for is gathered, a name after the other. That it comes to what is asked for is a lemma.
use Rattle.std.specs.Prelude.{ℕ, List, [], flat_map, fold}
use Rattle.std.specs.Str.{bytes_eq}
use Rattle.indexmap.specs.IndexMap.{insert_entry}
use Rattle.tp_base.specs.declared.atoms.AtomKind.TheVariants as kind
use Rattle.tp_base.specs.Names.{Named}
use Rattle.sel_text.specs.declared.selectors.Compound.{Compound}
use Rattle.sheet_asks.specs.Asked.{Asked, Valued, name_in, value_in, values_at}
use Rattle.sheet_asks.specs.Names.{with_name, with_all}

-- the atoms of compounds that stand from left to right
abbrev pub parts_atoms : List Compound → List ℕ
parts_atoms parts = flat_map (λ (p : Compound). p.atoms) parts

-- what an attribute asks for more
abbrev pub with_values : List Valued → List ℕ → List (List ℕ) → List Valued
with_values attributes name values = insert_entry bytes_eq attributes name (with_all (values_at attributes name) values)

abbrev pub with_attribute : List Valued → List ℕ → List Valued
with_attribute attributes text = with_values attributes (name_in text) (value_in text)

abbrev pub with_named : Asked → Named → Asked
with_named asked (kind.Class, text) = record asked { classes = with_name asked.classes text }
with_named asked (kind.Ident, text) = record asked { ids = with_name asked.ids text }
with_named asked (kind.Element, text) = record asked { elements = with_name asked.elements text }
with_named asked (kind.Attr, text) = record asked { attributes = with_attribute asked.attributes text }
with_named asked (kind.Aux, text) = asked

abbrev pub nothing : Asked
nothing = record { classes = []; ids = []; elements = []; attributes = [] }

abbrev pub with_all_named : Asked → List Named → Asked
with_all_named asked names = fold with_named asked names
