-- Selectors that the grammar reads back from their text: their atoms are names of kinds that selectors ask for.
use Rattle.std.specs.Prelude.{◌≡◌, ◌⊎◌, ℕ, ◌<◌, List, [], ◌∷◌, length, map, true, false, Option, None, Some, IfSome, Ok, slice_get}
use Rattle.std.specs.List.{list_all}
use Rattle.std.specs.Char.{to_ascii_lowercase}
use Rattle.tp_base.specs.Names.{Named}
use Rattle.tp_base.specs.declared.atoms.AtomKind.{AtomKind}
use Rattle.tp_base.specs.declared.atoms.AtomKind.TheVariants as kind
use Rattle.sel_text.specs.declared.faults.TheConstants.{MOST_PARTS}
use Rattle.text_bytes.specs.Attributes.{is_set_apart, with_value}
use Rattle.sel_text.specs.Bytes.{name_len}
use Rattle.sel_text.specs.Grammar.{in_quotes}
use Rattle.sel_text.specs.SelectorText.{quote_for}
use Rattle.sel_text.specs.Lists.{read_strict_list}
use Rattle.sel_text.specs.Reading.{read_selector}
use Rattle.sel_text.specs.Selectors.{Outer, Selector}

-- the bytes are a name and nothing else
pub record IsName (name : List ℕ) : Type 0 where
  pub some : 0 < length name
  pub whole : name_len name ≡ length name

-- the atom of a type, in lower case
pub record IsType (names : List Named) (a : ℕ) : Type 0 where
  pub name : List ℕ
  pub at : slice_get names a ≡ Some (kind.Element, name)
  pub is_name : IsName name
  pub lowered : map to_ascii_lowercase name ≡ name

-- the atom of a class or an id
pub record IsMarked (names : List Named) (a : ℕ) : Type 0 where
  pub sort : AtomKind
  pub name : List ℕ
  pub at : slice_get names a ≡ Some (sort, name)
  pub marked : (sort ≡ kind.Class) ⊎ (sort ≡ kind.Ident)
  pub is_name : IsName name

-- the name of an attribute that a part may ask for, in lower case
pub record IsAsked (name : List ℕ) : Type 0 where
  pub is_name : IsName name
  pub lowered : map to_ascii_lowercase name ≡ name
  pub apart : is_set_apart name ≡ false

-- a value in lower case that reads as itself in the quotes in which it is written
pub record IsQuoted (value : List ℕ) : Type 0 where
  pub plain : list_all (in_quotes (quote_for value)) value ≡ true
  pub lowered : map to_ascii_lowercase value ≡ value

-- the name of the atom of an attribute, or of its value, if one is asked for
abbrev pub asked_name : List ℕ → Option (List ℕ) → List ℕ
asked_name name None = name
asked_name name (Some value) = with_value name value

-- the atom of an attribute, or of its value
pub record IsAttribute (names : List Named) (a : ℕ) : Type 0 where
  pub name : List ℕ
  pub value : Option (List ℕ)
  pub at : slice_get names a ≡ Some (kind.Attr, asked_name name value)
  pub asked : IsAsked name
  pub quoted : IfSome value IsQuoted

-- what may stand anywhere in a compound
abbrev pub IsPart : List Named → ℕ → Type 0
IsPart names a = IsMarked names a ⊎ IsAttribute names a

abbrev pub ArePartsOf : List Named → List ℕ → Type 0
ArePartsOf names [] = Unit {0}
ArePartsOf names (a ∷ atoms) = IsPart names a × ArePartsOf names atoms

-- a type first, if there is one, and then classes, ids and attributes
abbrev pub IsCompound : List Named → List ℕ → Type 0
IsCompound names [] = Unit {0}
IsCompound names (a ∷ atoms) = (IsType names a ⊎ IsPart names a) × ArePartsOf names atoms

abbrev pub AreCompounds : List Named → List Outer → Type 0
AreCompounds names [] = Unit {0}
AreCompounds names (o ∷ outer) = IsCompound names o.atoms × AreCompounds names outer

pub record IsReadable (names : List Named) (s : Selector) : Type 0 where
  pub subject : IsCompound names s.subject
  pub outer : AreCompounds names s.outer
  pub few : length s.outer < MOST_PARTS

-- the text reads as this selector alone, for a sheet and for a script, and the names stay
pub record ReadsAs (text : List ℕ) (s : Selector) (names : List Named) : Type 0 where
  pub for_sheet : read_selector text 0 (length text) names ≡ (names, Ok s)
  pub for_script : read_strict_list text names ≡ (names, Ok (s ∷ []))
