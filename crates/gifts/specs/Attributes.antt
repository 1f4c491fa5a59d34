-- What attributes come to.
--     attribute        one whose name is known
--     any_attribute    one whose name isn't
use Rattle.std.specs.Prelude.{ℕ, ◌&&◌, ◌||◌, not, Bool, true, false, if◌then◌else◌, List, [], ◌∷◌, ◌++◌, Option, Some, None, codes, bytes_eq}
use Rattle.sheet_asks.specs.Asked.{Asked, attribute_names}
use Rattle.sheet_asks.specs.Names.{is_among}
use Rattle.sheet_asks.specs.Properties.{is_switch, brings_code}
use Rattle.gifts.specs.declared.given.Given.{Given}
use Rattle.gifts.specs.declared.given.Gift.TheVariants.{Attribute, AnyValue, AnyAttribute}
use Rattle.gifts.specs.declared.given.Kind.TheVariants.{Code, Markup}
use Rattle.gifts.specs.declared.given.Setter.{Setter}
use Rattle.gifts.specs.declared.given.Setter.TheVariants as setter
use Rattle.gifts.specs.Classes as of_classes
use Rattle.gifts.specs.Given.{gives, assumes}
use Rattle.gifts.specs.Ids as of_ids

-- ---- one whose name is known

-- whether the attribute holds what is written: jQuery gives a switch its own name, and a property may make another value
abbrev pub keeps_text : Setter → List ℕ → Bool
keeps_text setter.Attribute name = not (is_switch name)
keeps_text setter.Property name = false

abbrev pub valued : ℕ → Bool → List ℕ → Option (List ℕ) → List Given
valued at keeps name None = gives at (AnyValue name)
valued at keeps name (Some text) = gives at (if keeps then Attribute name text else AnyValue name)

-- a value, where the attribute is asked for
abbrev pub value_given : Asked → ℕ → Setter → List ℕ → Option (List ℕ) → List Given
value_given asked at way name value = if is_among (attribute_names asked) name then valued at (keeps_text way name) name value else []

-- `style` and `open` change by calls that do nothing else, or by a user
abbrev pub is_free : List ℕ → Bool
is_free name = bytes_eq name (codes "style") || bytes_eq name (codes "open")

-- what an attribute holds may be code, or the markup of a frame
abbrev pub held_given : ℕ → List ℕ → List Given
held_given at name = if brings_code name then assumes at Code else if bytes_eq name (codes "srcdoc") then assumes at Markup else []

-- An attribute whose name in lower case is known gets a text, or a value that isn't known.
unfoldable pub attribute : Asked → ℕ → Setter → List ℕ → Option (List ℕ) → List Given
attribute asked at way name value =
    if bytes_eq name (codes "class") then of_classes.classes asked at value
    else if bytes_eq name (codes "id") then of_ids.id asked at value
    else if is_free name then []
    else held_given at name ++ value_given asked at way name value

-- ---- one whose name isn't known

-- Any attribute: classes, ids, all others, and code.
unfoldable pub any_attribute : Asked → ℕ → List Given
any_attribute asked at = of_classes.any_class at ++ gives at AnyAttribute ++ of_ids.any_id asked at ++ assumes at Code
