-- Code in attributes.
--     sources_in_attribute    the source that an attribute is, if it is one
use Rattle.std.specs.Prelude.{ℕ, ◌==◌, ◌&&◌, ◌||◌, not, nat_eq, Bool, false, if◌then◌else◌, List, [], ◌∷◌, codes, Option, Some, None}
use Rattle.std.specs.Char.{is_ascii_alphabetic, to_ascii_lowercase}
use Rattle.std.specs.List.{list_any}
use Rattle.std.specs.Str.{byte}
use Rattle.code_sources.specs.declared.sources.Kind.{Kind}
use Rattle.code_sources.specs.declared.sources.Kind.TheVariants.{Value, Holed}
use Rattle.code_sources.specs.declared.sources.Source.{Source}
use Rattle.code_sources.specs.Bytes.{hole, has_hole, behind_spelled}
use Rattle.code_sources.specs.References.{read_value}
use Rattle.code_sources.specs.Tags.{Placed}

-- ---- the attributes of events

abbrev pub is_hole : ℕ → Bool
is_hole b = b == hole

abbrev pub begins_letter_or_hole : List ℕ → Bool
begins_letter_or_hole [] = false
begins_letter_or_hole (b ∷ bs) = is_hole b || is_ascii_alphabetic b

abbrev pub begins_n : List ℕ → Bool
begins_n [] = false
begins_n (b ∷ bs) = is_hole b || to_ascii_lowercase b == byte "n" && begins_letter_or_hole bs

-- `on` and a letter at the front, or what a hole may make that
unfoldable pub is_event_name : List ℕ → Bool
is_event_name [] = false
is_event_name (b ∷ bs) = is_hole b || to_ascii_lowercase b == byte "o" && begins_n bs

-- ---- the addresses that are code

-- A browser takes blanks and control bytes out of an address.
abbrev pub code_behind : List ℕ → Option (List ℕ)
code_behind text = behind_spelled (codes "javascript:") text

-- a browser takes `%41` in an address for a byte
abbrev pub has_percent : List ℕ → Bool
has_percent bs = list_any (λ b. nat_eq b 37) bs

-- ---- both

-- of code with a hole nothing more is known
abbrev pub kind_of_code : List ℕ → Kind
kind_of_code code = if has_hole code then Holed else Value

abbrev pub code_at : ℕ → List ℕ → Bool → Source
code_at place code sure = record { kind = kind_of_code code; text = code; place = place; is_sure = sure }

abbrev pub code_of_address : ℕ → Bool → Option (List ℕ) → List Source
code_of_address place sure None = []
code_of_address place sure (Some code) = code_at place code (sure && not (has_percent code)) ∷ []

-- the value of an event's attribute, or else what is behind `javascript:` at a value's front
unfoldable pub sources_in_attribute : Placed → List Source
sources_in_attribute p =
    let said = read_value p.attribute.value in
    if is_event_name p.attribute.name then code_at p.value_at said.text said.sure ∷ []
    else code_of_address p.value_at said.sure (code_behind said.text)
