-- The table from names to the innermost open elements.
use Rattle.std.specs.Prelude.{◌≡◌, ℕ, ◌<◌, ◌≤◌, List, length, get_or, bytes_eq}
use Rattle.std.specs.List.{position_or_len}
use Rattle.html_tokens.specs.Bytes.{lowered}
use Rattle.html_tokens.specs.Names.{is_raw}
use Rattle.html_table.specs.declared.name_places.Known.{Known}
use Rattle.html_table.specs.declared.name_places.NamePlaces.{NamePlaces}
use Rattle.html_table.specs.Elements.{kind_of}
use Rattle.html_table.specs.NameNotes.{IsNoted}

-- the number of a name, or the number of all names
abbrev pub number_in : NamePlaces → List ℕ → ℕ
number_in t q = position_or_len (λ k. bytes_eq q k.items) t.names.keys

-- the place of a name, or 0
abbrev pub place_in : NamePlaces → List ℕ → ℕ
place_in t q = get_or t.places.items (number_in t q) 0

-- the name has this number, and a place
pub record IsNumber (t : NamePlaces) (n : ℕ) (q : List ℕ) : Type 0 where
  pub is : number_in t q ≡ n
  pub within : n < length t.places.items

-- what is known of a name as it is written is so of the name in lower case
pub record IsKnown (t : NamePlaces) (q : List ℕ) (k : Known) : Type 0 where
  pub kind : k.kind ≡ kind_of (lowered q)
  pub raw : k.is_raw ≡ is_raw (lowered q)
  pub number : IsNumber t k.number (lowered q)

-- Only a name has a place, and what is known is so.
pub record Fits (t : NamePlaces) : Type 0 where
  pub few : length t.places.items ≤ length t.names.keys
  pub known : (q : List ℕ) (k : Known) → IsNoted t.known q k → IsKnown t q k
