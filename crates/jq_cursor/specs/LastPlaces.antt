-- The index from each name to its last place in a list.
use Rattle.std.specs.Prelude.{ℕ, List, bytes_eq, Option, None, unwrap_or}
use Rattle.indexmap.specs.IndexMap.{get_by}
use Rattle.jq_cursor.specs.declared.last_places.LastPlaces.{LastPlaces}

-- the place that a table has for a name
abbrev pub place_in : LastPlaces → List ℕ → Option ℕ
place_in table q = unwrap_or (get_by (λ k. bytes_eq q k.now) table.table) None
