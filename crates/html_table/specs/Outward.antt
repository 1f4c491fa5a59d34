-- What is cached of the open elements, so that no tag looks through them.
use Rattle.std.specs.Prelude.{◌≡◌, ℕ, ◌+◌, ◌-◌, ◌==◌, ◌||◌, nat_lt, if◌then◌else◌, List, [], ◌∷◌, length, take, map, reverse, Option, Some, None, option_map}
use Rattle.std.specs.List.{list_any}
use Rattle.html_table.specs.declared.elements.Kind.{Kind}
use Rattle.html_table.specs.declared.elements.Kind.TheVariants as k
use Rattle.html_table.specs.declared.scopes.Scope.{Scope}
use Rattle.html_table.specs.declared.scopes.Scope.TheVariants as within
use Rattle.html_table.specs.declared.nearest.Nearest.{Nearest}
use Rattle.html_table.specs.declared.name_places.NamePlaces.{NamePlaces}
use Rattle.html_table.specs.declared.stack.Open.{Open}
use Rattle.html_table.specs.Elements.{Element}
use Rattle.html_table.specs.TreeTable.{behind, has_kind, has_name, stops, holder}
use Rattle.html_table.specs.Views.{element_of}
use Rattle.html_table.specs.NamePlaces.{place_in, IsNumber, Fits}

-- so many open elements from the innermost outward, where a list has the outermost first
abbrev pub outward : ℕ → List Element → List Element
outward n es = reverse (take n es)

-- how many stay open where the innermost element of a kind is closed with all in it
abbrev pub left_behind : Kind → Scope → List Element → Option ℕ
left_behind t scope es = option_map length (behind (has_kind t) scope es)

-- how many there are from the nearest of a name on
abbrev pub up_to_name : List ℕ → List Element → ℕ
up_to_name q [] = 0
up_to_name q (e ∷ es) = if has_name q e then length es + 1 else up_to_name q es

-- how many there are from the nearest on past which nothing is closed
abbrev pub up_to_stop : Scope → List Element → ℕ
up_to_stop scope [] = 0
up_to_stop scope (e ∷ es) = if stops scope e.kind then length es + 1 else up_to_stop scope es

-- what is remembered of open elements, from the innermost outward
unfoldable pub nearest : List Element → Nearest
nearest es = record {
  paragraph = left_behind k.Paragraph within.Walls es;
  item = left_behind k.Item within.Items es;
  term = left_behind k.Term within.Terms es;
  table = length (holder k.Caption es);
  columns = length (holder k.Column es);
  rows = length (holder k.Row es);
  cells = length (holder k.Cell es);
  cells_end = up_to_stop within.Cells es;
  «foreign» = list_any (has_kind k.Foreign) es;
}

-- how many there are from the nearest on that holds an element of the kind
abbrev pub holding : Kind → Nearest → ℕ
holding k.Column n = n.columns
holding k.Row n = n.rows
holding k.Cell n = n.cells
holding t n = n.table

-- how many stay open where the element at a place is closed, unless there is none, or the search stops further in
abbrev pub behind_place : ℕ → ℕ → Option ℕ
behind_place place stop = if place == 0 || nat_lt place stop then None else Some (place - 1)

-- the kind of the first
abbrev pub first_kind : List Element → Option Kind
first_kind [] = None
first_kind (e ∷ es) = Some e.kind

-- an open element, as the definitions see it
abbrev pub opened_element : Open → Element
opened_element o = element_of o.element

-- Each of the open elements, the outermost first, has what is remembered of it and of all outside. Outside of these are others,
-- from the innermost outward.
abbrev pub AreRemembered : List Element → List Open → Type 0
AreRemembered es [] = Unit {0}
AreRemembered es (o ∷ os) = (o.nearest ≡ nearest (opened_element o ∷ es)) × AreRemembered (opened_element o ∷ es) os

-- The name of each has a number, and each has the place of the next one outside of it that has the same name.
abbrev pub AreNamed : NamePlaces → List Element → List Open → Type 0
AreNamed t es [] = Unit {0}
AreNamed t es (o ∷ os) = IsNumber t o.name (opened_element o).name × (o.hides ≡ up_to_name (opened_element o).name es) × AreNamed t (opened_element o ∷ es) os

-- what is true of the open elements and the table of their names
pub record IsStack (t : NamePlaces) (os : List Open) : Type 0 where
  pub remembered : AreRemembered [] os
  pub named : AreNamed t [] os
  pub fits : Fits t
  pub places : (q : List ℕ) → place_in t q ≡ up_to_name q (reverse (map opened_element os))
