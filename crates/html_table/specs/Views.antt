-- What the code keeps of open elements is to the definitions.
use Rattle.std.specs.Prelude.{ℕ, List, [], ◌∷◌, length, codes}
use Rattle.html_table.specs.declared.elements.Element as code_element
use Rattle.html_table.specs.declared.open_elements.Implied.{Implied}
use Rattle.html_table.specs.declared.open_elements.Implied.TheVariants as implied
use Rattle.html_table.specs.declared.open_elements.Place as code_place
use Rattle.html_tokens.specs.Bytes.{lowered}
use Rattle.html_table.specs.Elements.{Element}
use Rattle.html_table.specs.TreeTable.{Place}

abbrev pub element_of : code_element.Element → Element
element_of e = record { kind = e.kind; name = lowered e.name.now }

abbrev pub implied_names : Implied → List (List ℕ)
implied_names implied.Nothing = []
implied_names implied.Columns = codes "colgroup" ∷ []
implied_names implied.RowGroup = codes "tbody" ∷ []
implied_names implied.RowGroupAndRow = codes "tbody" ∷ codes "tr" ∷ []
implied_names implied.Row = codes "tr" ∷ []

-- where an element goes: how many elements stay open, and what is implied
abbrev pub place_of : code_place.Place → ℕ × List (List ℕ)
place_of p = (p.left, implied_names p.implied)

abbrev pub counted : Place → ℕ × List (List ℕ)
counted p = (length p.0, p.1)
