-- The selector that a list of compounds, from left to right, and the joins between them stand for.
--     and_then        a selector with one more compound on its right
--     selector_from   the selector of these compounds and joins
use Rattle.std.specs.Prelude.{List, [], ◌∷◌}
use Rattle.sel_text.specs.declared.selectors.Compound.{Compound}
use Rattle.sel_text.specs.declared.selectors.Join.{Join}
use Rattle.sel_text.specs.declared.selectors.Join.TheVariants as code
use Rattle.sel_text.specs.Selectors as spec

abbrev pub join_of : Join → spec.Join
join_of code.Inside = spec.inside
join_of code.Child = spec.child

-- the selector that asks the last compound of s of a node where the join leads, and c of the node itself
abbrev pub and_then : spec.Selector → Join → Compound → spec.Selector
and_then s j c = record { subject = c.atoms; outer = record { join = join_of j; atoms = s.subject } ∷ s.outer }

-- the selector, and then the further compounds on its right, each after its join
abbrev pub with_parts : spec.Selector → List Join → List Compound → spec.Selector
with_parts s [] parts = s
with_parts s (j ∷ joins) [] = s
with_parts s (j ∷ joins) (c ∷ parts) = with_parts (and_then s j c) joins parts

abbrev pub selector_from : List Compound → List Join → spec.Selector
selector_from [] joins = spec.simple []
selector_from (c ∷ parts) joins = with_parts (spec.simple c.atoms) joins parts
