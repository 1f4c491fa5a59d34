-- The abstraction functions of values and declarations.
use Rattle.std.specs.Prelude.{ℕ, List, [], map, Option, Some, None, option_map, Box}
use Rattle.std.specs.Global.{Global}
use Rattle.jq_parts.specs.declared.values.Value as code_value
use Rattle.jq_parts.specs.declared.values.Value.TheVariants as code
use Rattle.jq_parts.specs.declared.values.Bound as code_bound
use Rattle.jq_parts.specs.declared.values.Declaration as code_declaration
use Rattle.jq_chains.specs.SharedChains.{shared_of}
use Rattle.jq_parts.specs.Bindings.{Value, elements, everywhere, markup, placed, Declaration}

abbrev pub value_of : code_value.Value → Value
value_of (code.Elements chain) = elements (shared_of chain)
value_of code.Everywhere = everywhere
value_of (code.Markup forest) = markup forest.tops
value_of code.Placed = placed

abbrev pub bound_value : Option (Box code_bound.Bound Global) → Option Value
bound_value b = option_map (λ b. value_of b.value.value) b

abbrev pub bound_under : Option (Box code_bound.Bound Global) → List ℕ
bound_under None = []
bound_under (Some b) = b.value.under.value.items

abbrev pub declaration_of : code_declaration.Declaration → Declaration
declaration_of d = record { name = d.name.now; value = bound_value d.bound; under = bound_under d.bound }

abbrev pub declarations_of : List code_declaration.Declaration → List Declaration
declarations_of ds = map declaration_of ds
