-- The triples that items name, from the drafts of their wants.
--     named_at drafts i            the triple that the want i names, if it names one
--     named_all drafts wants       the triples that a list of wants names, in their order
--     names_in drafts orders n     the triples that the items of the triple n name
use Rattle.std.specs.Prelude.{ℕ, List, [], option_map, option_and_then, unwrap_or, slice_get}
use Rattle.std.specs.List.{flat_map}
use Rattle.std.specs.Option.{option_to_list}
use Rattle.proof_needs.specs.declared.needs.Draft.{Draft}
use Rattle.proof_needs.specs.declared.orders.Order.{Order}

abbrev pub named_at : List Draft → ℕ → List ℕ
named_at drafts i = option_to_list (option_and_then (λ (d : Draft). d.triple) (slice_get drafts i))

abbrev pub named_all : List Draft → List ℕ → List ℕ
named_all drafts wants = flat_map (named_at drafts) wants

abbrev pub wants_of : List Order → ℕ → List ℕ
wants_of orders n = unwrap_or (option_map (λ (o : Order). o.wants.items) (slice_get orders n)) []

abbrev pub names_in : List Draft → List Order → ℕ → List ℕ
names_in drafts orders n = named_all drafts (wants_of orders n)
