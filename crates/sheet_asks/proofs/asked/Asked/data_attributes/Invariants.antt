use Rattle.std.proofs.Common.{◌≡◌, ◌++◌, drop, filter, map}
use Rattle.sheet_asks.specs.Asked.{is_data_name}
use Rattle.sheet_asks.proofs.asked.Asked.data_attributes.Given as goal

abbrev pub invariant-names : goal.invariant-names
invariant-names l = map (λ n. n.now) l.names.items ++ filter is_data_name (map (λ n. n.now) (drop l.name-index l.name-items)) ≡ filter is_data_name (map (λ n. n.now) l.name-items)
