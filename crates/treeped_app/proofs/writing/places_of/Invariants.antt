use Rattle.std.proofs.Common.{◌≡◌, map, take}
use Rattle.jq_stmts.specs.Views.{statements_of}
use Rattle.treeped_app.proofs.writing.places_of.Given as goal

abbrev pub invariant-statements : goal.invariant-statements
invariant-statements l = l.places.items ≡ map (λ s. s.place) (statements_of (take l.stmt-index l.stmts))
