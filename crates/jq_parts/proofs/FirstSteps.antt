-- The call for the first node.
use Rattle.std.proofs.Common.{◌≡◌, ℕ, List, [], ◌∷◌, Some, refl}
use Rattle.jq_stmts.specs.declared.sharp.SharpKind.TheVariants.{First}
use Rattle.jq_stmts.specs.Statements.{filter}
use Rattle.jq_stmts.specs.Sharp.{first}
use Rattle.jq_stmts.specs.SharpViews.{with_kind}

pub first_marked : (cs : List (List ℕ)) → cs ≡ [] ∷ [] → with_kind (filter cs) (Some First) ≡ first
first_marked cs is = rw is refl
