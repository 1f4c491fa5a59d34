-- The hash of a formula's key, which is its shape and the numbers of its parts.
use Rattle.std.specs.Prelude.{◌≡◌, ℕ, ◌+◌, ◌*◌, ◌%◌, ◌^◌, ◌&&◌, IsTrue, List, fold}
use Rattle.std.proofs.Common.{rules}
use Rattle.std.proofs.lemmas.Bool.{and_parts}
use Rattle.std.proofs.lemmas.Slice.Eq.{bytes_eq-Decides}
use Rattle.std.specs.Hash as fed
use Rattle.std.specs.Str.{bytes_eq}
use denote.Enum.Bare.{sameb, same_true}
use Rattle.guard_simplify.specs.contracts.keys.Shape.{the_type}
use Rattle.guard_simplify.specs.declared.keys.Key.{Key}
use Rattle.guard_simplify.specs.declared.keys.Shape.{Shape}
use Rattle.guard_simplify.specs.declared.keys.Shape.TheVariants.{Always, All, Any, Parent, Ancestor, Child, Descendant, Somewhere}

abbrev pub tag_of : Shape → ℕ
tag_of Always = 0
tag_of All = 1
tag_of Any = 2
tag_of Parent = 3
tag_of Ancestor = 4
tag_of Child = 5
tag_of Descendant = 6
tag_of Somewhere = 7

abbrev pub mixed : ℕ → List ℕ → ℕ
mixed number parts = fold (λ h p. (h * 11400714819323198485 % 2 ^ 64 + p) % 2 ^ 64) number parts

-- keys that are equal are mixed alike
pub mixed_alike : (k l : Key) → IsTrue (sameb the_type k.shape l.shape && bytes_eq k.parts.items l.parts.items)
    → fed.u64 (mixed (tag_of k.shape) k.parts.items) ≡ fed.u64 (mixed (tag_of l.shape) l.parts.items)
mixed_alike k l is =
    let parts = and_parts (sameb the_type k.shape l.shape) (bytes_eq k.parts.items l.parts.items) is in
    let shape = same_true the_type (search rules) k.shape l.shape parts.0 in
    let numbers = (bytes_eq-Decides k.parts.items l.parts.items).0 parts.1 in
    λ i. fed.u64 (mixed (tag_of (shape i)) (numbers i))
