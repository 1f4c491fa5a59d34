-- The number of children that the nodes of each kind have from their forests.
--     HasFewSiblings kinds       the condition on siblings, which the kinds of each sound system meet
use Rattle.std.specs.Prelude.{◌≡◌, ◌<◌, ◌≤◌, ℕ, ◌==◌, Bool, false, if◌then◌else◌, List, All, find, Option, Some, None, option_map, unwrap_or}
use Rattle.indexmap.specs.IndexMap.{get_by}
use Rattle.simple_core.specs.declared.rules.Kind.{Kind}
use Rattle.simple_core.specs.declared.system.TheConstants.{MOST_KINDS}
use Rattle.proof_core.specs.declared.worlds.ChildCounts.{ChildCounts}

abbrev pub known_in : ChildCounts → ℕ → Option ℕ
known_in counts j = get_by (λ k. j == k) counts.children

abbrev pub is_under : ℕ → Kind → Bool
is_under j kind = unwrap_or (option_map (λ i. i == j) kind.above) false

abbrev pub siblings_below : ℕ → Kind → Option ℕ
siblings_below j kind = if is_under j kind then Some kind.siblings else None

abbrev pub KnowsCounts : ChildCounts → List Kind → Type 0
KnowsCounts counts kinds = (j : ℕ) → known_in counts j ≡ option_map (λ (k : Kind). k.siblings) (find (is_under j) kinds)

abbrev pub HasFewSiblings : List Kind → Type 0
HasFewSiblings kinds = All (λ (k : Kind). (k.number < k.siblings) × (k.siblings ≤ MOST_KINDS)) kinds
