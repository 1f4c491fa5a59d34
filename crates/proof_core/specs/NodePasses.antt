-- The items of a page that were passed, in their order.
--     all_seen here          each item with the way from its node to the node where the walk for a match ends
--     seen_at here n v       the items at the node with number n and path v, as the unfolding sees them
use Rattle.std.specs.Prelude.{ℕ, suc, ◌==◌, ◌&&◌, List, [], ◌∷◌, ◌++◌, map, filter, reverse, Option, Some, None, option_map, option_and_then, unwrap_or, slice_get}
use Rattle.proof_core.specs.declared.node_passes.NodePass.{NodePass}
use Rattle.proof_core.specs.KeyedLists.{first_place}
use Rattle.proof_check.specs.Unfolding.{Passed}

pub record Seen : Type 0 where
  pub node : ℕ
  pub atom : ℕ
  pub child : Option ℕ
  pub way : List ℕ

-- the way from the item with this index, if there is one
abbrev pub way_on : List Seen → Option ℕ → List ℕ
way_on before on = unwrap_or (option_map (λ (s : Seen). s.way) (option_and_then (slice_get before) on)) []

-- the way of an item: its own way, and then the way from an item before it
abbrev pub seen_one : List Seen → NodePass → Seen
seen_one before p = record { node = p.node; atom = p.pass.atom; child = p.pass.child; way = reverse p.pass.way.items ++ way_on before p.on }

abbrev pub seen_from : List Seen → List NodePass → List Seen
seen_from before [] = before
seen_from before (p ∷ here) = seen_from (before ++ seen_one before p ∷ []) here

abbrev pub all_seen : List NodePass → List Seen
all_seen here = seen_from [] here

abbrev pub passed_to : List ℕ → Seen → Passed
passed_to v s = record { atom = s.atom; child = s.child; end = v ++ s.way }

abbrev pub seen_at : List NodePass → ℕ → List ℕ → List Passed
seen_at here n v = map (passed_to v) (filter (λ (s : Seen). s.node == n) (all_seen here))

-- the index of the first item with the atom at the node
abbrev pub first_at : List NodePass → ℕ → ℕ → Option ℕ
first_at here n a = first_place (λ (p : NodePass). p.node == n && p.pass.atom == a) here

-- an upper bound on the turns of a walk from an item
abbrev pub turns : Option ℕ → ℕ
turns None = 0
turns (Some n) = suc n
