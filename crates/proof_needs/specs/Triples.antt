-- The nodes at which a proof needs atoms.
--     Triple                      an atom of an added node, which has an entry of its own
--     Spot                        a node of the page, or the added node of a triple
use Rattle.std.specs.Prelude.{ℕ, List}

-- an added node's kind, the visible label of its parent, and an atom that it gets
pub record Triple : Type 0 where
  pub kind : ℕ
  pub parent : List ℕ
  pub atom : ℕ

pub data Spot : Type 0 where
  page_node : List ℕ → Spot
  added : Triple → Spot
