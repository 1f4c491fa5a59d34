-- The children of each node, by the number of the first one and of the next one below the same parent. What is not greater than
-- the node's own number is no such node.
--     AreFirst parents first k   of the nodes from k on none stands before the first child of its parent
--     AreNext parents next k     none stands between one of them and the next one
--     AreLinks                   both, of all nodes but the root
use Rattle.std.specs.Prelude.{◌≡◌, ℕ, ◌<◌, ◌≤◌, List, length, get_or}
use Rattle.node_marks.specs.Numbering.{parent_number}

-- the first child of p stands behind it and from k on, but not behind d
pub record IsFirst (first : List ℕ) (k p d : ℕ) : Type 0 where
  pub behind : p < get_or first p 0
  pub low : k ≤ get_or first p 0
  pub high : get_or first p 0 ≤ d

-- the next one stands behind c, but not behind d
pub record IsNext (next : List ℕ) (c d : ℕ) : Type 0 where
  pub behind : c < get_or next c 0
  pub high : get_or next c 0 ≤ d

abbrev pub AreFirst : List ℕ → List ℕ → ℕ → Type 0
AreFirst parents first k = (d : ℕ) → k ≤ d → d < length parents → IsFirst first k (parent_number parents d) d

abbrev pub AreNext : List ℕ → List ℕ → ℕ → Type 0
AreNext parents next k = (c d : ℕ) → k ≤ c → c < d → d < length parents → parent_number parents d ≡ parent_number parents c → IsNext next c d

pub record AreLinks (parents first next : List ℕ) : Type 0 where
  pub begun : AreFirst parents first 1
  pub behind : AreNext parents next 1
