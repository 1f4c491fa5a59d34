-- The check of each node's lead, which represents it.
--     IsPlaced    it stands early enough, for itself, and below the lead of the parent
--     AreAlike    two nodes have one label
--     AreMatched  each lead below the node's lead stands for a child of the node, too
--     IsLed       all of it
use Rattle.std.specs.Prelude.{◌≡◌, ℕ, ◌<◌, ◌≤◌, List, [], length, get_or}
use Rattle.node_marks.specs.Numbering.{parent_number}
use Rattle.folded_page.specs.Leads.{lead_of, HasChildLed}

-- the lead of a node that isn't the root
pub record IsBelow (parents leads : List ℕ) (i lead : ℕ) : Type 0 where
  pub proper : 0 < lead
  pub above : parent_number parents lead ≡ lead_of leads (parent_number parents i)

pub record IsPlaced (parents leads : List ℕ) (i : ℕ) : Type 0 where
  pub early : lead_of leads i ≤ i
  pub itself : lead_of leads (lead_of leads i) ≡ lead_of leads i
  pub below : 0 < i → IsBelow parents leads i (lead_of leads i)

abbrev pub AreAlike : List (List ℕ) → ℕ → ℕ → Type 0
AreAlike labels i j = get_or labels i [] ≡ get_or labels j []

abbrev pub AreMatched : List ℕ → List ℕ → ℕ → ℕ → Type 0
AreMatched parents leads i lead = (c : ℕ) → 0 < c → c < length parents → lead_of leads c ≡ c → parent_number parents c ≡ lead → HasChildLed parents leads i c

-- a child of a node, and one of its lead, with the same lead
pub record IsPair (parents leads : List ℕ) (i own other : ℕ) : Type 0 where
  pub some : 0 < own
  pub within : own < length parents
  pub there : other < length parents
  pub below : parent_number parents own ≡ i
  pub beside : parent_number parents other ≡ lead_of leads i
  pub led : lead_of leads own ≡ lead_of leads other

pub record IsLed (parents : List ℕ) (labels : List (List ℕ)) (leads : List ℕ) (i : ℕ) : Type 0 where
  pub placed : IsPlaced parents leads i
  pub label : AreAlike labels (lead_of leads i) i
  pub matched : AreMatched parents leads i (lead_of leads i)
