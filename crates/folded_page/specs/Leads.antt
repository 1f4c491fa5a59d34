-- Of each node of a page the one that stands for it, its lead, by their numbers in the order of the document.
--     AreLeads parents labels leads   a lead stands for itself, below the lead of its node's parent, with its node's label; and
--                                     each lead below a node's lead stands for a child of the node, too
--     own_count leads m               how many of the first m nodes are their own leads
use Rattle.std.specs.Prelude.{◌≡◌, ◌==◌, if◌then◌else◌, ℕ, zero, suc, ◌+◌, ◌<◌, ◌≤◌, List, [], length, get_or}
use Rattle.node_marks.specs.Numbering.{parent_number}

abbrev pub lead_of : List ℕ → ℕ → ℕ
lead_of leads i = get_or leads i 0

abbrev pub own_count : List ℕ → ℕ → ℕ
own_count leads zero = 0
own_count leads (suc m) = own_count leads m + (if lead_of leads m == m then 1 else 0)

-- a child of the i-th node has the lead c
pub record HasChildLed (parents leads : List ℕ) (i c : ℕ) : Type 0 where
  pub child : ℕ
  pub some : 0 < child
  pub within : child < length parents
  pub below : parent_number parents child ≡ i
  pub led : lead_of leads child ≡ c

pub record AreLeads (parents : List ℕ) (labels : List (List ℕ)) (leads : List ℕ) : Type 0 where
  pub count : length leads ≡ length parents
  pub early : (i : ℕ) → i < length parents → lead_of leads i ≤ i
  pub itself : (i : ℕ) → i < length parents → lead_of leads (lead_of leads i) ≡ lead_of leads i
  pub proper : (i : ℕ) → 0 < i → i < length parents → 0 < lead_of leads i
  pub above : (i : ℕ) → 0 < i → i < length parents → parent_number parents (lead_of leads i) ≡ lead_of leads (parent_number parents i)
  pub label : (i : ℕ) → i < length parents → get_or labels (lead_of leads i) [] ≡ get_or labels i []
  pub below : (i c : ℕ) → i < length parents → 0 < c → c < length parents → lead_of leads c ≡ c → parent_number parents c ≡ lead_of leads i → HasChildLed parents leads i c
