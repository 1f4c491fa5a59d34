-- A number for each node of a tree in the order of the document: that of a node, or none, which is one past all of them.
--     rank ranks none i     the number of the node i
--     under k ranks         marks at the nodes whose numbers are less than k
--     AreRanked t ranks S   for each k these are the nodes in S k
use Rattle.std.specs.Prelude.{◌≡◌, ◌↔◌, ℕ, ◌<◌, ◌≤◌, nat_lt, min, Bool, true, if◌then◌else◌, List, ◌++◌, length, map, get_or}
use Rattle.tree_sem.specs.Trees.{LabelTree, count_of}
use Rattle.node_marks.specs.Marks.{path_at, mark, IsMarked, IsSetOf, IsFree}
use Rattle.node_marks.specs.Numbering.{parent_number}

abbrev pub rank : List ℕ → ℕ → ℕ → ℕ
rank ranks none i = get_or ranks i none

abbrev pub under : ℕ → List ℕ → List Bool
under k ranks = map (λ r. nat_lt r k) ranks

abbrev pub IsUnder : LabelTree → ℕ → List ℕ → List ℕ → Type 0
IsUnder t k ranks v = IsMarked t (under k ranks) v

abbrev pub AreRanked : LabelTree → List ℕ → (ℕ → List ℕ → Type 0) → Type 0
AreRanked t ranks S = (k : ℕ) → k ≤ count_of t → IsSetOf t (under k ranks) (S k)

-- the first node from v upward, itself first, that is in F, is in S
abbrev pub HasNearestIn : (List ℕ → Type 0) → (List ℕ → Type 0) → List ℕ → Type 0
HasNearestIn F S v = (w : List ℕ) × (q : List ℕ) × (v ≡ w ++ q) × F w × IsFree F w q × S w

-- the nodes with numbers less than k
abbrev pub IsEarly : LabelTree → ℕ → List ℕ → Type 0
IsEarly t k v = (i : ℕ) × (i < count_of t) × (path_at t i ≡ v) × (i < k)

-- v has the number of a node in S
abbrev pub IsReached : LabelTree → List ℕ → (List ℕ → Type 0) → List ℕ → Type 0
IsReached t ranks S v = (i : ℕ) × (i < count_of t) × S (path_at t i) × (rank ranks (count_of t) i < count_of t) × (path_at t (rank ranks (count_of t) i) ≡ v)

-- the least of all numbers
abbrev pub IsLeastRank : LabelTree → List ℕ → ℕ → Type 0
IsLeastRank t ranks r = (k : ℕ) → k ≤ count_of t → (r < k) ↔ ((v : List ℕ) × IsUnder t k ranks v)

-- some node in S has no number
abbrev pub HasUnranked : LabelTree → List ℕ → (List ℕ → Type 0) → Type 0
HasUnranked t ranks S = (i : ℕ) × (i < count_of t) × S (path_at t i) × (count_of t ≤ rank ranks (count_of t) i)

-- ---- the first n numbers, as the passes make them

pub record AreOwn (made : List ℕ) (none n : ℕ) : Type 0 where
  pub count : length made ≡ n
  pub each : (i : ℕ) → i < n → rank made none i ≡ i

pub record AreChosen (marks : List Bool) (ranks made : List ℕ) (none n : ℕ) : Type 0 where
  pub count : length made ≡ n
  pub each : (i : ℕ) → i < n → rank made none i ≡ (if mark marks i then rank ranks none i else none)

-- the lesser of two, and of each and one more
pub record AreLesser (ranks others made : List ℕ) (none n : ℕ) : Type 0 where
  pub count : length made ≡ n
  pub each : (i : ℕ) → i < n → rank made none i ≡ min (rank ranks none i) (rank others none i)

pub record AreUpTo (ranks : List ℕ) (most : ℕ) (made : List ℕ) (none n : ℕ) : Type 0 where
  pub count : length made ≡ n
  pub each : (i : ℕ) → i < n → rank made none i ≡ min (rank ranks none i) most

-- of the parent
abbrev pub above : List ℕ → List ℕ → ℕ → ℕ → ℕ
above parents ranks none i = if nat_lt 0 i then rank ranks none (parent_number parents i) else none

pub record AreRanksBelow (parents ranks made : List ℕ) (none n : ℕ) : Type 0 where
  pub count : length made ≡ n
  pub each : (i : ℕ) → i < n → rank made none i ≡ above parents ranks none i

pub record AreRanksFarBelow (parents ranks made : List ℕ) (none n : ℕ) : Type 0 where
  pub count : length made ≡ n
  pub each : (i : ℕ) → i < n → rank made none i ≡ min (above parents ranks none i) (above parents made none i)

pub record AreNearest (parents ranks : List ℕ) (stops : List Bool) (made : List ℕ) (none n : ℕ) : Type 0 where
  pub count : length made ≡ n
  pub each : (i : ℕ) → i < n → rank made none i ≡ (if mark stops i then rank ranks none i else above parents made none i)

-- the marked ones of the first n nodes reach these
pub record AreReached (marks : List Bool) (ranks : List ℕ) (made : List Bool) (none n : ℕ) : Type 0 where
  pub count : length made ≡ none
  pub each : (j : ℕ) → j < none → (mark made j ≡ true) ↔ ((i : ℕ) × (i < n) × (mark marks i ≡ true) × (rank ranks none i ≡ j))
