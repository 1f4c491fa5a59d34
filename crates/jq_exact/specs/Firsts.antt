-- Calls from each of several nodes that ask for a first node, for all these nodes at once.
--     leads_back c       what the call makes of a set is what it makes of its nodes, one by one
--     adds c             it adds the same nodes to each set
--     IsBefore           of each node the least of the numbers that `ranks` has in the set that the call makes of it
--     AreBefore          the same of each node and of no node, or `of_none` where that is less
--     AreLeastMade       of each node, and of no node, the least number in the set that the calls make of it
--     FromNodesOrNone    v is in what calls make of one of the marked nodes, or of no node
--     IsFirstMade        v is the first node of what was made of one of the marked nodes, or of no node
--     IsNoneMade         there was nothing in what was made of one of them
use Rattle.std.specs.Prelude.{◌≡◌, ◌↔◌, ◌⊎◌, ◌<◌, ◌≤◌, ◌&&◌, ◌||◌, ℕ, Bool, true, false, List, [], ◌∷◌}
use Rattle.tree_sem.specs.Trees.{LabelTree, count_of}
use Rattle.tree_sem.specs.Nodes.{IsNode}
use Rattle.node_marks.specs.Marks.{path_at, IsMarked}
use Rattle.node_marks.specs.Ranks.{IsUnder, AreRanked, IsEarly, IsReached, HasUnranked}
use Rattle.jq_stmts.specs.Statements.{find, children, parent, parents, filter, has, add}
use Rattle.jq_stmts.specs.Sharp.{ExactCall, plain, closest, siblings}
use Rattle.jq_exact.specs.Exact.{IsMadeExactly, MadeExactly}
use Rattle.jq_exact.specs.Together.{is_first, FromNodes}

abbrev pub leads_back : ExactCall → Bool
leads_back (plain (find cs)) = true
leads_back (plain (children cs)) = true
leads_back (plain (parent cs)) = true
leads_back (plain (parents cs)) = true
leads_back (plain (filter cs)) = true
leads_back (plain (has cs)) = true
leads_back (closest cs) = true
leads_back (siblings cs) = true
leads_back c = false

abbrev pub adds : ExactCall → Bool
adds (plain (add ss)) = true
adds c = false

-- what the call makes of a set is what it makes of no node, and of each node of the set
abbrev pub is_parted : ExactCall → Bool
is_parted c = leads_back c || adds c

abbrev pub are_parted : List ExactCall → Bool
are_parted [] = true
are_parted (c ∷ calls) = is_parted c && are_parted calls

-- or asks for a first node
abbrev pub parted_or_first : List ExactCall → Bool
parted_or_first [] = true
parted_or_first (c ∷ calls) = (is_parted c || is_first c) && parted_or_first calls

-- the set without nodes
abbrev pub nowhere : List ℕ → Type 0
nowhere v = ⊥

abbrev pub IsBefore : LabelTree → ExactCall → List ℕ → List ℕ → Type 0
IsBefore t c ranks made = AreRanked t made (λ k w. IsNode t w × (x : List ℕ) × IsMadeExactly t (λ z. z ≡ w) c x × IsUnder t k ranks x)

pub record AreBefore (t : LabelTree) (c : ExactCall) (ranks : List ℕ) (of_none : ℕ) (made : List ℕ) (less : ℕ) : Type 0 where
  pub nodes : AreRanked t made (λ k w. IsNode t w × (((x : List ℕ) × IsMadeExactly t (λ z. z ≡ w) c x × IsUnder t k ranks x) ⊎ (of_none < k)))
  pub none : (k : ℕ) → k ≤ count_of t → (less < k) ↔ (((x : List ℕ) × IsMadeExactly t nowhere c x × IsUnder t k ranks x) ⊎ (of_none < k))

pub record AreLeastMade (t : LabelTree) (calls : List ExactCall) (ranks : List ℕ) (of_none : ℕ) : Type 0 where
  pub nodes : AreRanked t ranks (λ k w. IsNode t w × (v : List ℕ) × MadeExactly t (λ z. z ≡ w) calls v × IsEarly t k v)
  pub none : (k : ℕ) → k ≤ count_of t → (of_none < k) ↔ ((v : List ℕ) × MadeExactly t nowhere calls v × IsEarly t k v)

abbrev pub FromNodesOrNone : LabelTree → List Bool → Bool → List ExactCall → List ℕ → Type 0
FromNodesOrNone t marks none calls v = FromNodes t marks calls (count_of t) v ⊎ ((none ≡ true) × MadeExactly t nowhere calls v)

abbrev pub IsFirstMade : LabelTree → List ℕ → ℕ → List Bool → Bool → List ℕ → Type 0
IsFirstMade t ranks of_none marks none v = IsReached t ranks (IsMarked t marks) v ⊎ ((none ≡ true) × (of_none < count_of t) × (path_at t of_none ≡ v))

abbrev pub IsNoneMade : LabelTree → List ℕ → ℕ → List Bool → Bool → Type 0
IsNoneMade t ranks of_none marks none = HasUnranked t ranks (IsMarked t marks) ⊎ ((none ≡ true) × (count_of t ≤ of_none))
