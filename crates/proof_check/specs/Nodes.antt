-- The nodes of items, by numbers.
--     number_in nodes v          the number of the node at v
--     page_gives nodes table v a whether a is known of the node at v
use Rattle.std.specs.Prelude.{◌≡◌, ℕ, Bool, true, false, is_some, List, [], ◌∷◌, ◌++◌, Option, Some, None, option_map, option_and_then, unwrap_or, position, slice_get, bytes_eq}
use Rattle.tree_sem.specs.Trees.{LabelTree, label_at}
use Rattle.tree_sem.specs.Paths.{parent_of}
use Rattle.proof_check.specs.declared.firsts.Firsts.{Firsts}
use Rattle.proof_check.specs.NodePaths.{NodePaths}
use Rattle.proof_check.specs.declared.proofs.PageItem.{PageItem}
use Rattle.proof_check.specs.Firsts.{first_in, KnowsOf, Near, alone}
use Rattle.proof_check.specs.Validity.{items_at}

abbrev pub number_in : NodePaths → List ℕ → Option ℕ
number_in nodes v = position (λ k. bytes_eq v k.items) nodes

abbrev pub HasAll : NodePaths → List PageItem → Type 0
HasAll nodes items = (i : ℕ) (item : PageItem) → slice_get items i ≡ Some item → is_some (number_in nodes item.at) ≡ true

abbrev pub page_gives : NodePaths → Firsts → List ℕ → ℕ → Bool
page_gives nodes known v a = is_some (option_and_then (λ n. first_in known n a) (number_in nodes v))

-- the table has for each node what the items there say
abbrev pub KnowsPage : NodePaths → Firsts → List PageItem → Type 0
KnowsPage nodes known items = (v : List ℕ) (n : ℕ) → number_in nodes v ≡ Some n → KnowsOf known n (items_at v items)

abbrev pub above_gives : NodePaths → Firsts → List ℕ → ℕ → Bool
above_gives nodes known v a = unwrap_or (option_map (λ p. page_gives nodes known p a) (parent_of v)) false

-- at the page's node v, which has the number `node`; n entries may be named
abbrev pub near_at_page : LabelTree → NodePaths → Firsts → Firsts → ℕ → List ℕ → ℕ → Near
near_at_page page nodes inside known n v node = record (alone inside known node None n) {
  label = unwrap_or (label_at v page) [];
  above = above_gives nodes known v;
  child = λ k. page_gives nodes known (v ++ k ∷ []);
}
