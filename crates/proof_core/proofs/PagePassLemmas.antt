-- The items of a page that were passed, by the numbers of their nodes.
use Rattle.std.proofs.Common.{◌≡◌, ◌≤◌, ℕ, suc, drop, slice_get, true, false, if◌then◌else◌, List, [], ◌∷◌, ◌++◌, length, ◌==◌, Option, Some, None, option_map, option_and_then, unwrap_or, refl, sym, ap, ◌∙◌, arith}
use Rattle.std.proofs.lemmas.Bool.Decides.{Decides-eqb}
use Rattle.std.proofs.lemmas.List.{append-nil}
use Rattle.std.proofs.lemmas.Slice.Eq.{bytes_eq-Decides}
use Rattle.std.specs.Str.{bytes_eq}
use Rattle.tp_base.proofs.Lists.{drop_at}
use Rattle.tp_base.proofs.Truths.{other_number}
use Rattle.proof_check.specs.NodePaths.{NodePaths}
use Rattle.proof_core.specs.declared.page_passes.PageNode.{PageNode}
use Rattle.proof_core.specs.declared.node_passes.NodePass.{NodePass}
use Rattle.proof_check.specs.declared.proofs.Below.TheVariants.{Grown}
use Rattle.proof_check.specs.declared.proofs.Reason.TheVariants.{Down}
use Rattle.proof_check.specs.declared.proofs.ProofItem.{ProofItem}
use Rattle.simple_core.specs.declared.rules.Kind.{Kind}
use Rattle.proof_check.specs.declared.proofs.Entry.{Entry}
use Rattle.proof_check.specs.declared.proofs.PageItem.{PageItem}
use Rattle.proof_check.specs.Nodes.{number_in}
use Rattle.proof_core.specs.NodePasses.{way_on, seen_one, all_seen, passed_to, seen_at, first_at}
use Rattle.proof_core.specs.PagePasses.{seen_in, item_seen, unfold_at}
use Rattle.proof_core.specs.Trails.{number_for, with_forest_of}
use Rattle.proof_check.specs.Unfolding.{Progress, Passed, child_for, end_for, from_of, spawned, needed_by, down_item, unfold_page, unfold_entry, entry_count}
use Rattle.tree_sem.proofs.CountLemmas.{length-node_at, length_of-nodes_of}
use Rattle.tree_sem.specs.declared.tree_fault.TheConstants.{MOST_NODES}
use Rattle.tree_sem.specs.Trees.{node, LabelTree, length_of, count_of, node_at, children_at}
use Rattle.tree_sem.specs.TreeNodes.{TreeNode, node_of}
use Rattle.simple_core.specs.declared.system.System.{System}
use Rattle.proof_check.proofs.CountLemmas.{page_steps, entry_steps}
use Rattle.proof_check.proofs.NodeLemmas.{same_node}
use Rattle.proof_core.proofs.NodePassLemmas.{seen_at-push, end_at}
use Rattle.proof_core.proofs.WalkLemmas.{grown_is}

pub seen_at_number : (nodes : NodePaths) (here : List NodePass) (v : List ℕ) (n : ℕ) → number_in nodes v ≡ Some n → seen_in nodes here v ≡ seen_at here n v
seen_at_number nodes here v n at = ap (λ o. unwrap_or (option_map (λ m. seen_at here m v) o) []) at

-- an item more at the node v, whose number it has
pub seen_pushed : (nodes : NodePaths) (here : List NodePass) (p : NodePass) (v : List ℕ) (n : ℕ) → number_in nodes v ≡ Some n → p.node ≡ n
    → (q : List ℕ) → seen_in nodes (here ++ p ∷ []) q ≡ (if bytes_eq v q then seen_in nodes here q ++ passed_to v (seen_one (all_seen here) p) ∷ [] else seen_in nodes here q)
seen_pushed nodes here p v n at number q =
    let x = seen_one (all_seen here) p in
    elim (number_in nodes q) as (λ o. number_in nodes q ≡ o
    → unwrap_or (option_map (λ m. seen_at (here ++ p ∷ []) m q) o) []
    ≡ (if bytes_eq v q then unwrap_or (option_map (λ m. seen_at here m q) o) [] ++ passed_to v x ∷ [] else unwrap_or (option_map (λ m. seen_at here m q) o) [])) [
      | None ↦ λ none. elim (bytes_eq v q) as (λ b. bytes_eq v q ≡ b → [] ≡ (if b then [] ++ passed_to v x ∷ [] else [])) [
        | false ↦ λ e. refl
        | true ↦ λ e. let both : None ≡ Some n = sym none ∙ ap (number_in nodes) (sym ((bytes_eq-Decides v q).0 e)) ∙ at in cc
      ] refl
      | Some m ↦ λ some. elim (bytes_eq v q) as (λ b. bytes_eq v q ≡ b → seen_at (here ++ p ∷ []) m q ≡ (if b then seen_at here m q ++ passed_to v x ∷ [] else seen_at here m q)) [
        | true ↦ λ e.
            let is : v ≡ q = (bytes_eq-Decides v q).0 e in
            let both : Some n ≡ Some m = sym at ∙ ap (number_in nodes) is ∙ some in
            let same : n ≡ m = cc in
            let this : (p.node == m) ≡ true = (Decides-eqb p.node m).1 (number ∙ same) in
            seen_at-push here p m q ∙ ap (λ b. seen_at here m q ++ (if b then passed_to q x ∷ [] else [])) this ∙ ap (λ w. seen_at here m q ++ passed_to w x ∷ []) (sym is)
        | false ↦ λ e.
            let other : (p.node == m) ≡ false = other_number p.node m (λ s. let one = same_node nodes v q m (at ∙ ap Some (sym number ∙ s)) some in let never : true ≡ false = sym ((bytes_eq-Decides v q).1 one) ∙ e in cc) in
            seen_at-push here p m q ∙ ap (λ b. seen_at here m q ++ (if b then passed_to q x ∷ [] else [])) other ∙ append-nil (seen_at here m q)
      ] refl
    ] refl

pub seen_none : (nodes : NodePaths) (q : List ℕ) → [] ≡ seen_in nodes [] q
seen_none nodes q = elim (number_in nodes q) as (λ o. [] ≡ unwrap_or (option_map (λ m. seen_at [] m q) o) []) [ None ↦ refl | Some m ↦ refl ]

-- where the walk goes from the first item with an atom
pub end_in : (nodes : NodePaths) (here : List NodePass) (v : List ℕ) (a : ℕ) → end_for a (seen_in nodes here v) v ≡ v ++ way_on (all_seen here) (option_and_then (λ n. first_at here n a) (number_in nodes v))
end_in nodes here v a =
    elim (number_in nodes v) as (λ o. end_for a (unwrap_or (option_map (λ m. seen_at here m v) o) []) v ≡ v ++ way_on (all_seen here) (option_and_then (λ n. first_at here n a) o)) [
      | None ↦ sym (append-nil v)
      | Some n ↦ end_at here n a v
    ]

module _ (s : System) (es : List Entry) (page : LabelTree) where
  abbrev rest : List PageItem → (List ℕ → List Passed) → Progress → Progress × (List ℕ → List Passed)
  rest items passed done = unfold_page s (unfold_entry s es (length es)) page items passed done

  -- one item of the page more
  pub page_one : (items : List PageItem) (i : ℕ) (x : PageItem) (old new : List ℕ → List Passed) (before after : Progress) → slice_get items i ≡ Some x
      → after ≡ (item_seen s es page x old before).0 → ((q : List ℕ) → new q ≡ (if bytes_eq x.at q then old q ++ (item_seen s es page x old before).1 ∷ [] else old q))
      → rest (drop i items) old before ≡ rest (drop (suc i) items) new after
  page_one items i x old new before after at first second =
      ap (λ xs. rest xs old before) (drop_at items i x at) ∙ (λ j. rest (drop (suc i) items) (λ q. sym (second q) j) (sym first j))

  -- the steps of the next item are among those of the whole
  pub page_short : (items : List PageItem) (i : ℕ) (x : PageItem) (passed : List ℕ → List Passed) (done : Progress) (n : ℕ) → slice_get items i ≡ Some x
      → length (rest (drop i items) passed done).0.steps ≤ n → length (item_seen s es page x passed done).0.steps ≤ n
  page_short items i x passed done n at short =
      let r = item_seen s es page x passed done in
      let passed' : List ℕ → List Passed = λ q. if bytes_eq x.at q then passed q ++ r.1 ∷ [] else passed q in
      let u = unfold_entry s es (length es) in
      let same : length (rest (drop i items) passed done).0.steps ≡ length (rest (drop (suc i) items) passed' r.0).0.steps = ap (λ xs. length (rest xs passed done).0.steps) (drop_at items i x at) in
      omega (arith, short, same, page_steps s u (entry_count s es (length es)) (entry_steps s es (length es)) page (drop (suc i) items) passed' r.0)

pub few_children : (page : LabelTree) (v : List ℕ) → count_of page ≤ MOST_NODES → unwrap_or (children_at v page) 0 ≤ MOST_NODES
few_children page v few =
    elim (node_at v page) as (λ o. node_at v page ≡ o → unwrap_or (option_map (λ (n : LabelTree). length_of n.below) o) 0 ≤ MOST_NODES) [
      | None ↦ λ e. omega arith
      | Some n ↦ λ e. omega (arith, few, length-node_at v page n e, length_of-nodes_of n.below)
    ] refl

-- as many as the node tells that was looked up, and none where there is no node
pub base_told : (page : LabelTree) (v : List ℕ) (n : TreeNode) (k : ℕ) → Some n ≡ node_of page v → Some k ≡ children_at n.path n.tree → k ≡ unwrap_or (children_at v page) 0
base_told page v n k found told =
    let seen : TreeNode = record { tree = page; path = v } in
    let is : n ≡ seen = node_seen (node_at v page) found in
    let same : Some k ≡ children_at v page = told ∙ ap (λ (z : TreeNode). children_at z.path z.tree) is in
    ap (λ o. unwrap_or o 0) same
  where
    node_seen : (o : Option LabelTree) → Some n ≡ option_map (λ (s : LabelTree). let m : TreeNode = record { tree = page; path = v } in m) o → n ≡ record { tree = page; path = v }
    node_seen None is = cc
    node_seen (Some s) is = cc

pub base_none : (page : LabelTree) (v : List ℕ) → None ≡ node_of page v → 0 ≡ unwrap_or (children_at v page) 0
base_none page v none =
    elim (node_at v page) as (λ o. None ≡ option_map (λ (s : LabelTree). let m : TreeNode = record { tree = page; path = v } in m) o → 0 ≡ unwrap_or (option_map (λ (n : LabelTree). length_of n.below) o) 0) [
      | None ↦ λ e. refl
      | Some n ↦ λ e. cc
    ] none

-- an item whose child is grown, at a node of the page
pub page_grown : (s : System) (es : List Entry) (x : ProofItem) (l c e child number : ℕ) (kind : Kind) (spot : PageNode) (before after : Progress) → x.reason ≡ Down l (Grown c e) → spawned s c ≡ Some kind
    → child ≡ child_for (needed_by s c) (seen_at spot.here.now spot.number spot.at.now) → number ≡ number_for kind spot.base spot.at.now before → after ≡ with_forest_of kind spot.at.now child before
    → unfold_at s es x spot before ≡ down_item s x (from_of (slice_get s.down l)) number (spot.at.now ++ number ∷ []) (unfold_entry s es (length es) e (spot.at.now ++ number ∷ []) after)
page_grown s es x l c e child number kind spot before after reason is_kind is_child is_number is_after =
    grown_is s es (unfold_entry s es (length es)) x l c e child number spot.base kind spot.at.now (seen_at spot.here.now spot.number spot.at.now) (λ k. seen_in spot.nodes.now spot.here.now (spot.at.now ++ k ∷ [])) before after reason is_kind is_child is_number is_after
