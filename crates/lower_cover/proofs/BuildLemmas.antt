-- Trees whose labels statements give, node by node: legal steps put them below a node.
use Rattle.std.proofs.Common.{◌≡◌, ◌⊎◌, ℕ, suc, List, [], ◌∷◌, ◌++◌, Option, Some, None, option_and_then, All, Contains, refl, sym, ap, ◌∙◌, subst, inl, inr}
use Rattle.std.proofs.lemmas.List.Elements.{All-nil, All-cons, All-contains}
use Rattle.tp_base.specs.Classes.{cut_to}
use Rattle.tp_base.proofs.Rising.{Contains-here, Contains-behind, All-from_Contains}
use Rattle.tree_sem.specs.Embedding.{IsWithin}
use Rattle.tree_sem.specs.Growth.{Grows}
use Rattle.tree_sem.specs.Nodes.{IsNode}
use Rattle.tree_sem.specs.Trees.{Row, no_nodes, node, LabelTree, leaf, tree_of, node_at}
use Rattle.tree_sem.proofs.GrowthLemmas.{grows_itself, grows_both, grows_at}
use Rattle.tree_sem.proofs.RowLemmas.{there, node_at-append, child_node_at}
use Rattle.tree_sem.proofs.WithinLemmas.{within_both}
use Rattle.jq_stmts.specs.Statements.{Statement}
use Rattle.lower_cover.specs.Outputs.{IsGiven, IsPut}
use Rattle.lower_cover.proofs.AskedLemmas.{asked_row}
use Rattle.lower_cover.proofs.StepLemmas.{IsReached, Grown, give, put}

module _ (stmts : List Statement) where
  -- a statement puts a node with the label's atoms, but for given ones
  abbrev pub IsMakeable : List ℕ → Type 0
  IsMakeable l = (m : List ℕ) × IsPut stmts m × ((a : ℕ) → Contains l a → Contains m a ⊎ IsGiven stmts a)

  abbrev pub AreMakeable : Row → Type 0
  AreMakeable no_nodes = Unit {0}
  AreMakeable (node l below next) = IsMakeable l × AreMakeable below × AreMakeable next

  -- where each label of the trees is so up to asked atoms, each label of what is asked of them is
  pub makeable_rows : (asked : List ℕ) (r : Row) → ((k : ℕ) (q : List ℕ) (c s : LabelTree) → tree_of r k ≡ Some c → node_at q c ≡ Some s → IsMakeable (cut_to asked s.label)) → AreMakeable (asked_row asked r)
  makeable_rows asked no_nodes each = tt
  makeable_rows asked (node l below next) each =
      let first : LabelTree = record { label = l; below = below } in (
        each 0 [] first first refl refl,
        makeable_rows asked below (λ k q c s at is. each 0 (k ∷ q) first s refl (rw at is)),
        makeable_rows asked next (λ k q c s at is. each (suc k) q c s at is),
      )

  -- the node that a row is below, as far as the row goes
  abbrev pub over : Row → LabelTree
  over r = record { label = []; below = r }

  module _ (page : LabelTree) where
    -- Where a tree has grown, what it has at w has grown, too.
    module _ (u : LabelTree) (w : List ℕ) where
      node_kept : (u' x x' : LabelTree) → Grows u u' → node_at w u ≡ Some x → node_at w u' ≡ Some x' → IsWithin x x'
      node_kept u' x x' grows at at' =
          let found = grows_at u u' grows w x at in
          let same : found.0 ≡ x' = cc in
          subst (λ (z : LabelTree). IsWithin x z) same found.2

      module _ (Q : LabelTree → Type 0) where
        -- nothing more
        stay : (x : LabelTree) → IsReached stmts page u → node_at w u ≡ Some x → Q x → Grown stmts page u w Q
        stay x reached at holds = record { tree = u; reached = reached; grows = grows_itself u; node = x; here = at; holds = holds }

        -- what follows from Q
        so : (R : LabelTree → Type 0) → ((x : LabelTree) → Q x → R x) → Grown stmts page u w Q → Grown stmts page u w R
        so R from g = record { tree = g.tree; reached = g.reached; grows = g.grows; node = g.node; here = g.here; holds = from g.node g.holds }

        -- first for Q, and then for R
        both : ((x y : LabelTree) → IsWithin x y → Q x → Q y) → (R : LabelTree → Type 0) (g : Grown stmts page u w Q) → Grown stmts page g.tree w R → Grown stmts page u w (λ x. Q x × R x)
        both keeps R g h = record {
          tree = h.tree;
          reached = h.reached;
          grows = grows_both u g.tree h.tree g.grows h.grows;
          node = h.node;
          here = h.here;
          holds = (keeps g.node h.node (kept g h) g.holds, h.holds);
        }
          where
            kept : (g : Grown stmts page u w Q) (h : Grown stmts page g.tree w R) → IsWithin g.node h.node
            kept g h =
                let found = grows_at g.tree h.tree h.grows w g.node g.here in
                let same : found.0 ≡ h.node = cc in
                subst (λ (z : LabelTree). IsWithin g.node z) same found.2

    -- what holds of a child, as what holds of its parent
    parent : (u : LabelTree) (w : List ℕ) (k : ℕ) (Q : LabelTree → Type 0) → IsNode u w → Grown stmts page u (w ++ k ∷ []) Q → Grown stmts page u w (λ x. (y : LabelTree) × (tree_of x.below k ≡ Some y) × Q y)
    parent u w k Q is g =
        let at = there (node_at w u) is in
        let found = grows_at u g.tree g.grows w at.0 at.1 in
        record {
          tree = g.tree;
          reached = g.reached;
          grows = g.grows;
          node = found.0;
          here = found.1;
          holds = (g.node, child_there g.tree found.0 g.node found.1 g.here, g.holds);
        }
      where
        one_down : (o : Option LabelTree) (c : LabelTree) → option_and_then (node_at []) o ≡ Some c → o ≡ Some c
        one_down None c e = cc
        one_down (Some y) c e = e

        child_there : (t x c : LabelTree) → node_at w t ≡ Some x → node_at (w ++ k ∷ []) t ≡ Some c → tree_of x.below k ≡ Some c
        child_there t x c at at' = one_down (tree_of x.below k) c (ap (option_and_then (node_at (k ∷ []))) (sym at) ∙ sym (node_at-append w (k ∷ []) t) ∙ at')

    -- an atom that is there or is given
    give_one : (u : LabelTree) (w : List ℕ) (x : LabelTree) (a : ℕ) → IsReached stmts page u → node_at w u ≡ Some x → Contains x.label a ⊎ IsGiven stmts a → Grown stmts page u w (λ y. Contains y.label a)
    give_one u w x a reached at (inl has) = stay u w (λ y. Contains y.label a) x reached at has
    give_one u w x a reached at (inr given) = give stmts page u w a reached (rw at refl) given

    -- some of these
    give_all : (atoms : List ℕ) (u : LabelTree) (w : List ℕ) (x : LabelTree) → IsReached stmts page u → node_at w u ≡ Some x → ((a : ℕ) → Contains atoms a → Contains x.label a ⊎ IsGiven stmts a)
        → Grown stmts page u w (λ y. All (Contains y.label) atoms)
    give_all [] u w x reached at each = stay u w (λ y. All (Contains y.label) []) x reached at (All-nil (Contains x.label))
    give_all (a ∷ atoms) u w x reached at each =
        let first = give_one u w x a reached at (each a (Contains-here a a atoms refl)) in
        so u w (λ y. Contains y.label a × All (Contains y.label) atoms) (λ y. All (Contains y.label) (a ∷ atoms)) (λ y has. All-cons (Contains y.label) a atoms has.0 has.1)
        (both u w (λ y. Contains y.label a) (λ y z within has. All-contains (Contains z.label) y.label a within.0 has) (λ y. All (Contains y.label) atoms) first
        (give_all atoms first.tree w first.node first.reached first.here (still first)))
      where
        still : (first : Grown stmts page u w (λ y. Contains y.label a)) (b : ℕ) → Contains atoms b → Contains first.node.label b ⊎ IsGiven stmts b
        still first b is = elim (each b (Contains-behind b a atoms is)) [
          | inl has ↦ inl (All-contains (Contains first.node.label) x.label b (node_kept u w first.tree x first.node first.grows at first.here).0 has)
          | inr given ↦ inr given
        ]

    abbrev Holds : List ℕ → Row → LabelTree → Type 0
    Holds l below y = All (Contains y.label) l × IsWithin (over below) y

    over_kept : (r : Row) (x y : LabelTree) → IsWithin x y → IsWithin (over r) x → IsWithin (over r) y
    over_kept r x y within holds = within_both (over r) x y holds within

    -- a node that is put below another one, with its label and what is below it
    build_node : (l : List ℕ) (below : Row) → IsMakeable l → ((u : LabelTree) (w : List ℕ) → IsReached stmts page u → IsNode u w → Grown stmts page u w (λ x. IsWithin (over below) x))
        → (u : LabelTree) (w : List ℕ) → IsReached stmts page u → IsNode u w → Grown stmts page u w (λ x. IsWithin (over (node l below no_nodes)) x)
    build_node l below (m, puts, each) inner u w reached is =
        let child = put stmts page u w m reached is puts in
        after child (grown_child child.tree child.node child.holds.0 child.reached child.here child.holds.1)
      where
        after : (g : Grown stmts page u w (λ x. (k : ℕ) × (tree_of x.below k ≡ Some (leaf m)))) → Grown stmts page g.tree w (λ x. IsWithin (over (node l below no_nodes)) x) → Grown stmts page u w (λ x. IsWithin (over (node l below no_nodes)) x)
        after g h = record { tree = h.tree; reached = h.reached; grows = grows_both u g.tree h.tree g.grows h.grows; node = h.node; here = h.here; holds = h.holds }

        as_row : (k : ℕ) (x : LabelTree) → ((y : LabelTree) × (tree_of x.below k ≡ Some y) × Holds l below y) → IsWithin (over (node l below no_nodes)) x
        as_row k x (y, at, has) = (All-nil (Contains x.label), ((k, y, at, has.0, has.1.1), tt))

        label_kept : (y z : LabelTree) → IsWithin y z → All (Contains y.label) l → All (Contains z.label) l
        label_kept y z within has = All-from_Contains (Contains z.label) l (λ a is'. All-contains (Contains z.label) y.label a within.0 (All-contains (Contains y.label) l a has is'))

        grown_child : (t x : LabelTree) (k : ℕ) → IsReached stmts page t → node_at w t ≡ Some x → tree_of x.below k ≡ Some (leaf m) → Grown stmts page t w (λ x. IsWithin (over (node l below no_nodes)) x)
        grown_child t x k reached' here at =
            let at' : node_at (w ++ k ∷ []) t ≡ Some (leaf m) = child_node_at w k t x (leaf m) here at in
            let labelled = give_all l t (w ++ k ∷ []) (leaf m) reached' at' each in
            so t w (λ x'. (y : LabelTree) × (tree_of x'.below k ≡ Some y) × Holds l below y) (λ x'. IsWithin (over (node l below no_nodes)) x') (as_row k)
            (parent t w k (Holds l below) (rw here refl)
            (both t (w ++ k ∷ []) (λ y. All (Contains y.label) l) label_kept (λ y. IsWithin (over below) y) labelled
            (inner labelled.tree (w ++ k ∷ []) labelled.reached (rw labelled.here refl))))

    -- the trees of the row are put below the node
    pub build_row : (r : Row) → AreMakeable r → (u : LabelTree) (w : List ℕ) → IsReached stmts page u → IsNode u w → Grown stmts page u w (λ x. IsWithin (over r) x)
    build_row no_nodes makeable u w reached is =
        let at = there (node_at w u) is in
        stay u w (λ x. IsWithin (over no_nodes) x) at.0 reached at.1 (All-nil (Contains at.0.label), tt)
    build_row (node l below next) makeable u w reached is =
        let others = build_row next makeable.2 u w reached is in
        so u w (λ x. IsWithin (over next) x × IsWithin (over (node l below no_nodes)) x) (λ x. IsWithin (over (node l below next)) x) (λ x has. (has.0.0, (has.1.1.0, has.0.1)))
        (both u w (λ x. IsWithin (over next) x) (over_kept next) (λ x. IsWithin (over (node l below no_nodes)) x) others
        (build_node l below makeable.0 (build_row below makeable.1) others.tree w others.reached (rw others.here refl)))
