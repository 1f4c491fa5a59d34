-- A tree with the asked atoms alone.
use Rattle.std.proofs.Common.{◌≡◌, ℕ, zero, suc, List, [], ◌∷◌, length, take, Some, None, option_map, option_and_then, IsSome, IsSomeAnd, All, Contains, refl, ap, ◌∙◌, subst}
use Rattle.std.proofs.lemmas.List.Elements.{All-contains, All-contains_itself}
use Rattle.tp_base.specs.Classes.{cut_to}
use Rattle.tp_base.proofs.ClassLemmas.{Contains-cut_to}
use Rattle.tp_base.proofs.Rising.{All-from_Contains}
use Rattle.tree_sem.specs.Trees.{Row, no_nodes, node, LabelTree, tree_of, node_at, edit_tree, edit_at}
use Rattle.tree_sem.specs.Nodes.{IsNode, HasAtom, HasAtoms}
use Rattle.tree_sem.specs.Embedding.{AreWithin, IsWithin, IsEmbedding}
use Rattle.tree_sem.proofs.EmbeddingLemmas.{image_of, embedding_of}
use Rattle.tree_sem.proofs.WithinLemmas.{within_itself, are_within_each}
use Rattle.sel_core.specs.Selectors.{Above, Matches}
use Rattle.sel_text.specs.Selectors.{Outer, Selector}
use Rattle.lower_cover.specs.Outputs.{AskOnly, AsksOnly}

module _ (asked : List ℕ) where
  abbrev pub asked_row : Row → Row
  asked_row no_nodes = no_nodes
  asked_row (node l below next) = node (cut_to asked l) (asked_row below) (asked_row next)

  abbrev pub asked_tree : LabelTree → LabelTree
  asked_tree t = record { label = cut_to asked t.label; below = asked_row t.below }

  pub tree_of-asked : (r : Row) (k : ℕ) → tree_of (asked_row r) k ≡ option_map asked_tree (tree_of r k)
  tree_of-asked no_nodes k = refl
  tree_of-asked (node l below next) zero = refl
  tree_of-asked (node l below next) (suc k) = tree_of-asked next k

  pub node_at-asked : (v : List ℕ) (t : LabelTree) → node_at v (asked_tree t) ≡ option_map asked_tree (node_at v t)
  node_at-asked [] t = refl
  node_at-asked (k ∷ v) t =
      rw (tree_of-asked t.below k)
      (elim (tree_of t.below k) as (λ o. option_and_then (node_at v) (option_map asked_tree o) ≡ option_map asked_tree (option_and_then (node_at v) o)) [
        | None ↦ refl
        | Some s ↦ node_at-asked v s
      ])

  -- a tree of the row is what is asked of one
  pub asked_at : (r : Row) (k : ℕ) (y : LabelTree) → tree_of (asked_row r) k ≡ Some y → (s : LabelTree) × (tree_of r k ≡ Some s) × (asked_tree s ≡ y)
  asked_at no_nodes k y at = cc
  asked_at (node l below next) zero y at = let first : LabelTree = record { label = l; below = below } in (first, refl, cc)
  asked_at (node l below next) (suc k) y at = asked_at next k y at

  pub IsNode-asked : (v : List ℕ) (t : LabelTree) → IsNode t v → IsNode (asked_tree t) v
  IsNode-asked v t is =
      rw (node_at-asked v t) (elim (node_at v t) as (λ o. IsSome o → IsSome (option_map asked_tree o)) [ None ↦ λ h. cc | Some s ↦ λ h. refl ] is)

  -- what is covered is within
  pub covered_within : (l m : List ℕ) → ((a : ℕ) → Contains asked a → Contains l a → Contains m a) → All (Contains m) (cut_to asked l)
  covered_within l m covers = All-from_Contains (Contains m) (cut_to asked l) (λ a is. let both = (Contains-cut_to asked l a).0 is in covers a both.0 both.1)

  pub labels_within : (l m : List ℕ) → All (Contains m) l → All (Contains (cut_to asked m)) (cut_to asked l)
  labels_within l m all = covered_within l (cut_to asked m) (λ a is has. (Contains-cut_to asked m a).1 (is, All-contains (Contains m) l a all has))

  asked_rows : (r us : Row) → AreWithin r us → AreWithin (asked_row r) (asked_row us)
  asked_rows no_nodes us within = tt
  asked_rows (node l below next) us within =
      let first = within.0 in (
        (first.0, asked_tree first.1, tree_of-asked us first.0 ∙ ap (option_map asked_tree) first.2, labels_within l first.1.label first.3, asked_rows below first.1.below first.4),
        asked_rows next us within.1,
      )

  -- what is within a tree is so still
  pub asked_within : (t u : LabelTree) → IsWithin t u → IsWithin (asked_tree t) (asked_tree u)
  asked_within t u within = (labels_within t.label u.label within.0, asked_rows t.below u.below within.1)

  -- and it is within the tree as a whole
  less_row : (r us : Row) → AreWithin r us → AreWithin (asked_row r) us
  less_row no_nodes us within = tt
  less_row (node l below next) us within =
      let first = within.0 in (
        (first.0, first.1, first.2, covered_within l first.1.label (λ a is has. All-contains (Contains first.1.label) l a first.3 has), less_row below first.1.below first.4),
        less_row next us within.1,
      )

  pub asked_less : (t : LabelTree) → IsWithin (asked_tree t) t
  asked_less t = (covered_within t.label t.label (λ a is has. has), less_row t.below t.below (within_itself t).1)

  -- a match asks for asked atoms only
  HasAtoms-asked : (t : LabelTree) (v wanted : List ℕ) → All (Contains asked) wanted → HasAtoms t v wanted → HasAtoms (asked_tree t) v wanted
  HasAtoms-asked t v wanted only fits =
      rw (node_at-asked v t)
      (elim (node_at v t) as (λ o. IsSomeAnd (option_map (λ (n : LabelTree). n.label) o) (λ l. All (Contains l) wanted)
      → IsSomeAnd (option_map (λ (n : LabelTree). n.label) (option_map asked_tree o)) (λ l. All (Contains l) wanted)) [
        | None ↦ λ h. absurd h
        | Some s ↦ λ h. All-from_Contains (Contains (cut_to asked s.label)) wanted (λ a is. (Contains-cut_to asked s.label a).1 (All-contains (Contains asked) wanted a only is, All-contains (Contains s.label) wanted a h is))
      ] fits)

  Above-asked : (t : LabelTree) (v : List ℕ) (n : ℕ) (outer : List Outer) → AskOnly asked outer → Above t v n outer → Above (asked_tree t) v n outer
  Above-asked t v n [] only above = tt
  Above-asked t v n (o ∷ outer) only above =
      (above.0, above.1, HasAtoms-asked t (take above.0 v) o.atoms only.0 above.2, Above-asked t v above.0 outer only.1 above.3)

  pub Matches-asked : (t : LabelTree) (v : List ℕ) (s : Selector) → AsksOnly asked s → Matches t v s → Matches (asked_tree t) v s
  Matches-asked t v s only is = (HasAtoms-asked t v s.subject only.0 is.0, Above-asked t v (length v) s.outer only.1 is.1)

  HasAtom-asked : (t : LabelTree) (v : List ℕ) (a : ℕ) → Contains asked a → HasAtom t v a → HasAtom (asked_tree t) v a
  HasAtom-asked t v a is has =
      rw (node_at-asked v t)
      (elim (node_at v t) as (λ o. IsSomeAnd (option_map (λ (n : LabelTree). n.label) o) (λ l. Contains l a)
      → IsSomeAnd (option_map (λ (n : LabelTree). n.label) (option_map asked_tree o)) (λ l. Contains l a)) [
        | None ↦ λ h. absurd h
        | Some s ↦ λ h. (Contains-cut_to asked s.label a).1 (is, h)
      ] has)

  -- the embedding of all of the tree, up to asked atoms
  pub embedding_asked : (t u : LabelTree) (within : IsWithin (asked_tree t) u) → IsEmbedding (Contains asked) t u (λ v. image_of v (asked_tree t) u within)
  embedding_asked t u within =
      let whole = embedding_of (Contains asked) (asked_tree t) u within in
      record {
        root = whole.root;
        child = λ v k is. whole.child v k (IsNode-asked _ t is);
        node = λ v is. whole.node v (IsNode-asked v t is);
        atoms = λ v a is has. whole.atoms v a is (HasAtom-asked t v a is has);
      }

  edited_row : (h g : LabelTree → LabelTree) → ((s : LabelTree) → IsWithin (asked_tree (h s)) (g (asked_tree s))) → (r : Row) (k m : ℕ) (y : LabelTree)
      → tree_of (asked_row (edit_tree h r k)) m ≡ Some y → (u : LabelTree) × (tree_of (edit_tree g (asked_row r) k) m ≡ Some u) × IsWithin y u
  edited_row h g each no_nodes k m y at = cc
  edited_row h g each (node l below next) zero zero y at =
      let first : LabelTree = record { label = l; below = below } in
      let same : asked_tree (h first) ≡ y = cc in
      (g (asked_tree first), refl, subst (λ (z : LabelTree). IsWithin z (g (asked_tree first))) same (each first))
  edited_row h g each (node l below next) zero (suc m) y at = (y, at, within_itself y)
  edited_row h g each (node l below next) (suc k) zero y at = (y, at, within_itself y)
  edited_row h g each (node l below next) (suc k) (suc m) y at = edited_row h g each next k m y at

  -- an edit of the tree, and one of what is asked of it
  pub edit_asked : (f g : LabelTree → LabelTree) → ((s : LabelTree) → IsWithin (asked_tree (f s)) (g (asked_tree s))) → (v : List ℕ) (t : LabelTree) → IsWithin (asked_tree (edit_at v f t)) (edit_at v g (asked_tree t))
  edit_asked f g each [] t = each t
  edit_asked f g each (k ∷ v) t = (
    All-contains_itself (cut_to asked t.label),
    are_within_each (asked_row (edit_tree (edit_at v f) t.below k)) (edit_tree (edit_at v g) (asked_row t.below) k)
        (λ m y at. let found = edited_row (edit_at v f) (edit_at v g) (edit_asked f g each v) t.below k m y at in (m, found.0, found.1, found.2)),
  )
