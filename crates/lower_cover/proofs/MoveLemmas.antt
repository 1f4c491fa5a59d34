-- What stands below the root's children of an edited page is made of what statements put and give, up to asked atoms.
use Rattle.std.proofs.Common.{◌≡◌, ℕ, List, [], ◌∷◌, Some, option_map, All, Contains, refl, sym, ap, subst, inl, inr, arith}
use Rattle.std.proofs.lemmas.List.Elements.{All-contains}
use Rattle.tp_base.specs.Classes.{with_class, cut_to}
use Rattle.tp_base.proofs.ClassLemmas.{Contains-with_class, Contains-cut_to}
use Rattle.tree_sem.specs.Cuts.{take_class, cut_at}
use Rattle.tree_sem.specs.Trees.{no_nodes, node, LabelTree, leaf, node_at, edit_at, add_class}
use Rattle.tree_sem.proofs.LossLemmas.{taken_within, cut_within}
use Rattle.jq_stmts.specs.Statements.{Statement}
use Rattle.lower_cover.specs.Edits.{insert_child, Edit, gets_other, gets_given, gets_child, gets_copy, loses_atom, goes, Edits, begin, more}
use Rattle.lower_cover.specs.Outputs.{IsGiven, IsAllowed, HoldMoves}
use Rattle.lower_cover.proofs.AskedLemmas.{asked_row}
use Rattle.lower_cover.proofs.BuildLemmas.{IsMakeable, AreMakeable, makeable_rows}
use Rattle.lower_cover.proofs.DepthLemmas.{AtDepth, depth_edit, depth_class, depth_insert, depth_subtree, depth_within}

module _ (asked : List ℕ) (stmts : List Statement) where
  made_makeable : (l : List ℕ) → IsAllowed asked stmts l → IsMakeable stmts (cut_to asked l)
  made_makeable l made = (made.0, made.1, λ a has. let both = (Contains-cut_to asked l a).0 has in made.2 a both.0 both.1)

  pub leaf_makeable : (l : List ℕ) → IsAllowed asked stmts l → AreMakeable stmts (node (cut_to asked l) no_nodes no_nodes)
  leaf_makeable l made = (made_makeable l made, tt, tt)

  module _ (page : LabelTree) (hold : HoldMoves asked stmts page) where
    abbrev AllAllowed : ℕ → LabelTree → Type 0
    AllAllowed d t = AtDepth (IsAllowed asked stmts) d t

    made_more : (a : ℕ) → (Contains asked a → IsGiven stmts a) → (l : List ℕ) → IsAllowed asked stmts l → IsAllowed asked stmts (with_class a l)
    made_more a given l made = (
      made.0,
      made.1,
      λ b is has. elim ((Contains-with_class a l b).0 has) [
        | inl new ↦ inr (subst (IsGiven stmts) (sym new) (given (subst (Contains asked) new is)))
        | inr old ↦ made.2 b is old
      ],
    )

    made_less : (l m : List ℕ) → All (Contains m) l → IsAllowed asked stmts m → IsAllowed asked stmts l
    made_less l m within made = (made.0, made.1, λ a is has. made.2 a is (All-contains (Contains m) l a within has))

    leaf_made : (l : List ℕ) → IsAllowed asked stmts l → AllAllowed 0 (leaf l)
    leaf_made l made [] x le at =
        let same : leaf l ≡ x = cc in
        subst (λ (z : LabelTree). IsAllowed asked stmts z.label) same made
    leaf_made l made (k ∷ q) x le at = cc

    page_made : AllAllowed 2 page
    page_made v s le at = hold v s.label le (ap (option_map (λ (n : LabelTree). n.label)) at)

    made_edit : (t u : LabelTree) → Edit asked stmts page t u → AllAllowed 2 t → AllAllowed 2 u
    made_edit _ _ (gets_other t v a is not) deep =
        depth_edit (IsAllowed asked stmts) (add_class a) (depth_class (IsAllowed asked stmts) a (made_more a (λ is'. absurd (not is')))) v 2 t deep
    made_edit _ _ (gets_given t v a is given) deep = depth_edit (IsAllowed asked stmts) (add_class a) (depth_class (IsAllowed asked stmts) a (made_more a (λ is'. given))) v 2 t deep
    made_edit _ _ (gets_child t v k l is made) deep = depth_edit (IsAllowed asked stmts) (insert_child k (leaf l)) (depth_insert (IsAllowed asked stmts) k (leaf l) (leaf_made l made)) v 2 t deep
    made_edit _ _ (gets_copy t v w k s is at deeper hold') deep =
        depth_edit (IsAllowed asked stmts) (insert_child k s) (depth_insert (IsAllowed asked stmts) k s (depth_subtree (IsAllowed asked stmts) 2 w t s deeper at deep)) v 2 t deep
    made_edit _ _ (loses_atom t v a is) deep = depth_within (IsAllowed asked stmts) made_less 2 t (edit_at v (take_class a) t) (taken_within v a t is) deep
    made_edit _ _ (goes t v is below) deep = depth_within (IsAllowed asked stmts) made_less 2 t (cut_at v t) (cut_within v t is) deep

    pub all_made : (t : LabelTree) → Edits asked stmts page t → AllAllowed 2 t
    all_made _ begin = page_made
    all_made _ (more t u edits edit) = made_edit t u edit (all_made t edits)

    -- a subtree
    pub tree_makeable : (s : LabelTree) → AllAllowed 0 s → AreMakeable stmts (node (cut_to asked s.label) (asked_row asked s.below) no_nodes)
    tree_makeable s deep = (
      makeable_at [] s refl,
      makeable_rows stmts asked s.below (λ k q c x at is. makeable_at (k ∷ q) x (rw at is)),
      tt,
    )
      where
        makeable_at : (q : List ℕ) (x : LabelTree) → node_at q s ≡ Some x → IsMakeable stmts (cut_to asked x.label)
        makeable_at q x at = made_makeable x.label (deep q x (omega arith) at)
