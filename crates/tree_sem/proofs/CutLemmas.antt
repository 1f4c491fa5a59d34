-- Nodes that are taken out of the table with all below them.
use Rattle.std.proofs.Common.{◌≡◌, ◌≢◌, ℕ, zero, suc, ◌+◌, ◌<◌, List, [], ◌∷◌, ◌++◌, length, get_or, remove, Option, Some, None, option_map, unwrap_or, slice_get, refl, sym, ap, ◌∙◌, subst, inl, inr, arith}
use Rattle.std.specs.List.Sorted.{IsStrictlyIncreasing}
use Rattle.std.proofs.lemmas.Bool.{cases_eq}
use Rattle.std.proofs.lemmas.Option.{slice_get_within, slice_get_read}
use Rattle.slab.specs.Slab.{Slab, get, ContainsKey, slab_len, with_value}
use Rattle.tp_base.proofs.Lists.{slice_get-append_left, slice_get-push}
use Rattle.tree_sem.specs.declared.slots.Slot.{Slot}
use Rattle.tree_sem.specs.Cuts.{drop_tree, drop_child}
use Rattle.tree_sem.specs.Trees.{node, LabelTree, tree_of, edit_at, count_of}
use Rattle.tree_sem.specs.Arena.{row_by, place_from}
use Rattle.tree_sem.specs.Table.{kids_in, label_in, parent_in, tree_in, IsForest, IsTable, IsChanged, IsRemoved, IsLoose, IsFreed}
use Rattle.tree_sem.proofs.ArenaLemmas.{tree_of-row_by, row_by-push}
use Rattle.tree_sem.proofs.ChangeLemmas.{kids_stay, parent_stays, slot_stays, IsOrphan, IsLess, less_forest, less_orphan, less_apart, less_place, less_root, less_child, written}
use Rattle.tree_sem.proofs.CountLemmas.{nodes_of-push_tree, count_of-drop_child}
use Rattle.tree_sem.proofs.TableLemmas.{rolled_out, node_there, child_there}
use Rattle.tree_sem.proofs.WriteLemmas.{label_is, kids_are, parent_is, is_there, changed_by_write}

-- the node that is next, its parent, and so on, as long as there is one
abbrev pub IsChain : Slab Slot → Option ℕ → List ℕ → Type 0
IsChain slots None [] = Unit {0}
IsChain slots None (j ∷ js) = ⊥
IsChain slots (Some i) [] = ⊥
IsChain slots (Some i) (j ∷ js) = (i ≡ j) × ContainsKey slots j × IsChain slots (parent_in slots j) js

abbrev pub IsOutside : ℕ → List ℕ → Type 0
IsOutside i [] = Unit {0}
IsOutside i (j ∷ js) = (i ≢ j) × IsOutside i js

-- no one's children, none of them the root, and no two the same
abbrev pub AreLoose : Slab Slot → List ℕ → Type 0
AreLoose slots [] = Unit {0}
AreLoose slots (i ∷ is) = IsOrphan slots i × (i ≢ 0) × IsOutside i is × AreLoose slots is

-- how many nodes their trees have
abbrev pub counts : Slab Slot → List ℕ → ℕ
counts slots [] = 0
counts slots (i ∷ is) = count_of (tree_in slots i) + counts slots is

-- some nodes are freed of a tree that had `total`
pub record IsFreeing (start now : Slab Slot) (total : ℕ) (next : Option ℕ) : Type 0 where
  pub forest : IsForest now
  pub chain : List ℕ
  pub linked : IsChain now next chain
  pub loose : AreLoose now chain
  pub tree : tree_in now 0 ≡ tree_in start 0
  pub count : slab_len now + total ≡ slab_len start + counts now chain

pub freeing_begins : (start : Slab Slot) (top : ℕ) → IsForest start → IsLoose start top → IsFreeing start start (count_of (tree_in start top)) (Some top)
freeing_begins start top forest loose = record {
  forest = forest;
  chain = top ∷ [];
  linked = (refl, loose.here, subst (λ o. IsChain start o []) (sym loose.no_parent) tt);
  loose = (loose.orphan, loose.not_root, tt, tt);
  tree = refl;
  count = omega arith;
}

pub freeing_ends : (start now : Slab Slot) (total : ℕ) → IsFreeing start now total None → slab_len now + total ≡ slab_len start
freeing_ends start now total freeing = by freeing.chain freeing.linked freeing.count
  where
    by : (is : List ℕ) → IsChain now None is → slab_len now + total ≡ slab_len start + counts now is → slab_len now + total ≡ slab_len start
    by [] linked count = omega (arith, count)
    by (i ∷ is) linked count = absurd linked

-- what a change at a loose node leaves of others
module _ (old new : Slab Slot) (place : ℕ) (forest : IsForest old) (less : IsLess old new place) (orphan : IsOrphan old place) where
  chain_stays : (next : Option ℕ) (js : List ℕ) → IsOutside place js → IsChain old next js → IsChain new next js
  chain_stays None [] out linked = tt
  chain_stays None (j ∷ js) out linked = linked
  chain_stays (Some i) [] out linked = linked
  chain_stays (Some i) (j ∷ js) out linked =
      let other = less.others j (λ e. out.0 (sym e)) in
      (linked.0, slot_stays old new j other linked.1, subst (λ o. IsChain new o js) (sym (parent_stays old new j other)) (chain_stays (parent_in old j) js out.1 linked.2))

  loose_stay : (js : List ℕ) → AreLoose old js → AreLoose new js
  loose_stay [] loose = tt
  loose_stay (j ∷ js) loose = (less_orphan old new place forest less j loose.0, loose.1, loose.2, loose_stay js loose.3)

  counts_stay : (js : List ℕ) → IsOutside place js → counts new js ≡ counts old js
  counts_stay [] out = refl
  counts_stay (j ∷ js) out =
      let same = ap count_of (less_apart old new place forest less orphan j (λ e. out.0 (sym e))) in
      omega (arith, same, counts_stay js out.1)

-- a child is none of some that are no one's
child_outside : (slots : Slab Slot) (i k c : ℕ) → slice_get (kids_in slots i) k ≡ Some c → (js : List ℕ) → AreLoose slots js → IsOutside c js
child_outside slots i k c at [] loose = tt
child_outside slots i k c at (j ∷ js) loose = (λ same. loose.0 i k (at ∙ ap Some same), child_outside slots i k c at js loose.3)

-- the last child is taken off a loose node
module _ (old new : Slab Slot) (place : ℕ) (cs : List ℕ) (c : ℕ) (forest : IsForest old) (orphan : IsOrphan old place) (not_root : place ≢ 0) (had : kids_in old place ≡ cs ++ c ∷ [])
    (change : IsChanged old new place (label_in old place) cs (parent_in old place)) where
  last_at : slice_get (kids_in old place) (length cs) ≡ Some c
  last_at = ap (λ z. slice_get z (length cs)) had ∙ slice_get-push cs c

  was_there : (k d : ℕ) → slice_get cs k ≡ Some d → slice_get (kids_in old place) k ≡ Some d
  was_there k d at = ap (λ z. slice_get z k) had ∙ slice_get-append_left cs (c ∷ []) k (slice_get_within cs k d at) ∙ at

  pop_less : IsLess old new place
  pop_less = written old new place (label_in old place) cs forest change (λ k. k) (λ k m same. same) was_there (forest.rising place)

  apart : c ≢ place
  apart same = orphan place (length cs) (last_at ∙ ap Some same)

  pop_orphan : IsOrphan new c
  pop_orphan i k at = elim (cases_eq i place) [
    | inl same ↦
        let there : slice_get cs k ≡ Some c = ap (λ z. slice_get z k) (sym (ap (kids_in new) same ∙ change.children)) ∙ at in
        let number = forest.arena.once place k (length cs) c (was_there k c there) last_at in
        omega (arith, number, slice_get_within cs k c there)
    | inr other ↦
        let was : slice_get (kids_in old i) k ≡ Some c = ap (λ z. slice_get z k) (sym (kids_stay old new i (change.others i other))) ∙ at in
        let both : Some i ≡ Some place = sym (forest.arena.up i k c was) ∙ forest.arena.up place (length cs) c last_at in
        other (cc)
  ]

  pop_not_root : c ≢ 0
  pop_not_root same = let never : None ≡ Some place = sym forest.arena.root ∙ ap (parent_in old) (sym same) ∙ forest.arena.up place (length cs) c last_at in cc

  pop_parent : parent_in new c ≡ Some place
  pop_parent = parent_stays old new c (change.others c apart) ∙ forest.arena.up place (length cs) c last_at

  pop_here : ContainsKey new c
  pop_here = slot_stays old new c (change.others c apart) (child_there old forest place (length cs) c last_at)

  pop_count : count_of (tree_in new c) + count_of (tree_in new place) ≡ count_of (tree_in old place)
  pop_count =
      let child = ap count_of (less_apart old new place forest pop_less orphan c apart) in
      let now = ap count_of (less_place old new place forest pop_less ∙ ap (λ z. record { label = label_in new place; below = row_by (tree_in old) z }) change.children) in
      let was = ap count_of (rolled_out old forest place ∙ ap (λ z. record { label = label_in old place; below = row_by (tree_in old) z }) had ∙ ap (λ r. record { label = label_in old place; below = r }) (row_by-push (tree_in old) cs c)) in
      omega (arith, child, now, was, nodes_of-push_tree (row_by (tree_in old) cs) (tree_in old c))

-- a loose node that has no child is gone
module _ (old new : Slab Slot) (place : ℕ) (forest : IsForest old) (orphan : IsOrphan old place) (not_root : place ≢ 0) (bare : kids_in old place ≡ []) (removed : IsRemoved old new place) where
  gone_less : IsLess old new place
  gone_less =
      let none : kids_in new place ≡ [] = ap (λ o. unwrap_or (option_map (λ (s : Slot). s.children.items) o) []) removed.gone in
      let no_label : label_in new place ≡ [] = ap (λ o. unwrap_or (option_map (λ (s : Slot). s.label) o) []) removed.gone in
      let root = removed.others 0 (λ e. not_root (sym e)) in
      record {
        others = removed.others;
        source = λ k. k;
        source_once = λ k m same. same;
        fewer = λ k c at. let never : slice_get {X = ℕ} [] k ≡ Some c = ap (λ z. slice_get z k) (sym none) ∙ at in cc;
        up = λ i k at. absurd (orphan i k at);
        above = parent_stays old new 0 root ∙ forest.arena.root;
        root = slot_stays old new 0 root forest.root;
        rises = subst IsStrictlyIncreasing (sym no_label) (λ k within. absurd (omega arith));
      }

  gone_count : count_of (tree_in old place) ≡ 1
  gone_count = ap count_of (rolled_out old forest place ∙ ap (λ z. record { label = label_in old place; below = row_by (tree_in old) z }) bare)

-- one slot more
pub freeing_more : (start old new : Slab Slot) (total place : ℕ) (next : Option ℕ) → IsFreeing start old total (Some place) → IsFreed old new place next → IsFreeing start new total next
freeing_more start old new total place next freeing freed = by freeing.chain freeing.linked freeing.loose freeing.count
  where
    by : (is : List ℕ) → IsChain old (Some place) is → AreLoose old is → slab_len old + total ≡ slab_len start + counts old is → IsFreeing start new total next
    by [] linked loose count = absurd linked
    by (i ∷ is) linked loose count =
        let orphan : IsOrphan old place = λ m k at. loose.0 m k (at ∙ ap Some linked.0) in
        let not_root : place ≢ 0 = λ e. loose.1 (sym linked.0 ∙ e) in
        let out : IsOutside place is = subst (λ z. IsOutside z is) (sym linked.0) loose.2 in
        let rest : IsChain old (parent_in old place) is = subst (λ z. IsChain old (parent_in old z) is) (sym linked.0) linked.2 in
        let here : ContainsKey old place = subst (ContainsKey old) (sym linked.0) linked.1 in
        let count' : slab_len old + total ≡ slab_len start + (count_of (tree_in old place) + counts old is) = count ∙ ap (λ z. slab_len start + (count_of (tree_in old z) + counts old is)) (sym linked.0) in
        elim freed [
          | inl (cs, c, had, change, child) ↦
              let less = pop_less old new place cs c forest orphan not_root had change in
              let tree = less_apart old new place forest less orphan 0 (λ e. not_root (sym e)) in
              record {
                forest = less_forest old new place forest less;
                chain = c ∷ place ∷ is;
                linked = subst (λ o. IsChain new o (c ∷ place ∷ is)) (sym child) (
                  refl,
                  pop_here old new place cs c forest orphan not_root had change,
                  subst (λ o. IsChain new o (place ∷ is)) (sym (pop_parent old new place cs c forest orphan not_root had change)) (
                    refl,
                    change.here,
                    subst (λ o. IsChain new o is) (sym change.parent) (chain_stays old new place forest less orphan (parent_in old place) is out rest),
                  ),
                );
                loose = (
                  pop_orphan old new place cs c forest orphan not_root had change,
                  pop_not_root old new place cs c forest orphan not_root had change,
                  (apart old new place cs c forest orphan not_root had change, child_outside old place (length cs) c (last_at old new place cs c forest orphan not_root had change) is loose.3),
                  (less_orphan old new place forest less place orphan, not_root, out, loose_stay old new place forest less orphan is loose.3),
                );
                tree = tree ∙ freeing.tree;
                count =
                    let both = pop_count old new place cs c forest orphan not_root had change in
                    omega (arith, count', both, counts_stay old new place forest less orphan is out, change.count);
              }
          | inr (bare, removed, parent) ↦
              let less = gone_less old new place forest orphan not_root bare removed in
              let tree = less_apart old new place forest less orphan 0 (λ e. not_root (sym e)) in
              record {
                forest = less_forest old new place forest less;
                chain = is;
                linked = subst (λ o. IsChain new o is) (sym parent) (chain_stays old new place forest less orphan (parent_in old place) is out rest);
                loose = loose_stay old new place forest less orphan is loose.3;
                tree = tree ∙ freeing.tree;
                count =
                    let one = gone_count old new place forest orphan not_root bare removed in
                    omega (arith, count', one, counts_stay old new place forest less orphan is out, removed.count);
              }
        ]
      where
        forest : IsForest old
        forest = freeing.forest

-- what is next is there
pub freeing_here : (start now : Slab Slot) (total place : ℕ) → IsFreeing start now total (Some place) → ContainsKey now place
freeing_here start now total place freeing = by freeing.chain freeing.linked
  where
    by : (is : List ℕ) → IsChain now (Some place) is → ContainsKey now place
    by [] linked = absurd linked
    by (i ∷ is) linked = subst (ContainsKey now) (sym linked.0) linked.1

-- the number of a child among all, which is not the one at s
abbrev pub skip : ℕ → ℕ → ℕ
skip zero k = suc k
skip (suc s) zero = zero
skip (suc s) (suc k) = suc (skip s k)

skip_once : (s k l : ℕ) → skip s k ≡ skip s l → k ≡ l
skip_once zero k l same = cc
skip_once (suc s) zero zero same = refl
skip_once (suc s) zero (suc l) same = cc
skip_once (suc s) (suc k) zero same = cc
skip_once (suc s) (suc k) (suc l) same = ap suc (skip_once s k l (cc))

skip_apart : (s k : ℕ) → skip s k ≢ s
skip_apart zero k same = omega arith
skip_apart (suc s) zero same = omega arith
skip_apart (suc s) (suc k) same = skip_apart s k (cc)

slice_get-remove : (xs : List ℕ) (s k c : ℕ) → slice_get (remove xs s) k ≡ Some c → slice_get xs (skip s k) ≡ Some c
slice_get-remove [] zero k c at = cc
slice_get-remove [] (suc s) k c at = cc
slice_get-remove (x ∷ xs) zero k c at = at
slice_get-remove (x ∷ xs) (suc s) zero c at = at
slice_get-remove (x ∷ xs) (suc s) (suc k) c at = slice_get-remove xs s k c at

row_by-remove : (f : ℕ → LabelTree) (cs : List ℕ) (s : ℕ) → row_by f (remove cs s) ≡ drop_tree (row_by f cs) s
row_by-remove f [] zero = refl
row_by-remove f [] (suc s) = refl
row_by-remove f (c ∷ cs) zero = refl
row_by-remove f (c ∷ cs) (suc s) = ap (λ r. node (f c).label (f c).below r) (row_by-remove f cs s)

-- A child is taken off a node, and then its parent's number off it.
module _ (old mid new : Slab Slot) (place step child : ℕ) (forest : IsForest old) (at : slice_get (kids_in old place) step ≡ Some child)
    (one : IsChanged old mid place (label_in old place) (remove (kids_in old place) step) (parent_in old place)) (two : IsChanged mid new child (label_in mid child) (kids_in mid child) None) where
  off_less : IsLess old mid place
  off_less = written old mid place (label_in old place) (remove (kids_in old place) step) forest one (skip step) (skip_once step) (λ k c there. slice_get-remove (kids_in old place) step k c there) (forest.rising place)

  off_forest : IsForest mid
  off_forest = less_forest old mid place forest off_less

  off_orphan : IsOrphan mid child
  off_orphan i k there = elim (cases_eq i place) [
    | inl same ↦
        let was = slice_get-remove (kids_in old place) step k child (ap (λ z. slice_get z k) (sym (ap (kids_in mid) same ∙ one.children)) ∙ there) in
        skip_apart step k (forest.arena.once place (skip step k) step child was at)
    | inr other ↦
        let was : slice_get (kids_in old i) k ≡ Some child = ap (λ z. slice_get z k) (sym (kids_stay old mid i (one.others i other))) ∙ there in
        let both : Some i ≡ Some place = sym (forest.arena.up i k child was) ∙ forest.arena.up place step child at in
        other (cc)
  ]

  off_not_root : child ≢ 0
  off_not_root same = let never : None ≡ Some place = sym forest.arena.root ∙ ap (parent_in old) (sym same) ∙ forest.arena.up place step child at in cc

  loose_less : IsLess mid new child
  loose_less =
      let root = two.others 0 (λ e. off_not_root (sym e)) in
      record {
        others = two.others;
        source = λ k. k;
        source_once = λ k m same. same;
        fewer = λ k c there. ap (λ z. slice_get z k) (sym two.children) ∙ there;
        up = λ i k there. absurd (off_orphan i k there);
        above = parent_stays mid new 0 root ∙ off_forest.arena.root;
        root = slot_stays mid new 0 root off_forest.root;
        rises = subst IsStrictlyIncreasing (sym two.label) (off_forest.rising child);
      }

  pub loose_forest : IsForest new
  loose_forest = less_forest mid new child off_forest loose_less

  pub is_loose : IsLoose new child
  is_loose = record { here = two.here; orphan = less_orphan mid new child off_forest loose_less child off_orphan; no_parent = two.parent; not_root = off_not_root }

  pub loose_tree : (p : List ℕ) → place_from (kids_in old) 0 p ≡ Some place → tree_in new 0 ≡ edit_at p (drop_child step) (tree_in old 0)
  loose_tree p there =
      let rolled = rolled_out old forest place in
      let row : row_by (tree_in old) (kids_in mid place) ≡ drop_tree (row_by (tree_in old) (kids_in old place)) step = ap (row_by (tree_in old)) one.children ∙ row_by-remove (tree_in old) (kids_in old place) step in
      less_apart mid new child off_forest loose_less off_orphan 0 (λ e. off_not_root (sym e))
      ∙ less_root old mid place forest off_less (drop_child step)
      (ap (λ z. record { label = z; below = row_by (tree_in old) (kids_in mid place) }) one.label ∙ ap (λ r. record { label = label_in old place; below = r }) row ∙ ap (drop_child step) (sym rolled)) p there

  pub loose_child : tree_in new child ≡ tree_in old child
  loose_child =
      less_place mid new child off_forest loose_less ∙ ap (λ z. record { label = z; below = row_by (tree_in mid) (kids_in new child) }) two.label
      ∙ ap (λ z. record { label = label_in mid child; below = row_by (tree_in mid) z }) two.children ∙ sym (rolled_out mid off_forest child) ∙ less_child old mid place forest off_less step child at

-- a table without a child of one of its nodes is a table
pub table_cut : (old new : Slab Slot) (place step child : ℕ) (p : List ℕ) → IsTable old → IsForest new → place_from (kids_in old) 0 p ≡ Some place → slice_get (kids_in old place) step ≡ Some child
    → tree_in new 0 ≡ edit_at p (drop_child step) (tree_in old 0) → slab_len new + count_of (tree_in old child) ≡ slab_len old → IsTable new
table_cut old new place step child p table forest at child_at tree count =
    let there = node_there old table.forest p place (sym at) in
    let below : tree_of (tree_in old place).below step ≡ Some (tree_in old child) =
    ap (λ (t : LabelTree). tree_of t.below step) (rolled_out old table.forest place) ∙ tree_of-row_by (tree_in old) (kids_in old place) step ∙ ap (option_map (tree_in old)) child_at in
    let fewer = count_of-drop_child p step (tree_in old 0) (tree_in old place) (tree_in old child) there below in
    let now = ap count_of tree in
    record {
      forest = forest;
      counted = omega (arith, now, fewer, table.counted, count);
      in_limit = omega (arith, count, table.in_limit);
    }

-- what two writes make of the table: the child's number is taken off a list, and the parent's off the child
module _ (old : Slab Slot) (place step child : ℕ) (was next first second : Slot) (forest : IsForest old) (here : get old place ≡ Some was) (inside : step < length (kids_in old place))
    (found : child ≡ get_or was.children.items step child) (first_label : first.label ≡ was.label) (first_kids : first.children.items ≡ remove was.children.items step) (first_parent : first.parent ≡ was.parent) where
  child_at : slice_get (kids_in old place) step ≡ Some child
  child_at =
      let kids = kids_are old place was here in
      slice_get_read (kids_in old place) (length (kids_in old place)) step child refl inside (found ∙ ap (λ z. get_or z step child) (sym kids))

  abbrev mid : Slab Slot
  mid = with_value old place first

  one : IsChanged old mid place (label_in old place) (remove (kids_in old place) step) (parent_in old place)
  one =
      changed_by_write old place first (label_in old place) (remove (kids_in old place) step) (parent_in old place) (is_there old place was here) (first_label ∙ sym (label_is old place was here))
      (first_kids ∙ ap (λ z. remove z step) (sym (kids_are old place was here))) (first_parent ∙ sym (parent_is old place was here))

  pub other_place : child ≢ place
  other_place same = let level = ap forest.arena.depth same in omega (arith, level, forest.arena.deeper place step child child_at)

  pub child_here : ContainsKey mid child
  child_here = slot_stays old mid child (one.others child other_place) (child_there old forest place step child child_at)

  module _ (again : get mid child ≡ Some next) (second_label : second.label ≡ next.label) (second_kids : second.children.items ≡ next.children.items) (second_parent : second.parent ≡ None) where
    abbrev new : Slab Slot
    new = with_value mid child second

    two : IsChanged mid new child (label_in mid child) (kids_in mid child) None
    two =
        changed_by_write mid child second (label_in mid child) (kids_in mid child) None child_here (second_label ∙ sym (label_is mid child next again)) (second_kids ∙ sym (kids_are mid child next again)) second_parent

    pub written_forest : IsForest new
    written_forest = loose_forest old mid new place step child forest child_at one two

    pub written_loose : IsLoose new child
    written_loose = is_loose old mid new place step child forest child_at one two

    pub written_tree : (p : List ℕ) → place_from (kids_in old) 0 p ≡ Some place → tree_in new 0 ≡ edit_at p (drop_child step) (tree_in old 0)
    written_tree = loose_tree old mid new place step child forest child_at one two

    pub written_child : tree_in new child ≡ tree_in old child
    written_child = loose_child old mid new place step child forest child_at one two

    pub written_count : slab_len new ≡ slab_len old
    written_count = two.count ∙ one.count

    pub written_at : (c : ℕ) → slice_get (kids_in old place) step ≡ Some c → c ≡ child
    written_at c at = let both : Some c ≡ Some child = sym at ∙ child_at in cc
