-- A table that gets copies of another's nodes, one by one.
use Rattle.std.proofs.Common.{◌≡◌, ℕ, ◌+◌, ◌-◌, ◌*◌, ◌<◌, ◌≤◌, List, [], ◌∷◌, ◌++◌, length, Option, Some, None, option_map, slice_get, refl, sym, ap, ◌∙◌, subst, append-nil, append_assoc, length-append, inl, inr, arith}
use Rattle.std.specs.List.Sorted.{IsStrictlyIncreasing}
use Rattle.slab.specs.Slab.{Slab, ContainsKey, slab_len}
use Rattle.tree_sem.specs.declared.slots.Slot.{Slot}
use Rattle.tree_sem.specs.declared.tree_fault.TheConstants.{MOST_NODES}
use Rattle.tree_sem.specs.Cuts.{drop_tree, drop_child}
use Rattle.tree_sem.specs.Trees.{LabelTree, leaf, tree_of, length_of, push_tree, edit_tree, count_of, node_at, edit_at, add_child, add_tree}
use Rattle.tree_sem.specs.Arena.{row_by, place_from}
use Rattle.tree_sem.specs.Paths.{parent_of}
use Rattle.tree_sem.specs.Table.{kids_in, label_in, parent_in, tree_in, path_in, both_of, IsTable, IsGrown, IsChanged, IsCopied, Stays}
use Rattle.tree_sem.proofs.ArenaLemmas.{tree_of-row_by}
use Rattle.tree_sem.proofs.ChangeLemmas.{same_kids, same_tree, same_table}
use Rattle.tree_sem.proofs.CountLemmas.{count_of-edit_at, nodes_of-push_tree}
use Rattle.tree_sem.proofs.DropLemmas.{drop_tree-push_tree}
use Rattle.tree_sem.proofs.EditLemmas.{edit_at-same, edit_at-append, edit_at-edit_at, edit_at-alike, edit_tree-push_tree, node_at-edit_at_below}
use Rattle.tree_sem.proofs.GrowLemmas.{table_grown, tree_grown, places_stay, new_at}
use Rattle.tree_sem.proofs.PartLemmas.{IsPart, part_end, part_down, part_up, part_count}
use Rattle.tree_sem.proofs.PathLemmas.{parent_of-none, child_of_parent}
use Rattle.tree_sem.proofs.PlaceLemmas.{place_above, place_child, path_of_place}
use Rattle.tree_sem.proofs.TableLemmas.{rolled_out, node_there, kids_there, place_there}

-- where the copy is, and where its source: at the path q of both, or at the end
abbrev pub IsAt : Slab Slot → Slab Slot → List ℕ → LabelTree → Option (ℕ × ℕ) → Type 0
IsAt now source p copy None = copy ≡ tree_in source 0
IsAt now source p copy (Some x) = (q : List ℕ) × (place_from (kids_in source) 0 q ≡ Some x.1) × (place_from (kids_in now) 0 (p ++ q) ≡ Some x.0) × IsPart q copy (tree_in source 0)

-- the node at p has become a copy of a part of the source
pub record IsCopying (start now source : Slab Slot) (p : List ℕ) (next : Option (ℕ × ℕ)) : Type 0 where
  pub table : IsTable now
  pub stays : Stays start now
  pub copy : LabelTree
  pub tree : tree_in now 0 ≡ edit_at p (λ s. copy) (tree_in start 0)
  pub grew : slab_len now + 1 ≡ slab_len start + count_of copy
  pub at : IsAt now source p copy next

-- how many turns are left at most
abbrev pub turns : Slab Slot → Slab Slot → Slab Slot → Option (ℕ × ℕ) → ℕ
turns start now source None = 2 * (count_of (tree_in source 0) + slab_len start - slab_len now)
turns start now source (Some x) = 2 * (count_of (tree_in source 0) + slab_len start - slab_len now) + (1 + length (path_in source x.1))

both_none : (a : Option ℕ) → both_of a None ≡ None
both_none None = refl
both_none (Some a) = refl

module _ (start source : Slab Slot) (p : List ℕ) (top : ℕ) (table : IsTable start) (other : IsTable source) (top_at : place_from (kids_in start) 0 p ≡ Some top) where
  abbrev u : LabelTree
  u = tree_in source 0

  pub copying_begins : kids_in start top ≡ [] → label_in start top ≡ label_in source 0 → IsCopying start start source p (Some (top, 0))
  copying_begins bare label =
      let rolled = rolled_out start table.forest top in
      let leaf : tree_in start top ≡ record { label = label_in start top; below = row_by (tree_in start) [] } = rolled ∙ ap (λ z. record { label = label_in start top; below = row_by (tree_in start) z }) bare in
      let one = ap count_of leaf in
      let none = ap (λ (t : LabelTree). length_of t.below) leaf in
      record {
        table = table;
        stays = λ v i at. at;
        copy = tree_in start top;
        tree = sym (edit_at-same p (λ s. tree_in start top) (tree_in start 0) (λ s at. let both : Some (tree_in start top) ≡ Some s = sym (node_there start table.forest p top (sym top_at)) ∙ at in cc));
        grew = omega (arith, one);
        at = (
          [],
          refl,
          ap (place_from (kids_in start) 0) (append-nil p) ∙ top_at,
          (ap (λ (t : LabelTree). t.label) rolled ∙ label ∙ ap (λ (t : LabelTree). t.label) (sym (rolled_out source other.forest 0)), λ m less. absurd (omega (arith, none))),
        );
      }

  module _ (old : Slab Slot) (to from : ℕ) (copying : IsCopying start old source p (Some (to, from))) where
    abbrev q : List ℕ
    q = copying.at.0

    -- the node in the copy, and in its source
    here : node_at q copying.copy ≡ Some (tree_in old to)
    here =
        sym (node_at-edit_at_below p q (λ s. copying.copy) (tree_in start 0) (tree_in start top) (node_there start table.forest p top (sym top_at)))
        ∙ ap (node_at (p ++ q)) (sym copying.tree) ∙ node_there old copying.table.forest (p ++ q) to (sym copying.at.2)

    here' : node_at q u ≡ Some (tree_in source from)
    here' = node_there source other.forest q from (sym copying.at.1)

    many : length_of (tree_in old to).below ≡ length (kids_in old to)
    many = kids_there old copying.table.forest (p ++ q) to (sym copying.at.2)

    many' : length_of (tree_in source from).below ≡ length (kids_in source from)
    many' = kids_there source other.forest q from (sym copying.at.1)

    -- down to a new child
    module _ (new : Slab Slot) (c d : ℕ) (kid : slice_get (kids_in source from) (length (kids_in old to)) ≡ Some c) (grown : IsGrown old new to d (label_in source c)) (rises : IsStrictlyIncreasing (label_in source c)) where
      abbrev m : ℕ
      m = length (kids_in old to)

      label_same : (tree_in source c).label ≡ label_in source c
      label_same = ap (λ (t : LabelTree). t.label) (rolled_out source other.forest c)

      next : tree_of (tree_in source from).below (length_of (tree_in old to).below) ≡ Some (tree_in source c)
      next =
          ap (tree_of (tree_in source from).below) many ∙ ap (λ (t : LabelTree). tree_of t.below m) (rolled_out source other.forest from)
          ∙ tree_of-row_by (tree_in source) (kids_in source from) m ∙ ap (option_map (tree_in source)) kid

      abbrev copy' : LabelTree
      copy' = edit_at q (add_child (label_in source c)) copying.copy

      part : IsPart (q ++ m ∷ []) copy' u
      part =
          subst (λ n. IsPart (q ++ n ∷ []) copy' u) many
          (subst (λ l. IsPart (q ++ length_of (tree_in old to).below ∷ []) (edit_at q (add_child l) copying.copy) u) label_same
          (part_down q copying.copy u (tree_in old to) (tree_in source from) (tree_in source c) copying.at.3 here here' next))

      source_at : place_from (kids_in source) 0 (q ++ m ∷ []) ≡ Some c
      source_at = place_child (kids_in source) q m 0 from c copying.at.1 kid

      longer : count_of copy' ≡ count_of copying.copy + 1
      longer = let one = nodes_of-push_tree (tree_in old to).below (leaf (label_in source c)) in count_of-edit_at q (add_child (label_in source c)) copying.copy (tree_in old to) 1 here (omega (arith, one))

      within : count_of copy' ≤ count_of u
      within = part_count (q ++ m ∷ []) copy' u (tree_in source c) part (node_there source other.forest (q ++ m ∷ []) c (sym source_at))

      module _ (room : slab_len start + slab_len source ≤ MOST_NODES + 1) where
        fits : slab_len old < MOST_NODES
        fits = omega (arith, room, longer, within, copying.grew, other.counted)

        present : ContainsKey old to
        present = place_there old copying.table.forest (p ++ q) to copying.at.2

        pub copying_down : IsCopying start new source p (Some (d, c))
        copying_down = record {
          table = table_grown old new to d (label_in source c) copying.table present rises grown fits (p ++ q) copying.at.2;
          stays = λ v i at. places_stay old new to d (label_in source c) copying.table.forest present rises grown v i (copying.stays v i at);
          copy = copy';
          tree =
              tree_grown old new to d (label_in source c) copying.table present rises grown fits (p ++ q) copying.at.2
              ∙ ap (edit_at (p ++ q) (add_child (label_in source c))) copying.tree ∙ edit_at-append p q (add_child (label_in source c)) (edit_at p (λ s. copying.copy) (tree_in start 0))
              ∙ edit_at-edit_at p (edit_at q (add_child (label_in source c))) (λ s. copying.copy) (tree_in start 0);
          grew = omega (arith, grown.count, copying.grew, longer);
          at = (
            q ++ m ∷ [],
            source_at,
            ap (place_from (kids_in new) 0) (sym (append_assoc p q (m ∷ []))) ∙ new_at old new to d (label_in source c) copying.table.forest present rises grown (p ++ q) copying.at.2,
            part,
          );
        }

        pub down_falls : turns start new source (Some (d, c)) < turns start old source (Some (to, from))
        down_falls =
            let old_way = ap length (path_of_place source other.forest q from copying.at.1) in
            let new_way = ap length (path_of_place source other.forest (q ++ m ∷ []) c source_at) in
            let one = length-append q (m ∷ []) in
            omega (arith, old_way, new_way, one, grown.count, copying.grew, longer, within)

    -- up to the parents
    module _ (all : length (kids_in source from) ≤ length (kids_in old to)) where
      abbrev up : Option (ℕ × ℕ)
      up = both_of (parent_in old to) (parent_in source from)

      went_up : IsAt old source p copying.copy up × (turns start old source up < turns start old source (Some (to, from)))
      went_up = by (parent_of q) refl
        where
          by : (o : Option (List ℕ)) → parent_of q ≡ o → IsAt old source p copying.copy up × (turns start old source up < turns start old source (Some (to, from)))
          by None e =
              let root = parent_of-none q e in
              let first : Some 0 ≡ Some from = sym (ap (place_from (kids_in source) 0) root) ∙ copying.at.1 in
              let first' : 0 ≡ from = cc in
              let none : parent_in source from ≡ None = ap (parent_in source) (sym first') ∙ other.forest.arena.root in
              let end : up ≡ None = ap (both_of (parent_in old to)) none ∙ both_none (parent_in old to) in
              let whole : Some copying.copy ≡ Some (tree_in old to) = sym (ap (λ z. node_at z copying.copy) root) ∙ here in
              let whole' : Some u ≡ Some (tree_in source from) = sym (ap (λ z. node_at z u) root) ∙ here' in
              let copy_is : copying.copy ≡ tree_in old to = cc in
              let source_is : u ≡ tree_in source from = cc in
              let kids = ap (λ (t : LabelTree). length_of t.below) copy_is in
              let kids' = ap (λ (t : LabelTree). length_of t.below) source_is in
              let done : copying.copy ≡ u = part_end copying.copy u (subst (λ z. IsPart z copying.copy u) root copying.at.3) (omega (arith, kids, kids', many, many', all)) in
              subst (λ o. IsAt old source p copying.copy o × (turns start old source o < turns start old source (Some (to, from)))) (sym end) (done, omega arith)
          by (Some v) e =
              let last = child_of_parent q v e in
              let k = last.0 in
              let above = place_above (kids_in source) v k 0 from (sym (ap (place_from (kids_in source) 0) last.1) ∙ copying.at.1) in
              let target : place_from (kids_in old) 0 ((p ++ v) ++ k ∷ []) ≡ Some to = ap (place_from (kids_in old) 0) (append_assoc p v (k ∷ []) ∙ ap (λ z. p ++ z) (sym last.1)) ∙ copying.at.2 in
              let above' = place_above (kids_in old) (p ++ v) k 0 to target in
              let next : up ≡ Some (above'.0, above.0) =
              ap (λ o. both_of o (parent_in source from)) (copying.table.forest.arena.up above'.0 k to above'.2) ∙ ap (both_of (Some above'.0)) (other.forest.arena.up above.0 k from above.2) in
              let part : IsPart v copying.copy u =
              part_up v k copying.copy u (tree_in old to) (tree_in source from) (subst (λ z. IsPart z copying.copy u) last.1 copying.at.3) (ap (λ z. node_at z copying.copy) (sym last.1) ∙ here) (ap (λ z. node_at z u) (sym last.1) ∙ here') (omega (arith, many, many', all)) in
              let old_way = ap length (path_of_place source other.forest q from copying.at.1) in
              let new_way = ap length (path_of_place source other.forest v above.0 above.1) in
              let one = length-append v (k ∷ []) in
              let long = ap length last.1 in
              subst (λ o. IsAt old source p copying.copy o × (turns start old source o < turns start old source (Some (to, from)))) (sym next) ((v, above.1, above'.1, part), omega (arith, old_way, new_way, one, long))

      pub copying_up : IsCopying start old source p up
      copying_up = record { table = copying.table; stays = copying.stays; copy = copying.copy; tree = copying.tree; grew = copying.grew; at = went_up.0 }

      pub up_falls : turns start old source up < turns start old source (Some (to, from))
      up_falls = went_up.1

  module _ (room : slab_len start + slab_len source ≤ MOST_NODES + 1) where
    -- one turn more
    pub copying_more : (old new : Slab Slot) (to from : ℕ) (after : Option (ℕ × ℕ)) → IsCopying start old source p (Some (to, from)) → IsCopied old new source to from after
        → IsCopying start new source p after × (turns start new source after < turns start old source (Some (to, from)))
    copying_more old new to from after copying copied = elim copied [
      | inl (c, d, kid, grown, rises, is) ↦
          subst (λ o. IsCopying start new source p o × (turns start new source o < turns start old source (Some (to, from)))) (sym is)
          (copying_down old to from copying new c d kid grown rises room, down_falls old to from copying new c d kid grown rises room)
      | inr (all, same, is) ↦
          subst (λ o. IsCopying start new source p o × (turns start new source o < turns start old source (Some (to, from)))) (sym is)
          (subst (λ z. IsCopying start z source p (both_of (parent_in old to) (parent_in source from)) × (turns start z source (both_of (parent_in old to) (parent_in source from)) < turns start old source (Some (to, from)))) (sym same)
          (copying_up old to from copying all, up_falls old to from copying all))
    ]

-- a turn that failed left all as it was
module _ (start old new source : Slab Slot) (p : List ℕ) (after : Option (ℕ × ℕ)) (place : ℕ) (copying : IsCopying start old source p after) (change : IsChanged old new place (label_in old place) (kids_in old place) (parent_in old place)) where
  pub stopped_table : IsTable new
  stopped_table = same_table old new place change copying.table

  pub stopped_stays : Stays start new
  stopped_stays v i at = ap (λ f. place_from f 0 v) (same_kids old new place change) ∙ copying.stays v i at

  pub stopped_tree : (t : LabelTree) × (tree_in new 0 ≡ edit_at p (λ s. t) (tree_in start 0))
  stopped_tree = (copying.copy, ap (λ f. f 0) (same_tree old new place change) ∙ copying.tree)

-- A node gets a copy of a tree as its last child: the child, and then what is below it.
module _ (old mid source : Slab Slot) (place child : ℕ) (l : List ℕ) (table : IsTable old) (other : IsTable source) (grown : IsGrown old mid place child l) (rises : IsStrictlyIncreasing l)
    (room : slab_len old + slab_len source ≤ MOST_NODES) (p : List ℕ) (at : place_from (kids_in old) 0 p ≡ Some place) where
  graft_present : ContainsKey old place
  graft_present = place_there old table.forest p place at

  graft_fits : slab_len old < MOST_NODES
  graft_fits = omega (arith, room, other.counted)

  pub graft_table : IsTable mid
  graft_table = table_grown old mid place child l table graft_present rises grown graft_fits p at

  abbrev last : ℕ
  last = length (kids_in old place)

  pub graft_here : place_from (kids_in mid) 0 (p ++ last ∷ []) ≡ Some child
  graft_here = new_at old mid place child l table.forest graft_present rises grown p at

  pub graft_place : place_from (kids_in mid) 0 p ≡ Some place
  graft_place = places_stay old mid place child l table.forest graft_present rises grown p place at

  pub graft_tree : (new : Slab Slot) (u : LabelTree) → tree_in new 0 ≡ edit_at (p ++ last ∷ []) (λ s. u) (tree_in mid 0) → tree_in new 0 ≡ edit_at p (add_tree u) (tree_in old 0)
  graft_tree new u copied =
      let first = tree_grown old mid place child l table graft_present rises grown graft_fits p at in
      let both = edit_at-append p (last ∷ []) (λ s. u) (edit_at p (add_child l) (tree_in old 0)) ∙ edit_at-edit_at p (edit_at (last ∷ []) (λ s. u)) (add_child l) (tree_in old 0) in
      let there = node_there old table.forest p place (sym at) in
      copied ∙ ap (edit_at (p ++ last ∷ []) (λ s. u)) first ∙ both
      ∙ edit_at-alike p (λ s. edit_at (last ∷ []) (λ z. u) (add_child l s)) (add_tree u) (tree_in old 0) (λ s is.
      let same : Some (tree_in old place) ≡ Some s = sym there ∙ is in
      let same' : tree_in old place ≡ s = cc in
      let number : last ≡ length_of s.below = sym (kids_there old table.forest p place (sym at)) ∙ ap (λ (t : LabelTree). length_of t.below) same' in
      let row = ap (edit_tree (λ z. u) (push_tree s.below (leaf l))) number ∙ edit_tree-push_tree (λ z. u) s.below (leaf l) in
      λ i. record { label = s.label; below = row i })

  -- and where memory fails the child is taken off again
  module _ (new : Slab Slot) (stays : Stays mid new) (u : LabelTree) (is : tree_in new 0 ≡ edit_at (p ++ last ∷ []) (λ s. u) (tree_in mid 0)) where
    pub back_place : place_from (kids_in new) 0 p ≡ Some place
    back_place = stays p place graft_place

    pub back_child : slice_get (kids_in new place) last ≡ Some child
    back_child =
        let above = place_above (kids_in new) p last 0 child (stays (p ++ last ∷ []) child graft_here) in
        let both : Some above.0 ≡ Some place = sym above.1 ∙ back_place in
        let same : above.0 ≡ place = cc in
        ap (λ z. slice_get (kids_in new z) last) (sym same) ∙ above.2

    pub back_tree : (back : Slab Slot) → tree_in back 0 ≡ edit_at p (drop_child last) (tree_in new 0) → tree_in back 0 ≡ tree_in old 0
    back_tree back cut =
        let there = node_there old table.forest p place (sym at) in
        cut ∙ ap (edit_at p (drop_child last)) (graft_tree new u is) ∙ edit_at-edit_at p (drop_child last) (add_tree u) (tree_in old 0)
        ∙ edit_at-same p (λ s. drop_child last (add_tree u s)) (tree_in old 0) (λ s here.
        let same : Some (tree_in old place) ≡ Some s = sym there ∙ here in
        let same' : tree_in old place ≡ s = cc in
        let number : last ≡ length_of s.below = sym (kids_there old table.forest p place (sym at)) ∙ ap (λ (t : LabelTree). length_of t.below) same' in
        let row = ap (drop_tree (push_tree s.below u)) number ∙ drop_tree-push_tree s.below u in
        λ i. record { label = s.label; below = row i })
