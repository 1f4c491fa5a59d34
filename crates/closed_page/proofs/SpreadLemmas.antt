-- A page whose nodes have the labels and the first rounds of other nodes.
use Rattle.std.proofs.Common.{◌≡◌, ◌↔◌, ℕ, zero, suc, ◌+◌, ◌<◌, List, [], ◌∷◌, ◌++◌, map, length, get_or, slice_get, take, Option, Some, None, IsSome, option_map, option_and_then, Contains, refl, sym, ap, ◌∙◌, inl, inr, arith, subst, append-nil}
use Rattle.std.proofs.lemmas.Bool.{cases_lt}
use Rattle.std.proofs.lemmas.List.{get_or_default, get_or_append_left, get_or_push, get_or-map, length_push, take_more, append_assoc, map-append}
use Rattle.std.proofs.lemmas.List.Elements.{Contains-get_or, Contains-append_left, Contains-append_right, Contains-append_cases}
use Rattle.std.proofs.lemmas.Option.{slice_get_within, slice_get-get_or, get_or_from_slice_get}
use Rattle.tp_base.proofs.Lists.{flat_map-Contains, Contains-flat_map, Contains-only}
use Rattle.tp_base.proofs.Rising.{Contains-none, Contains-here}
use Rattle.row_index.specs.Rows.{row_of, AreByNumber}
use Rattle.tree_sem.specs.Trees.{LabelTree, Row, no_nodes, node, node_at, label_at, tree_of, count_of}
use Rattle.tree_sem.specs.Order.{paths_of}
use Rattle.tree_sem.proofs.NodeLemmas.{Contains-paths_of, length-paths_of, Contains-map, map-Contains}
use Rattle.closed_page.specs.declared.first_rounds.Spot.{Spot}
use Rattle.closed_page.specs.declared.notes.NodeNews.{NodeNews}
use Rattle.closed_page.specs.Firsts.{path_to, placed_one, placed, IsSpotOf}
use Rattle.closed_page.specs.Labelled.{Labelled, AreRelated, AreAllLabels, node_of}
use Rattle.closed_page.specs.Notes.{NodeFirst, firsts_in, expanded, AreAtSpots}
use Rattle.closed_page.specs.Relabelled.{label_by, relabelled_row, relabelled, shape_of}
use Rattle.closed_page.specs.Spread.{moved, from_at, IsMoved, IsSpread}
use Rattle.closed_page.specs.Spreading.{IsNumberAt, AreLabelled, news_at, note_path, AreNumbersOf, AreByNode, again, all_again, AreAgain, AreMoved}
use Rattle.closed_page.specs.Views.{PageFirst}
use Rattle.closed_page.proofs.FirstsLemmas.{is_placed, placed-is}
use Rattle.closed_page.proofs.LabelledLemmas.{one_number}
use Rattle.closed_page.proofs.RelabelledLemmas.{label_by-at}
use Rattle.closed_page.proofs.ShapeLemmas.{relabelled-shape}

-- ---- a tree with other labels has the same nodes

tree_of-relabelled : (f : List ℕ → List ℕ) (j k : ℕ) (row : Row) → tree_of (relabelled_row f j row) k ≡ option_map (relabelled (λ p. f ((j + k) ∷ p))) (tree_of row k)
tree_of-relabelled f j k no_nodes = refl
tree_of-relabelled f j zero (node l below next) =
    let at : j ≡ j + 0 = omega arith in
    ap (λ n. Some (relabelled (λ p. f (n ∷ p)) (record { label = l; below = below }))) at
tree_of-relabelled f j (suc k) (node l below next) =
    let at : suc j + k ≡ j + suc k = omega arith in
    tree_of-relabelled f (suc j) k next ∙ ap (λ n. option_map (relabelled (λ p. f (n ∷ p))) (tree_of next k)) at

node_at-relabelled : (f : List ℕ → List ℕ) (v : List ℕ) (t : LabelTree) → node_at v (relabelled f t) ≡ option_map (relabelled (λ p. f (v ++ p))) (node_at v t)
node_at-relabelled f [] t = refl
node_at-relabelled f (k ∷ v) t =
    let at : 0 + k ≡ k = omega arith in
    ap (option_and_then (node_at v)) (tree_of-relabelled f 0 k t.below ∙ ap (λ n. option_map (relabelled (λ p. f (n ∷ p))) (tree_of t.below k)) at)
    ∙ elim (tree_of t.below k) as (λ o. option_and_then (node_at v) (option_map (relabelled (λ p. f (k ∷ p))) o) ≡ option_map (relabelled (λ p. f (k ∷ (v ++ p)))) (option_and_then (node_at v) o)) [
      | None ↦ refl
      | Some s ↦ node_at-relabelled (λ p. f (k ∷ p)) v s
    ]

label_at-relabelled : (f : List ℕ → List ℕ) (v : List ℕ) (t : LabelTree) → IsSome (node_at v t) → label_at v (relabelled f t) ≡ Some (f v)
label_at-relabelled f v t is =
    ap (option_map (λ (n : LabelTree). n.label)) (node_at-relabelled f v t)
    ∙ elim (node_at v t) as (λ o. IsSome o → option_map (λ (n : LabelTree). n.label) (option_map (relabelled (λ p. f (v ++ p))) o) ≡ Some (f v)) [
      | None ↦ λ none. cc
      | Some s ↦ λ some. ap (λ z. Some (f z)) (append-nil v)
    ] is

there-relabelled : (f : List ℕ → List ℕ) (v : List ℕ) (t : LabelTree) → IsSome (node_at v (relabelled f t)) ↔ IsSome (node_at v t)
there-relabelled f v t =
    subst (λ (o : Option LabelTree). IsSome o ↔ IsSome (node_at v t)) (sym (node_at-relabelled f v t))
    (elim (node_at v t) as (λ o. IsSome (option_map (relabelled (λ p. f (v ++ p))) o) ↔ IsSome o) [
      | None ↦ (λ h. h, λ h. h)
      | Some s ↦ (λ h. refl, λ h. refl)
    ])

labelled_page : (t : LabelTree) (own : List (List ℕ)) → length own ≡ count_of t → AreLabelled t own (relabelled (label_by (paths_of t) own) (shape_of (paths_of t)))
labelled_page t own long =
    let nodes = paths_of t in
    let f = label_by nodes own in
    let same = relabelled-shape f t in
    let count = length-paths_of t in
    record {
      there = λ v. subst (λ (u : LabelTree). IsSome (node_at v u) ↔ IsSome (node_at v t)) (sym same) (there-relabelled f v t);
      label = λ i less.
          let within : i < length nodes = omega (arith, less, count) in
          let v = get_or nodes i [] in
          ap (label_at v) same ∙ label_at-relabelled f v t ((Contains-paths_of t v).0 (Contains-get_or nodes i [] within))
          ∙ ap Some (label_by-at nodes own i (λ j k lt lt'. one_number t j k (omega (arith, lt, count)) (omega (arith, lt', count))) (long ∙ sym count) within);
    }

module _ (t : LabelTree) (nodes own : List (List ℕ)) (all : nodes ≡ paths_of t) (long : length own ≡ count_of t) where
  pub labels_spread : AreLabelled t own (relabelled (label_by nodes own) (shape_of nodes))
  labels_spread = subst (λ (z : List (List ℕ)). AreLabelled t own (relabelled (label_by z own) (shape_of z))) (sym all) (labelled_page t own long)

  pub related_spread : AreRelated (relabelled (label_by nodes own) (shape_of nodes)) nodes own
  related_spread =
      let is = labels_spread in
      let count : length nodes ≡ count_of t = ap length all ∙ length-paths_of t in
      let at : (k : ℕ) → get_or nodes k [] ≡ get_or (paths_of t) k [] = λ k. ap (λ z. get_or z k []) all in
      record {
        whole = λ v there. subst (λ (z : List (List ℕ)). Contains z v) (sym all) ((Contains-paths_of t v).1 ((is.there v).0 there));
        once = λ i j less less' same. one_number t i j (omega (arith, count, less)) (omega (arith, count, less')) (sym (at i) ∙ same ∙ at j);
        labels = record {
          count = long ∙ sym count;
          each = λ i less. ap (λ z. label_at z (relabelled (label_by nodes own) (shape_of nodes))) (at i) ∙ is.label i (omega (arith, count, less));
        };
      }

-- ---- notes by the numbers of their nodes

pub of_more : (nodes : List (List ℕ)) (ns : List NodeNews) (old new : List (Option ℕ)) (i : ℕ) (o : Option ℕ) → AreNumbersOf nodes ns old i → IsNumberAt nodes (news_at ns i).spot.parent (news_at ns i).spot.step o → new ≡ old ++ o ∷ [] → AreNumbersOf nodes ns new (i + 1)
of_more nodes ns old new i o before here is =
    let count : length old ≡ i = before.count in
    record {
      count = ap length is ∙ length_push old o ∙ ap (λ n. n + 1) count;
      each = λ j less. elim (cases_lt j i) [
        | inl early ↦
            subst (IsNumberAt nodes (news_at ns j).spot.parent (news_at ns j).spot.step) (sym (ap (λ z. get_or z j None) is ∙ get_or_append_left old (o ∷ []) None j (omega (arith, early, count)))) (before.each j early)
        | inr late ↦
            let last : i ≡ j = omega (arith, late, less) in
            subst (λ z. IsNumberAt nodes (news_at ns z).spot.parent (news_at ns z).spot.step (get_or new z None)) last
            (subst (IsNumberAt nodes (news_at ns i).spot.parent (news_at ns i).spot.step) (sym (ap (λ z. get_or z i None) is ∙ get_or_push old o None i count)) here)
      ];
    }

module _ (t : LabelTree) (nodes : List (List ℕ)) (ns : List NodeNews) (numbers : List (Option ℕ)) (rows : List (List ℕ)) (all : nodes ≡ paths_of t) (of : AreNumbersOf nodes ns numbers (length ns)) (by : AreByNumber numbers rows) where
  number_told : (k j : ℕ) → Contains (row_of rows k) j → (j < length ns) × (k < length nodes) × (get_or nodes k [] ≡ note_path nodes (news_at ns j))
  number_told k j there =
      let at = by.only k j there in
      let count = of.count in
      let within = slice_get_within numbers j (Some k) at in
      let less : j < length ns = omega (arith, within, count) in
      let is = subst (IsNumberAt nodes (news_at ns j).spot.parent (news_at ns j).spot.step) (get_or_from_slice_get numbers j (Some k) None at) (of.each j less) in
      (less, is.0, is.1)

  pub by_node : AreByNode nodes ns rows
  by_node = record {
    within = λ k j there. (number_told k j there).0;
    right = λ k j there. sym (number_told k j there).2;
    whole = λ k j less within path.
        let count = of.count in
        let nodes_count : length nodes ≡ count_of t = ap length all ∙ length-paths_of t in
        let listed = slice_get-get_or numbers j None (omega (arith, within, count)) in
        elim (get_or numbers j None) as (λ (o : Option ℕ). IsNumberAt nodes (news_at ns j).spot.parent (news_at ns j).spot.step o → slice_get numbers j ≡ Some o → Contains (row_of rows k) j) [
          | None ↦ λ is at. absurd (is (subst (Contains nodes) (sym path) (Contains-get_or nodes k [] less)))
          | Some m ↦ λ is at.
              let both : get_or (paths_of t) m [] ≡ get_or (paths_of t) k [] = ap (λ z. get_or z m []) (sym all) ∙ is.1 ∙ path ∙ ap (λ z. get_or z k []) all in
              let one : m ≡ k = one_number t m k (let lower = is.0 in omega (arith, lower, nodes_count)) (omega (arith, less, nodes_count)) both in
              subst (λ z. Contains (row_of rows z) j) one (by.whole j m at)
        ] (of.each j within) listed;
  }

-- ---- notes of other nodes

pub again_more : (known : List NodeNews) (s : Spot) (places : List ℕ) (i : ℕ) (first old new : List NodeNews) (next : NodeNews) → i < length places → next ≡ again s (news_at known (get_or places i 0))
    → old ≡ first ++ all_again known s (take i places) → new ≡ old ++ next ∷ [] → new ≡ first ++ all_again known s (take (i + 1) places)
again_more known s places i first old new next less next_is so_far is =
    let f : ℕ → NodeNews = λ p. again s (news_at known p) in
    is ∙ ap (λ z. z ++ next ∷ []) so_far ∙ append_assoc first (map f (take i places)) (next ∷ []) ∙ ap (λ z. first ++ (map f (take i places) ++ z ∷ [])) next_is
    ∙ ap (λ z. first ++ z) (sym (map-append f (take i places) (get_or places i 0 ∷ []))) ∙ ap (λ z. first ++ map f z) (sym (take_more places i 0 less))

-- what stands in the order is the number of a node
pub number_there : {count : ℕ} (order all : List ℕ) (i : ℕ) → i < length order → order ≡ all → ((j : ℕ) → Contains all j → j < count) → get_or order i 0 < count
number_there order all i less same within = within (get_or order i 0) (subst (λ (z : List ℕ). Contains z (get_or order i 0)) same (Contains-get_or order i 0 less))

none_there : (order : List ℕ) (i : ℕ) → Contains (take 0 order) i → ⊥
none_there [] i there = Contains-none i there
none_there (x ∷ order) i there = Contains-none i there

module _ (nodes : List (List ℕ)) (numbers : List ℕ) (known : List NodeNews) (rows : List (List ℕ)) where
  pub again_none : (order : List ℕ) (ns : List NodeNews) → ns ≡ [] → AreAgain nodes numbers known rows (Contains (take 0 order)) ns
  again_none order ns none = record {
    right = λ n there. absurd (Contains-none n (subst (λ (z : List NodeNews). Contains z n) none there));
    whole = λ i p these. absurd (none_there order i these);
  }

  pub again_next : (order : List ℕ) (i number : ℕ) (s : Spot) (old new : List NodeNews) → i < length order → number ≡ get_or order i 0 → IsSpotOf nodes (get_or nodes number []) s → new ≡ old ++ all_again known s (row_of rows (get_or numbers number 0))
      → AreAgain nodes numbers known rows (Contains (take i order)) old → AreAgain nodes numbers known rows (Contains (take (i + 1) order)) new
  again_next order i number s old new less at stands is before =
      let f : ℕ → NodeNews = λ p. again s (news_at known p) in
      let row = row_of rows (get_or numbers number 0) in
      let more : take (i + 1) order ≡ take i order ++ number ∷ [] = take_more order i 0 less ∙ ap (λ z. take i order ++ z ∷ []) (sym at) in
      record {
        right = λ n there. elim (Contains-append_cases old (map f row) n (subst (λ (z : List NodeNews). Contains z n) is there)) [
          | inl early ↦
              let (j, p, these, in_row, same) = before.right n early in
              (j, p, subst (λ (z : List ℕ). Contains z j) (sym more) (Contains-append_left (take i order) (number ∷ []) j these), in_row, same)
          | inr now ↦
              let (p, in_row, same) = map-Contains f row n now in
              let spot : n.spot ≡ s = ap (λ (z : NodeNews). z.spot) same in (
                number,
                p,
                subst (λ (z : List ℕ). Contains z number) (sym more) (Contains-append_right (take i order) (number ∷ []) number (Contains-here number number [] refl)),
                in_row,
                record { stands = subst (IsSpotOf nodes (get_or nodes number [])) (sym spot) stands; same = same ∙ ap (λ z. again z (news_at known p)) (sym spot) },
              )
        ];
        whole = λ j p these in_row. elim (Contains-append_cases (take i order) (number ∷ []) j (subst (λ (z : List ℕ). Contains z j) more these)) [
          | inl early ↦
              let (n, there, same) = before.whole j p early in_row in
              (n, subst (λ (z : List NodeNews). Contains z n) (sym is) (Contains-append_left old (map f row) n there), same)
          | inr now ↦
              let one : number ≡ j = Contains-only number j now in
              let here : Contains row p = subst (λ z. Contains (row_of rows (get_or numbers z 0)) p) (sym one) in_row in (
                f p,
                subst (λ (z : List NodeNews). Contains z (f p)) (sym is) (Contains-append_right old (map f row) (f p) (Contains-map f row p here)),
                record { stands = subst (λ z. IsSpotOf nodes (get_or nodes z []) s) one stands; same = refl },
              )
        ];
      }

  pub again_all : (P Q : ℕ → Type 0) (ns : List NodeNews) → ((i : ℕ) → P i → Q i) → ((i : ℕ) → Q i → P i) → AreAgain nodes numbers known rows P ns → AreAgain nodes numbers known rows Q ns
  again_all P Q ns on back is = record {
    right = λ n there. let (i, p, these, in_row, same) = is.right n there in (i, p, on i these, in_row, same);
    whole = λ i p these in_row. is.whole i p (back i these) in_row;
  }

  pub again_spots : (P : ℕ → Type 0) (ns : List NodeNews) → AreAgain nodes numbers known rows P ns → AreAtSpots nodes ns
  again_spots P ns is n there = let (i, p, these, in_row, same) = is.right n there in same.stands.right

-- ---- the firsts of the notes

-- what of a note is a first
abbrev first_in : NodeNews → ℕ → NodeFirst
first_in n a = record { parent = n.spot.parent; atom = a; step = n.spot.step; round = n.round }

expanded-is : (ns : List NodeNews) (h : NodeFirst) → Contains (expanded ns) h → (n : NodeNews) × (a : ℕ) × Contains ns n × Contains n.atoms a × (h ≡ first_in n a)
expanded-is ns h there =
    let (n, listed, in_n) = flat_map-Contains firsts_in ns h there in
    let (a, in_atoms, is) = map-Contains (first_in n) n.atoms h in_n in
    (n, a, listed, in_atoms, is)

is-expanded : (ns : List NodeNews) (n : NodeNews) (a : ℕ) → Contains ns n → Contains n.atoms a → Contains (expanded ns) (first_in n a)
is-expanded ns n a listed in_atoms = Contains-flat_map firsts_in ns n (first_in n a) listed (Contains-map (first_in n) n.atoms a in_atoms)

module _ (l l' : Labelled) (numbers : List ℕ) (known : List NodeNews) (rows : List (List ℕ)) (ns : List NodeNews) (firsts : placed l.nodes (expanded known) ≡ l.firsts) (by : AreByNode l.nodes known rows)
    (is : AreAgain l'.nodes numbers known rows (λ i. i < length l'.nodes) ns) (within : (i : ℕ) → i < length l'.nodes → get_or numbers i 0 < length l.nodes) where
  moved_right : (f : PageFirst) → Contains (placed l'.nodes (expanded ns)) f → (i : ℕ) × (i < length l'.nodes) × IsMoved numbers l l' i f
  moved_right f there =
      let (h, in_all, f_is) = placed-is l'.nodes (expanded ns) f there in
      let (n, a, listed, in_atoms, h_is) = expanded-is ns h in_all in
      let (i, p, less, in_row, same) = is.right n listed in
      let m = news_at known p in
      let in_m : Contains m.atoms a = subst (λ (z : NodeNews). Contains z.atoms a) same.same in_atoms in
      let round : n.round ≡ m.round = ap (λ (z : NodeNews). z.round) same.same in
      let k = get_or numbers i 0 in
      let g = placed_one l.nodes (first_in m a) in
      let in_known = is-expanded known m a (Contains-get_or known p _ (by.within k p in_row)) in_m in
      let at : path_to l'.nodes n.spot.parent n.spot.step ≡ node_of l' i = same.stands.path in (
        i,
        less,
        record {
          first = g;
          known = subst (λ (z : List PageFirst). Contains z g) firsts (is_placed l.nodes (expanded known) (first_in m a) in_known);
          at = by.right k p in_row;
          same = f_is ∙ ap (placed_one l'.nodes) h_is ∙ (λ x. record { at = at x; atom = a; round = round x });
        },
      )

  moved_whole : (i : ℕ) (g : PageFirst) → i < length l'.nodes → Contains l.firsts g → g.at ≡ from_at l numbers i → Contains (placed l'.nodes (expanded ns)) (moved g (node_of l' i))
  moved_whole i g less there at =
      let (h, in_all, g_is) = placed-is l.nodes (expanded known) g (subst (λ (z : List PageFirst). Contains z g) (sym firsts) there) in
      let (m, a, listed, in_atoms, h_is) = expanded-is known h in_all in
      let (p, p_less, m_is) = listed in
      let m_at : m ≡ news_at known p = sym m_is ∙ get_or_default known p m _ p_less in
      let g_at : g ≡ placed_one l.nodes (first_in m a) = g_is ∙ ap (placed_one l.nodes) h_is in
      let k = get_or numbers i 0 in
      let path : note_path l.nodes (news_at known p) ≡ get_or l.nodes k [] = ap (note_path l.nodes) (sym m_at) ∙ sym (ap (λ (z : PageFirst). z.at) g_at) ∙ at in
      let in_row = by.whole k p (within i less) p_less path in
      let (n, n_listed, same) = is.whole i p less in_row in
      let both : n ≡ again n.spot m = same.same ∙ ap (again n.spot) (sym m_at) in
      let in_n : Contains n.atoms a = subst (λ (z : NodeNews). Contains z.atoms a) (sym both) in_atoms in
      let f_in = is_placed l'.nodes (expanded ns) (first_in n a) (is-expanded ns n a n_listed in_n) in
      let here : path_to l'.nodes n.spot.parent n.spot.step ≡ node_of l' i = same.stands.path in
      let atom : a ≡ g.atom = sym (ap (λ (z : PageFirst). z.atom) g_at) in
      let round : n.round ≡ g.round = ap (λ (z : NodeNews). z.round) both ∙ sym (ap (λ (z : PageFirst). z.round) g_at) in
      let whole : placed_one l'.nodes (first_in n a) ≡ moved g (node_of l' i) = λ x. record { at = here x; atom = atom x; round = round x } in
      subst (Contains (placed l'.nodes (expanded ns))) whole f_in

  pub all_moved : AreMoved numbers l l' (placed l'.nodes (expanded ns))
  all_moved = record { right = moved_right; whole = moved_whole }

-- ---- all of a page

pub spread_all : (t : LabelTree) (numbers : List ℕ) (l bare l' : Labelled) (fs : List PageFirst) → l'.labels ≡ bare.labels → l'.nodes ≡ bare.nodes → l'.firsts ≡ fs → bare.nodes ≡ paths_of t
    → ((v : List ℕ) → IsSome (node_at v bare.labels) ↔ IsSome (node_at v t)) → ((i : ℕ) → i < count_of t → label_at (node_of bare i) bare.labels ≡ label_at (from_at l numbers i) l.labels) → AreMoved numbers l bare fs → IsSpread t numbers l l'
spread_all t numbers l bare l' fs labels nodes firsts all there label is =
    let count : length bare.nodes ≡ count_of t = ap length all ∙ length-paths_of t in
    record {
      nodes = nodes ∙ all;
      there = λ v. subst (λ (u : LabelTree). IsSome (node_at v u) ↔ IsSome (node_at v t)) (sym labels) (there v);
      label = λ i less. ap (λ (z : List (List ℕ)). label_at (get_or z i []) l'.labels) nodes ∙ ap (label_at (node_of bare i)) labels ∙ label i less;
      right = λ f listed.
          let (i, less, here) = is.right f (subst (λ (z : List PageFirst). Contains z f) firsts listed) in
          (i, omega (arith, less, count), record { first = here.first; known = here.known; at = here.at; same = here.same ∙ ap (λ (z : List (List ℕ)). moved here.first (get_or z i [])) (sym nodes) });
      whole = λ i g less listed at.
          subst (λ (z : List PageFirst). Contains z (moved g (node_of l' i))) (sym firsts)
          (subst (λ (z : List (List ℕ)). Contains fs (moved g (get_or z i []))) (sym nodes) (is.whole i g (omega (arith, less, count)) listed at));
    }

pub label_there : (t : LabelTree) (numbers : List ℕ) (l l' : Labelled) (known own : List (List ℕ)) → l'.nodes ≡ paths_of t → length numbers ≡ count_of t → ((i : ℕ) → i < count_of t → get_or numbers i 0 < length l.nodes)
    → AreAllLabels l.labels l.nodes known (length l.nodes) → own ≡ map (λ k. get_or known k []) numbers → AreLabelled t own l'.labels → (i : ℕ) → i < count_of t → label_at (node_of l' i) l'.labels ≡ label_at (from_at l numbers i) l.labels
label_there t numbers l l' known own all count within labels own_is is i less =
    let k = get_or numbers i 0 in
    ap (λ (z : List (List ℕ)). label_at (get_or z i []) l'.labels) all ∙ is.label i less
    ∙ ap (λ (z : List (List ℕ)). Some (get_or z i [])) own_is ∙ ap Some (get_or-map (λ k. get_or known k []) numbers i 0 [] (omega (arith, less, count))) ∙ sym (labels.each k (within i less))
