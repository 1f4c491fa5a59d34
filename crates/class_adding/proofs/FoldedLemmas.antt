-- A folded page that was closed, and the page whose nodes have what their images have in it.
use Rattle.std.proofs.Common.{◌≡◌, ◌↔◌, ℕ, ◌<◌, List, [], length, get_or, Option, Some, None, IsSome, IsNone, All, Contains, refl, sym, ap, ◌∙◌, arith, subst}
use Rattle.std.proofs.lemmas.List.Elements.{Contains-get_or}
use Rattle.tree_sem.specs.Trees.{LabelTree, node_at, label_at, count_of}
use Rattle.tree_sem.specs.Order.{paths_of}
use Rattle.tree_sem.proofs.EditLemmas.{node_at-label_at}
use Rattle.tree_sem.proofs.NodeLemmas.{Contains-paths_of, length-paths_of}
use Rattle.node_marks.specs.Marks.{path_at}
use Rattle.node_marks.proofs.NumberLemmas.{number_there, one_number}
use Rattle.simple_core.specs.declared.system.System.{System}
use Rattle.simple_core.specs.Rounds.{IsFirst}
use Rattle.simple_core.specs.Pages.{page_round, IsClosed}
use Rattle.simple_core.specs.Pairs.{Pair, Asked}
use Rattle.closed_page.specs.ClosedPages.{IsClosedPage, round_of}
use Rattle.closed_page.specs.Firsts.{AreOfNodes}
use Rattle.closed_page.specs.Labelled.{Labelled, node_of}
use Rattle.closed_page.specs.Spread.{moved, from_at, IsSpread}
use Rattle.closed_page.specs.Views.{PageFirst, firsts_of}
use Rattle.closed_page.proofs.FirstsLemmas.{round_of-some, round_of-none, round_nowhere}
use Rattle.folded_page.specs.Folding.{image_at, IsFolded}
use Rattle.folded_page.proofs.RoundLemmas.{image_node, rounds_folded, asked_folded}

pub asked_back : (s : System) (t u : LabelTree) (numbers : List ℕ) → IsFolded t u numbers → (q : Pair) → Asked s u q ↔ Asked s t q
asked_back s t u numbers is q = let both = asked_folded s t u numbers is q in (both.1, both.0)

pub within_nodes : (t u : LabelTree) (numbers : List ℕ) (nodes : List (List ℕ)) → IsFolded t u numbers → nodes ≡ paths_of u → (i : ℕ) → i < count_of t → get_or numbers i 0 < length nodes
within_nodes t u numbers nodes is all i less =
    let count : length nodes ≡ count_of u = ap (λ (z : List (List ℕ)). length z) all ∙ length-paths_of u in
    let within = is.within i less in
    omega arith

-- the first round of an atom is the same where the labels are
first_alike : (f g : ℕ → List ℕ) (a : ℕ) (o : Option ℕ) → ((k : ℕ) → f k ≡ g k) → IsFirst g a o → IsFirst f a o
first_alike f g a None same first = λ k there. first k (subst (λ (z : List ℕ). Contains z a) (same k) there)
first_alike f g a (Some r) same first = (
  subst (λ (z : List ℕ). Contains z a) (sym (same r)) first.0,
  λ m less there. first.1 m less (subst (λ (z : List ℕ). Contains z a) (same m) there),
)

module _ (s : System) (t u : LabelTree) (numbers : List ℕ) (is : IsFolded t u numbers) (l l' : Labelled) (closed : IsClosedPage s u (record { labels = l.labels; firsts = firsts_of l.firsts }))
    (of : AreOfNodes l.nodes l.firsts) (all : l.nodes ≡ paths_of u) (spread : IsSpread t numbers l l') where
  here_is : (i : ℕ) → node_of l' i ≡ path_at t i
  here_is i = ap (λ z. get_or z i []) spread.nodes

  from_is : (i : ℕ) → from_at l numbers i ≡ image_at u numbers i
  from_is i = ap (λ z. get_or z (get_or numbers i 0) []) all

  pub spread_nodes : AreOfNodes l'.nodes l'.firsts
  spread_nodes = record {
    once = λ i j less less' same. one_number t i j (within i less) (within j less') (sym (here_is i) ∙ same ∙ here_is j);
    there = λ f listed.
        let m = spread.right f listed in
        let at : f.at ≡ node_of l' m.0 = ap (λ (z : PageFirst). z.at) m.2.same in
        let count = length-paths_of t in
        subst (Contains l'.nodes) (sym at) (Contains-get_or l'.nodes m.0 [] (subst (λ (z : List (List ℕ)). m.0 < length z) (sym spread.nodes) (omega (arith, m.1, count))));
    one = λ f g in_f in_g at atom.
        let m = spread.right f in_f in
        let n = spread.right g in_g in
        let at_f : f.at ≡ path_at t m.0 = ap (λ (z : PageFirst). z.at) m.2.same ∙ here_is m.0 in
        let at_g : g.at ≡ path_at t n.0 = ap (λ (z : PageFirst). z.at) n.2.same ∙ here_is n.0 in
        let number : m.0 ≡ n.0 = one_number t m.0 n.0 m.1 n.1 (sym at_f ∙ at ∙ at_g) in
        let one = of.one m.2.first n.2.first m.2.known n.2.known
        (m.2.at ∙ ap (from_at l numbers) number ∙ sym n.2.at)
        (sym (ap (λ (z : PageFirst). z.atom) m.2.same) ∙ atom ∙ ap (λ (z : PageFirst). z.atom) n.2.same) in
        ap (λ (z : PageFirst). z.round) m.2.same ∙ one ∙ sym (ap (λ (z : PageFirst). z.round) n.2.same);
  }
    where
      within : (i : ℕ) → i < length l'.nodes → i < count_of t
      within i less = let count : length l'.nodes ≡ count_of t = ap (λ (z : List (List ℕ)). length z) spread.nodes ∙ length-paths_of t in omega arith

  -- a node's atom has the first round that it has at the image
  spread_round : (i a : ℕ) → i < count_of t → round_of (firsts_of l'.firsts) (path_at t i) a ≡ round_of (firsts_of l.firsts) (image_at u numbers i) a
  spread_round i a less = elim (round_of (firsts_of l'.firsts) v a) as (λ o. round_of (firsts_of l'.firsts) v a ≡ o → o ≡ round_of (firsts_of l.firsts) w a) [
    | None ↦ λ e. elim (round_of (firsts_of l.firsts) w a) as (λ o. round_of (firsts_of l.firsts) w a ≡ o → None ≡ o) [
      | None ↦ λ e'. refl
      | Some r ↦ λ e'.
          let (f, there, at, atom, round) = round_of-some l.firsts w a r e' in
          absurd (round_of-none l'.firsts v a e (moved f (node_of l' i)) (spread.whole i f less there (at ∙ sym (from_is i))) (here_is i) atom)
    ] refl
    | Some r ↦ λ e.
        let (g, there, at, atom, round) = round_of-some l'.firsts v a r e in
        let m = spread.right g there in
        let at_g : path_at t m.0 ≡ v = sym (here_is m.0) ∙ sym (ap (λ (z : PageFirst). z.at) m.2.same) ∙ at in
        let number : m.0 ≡ i = one_number t m.0 i m.1 less at_g in
        let first_at : m.2.first.at ≡ w = m.2.at ∙ from_is m.0 ∙ ap (image_at u numbers) number in
        let first_atom : m.2.first.atom ≡ a = sym (ap (λ (z : PageFirst). z.atom) m.2.same) ∙ atom in
        let first_round : m.2.first.round ≡ r = sym (ap (λ (z : PageFirst). z.round) m.2.same) ∙ round in
        elim (round_of (firsts_of l.firsts) w a) as (λ o. round_of (firsts_of l.firsts) w a ≡ o → Some r ≡ o) [
          | None ↦ λ e'. absurd (round_of-none l.firsts w a e' m.2.first m.2.known first_at first_atom)
          | Some q ↦ λ e'.
              let (h, h_there, h_at, h_atom, h_round) = round_of-some l.firsts w a q e' in
              let one : m.2.first.round ≡ h.round = of.one m.2.first h m.2.known h_there (first_at ∙ sym h_at) (first_atom ∙ sym h_atom) in
              ap Some (sym first_round ∙ one ∙ h_round)
        ] refl
  ] refl
    where
      v : List ℕ
      v = path_at t i

      w : List ℕ
      w = image_at u numbers i

  pub spread_closed : IsClosedPage s t (record { labels = l'.labels; firsts = firsts_of l'.firsts })
  spread_closed = record {
    nodes = spread.there;
    closed = λ v label at.
        let i = number_there t v ((spread.there v).0 ((node_at-label_at v l'.labels).0 (subst (λ (o : Option (List ℕ)). IsSome o) (sym at) refl))) in
        let same : label_at (image_at u numbers i.0) l.labels ≡ Some label =
        ap (λ z. label_at z l.labels) (sym (from_is i.0)) ∙ sym (spread.label i.0 i.1) ∙ ap (λ z. label_at z l'.labels) (here_is i.0 ∙ i.2) ∙ at in
        subst (λ (z : List ℕ). IsClosed s t z label) i.2 (closed_at i.0 i.1 label (closed.closed (image_at u numbers i.0) label same));
    firsts = λ v a node.
        let i = number_there t v node in
        subst (λ (z : List ℕ). IsFirst (λ k. page_round s t k z) a (round_of (firsts_of l'.firsts) z a)) i.2 (first_at i.0 a i.1);
    others = λ v a none. sym (round_nowhere l'.nodes l'.firsts v a spread_nodes (λ listed.
        let node = (Contains-paths_of t v).0 (subst (λ (z : List (List ℕ)). Contains z v) spread.nodes listed) in
        elim (node_at v t) as (λ o. IsNone o → IsSome o → ⊥) [ None ↦ λ h i. cc | Some n ↦ λ h i. cc ] none node));
  }
    where
      closed_at : (i : ℕ) → i < count_of t → (label : List ℕ) → IsClosed s u (image_at u numbers i) label → IsClosed s t (path_at t i) label
      closed_at i less label c = record {
        reached = (c.reached.0, c.reached.1 ∙ sym (rounds_folded s t u numbers is c.reached.0 i less));
        whole = λ k. subst (λ (z : List ℕ). All (Contains label) z) (sym (rounds_folded s t u numbers is k i less)) (c.whole k);
      }

      first_at : (i a : ℕ) → i < count_of t → IsFirst (λ k. page_round s t k (path_at t i)) a (round_of (firsts_of l'.firsts) (path_at t i) a)
      first_at i a less =
          let w = image_at u numbers i in
          let o = round_of (firsts_of l.firsts) w a in
          subst (IsFirst (λ k. page_round s t k (path_at t i)) a) (sym (spread_round i a less))
          (first_alike (λ k. page_round s t k (path_at t i)) (λ k. page_round s u k w) a o (λ k. rounds_folded s t u numbers is k i less) (closed.firsts w a (image_node s t u numbers is i less)))
