-- The first rounds at the end.
use Rattle.std.proofs.Common.{◌≡◌, ◌↔◌, ℕ, List, [], length, get_or, Some, None, is_some, IsNone, IsSome, Contains, refl, sym, ap, ◌∙◌, arith, subst}
use Rattle.std.proofs.lemmas.Bool.{both_ways}
use Rattle.tree_sem.specs.Trees.{LabelTree, node_at, label_at, count_of}
use Rattle.tree_sem.specs.Order.{paths_of}
use Rattle.tree_sem.proofs.EditLemmas.{node_at-label_at}
use Rattle.tree_sem.proofs.NodeLemmas.{Contains-paths_of, length-paths_of}
use Rattle.simple_core.specs.declared.system.System.{System}
use Rattle.simple_core.specs.Rounds.{IsFirst}
use Rattle.simple_core.specs.Pages.{page_round}
use Rattle.simple_core.specs.Pairs.{Pair}
use Rattle.simple_core.proofs.RestLemmas.{first_one}
use Rattle.closed_page.specs.Views.{PageFirst, firsts_of}
use Rattle.closed_page.specs.ClosedPages.{ClosedPage, IsClosedPage, HasNoOthers, round_of}
use Rattle.closed_page.specs.Firsts.{AreOfNodes}
use Rattle.closed_page.proofs.LabelledLemmas.{one_number}
use Rattle.class_adding.proofs.EndLemmas.{IsClosing}

pub firsts_placed : (s : System) (t u : LabelTree) (firsts : List PageFirst) (k : ℕ) (known : Pair → Type 0) (nodes : List (List ℕ)) → nodes ≡ paths_of t → IsClosing s t u firsts k known → AreOfNodes nodes firsts
firsts_placed s t u firsts k known nodes all f = record {
  once = λ i j less less' same.
      let count : length nodes ≡ count_of t = ap (λ (z : List (List ℕ)). length z) all ∙ length-paths_of t in
      let at : (m : ℕ) → get_or nodes m [] ≡ get_or (paths_of t) m [] = λ m. ap (λ z. get_or z m []) all in
      one_number t i j (omega (arith, count, less)) (omega (arith, count, less')) (sym (at i) ∙ same ∙ at j);
  there = λ g listed. subst (λ (z : List (List ℕ)). Contains z g.at) (sym all) ((Contains-paths_of t g.at).1 (f.are.right g listed).0);
  one = λ g h in_g in_h at atom.
      let first : IsFirst (λ m. page_round s t m g.at) g.atom (Some g.round) = (f.are.right g in_g).1 in
      let second : IsFirst (λ m. page_round s t m g.at) g.atom (Some h.round) =
      subst (λ z. IsFirst (λ m. page_round s t m g.at) z (Some h.round)) (sym atom) (subst (λ (z : List ℕ). IsFirst (λ m. page_round s t m z) h.atom (Some h.round)) (sym at) (f.are.right h in_h).1) in
      let both : Some g.round ≡ Some h.round = first_one (λ m. page_round s t m g.at) g.atom (Some g.round) (Some h.round) first second in
      cc;
}

pub no_others : (s : System) (t : LabelTree) (c : ClosedPage) → IsClosedPage s t c → HasNoOthers c.labels c.firsts
no_others s t c is v a none =
    let never : IsSome (node_at v t) → ⊥ = λ some. both_ways (is_some (label_at v c.labels)) none ((node_at-label_at v c.labels).1 ((is.nodes v).1 some)) in
    let nowhere : IsNone (node_at v t) = elim (node_at v t) as (λ o. (IsSome o → ⊥) → IsNone o) [ None ↦ λ h. refl | Some n ↦ λ h. absurd (h refl) ] never in
    is.others v a nowhere

-- a page is closed whatever the order of its firsts, if they say the same
pub closed_same : (s : System) (t u : LabelTree) (firsts : List PageFirst) (c : ClosedPage) → IsClosedPage s t (record { labels = u; firsts = firsts_of firsts }) → c.labels ≡ u
    → ((v : List ℕ) (a : ℕ) → round_of c.firsts v a ≡ round_of (firsts_of firsts) v a) → IsClosedPage s t c
closed_same s t u firsts c is labels rounds = record {
  nodes = λ v. subst (λ (z : LabelTree). IsSome (node_at v z) ↔ IsSome (node_at v t)) (sym labels) (is.nodes v);
  closed = λ v label at. is.closed v label (ap (label_at v) (sym labels) ∙ at);
  firsts = λ v a node. subst (IsFirst (λ k. page_round s t k v) a) (sym (rounds v a)) (is.firsts v a node);
  others = λ v a none. rounds v a ∙ is.others v a none;
}
