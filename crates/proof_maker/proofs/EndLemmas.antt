-- The beginning and the end of the worklist, and what is made of it.
use Rattle.std.proofs.Common.{◌≡◌, ℕ, ◌<◌, List, [], length, Contains, Option, Some, None, IsSome, IsSomeAnd, slice_get, inl, inr, refl, sym, subst, arith}
use Rattle.std.proofs.lemmas.Option.{slice_get_within}
use Rattle.tp_base.proofs.Lists.{Contains-at}
use Rattle.tp_base.proofs.Rising.{Contains-none}
use Rattle.tree_sem.specs.Trees.{LabelTree, node_at, label_at}
use Rattle.tree_sem.specs.Nodes.{HasAtom}
use Rattle.simple_core.specs.declared.system.System.{System}
use Rattle.simple_core.specs.Pairs.{Pair}
use Rattle.simple_core.proofs.PageLemmas.{closed_is}
use Rattle.closed_page.specs.ClosedPages.{ClosedPage, IsClosedPage}
use Rattle.proof_check.specs.declared.proofs.ProofItem.{ProofItem}
use Rattle.proof_needs.specs.declared.needs.Choice.{Choice}
use Rattle.proof_needs.specs.declared.needs.Choice.TheVariants.{Start, Local, Up, Real, Spawn}
use Rattle.proof_needs.specs.declared.spots.Spot.TheVariants.{Page}
use Rattle.proof_needs.specs.declared.spots.Want.{Want}
use Rattle.proof_needs.specs.declared.needs.Tie.{Tie}
use Rattle.proof_needs.specs.declared.needs.Draft.{Draft}
use Rattle.proof_needs.specs.declared.needs.Needs.{Needs}
use Rattle.proof_maker.specs.Items.{reason_with, item_at}
use Rattle.proof_maker.specs.Needs.{triple_by, Needed, goal, IsReason, IsItem, UsesMore}
use Rattle.proof_needs.specs.Triples.{Triple, page_node}
use Rattle.proof_needs.specs.Triples.{Spot as Where}
use Rattle.proof_maker.specs.Reasons.{reason_of}
use Rattle.proof_needs.specs.Sets.{IsWith}
use Rattle.proof_needs.specs.Spots.{paths_in, triples_in, spot_in}
use Rattle.proof_maker.specs.Working.{IsWorking, IsStart}
use Rattle.proof_maker.specs.Worklist.{AreOwn, IsTripleOf, IsComing, IsWanted, IsWorklist}
use Rattle.proof_needs.specs.Wants.{want_of}

-- with more triples than the limit more are used
pub uses_more : (s : System) (page : LabelTree) (target limit : ℕ) (known : Pair → Type 0) (nodes : List (List ℕ)) (triples : List Triple) (ties : List Tie) (wants : List Want) (drafts : List Draft)
    → IsWorklist s page target known nodes triples ties wants drafts → limit < length triples → UsesMore s page target limit
uses_more s page target limit known nodes triples ties wants drafts list more = record { triples = triples; different = list.triples_distinct; used = list.triples_used; more = more }

-- the target alone is a worklist
module _ (s : System) (page : LabelTree) (target : ℕ) (known : Pair → Type 0) (nodes : List (List ℕ)) (wants : List Want) (root : ℕ) (at : slice_get nodes root ≡ Some []) (of_nodes : IsWith [] (λ v. v ≡ []) nodes)
    (of_wants : IsWith [] (λ w. w ≡ want_of (Page root) target) wants) (comes : IsComing s page target (page_node []) target) where
  pub start_list : IsWorklist s page target known nodes [] [] wants []
  start_list = record {
    root = (root, at, of_wants.all (want_of (Page root) target) refl);
    nodes_there = λ v in'. elim (of_nodes.within v in') [ inl old ↦ absurd (Contains-none v old) | inr same ↦ subst (λ z. IsSome (node_at z page)) (sym same) refl ];
    triples_known = λ t in'. absurd (Contains-none t in');
    triples_used = λ t in'. absurd (Contains-none t in');
    nodes_distinct = of_nodes.distinct (λ i j x at at'. cc);
    triples_distinct = λ i j x at at'. cc;
    wants_distinct = of_wants.distinct (λ i j x at at'. cc);
    wanted = λ w in'. elim (of_wants.within w in') [ inl old ↦ absurd (Contains-none w old) | inr same ↦ subst (IsWanted s page target nodes []) (sym same) here ];
    tie_count = refl;
    each_tie = λ n t tie at at'. cc;
    few = omega arith;
    each_draft = λ i w d at at'. cc;
    followed = λ i w d at at'. no_draft i d at';
  }
    where
      no_draft : {P : Type 0} (i : ℕ) (d : Draft) → slice_get {X = Draft} [] i ≡ Some d → P
      no_draft i d at = cc

      same_spot : spot_in nodes [] (Page root) ≡ page_node []
      same_spot = rw at refl

      here : IsWanted s page target nodes [] (want_of (Page root) target)
      here = record {
        spot = slice_get_within nodes root [] at;
        needed = subst (λ z. Needed s page target z target) (sym same_spot) goal;
        comes = subst (λ z. IsComing s page target z target) (sym same_spot) comes;
      }

  pub start_own : AreOwn [] wants
  start_own n t at = no_triple_at n t at
    where
      no_triple_at : {P : Type 0} (n : ℕ) (t : Triple) → slice_get {X = Triple} [] n ≡ Some t → P
      no_triple_at n t at = cc

-- an atom of the closed page comes
pub target_comes : (s : System) (page : LabelTree) (target : ℕ) (c : ClosedPage) → IsClosedPage s page c → HasAtom c.labels [] target → IsComing s page target (page_node []) target
target_comes s page target c closed has =
    elim (label_at [] c.labels) as (λ o. label_at [] c.labels ≡ o → IsSomeAnd o (λ label. Contains label target) → IsComing s page target (page_node []) target) [
      | None ↦ λ e h. absurd h
      | Some label ↦ λ e h. closed_is s page [] label (closed.closed [] label e) target h
    ] refl has

-- the first worklist of the code
pub start_right : (s : System) (page : LabelTree) (target : ℕ) (known : Pair → Type 0) (n : Needs) → IsStart target n → IsComing s page target (page_node []) target → IsWorking s page known n
start_right s page target known n start comes =
    let nodes = paths_in n.nodes.keys in
    let list = start_list s page target known nodes n.wants.keys start.root start.at start.of_nodes start.of_wants comes in
    let own = start_own s page target known nodes n.wants.keys start.root start.at start.of_nodes start.of_wants comes in
    record {
      list = subst (λ z. IsWorklist s page z known nodes (triples_in n.triples.keys) n.ties.items n.wants.keys n.drafts.items) (sym start.target_is)
          (subst (λ z. IsWorklist s page target known nodes z n.ties.items n.wants.keys n.drafts.items) (sym start.no_triples)
          (subst (λ z. IsWorklist s page target known nodes [] z n.wants.keys n.drafts.items) (sym start.no_ties)
          (subst (λ z. IsWorklist s page target known nodes [] [] n.wants.keys z) (sym start.no_drafts) list)));
      own = subst (λ z. AreOwn z n.wants.keys) (sym start.no_triples) own;
    }

-- an item that is made of a want and its draft, where the triples are listed by their numbers
pub item_is : (s : System) (page : LabelTree) (target : ℕ) (known : Pair → Type 0) (nodes : List (List ℕ)) (triples : List Triple) (ties : List Tie) (wants : List Want) (drafts : List Draft) → IsWorklist s page target known nodes triples ties wants drafts
    → (listed : List Triple) (number : ℕ → ℕ) (i : ℕ) (w : Want) (d : Draft) → slice_get wants i ≡ Some w → slice_get drafts i ≡ Some d → ((n : ℕ) (t : Triple) → d.triple ≡ Some n → slice_get triples n ≡ Some t → slice_get listed (number n) ≡ Some t)
    → IsItem s page target listed (spot_in nodes triples w.spot) (item_at wants drafts number i)
item_is s page target known nodes triples ties wants drafts list listed number i w d at at' numbered =
    let draft = list.each_draft i w d at at' in
    let spot = spot_in nodes triples w.spot in
    let item : ProofItem = record { atom = w.atom; reason = reason_with number d.choice d.triple } in
    let same : item ≡ item_at wants drafts number i = rw (at, at') refl in
    subst (IsItem s page target listed spot) same (record {
      needed = (list.wanted w (Contains-at wants i w at)).needed;
      round = d.round;
      first = draft.chosen.first;
      reason = subst (λ z. IsReason s page target listed spot d.round z (reason_with number d.choice d.triple)) (sym draft.chosen.choice) (by_choice spot d.round d.choice d.triple draft.triple numbered);
    })
  where
    by_choice : (spot : Where) (r : ℕ) (c : Choice) (named : Option ℕ) → IsTripleOf s page triples spot r c named → ((n : ℕ) (t : Triple) → named ≡ Some n → slice_get triples n ≡ Some t → slice_get listed (number n) ≡ Some t)
        → IsReason s page target listed spot r (reason_of c) (reason_with number c named)
    by_choice spot r Start named triple numbered = refl
    by_choice spot r (Local l) named triple numbered = refl
    by_choice spot r (Up l) named triple numbered = refl
    by_choice spot r (Real l n) named triple numbered = refl
    by_choice spot r (Spawn l c) None triple numbered = absurd triple
    by_choice spot r (Spawn l c) (Some n) triple numbered = (number n, numbered n (triple_by s page spot r l c) refl triple, refl)
