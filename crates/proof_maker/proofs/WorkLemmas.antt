-- The worklist as the code has it, from one look to the next.
use Rattle.std.proofs.Common.{◌≡◌, ℕ, ◌<◌, ◌≤◌, List, [], ◌∷◌, ◌++◌, length, get_or, Option, Some, None, Result, Ok, Err, IfOk, Vec, slice_get, inl, inr, sym, ap, ◌∙◌, subst, arith}
use Rattle.std.specs.Global.{Global}
use Rattle.std.proofs.lemmas.Option.{slice_get-get_or, slice_get_within}
use Rattle.tp_base.proofs.Lists.{length-push}
use Rattle.tree_sem.specs.Trees.{LabelTree}
use Rattle.simple_core.specs.declared.system.System.{System}
use Rattle.simple_core.specs.Pairs.{Pair, Asked}
use Rattle.proof_needs.specs.declared.needs.Choice.{Choice}
use Rattle.proof_needs.specs.declared.needs.Choice.TheVariants.{Start, Local, Up, Real, Spawn}
use Rattle.proof_needs.specs.declared.spots.Spot.{Spot}
use Rattle.proof_needs.specs.declared.spots.Spot.TheVariants.{Page, Added}
use Rattle.proof_needs.specs.declared.needs.Tie.{Tie}
use Rattle.proof_needs.specs.Choices.{from_down, spawn_kind}
use Rattle.proof_needs.specs.Ties.{TieAt, IsNumbered, IsTieIndex}
use Rattle.proof_maker.specs.declared.glances.Glance.{Glance}
use Rattle.proof_needs.specs.declared.spots.Want.{Want}
use Rattle.proof_needs.specs.declared.needs.Draft.{Draft}
use Rattle.proof_needs.specs.declared.needs.Needs.{Needs}
use Rattle.proof_needs.specs.Following.{Follows, Enters}
use Rattle.proof_maker.specs.Glances.{IsGlance, AsksAt}
use Rattle.proof_needs.specs.Triples.{Triple}
use Rattle.proof_needs.specs.Spots.{paths_in, triples_in, spot_in, IsSpot}
use Rattle.proof_maker.specs.Working.{IsWorking}
use Rattle.proof_maker.specs.Worklist.{AreOwn, IsWorklist}
use Rattle.proof_maker.proofs.LookLemmas.{looked}

pub if_ok : {V E : Type 0} {P Q : V → Type 0} (r : Result V E) → ((v : V) → P v → Q v) → IfOk r P → IfOk r Q
if_ok (Ok v) f h = f v h
if_ok (Err e) f h = tt

-- the next want
pub next_is : (keys wants : List Want) (n drafts : ℕ) (w : Want) → keys ≡ wants → n ≡ drafts → drafts < length wants → w ≡ get_or keys n w → slice_get wants drafts ≡ Some w
next_is keys wants n drafts w same at more is = slice_get-get_or wants drafts w more ∙ ap Some (λ i. get_or (sym same i) (sym at i) w) ∙ ap Some (sym is)

-- ties that are looked up are there
pub tie_index : (s : System) (below : List ℕ) (nodes : List (List ℕ)) (triples triples' : List Triple) (ties ties' : List Tie) → length ties ≡ length triples → (u : Spot) → IsSpot nodes triples u → (c : Choice) (named : Option ℕ) → Enters s below triples triples' ties ties' c named
    → IsTieIndex (length ties') u c named
tie_index s below nodes triples triples' ties ties' count u spot c named enters = (still u spot, known c named enters)
  where
    same_long : (l : List Tie) → l ≡ ties → length l ≡ length ties
    same_long l is = ap length is

    longer : (c : Choice) (named : Option ℕ) → Enters s below triples triples' ties ties' c named → length ties ≤ length ties'
    longer Start named e = omega (arith, same_long ties' e.2)
    longer (Local l) named e = omega (arith, same_long ties' e.2)
    longer (Up l) named e = omega (arith, same_long ties' e.2)
    longer (Real l n) named e = omega (arith, same_long ties' e.2)
    longer (Spawn l c) None e = absurd e
    longer (Spawn l c) (Some n) e = elim e.tie_cases [
      | inl same ↦ omega (arith, same_long ties' same.0)
      | inr new ↦ let long = ap length new.1 ∙ length-push ties new.0 in omega arith
    ]

    still : (u : Spot) → IsSpot nodes triples u → TieAt (length ties') u
    still (Page n) lt = tt
    still (Added n) lt = omega (arith, longer c named enters)

    known : (c : Choice) (named : Option ℕ) → Enters s below triples triples' ties ties' c named → IsNumbered (length ties') c named
    known Start named e = tt
    known (Local l) named e = tt
    known (Up l) named e = tt
    known (Real l n) named e = tt
    known (Spawn l c) None e = absurd e
    known (Spawn l c) (Some n) e =
        let lt = slice_get_within triples' n (record { kind = spawn_kind s c; parent = below; atom = from_down s l }) e.at in
        elim e.tie_cases [
          | inl same ↦ omega (arith, same_long ties' same.0, same.1)
          | inr new ↦ let long = ap length new.1 ∙ length-push ties new.0 in let more = new.4 in omega arith
        ]

module _ (s : System) (page : LabelTree) (known : Pair → Type 0) (asked : (q : Pair) → Asked s page q → known q) (first entered followed : Needs) (working : IsWorking s page known first) (w : Want) (next : slice_get first.wants.keys (length first.drafts.items) ≡ Some w)
    (g : Glance) (glance : IsGlance s page (spot_in (paths_in first.nodes.keys) (triples_in first.triples.keys) w.spot) w.atom g) (asks : AsksAt s known (spot_in (paths_in first.nodes.keys) (triples_in first.triples.keys) w.spot)) (named : Option ℕ)
    (enters : Enters s g.below (triples_in first.triples.keys) (triples_in entered.triples.keys) first.ties.items entered.ties.items g.choice named)
    (same_nodes : entered.nodes ≡ first.nodes) (same_wants : entered.wants ≡ first.wants) (same_drafts : entered.drafts ≡ first.drafts) (same_target : entered.target ≡ first.target)
    (follows : Follows (paths_in entered.nodes.keys) (paths_in followed.nodes.keys) entered.ties.items followed.ties.items entered.wants.keys followed.wants.keys s w.spot g.choice named)
    (still_triples : followed.triples ≡ entered.triples) (still_drafts : followed.drafts ≡ entered.drafts) (still_target : followed.target ≡ entered.target) where
  pub next_working : (drafts : Vec Draft Global) → drafts.items ≡ followed.drafts.items ++ record { round = g.round; choice = g.choice; triple = named } ∷ [] → IsWorking s page known (record followed { drafts = drafts })
  next_working drafts pushed =
      let nodes = paths_in followed.nodes.keys in
      let ties = followed.ties.items in
      let wants = followed.wants.keys in
      let d : Draft = record { round = g.round; choice = g.choice; triple = named } in
      let follows' : Follows (paths_in first.nodes.keys) nodes entered.ties.items ties first.wants.keys wants s w.spot g.choice named
      = subst (λ z. Follows (paths_in first.nodes.keys) nodes entered.ties.items ties z wants s w.spot g.choice named) (λ i. (same_wants i).keys)
      (subst (λ z. Follows z nodes entered.ties.items ties entered.wants.keys wants s w.spot g.choice named) (λ i. paths_in (same_nodes i).keys) follows) in
      let l = looked s page first.target known (paths_in first.nodes.keys) nodes (triples_in first.triples.keys) (triples_in entered.triples.keys) first.ties.items entered.ties.items ties first.wants.keys wants first.drafts.items
      working.list working.own w next d g.below asked asks glance.chosen glance.below enters follows' in
      let triples : triples_in entered.triples.keys ≡ triples_in followed.triples.keys = λ i. triples_in (sym still_triples i).keys in
      let all : first.drafts.items ++ d ∷ [] ≡ drafts.items = (λ i. (sym (still_drafts ∙ same_drafts) i).items ++ d ∷ []) ∙ sym pushed in
      record {
        list = subst (λ z. IsWorklist s page z known nodes (triples_in followed.triples.keys) ties wants drafts.items) (sym (still_target ∙ same_target))
            (subst (λ z. IsWorklist s page first.target known nodes z ties wants drafts.items) triples (subst (λ z. IsWorklist s page first.target known nodes (triples_in entered.triples.keys) ties wants z) all l.0));
        own = subst (λ z. AreOwn z wants) triples l.1;
      }
