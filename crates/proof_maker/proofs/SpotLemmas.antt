-- An atom that is wanted comes at its node.
use Rattle.std.proofs.Common.{◌∙◌, ◌≡◌, ℕ, ◌-◌, ◌<◌, List, length, Contains, Some, slice_get, refl, sym, subst}
use Rattle.std.specs.List.Sorted.{IsStrictlyIncreasing}
use Rattle.tp_base.proofs.ClassLemmas.{IsStrictlyIncreasing-cut_to}
use Rattle.tp_base.proofs.Lists.{Contains-at, element_at}
use Rattle.tree_sem.specs.Trees.{LabelTree}
use Rattle.simple_core.specs.declared.system.System.{System}
use Rattle.simple_core.specs.Pairs.{Pair}
use Rattle.simple_core.specs.Rounds.{grown}
use Rattle.simple_core.specs.Pages.{page_round}
use Rattle.simple_core.proofs.RoundLemmas.{grown-rises}
use Rattle.simple_core.proofs.PageLemmas.{page-rises}
use Rattle.proof_maker.specs.declared.glances.Glance.{Glance}
use Rattle.proof_needs.specs.declared.spots.Spot.{Spot}
use Rattle.proof_needs.specs.declared.spots.Spot.TheVariants.{Page, Added}
use Rattle.proof_needs.specs.declared.spots.Want.{Want}
use Rattle.proof_needs.specs.declared.needs.Tie.{Tie}
use Rattle.proof_needs.specs.declared.needs.Draft.{Draft}
use Rattle.proof_maker.specs.Glances.{IsGlance, IsNodeAt, IsTripleAt, IsKeyOf}
use Rattle.proof_maker.specs.Needs.{Used, by_page, by_triple}
use Rattle.proof_needs.specs.Triples.{Triple, page_node, added}
use Rattle.proof_needs.specs.Spots.{spot_in}
use Rattle.proof_maker.specs.Worklist.{IsComing, IsWorklist}
use Rattle.proof_needs.specs.Wants.{want_of}

-- the visible label of a triple that is used rises
used_rises : (s : System) (page : LabelTree) (target : ℕ) (t : Triple) → Used s page target t → IsStrictlyIncreasing t.parent
used_rises s page target t (by_page v a r l c need choice) = IsStrictlyIncreasing-cut_to s.visible (page_round s page (r - 1) v) (page-rises s page (r - 1) v)
used_rises s page target t (by_triple u a r l c used need choice) = IsStrictlyIncreasing-cut_to s.visible (grown s (r - 1) u.kind u.parent) (grown-rises s (r - 1) u.kind u.parent)

module _ (s : System) (page : LabelTree) (target : ℕ) (known : Pair → Type 0) (nodes : List (List ℕ)) (triples : List Triple) (ties : List Tie) (wants : List Want) (drafts : List Draft)
    (list : IsWorklist s page target known nodes triples ties wants drafts) where
  pub node_looked : (n a : ℕ) → Contains wants (want_of (Page n) a) → IsNodeAt s page nodes n a
  node_looked n a in' =
      let is = list.wanted (want_of (Page n) a) in' in
      let x = element_at nodes n is.spot in
      let same : spot_in nodes triples (Page n) ≡ page_node x.0 = rw x.1 refl in
      record { path = x.0; at = x.1; node = list.nodes_there x.0 (Contains-at nodes n x.0 x.1); comes = subst (λ z. IsComing s page target z a) same is.comes }

  pub triple_looked : (n a : ℕ) → Contains wants (want_of (Added n) a) → IsTripleAt s page known triples n a
  triple_looked n a in' =
      let is = list.wanted (want_of (Added n) a) in' in
      let t = element_at triples n is.spot in
      let same : spot_in nodes triples (Added n) ≡ added t.0 = rw t.1 refl in
      record {
        triple = t.0;
        at = t.1;
        pair = list.triples_known t.0 (Contains-at triples n t.0 t.1);
        rises = used_rises s page target t.0 (list.triples_used t.0 (Contains-at triples n t.0 t.1));
        comes = subst (λ z. IsComing s page target z a) same is.comes;
      }

  pub triple_bound : (n a : ℕ) → Contains wants (want_of (Added n) a) → n < length triples
  triple_bound n a in' = (list.wanted (want_of (Added n) a) in').spot

  -- what is looked up at the node, or the added node, of a number
  pub node_glanced : (u : Spot) (n a : ℕ) (g : Glance) → u ≡ Page n → Contains wants (want_of u a) → ((v : List ℕ) → slice_get nodes n ≡ Some v → IsGlance s page (page_node v) a g) → IsGlance s page (spot_in nodes triples u) a g
  node_glanced u n a g is in' glanced =
      let at = node_looked n a (subst (λ z. Contains wants (want_of z a)) is in') in
      let same : page_node at.path ≡ spot_in nodes triples (Page n) = rw at.at refl in
      subst (λ z. IsGlance s page (spot_in nodes triples z) a g) (sym is) (subst (λ z. IsGlance s page z a g) same (glanced at.path at.at))

  pub key_looked : (n a : ℕ) (t : Triple) → slice_get triples n ≡ Some t → Contains wants (want_of (Added n) a) → IsKeyOf s page known t a
  key_looked n a t at in' =
      let x = triple_looked n a in' in
      let both : Some x.triple ≡ Some t = sym x.at ∙ at in
      let same : x.triple ≡ t = cc in
      subst (λ (z : Triple). IsKeyOf s page known z a) same (record { pair = x.pair; rises = x.rises; comes = x.comes })

  pub key_glanced : (u : Spot) (n a : ℕ) (g : Glance) → u ≡ Added n → (t : Triple) → slice_get triples n ≡ Some t → IsGlance s page (added t) a g → IsGlance s page (spot_in nodes triples u) a g
  key_glanced u n a g is t at glanced =
      let same : added t ≡ spot_in nodes triples (Added n) = rw at refl in
      subst (λ z. IsGlance s page (spot_in nodes triples z) a g) (sym is) (subst (λ z. IsGlance s page z a g) same glanced)
