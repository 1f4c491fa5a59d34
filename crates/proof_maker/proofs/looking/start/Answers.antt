use Rattle.std.proofs.Common.{◌≡◌, [], Some, slice_get, refl, ap, subst}
use Rattle.proof_needs.specs.Sets.{IsWith}
use Rattle.proof_needs.specs.Spots.{paths_in, triples_in}
use Rattle.proof_needs.specs.Wants.{want_of}
use Rattle.proof_needs.specs.declared.spots.Spot.TheVariants.{Page}
use Rattle.proof_maker.proofs.looking.start.Goals as goal

pub returns : goal.returns
returns c =
    let nodes = paths_in c.node_number-2.new.nodes.keys in
    record {
      target_is = refl;
      root = c.in_ok-root.root;
      at = subst (λ z. slice_get nodes c.in_ok-root.root ≡ Some z) c.root.ensures c.in_ok-root.ensures.number;
      of_nodes = subst (λ z. IsWith z (λ v. v ≡ []) nodes) (ap paths_in c.new.ensures.empty) (subst (λ z. IsWith (paths_in c.new.result.keys) (λ v. v ≡ z) nodes) c.root.ensures c.in_ok-root.ensures.nodes);
      of_wants = subst (λ z. IsWith z (λ w. w ≡ want_of (Page c.in_ok-root.root) c.args.target) c.want.new.wants.keys) c.new-4.ensures.empty c.in_ok-want.ensures.ok;
      no_triples = ap triples_in c.new-2.ensures.empty;
      no_ties = c.new-3.ensures.items;
      no_drafts = c.new-5.ensures.items;
    }
