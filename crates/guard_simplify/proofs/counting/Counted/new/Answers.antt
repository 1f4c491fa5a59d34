use Rattle.std.proofs.Common.{◌+◌, ◌≤◌, length, map, refl, ap, ◌∙◌, arith}
use Rattle.std.specs.List.{flat_map}
use Rattle.tp_base.specs.declared.atoms.TheConstants.{MOST_ATOMS}
use Rattle.guard_simplify.specs.Asked.{asked_of}
use Rattle.guard_simplify.specs.Firsts.{different}
use Rattle.guard_simplify.specs.Auxiliaries.{same_place}
use Rattle.guard_simplify.specs.Forests.{places_of, owners_of}
use Rattle.guard_simplify.proofs.AtomNumberLemmas.{has_atoms, have_few_nodes}
use Rattle.guard_simplify.proofs.CountingLemmas.{nodes_are, owners_are, few_kinds, too_many}
use Rattle.guard_simplify.proofs.PlantedLemmas.{are_below}
use Rattle.guard_simplify.proofs.SystemLemmas.{as_many}
use Rattle.guard_simplify.proofs.counting.Counted.new.Goals as goal

pub all_forests-requires-clause-few_nodes : goal.all_forests-requires-clause-few_nodes
all_forests-requires-clause-few_nodes c = have_few_nodes c.args.rules.now c.requires.few_nodes

pub returns-then-not-fits : goal.returns-then-not-fits
returns-then-not-fits c =
    let own = c.in_ok-owners.ensures ∙ ap (λ fs. different same_place (flat_map owners_of fs)) c.deref-2.ensures.value in
    let formulas' = c.len.ensures.len in
    let owners' = c.len-2.ensures.len in
    let seen' = c.len-3.ensures.len in
    too_many c.args.rules.now c.in_ok-forests.forests.items c.in_ok-forests.ensures (map asked_of c.args.guards.now) c.args.first c.in_ok-formulas.formulas c.in_ok-formulas.ensures c.in_ok-owners.owners.keys own c.fits.result
    ((λ yes'. let few = c.fits.ensures.0 yes' in omega (arith, few, formulas', owners', seen')), (λ few. c.fits.ensures.1 (omega (arith, few, formulas', owners', seen')))) c.if-not-fits.true

pub invariant_of-result : goal.invariant_of-result
invariant_of-result c =
    let nodes' = c.in_ok-nodes.ensures ∙ ap (λ fs. different same_place (flat_map places_of fs)) c.deref.ensures.value in
    let few = c.fits.ensures.0 c.if-not-fits.false in
    let owners' = c.len-2.ensures.len in
    record {
      kinds = few_kinds c.args.rules.now c.in_ok-forests.forests.items c.in_ok-forests.ensures c.in_ok-nodes.nodes.keys nodes' c.requires.few_nodes;
      atoms = omega (arith, few, owners');
    }

pub invariant_of-result-2 : goal.invariant_of-result-2
invariant_of-result-2 c =
    let few = c.fits.ensures.0 c.if-not-fits.false in
    let formulas' = c.len.ensures.len in
    let owners' = c.len-2.ensures.len in
    let seen' = c.len-3.ensures.len in
    let within' : c.args.first + length c.in_ok-formulas.formulas.keys.keys ≤ MOST_ATOMS = omega (arith, few, formulas') in
    record {
      few_rules = c.requires.few_rules;
      each = as_many c.args.rules.now (map asked_of c.args.guards.now) c.args.first c.in_ok-formulas.formulas c.in_ok-formulas.ensures;
      below = are_below c.args.rules.now c.in_ok-forests.forests.items c.in_ok-forests.ensures;
      behind = ap (λ k. c.args.first + k) formulas';
      within = omega (arith, few, owners', seen');
      atoms = has_atoms c.args.rules.now (map asked_of c.args.guards.now) c.args.first c.in_ok-formulas.formulas c.in_ok-formulas.ensures within';
    }

pub returns : goal.returns
returns c =
    let nodes' = c.in_ok-nodes.ensures ∙ ap (λ fs. different same_place (flat_map places_of fs)) c.deref.ensures.value in
    let own = c.in_ok-owners.ensures ∙ ap (λ fs. different same_place (flat_map owners_of fs)) c.deref-2.ensures.value in (
      refl,
      refl,
      record {
        numbering = c.in_ok-formulas.ensures;
        forests = c.in_ok-forests.ensures;
        nodes = nodes_are c.args.rules.now c.in_ok-forests.forests.items c.in_ok-forests.ensures c.in_ok-nodes.nodes.keys nodes';
        owners = owners_are c.args.rules.now c.in_ok-forests.forests.items c.in_ok-forests.ensures c.in_ok-owners.owners.keys own;
      },
    )
