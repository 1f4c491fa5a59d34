use Rattle.std.proofs.Common.{◌≡◌, ◌≤◌, List, [], ◌∷◌, ◌++◌, Some, None, length, slice_get, sym, ap, subst, ◌∙◌, arith}
use Rattle.std.specs.Option.{option_copied}
use Rattle.proof_core.specs.Passes.{seen, way_for}
use Rattle.proof_core.specs.NodePasses.{all_seen, seen_at}
use Rattle.proof_core.specs.PagePasses.{seen_in}
use Rattle.proof_core.specs.Trails.{progress_of}
use Rattle.proof_check.specs.Unfolding.{Progress, Passed, child_for, from_of, spawned, end_for, unfold_entry, entry_count}
use Rattle.proof_check.proofs.CountLemmas.{reason_steps, entry_steps}
use Rattle.proof_core.proofs.PassLemmas.{passed_down}
use Rattle.proof_core.proofs.WalkLemmas.{none_is}
use Rattle.proof_core.proofs.WorldLemmas.{few_spawned}
use Rattle.proof_core.proofs.PagePassLemmas.{page_grown}
use Rattle.proof_core.specs.declared.unfolded.TheConstants.{MOST_LISTED}
use Rattle.proof_core.proofs.page_passes.grown_passed.Goals as goal

pub bring-requires-clause-number : goal.bring-requires-clause-number
bring-requires-clause-number c = (few_spawned c.args.world.now.system.now c.args.world.now.siblings c.args.grown.spawn c.in-Some.kind.now (sym c.spawned.ensures ∙ ap option_copied c.in-Some.is)).0

pub bring-requires-clause-siblings : goal.bring-requires-clause-siblings
bring-requires-clause-siblings c = (few_spawned c.args.world.now.system.now c.args.world.now.siblings c.args.grown.spawn c.in-Some.kind.now (sym c.spawned.ensures ∙ ap option_copied c.in-Some.is)).1

pub bring-requires-clause-short : goal.bring-requires-clause-short
bring-requires-clause-short c =
    let s = c.args.world.now.system.now in
    let es = c.args.world.now.entries.now in
    let node = c.args.node.now in
    let x = c.args.item.now in
    let n = length es in
    let steps = reason_steps s (unfold_entry s es n) (entry_count s es n) (entry_steps s es n) x.reason x node.base node.at.now (seen_at node.here.now node.number node.at.now)
    (λ k. seen_in node.nodes.now node.here.now (node.at.now ++ k ∷ [])) (progress_of c.args.trail.now) in
    omega (arith, steps, c.requires.short)

pub entry_passed-requires : goal.entry_passed-requires
entry_passed-requires c =
    let s = c.args.world.now.system.now in
    let es = c.args.world.now.entries.now in
    let after = progress_of c.bring.new.self in
    let whole = page_grown s es c.args.item.now c.args.grown.link c.args.grown.spawn c.args.grown.entry c.child_for-child.result c.in_ok-k.k c.in-Some.kind.now c.args.node.now (progress_of c.args.trail.now) after c.requires.reason (sym c.spawned.ensures ∙ ap option_copied c.in-Some.is)
    (c.child_for-child.ensures c.args.node.now.at.now ∙ ap (λ a. child_for a (seen_at c.args.node.now.here.now c.args.node.now.number c.args.node.now.at.now)) c.needed_by.ensures) c.in_ok-k.ensures.number c.in_ok-k.ensures.trail in
    record {
      short = subst (λ w. length (unfold_entry s es (length es) c.args.grown.entry w after).0.steps ≤ MOST_LISTED) (sym c.in_ok-at.ensures)
          (subst (λ (r : Progress × Passed). length r.0.steps ≤ MOST_LISTED) whole c.requires.short);
    }

pub returns-clause-trail : goal.returns-clause-trail
returns-clause-trail c =
    let s = c.args.world.now.system.now in
    let es = c.args.world.now.entries.now in
    let after = progress_of c.bring.new.self in
    let whole = page_grown s es c.args.item.now c.args.grown.link c.args.grown.spawn c.args.grown.entry c.child_for-child.result c.in_ok-k.k c.in-Some.kind.now c.args.node.now (progress_of c.args.trail.now) after c.requires.reason (sym c.spawned.ensures ∙ ap option_copied c.in-Some.is)
    (c.child_for-child.ensures c.args.node.now.at.now ∙ ap (λ a. child_for a (seen_at c.args.node.now.here.now c.args.node.now.number c.args.node.now.at.now)) c.needed_by.ensures) c.in_ok-k.ensures.number c.in_ok-k.ensures.trail in
    c.in_ok-here.ensures.trail ∙ ap (λ w. (unfold_entry s es (length es) c.args.grown.entry w after).0) c.in_ok-at.ensures ∙ sym (ap (λ (r : Progress × Passed). r.0) whole)

pub returns-clause-pass : goal.returns-clause-pass
returns-clause-pass c =
    let s = c.args.world.now.system.now in
    let es = c.args.world.now.entries.now in
    let node = c.args.node.now in
    let k = c.in_ok-k.k in
    let p = c.in_ok-pass.pass in
    let from = from_of (slice_get s.down c.args.grown.link) in
    let after = progress_of c.bring.new.self in
    let whole = page_grown s es c.args.item.now c.args.grown.link c.args.grown.spawn c.args.grown.entry c.child_for-child.result c.in_ok-k.k c.in-Some.kind.now c.args.node.now (progress_of c.args.trail.now) after c.requires.reason (sym c.spawned.ensures ∙ ap option_copied c.in-Some.is)
    (c.child_for-child.ensures c.args.node.now.at.now ∙ ap (λ a. child_for a (seen_at c.args.node.now.here.now c.args.node.now.number c.args.node.now.at.now)) c.needed_by.ensures) c.in_ok-k.ensures.number c.in_ok-k.ensures.trail in
    let inside = c.in_ok-here.here in
    let child = node.at.now ++ k ∷ [] in
    let is : seen child inside ≡ (unfold_entry s es (length es) c.args.grown.entry child after).1
    = subst (λ w. seen w inside ≡ (unfold_entry s es (length es) c.args.grown.entry w after).1) c.in_ok-at.ensures c.in_ok-here.ensures.here in
    let way = c.in_ok-pass.ensures.way ∙ ap (λ w. w ++ k ∷ []) (c.way_from-way.ensures ∙ ap (λ a. way_for a inside) c.from_of.ensures) in
    let made : List Passed → Passed = λ h. record { atom = c.args.item.now.atom; child = Some k; end = end_for from h child } in
    c.alone.ensures.pass (all_seen node.here.now) node.at.now
    ∙ passed_down node.at.now p c.args.item.now.atom k from inside c.in_ok-pass.ensures.atom c.in_ok-pass.ensures.child way ∙ ap made is ∙ sym (ap (λ (r : Progress × Passed). r.1) whole)

pub returns-in_default-clause-trail : goal.returns-in_default-clause-trail
returns-in_default-clause-trail c =
    let s = c.args.world.now.system.now in
    let es = c.args.world.now.entries.now in
    let node = c.args.node.now in
    let none : spawned s c.args.grown.spawn ≡ None = sym c.spawned.ensures ∙ ap option_copied c.in_default.is in
    sym (ap (λ (r : Progress × Passed). r.0) (none_is s es (unfold_entry s es (length es)) c.args.item.now c.args.grown.link c.args.grown.spawn c.args.grown.entry node.base node.at.now (seen_at node.here.now node.number node.at.now)
    (λ k. seen_in node.nodes.now node.here.now (node.at.now ++ k ∷ [])) (progress_of c.args.trail.now) c.requires.reason none))

pub returns-in_default-clause-pass : goal.returns-in_default-clause-pass
returns-in_default-clause-pass c =
    let s = c.args.world.now.system.now in
    let es = c.args.world.now.entries.now in
    let node = c.args.node.now in
    let none : spawned s c.args.grown.spawn ≡ None = sym c.spawned.ensures ∙ ap option_copied c.in_default.is in
    c.stays.ensures.pass (all_seen node.here.now) node.at.now
    ∙ sym (ap (λ (r : Progress × Passed). r.1) (none_is s es (unfold_entry s es (length es)) c.args.item.now c.args.grown.link c.args.grown.spawn c.args.grown.entry node.base node.at.now (seen_at node.here.now node.number node.at.now)
    (λ k. seen_in node.nodes.now node.here.now (node.at.now ++ k ∷ [])) (progress_of c.args.trail.now) c.requires.reason none))
