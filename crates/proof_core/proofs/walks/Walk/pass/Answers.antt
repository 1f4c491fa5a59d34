use Rattle.std.proofs.Common.{◌++◌, ◌∷◌, [], refl, ap, ◌∙◌}
use Rattle.std.proofs.lemmas.Result.{on_ok_weaker}
use Rattle.proof_check.specs.declared.proofs.Below.TheVariants.{Real}
use Rattle.proof_check.specs.declared.proofs.Reason.TheVariants.{Start, Local, Up, Down}
use Rattle.proof_core.specs.Trails.{progress_of}
use Rattle.proof_core.proofs.PassLemmas.{passed_plain, passed_alone}
use Rattle.proof_core.proofs.WalkLemmas.{goes_by}
use Rattle.proof_core.proofs.WorkLemmas.{less_stay}
use Rattle.proof_core.proofs.walks.Walk.pass.Goals as goal

pub returns-in-Start-clause-on : goal.returns-in-Start-clause-on
returns-in-Start-clause-on c =
    let s = c.args.world.now.system.now in
    let es = c.args.world.now.entries.now in
    let old = c.args.self.now in
    let before = progress_of c.args.trail.now in
    on_ok_weaker c.push.result (λ is. goes_by s es old c.args.item Start c.push.new.self c.plain.result before before c.requires.next is c.in-Start.is refl
    (passed_plain old.at c.plain.result c.args.item.atom c.plain.ensures.atom c.plain.ensures.child c.plain.ensures.way)) c.push.ensures

pub returns-in-Start-clause-work : goal.returns-in-Start-clause-work
returns-in-Start-clause-work c = on_ok_weaker c.push.result (λ is. less_stay c.args.world.now.entries.now c.args.self.now c.args.item c.push.new.self c.plain.result c.requires.next is) c.push.ensures

pub returns-in-Up-clause-on : goal.returns-in-Up-clause-on
returns-in-Up-clause-on c =
    let s = c.args.world.now.system.now in
    let es = c.args.world.now.entries.now in
    let old = c.args.self.now in
    let before = progress_of c.args.trail.now in
    on_ok_weaker c.push-in-Up.result (λ is. goes_by s es old c.args.item (Up c.in-Up.field-0) c.push-in-Up.new.self c.plain-in-Up.result before before c.requires.next is c.in-Up.is refl
    (passed_plain old.at c.plain-in-Up.result c.args.item.atom c.plain-in-Up.ensures.atom c.plain-in-Up.ensures.child c.plain-in-Up.ensures.way)) c.push-in-Up.ensures

pub returns-in-Up-clause-work : goal.returns-in-Up-clause-work
returns-in-Up-clause-work c = on_ok_weaker c.push-in-Up.result (λ is. less_stay c.args.world.now.entries.now c.args.self.now c.args.item c.push-in-Up.new.self c.plain-in-Up.result c.requires.next is) c.push-in-Up.ensures

pub returns-in_ok-after_local-in-Local-clause-on : goal.returns-in_ok-after_local-in-Local-clause-on
returns-in_ok-after_local-in-Local-clause-on c =
    let s = c.args.world.now.system.now in
    let es = c.args.world.now.entries.now in
    let old = c.args.self.now in
    let before = progress_of c.args.trail.now in
    on_ok_weaker c.push-in-Local.result (λ is. goes_by s es old c.args.item (Local c.in-Local.l) c.push-in-Local.new.self c.plain-in-Local.result before (progress_of c.after_local.new.trail) c.requires.next is c.in-Local.is c.in_ok-after_local-in-Local.ensures
    (passed_plain old.at c.plain-in-Local.result c.args.item.atom c.plain-in-Local.ensures.atom c.plain-in-Local.ensures.child c.plain-in-Local.ensures.way)) c.push-in-Local.ensures

pub returns-in_ok-after_local-in-Local-clause-work : goal.returns-in_ok-after_local-in-Local-clause-work
returns-in_ok-after_local-in-Local-clause-work c = on_ok_weaker c.push-in-Local.result (λ is. less_stay c.args.world.now.entries.now c.args.self.now c.args.item c.push-in-Local.new.self c.plain-in-Local.result c.requires.next is) c.push-in-Local.ensures

pub returns-in_ok-pass-in-Down-default-Real-clause-on : goal.returns-in_ok-pass-in-Down-default-Real-clause-on
returns-in_ok-pass-in-Down-default-Real-clause-on c =
    let s = c.args.world.now.system.now in
    let es = c.args.world.now.entries.now in
    let old = c.args.self.now in
    let before = progress_of c.args.trail.now in
    let l = c.in-Down-default-Real.field-0 in
    let k = c.in-Down-default-Real.k in
    let p = c.in_ok-pass-in-Down-default-Real.pass in
    let below = rw c.in-Down-default-Real.is at c.in-Down-default-Real.field-1-is in
    on_ok_weaker c.push-in-Down-default-Real.result (λ is. goes_by s es old c.args.item (Down l (Real k)) c.push-in-Down-default-Real.new.self p before before c.requires.next is (c.in-Down-default-Real.is ∙ ap (Down l) below) refl
    (passed_alone old.at p c.args.item.atom k c.in_ok-pass-in-Down-default-Real.ensures.atom c.in_ok-pass-in-Down-default-Real.ensures.child (c.in_ok-pass-in-Down-default-Real.ensures.way ∙ ap (λ w. w ++ k ∷ []) c.new.ensures.items))) c.push-in-Down-default-Real.ensures

pub returns-in_ok-pass-in-Down-default-Real-clause-work : goal.returns-in_ok-pass-in-Down-default-Real-clause-work
returns-in_ok-pass-in-Down-default-Real-clause-work c = on_ok_weaker c.push-in-Down-default-Real.result (λ is. less_stay c.args.world.now.entries.now c.args.self.now c.args.item c.push-in-Down-default-Real.new.self c.in_ok-pass-in-Down-default-Real.pass c.requires.next is) c.push-in-Down-default-Real.ensures
