use Rattle.std.proofs.Common.{◌≡◌, ◌+◌, ◌<◌, ◌≤◌, ◌*◌, ◌^◌, ◌∷◌, ◌++◌, [], if◌then◌else◌, length, length-append, sym, subst, arith}
use Rattle.proof_core.specs.Trails.{progress_of, step_of_forest}
use Rattle.proof_check.specs.Unfolding.{Progress}
use Rattle.proof_core.proofs.trails.Trail.bring.Goals as goal

pub top_number-number-requires-clause-added : goal.top_number-number-requires-clause-added
top_number-number-requires-clause-added c =
    let few : c.added.result ≤ 4096 * length c.args.self.now.steps.items = subst (λ n. n ≤ 4096 * length c.args.self.now.steps.items) (sym c.added.ensures) (c.args.self.now.few c.deref.result.now) in
    omega (arith, few, c.requires.short)

pub grow-requires : goal.grow-requires
grow-requires c =
    let kind = c.args.kind.now in
    let v = c.in_ok-path.path.items in
    let before = progress_of c.args.self.now in
    let after = step_of_forest kind c.args.at.now c.args.child before in
    let old : before.added v ≤ 4096 * length before.steps = c.args.self.now.few v in
    let longer : length after.steps ≡ length before.steps + 1 = length-append before.steps (record { stmt = kind.stmt; at = if kind.beside then c.args.at.now ++ c.args.child ∷ [] else c.args.at.now } ∷ []) in
    let siblings : kind.siblings ≤ 4096 = c.requires.siblings in
    let small : before.added v < 2 ^ 63 = omega (arith, old, c.requires.short) in
    let room : before.added v + kind.siblings ≤ 4096 * length after.steps = omega (arith, old, siblings, longer) in
    record {
      room = subst (λ (d : Progress). d.added v < 2 ^ 63) (sym c.in_ok-push_forest.ensures) small;
      few = subst (λ (d : Progress). d.added v + kind.siblings ≤ 4096 * length d.steps) (sym c.in_ok-push_forest.ensures) room;
    }
