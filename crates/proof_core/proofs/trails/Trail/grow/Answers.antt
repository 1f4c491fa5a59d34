use Rattle.std.proofs.Common.{◌+◌, ap, ◌∙◌}
use Rattle.proof_core.specs.Trails.{progress_of}
use Rattle.proof_core.proofs.TrailLemmas.{progress_grows, few_inserted}
use Rattle.proof_core.proofs.trails.Trail.grow.Goals as goal

pub invariant_of-self : goal.invariant_of-self
invariant_of-self c =
    let old = c.args.self.now in
    let sum = c.sum_of-sum.ensures ∙ ap (λ z. z + c.args.n) (c.added.ensures ∙ ap (progress_of old).added c.deref.ensures.value) in
    record { few = few_inserted c.insert.result old.steps.items old.added.entries c.insert.new.self.entries c.args.path c.sum_of-sum.result c.args.n c.insert.ensures.entries c.insert.ensures.err sum old.few c.requires.few }

pub returns : goal.returns
returns c =
    let old = c.args.self.now in
    let sum = c.sum_of-sum.ensures ∙ ap (λ z. z + c.args.n) (c.added.ensures ∙ ap (progress_of old).added c.deref.ensures.value) in
    progress_grows old.steps.items old.added.entries c.insert.new.self.entries c.args.path c.sum_of-sum.result c.args.n c.in_ok-insert.ensures.entries sum
