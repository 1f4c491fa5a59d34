use Rattle.std.proofs.Common.{◌≡◌, ◌++◌, [], length, sym, ap, ◌∙◌}
use Rattle.std.proofs.lemmas.List.{append-nil}
use Rattle.proof_core.specs.declared.walks.Level.{Level}
use Rattle.proof_check.specs.Unfolding.{unfold_entry}
use Rattle.proof_core.specs.Walks.{node_of, frames_rest, level_rest}
use Rattle.proof_core.proofs.WalkLemmas.{level_starts}
use Rattle.proof_core.proofs.walks.Walk.of.Goals as goal

pub returns-clause-stands : goal.returns-clause-stands
returns-clause-stands c = sym (ap (node_of c.args.at) c.new-stack.ensures.items ∙ append-nil c.args.at)

pub returns-clause-whole : goal.returns-clause-whole
returns-clause-whole c = λ done.
    let s = c.args.world.now.system.now in
    let es = c.args.world.now.entries.now in
    let level : Level = record { entry = c.args.entry; depth = length c.items-depth.result.now; here = c.new-here.result } in
    let depth = ap length c.items-depth.ensures in
    ap (λ fs. frames_rest s es fs c.args.at (λ w. level_rest s es level w done)) c.new-stack.ensures.items
    ∙ level_starts s es level c.args.at done c.new-here.ensures ∙ ap (λ n. unfold_entry s es n c.args.entry c.args.at done) depth
