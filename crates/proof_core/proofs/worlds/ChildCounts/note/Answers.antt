use Rattle.proof_core.specs.Worlds.{known_in}
use Rattle.proof_core.proofs.WorldLemmas.{on_both, noted, not_noted}
use Rattle.proof_core.proofs.worlds.ChildCounts.note.Goals as goal

pub returns-in-Some : goal.returns-in-Some
returns-in-Some c =
    on_both c.add.result c.add.ensures.added c.add.ensures.others
    (λ added others. noted (known_in c.args.self.now) (known_in c.add.new.self) c.args.kind.now c.in-Some.above c.in-Some.is added others)

pub returns-in-None : goal.returns-in-None
returns-in-None c = not_noted (known_in c.args.self.now) c.args.kind.now c.in-None.is
