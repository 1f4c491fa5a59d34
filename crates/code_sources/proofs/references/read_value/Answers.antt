use Rattle.code_sources.specs.References.{said_from}
use Rattle.code_sources.specs.Views.{part_of}
use Rattle.code_sources.proofs.ReferenceSteps.{goes_on}
use Rattle.code_sources.proofs.references.read_value.Goals as goal

pub parts-preserved : goal.parts-preserved
parts-preserved c =
    rw (c.in_ok-push.ensures, c.both-is_sure.ensures)
    (goes_on c.in-Some.first.now c.in-Some.behind.now c.parts.rest.now c.parts.letters.items c.parts.is_sure (said_from 0 c.args.value.now) (part_of c.read_part-part.result)
    c.in-Some.ensures.cases.0 c.parts.invariant c.read_part-part.ensures.gives c.read_part-part.ensures.rest)
