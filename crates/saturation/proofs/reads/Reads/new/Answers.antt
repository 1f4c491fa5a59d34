use Rattle.saturation.specs.Tables.{noted_in}
use Rattle.saturation.proofs.ReadsLemmas.{all_reads}
use Rattle.saturation.proofs.reads.Reads.new.Goals as goal

pub returns : goal.returns
returns c =
    all_reads c.args.system.now (noted_in c.in_ok-by_needs.by_needs) (noted_in c.in_ok-by_child.by_child) (noted_in c.in_ok-makers.makers)
    c.items.result.now c.items-2.result.now c.items-3.result.now c.items.ensures c.items-2.ensures c.items-3.ensures
    c.in_ok-by_needs.ensures c.in_ok-by_child.ensures c.in_ok-makers.ensures
    c.in_ok-needs.needs c.in_ok-looked_at.field-0 c.in_ok-looked.looked c.items-4.result.now c.items-4.ensures c.in_ok-needs.ensures c.in_ok-looked_at.ensures c.in_ok-looked.ensures
