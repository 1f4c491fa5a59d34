use Rattle.rule_index.proofs.IndexLemmas.{first_rest}
use Rattle.class_adding.proofs.WrittenLemmas.{waiting_start, waiting_next, waiting_all}
use Rattle.class_adding.proofs.work.wait_all.Goals as goal

pub looks-init : goal.looks-init
looks-init c = waiting_start c.args.awaited.now c.args.looks.now

pub looks-preserved : goal.looks-preserved
looks-preserved c =
    waiting_next c.args.awaited.now c.looks.awaited c.wait.new.awaited c.args.looks.now c.looks.rest.now c.in-Some.look.now c.in-Some.others.now (first_rest c.looks.rest.now c.in-Some.look.now c.in-Some.others.now c.in-Some.ensures.cases) c.looks.invariant c.in_ok-wait.ensures

pub returns : goal.returns
returns c = waiting_all c.args.awaited.now c.looks.awaited c.args.looks.now c.looks.rest.now c.in_default.ensures.cases c.looks.invariant
