use Rattle.std.proofs.Common.{IsTrue, inl}
use Rattle.rule_index.proofs.IndexLemmas.{first_rest}
use Rattle.class_adding.specs.declared.looking.Look.{Look}
use Rattle.closed_page.specs.Labelled.{IsHeard}
use Rattle.closed_page.proofs.CallLemmas.{heard_more}
use Rattle.class_adding.proofs.WrittenLemmas.{left_first, left_next, done_next, done_all}
use Rattle.class_adding.proofs.work.call_all.Goals as goal

pub looks-init : goal.looks-init
looks-init c = record { only = c.requires.only; left = λ m there. there; heard = λ m there. inl there }

pub call_if-requires : goal.call_if-requires
call_if-requires c = c.requires.numbers c.in-Some.look.now (left_first c.args.looks.now c.looks.rest.now c.in-Some.look.now c.in-Some.others.now (first_rest c.looks.rest.now c.in-Some.look.now c.in-Some.others.now c.in-Some.ensures.cases) c.looks.invariant.left)

pub looks-preserved : goal.looks-preserved
looks-preserved c =
    let split = first_rest c.looks.rest.now c.in-Some.look.now c.in-Some.others.now c.in-Some.ensures.cases in
    record {
      only = c.in_ok-call_if.ensures.only c.looks.invariant.only;
      left = left_next c.args.looks.now c.looks.rest.now c.in-Some.look.now c.in-Some.others.now split c.looks.invariant.left;
      heard = done_next (λ (m : Look). IsTrue m.grew → IsHeard c.args.labels.now.nodes c.looks.callers m.number) (λ (m : Look). IsTrue m.grew → IsHeard c.args.labels.now.nodes c.call_if.new.callers m.number)
          c.args.looks.now c.looks.rest.now c.in-Some.look.now c.in-Some.others.now split c.looks.invariant.heard
          (λ m h grew. heard_more c.args.labels.now.nodes c.looks.callers c.call_if.new.callers m.number c.in_ok-call_if.ensures.kept (h grew)) c.in_ok-call_if.ensures.heard;
    }

pub returns-clause-heard : goal.returns-clause-heard
returns-clause-heard c = done_all (λ (m : Look). IsTrue m.grew → IsHeard c.args.labels.now.nodes c.looks.callers m.number) c.args.looks.now c.looks.rest.now c.in_default.ensures.cases c.looks.invariant.heard
