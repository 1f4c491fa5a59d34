use Rattle.std.proofs.Common.{◌≤◌, IfSome, inl, arith}
use Rattle.rule_index.proofs.IndexLemmas.{first_rest}
use Rattle.class_adding.specs.declared.looking.Look.{Look}
use Rattle.class_adding.proofs.WrittenLemmas.{left_first, left_next, done_next, done_all, until_more}
use Rattle.class_adding.proofs.work.latest_of.Goals as goal

pub looks-init : goal.looks-init
looks-init c = record { left = λ m there. there; least = omega arith; until = λ m there. inl there; bound = λ n less each. less }

pub looks-preserved : goal.looks-preserved
looks-preserved c =
    let split = first_rest c.looks.rest.now c.in-Some.look.now c.in-Some.others.now c.in-Some.ensures.cases in
    let later = c.later_of-later.result in
    let more : c.looks.last ≤ later = c.later_of-later.ensures.least in
    let so_far : c.args.latest ≤ c.looks.last = c.looks.invariant.least in
    record {
      left = left_next c.args.looks.now c.looks.rest.now c.in-Some.look.now c.in-Some.others.now split c.looks.invariant.left;
      least = omega (arith, more, so_far);
      until = done_next (λ (m : Look). IfSome m.wake (λ r. r ≤ c.looks.last)) (λ (m : Look). IfSome m.wake (λ r. r ≤ later)) c.args.looks.now c.looks.rest.now c.in-Some.look.now c.in-Some.others.now split c.looks.invariant.until
          (λ m h. until_more m.wake c.looks.last later more h) c.later_of-later.ensures.until;
      bound = λ n less each. c.later_of-later.ensures.bound n (c.looks.invariant.bound n less each) (each c.in-Some.look.now (left_first c.args.looks.now c.looks.rest.now c.in-Some.look.now c.in-Some.others.now split c.looks.invariant.left));
    }

pub returns-clause-until : goal.returns-clause-until
returns-clause-until c = done_all (λ (m : Look). IfSome m.wake (λ r. r ≤ c.looks.last)) c.args.looks.now c.looks.rest.now c.in_default.ensures.cases c.looks.invariant.until
