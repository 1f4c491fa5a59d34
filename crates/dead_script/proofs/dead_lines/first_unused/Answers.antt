use Rattle.std.proofs.Common.{◌<◌, All, length, sym, ◌∙◌, ap, subst, arith}
use Rattle.std.proofs.lemmas.List.Elements.{All-head, All-rest}
use Rattle.dead_script.proofs.DeadLemmas.{dead_later}
use Rattle.dead_script.proofs.dead_lines.first_unused.Goals as goal

pub handlers-preserved : goal.handlers-preserved
handlers-preserved c =
    let split = c.in-Some.ensures.cases.0 in
    let known = subst (All (λ k. k < length c.args.answers.now)) split c.handlers.invariant.known in
    let less = All-head (λ k. k < length c.args.answers.now) c.in-Some.asked.now c.in-Some.later.now known in
    record {
      counted = omega (arith, c.handlers.invariant.counted, ap length split);
      known = All-rest (λ k. k < length c.args.answers.now) c.in-Some.asked.now c.in-Some.later.now c.handlers.rest.now split c.handlers.invariant.known;
      behind =
          sym (dead_later c.args.answers.now c.handlers.rest.now c.in-Some.later.now c.in-Some.asked.now c.handlers.number c.index-answers-asked.result split less c.index-answers-asked.is c.if-is_unused.ensures)
          ∙ c.handlers.invariant.behind;
    }
