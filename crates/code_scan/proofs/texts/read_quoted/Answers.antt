use Rattle.std.proofs.Common.{◌≡◌, List, ℕ, sym, subst}
use Rattle.text_bytes.proofs.Rests.{of_rest, dropped}
use Rattle.code_scan.specs.Texts.{next_part, text_from}
use Rattle.code_scan.specs.Views.{part_in}
use Rattle.code_scan.proofs.TextSteps.{goes_on, stops}
use Rattle.code_scan.proofs.texts.read_quoted.Goals as goal

pub returns-in-Some-end_of-clause-gives : goal.returns-in-Some-end_of-clause-gives
returns-in-Some-end_of-clause-gives c =
    rw c.new.ensures (stops c.args.quote c.parts.rest.now c.in-Some-end_of.others.now c.parts.letters.items c.parts.sure c.in-Some-end_of.ending (text_from c.args.quote 0 c.args.text.now) c.parts.invariant.reads c.in-Some-end_of.ensures.gives)

pub parts-preserved : goal.parts-preserved
parts-preserved c =
    let next = c.next_part-next.result in
    let is = c.in-Some.ensures.cases.0 in
    let found = subst (λ (bs : List ℕ). next_part c.in-Some.first.now c.in-Some.behind.now ≡ part_in bs next) (sym is) c.next_part-next.ensures.gives in
    record {
      rest = of_rest c.args.text.now c.parts.rest.now c.split_at.result.1.now c.parts.invariant.rest (rw c.split_at.ensures.back (dropped next.len c.parts.rest.now));
      reads = rw (c.in_ok-push.ensures, c.both-sure.ensures, c.split_at.ensures.front, c.split_at.ensures.back)
          (goes_on c.args.quote c.in-Some.first.now c.in-Some.behind.now c.parts.rest.now c.parts.letters.items c.parts.sure (text_from c.args.quote 0 c.args.text.now) (part_in c.parts.rest.now next)
          is c.parts.invariant.reads c.in_default-end_of.ensures.gives found c.next_part-next.ensures.within.0);
    }
