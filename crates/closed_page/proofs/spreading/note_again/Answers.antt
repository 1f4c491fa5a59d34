use Rattle.std.proofs.Common.{◌++◌, ap, ◌∙◌, arith}
use Rattle.std.proofs.lemmas.List.{take_all}
use Rattle.std.proofs.lemmas.List.Elements.{Contains-get_or}
use Rattle.closed_page.specs.Spreading.{all_again}
use Rattle.closed_page.proofs.SpreadLemmas.{again_more}
use Rattle.closed_page.proofs.spreading.note_again.Goals as goal

pub again_at-requires : goal.again_at-requires
again_at-requires c = c.requires _ (Contains-get_or c.args.places.now c.loop-i.i 0 c.loop-i-test.true)

pub loop-i-preserved : goal.loop-i-preserved
loop-i-preserved c =
    again_more c.args.known.now c.args.spot c.args.places.now c.loop-i.i c.args.notes.now.items c.loop-i.notes.items c.push.new.self.items c.in_ok-next.next c.loop-i-test.true c.in_ok-next.ensures c.loop-i.invariant c.in_ok-push.ensures.items

pub returns : goal.returns
returns c = c.loop-i.invariant ∙ ap (λ z. c.args.notes.now.items ++ all_again c.args.known.now c.args.spot z) (take_all c.loop-i.i c.args.places.now (omega (arith, c.loop-i-test.false)))
