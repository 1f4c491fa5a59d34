use borrow.Author.Count.{below_more}
use Rattle.std.proofs.Common.{map}
use Rattle.folded_page.specs.Checks.{IsLed}
use Rattle.folded_page.proofs.leads.are_leads.Goals as goal

pub loop-i-preserved : goal.loop-i-preserved
loop-i-preserved c = below_more (IsLed c.args.parents.now (map (λ b. b.now) c.args.labels.now) c.args.leads.now) c.loop-i.i c.loop-i.invariant (c.is_led.ensures c.if-not-is_led.false)
