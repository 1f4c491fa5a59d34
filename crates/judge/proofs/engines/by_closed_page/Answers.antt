use Rattle.std.proofs.Common.{map}
use Rattle.usage_report.specs.Views.{answer_of}
use Rattle.judge.proofs.UnusedLemmas.{unused_made}
use Rattle.judge.proofs.engines.by_closed_page.Goals as goal

pub returns-else-is_any_seen : goal.returns-else-is_any_seen
returns-else-is_any_seen g c =
    unused_made c.args.question.now.made.now.system c.args.question.now.page.now c.args.question.now.limits.now c.args.closed.now.labels.label
    (λ v. map answer_of v.items) c.all_unused.result c.items-seen.result.now c.args.question.now.made.now.seen c.is_any_seen.result c.items-seen.ensures c.is_any_seen.ensures c.if-is_any_seen.false c.all_unused.ensures
