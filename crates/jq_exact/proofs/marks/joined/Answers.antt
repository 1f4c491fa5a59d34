use Rattle.std.proofs.Common.{List, subst, arith}
use Rattle.std.proofs.lemmas.Grind.{common_steps}
use Rattle.std.specs.Vec.Iter.{into_iter_items}
use Rattle.jq_stmts.specs.declared.stmts.Stmt.{Stmt}
use Rattle.jq_exact.specs.Scripts.{exact_in}
use Rattle.jq_exact.proofs.MarkLemmas.{AreJoined, one_joined, all_joined}
use Rattle.jq_exact.proofs.marks.joined.Goals as goal

pub loop-wide-preserved : goal.loop-wide-preserved
loop-wide-preserved c =
    let before = subst (λ (z : List Stmt). AreJoined c.loop-wide.exact.items z (into_iter_items c.loop-wide.marks) (exact_in c.args.script)) c.in-Some.ensures.steps.0 c.loop-wide.invariant in
    let next = c.next_marks-sharp.ensures in
    rw c.in_ok-push.ensures.items
    (one_joined c.loop-wide.exact.items c.in-Some.wide c.next_marks-sharp.result c.next.new.self.rest.items (into_iter_items c.loop-wide.marks) (into_iter_items c.next_marks-sharp.new.marks) (exact_in c.args.script)
    before next.some next.later next.none next.no_more)

pub returns : goal.returns
returns c = all_joined c.loop-wide.exact.items c.loop-wide.wide-iterator.rest.items (into_iter_items c.loop-wide.marks) (exact_in c.args.script) c.loop-wide.invariant (grind (arith, common_steps))
