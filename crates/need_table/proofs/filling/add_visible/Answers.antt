use Rattle.std.proofs.Common.{sym, ◌∙◌}
use Rattle.rule_index.proofs.IndexLemmas.{first_rest}
use Rattle.need_table.proofs.SeenLemmas.{seen_more, seen_same}
use Rattle.need_table.proofs.filling.add_visible.Goals as goal

pub firsts-preserved-in_ok-add : goal.firsts-preserved-in_ok-add
firsts-preserved-in_ok-add c =
    seen_more c.args.system.now c.firsts.seen c.add.new.self c.firsts.rest.now c.in-Some.others.now c.in-Some.first.now
    (first_rest c.firsts.rest.now c.in-Some.first.now c.in-Some.others.now c.in-Some.ensures.cases) (sym c.is_visible.ensures ∙ c.if-is_visible.true) c.in_ok-add.ensures.ok
    ∙ c.firsts.invariant

pub firsts-preserved : goal.firsts-preserved
firsts-preserved c =
    seen_same c.args.system.now c.firsts.seen c.firsts.rest.now c.in-Some.others.now c.in-Some.first.now
    (first_rest c.firsts.rest.now c.in-Some.first.now c.in-Some.others.now c.in-Some.ensures.cases) (sym c.is_visible.ensures ∙ c.if-is_visible.false)
    ∙ c.firsts.invariant
