use Rattle.std.proofs.Common.{rules, refl, sym, ◌∙◌, arith}
use Rattle.sel_text.specs.Parts.{and_then, with_parts}
use Rattle.jq_sem.proofs.SetLemmas.{joined_more, no_joins, all_joined}
use Rattle.jq_sem.proofs.sets.with_joined.Goals as goal

pub joins-init : goal.joins-init
joins-init c = λ s same. (s, same, refl)

pub joins-preserved : goal.joins-preserved
joins-preserved c = λ s same.
    let h = c.joins.invariant s same in
    let j = c.in-Some.join.now in
    let part = c.in-Some-split_first.part.now in
    let more = joined_more h.0 c.joins.between.now c.in-Some.later.now c.joins.right.now c.in-Some-split_first.others.now j part c.in-Some.ensures.cases.0 c.in-Some-split_first.ensures.cases.0 in
    (and_then h.0 j part, c.in_ok-marks.ensures h.0 h.1, more ∙ h.2)

pub returns : goal.returns
returns c = λ s same.
    let h = c.joins.invariant s same in
    let none = no_joins h.0 c.joins.between.now c.joins.right.now (first_of (omega arith, search rules)) in
    all_joined c.args.tree.now c.joins.marks h.0 (with_parts s c.args.joins.now c.args.parts.now) (sym none ∙ h.2) h.1
