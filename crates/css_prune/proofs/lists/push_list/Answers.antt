use Rattle.std.proofs.Common.{◌++◌, sym, ap, ◌∙◌, arith}
use Rattle.css_prune.proofs.ListLemmas.{fewer, list_ends, list_goes_on, one_found}
use Rattle.css_prune.proofs.lists.push_list.Goals as goal

pub returns-then-left-eq0 : goal.returns-then-left-eq0
returns-then-left-eq0 c =
    let left = fewer _ _ _ _ _ c.in-Some-split_first.ensures.cases.0 c.items.invariant.left c.left_behind-left.ensures in
    let cut = list_ends _ _ c.in-Some.item.now c.in-Some-first.next.now _ _ _ c.in-Some.ensures.cases.0 c.in-Some-split_first.ensures.cases.0 c.items.invariant.count c.in-Some-first.ensures.value (sym left ∙ c.if-left-eq0.true) in
    c.in_ok-push_end.ensures ∙ ap (λ x. c.items.ranges.items ++ x) (sym cut) ∙ c.items.invariant.cuts

pub items-preserved : goal.items-preserved
items-preserved c =
    let left = fewer _ _ _ _ _ c.in-Some-split_first.ensures.cases.0 c.items.invariant.left c.left_behind-left.ensures in
    let cut = list_goes_on _ _ c.in-Some.item.now c.in-Some-first.next.now _ _ _ c.in-Some.ensures.cases.0 c.in-Some-split_first.ensures.cases.0 c.items.invariant.count c.in-Some-first.ensures.value (omega (arith, left)) in
    record {
      count = omega (arith, c.in-Some.ensures.cases.1, c.in-Some-split_first.ensures.cases.1);
      left = left;
      cuts = one_found _ _ _ _ _ _ c.in_ok-push_item.ensures cut c.items.invariant.cuts;
    }
