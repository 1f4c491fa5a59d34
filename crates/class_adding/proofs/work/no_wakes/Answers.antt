use Rattle.std.proofs.Common.{◌+◌, ◌∙◌, ℕ, List, Option, [], length, get_or, None, ap, arith}
use Rattle.std.proofs.lemmas.List.{get_or_past, length_push}
use Rattle.class_adding.proofs.DueLemmas.{none_more}
use Rattle.class_adding.proofs.work.no_wakes.Goals as goal

pub nodes-init : goal.nodes-init
nodes-init c = record {
  long = ap (λ (z : List (Option ℕ)). length z) c.new-wakes.ensures.items;
  within = omega arith;
  none = λ j. ap (λ (z : List (Option ℕ)). get_or z j None) c.new-wakes.ensures.items ∙ get_or_past [] j None (omega arith);
}

pub nodes-preserved : goal.nodes-preserved
nodes-preserved c = record {
  long = ap (λ (z : List (Option ℕ)). length z) c.in_ok-push.ensures.items ∙ length_push c.nodes.wakes.items None ∙ ap (λ n. n + 1) c.nodes.invariant.long;
  within = omega (arith, c.nodes-test.true);
  none = none_more c.nodes.wakes.items c.push.new.self.items c.nodes.i c.in_ok-push.ensures.items c.nodes.invariant.long c.nodes.invariant.none;
}

pub returns-clause-count : goal.returns-clause-count
returns-clause-count c = c.nodes.invariant.long ∙ omega (arith, c.nodes-test.false, c.nodes.invariant.within)

pub returns-clause-none : goal.returns-clause-none
returns-clause-none c = c.nodes.invariant.none
