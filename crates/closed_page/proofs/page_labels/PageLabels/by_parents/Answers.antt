use Rattle.std.proofs.Common.{◌≡◌, ◌<◌, List, ℕ, length, Contains, sym, ap, arith, subst}
use Rattle.tp_base.proofs.Rising.{Contains-none}
use Rattle.tree_sem.specs.Order.{paths_of}
use Rattle.tree_sem.proofs.NodeLemmas.{length-paths_of}
use Rattle.closed_page.proofs.CallLemmas.{HasKidsOf, row_within, kids_more, number_within, all_told}
use Rattle.closed_page.proofs.page_labels.PageLabels.by_parents.Goals as goal

pub loop-i-init : goal.loop-i-init
loop-i-init c = record {
  within = λ j there. absurd (Contains-none j (subst (λ (z : List ℕ). Contains z j) c.new-numbers.ensures.items there));
  whole = λ d p n less. absurd (omega (arith, less));
  count = c.count-count.ensures;
}

pub kids-requires : goal.kids-requires
kids-requires c = omega (arith, c.loop-i-test.true, c.loop-i.invariant.count)

pub loop-i-preserved : goal.loop-i-preserved
loop-i-preserved c =
    let row = c.kids.result.now in
    let old = c.loop-i.numbers.items in
    let new = c.extend_from_slice.new.self.items in
    let is = c.in_ok-extend_from_slice.ensures.items in
    record {
      within = row_within old row new (length c.args.self.now.nodes) is c.loop-i.invariant.within (λ j there. (c.kids.ensures.kids.only j there).0);
      whole = kids_more c.args.self.now.nodes old row new c.loop-i.i is c.kids.ensures.kids c.loop-i.invariant.whole;
      count = c.loop-i.invariant.count;
    }

pub returns-clause-within : goal.returns-clause-within
returns-clause-within c =
    let count = length-paths_of c.requires.0 in
    let some : 0 < length c.args.self.now.nodes = subst (λ (z : List (List ℕ)). 0 < length z) (sym c.requires.1) (omega (arith, count)) in
    number_within c.loop-i.numbers.items c.push.new.self.items 0 (length c.args.self.now.nodes) c.in_ok-push.ensures.items some c.loop-i.invariant.within

pub returns-clause-whole : goal.returns-clause-whole
returns-clause-whole c =
    let t = c.requires.0 in
    let all : length c.args.self.now.nodes ≡ length (paths_of t) = ap (λ (z : List (List ℕ)). length z) c.requires.1 in
    let told = subst (λ (z : List (List ℕ)). HasKidsOf z c.loop-i.numbers.items c.loop-i.i) c.requires.1 c.loop-i.invariant.whole in
    λ d less. all_told t c.loop-i.numbers.items c.push.new.self.items (λ e p k below. told e p k (omega (arith, below, all, c.loop-i-test.false, c.loop-i.invariant.count))) c.in_ok-push.ensures.items d (omega (arith, less, all))
