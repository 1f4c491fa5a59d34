use Rattle.std.proofs.Common.{◌≡◌, ◌<◌, ◌++◌, List, ℕ, [], length, get_or, Contains, sym, ap, ◌∙◌, arith, subst}
use Rattle.std.specs.List.Sorted.{IsStrictlyIncreasing}
use Rattle.std.proofs.lemmas.List.{take_all, length-map, get_or-map}
use Rattle.std.proofs.lemmas.List.Elements.{Contains-get_or}
use Rattle.tree_sem.specs.Trees.{LabelTree}
use Rattle.tree_sem.specs.Order.{paths_of}
use Rattle.closed_page.specs.Gains.{label_in, firsts_at, starts, paths_at}
use Rattle.closed_page.proofs.GainLemmas.{start_next, rising_next, starts_all, order_whole}
use Rattle.closed_page.proofs.page_labels.PageLabels.new.Goals as goal

pub by_parents-requires : goal.by_parents-requires
by_parents-requires c = (c.args.page.now, c.in_ok-labels.ensures.nodes)

pub note_own-requires-clause-number : goal.note_own-requires-clause-number
note_own-requires-clause-number c =
    let order = c.as_slice-order.result.now in
    let there : Contains c.in_ok-numbers.numbers.items (get_or order c.loop-i.i 0) = subst (λ (z : List ℕ). Contains z (get_or order c.loop-i.i 0)) c.as_slice-order.ensures.value (Contains-get_or order c.loop-i.i 0 c.loop-i-test.true) in
    let less = c.in_ok-numbers.ensures.within (get_or order c.loop-i.i 0) there in
    let first = ap (λ (z : List (List ℕ)). length z) c.in_ok-labels.ensures.nodes in
    let now = ap (λ (z : List (List ℕ)). length z) c.loop-i.invariant.nodes in
    omega (arith, less, first, now)

pub loop-i-preserved : goal.loop-i-preserved
loop-i-preserved c =
    let t = c.args.page.now in
    let order = c.as_slice-order.result.now in
    let nodes = paths_at (paths_of t) order in
    let i = c.loop-i.i in
    let number = get_or order i 0 in
    let l = c.loop-i.labels in
    let test = c.loop-i-test.true in
    let count = length-map order (λ d. get_or (paths_of t) d []) in
    let less : i < length nodes = omega (arith, test, count) in
    let at_nodes = c.loop-i.invariant.nodes in
    let at_labels = c.loop-i.invariant.labels in
    let at : get_or l.nodes number [] ≡ get_or nodes i [] = ap (λ (z : List (List ℕ)). get_or z number []) at_nodes ∙ sym (get_or-map (λ d. get_or (paths_of t) d []) order i 0 [] test) in
    let more = subst (λ (z : List ℕ). c.note_own.new.self.firsts ≡ l.firsts ++ firsts_at z [] (label_in t z) 0) at
    (subst (λ (z : LabelTree). c.note_own.new.self.firsts ≡ l.firsts ++ firsts_at (get_or l.nodes number []) [] (label_in z (get_or l.nodes number [])) 0) at_labels c.in_ok-note_own.ensures.firsts) in
    let up = subst (λ (z : List ℕ). IsStrictlyIncreasing (label_in t z)) at (subst (λ (z : LabelTree). IsStrictlyIncreasing (label_in z (get_or l.nodes number []))) at_labels c.note_own.ensures.rising) in
    record {
      labels = c.note_own.ensures.labels ∙ at_labels;
      nodes = c.note_own.ensures.nodes ∙ at_nodes;
      firsts = start_next t nodes i l.firsts c.note_own.new.self.firsts [] less c.loop-i.invariant.firsts more;
      rising = rising_next (λ v. IsStrictlyIncreasing (label_in t v)) nodes i less up c.loop-i.invariant.rising;
      few = c.note_own.ensures.few;
    }

pub returns-clause-firsts : goal.returns-clause-firsts
returns-clause-firsts c =
    let t = c.args.page.now in
    let order = c.as_slice-order.result.now in
    let nodes = paths_at (paths_of t) order in
    let count = length-map order (λ d. get_or (paths_of t) d []) in
    let all = take_all c.loop-i.i nodes (omega (arith, c.loop-i-test.false, count)) in
    let long = ap (λ (z : List (List ℕ)). length z) c.in_ok-labels.ensures.nodes in
    let same = c.as_slice-order.ensures.value in
    starts_all t (paths_of t) order c.loop-i.labels.firsts (c.loop-i.invariant.firsts ∙ ap (starts t) all)
    (λ d there. let less = c.in_ok-numbers.ensures.within d (subst (λ (z : List ℕ). Contains z d) same there) in omega (arith, less, long))
    (λ d less. subst (λ (z : List ℕ). Contains z d) (sym same) (c.in_ok-numbers.ensures.whole d (omega (arith, less, long))))

pub returns-clause-rising : goal.returns-clause-rising
returns-clause-rising c =
    let t = c.args.page.now in
    let order = c.as_slice-order.result.now in
    let nodes = paths_at (paths_of t) order in
    let count = length-map order (λ d. get_or (paths_of t) d []) in
    let all = take_all c.loop-i.i nodes (omega (arith, c.loop-i-test.false, count)) in
    let long = ap (λ (z : List (List ℕ)). length z) c.in_ok-labels.ensures.nodes in
    let same = c.as_slice-order.ensures.value in
    let whole = order_whole (paths_of t) order (λ d less. subst (λ (z : List ℕ). Contains z d) (sym same) (c.in_ok-numbers.ensures.whole d (omega (arith, less, long)))) in
    λ v there. c.loop-i.invariant.rising v (subst (λ (z : List (List ℕ)). Contains z v) (sym all) (whole v there))
