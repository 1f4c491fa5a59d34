use Rattle.std.proofs.Common.{◌≡◌, ◌+◌, ◌<◌, ◌≤◌, ◌∷◌, length, drop, get_or, suc, sym, ap, ◌∙◌, refl, arith}
use Rattle.std.proofs.lemmas.List.{drop_more, drop_all}
use Rattle.jq_sem.proofs.SetLemmas.{on_ok}
use Rattle.jq_exact.proofs.TogetherLemmas.{all_left, one_handled, none_handled}
use Rattle.jq_exact.proofs.evaluation.selected.Goals as goal

pub handlers-init : goal.handlers-init
handlers-init c = all_left c.args.tree.now c.args.s.now c.args.s.now.wide.handlers refl

pub handlers-preserved : goal.handlers-preserved
handlers-preserved c =
    let all = c.args.s.now.wide.handlers in
    let n = c.handlers.number in
    let h = c.index-handlers-number.result in
    let within : n < length all = rw c.items-handlers.ensures at c.handlers-test.true in
    let is : h ≡ get_or all n h = rw c.items-handlers.ensures at c.index-handlers-number.is in
    let next : drop n all ≡ h ∷ drop (n + 1) all = drop_more all n h within ∙ ap (λ z. z ∷ drop (n + 1) all) (sym is) in
    one_handled c.args.tree.now c.args.s.now c.handlers.named n (n + 1) (drop n all) (drop (n + 1) all) h c.in_ok-marks.marks next (omega arith) (rw c.items-sharp.ensures at c.in_ok-marks.ensures) c.handlers.invariant

pub returns : goal.returns
returns c =
    let all = c.args.s.now.wide.handlers in
    let over = rw c.items-handlers.ensures at c.handlers-test.false in
    let past : length all ≤ c.handlers.number = omega (arith, over) in
    let made = rw c.items-sharp.ensures at c.of_chain-2.ensures in
    on_ok c.of_chain-2.result _ _ (λ m made. none_handled c.args.tree.now c.args.s.now c.handlers.named c.handlers.number (drop c.handlers.number all) m (drop_all c.handlers.number all past) c.handlers.invariant made) made
