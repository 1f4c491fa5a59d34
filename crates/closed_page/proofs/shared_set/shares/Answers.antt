use Rattle.std.proofs.Common.{◌≡◌, ◌++◌, ◌∷◌, [], List, ℕ, take, get_or, sym, ap, ◌∙◌, arith}
use Rattle.std.proofs.lemmas.List.{take_all, take_more}
use Rattle.closed_page.proofs.shared_set.shares.Goals as goal

pub loop-i-init : goal.loop-i-init
loop-i-init c = c.new-shared.ensures.items

pub loop-i-preserved : goal.loop-i-preserved
loop-i-preserved c =
    let sets = c.args.sets.now in
    let x = c.index-sets-i.result in
    let at : x ≡ get_or sets c.loop-i.i x = c.index-sets-i.is in
    c.in_ok-push.ensures.items ∙ ap (λ (z : List (List ℕ)). z ++ c.in_ok-share.share ∷ []) c.loop-i.invariant ∙ ap (λ (z : List ℕ). take c.loop-i.i sets ++ z ∷ []) (c.in_ok-share.ensures ∙ at)
    ∙ sym (take_more sets c.loop-i.i x c.loop-i-test.true)

pub returns : goal.returns
returns c = c.loop-i.invariant ∙ take_all c.loop-i.i c.args.sets.now (omega (arith, c.loop-i-test.false))
