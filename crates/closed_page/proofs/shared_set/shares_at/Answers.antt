use Rattle.std.proofs.Common.{◌≡◌, ◌++◌, ◌∷◌, [], List, ℕ, map, take, get_or, sym, ap, ◌∙◌, arith}
use Rattle.std.proofs.lemmas.List.{take_all, take_more, map-append, get_or_default}
use Rattle.closed_page.proofs.shared_set.shares_at.Goals as goal

pub bounds-sets-number : goal.bounds-sets-number
bounds-sets-number c = c.requires c.loop-i.i 0 c.loop-i-test.true

pub loop-i-preserved : goal.loop-i-preserved
loop-i-preserved c =
    let sets = c.args.sets.now in
    let numbers = c.args.numbers.now in
    let f : ℕ → List ℕ = λ k. get_or sets k [] in
    let x = c.index-sets-number.result in
    let number = get_or numbers c.loop-i.i 0 in
    let less = c.requires c.loop-i.i 0 c.loop-i-test.true in
    let here : c.in_ok-share.share ≡ f number = c.in_ok-share.ensures ∙ c.index-sets-number.is ∙ get_or_default sets number x [] less in
    c.in_ok-push.ensures.items ∙ ap (λ (z : List (List ℕ)). z ++ c.in_ok-share.share ∷ []) c.loop-i.invariant ∙ ap (λ (z : List ℕ). map f (take c.loop-i.i numbers) ++ z ∷ []) here
    ∙ sym (map-append f (take c.loop-i.i numbers) (get_or numbers c.loop-i.i 0 ∷ [])) ∙ ap (map f) (sym (take_more numbers c.loop-i.i 0 c.loop-i-test.true))

pub returns : goal.returns
returns c = c.loop-i.invariant ∙ ap (map (λ k. get_or c.args.sets.now k [])) (take_all c.loop-i.i c.args.numbers.now (omega (arith, c.loop-i-test.false)))
