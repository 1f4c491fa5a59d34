use Rattle.std.proofs.Common.{◌≡◌, ◌∷◌, length}
use Rattle.jq_words.proofs.Orders.{first_within}
use Rattle.jq_words.proofs.words.Words.first.Goals as goal

pub slice_bounds-result-end : goal.slice_bounds-result-end
slice_bounds-result-end c =
    let here : c.self.inside.tokens.now ≡ c.in-Some.token.now ∷ c.in-Some.field-0-1.now = search (c.in-Some.ensures) in
    let sorted = rw here at c.self.invariant.0 in
    first_within c.self.inside.end (length c.self.inside.text.now) c.in-Some.token.now c.in-Some.field-0-1.now sorted
