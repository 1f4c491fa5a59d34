use Rattle.std.proofs.Common.{◌∙◌, ◌≡◌, [], List, ℕ, ap}
use Rattle.code_values.specs.Outer.{with_head}
use Rattle.code_values.proofs.OuterSteps.{no_comma, last_part}
use Rattle.code_values.proofs.calls.parts_of.Goals as goal

pub tokens-preserved : goal.tokens-preserved
tokens-preserved c =
    no_comma c.args.script.now.text.now c.args.script.now.code.now c.args.span.to c.tokens.from c.in-Some.at c.tokens.left c.next.new.self c.tokens.parts.items _ c.in-Some.ensures.next
    (c.is_comma.ensures ∙ c.if-is_comma.false) c.tokens.invariant

pub returns : goal.returns
returns c =
    let empty : c.tokens.left ≡ [] = (c.next.ensures.next ∙ ap (λ r. with_head r c.next.new.self) c.in_default.is) ∙ c.next.ensures.end c.in_default.is in
    c.in_ok-push_part-2.ensures ∙ last_part c.args.script.now.text.now c.args.script.now.code.now c.args.span.to c.tokens.from c.tokens.left c.tokens.parts.items _ empty c.tokens.invariant
