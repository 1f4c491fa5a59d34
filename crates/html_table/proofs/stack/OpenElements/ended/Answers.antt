use Rattle.std.proofs.Common.{reverse, ap, ◌∙◌}
use Rattle.html_tokens.specs.Bytes.{lowered}
use Rattle.html_table.specs.Outward.{up_to_name}
use Rattle.html_table.proofs.stack.OpenElements.ended.Goals as goal

pub returns-clause-place : goal.returns-clause-place
returns-clause-place c =
    let q = lowered c.args.name.now in
    c.in_ok-found.ensures.place ∙ c.self.invariant.places q ∙ ap (λ xs. up_to_name q (reverse xs)) c.self.view_is
