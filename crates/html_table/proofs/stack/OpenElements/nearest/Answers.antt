use Rattle.std.proofs.Common.{◌≤◌, length, ap, ◌∙◌, arith}
use Rattle.std.proofs.lemmas.List.{length-map}
use Rattle.html_table.specs.declared.stack.Open.{Open}
use Rattle.html_table.specs.Outward.{outward, nearest, opened_element}
use Rattle.html_table.proofs.StackLemmas.{nearest_at}
use Rattle.html_table.proofs.stack.OpenElements.nearest.Goals as goal

pub returns : goal.returns
returns c =
    let os = c.self.inside.items.items in
    let many : c.args.left ≤ length os = omega (arith, c.requires, ap length c.self.view_is, length-map os opened_element) in
    ap (λ (o : Open). o.nearest) c.index.ensures ∙ nearest_at os c.args.left _ c.self.invariant.remembered (omega (arith, c.if-left-eq0.false)) many
    ∙ ap (λ es. nearest (outward c.args.left es)) c.self.view_is
