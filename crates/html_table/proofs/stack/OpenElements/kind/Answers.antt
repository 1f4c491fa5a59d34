use Rattle.std.proofs.Common.{◌≤◌, Some, length, ap, ◌∙◌, arith}
use Rattle.std.proofs.lemmas.List.{length-map}
use Rattle.html_table.specs.declared.stack.Open.{Open}
use Rattle.html_table.specs.Outward.{outward, first_kind, opened_element}
use Rattle.html_table.proofs.StackLemmas.{kind_at}
use Rattle.html_table.proofs.stack.OpenElements.kind.Goals as goal

pub returns : goal.returns
returns c =
    let os = c.self.inside.items.items in
    let many : c.args.left ≤ length os = omega (arith, c.requires, ap length c.self.view_is, length-map os opened_element) in
    ap (λ (o : Open). Some o.element.kind) c.index.ensures ∙ kind_at os c.args.left _ (omega (arith, c.if-left-eq0.false)) many
    ∙ ap (λ es. first_kind (outward c.args.left es)) c.self.view_is
