use Rattle.std.proofs.Common.{◌<◌, Some, length, ap, ◌∙◌, arith}
use Rattle.std.specs.List.{slice_get}
use Rattle.std.proofs.lemmas.List.{length-map}
use Rattle.html_table.specs.declared.stack.Open.{Open}
use Rattle.html_table.specs.Outward.{opened_element}
use Rattle.html_table.proofs.StackLemmas.{opened_at}
use Rattle.html_table.proofs.stack.OpenElements.get.Goals as goal

pub returns : goal.returns
returns c =
    let os = c.self.inside.items.items in
    let less : c.args.index < length os = omega (arith, c.if-index-len.false, c.len.ensures.gives, ap length c.self.view_is, length-map os opened_element) in
    ap (λ (o : Open). Some (opened_element o)) c.index.ensures ∙ opened_at os c.args.index _ less ∙ ap (λ es. slice_get es c.args.index) c.self.view_is
