use Rattle.std.proofs.Common.{sym, ap, ◌∙◌}
use Rattle.html_tokens.specs.Bytes.{lowered}
use Rattle.html_table.specs.Elements.{Element}
use Rattle.html_table.proofs.RawLemmas.{void_not_raw}
use Rattle.html_table.proofs.stack.new_element.Goals as goal

pub returns-then-is_void-clause-raw : goal.returns-then-is_void-clause-raw
returns-then-is_void-clause-raw c =
    void_not_raw (lowered c.args.name.now) c.new-element.result.kind (ap (λ (e : Element). e.kind) c.new-element.ensures) (sym c.is_void.ensures ∙ c.if-is_void.true)
