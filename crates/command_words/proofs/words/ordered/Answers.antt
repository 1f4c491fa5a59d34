use Rattle.std.proofs.Common.{rules, ◌≡◌, true, is_some, sym, ◌∙◌}
use Rattle.command_words.specs.Orders.{is_named}
use Rattle.command_words.proofs.ReadLemmas.{is_ordered}
use Rattle.command_words.proofs.words.ordered.Goals as goal

pub returns-clause-order : goal.returns-clause-order
returns-clause-order c = λ ps says.
    let named : is_named c.in-Some.mode (is_some c.in-Some-size_of.size) c.count_of.result ≡ true = search rules in
    is_ordered ps c.in-Some.mode c.in-Some-limits_of.limits c.in-Some-size_of.size c.count_of.result c.in_ok-names.names (sym (c.mode_of.ensures ps says) ∙ c.in-Some.is) (sym (c.limits_of.ensures ps says) ∙ c.in-Some-limits_of.is)
    (sym (c.size_of.ensures ps says) ∙ c.in-Some-size_of.is) (c.count_of.ensures ps says) named (c.in_ok-names.ensures ps says)
