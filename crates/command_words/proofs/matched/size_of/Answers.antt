use Rattle.std.proofs.Common.{ap, sym, ◌∙◌}
use Rattle.std.specs.Prelude.{option_map}
use Rattle.command_words.specs.Parts.{gen}
use Rattle.command_words.proofs.ReadLemmas.{size_none, size_some, sized, value_is}
use Rattle.command_words.proofs.matched.size_of.Goals as goal

pub returns-in_err-size-in-Some : goal.returns-in_err-size-in-Some
returns-in_err-size-in-Some c = λ ps says.
    let there = sym (value_is ps c.args.matches.now says gen) ∙ sym c.get_str.ensures ∙ ap (option_map (λ s. s.now)) c.in-Some.is in
    c.from_residual.ensures ∙ sym (ap sized c.in_err-size-in-Some.was) ∙ size_some ps c.in-Some.text.now c.number_of.result there c.number_of.ensures

pub returns-in-None : goal.returns-in-None
returns-in-None c = λ ps says. sym (size_none ps (sym (value_is ps c.args.matches.now says gen) ∙ sym c.get_str.ensures ∙ ap (option_map (λ s. s.now)) c.in-None.is))

pub returns-in_ok-size-in-Some : goal.returns-in_ok-size-in-Some
returns-in_ok-size-in-Some c = λ ps says.
    let there = sym (value_is ps c.args.matches.now says gen) ∙ sym c.get_str.ensures ∙ ap (option_map (λ s. s.now)) c.in-Some.is in
    sym (ap sized c.in_ok-size-in-Some.was) ∙ size_some ps c.in-Some.text.now c.number_of.result there c.number_of.ensures
