use Rattle.std.proofs.Common.{[], map, sym, ap, ◌∙◌}
use Rattle.std.specs.Prelude.{option_map, unwrap_or}
use Rattle.std.proofs.lemmas.Result.{IfOk-weaker}
use Rattle.command_words.proofs.ReadLemmas.{names_is}
use Rattle.command_words.proofs.words.names_of.Goals as goal

pub returns-in-None : goal.returns-in-None
returns-in-None c =
    IfOk-weaker c.words_of.result _ _
    (λ w h ps says. h ∙ sym (ap (λ o. unwrap_or o []) (sym c.get_strs.ensures ∙ ap (option_map (λ s. map (λ v. v.now) s.now)) c.in-None.is)) ∙ names_is ps c.args.matches.now says) c.words_of.ensures

pub returns-in-Some : goal.returns-in-Some
returns-in-Some c =
    IfOk-weaker c.words_of-in-Some.result _ _
    (λ w h ps says. h ∙ sym (ap (λ o. unwrap_or o []) (sym c.get_strs.ensures ∙ ap (option_map (λ s. map (λ v. v.now) s.now)) c.in-Some.is)) ∙ names_is ps c.args.matches.now says) c.words_of-in-Some.ensures
