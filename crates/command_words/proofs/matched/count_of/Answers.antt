use Rattle.std.proofs.Common.{[], map, length, sym, ap, ◌∙◌}
use Rattle.std.specs.Prelude.{option_map, unwrap_or}
use Rattle.std.proofs.lemmas.List.{length-map}
use Rattle.command_words.proofs.ReadLemmas.{names_is}
use Rattle.command_words.proofs.matched.count_of.Goals as goal

pub returns-in-None : goal.returns-in-None
returns-in-None c = λ ps says.
    ap length (sym (ap (λ o. unwrap_or o []) (sym c.get_strs.ensures ∙ ap (option_map (λ s. map (λ v. v.now) s.now)) c.in-None.is)) ∙ names_is ps c.args.matches.now says)

pub returns-in-Some : goal.returns-in-Some
returns-in-Some c = λ ps says.
    sym (length-map c.in-Some.names.now (λ v. v.now))
    ∙ ap length (sym (ap (λ o. unwrap_or o []) (sym c.get_strs.ensures ∙ ap (option_map (λ s. map (λ v. v.now) s.now)) c.in-Some.is)) ∙ names_is ps c.args.matches.now says)
