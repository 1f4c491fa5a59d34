use Rattle.std.proofs.Common.{codes, refl, ap, ◌∙◌}
use Rattle.std.specs.Prelude.{option_map}
use Rattle.clap.specs.Matches.{found_of, first_value}
use Rattle.widen_sheet.specs.Words.{way_by}
use Rattle.widen_sheet.proofs.ValueLemmas.{order_is}
use Rattle.widen_sheet.proofs.words.ordered.Goals as goal

pub returns-in-Some-clause-order : goal.returns-in-Some-clause-order
returns-in-Some-clause-order c =
    order_is c.args.matches.now c.way_of.result _ c.way_of.ensures c.file_of.ensures ∙ ap (λ o. option_map (λ name. (c.way_of.result, name)) (option_map (λ n. n.now) o)) c.in-Some.is

pub returns-in-None-clause-words : goal.returns-in-None-clause-words
returns-in-None-clause-words c = λ err.
    order_is c.args.matches.now (way_by (first_value (found_of c.args.matches.now) (codes "back"))) _ refl c.file_of.ensures ∙ ap (λ o. option_map (λ name. (way_by (first_value (found_of c.args.matches.now) (codes "back")), name)) (option_map (λ n. n.now) o)) c.in-None.is
