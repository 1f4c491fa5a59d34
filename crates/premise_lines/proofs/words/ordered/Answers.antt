use Rattle.std.proofs.Common.{[], codes, map, ap, ◌∙◌}
use Rattle.std.specs.Prelude.{option_map, unwrap_or}
use Rattle.std.proofs.lemmas.Result.{IfOk-weaker}
use Rattle.clap.specs.Matches.{found_of}
use Rattle.clap.specs.Walk.{rows_of}
use Rattle.premise_lines.specs.Words.{all_in, order_by}
use Rattle.premise_lines.proofs.ValueLemmas.{values_are}
use Rattle.premise_lines.proofs.words.ordered.Goals as goal

pub returns-in-None-clause-order : goal.returns-in-None-clause-order
returns-in-None-clause-order c =
    IfOk-weaker c.order_with.result _ _
    (λ o h. ap (λ z. order_by z (all_in (codes "files") (rows_of (found_of c.args.matches.now))))
    (values_are c.args.matches.now (codes "except") _ c.get_strs.ensures ∙ ap (λ z. unwrap_or (option_map (λ s. map (λ v. v.now) s.now) z) []) c.in-None.is) ∙ h) c.order_with.ensures.order

pub returns-in-None-clause-words : goal.returns-in-None-clause-words
returns-in-None-clause-words c = λ err.
    ap (λ z. order_by z (all_in (codes "files") (rows_of (found_of c.args.matches.now))))
    (values_are c.args.matches.now (codes "except") _ c.get_strs.ensures ∙ ap (λ z. unwrap_or (option_map (λ s. map (λ v. v.now) s.now) z) []) c.in-None.is) ∙ c.order_with.ensures.words err

pub returns-in-Some-clause-order : goal.returns-in-Some-clause-order
returns-in-Some-clause-order c =
    IfOk-weaker c.order_with-in-Some.result _ _
    (λ o h. ap (λ z. order_by z (all_in (codes "files") (rows_of (found_of c.args.matches.now))))
    (values_are c.args.matches.now (codes "except") _ c.get_strs.ensures ∙ ap (λ z. unwrap_or (option_map (λ s. map (λ v. v.now) s.now) z) []) c.in-Some.is) ∙ h) c.order_with-in-Some.ensures.order

pub returns-in-Some-clause-words : goal.returns-in-Some-clause-words
returns-in-Some-clause-words c = λ err.
    ap (λ z. order_by z (all_in (codes "files") (rows_of (found_of c.args.matches.now))))
    (values_are c.args.matches.now (codes "except") _ c.get_strs.ensures ∙ ap (λ z. unwrap_or (option_map (λ s. map (λ v. v.now) s.now) z) []) c.in-Some.is) ∙ c.order_with-in-Some.ensures.words err
