use Rattle.std.proofs.Common.{[], codes, map, ap, ◌∙◌}
use Rattle.std.specs.Prelude.{option_map, unwrap_or}
use Rattle.std.proofs.lemmas.Result.{IfOk-weaker}
use Rattle.premise_lines.specs.Words.{order_by}
use Rattle.premise_lines.proofs.ValueLemmas.{values_are}
use Rattle.premise_lines.proofs.words.order_with.Goals as goal

pub returns-in-None-clause-words : goal.returns-in-None-clause-words
returns-in-None-clause-words c = λ err.
    ap (order_by (map (λ t. t.now) c.args.excepted.now))
    (values_are c.args.matches.now (codes "files") _ c.get_strs.ensures ∙ ap (λ o. unwrap_or (option_map (λ s. map (λ v. v.now) s.now) o) []) c.in-None.is)

pub returns-in-Some-clause-order : goal.returns-in-Some-clause-order
returns-in-Some-clause-order c =
    IfOk-weaker c.order_by.result _ _
    (λ o h. ap (order_by (map (λ t. t.now) c.args.excepted.now))
    (values_are c.args.matches.now (codes "files") _ c.get_strs.ensures ∙ ap (λ z. unwrap_or (option_map (λ s. map (λ v. v.now) s.now) z) []) c.in-Some.is) ∙ h) c.order_by.ensures.order

pub returns-in-Some-clause-words : goal.returns-in-Some-clause-words
returns-in-Some-clause-words c = λ err.
    ap (order_by (map (λ t. t.now) c.args.excepted.now))
    (values_are c.args.matches.now (codes "files") _ c.get_strs.ensures ∙ ap (λ z. unwrap_or (option_map (λ s. map (λ v. v.now) s.now) z) []) c.in-Some.is) ∙ c.order_by.ensures.words err
