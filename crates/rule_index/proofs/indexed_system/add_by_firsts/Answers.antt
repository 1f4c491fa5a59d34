use Rattle.std.proofs.Common.{◌+◌, ◌∙◌, ap, sym, refl, subst, List, Contains}
use Rattle.simple_core.specs.declared.summaries.First.{First}
use Rattle.tp_base.proofs.Rising.{Contains-here, Contains-behind}
use Rattle.rule_index.specs.Indexes.{at_row, given_in}
use Rattle.row_index.specs.Rows.{row_of}
use Rattle.rule_index.proofs.IndexLemmas.{first_rest, firsts_next, firsts_end, kept_then, between_firsts, on_err}
use Rattle.rule_index.proofs.indexed_system.add_by_firsts.Goals as goal

pub add_rules_by-requires : goal.add_rules_by-requires
add_rules_by-requires c =
    let f = c.in-Some.first.now in
    c.firsts.invariant.left f (subst (λ (z : List First). Contains z f) (sym (first_rest c.firsts.rest.now f c.in-Some.others.now c.in-Some.ensures.cases)) (Contains-here f f c.in-Some.others.now refl))

pub firsts-preserved : goal.firsts-preserved
firsts-preserved c =
    let split = first_rest c.firsts.rest.now c.in-Some.first.now c.in-Some.others.now c.in-Some.ensures.cases in
    record {
      given =
          firsts_next (given_in c.args.label.now) c.args.rules.now c.args.index.now (λ a. a + 1) c.firsts.next c.add_rules_by.new.next c.of.result.now c.firsts.rest.now c.in-Some.first.now c.in-Some.others.now
          split (c.of.ensures ∙ ap (λ z. row_of c.args.index.now (z + 1)) c.atom.view_is) c.in_ok-add_rules_by.ensures.ok
          ∙ c.firsts.invariant.given;
      kept = kept_then c.args.next.now c.firsts.next c.add_rules_by.new.next (at_row (given_in c.args.label.now) c.args.rules.now c.of.result.now) c.firsts.invariant.kept c.in_ok-add_rules_by.ensures.ok;
      left = λ f there. c.firsts.invariant.left f (subst (λ (z : List First). Contains z f) (sym split) (Contains-behind f c.in-Some.first.now c.in-Some.others.now there));
    }

pub returns-clause-ok : goal.returns-clause-ok
returns-clause-ok c = firsts_end (given_in c.args.label.now) c.args.rules.now c.args.index.now (λ a. a + 1) c.firsts.next c.args.next.now c.firsts.rest.now c.args.fresh.now c.in_default.ensures.cases c.firsts.invariant.given

pub returns-in_err-add_rules_by-clause-err : goal.returns-in_err-add_rules_by-clause-err
returns-in_err-add_rules_by-clause-err c =
    on_err _ c.from_residual.result (between_firsts (given_in c.args.label.now) c.args.rules.now c.args.index.now (λ a. a + 1) c.args.next.now c.firsts.next c.add_rules_by.new.next c.of.result.now c.firsts.rest.now c.in-Some.first.now
    c.in-Some.others.now c.args.fresh.now (first_rest c.firsts.rest.now c.in-Some.first.now c.in-Some.others.now c.in-Some.ensures.cases) (c.of.ensures ∙ ap (λ z. row_of c.args.index.now (z + 1)) c.atom.view_is)
    c.firsts.invariant.given c.firsts.invariant.kept c.in_err-add_rules_by.ensures.err)
