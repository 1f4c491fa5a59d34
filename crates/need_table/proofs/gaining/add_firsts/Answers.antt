use Rattle.std.proofs.Common.{List, ℕ, [], ◌∷◌, sym, ◌∙◌, subst}
use Rattle.std.specs.List.Sorted.{IsStrictlyIncreasing}
use Rattle.tp_base.proofs.ClassLemmas.{IsStrictlyIncreasing-union_of}
use Rattle.simple_core.specs.Labels.{given_by_links}
use Rattle.rule_index.proofs.IndexLemmas.{first_rest}
use Rattle.simple_core.specs.declared.summaries.First.{First}
use Rattle.need_table.proofs.GainLemmas.{union_next, union_end, firsts_linked}
use Rattle.need_table.proofs.gaining.add_firsts.Goals as goal

pub firsts-preserved : goal.firsts-preserved
firsts-preserved c =
    let give : First → List ℕ = λ f. given_by_links c.args.system.now.down (f.atom ∷ []) in
    record {
      rises = subst IsStrictlyIncreasing (sym c.in_ok-add_down_of.ensures.ok) (IsStrictlyIncreasing-union_of c.firsts.next (give c.in-Some.first.now) c.firsts.invariant.rises);
      given = union_next give c.firsts.next c.add_down_of.new.next c.firsts.rest.now c.in-Some.first.now c.in-Some.others.now (first_rest c.firsts.rest.now c.in-Some.first.now c.in-Some.others.now c.in-Some.ensures.cases) c.in_ok-add_down_of.ensures.ok
          ∙ c.firsts.invariant.given;
    }

pub returns : goal.returns
returns c =
    union_end (λ (f : First). given_by_links c.args.system.now.down (f.atom ∷ [])) c.firsts.next c.args.next.now c.firsts.rest.now c.args.firsts.now c.in_default.ensures.cases c.firsts.invariant.given
    ∙ firsts_linked c.args.system.now.down c.args.firsts.now c.args.next.now c.requires
