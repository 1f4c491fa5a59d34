use Rattle.std.proofs.Common.{[], get_or, refl, sym, ◌∙◌, subst}
use Rattle.std.specs.List.Sorted.{IsStrictlyIncreasing}
use Rattle.tp_base.proofs.ClassLemmas.{IsStrictlyIncreasing-union_of}
use Rattle.simple_core.specs.Labels.{given_by_links}
use Rattle.rule_index.proofs.IndexLemmas.{first_rest}
use Rattle.class_adding.proofs.FreshLemmas.{each_next, each_end, none_last, one_last}
use Rattle.class_adding.proofs.looking.add_each.Goals as goal

pub numbers-init : goal.numbers-init
numbers-init c = record { given = refl; rises = c.requires; last = none_last c.args.system.now.down c.args.next.now }

pub add_other-requires-clause-rises : goal.add_other-requires-clause-rises
add_other-requires-clause-rises c = c.numbers.invariant.rises

pub add_other-requires-clause-last : goal.add_other-requires-clause-last
add_other-requires-clause-last c = c.numbers.invariant.last

pub numbers-preserved : goal.numbers-preserved
numbers-preserved c = record {
  given =
      each_next c.args.system.now c.args.own.now c.numbers.next c.add_other.new.next c.numbers.rest.now c.in-Some.number.now c.in-Some.others.now (first_rest c.numbers.rest.now c.in-Some.number.now c.in-Some.others.now c.in-Some.ensures.cases)
      c.in_ok-add_other.ensures ∙ c.numbers.invariant.given;
  rises = subst IsStrictlyIncreasing (sym c.in_ok-add_other.ensures) (IsStrictlyIncreasing-union_of c.numbers.next (given_by_links c.args.system.now.down (get_or c.args.own.now c.in-Some.number.now [])) c.numbers.invariant.rises);
  last = one_last c.args.system.now.down c.args.own.now c.in-Some.number.now c.numbers.next c.add_other.new.next c.numbers.invariant.rises c.in_ok-add_other.ensures;
}

pub returns : goal.returns
returns c = each_end c.args.system.now c.args.own.now c.numbers.next c.args.next.now c.numbers.rest.now c.args.row.now c.in_default.ensures.cases c.numbers.invariant.given
