use Rattle.std.proofs.Common.{sym, ◌∙◌, subst}
use Rattle.std.specs.List.Sorted.{IsStrictlyIncreasing}
use Rattle.tp_base.proofs.ClassLemmas.{IsStrictlyIncreasing-union_of}
use Rattle.need_table.specs.Turns.{given_at}
use Rattle.rule_index.proofs.IndexLemmas.{first_rest}
use Rattle.need_table.proofs.GainLemmas.{union_next, union_end}
use Rattle.need_table.proofs.gaining.add_children.Goals as goal

pub places-preserved : goal.places-preserved
places-preserved c =
    let give = given_at c.args.system.now c.args.entries.now c.args.from c.args.to in
    record {
      rises = subst IsStrictlyIncreasing (sym c.in_ok-add_child.ensures) (IsStrictlyIncreasing-union_of c.places.next (give c.in-Some.j.now) c.places.invariant.rises);
      given = union_next give c.places.next c.add_child.new.next c.places.rest.now c.in-Some.j.now c.in-Some.others.now (first_rest c.places.rest.now c.in-Some.j.now c.in-Some.others.now c.in-Some.ensures.cases) c.in_ok-add_child.ensures
          ∙ c.places.invariant.given;
    }

pub returns : goal.returns
returns c = union_end (given_at c.args.system.now c.args.entries.now c.args.from c.args.to) c.places.next c.args.next.now c.places.rest.now c.args.children.now c.in_default.ensures.cases c.places.invariant.given
