use Rattle.std.proofs.Common.{◌∙◌, sym, subst}
use Rattle.tp_base.specs.Classes.{union_of}
use Rattle.gathered.specs.Between.{IsBetween}
use Rattle.gathered.proofs.MovingLemmas.{one_new, one_known, next_union, on_err, between_left, kept_more}
use Rattle.gathered.proofs.moving.add_each.Goals as goal

pub atoms-preserved-in_ok-push : goal.atoms-preserved-in_ok-push
atoms-preserved-in_ok-push c = record {
  set = next_union c.atoms.set c.add.new.self c.atoms.rest.now c.in-Some.others.now c.in-Some.atom.now c.in-Some.ensures.cases.0 c.in_ok-add.ensures.ok ∙ c.atoms.invariant.set;
  news = one_new c.args.set.now c.atoms.set c.add.new.self c.in-Some.atom.now c.in_ok-add.ensures.ok c.in_ok-add.field-0 c.in_ok-add.ensures.test c.if-branch.true c.atoms.news.items c.push.new.self.items c.in_ok-push.ensures.items c.atoms.invariant.news;
}

pub atoms-preserved : goal.atoms-preserved
atoms-preserved c = record {
  set = next_union c.atoms.set c.add.new.self c.atoms.rest.now c.in-Some.others.now c.in-Some.atom.now c.in-Some.ensures.cases.0 c.in_ok-add.ensures.ok ∙ c.atoms.invariant.set;
  news = one_known c.args.set.now c.atoms.set c.add.new.self c.in-Some.atom.now c.in_ok-add.ensures.ok c.in_ok-add.field-0 c.in_ok-add.ensures.test c.if-branch.false c.atoms.news.items c.atoms.invariant.news;
}

pub returns-in_err-add-clause-between : goal.returns-in_err-add-clause-between
returns-in_err-add-clause-between c =
    let same = c.in_err-add.ensures.err in
    on_err _ c.from_residual.result (subst (IsBetween c.args.set.now (union_of c.args.set.now c.args.atoms.now)) (sym same) (between_left c.args.set.now c.args.atoms.now c.atoms.set c.atoms.rest.now c.atoms.invariant.set c.atoms.invariant.news.kept))

pub returns-in_err-push-clause-between : goal.returns-in_err-push-clause-between
returns-in_err-push-clause-between c =
    let more = c.in_ok-add.ensures.ok in
    on_err _ c.from_residual-in_err-push.result (between_left c.args.set.now c.args.atoms.now c.add.new.self c.in-Some.others.now
    (next_union c.atoms.set c.add.new.self c.atoms.rest.now c.in-Some.others.now c.in-Some.atom.now c.in-Some.ensures.cases.0 more ∙ c.atoms.invariant.set)
    (kept_more c.args.set.now c.atoms.set c.add.new.self c.in-Some.atom.now more c.atoms.invariant.news.kept))
