use Rattle.std.proofs.Common.{[], refl}
use Rattle.tp_base.specs.Classes.{union_of}
use Rattle.gathered.proofs.MovingLemmas.{on_err, between_same}
use Rattle.gathered.proofs.moving.move_many.Goals as goal

pub returns-in_err-from_slice-clause-between : goal.returns-in_err-from_slice-clause-between
returns-in_err-from_slice-clause-between c = on_err _ c.from_residual.result (between_same c.args.set.now (union_of [] c.args.atoms.now) c.args.set.now refl)

pub returns-in_err-given-clause-between : goal.returns-in_err-given-clause-between
returns-in_err-given-clause-between c = on_err _ c.from_residual-in_err-given.result (between_same c.args.set.now (union_of [] c.args.atoms.now) c.args.set.now refl)

pub returns-in_err-add_news-clause-between : goal.returns-in_err-add_news-clause-between
returns-in_err-add_news-clause-between c = on_err _ c.from_residual-in_err-add_news.result (between_same c.args.set.now (union_of [] c.args.atoms.now) c.args.set.now refl)

pub returns-in_err-union-clause-between : goal.returns-in_err-union-clause-between
returns-in_err-union-clause-between c = on_err _ c.from_residual-in_err-union.result (between_same c.args.set.now (union_of [] c.args.atoms.now) c.union.new.self c.in_err-union.ensures.err)
