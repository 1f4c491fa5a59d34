use Rattle.pushdown_sym.proofs.StartLemmas.{no_of_not, yes_of_not, parted, not_behind, not_parted}
use Rattle.pushdown_sym.proofs.starts.parts.Goals as goal

pub returns-clause-within : goal.returns-clause-within
returns-clause-within c = λ passes.
    (parted c.args.number c.args.atoms.now c.args.place c.requires (c.is_behind.ensures.less c.if-not-is_behind.false) (c.is_less.ensures.other (no_of_not c.is_less.result passes))).0

pub returns-clause-start : goal.returns-clause-start
returns-clause-start c = λ passes.
    (parted c.args.number c.args.atoms.now c.args.place c.requires (c.is_behind.ensures.less c.if-not-is_behind.false) (c.is_less.ensures.other (no_of_not c.is_less.result passes))).1

pub returns-clause-other : goal.returns-clause-other
returns-clause-other c = λ fails within. not_parted c.args.number c.args.atoms.now c.args.place (c.is_less.ensures.less (yes_of_not c.is_less.result fails))

pub returns-then-not-is_behind-clause-other : goal.returns-then-not-is_behind-clause-other
returns-then-not-is_behind-clause-other c = λ fails within. not_behind c.args.number c.args.atoms.now c.args.place (c.is_behind.ensures.other c.if-not-is_behind.true) within
