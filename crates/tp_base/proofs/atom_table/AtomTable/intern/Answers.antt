use Rattle.std.proofs.Common.{Ok, Err, sym, arith}
use Rattle.tp_base.specs.declared.atom_table.AtomFault.TheVariants.{TooManyAtoms}
use Rattle.tp_base.proofs.Interned.{IsAnswer, known_place, no_room, with_room, answer-place, answer-in_limit, answer-known, answer-added, answer-too_many}
use Rattle.tp_base.proofs.atom_table.AtomTable.intern.Goals as goal

-- what is found, and what is entered
found : (c : goal.In-Some) → IsAnswer c.args.self.now c.find.new.self (c.args.kind, c.args.name.now) (Ok c.in-Some.atom)
found c = rw c.find.ensures.same (known_place c.args.self.now (c.args.kind, c.args.name.now) c.in-Some.atom (sym c.in-Some.ensures.place))

entered : (c : goal.After-enter) → IsAnswer c.args.self.now c.enter.new.self (c.args.kind, c.args.name.now) c.enter.result
entered c = with_room c.args.self.now c.enter.new.self (c.args.kind, c.args.name.now) c.enter.result (omega arith) (rw c.find.ensures.same at c.enter.ensures.ok) c.enter.ensures.memory

pub returns-in-Some-clause-ok : goal.returns-in-Some-clause-ok
returns-in-Some-clause-ok c = (found c).ok

pub returns-in-Some-clause-place : goal.returns-in-Some-clause-place
returns-in-Some-clause-place c = answer-place c.args.self.now c.find.new.self (c.args.kind, c.args.name.now) (Ok c.in-Some.atom) (found c)

pub returns-in-Some-clause-in_limit : goal.returns-in-Some-clause-in_limit
returns-in-Some-clause-in_limit c = answer-in_limit c.args.self.now c.find.new.self (c.args.kind, c.args.name.now) (Ok c.in-Some.atom) (found c) (omega arith)

pub returns-in-Some-clause-added : goal.returns-in-Some-clause-added
returns-in-Some-clause-added c = answer-added c.args.self.now c.find.new.self (c.args.kind, c.args.name.now) (Ok c.in-Some.atom) (found c)

pub returns-in-Some-clause-full : goal.returns-in-Some-clause-full
returns-in-Some-clause-full c = (found c).full

pub returns-in-Some-clause-too_many : goal.returns-in-Some-clause-too_many
returns-in-Some-clause-too_many c = answer-too_many c.args.self.now c.find.new.self (c.args.kind, c.args.name.now) (Ok c.in-Some.atom) (found c) (omega arith)

pub returns-in-None-clause-full : goal.returns-in-None-clause-full
returns-in-None-clause-full c = (no_room c.args.self.now (c.args.kind, c.args.name.now) (sym c.in-None.ensures.place) (omega arith)).full

pub returns-in-None-clause-too_many : goal.returns-in-None-clause-too_many
returns-in-None-clause-too_many c = answer-too_many c.args.self.now c.args.self.now (c.args.kind, c.args.name.now) (Err TooManyAtoms) (no_room c.args.self.now (c.args.kind, c.args.name.now) (sym c.in-None.ensures.place) (omega arith)) (omega arith)

pub returns-in-None-2-clause-place : goal.returns-in-None-2-clause-place
returns-in-None-2-clause-place c = answer-place c.args.self.now c.enter.new.self (c.args.kind, c.args.name.now) c.enter.result (entered c)

pub returns-in-None-2-clause-in_limit : goal.returns-in-None-2-clause-in_limit
returns-in-None-2-clause-in_limit c = answer-in_limit c.args.self.now c.enter.new.self (c.args.kind, c.args.name.now) c.enter.result (entered c) (omega arith)

pub returns-in-None-2-clause-known : goal.returns-in-None-2-clause-known
returns-in-None-2-clause-known c = answer-known c.args.self.now c.enter.new.self (c.args.kind, c.args.name.now) c.enter.result (entered c)

pub returns-in-None-2-clause-added : goal.returns-in-None-2-clause-added
returns-in-None-2-clause-added c = answer-added c.args.self.now c.enter.new.self (c.args.kind, c.args.name.now) c.enter.result (entered c)

pub returns-in-None-2-clause-full : goal.returns-in-None-2-clause-full
returns-in-None-2-clause-full c = (entered c).full
