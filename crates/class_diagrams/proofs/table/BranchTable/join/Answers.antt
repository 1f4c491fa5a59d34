use Rattle.std.proofs.Common.{IsTrue, false, rules}
use Rattle.class_diagrams.proofs.ArenaLemmas.{joined_ordered, gives_joined, gives_one}
use Rattle.class_diagrams.proofs.table.BranchTable.join.Goals as goal

pub enter-requires-clause-ordered : goal.enter-requires-clause-ordered
enter-requires-clause-ordered c =
    joined_ordered c.args.self.now c.args.atom c.args.low c.args.high c.requires.arena c.requires.low_in c.requires.high_in
    (λ same. let no : IsTrue false = c.if-is.ensures.1 same in cc) c.requires.ordered

pub returns-then-is : goal.returns-then-is
returns-then-is c = gives_one c.args.self.now c.args.atom c.args.low c.args.high c.requires.arena c.requires.low_in (search rules)

pub returns-else-is : goal.returns-else-is
returns-else-is c = gives_joined c.args.self.now c.enter.new.self c.args.atom c.args.low c.args.high c.enter.result c.requires.arena c.requires.low_in c.requires.high_in
    (λ same. let no : IsTrue false = c.if-is.ensures.1 same in cc) c.enter.ensures
