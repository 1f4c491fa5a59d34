-- The cases in which an operation ends at once.
use Rattle.std.specs.Prelude.{Ok}
use Rattle.class_diagrams.specs.declared.refs.Target.{Target}
use Rattle.class_diagrams.specs.declared.memo.Operation.{Operation}
use Rattle.class_diagrams.specs.declared.table.Pair.TheVariants.{Branches}
use Rattle.class_diagrams.specs.declared.diagrams.Start.{Start}
use Rattle.class_diagrams.specs.declared.diagrams.Start.TheVariants.{Known, Parts}
use Rattle.class_diagrams.specs.Arena.{tree_at, Arena}
use Rattle.class_diagrams.specs.Answers.{Gives}
use Rattle.class_diagrams.specs.Memo.{tree_of}
use Rattle.class_diagrams.specs.Pairs.{IsPair}

-- it has the answer, or takes the two diagrams apart
abbrev pub IsStart : Operation → Arena → Target → Target → Start → Type 0
IsStart operation a f g (Known r) = Gives a a (tree_of operation (tree_at a.branches f) (tree_at a.branches g)) (Ok r)
IsStart operation a f g (Parts atom low high) = IsPair a.branches f g (Branches atom low high)
