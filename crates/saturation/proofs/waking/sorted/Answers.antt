use Rattle.std.proofs.lemmas.List.Sorted.{Contains-permutation, IsPermutation-sym}
use Rattle.saturation.specs.Waking.{CellName}
use Rattle.saturation.proofs.WakingLemmas.{once_kept, once_only, once_ordered}
use Rattle.saturation.proofs.waking.sorted.Goals as goal

pub returns-clause-kept : goal.returns-clause-kept
returns-clause-kept c x there =
    once_kept c.sort.new.self.items c.dedup.new.self.items c.dedup.ensures.filtered x (Contains-permutation {X = CellName} c.args.cells.items c.sort.new.self.items x c.sort.ensures.permutation there)

pub returns-clause-only : goal.returns-clause-only
returns-clause-only c x there =
    Contains-permutation {X = CellName} c.sort.new.self.items c.args.cells.items x (IsPermutation-sym {X = CellName} c.args.cells.items c.sort.new.self.items c.sort.ensures.permutation)
    (once_only c.sort.new.self.items c.dedup.new.self.items c.dedup.ensures.filtered x there)

pub returns-clause-order : goal.returns-clause-order
returns-clause-order c = once_ordered c.sort.new.self.items c.dedup.new.self.items c.dedup.ensures.filtered c.in_ok-sort.ensures.sorted
