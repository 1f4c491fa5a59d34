use Rattle.sel_core.proofs.Groups.{first_placed}
use Rattle.sel_core.proofs.matching.matches.Goals as goal

pub groups-init : goal.groups-init
groups-init c = record {
  between = c.in-Some-placed.ensures.between;
  same = first_placed c.args.tree.now c.args.at.now c.in-Some.node c.args.s.now.parts _ c.args.s.now.joins _ c.in-Some-placed.left.node c.in-Some-placed.left.parts.now c.in-Some-placed.left.joins.now
      c.in-Some.ensures.node c.items.ensures c.items-2.ensures c.in-Some-placed.ensures.some;
}
