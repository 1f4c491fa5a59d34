use Rattle.std.proofs.Common.{◌≡◌, ◌<◌, [], length, get_or, take}
use Rattle.closed_page.proofs.nodes.PageNodes.number_of.Given as goal

abbrev pub invariant-levels : goal.invariant-levels
invariant-levels l = record { within : l.found < length l.self; part : get_or l.self l.found [] ≡ take l.level l.at }
