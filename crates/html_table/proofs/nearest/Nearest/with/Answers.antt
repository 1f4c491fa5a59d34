use Rattle.html_table.proofs.NearestLemmas.{nearest_more}
use Rattle.std.proofs.Common.{sym}
use Rattle.html_table.proofs.nearest.Nearest.with.Goals as goal

pub returns : goal.returns
returns c = λ e es same many before.
    rw (c.left_behind.ensures, c.left_behind-2.ensures, c.left_behind-3.ensures, c.up_to_holder.ensures, c.up_to_holder-2.ensures, c.up_to_holder-3.ensures, c.up_to_holder-4.ensures, c.up_to_stop.ensures, c.is_foreign.ensures, ← same, ← many, before)
    (sym (nearest_more e es))
