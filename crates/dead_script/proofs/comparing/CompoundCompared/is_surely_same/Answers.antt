use Rattle.std.specs.Cmp.{unsigned_Decides}
use Rattle.std.proofs.lemmas.Slice.Eq.{slice_eq-Decides}
use Rattle.dead_script.proofs.comparing.CompoundCompared.is_surely_same.Goals as goal

pub returns : goal.returns
returns c = (slice_eq-Decides unsigned_Decides c.args.self.now.atoms c.args.other.now.atoms c.eq.result (rw (c.items.ensures, c.items-2.ensures) at c.eq.ensures)).0
