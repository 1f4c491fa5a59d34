use Rattle.std.proofs.Common.{ℕ, List, All, sym, subst}
use Rattle.saturation.specs.Courses.{CanBeAsked}
use Rattle.saturation.proofs.courses.firsts_by.Goals as goal

pub firsts_under-requires : goal.firsts_under-requires
firsts_under-requires c = subst (λ (parent : List ℕ). All (CanBeAsked c.args.d.now.branches parent) c.args.courses.now) (sym c.in_ok-marks.ensures) c.requires
