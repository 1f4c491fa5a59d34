use Rattle.std.proofs.Common.{◌≡◌, List, ℕ, sym, subst}
use Rattle.text_pieces.specs.Closers.{AreLeft}
use Rattle.text_pieces.proofs.HoleSteps.{left_later}
use Rattle.text_pieces.proofs.holes.Closers.hole_len.Goals as goal

pub behind_hole-requires : goal.behind_hole-requires
behind_hole-requires c = subst (λ (bs : List ℕ). AreLeft c.args.self.now bs) (sym c.behind_byte.ensures) (left_later c.args.self.now 1 c.args.text.now c.requires)
