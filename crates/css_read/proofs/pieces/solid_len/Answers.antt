use Rattle.std.proofs.Common.{◌≡◌, ◌-◌, length, arith}
use Rattle.text_bytes.proofs.Rests.{itself}
use Rattle.css_read.proofs.Solids.{begins}
use Rattle.css_read.proofs.pieces.solid_len.Goals as goal

pub units-init : goal.units-init
units-init c =
    let none : length c.args.text.now - length c.args.text.now ≡ 0 = omega arith in
    record { rest = itself c.args.text.now; within = omega arith; counts = rw none (begins c.args.text.now) }
