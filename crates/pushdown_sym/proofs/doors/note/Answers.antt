use Rattle.std.proofs.Common.{List, ℕ, ◌==◌, length, ◌≤◌, ◌≡◌, true, false, subst}
use Rattle.std.specs.List.{list_any}
use Rattle.row_index.specs.Rows.{row_of}
use Rattle.pushdown_sym.specs.Givers.{a_few}
use Rattle.pushdown_sym.proofs.NoteLemmas.{noted_put, noted_new, noted_old}
use Rattle.pushdown_sym.proofs.doors.note.Goals as goal

pub returns-in_ok-note : goal.returns-in_ok-note
returns-in_ok-note c =
    noted_new c.args.kind c.args.place (row_of c.args.rows.now) (row_of c.note.new.self)
    (subst (λ (row : List ℕ). list_any (λ n. n == c.args.place) row ≡ false) c.of.ensures (c.has_room.ensures.new c.if-has_room.true))
    (noted_put c.args.rows.now c.note.new.self c.args.kind c.args.place c.in_ok-note.ensures.ok)

pub returns-else-has_room : goal.returns-else-has_room
returns-else-has_room c =
    noted_old c.args.kind c.args.place (row_of c.args.rows.now)
    (subst (λ (row : List ℕ). length row ≤ a_few → list_any (λ n. n == c.args.place) row ≡ true) c.of.ensures (c.has_room.ensures.old c.if-has_room.false))
