use Rattle.std.proofs.Common.{◌≡◌, ◌<◌, ℕ, false, All, length, take, get_or}
use Rattle.tp_base.specs.Classes.{has_class}
use Rattle.class_diagrams.proofs.marks.Marks.of.Given as goal

abbrev pub invariant-loop-i : goal.invariant-loop-i
invariant-loop-i l = record {
  long : All (λ a. a < length l.marks.items) l.set;
  each : (a : ℕ) → get_or l.marks.items a false ≡ has_class a (take l.i l.set);
}
