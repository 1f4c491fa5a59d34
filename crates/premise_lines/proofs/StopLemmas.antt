-- What a sink got of a line.
use Rattle.std.proofs.Common.{ℕ, List, [], Option, Result, Ok, Err, OnOk, OnErr, append-nil}
use Rattle.tp_io.specs.Sinks.{Adds, AddsPrefix}
use Rattle.tp_io.proofs.SinkLemmas.{adds_prefix_of}

-- what was put is a front, whole or cut off
pub either_way : {T E : Type 0} (r : Result T E) (old new : Option (List ℕ)) (xs : List ℕ) → OnOk r (Adds old new xs) → OnErr r (AddsPrefix old new xs) → AddsPrefix old new xs
either_way (Ok x) old new xs whole front = rw append-nil at (adds_prefix_of old new xs [] whole)
either_way (Err e) old new xs whole front = front
