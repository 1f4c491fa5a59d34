-- Names that were there keep their numbers.
pub use Rattle.tp_base.proofs.Fronts.{front_itself, front_grown, front_of_front}
