-- The counts of steps that entries keep.
use Rattle.std.specs.Prelude.{ℕ, List, option_map, unwrap_or, slice_get}
use Rattle.proof_check.specs.declared.proofs.Entry.{Entry}

abbrev pub kept_steps : List Entry → ℕ → ℕ
kept_steps entries e = unwrap_or (option_map (λ (entry : Entry). entry.steps) (slice_get entries e)) 0
