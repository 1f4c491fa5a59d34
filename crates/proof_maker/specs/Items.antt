-- What a proof says of wants, with the numbers of triples as entries.
--     item_at                the item of a want
use Rattle.std.specs.Prelude.{ℕ, List, Option, option_map, unwrap_or, slice_get}
use Rattle.proof_check.specs.declared.proofs.Below.TheVariants.{Real as below_real, Grown}
use Rattle.proof_check.specs.declared.proofs.Reason.{Reason}
use Rattle.proof_check.specs.declared.proofs.Reason.TheVariants.{Start as start_reason, Local as local_reason, Up as up_reason, Down}
use Rattle.proof_check.specs.declared.proofs.ProofItem.{ProofItem}
use Rattle.proof_needs.specs.declared.needs.Choice.{Choice}
use Rattle.proof_needs.specs.declared.needs.Choice.TheVariants.{Start, Local, Up, Real, Spawn}
use Rattle.proof_needs.specs.declared.spots.Want.{Want}
use Rattle.proof_needs.specs.declared.needs.Draft.{Draft}

abbrev pub reason_with : (ℕ → ℕ) → Choice → Option ℕ → Reason
reason_with number Start named = start_reason
reason_with number (Local l) named = local_reason l
reason_with number (Up l) named = up_reason l
reason_with number (Real l n) named = Down l (below_real n)
reason_with number (Spawn l c) named = Down l (Grown c (number (unwrap_or named 0)))

abbrev pub item_at : List Want → List Draft → (ℕ → ℕ) → ℕ → ProofItem
item_at wants drafts number i = record {
  atom = unwrap_or (option_map (λ (w : Want). w.atom) (slice_get wants i)) 0;
  reason = unwrap_or (option_map (λ (d : Draft). reason_with number d.choice d.triple) (slice_get drafts i)) start_reason;
}
