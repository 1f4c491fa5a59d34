-- An entry, from its items.
--     IsEntryWith n made m e     the entry is of the triple m, with these items
use Rattle.std.specs.Prelude.{◌≡◌, ℕ, List, Some, slice_get}
use Rattle.proof_check.specs.declared.proofs.ProofItem.{ProofItem}
use Rattle.proof_check.specs.declared.proofs.Entry.{Entry}
use Rattle.proof_needs.specs.declared.needs.Tie.{Tie}
use Rattle.proof_needs.specs.declared.needs.Needs.{Needs}
use Rattle.proof_needs.specs.Triples.{Triple}
use Rattle.proof_needs.specs.Spots.{triples_in}

pub record IsEntryWith (n : Needs) (made : List ProofItem) (m : ℕ) (entry : Entry) : Type 0 where
  pub kind : (t : Triple) → slice_get (triples_in n.triples.keys) m ≡ Some t → entry.kind ≡ t.kind
  pub parent : (tie : Tie) → slice_get n.ties.items m ≡ Some tie → entry.parent ≡ tie.above
  pub items : entry.items ≡ made
