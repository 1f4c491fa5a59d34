-- An entry with the items of a triple's wants.
use Rattle.std.proofs.Common.{◌≡◌, ℕ, List, map, ◌∙◌}
use Rattle.proof_check.specs.declared.proofs.ProofItem.{ProofItem}
use Rattle.proof_check.specs.declared.proofs.Entry.{Entry}
use Rattle.proof_needs.specs.declared.needs.Needs.{Needs}
use Rattle.proof_maker.specs.Entries.{IsEntryWith}
use Rattle.proof_maker.specs.Making.{IsMade, item_of}

pub made_with : (n : Needs) (order : List ℕ) (items : List ProofItem) (wants : List ℕ) (m : ℕ) (entry : Entry) → items ≡ map (item_of n order) wants → IsEntryWith n items m entry → IsMade n order wants m entry
made_with n order items wants m entry are is = record { kind = is.kind; parent = is.parent; items = is.items ∙ are }
