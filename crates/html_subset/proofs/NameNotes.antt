-- Atoms that are noted of the names of elements.
use Rattle.std.proofs.Common.{◌≡◌, ℕ, List, slice_get, Some, ◌⊎◌, inl, inr, Result, Ok, Err, IfOk, OnErr, sym, ap, ◌∙◌}
use Rattle.tp_base.specs.declared.atom_table.AtomFault.{AtomFault}
use Rattle.tp_base.specs.Names.{Named, with_name, IsDistinct}
use Rattle.tp_base.specs.declared.atoms.AtomKind.TheVariants as kind
use Rattle.tp_base.proofs.NamesLemmas.{with_name-there, with_name-keeps, with_name-at}
use Rattle.html_tokens.specs.Bytes.{lowered}
use Rattle.html_table.specs.declared.name_notes.NameNotes.{NameNotes}
use Rattle.html_table.specs.NameNotes.{IsNoted}
use Rattle.html_subset.specs.NameTables.{AreRight}

-- an atom that is noted is the one that interning gives
pub noted_again : (notes : NameNotes ℕ) (table : List Named) (q : List ℕ) (a : ℕ) → AreRight notes table → IsDistinct table → IsNoted notes q a
    → with_name table (kind.Element, lowered q) ≡ Some (a, table)
noted_again notes table q a right distinct noted = with_name-there table (kind.Element, lowered q) a distinct (right q a noted)

-- names are entered
pub right_after : (notes : NameNotes ℕ) (table new : List Named) (n : Named) (a : ℕ) → with_name table n ≡ Some (a, new) → AreRight notes table → AreRight notes new
right_after notes table new n a is right = λ q b noted. with_name-keeps table n a new is b (kind.Element, lowered q) (right q b noted)

pub right_interned : (notes : NameNotes ℕ) (table new : List Named) (n : Named) (r : Result ℕ AtomFault) → IfOk r (λ a. with_name table n ≡ Some (a, new)) → OnErr r (new ≡ table) → AreRight notes table → AreRight notes new
right_interned notes table new n (Ok a) is same right = right_after notes table new n a is right
right_interned notes table new n (Err e) is same right = rw same right

-- a name is noted
pub right_noted : (notes after : NameNotes ℕ) (table new : List Named) (name : List ℕ) (a : ℕ) → with_name table (kind.Element, lowered name) ≡ Some (a, new) → AreRight notes table
    → ((q : List ℕ) (b : ℕ) → IsNoted after q b → IsNoted notes q b ⊎ ((q ≡ name) × (b ≡ a))) → AreRight after new
right_noted notes after table new name a is right noted = λ q b there. elim (noted q b there) [
  | inl old ↦ right_after notes table new (kind.Element, lowered name) a is right q b old
  | inr one ↦ ap (λ i. slice_get new i) (one.1) ∙ with_name-at table (kind.Element, lowered name) a new is ∙ ap (λ x. Some (kind.Element, lowered x)) (sym (one.0))
]
