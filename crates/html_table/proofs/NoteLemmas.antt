-- Notes that are put, one in the place of another.
use Rattle.std.proofs.Common.{◌≡◌, ℕ, zero, suc, List, [], ◌∷◌, ◌++◌, slice_get, set, Option, Some, None, ◌⊎◌, inl, inr, sym, ap, ◌∙◌}
use Rattle.tp_base.proofs.Lists.{push_cases}
use Rattle.html_table.specs.declared.name_notes.Note.{Note}
use Rattle.html_table.specs.declared.name_notes.NameNotes.{NameNotes}
use Rattle.html_table.specs.NameNotes.{IsNoted}

at_set : {X : Type 0} (xs : List X) (i j : ℕ) (new x : X) → slice_get (set xs i new) j ≡ Some x → (new ≡ x) ⊎ (slice_get xs j ≡ Some x)
at_set [] i j new x at = inr at
at_set (y ∷ xs) zero zero new x at = inl (let same : Some new ≡ Some x = at in cc)
at_set (y ∷ xs) zero (suc j) new x at = inr at
at_set (y ∷ xs) (suc i) zero new x at = inr at
at_set (y ∷ xs) (suc i) (suc j) new x at = at_set xs i j new x at

-- a place that is begun has no note
pub begun_one : {X : Type 0} (xs : List (Option X)) (i : ℕ) (x : X) → slice_get (xs ++ None ∷ []) i ≡ Some (Some x) → slice_get xs i ≡ Some (Some x)
begun_one xs i x at = elim (push_cases xs None i (Some x) at) [
  | inl old ↦ old
  | inr new ↦ absurd (let wrong : None ≡ Some x = new.1 in cc)
]

-- one note is put into the place of another
pub put_one : {V : Type 0} (old new : NameNotes V) (begun : List (Option (Note V))) (place : ℕ) (note : Note V) (name : List ℕ)
    → ((i : ℕ) (m : Note V) → slice_get begun i ≡ Some (Some m) → slice_get old.notes.items i ≡ Some (Some m))
    → new.notes.items ≡ set begun place (Some note) → note.name.items ≡ name
    → (q : List ℕ) (v : V) → IsNoted new q v → IsNoted old q v ⊎ ((q ≡ name) × (v ≡ note.value))
put_one old new begun place note name kept is named q v noted =
    elim (at_set begun place noted.place (Some note) (Some noted.note) (rw is at noted.there)) [
      | inl same ↦ let one : note ≡ noted.note = (let same_some : Some note ≡ Some noted.note = same in cc) in
          inr (sym noted.name ∙ ap (λ (n : Note _). n.name.items) (sym one) ∙ named, sym noted.value ∙ ap (λ (n : Note _). n.value) (sym one))
      | inr before ↦ inl (record {
        place = noted.place;
        note = noted.note;
        there = kept noted.place noted.note before;
        name = noted.name;
        value = noted.value;
      })
    ]

-- places are begun
pub begun_note : {V : Type 0} (old new : NameNotes V)
    → ((i : ℕ) (m : Note V) → slice_get new.notes.items i ≡ Some (Some m) → slice_get old.notes.items i ≡ Some (Some m))
    → (q : List ℕ) (v : V) → IsNoted new q v → IsNoted old q v
begun_note old new kept q v noted = record {
  place = noted.place;
  note = noted.note;
  there = kept noted.place noted.note noted.there;
  name = noted.name;
  value = noted.value;
}
