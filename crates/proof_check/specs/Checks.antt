-- The check of a proof, as a Boolean function.
--     is_valid system page proof target      true exactly where the proof is valid for the target
use Rattle.std.specs.Prelude.{ℕ, suc, min, Bool, true, false, not, is_some, ◌==◌, ◌&&◌, ◌||◌, nat_lt, List, [], ◌∷◌, ◌++◌, length, find, Option, Some, None, slice_get}
use Rattle.tp_base.specs.Classes.{has_class, all_among}
use Rattle.tree_sem.specs.Trees.{LabelTree, node_at}
use Rattle.simple_core.specs.declared.rules.Kind.{Kind}
use Rattle.simple_core.specs.declared.rules.Link.{Link}
use Rattle.simple_core.specs.declared.rules.Local as rule
use Rattle.simple_core.specs.declared.rules.Spawn.{Spawn}
use Rattle.simple_core.specs.declared.system.System.{System}
use Rattle.proof_check.specs.declared.proofs.Below.TheVariants.{Real, Grown}
use Rattle.proof_check.specs.declared.proofs.Reason.{Reason}
use Rattle.proof_check.specs.declared.proofs.Reason.TheVariants.{Start, Local, Up, Down}
use Rattle.proof_check.specs.declared.proofs.ProofItem.{ProofItem}
use Rattle.proof_check.specs.declared.proofs.Entry.{Entry}
use Rattle.proof_check.specs.declared.proofs.PageItem.{PageItem}
use Rattle.proof_check.specs.declared.proofs.Proof.{Proof}
use Rattle.proof_check.specs.Unfolding.{entry_count}
use Rattle.proof_check.specs.Validity.{MOST_STEPS, atoms_of, items_at, Place, in_entry, at_page}

-- whether there is a value, and it passes the test
abbrev pub is_some_and : {X : Type 0} → (X → Bool) → Option X → Bool
is_some_and test None = false
is_some_and test (Some x) = test x

abbrev pub is_down : Reason → Bool
is_down (Down l b) = true
is_down reason = false

abbrev pub has_atom : ℕ → List ProofItem → Bool
has_atom a items = has_class a (atoms_of items)

-- an inner kind stands below a node of the kind above it
abbrev pub is_inside : Option ℕ → Option ℕ → Bool
is_inside None place = true
is_inside (Some j) place = is_some_and (λ i. i == j) place

abbrev pub is_below : Place → ℕ → Spawn → Kind → ℕ → Entry → Bool
is_below place from spawn kind e entry =
    nat_lt e place.lower && (entry.kind == spawn.kind && (has_atom from entry.items && (all_among entry.parent (atoms_of place.here) && (has_atom spawn.needs place.here
    && (is_inside kind.above place.kind && (is_some kind.above || (not kind.beside || is_some_and (λ i. is_down i.reason) (find (λ i. i.atom == spawn.needs) place.here))))))))

module _ (system : System) where
  abbrev pub spawn_holds : List Entry → Place → ℕ → ℕ → Spawn → Bool
  spawn_holds entries place from e spawn =
      is_some_and (λ kind. is_some_and (λ entry. is_below place from spawn kind e entry) (slice_get entries e)) (slice_get system.kinds spawn.kind)

  abbrev pub is_sound : List Entry → Place → ℕ → Reason → Bool
  is_sound entries place atom Start = has_class atom place.label
  is_sound entries place atom (Local l) = is_some_and (λ (r : rule.Local). r.gives == atom && all_among r.needs (atoms_of place.here)) (slice_get system.local l)
  is_sound entries place atom (Up l) = is_some_and (λ (r : Link). r.to == atom && has_class r.from place.above) (slice_get system.up l)
  is_sound entries place atom (Down l (Real k)) = is_some_and (λ (r : Link). r.to == atom && has_class r.from (place.child k)) (slice_get system.down l)
  is_sound entries place atom (Down l (Grown c e)) =
      is_some_and (λ (r : Link). r.to == atom && is_some_and (spawn_holds entries place r.from e) (slice_get system.child c)) (slice_get system.down l)

  abbrev pub are_sound : List Entry → Place → List ProofItem → Bool
  are_sound entries place [] = true
  are_sound entries place (i ∷ items) = is_sound entries place i.atom i.reason && are_sound entries (record place { here = place.here ++ i ∷ [] }) items

  abbrev pub are_placed : List Entry → LabelTree → List PageItem → List PageItem → Bool
  are_placed entries page before [] = true
  are_placed entries page before (i ∷ items) =
      is_some (node_at i.at page) && (is_sound entries (at_page page (length entries) before i.at) i.item.atom i.item.reason && are_placed entries page (before ++ i ∷ []) items)

  -- the entries from the number n on
  abbrev pub entries_hold : List Entry → ℕ → List Entry → Bool
  entries_hold entries n [] = true
  entries_hold entries n (e ∷ rest) =
      are_sound entries (in_entry system n e) e.items && (e.steps == min (entry_count system entries (suc n) n) MOST_STEPS && entries_hold entries (suc n) rest)

  abbrev pub is_valid : LabelTree → Proof → ℕ → Bool
  is_valid page proof target =
      entries_hold proof.entries 0 proof.entries && (are_placed proof.entries page [] proof.page && has_atom target (items_at [] proof.page))
