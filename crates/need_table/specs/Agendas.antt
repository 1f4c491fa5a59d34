-- The worklist of the table.
use Rattle.std.specs.Prelude.{◌≡◌, ◌≢◌, ◌⊎◌, ◌++◌, ◌-◌, ◌≤◌, ◌<◌, ℕ, List, [], length, Option, Some, None, Contains, slice_get}
use Rattle.simple_core.specs.declared.system.System.{System}
use Rattle.simple_core.specs.Rounds.{IsFirst}
use Rattle.simple_core.specs.declared.summaries.First.{First}
use Rattle.need_table.specs.declared.entries.Entry.{Entry}
use Rattle.need_table.specs.declared.agenda.Agenda.{Agenda}
use Rattle.need_table.specs.Rows.{row_in, IsDue}
use Rattle.need_table.specs.Tables.{pair_of, labels, IsTable}

-- the entry is no fixpoint yet, and no round after k was computed
abbrev pub IsBehind : Option ℕ → ℕ → Type 0
IsBehind None k = ⊥
IsBehind (Some n) k = n ≤ k

-- each atom that the label has in a round up to k is there with its first round
pub record IsKnown (s : System) (k : ℕ) (e : Entry) : Type 0 where
  pub first : (f : First) → Contains e.firsts.items f → IsFirst (labels s (pair_of e)) f.atom (Some f.round)
  pub whole : (m a : ℕ) → m ≤ k → Contains (labels s (pair_of e) m) a → (f : First) × Contains e.firsts.items f × (f.atom ≡ a)

abbrev pub AreKnown : System → ℕ → List Entry → Type 0
AreKnown s k entries = (e : Entry) → Contains entries e → IsKnown s k e

-- the place is the entry's own, or one that it asks
abbrev pub Hears : ℕ → Entry → ℕ → Type 0
Hears i e j = (j ≡ i) ⊎ Contains e.children.items j

-- a table whose entries from `first` on are no fixpoints yet: each atom that an entry has not heard of makes it due, in the round
-- in which the atom came or before, and what it asks knows that it asks
pub record IsGoing (s : System) (pairs : ℕ) (entries : List Entry) (g : Agenda) : Type 0 where
  pub table : IsTable s pairs entries
  pub within : g.first ≤ length entries
  pub resting : (j : ℕ) (e : Entry) → j < g.first → slice_get entries j ≡ Some e → e.rounds ≡ None
  pub starting : (i : ℕ) (e : Entry) → slice_get entries i ≡ Some e → e.rounds ≡ Some 0 → Contains (row_in g.due 0) i
  pub dues : (i n j : ℕ) (e c : Entry) (f : First) → slice_get entries i ≡ Some e → e.rounds ≡ Some n → Hears i e j → slice_get entries j ≡ Some c → Contains c.firsts.items f → n ≤ f.round → IsDue g.due i n f.round
  pub asking : (i j : ℕ) (e : Entry) → slice_get entries i ≡ Some e → e.rounds ≢ None → Contains e.children.items j → (j < length entries) × (g.first ≤ j → Contains (row_in g.askers (j - g.first)) i)

-- the entries behind the old ones are in round 0
abbrev pub IsAppended : List Entry → List Entry → Type 0
IsAppended old new = (extra : List Entry) × (new ≡ old ++ extra) × ((e : Entry) → Contains extra e → (e.rounds ≡ Some 0) × (e.children.items ≡ []))
