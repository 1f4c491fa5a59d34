-- The table of pairs, while the fixpoint is computed.
use Rattle.std.specs.Prelude.{◌≡◌, ◌≢◌, ◌↔◌, ◌⊎◌, ◌&&◌, ◌++◌, set, ◌≤◌, ◌<◌, ◌+◌, ℕ, suc, List, [], ◌∷◌, map, drop, length, not, nat_le, Option, Some, None, Contains, IsSomeAnd, slice_get, ◌==◌, if◌then◌else◌}
use Rattle.std.specs.List.{filter}
use Rattle.std.specs.List.Sorted.{IsStrictlyIncreasing}
use Rattle.std.specs.Global.{Vec}
use Rattle.tp_base.specs.Classes.{has_class, union_of}
use Rattle.simple_core.specs.declared.system.System.{System}
use Rattle.simple_core.specs.Systems.{IsSound}
use Rattle.simple_core.specs.Labels.{set_of, visible_in}
use Rattle.simple_core.specs.Rounds.{grown, IsFirst}
use Rattle.simple_core.specs.Pairs.{Pair, Asks, Needed, AreDifferent}
use Rattle.simple_core.specs.declared.summaries.First.{First}
use Rattle.need_table.specs.declared.entries.Entry.{Entry}

abbrev pub pair_of : Entry → Pair
pair_of e = (e.kind, e.parent)

-- the atoms whose first round is one from `from` to `to`
abbrev pub atoms_within : ℕ → ℕ → List First → List ℕ
atoms_within from to firsts = map (λ f. f.atom) (filter (λ f. (nat_le from f.round) && (nat_le f.round to)) firsts)

-- the atoms of the firsts from a place on
abbrev pub atoms_from : ℕ → List First → List ℕ
atoms_from place firsts = map (λ f. f.atom) (drop place firsts)

-- the rounds never fall
abbrev pub AreInOrder : List First → Type 0
AreInOrder firsts = (i j : ℕ) (f g : First) → i ≤ j → slice_get firsts i ≡ Some f → slice_get firsts j ≡ Some g → f.round ≤ g.round

-- so many come before the round
pub record IsPlaceFrom (firsts : List First) (round place : ℕ) : Type 0 where
  pub within : place ≤ length firsts
  pub before : (i : ℕ) (f : First) → i < place → slice_get firsts i ≡ Some f → f.round < round
  pub from : (i : ℕ) (f : First) → place ≤ i → slice_get firsts i ≡ Some f → round ≤ f.round

-- the atoms of next that own doesn't have, with the round
abbrev pub fresh_of : List ℕ → ℕ → List ℕ → List First
fresh_of own round next = map (λ a. record { atom = a; round = round }) (filter (λ a. not (has_class a own)) next)

abbrev pub labels : System → Pair → ℕ → List ℕ
labels s q k = grown s k q.0 q.1

-- the round k was worked out
abbrev pub IsDone : Option ℕ → ℕ → Type 0
IsDone None k = Unit {0}
IsDone (Some n) k = k ≤ n

-- each atom that the label has in a round that was worked out is there, with its first round, in the order of these, and all of
-- them in one set
pub record IsUpTo (s : System) (e : Entry) : Type 0 where
  pub right : (f : First) → Contains e.firsts.items f → IsDone e.rounds f.round × IsFirst (labels s (pair_of e)) f.atom (Some f.round)
  pub whole : (k a : ℕ) → IsDone e.rounds k → Contains (labels s (pair_of e) k) a → (f : First) × Contains e.firsts.items f × (f.atom ≡ a)
  pub order : AreInOrder e.firsts.items
  pub all : e.label ≡ set_of (map (λ f. f.atom) e.firsts.items)

abbrev pub AreUpTo : System → List Entry → Type 0
AreUpTo s entries = (e : Entry) → Contains entries e → IsUpTo s e

abbrev pub AreOrdered : List Entry → Type 0
AreOrdered entries = (e : Entry) → Contains entries e → AreInOrder e.firsts.items

-- no entry at the place has the pair
abbrev pub IsNotAt : List Entry → Pair → ℕ → Type 0
IsNotAt entries q i = (e : Entry) → slice_get entries i ≡ Some e → ¬ (pair_of e ≡ q)

-- one of these places has the pair
abbrev pub IsHeard : List Entry → List ℕ → Pair → Type 0
IsHeard entries children r = (j : ℕ) × Contains children j × IsSomeAnd (slice_get entries j) (λ c. pair_of c ≡ r)

-- the place has a pair that the label asks
abbrev pub IsAskedAt : System → List Entry → List ℕ → ℕ → Type 0
IsAskedAt s entries own j = IsSomeAnd (slice_get entries j) (λ c. Asks s own (pair_of c))

-- the visible atoms of the label are those of the parent and the visible ones of the new
pub record IsSeenBefore (s : System) (e : Entry) (fresh parent : List ℕ) : Type 0 where
  pub rises : IsStrictlyIncreasing parent
  pub members : (a : ℕ) → (Contains parent a ⊎ (Contains s.visible a × Contains fresh a)) ↔ Contains (visible_in s e.label) a

-- different pairs, at most so many; what they ask in rounds before the last that was worked out stands in the table,
-- and what they ask in the last of these at the places `children`, where nothing else stands
pub record IsTable (s : System) (pairs : ℕ) (entries : List Entry) : Type 0 where
  pub sound : IsSound s
  pub up_to : AreUpTo s entries
  pub asked : (e : Entry) → Contains entries e → (k : ℕ) (r : Pair) → IsDone e.rounds (suc k) → Asks s (labels s (pair_of e) k) r → Contains (map pair_of entries) r
  pub heard : (e : Entry) → Contains entries e → (k : ℕ) (r : Pair) → e.rounds ≡ Some (suc k) → Asks s (labels s (pair_of e) k) r → IsHeard entries e.children.items r
  pub only : (e : Entry) → Contains entries e → (k j : ℕ) → e.rounds ≡ Some (suc k) → Contains e.children.items j → IsAskedAt s entries (labels s (pair_of e) k) j
  pub different : AreDifferent (map pair_of entries)
  pub few : length entries ≤ pairs

-- the same pair, computed as far or farther, and the same where it was a fixpoint
pub record IsKept (old new : Entry) : Type 0 where
  pub pair : pair_of new ≡ pair_of old
  pub rounds : (k : ℕ) → IsDone old.rounds k → IsDone new.rounds k
  pub at_rest : old.rounds ≡ None → new ≡ old

pub record IsMore (old new : List Entry) : Type 0 where
  pub kept : (i : ℕ) (e : Entry) → slice_get old i ≡ Some e → IsSomeAnd (slice_get new i) (IsKept e)
  pub longer : length old ≤ length new

-- the entry at i got these firsts and the places that it asks, if k was its last round; then it has one round more
abbrev pub NotedAt : List Entry → List Entry → ℕ → ℕ → List First → List ℕ → Entry → Type 0
NotedAt old new i k firsts children e = ((e' : Entry) × (new ≡ set old i e') × (e.rounds ≡ Some k) × (pair_of e' ≡ pair_of e) × (e'.rounds ≡ Some (suc k)) × (e'.firsts.items ≡ e.firsts.items ++ firsts)
    × (e'.children.items ≡ children) × (e'.label ≡ union_of e.label (set_of (map (λ f. f.atom) firsts)))) ⊎ ((new ≡ old) × (e.rounds ≢ Some k))

-- places anew, or the old ones
abbrev pub replaced : Option (Vec ℕ) → List ℕ → List ℕ
replaced None old = old
replaced (Some v) old = v.items

-- the firsts are those of the given atoms that its label doesn't have
abbrev pub IsNoted : List Entry → List Entry → ℕ → ℕ → List ℕ → Option (Vec ℕ) → Type 0
IsNoted old new i k given anew = (e : Entry) → slice_get old i ≡ Some e → NotedAt old new i k (fresh_of e.label (k + 1) given) (replaced anew e.children.items) e

-- the entry, worked out up to the round k
abbrev pub raised : ℕ → Entry → Entry
raised k e = record e { rounds = Some k }

-- nothing that counts is another at i, where a round was to be noted
abbrev pub IsUntouched : List Entry → List Entry → ℕ → Type 0
IsUntouched old new i = (e : Entry) → slice_get old i ≡ Some e → (e' : Entry) × (new ≡ set old i e') × (e.rounds ≢ None) × (pair_of e' ≡ pair_of e) × (e'.rounds ≡ e.rounds)
    × (e'.children.items ≡ e.children.items)

-- each pair of the table is needed for those of qs
abbrev pub AreNeeded : System → List Pair → List Entry → Type 0
AreNeeded s qs entries = (q : Pair) → Contains (map pair_of entries) q → Needed s (Contains qs) q

-- the rounds up to t were worked out, for each entry
abbrev pub AllDone : List Entry → ℕ → Type 0
AllDone entries t = (e : Entry) → Contains entries e → IsDone e.rounds t

abbrev pub AllRest : List Entry → Type 0
AllRest entries = (e : Entry) → Contains entries e → e.rounds ≡ None

-- the same pair with its label as a fixpoint, where it wasn't; what it asks is forgotten then
pub record IsRested (old new : Entry) : Type 0 where
  pub pair : pair_of new ≡ pair_of old
  pub label : new.label ≡ old.label
  pub firsts : new.firsts.items ≡ old.firsts.items
  pub rounds : new.rounds ≡ None
  pub forgets : old.rounds ≢ None → new.children.items ≡ []
  pub at_rest : old.rounds ≡ None → new ≡ old

pub record AreRested (old new : List Entry) : Type 0 where
  pub each : (j : ℕ) (e : Entry) → slice_get old j ≡ Some e → IsSomeAnd (slice_get new j) (IsRested e)
  pub same : length new ≡ length old

-- the round that stands with the atom
abbrev pub round_in : List First → ℕ → Option ℕ
round_in [] a = None
round_in (f ∷ fs) a = if f.atom == a then Some f.round else round_in fs a
