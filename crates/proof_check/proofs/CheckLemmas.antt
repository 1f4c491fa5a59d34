-- The test is true exactly of the valid proofs.
use Rattle.std.proofs.Common.{◌≡◌, ◌⊎◌, ℕ, zero, suc, ◌+◌, ◌<◌, min, Bool, true, false, not, IsTrue, is_some, ◌==◌, ◌&&◌, ◌||◌, nat_lt, List, [], ◌∷◌, ◌++◌, length, All, Contains, find, Option, Some, None, IsSome, IsSomeAnd, slice_get, inl, inr, refl, sym, ap, subst, arith}
use Rattle.std.specs.Bool.{Decides}
use Rattle.std.proofs.lemmas.Bool.{ltb-true, lt-ltb}
use Rattle.std.proofs.lemmas.Bool.Decides.{Decides-eqb, Decides-and}
use Rattle.tp_base.specs.Classes.{has_class, all_among}
use Rattle.tp_base.proofs.ClassLemmas.{has_class_is, all_among_is}
use Rattle.tree_sem.specs.Trees.{LabelTree, node_at}
use Rattle.simple_core.specs.declared.rules.Kind.{Kind}
use Rattle.simple_core.specs.declared.rules.Link.{Link}
use Rattle.simple_core.specs.declared.rules.Local as rule
use Rattle.simple_core.specs.declared.rules.Spawn.{Spawn}
use Rattle.simple_core.specs.declared.system.System.{System}
use Rattle.proof_check.specs.declared.proofs.Below.TheVariants.{Real, Grown}
use Rattle.proof_check.specs.declared.proofs.Reason.{Reason}
use Rattle.proof_check.specs.declared.proofs.Reason.TheVariants.{Start, Local, Up, Down}
use Rattle.proof_check.specs.declared.proofs.ProofItem.{ProofItem}
use Rattle.proof_check.specs.declared.proofs.Entry.{Entry}
use Rattle.proof_check.specs.declared.proofs.PageItem.{PageItem}
use Rattle.proof_check.specs.declared.proofs.Proof.{Proof}
use Rattle.proof_check.specs.Unfolding.{entry_count}
use Rattle.proof_check.specs.Validity.{MOST_STEPS, atoms_of, items_at, IsDown, Place, IsBelow, IsSound, AreSound, in_entry, at_page, ArePlaced, IsValid}
use Rattle.proof_check.specs.Checks.{is_some_and, is_down, has_atom, is_inside, is_below, spawn_holds, is_sound, are_sound, are_placed, entries_hold, is_valid}

decides_some : {X : Type 0} (P : X → Type 0) (test : X → Bool) → ((x : X) → Decides (test x) (P x)) → (o : Option X) → Decides (is_some_and test o) ((x : X) × (o ≡ Some x) × P x)
decides_some P test each None = (λ e. cc, λ h. let never = h.1 in cc)
decides_some P test each (Some x) = (λ e. (x, refl, (each x).0 e), λ h. let same : h.0 ≡ x = let at = h.1 in cc in (each x).1 (subst P same h.2))

-- one fact in other words
decides_as : {P Q : Type 0} (b : Bool) → Decides b P → (P → Q) → (Q → P) → Decides b Q
decides_as b d f g = (λ e. f (d.0 e), λ q. d.1 (g q))

class_decides : (a : ℕ) (xs : List ℕ) → Decides (has_class a xs) (Contains xs a)
class_decides a xs = has_class_is a xs

all_decides : (xs ys : List ℕ) → Decides (all_among xs ys) (All (Contains ys) xs)
all_decides xs ys = all_among_is xs ys

less_decides : (m n : ℕ) → Decides (nat_lt m n) (m < n)
less_decides m n = (λ e. ltb-true m n e, λ h. lt-ltb m n h)

down_decides : (r : Reason) → Decides (is_down r) (IsDown r)
down_decides Start = (λ e. cc, λ h. absurd h)
down_decides (Local l) = (λ e. cc, λ h. absurd h)
down_decides (Up l) = (λ e. cc, λ h. absurd h)
down_decides (Down l b) = (λ e. tt, λ h. refl)

inside_decides : (o p : Option ℕ) → Decides (is_inside o p) ((o ≡ None) ⊎ (IsSome o × o ≡ p))
inside_decides None p = (λ e. inl refl, λ h. refl)
inside_decides (Some j) None = (λ e. cc, λ h. elim h [ inl none ↦ cc | inr both ↦ let same = both.1 in cc ])
inside_decides (Some j) (Some i) =
    (λ e. inr (refl, ap Some (sym ((Decides-eqb i j).0 e))), λ h. elim h [ inl none ↦ cc | inr both ↦ let same : j ≡ i = let at = both.1 in cc in (Decides-eqb i j).1 (sym same) ])

beside_decides : (above : Option ℕ) (beside : Bool) (o : Option ProofItem)
    → Decides (is_some above || (not beside || is_some_and (λ i. is_down i.reason) o)) (above ≡ None → IsTrue beside → IsSomeAnd o (λ i. IsDown i.reason))
beside_decides (Some j) beside o = (λ e none pass. cc, λ h. refl)
beside_decides None false o = (λ e none pass. cc, λ h. refl)
beside_decides None true None = (λ e none pass. cc, λ h. absurd (h refl refl))
beside_decides None true (Some i) = (λ e none pass. (down_decides i.reason).0 e, λ h. (down_decides i.reason).1 (h refl refl))

below_decides : (place : Place) (from : ℕ) (spawn : Spawn) (kind : Kind) (e : ℕ) (entry : Entry) → Decides (is_below place from spawn kind e entry) (IsBelow place from spawn kind e entry)
below_decides place from spawn kind e entry =
    let t7 = beside_decides kind.above kind.beside (find (λ i. i.atom == spawn.needs) place.here) in
    let b7 = is_some kind.above || (not kind.beside || is_some_and (λ i. is_down i.reason) (find (λ i. i.atom == spawn.needs) place.here)) in
    let b6 = is_inside kind.above place.kind in
    let b5 = has_atom spawn.needs place.here in
    let b4 = all_among entry.parent (atoms_of place.here) in
    let b3 = has_atom from entry.items in
    let b2 = entry.kind == spawn.kind in
    let d6 = Decides-and b6 b7 (inside_decides kind.above place.kind) t7 in
    let d5 = Decides-and b5 (b6 && b7) (class_decides spawn.needs (atoms_of place.here)) d6 in
    let d4 = Decides-and b4 (b5 && (b6 && b7)) (all_decides entry.parent (atoms_of place.here)) d5 in
    let d3 = Decides-and b3 (b4 && (b5 && (b6 && b7))) (class_decides from (atoms_of entry.items)) d4 in
    let d2 = Decides-and b2 (b3 && (b4 && (b5 && (b6 && b7)))) (Decides-eqb entry.kind spawn.kind) d3 in
    let d1 = Decides-and (nat_lt e place.lower) (b2 && (b3 && (b4 && (b5 && (b6 && b7))))) (less_decides e place.lower) d2 in
    decides_as (is_below place from spawn kind e entry) d1
    (λ h. record { lower = h.0; its_kind = h.1.0; gives = h.1.1.0; parent = h.1.1.1.0; spawns = h.1.1.1.1.0; inner = h.1.1.1.1.1.0; beside = h.1.1.1.1.1.1 })
    (λ h. (h.lower, (h.its_kind, (h.gives, (h.parent, (h.spawns, (h.inner, h.beside)))))))

module _ (system : System) where
  pub sound_decides : (entries : List Entry) (place : Place) (atom : ℕ) (reason : Reason) → Decides (is_sound system entries place atom reason) (IsSound system entries place atom reason)
  sound_decides entries place atom Start = class_decides atom place.label
  sound_decides entries place atom (Local l) =
      decides_as (is_sound system entries place atom (Local l))
      (decides_some (λ (r : rule.Local). (r.gives ≡ atom) × All (Contains (atoms_of place.here)) r.needs) (λ r. r.gives == atom && all_among r.needs (atoms_of place.here))
      (λ r. Decides-and (r.gives == atom) (all_among r.needs (atoms_of place.here)) (Decides-eqb r.gives atom) (all_decides r.needs (atoms_of place.here))) (slice_get system.local l))
      (λ h. (h.0, h.1, h.2.0, h.2.1)) (λ h. (h.0, h.1, (h.2, h.3)))
  sound_decides entries place atom (Up l) =
      decides_as (is_sound system entries place atom (Up l))
      (decides_some (λ (r : Link). (r.to ≡ atom) × Contains place.above r.from) (λ r. r.to == atom && has_class r.from place.above)
      (λ r. Decides-and (r.to == atom) (has_class r.from place.above) (Decides-eqb r.to atom) (class_decides r.from place.above)) (slice_get system.up l))
      (λ h. (h.0, h.1, h.2.0, h.2.1)) (λ h. (h.0, h.1, (h.2, h.3)))
  sound_decides entries place atom (Down l (Real k)) =
      decides_as (is_sound system entries place atom (Down l (Real k)))
      (decides_some (λ (r : Link). (r.to ≡ atom) × Contains (place.child k) r.from) (λ r. r.to == atom && has_class r.from (place.child k))
      (λ r. Decides-and (r.to == atom) (has_class r.from (place.child k)) (Decides-eqb r.to atom) (class_decides r.from (place.child k))) (slice_get system.down l))
      (λ h. (h.0, h.1, h.2.0, h.2.1)) (λ h. (h.0, h.1, (h.2, h.3)))
  sound_decides entries place atom (Down l (Grown c e)) =
      let entry_part = λ (from : ℕ) (spawn : Spawn) (kind : Kind). decides_some (λ (entry : Entry). IsBelow place from spawn kind e entry) (λ entry. is_below place from spawn kind e entry) (λ entry. below_decides place from spawn kind e entry) (slice_get entries e) in
      let kind_part = λ (from : ℕ) (spawn : Spawn). decides_some (λ (kind : Kind). (entry : Entry) × (slice_get entries e ≡ Some entry) × IsBelow place from spawn kind e entry)
      (λ kind. is_some_and (λ entry. is_below place from spawn kind e entry) (slice_get entries e)) (λ kind. entry_part from spawn kind) (slice_get system.kinds spawn.kind) in
      let spawn_part = λ (from : ℕ). decides_some (λ (spawn : Spawn). (kind : Kind) × (slice_get system.kinds spawn.kind ≡ Some kind) × ((entry : Entry) × (slice_get entries e ≡ Some entry) × IsBelow place from spawn kind e entry))
      (spawn_holds system entries place from e) (λ spawn. kind_part from spawn) (slice_get system.child c) in
      decides_as (is_sound system entries place atom (Down l (Grown c e)))
      (decides_some (λ (r : Link). (r.to ≡ atom) × ((spawn : Spawn) × (slice_get system.child c ≡ Some spawn) × ((kind : Kind) × (slice_get system.kinds spawn.kind ≡ Some kind) × ((entry : Entry) × (slice_get entries e ≡ Some entry) × IsBelow place r.from spawn kind e entry))))
      (λ r. r.to == atom && is_some_and (spawn_holds system entries place r.from e) (slice_get system.child c))
      (λ r. Decides-and (r.to == atom) (is_some_and (spawn_holds system entries place r.from e) (slice_get system.child c)) (Decides-eqb r.to atom) (spawn_part r.from)) (slice_get system.down l))
      (λ h. (h.0, h.1, h.2.0, h.2.1.0, h.2.1.1, h.2.1.2.0, h.2.1.2.1, h.2.1.2.2.0, h.2.1.2.2.1, h.2.1.2.2.2))
      (λ (r, at, to, spawn, at_spawn, kind, at_kind, entry, at_entry, below). (r, at, (to, (spawn, at_spawn, (kind, at_kind, (entry, at_entry, below))))))

  pub all_sound_decides : (entries : List Entry) (items : List ProofItem) (place : Place) → Decides (are_sound system entries place items) (AreSound system entries place items)
  all_sound_decides entries [] place = (λ e. tt, λ h. refl)
  all_sound_decides entries (i ∷ items) place =
      let place' : Place = record place { here = place.here ++ i ∷ [] } in
      Decides-and (is_sound system entries place i.atom i.reason) (are_sound system entries place' items) (sound_decides entries place i.atom i.reason) (all_sound_decides entries items place')

  some_decides : {X : Type 0} (o : Option X) → Decides (is_some o) (IsSome o)
  some_decides None = (λ e. e, λ h. h)
  some_decides (Some x) = (λ e. refl, λ h. refl)

  pub all_placed_decides : (entries : List Entry) (page : LabelTree) (items before : List PageItem) → Decides (are_placed system entries page before items) (ArePlaced system entries page before items)
  all_placed_decides entries page [] before = (λ e. tt, λ h. refl)
  all_placed_decides entries page (i ∷ items) before =
      let sound = is_sound system entries (at_page page (length entries) before i.at) i.item.atom i.item.reason in
      let rest = are_placed system entries page (before ++ i ∷ []) items in
      decides_as (is_some (node_at i.at page) && (sound && rest))
      (Decides-and (is_some (node_at i.at page)) (sound && rest) (some_decides (node_at i.at page)) (Decides-and sound rest (sound_decides entries (at_page page (length entries) before i.at) i.item.atom i.item.reason) (all_placed_decides entries page items (before ++ i ∷ []))))
      (λ h. (h.0, h.1.0, h.1.1)) (λ h. (h.0, (h.1, h.2)))

  -- all entries from the number n on
  abbrev EachHolds : List Entry → ℕ → List Entry → Type 0
  EachHolds entries n rest = (k : ℕ) (entry : Entry) → slice_get rest k ≡ Some entry
      → AreSound system entries (in_entry system (n + k) entry) entry.items × (entry.steps ≡ min (entry_count system entries (suc (n + k)) (n + k)) MOST_STEPS)

  pub entries_decides : (entries rest : List Entry) (n : ℕ) → Decides (entries_hold system entries n rest) (EachHolds entries n rest)
  entries_decides entries [] n = (λ e k entry at. cc, λ h. refl)
  entries_decides entries (x ∷ rest) n =
      let kept = x.steps == min (entry_count system entries (suc n) n) MOST_STEPS in
      let later = entries_hold system entries (suc n) rest in
      decides_as (are_sound system entries (in_entry system n x) x.items && (kept && later))
      (Decides-and (are_sound system entries (in_entry system n x) x.items) (kept && later) (all_sound_decides entries x.items (in_entry system n x))
      (Decides-and kept later (Decides-eqb x.steps (min (entry_count system entries (suc n) n) MOST_STEPS)) (entries_decides entries rest (suc n))))
      (λ h k entry at. each k entry at h)
      (λ h. let first = h 0 x refl in
      let here = subst (λ m. AreSound system entries (in_entry system m x) x.items × (x.steps ≡ min (entry_count system entries (suc m) m) MOST_STEPS)) {x = n + 0} (omega arith) first in
      (here.0, (here.1, λ k entry at. subst (λ m. AreSound system entries (in_entry system m entry) entry.items × (entry.steps ≡ min (entry_count system entries (suc m) m) MOST_STEPS)) {x = n + suc k} (omega arith) (h (suc k) entry at))))
    where
      each : (k : ℕ) (entry : Entry) → slice_get (x ∷ rest) k ≡ Some entry → AreSound system entries (in_entry system n x) x.items × ((x.steps ≡ min (entry_count system entries (suc n) n) MOST_STEPS) × EachHolds entries (suc n) rest)
          → AreSound system entries (in_entry system (n + k) entry) entry.items × (entry.steps ≡ min (entry_count system entries (suc (n + k)) (n + k)) MOST_STEPS)
      each zero entry at h =
          let same : x ≡ entry = cc in
          subst (λ (z : Entry). AreSound system entries (in_entry system (n + 0) z) z.items × (z.steps ≡ min (entry_count system entries (suc (n + 0)) (n + 0)) MOST_STEPS)) same
          (subst (λ m. AreSound system entries (in_entry system m x) x.items × (x.steps ≡ min (entry_count system entries (suc m) m) MOST_STEPS)) {x = n} (omega arith) (h.0, h.1.0))
      each (suc k) entry at h =
          subst (λ m. AreSound system entries (in_entry system m entry) entry.items × (entry.steps ≡ min (entry_count system entries (suc m) m) MOST_STEPS)) {x = suc n + k} (omega arith) (h.1.1 k entry at)

  -- the theorem
  pub valid_decides : (page : LabelTree) (proof : Proof) (target : ℕ) → Decides (is_valid system page proof target) (IsValid system page proof target)
  valid_decides page proof target =
      let b1 = entries_hold system proof.entries 0 proof.entries in
      let b2 = are_placed system proof.entries page [] proof.page in
      let b3 = has_atom target (items_at [] proof.page) in
      decides_as (b1 && (b2 && b3))
      (Decides-and b1 (b2 && b3) (entries_decides proof.entries proof.entries 0) (Decides-and b2 b3 (all_placed_decides proof.entries page proof.page []) (class_decides target (atoms_of (items_at [] proof.page)))))
      (λ h. record {
        entries = λ n entry at. subst (λ m. AreSound system proof.entries (in_entry system m entry) entry.items) {x = 0 + n} (omega arith) (h.0 n entry at).0;
        page_items = h.1.0;
        counts = λ n entry at. subst (λ m. entry.steps ≡ min (entry_count system proof.entries (suc m) m) MOST_STEPS) {x = 0 + n} (omega arith) (h.0 n entry at).1;
        root = h.1.1;
      })
      (λ h. (
        λ k entry at. subst (λ m. AreSound system proof.entries (in_entry system m entry) entry.items × (entry.steps ≡ min (entry_count system proof.entries (suc m) m) MOST_STEPS)) {x = k} (omega arith) (h.entries k entry at, h.counts k entry at),
        (h.page_items, h.root),
      ))
