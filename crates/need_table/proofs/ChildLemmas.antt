-- What an entry asks, and where that stands.
use Rattle.std.proofs.Common.{◌≡◌, ◌⊎◌, ℕ, ◌<◌, List, [], ◌∷◌, ◌++◌, map, length, Option, Some, None, slice_get, IsSomeAnd, Contains, refl, sym, ◌∙◌, inl, inr, arith, subst}
use Rattle.std.proofs.lemmas.List.Elements.{All-contains, Contains-append_left, Contains-append_right, Contains-append_cases}
use Rattle.std.proofs.lemmas.Option.{slice_get_within}
use Rattle.tp_base.proofs.Rising.{Contains-here, Contains-behind, Contains-cons, Contains-none}
use Rattle.tp_base.proofs.Lists.{Contains-at}
use Rattle.tree_sem.proofs.NodeLemmas.{Contains-map}
use Rattle.simple_core.specs.declared.system.System.{System}
use Rattle.simple_core.specs.declared.rules.Spawn.{Spawn}
use Rattle.simple_core.specs.Systems.{IsSound}
use Rattle.simple_core.specs.Labels.{visible_in}
use Rattle.simple_core.specs.Pairs.{Pair, Asks, Needed, further}
use Rattle.simple_core.proofs.LabelLemmas.{kinds_at-is}
use Rattle.rule_index.specs.Asking.{AreKinds}
use Rattle.need_table.specs.declared.entries.Entry.{Entry}
use Rattle.need_table.specs.Tables.{pair_of, labels, IsHeard, IsAskedAt, IsTable, IsMore, AreNeeded}
use Rattle.need_table.specs.Agendas.{IsAppended}
use Rattle.need_table.proofs.FillLemmas.{appended_none, appended_twice, later_at, more_itself, more_twice}

pub some_at : {X : Type 0} (P : X → Type 0) (o : Option X) → IsSomeAnd o P → (x : X) × (o ≡ Some x) × P x
some_at P None h = absurd h
some_at P (Some x) h = (x, refl, h)

pub and_at : {X : Type 0} (P : X → Type 0) (o : Option X) (x : X) → o ≡ Some x → IsSomeAnd o P → P x
and_at P o x at h = subst (λ z. IsSomeAnd z P) at h

pub within_of : {X : Type 0} (P : X → Type 0) (xs : List X) (i : ℕ) → IsSomeAnd (slice_get xs i) P → i < length xs
within_of P xs i at = let x = some_at P (slice_get xs i) at in slice_get_within xs i x.0 x.1

pub child_there : (old new : List Entry) (i : ℕ) (q : Pair) → IsMore old new → IsSomeAnd (slice_get old i) (λ e. pair_of e ≡ q) → Contains (map pair_of new) q
child_there old new i q more at =
    let e = some_at (λ e. pair_of e ≡ q) (slice_get old i) at in
    let y = later_at old new i e.0 more e.1 in
    subst (λ z. Contains (map pair_of new) z) (y.2.pair ∙ e.2) (Contains-map pair_of new y.0 (Contains-at new i y.0 y.1))

pub still_at : (old new : List Entry) (i : ℕ) (q : Pair) → IsMore old new → IsSomeAnd (slice_get old i) (λ e. pair_of e ≡ q) → IsSomeAnd (slice_get new i) (λ e. pair_of e ≡ q)
still_at old new i q more at =
    let e = some_at (λ e. pair_of e ≡ q) (slice_get old i) at in
    let y = later_at old new i e.0 more e.1 in
    subst (λ o. IsSomeAnd o (λ e. pair_of e ≡ q)) (sym y.1) (y.2.pair ∙ e.2)

-- what was heard is there
pub heard_there : (entries : List Entry) (children : List ℕ) (r : Pair) → IsHeard entries children r → Contains (map pair_of entries) r
heard_there entries children r (j, among, at) = child_there entries entries j r (more_itself entries) at

-- the loop over the kinds that a label adds: what is left of them, and what was asked
pub record IsAsking (s : System) (pairs : ℕ) (own seen : List ℕ) (old now : List Entry) (kinds rest children : List ℕ) : Type 0 where
  pub table : IsTable s pairs now
  pub more : IsMore old now
  pub listed : (j : ℕ) → Contains rest j → Contains kinds j
  pub heard : (j : ℕ) → Contains kinds j → Contains rest j ⊎ IsHeard now children (j, seen)
  pub only : (j : ℕ) → Contains children j → IsAskedAt s now own j
  pub appended : IsAppended old now
  pub needed : (qs : List Pair) → AreNeeded s qs old → ((r : Pair) → Asks s own r → Needed s (Contains qs) r) → AreNeeded s qs now

-- a kind that the label adds is asked
pub kind_asks : (s : System) (own seen kinds : List ℕ) (j : ℕ) → AreKinds s own kinds → Contains kinds j → seen ≡ visible_in s own → Asks s own (j, seen)
kind_asks s own seen kinds j are there same = ((are j).0 there, same)

-- and one of the system's
pub kind_within : (s : System) (own kinds : List ℕ) (j : ℕ) → IsSound s → AreKinds s own kinds → Contains kinds j → j < length s.kinds
kind_within s own kinds j sound are there =
    let by = kinds_at-is s own j ((are j).0 there) in
    subst (λ z. z < length s.kinds) by.kind (All-contains (λ (c : Spawn). c.kind < length s.kinds) s.child by.spawn sound.spawned by.listed)

pub asking_start : (s : System) (pairs : ℕ) (own seen : List ℕ) (entries : List Entry) (kinds rest children : List ℕ) → IsTable s pairs entries → rest ≡ kinds → children ≡ [] → IsAsking s pairs own seen entries entries kinds rest children
asking_start s pairs own seen entries kinds rest children table all none = record {
  table = table;
  more = more_itself entries;
  listed = λ j there. subst (λ (z : List ℕ). Contains z j) all there;
  heard = λ j there. inl (subst (λ (z : List ℕ). Contains z j) (sym all) there);
  only = λ j there. absurd (Contains-none j (subst (λ (z : List ℕ). Contains z j) none there));
  appended = appended_none entries;
  needed = λ qs needed asks. needed;
}

-- the place is asked later too
asked_later : (s : System) (old new : List Entry) (own : List ℕ) (j : ℕ) → IsMore old new → IsAskedAt s old own j → IsAskedAt s new own j
asked_later s old new own j more at =
    let c = some_at (λ (c : Entry). Asks s own (pair_of c)) (slice_get old j) at in
    let y = later_at old new j c.0 more c.1 in
    subst (λ o. IsSomeAnd o (λ c. Asks s own (pair_of c))) (sym y.1) (subst (λ (q : Pair). Asks s own q) (sym y.2.pair) c.2)

pub asking_more : (s : System) (pairs : ℕ) (own seen : List ℕ) (old now : List Entry) (kinds rest : List ℕ) (kind : ℕ) (others : List ℕ) (now' : List Entry) (i : ℕ) (children children' : List ℕ) → AreKinds s own kinds → rest ≡ kind ∷ others
    → IsAsking s pairs own seen old now kinds rest children → children' ≡ children ++ i ∷ [] → seen ≡ visible_in s own → IsTable s pairs now' → IsMore now now' → IsAppended now now'
    → IsSomeAnd (slice_get now' i) (λ e. pair_of e ≡ (kind, seen)) → ((qs : List Pair) → AreNeeded s qs now → Needed s (Contains qs) (kind, seen) → AreNeeded s qs now')
    → IsAsking s pairs own seen old now' kinds others children'
asking_more s pairs own seen old now kinds rest kind others now' i children children' are split f put same table more appended at needed =
    let g = subst (λ (r : List ℕ). IsAsking s pairs own seen old now kinds r children) split f in
    let last : Contains children' i = subst (λ (z : List ℕ). Contains z i) (sym put) (Contains-append_right children (i ∷ []) i (Contains-here i i [] refl)) in
    let asks : Asks s own (kind, seen) = kind_asks s own seen kinds kind are (g.listed kind (Contains-here kind kind others refl)) same in
    record {
      table = table;
      more = more_twice old now now' g.more more;
      listed = λ j in_others. g.listed j (Contains-behind j kind others in_others);
      heard = λ j in_kinds. elim (g.heard j in_kinds) [
        | inl left ↦ elim ((Contains-cons j kind others).0 left) [
          | inl here ↦ inr (i, last, subst (λ z. IsSomeAnd (slice_get now' i) (λ e. pair_of e ≡ (z, seen))) (sym here) at)
          | inr later ↦ inl later
        ]
        | inr known ↦
            let among : Contains children' known.0 = subst (λ (z : List ℕ). Contains z known.0) (sym put) (Contains-append_left children (i ∷ []) known.0 known.1) in
            inr (known.0, among, still_at now now' known.0 (j, seen) more known.2)
      ];
      only = λ j there. elim (Contains-append_cases children (i ∷ []) j (subst (λ (z : List ℕ). Contains z j) put there)) [
        | inl old ↦ asked_later s now now' own j more (g.only j old)
        | inr new ↦ elim ((Contains-cons j i []).0 new) [
          | inl here ↦
              let c = some_at (λ (e : Entry). pair_of e ≡ (kind, seen)) (slice_get now' i) at in
              subst (λ z. IsAskedAt s now' own z) (sym here) (subst (λ o. IsSomeAnd o (λ c. Asks s own (pair_of c))) (sym c.1) (subst (λ (q : Pair). Asks s own q) (sym c.2) asks))
          | inr none ↦ absurd (Contains-none j none)
        ]
      ];
      appended = appended_twice old now now' g.appended appended;
      needed = λ qs all each. needed qs (g.needed qs all each) (each (kind, seen) asks);
    }

-- the next of those that are left is one of the list
pub listed_next : (all rest : List ℕ) (j : ℕ) (others : List ℕ) → rest ≡ j ∷ others → ((x : ℕ) → Contains rest x → Contains all x) → Contains all j
listed_next all rest j others split listed = listed j (subst (λ (r : List ℕ). Contains r j) (sym split) (Contains-here j j others refl))

-- all that is asked stands at one of the places, when nothing is left
pub heard_all : (s : System) (own seen : List ℕ) (now : List Entry) (kinds rest children : List ℕ) → AreKinds s own kinds → length rest ≡ 0 → seen ≡ visible_in s own
    → ((j : ℕ) → Contains kinds j → Contains rest j ⊎ IsHeard now children (j, seen)) → (r : Pair) → Asks s own r → IsHeard now children r
heard_all s own seen now kinds [] children are none same heard r asks = elim (heard r.0 ((are r.0).1 asks.0)) [
  | inl left ↦ absurd (Contains-none r.0 left)
  | inr there ↦ subst (λ (z : List ℕ). IsHeard now children (r.0, z)) (same ∙ sym asks.1) there
]
heard_all s own seen now kinds (j ∷ rest) children are none same heard r asks = absurd (omega arith)

-- what the label of an entry asks is needed
pub asks_needed : (s : System) (qs : List Pair) (entries : List Entry) (i k : ℕ) (own : List ℕ) → IsSomeAnd (slice_get entries i) (λ e. own ≡ labels s (pair_of e) k) → AreNeeded s qs entries
    → (r : Pair) → Asks s own r → Needed s (Contains qs) r
asks_needed s qs entries i k own at needed r asks =
    let e = some_at (λ e. own ≡ labels s (pair_of e) k) (slice_get entries i) at in
    further (pair_of e.0) r k (needed (pair_of e.0) (Contains-map pair_of entries e.0 (Contains-at entries i e.0 e.1))) (subst (λ (z : List ℕ). Asks s z r) e.2 asks)

pub needed_same : (s : System) (qs : List Pair) (old new : List Entry) → map pair_of new ≡ map pair_of old → AreNeeded s qs old → AreNeeded s qs new
needed_same s qs old new same needed q there = needed q (subst (λ (z : List Pair). Contains z q) same there)
