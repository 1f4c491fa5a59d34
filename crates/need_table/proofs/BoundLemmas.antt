-- How many rounds there can be: each round before the last brings an atom that an entry didn't have.
use Rattle.std.proofs.Common.{◌≡◌, ◌≢◌, ◌⊎◌, ℕ, zero, suc, ◌*◌, ◌<◌, ◌≤◌, List, [], ◌∷◌, ◌++◌, map, length, Option, Some, None, slice_get, option_map, unwrap_or, All, Contains, refl, sym, ap, ◌∙◌, inl, inr, arith, subst, length-append}
use Rattle.std.proofs.Math.Nat.{suc-mul}
use Rattle.std.proofs.lemmas.Bool.{cases_lt, cases_order}
use Rattle.std.proofs.lemmas.List.Elements.{All-contains, All-head, Contains-append_left, Contains-append_right}
use Rattle.std.proofs.lemmas.Option.{slice_get_within}
use Rattle.tp_base.specs.declared.atoms.TheConstants.{MOST_ATOMS}
use Rattle.tp_base.proofs.ClassLemmas.{same_members}
use Rattle.tp_base.proofs.Rising.{Contains-here, Contains-behind, Contains-cons, Contains-none}
use Rattle.tp_base.proofs.Lists.{Contains-at}
use Rattle.tree_sem.proofs.NodeLemmas.{Contains-map, map-Contains}
use Rattle.simple_core.specs.declared.system.System.{System}
use Rattle.simple_core.specs.declared.rules.Local.{Local}
use Rattle.simple_core.specs.declared.rules.Link.{Link}
use Rattle.simple_core.specs.declared.rules.Kind.{Kind}
use Rattle.simple_core.specs.Systems.{kind_label, IsAtom, IsSound}
use Rattle.simple_core.specs.Labels.{labels_below}
use Rattle.simple_core.specs.Rounds.{grown, IsFirst}
use Rattle.simple_core.specs.Pairs.{Pair, Asks, AreDifferent}
use Rattle.simple_core.proofs.Members.{among_all}
use Rattle.simple_core.proofs.LabelLemmas.{before, local, up, down, next_label-gives}
use Rattle.simple_core.proofs.RoundLemmas.{set_of-is, grown-rises, grown-one_more, grown-later}
use Rattle.simple_core.proofs.RestLemmas.{AtRest, at_rest, first_is, first_one}
use Rattle.simple_core.proofs.PairLemmas.{not_more}
use Rattle.simple_core.specs.declared.summaries.First.{First}
use Rattle.need_table.specs.declared.entries.Entry.{Entry}
use Rattle.need_table.specs.Tables.{pair_of, labels, IsDone, IsTable, AllDone}

-- the atoms of labels are atoms of the system
pub grown-atoms : (s : System) → IsSound s → (k i : ℕ) (p : List ℕ) (a : ℕ) → Contains (grown s k i p) a → IsAtom a
grown-atoms s sound zero i p a there =
    elim (slice_get s.kinds i) as (λ o. slice_get s.kinds i ≡ o → Contains (unwrap_or (option_map (λ (k : Kind). k.label) o) []) a → IsAtom a) [
      | None ↦ λ e h. absurd (Contains-none a h)
      | Some k ↦ λ e h. All-contains IsAtom k.label a (All-contains (λ (k : Kind). All IsAtom k.label) s.kinds k sound.kind_atoms (Contains-at s.kinds i k e)) h
    ] refl (set_of-is (kind_label s i) a there)
grown-atoms s sound (suc k) i p a there = elim (next_label-gives s p (grown s k i p) (labels_below s (grown s k) (grown s k i p)) a there) [
  | before old ↦ grown-atoms s sound k i p a old
  | local by ↦ subst IsAtom by.gives (All-head IsAtom by.rule.gives by.rule.needs (All-contains (λ (r : Local). All IsAtom (r.gives ∷ r.needs)) s.local by.rule sound.local_atoms by.listed))
  | up by ↦ subst IsAtom by.to (All-contains (λ (l : Link). IsAtom l.from × IsAtom l.to) s.up by.link sound.up_atoms by.listed).1
  | down label below by ↦ subst IsAtom by.to (All-contains (λ (l : Link). IsAtom l.from × IsAtom l.to) s.down by.link sound.down_atoms by.listed).1
]

-- each place of an entry with each atom
row_keys : ℕ → ℕ → List Pair
row_keys i zero = []
row_keys i (suc m) = (i, m ∷ []) ∷ row_keys i m

all_keys : ℕ → ℕ → List Pair
all_keys zero N = []
all_keys (suc n) N = row_keys n N ++ all_keys n N

length-row_keys : (i N : ℕ) → length (row_keys i N) ≡ N
unfolding row_keys
length-row_keys i zero = refl
length-row_keys i (suc m) = ap suc (length-row_keys i m)

length-all_keys : (n N : ℕ) → length (all_keys n N) ≡ n * N
unfolding all_keys
length-all_keys zero N = omega arith
length-all_keys (suc n) N = omega (arith, length-append (row_keys n N) (all_keys n N), length-row_keys n N, length-all_keys n N, suc-mul n N)

Contains-row_keys : (i N a : ℕ) → a < N → Contains (row_keys i N) (i, a ∷ [])
unfolding row_keys
Contains-row_keys i zero a less = absurd (omega arith)
Contains-row_keys i (suc m) a less = elim (cases_lt a m) [
  | inl lower ↦ Contains-behind (i, a ∷ []) (i, m ∷ []) (row_keys i m) (Contains-row_keys i m a lower)
  | inr at ↦ let same : a ≡ m = omega arith in Contains-here (i, a ∷ []) (i, m ∷ []) (row_keys i m) (λ j. (i, same j ∷ []))
]

Contains-all_keys : (n N i a : ℕ) → i < n → a < N → Contains (all_keys n N) (i, a ∷ [])
unfolding all_keys
Contains-all_keys zero N i a within less = absurd (omega arith)
Contains-all_keys (suc n) N i a within less = elim (cases_lt i n) [
  | inl lower ↦ Contains-append_right (row_keys n N) (all_keys n N) (i, a ∷ []) (Contains-all_keys n N i a lower less)
  | inr at ↦
      let same : n ≡ i = omega arith in
      Contains-append_left (row_keys n N) (all_keys n N) (i, a ∷ []) (subst (λ z. Contains (row_keys z N) (i, a ∷ [])) (sym same) (Contains-row_keys i N a less))
]

-- an entry has an atom first in the round r; the key is the entry's place, and the atom
record IsNews (entries : List Entry) (key : Pair) (r : ℕ) : Type 0 where
  entry : Entry
  first : First
  at : slice_get entries key.0 ≡ Some entry
  there : Contains entry.firsts.items first
  atom : key.1 ≡ first.atom ∷ []
  round : first.round ≡ r

in_firsts : (fs : List First) (r : ℕ) → ((f : First) × Contains fs f × (f.round ≡ r)) ⊎ ((f : First) → Contains fs f → f.round ≢ r)
in_firsts [] r = inr (λ f there. absurd (Contains-none f there))
in_firsts (f ∷ fs) r = elim (cases_order f.round r) [
  | inl same ↦ inl (f, Contains-here f f fs refl, same)
  | inr other ↦ elim (in_firsts fs r) [
    | inl found ↦ inl (found.0, Contains-behind found.0 f fs found.1, found.2)
    | inr none ↦ inr (λ g there. elim ((Contains-cons g f fs).0 there) [
      | inl here ↦ λ same.
          let same' : f.round ≡ r = ap (λ (z : First). z.round) (sym here) ∙ same in
          elim other [ inl less ↦ absurd (omega arith) | inr more ↦ absurd (omega arith) ]
      | inr behind ↦ none g behind
    ])
  ]
]

-- an entry with news in the round, or none
find_news : (entries : List Entry) (r : ℕ) → ((key : Pair) × IsNews entries key r) ⊎ ((e : Entry) (f : First) → Contains entries e → Contains e.firsts.items f → f.round ≢ r)
find_news [] r = inr (λ e f there. absurd (Contains-none e there))
find_news (e ∷ es) r = elim (in_firsts e.firsts.items r) [
  | inl found ↦ inl ((0, found.0.atom ∷ []), record { entry = e; first = found.0; at = refl; there = found.1; atom = refl; round = found.2 })
  | inr none ↦ elim (find_news es r) [
    | inl rest ↦ inl ((suc rest.0.0, rest.0.1), record { entry = rest.1.entry; first = rest.1.first; at = rest.1.at; there = rest.1.there; atom = rest.1.atom; round = rest.1.round })
    | inr none' ↦ inr (λ x f there in_x. elim ((Contains-cons x e es).0 there) [
      | inl here ↦ none f (subst (λ (z : Entry). Contains z.firsts.items f) here in_x)
      | inr behind ↦ none' x f behind in_x
    ])
  ]
]

pub done_before : (o : Option ℕ) (t r : ℕ) → r ≤ t → IsDone o t → IsDone o r
done_before None t r le done = tt
done_before (Some n) t r le done = omega arith

pub entry_of : (entries : List Entry) (q : Pair) → Contains (map pair_of entries) q → (e : Entry) × Contains entries e × (q ≡ pair_of e)
entry_of entries q there = map-Contains pair_of entries q there

module _ (s : System) (pairs : ℕ) (entries : List Entry) (table : IsTable s pairs entries) where
  one_news : (key : Pair) (r r' : ℕ) → IsNews entries key r → IsNews entries key r' → r ≡ r'
  one_news key r r' a b =
      let same : a.entry ≡ b.entry = let both : Some a.entry ≡ Some b.entry = sym a.at ∙ b.at in cc in
      let atom : a.first.atom ≡ b.first.atom = let both : a.first.atom ∷ [] ≡ b.first.atom ∷ [] = sym a.atom ∙ b.atom in cc in
      let first_a = ((table.up_to a.entry (Contains-at entries key.0 a.entry a.at)).right a.first a.there).1 in
      let first_b = ((table.up_to b.entry (Contains-at entries key.0 b.entry b.at)).right b.first b.there).1 in
      let first_b' : IsFirst (labels s (pair_of a.entry)) a.first.atom (Some b.first.round) =
      subst (λ (e : Entry). IsFirst (labels s (pair_of e)) a.first.atom (Some b.first.round)) (sym same) (subst (λ z. IsFirst (labels s (pair_of b.entry)) z (Some b.first.round)) (sym atom) first_b) in
      let one : Some a.first.round ≡ Some b.first.round = first_one (labels s (pair_of a.entry)) a.first.atom (Some a.first.round) (Some b.first.round) first_a first_b' in
      let rounds : a.first.round ≡ b.first.round = cc in
      sym a.round ∙ rounds ∙ b.round

  all_news : (t : ℕ) → ((r : ℕ) → 0 < r → r ≤ t → (key : Pair) × IsNews entries key r)
      → (keys : List Pair) × AreDifferent keys × (length keys ≡ t) × ((key : Pair) → Contains keys key → (r : ℕ) × (r ≤ t) × IsNews entries key r)
  all_news zero each = ([], tt, refl, λ key there. absurd (Contains-none key there))
  all_news (suc t) each =
      let rest = all_news t (λ r some le. each r some (omega arith)) in
      let new = each (suc t) (omega arith) (omega arith) in (
        new.0 ∷ rest.0,
        (λ there. let old = rest.3 new.0 there in let same = one_news new.0 old.0 (suc t) old.2 new.1 in let le = old.1 in absurd (omega arith), rest.1),
        ap suc rest.2,
        λ key there. elim ((Contains-cons key new.0 rest.0).0 there) [
          | inl here ↦ (suc t, omega arith, subst (λ k. IsNews entries k (suc t)) (sym here) new.1)
          | inr behind ↦ let old = rest.3 key behind in let le = old.1 in (old.0, omega arith, old.2)
        ],
      )

  -- no news in the round after k: the table is at rest
  pub quiet_rest : (k : ℕ) → AllDone entries (suc k) → ((e : Entry) (f : First) → Contains entries e → Contains e.firsts.items f → f.round ≢ suc k) → AtRest s (Contains (map pair_of entries)) k
  quiet_rest k done quiet = record {
    asks = λ q r there asked.
        let e = entry_of entries q there in
        table.asked e.0 e.1 k r (done e.0 e.1) (subst (λ (z : Pair). Asks s (grown s k z.0 z.1) r) e.2 asked);
    still = λ q there.
        let e = entry_of entries q there in
        subst (λ (z : Pair). grown s (suc k) z.0 z.1 ≡ grown s k z.0 z.1) (sym e.2)
        (same_members (grown s (suc k) e.0.kind e.0.parent) (grown s k e.0.kind e.0.parent) (grown-rises s (suc k) e.0.kind e.0.parent) (grown-rises s k e.0.kind e.0.parent)
        (among_all (grown s (suc k) e.0.kind e.0.parent) (grown s k e.0.kind e.0.parent) (λ a in_next.
        let up = table.up_to e.0 e.1 in
        let f = up.whole (suc k) a (done e.0 e.1) in_next in
        let first = (up.right f.0 f.1).1 in
        let le = (first_is (labels s (pair_of e.0)) (grown-one_more s e.0.kind e.0.parent) f.0.atom f.0.round first (suc k)).0 (subst (λ z. Contains (labels s (pair_of e.0) (suc k)) z) (sym f.2) in_next) in
        let other = quiet e.0 f.0 e.1 f.1 in
        let le' : f.0.round ≤ k = omega arith in
        subst (λ z. Contains (grown s k e.0.kind e.0.parent) z) f.2 (grown-later s e.0.kind e.0.parent f.0.round k le' f.0.atom first.0)))
        (among_all (grown s k e.0.kind e.0.parent) (grown s (suc k) e.0.kind e.0.parent) (grown-one_more s e.0.kind e.0.parent k)));
  }

  -- where it is at rest after the round k, no first round is later
  pub no_later : (k : ℕ) → AtRest s (Contains (map pair_of entries)) k → (e : Entry) (f : First) → Contains entries e → Contains e.firsts.items f → f.round ≤ k
  no_later k rest e f there in_e = elim (cases_lt k f.round) [
    | inr within ↦ within
    | inl late ↦
        let first = ((table.up_to e there).right f in_e).1 in
        let same = at_rest s (Contains (map pair_of entries)) k rest f.round (omega arith) (pair_of e) (Contains-map pair_of entries e there) in
        absurd (first.1 k late (subst (λ (z : List ℕ). Contains z f.atom) same first.0))
  ]

  -- while there is news in the last round or later, the rounds are few
  pub rounds_few : (t : ℕ) → AllDone entries t → (e : Entry) (f : First) → Contains entries e → Contains e.firsts.items f → t ≤ f.round → t ≤ length entries * MOST_ATOMS
  rounds_few t done e f there in_e le =
      let each : (r : ℕ) → 0 < r → r ≤ t → (key : Pair) × IsNews entries key r = λ r some within. news r some within in
      let keys = all_news t each in
      let few = not_more keys.0 (all_keys (length entries) MOST_ATOMS) keys.1 (λ key in_keys.
      let n = (keys.3 key in_keys).2 in
      let first = ((table.up_to n.entry (Contains-at entries key.0 n.entry n.at)).right n.first n.there).1 in
      let small : n.first.atom < MOST_ATOMS = grown-atoms s table.sound n.first.round n.entry.kind n.entry.parent n.first.atom first.0 in
      let is : (key.0, n.first.atom ∷ []) ≡ key = λ i. (key.0, sym n.atom i) in
      subst (λ z. Contains (all_keys (length entries) MOST_ATOMS) z) is
      (Contains-all_keys (length entries) MOST_ATOMS key.0 n.first.atom (slice_get_within entries key.0 n.entry n.at) small)) in
      let all = length-all_keys (length entries) MOST_ATOMS in
      let many = keys.2 in
      subst (λ z. z ≤ length entries * MOST_ATOMS) many (subst (λ z. length keys.0 ≤ z) all few)
    where
      news : (r : ℕ) → 0 < r → r ≤ t → (key : Pair) × IsNews entries key r
      news zero some within = absurd (omega arith)
      news (suc r) some within = elim (find_news entries (suc r)) [
        | inl found ↦ found
        | inr none ↦
            let rest = quiet_rest r (λ x in_entries. done_before x.rounds t (suc r) within (done x in_entries)) none in
            let early = no_later r rest e f there in_e in
            absurd (omega arith)
      ]
