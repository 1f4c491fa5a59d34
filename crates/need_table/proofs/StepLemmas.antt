-- An entry's round, with the agenda.
use Rattle.std.proofs.Common.{◌≡◌, Bool, true, false, refl, [], ℕ, suc, ◌+◌, ◌-◌, ◌≤◌, List, get_or, Option, Some, None, slice_get, IsSomeAnd, Contains, sym, ap, ◌∙◌, inl, inr, arith, subst}
use Rattle.std.proofs.lemmas.Option.{get_or_from_slice_get}
use Rattle.std.specs.Global.{Vec}
use Rattle.tp_base.proofs.Rising.{Contains-none}
use Rattle.simple_core.specs.declared.system.System.{System}
use Rattle.simple_core.specs.Pairs.{Pair, Asks}
use Rattle.simple_core.proofs.RoundLemmas.{grown-rises}
use Rattle.simple_core.specs.declared.summaries.First.{First}
use Rattle.need_table.specs.declared.entries.Entry.{Entry}
use Rattle.need_table.specs.declared.agenda.Agenda.{Agenda}
use Rattle.need_table.specs.Rows.{row_in, IsRicher, IsDue}
use Rattle.need_table.specs.Agendas.{IsGoing}
use Rattle.need_table.specs.Tables.{pair_of, labels, fresh_of, atoms_from, replaced, AreOrdered, IsDone, IsHeard, IsAskedAt, IsTable, IsMore, IsNoted, IsUntouched}
use Rattle.need_table.specs.Turns.{IsAsked, IsGained}
use Rattle.need_table.proofs.FillLemmas.{fresh_of-is, set-here, IsStep, noted_step, untouched_more}
use Rattle.need_table.proofs.ChildLemmas.{some_at, and_at, within_of, heard_there}
use Rattle.need_table.proofs.GainLemmas.{fresh_same}
use Rattle.need_table.proofs.GoingLemmas.{going_set}

-- those that an entry asks know it
pub listening : (s : System) (pairs : ℕ) (entries : List Entry) (g : Agenda) (i k : ℕ) (x : Entry) (children : List ℕ) (j : ℕ) → IsGoing s pairs entries g → IsSomeAnd (slice_get entries i) (λ e. e.rounds ≡ Some k)
    → x ≡ get_or entries i x → children ≡ x.children.items → Contains children j → g.first ≤ j → Contains (row_in g.askers (j - g.first)) i
listening s pairs entries g i k x children j go rounds read is child le =
    let e = some_at (λ e. e.rounds ≡ Some k) (slice_get entries i) rounds in
    let here : x ≡ e.0 = read ∙ get_or_from_slice_get entries i e.0 x e.1 in
    (go.asking i j e.0 e.1 (λ none. let never : Some k ≡ None = sym e.2 ∙ none in cc) (subst (λ (z : List ℕ). Contains z j) (is ∙ ap (λ (z : Entry). z.children.items) here) child)).1 le

-- what the round after k brings is what is new in it
news_are : (s : System) (q : Pair) (k : ℕ) (own given : List ℕ) → own ≡ labels s q k → IsGained s q k own given → fresh_of own (k + 1) given ≡ fresh_of (labels s q k) (suc k) (labels s q (suc k))
news_are s q k own given is_own gained =
    let round : k + 1 ≡ suc k = omega arith in
    fresh_same own given (labels s q (suc k)) (k + 1) gained.rises (grown-rises s (suc k) q.0 q.1) gained.right gained.whole
    ∙ ap (λ n. fresh_of own n (labels s q (suc k))) round ∙ ap (λ (z : List ℕ). fresh_of z (suc k) (labels s q (suc k))) is_own

-- the entry that was read is the one at the place
pub asked_read : (s : System) (old shown : List Entry) (i k : ℕ) (x : Entry) (place from : ℕ) (anew : Option (Vec ℕ)) → x ≡ get_or old i x
    → IsSomeAnd (slice_get old i) (λ e. IsAsked s shown (pair_of e) k e.label (atoms_from place e.firsts.items) from (replaced anew e.children.items))
    → IsSomeAnd (slice_get old i) (λ e. IsAsked s shown (pair_of e) k e.label (atoms_from place x.firsts.items) from (replaced anew e.children.items))
asked_read s old shown i k x place from anew read asked =
    let e = some_at (λ (e : Entry). IsAsked s shown (pair_of e) k e.label (atoms_from place e.firsts.items) from (replaced anew e.children.items)) (slice_get old i) asked in
    let here : x ≡ e.0 = read ∙ get_or_from_slice_get old i e.0 x e.1 in
    subst (λ o. IsSomeAnd o (λ e. IsAsked s shown (pair_of e) k e.label (atoms_from place x.firsts.items) from (replaced anew e.children.items))) (sym e.1)
    (subst (λ (z : Entry). IsAsked s shown (pair_of e.0) k e.0.label (atoms_from place z.firsts.items) from (replaced anew e.0.children.items)) (sym here) e.2)

-- where something is new, that was said
pub grown_by : {X : Type 0} (grew : Bool) (firsts : List X) (f : X) → Contains firsts f → (grew ≡ false → firsts ≡ []) → grew ≡ true
grown_by true firsts f there none = refl
grown_by {X} false firsts f there none = absurd (Contains-none f (subst (λ (z : List X). Contains z f) (none refl) there))

-- a round is worked out
module _ (s : System) (pairs : ℕ) (old new : List Entry) (i k : ℕ) (place from : ℕ) (anew : Option (Vec ℕ)) (given : List ℕ) (table : IsTable s pairs old)
    (rounds : IsSomeAnd (slice_get old i) (λ e. e.rounds ≡ Some k)) (asked : IsSomeAnd (slice_get old i) (λ e. IsAsked s old (pair_of e) k e.label (atoms_from place e.firsts.items) from (replaced anew e.children.items)))
    (gained : IsSomeAnd (slice_get old i) (λ e. IsGained s (pair_of e) k e.label given)) where
  asked_at : (e : Entry) → slice_get old i ≡ Some e → IsAsked s old (pair_of e) k e.label (atoms_from place e.firsts.items) from (replaced anew e.children.items)
  asked_at e at = and_at (λ (e : Entry). IsAsked s old (pair_of e) k e.label (atoms_from place e.firsts.items) from (replaced anew e.children.items)) (slice_get old i) e at asked

  pub round_done : IsNoted old new i k given anew → IsStep s pairs old new × IsSomeAnd (slice_get new i) (λ x. IsDone x.rounds (suc k))
  round_done noted =
      let e = some_at (λ (e : Entry). e.rounds ≡ Some k) (slice_get old i) rounds in
      let children = replaced anew e.0.children.items in
      let a = asked_at e.0 e.1 in
      let g : IsGained s (pair_of e.0) k e.0.label given = and_at (λ (e : Entry). IsGained s (pair_of e) k e.label given) (slice_get old i) e.0 e.1 gained in
      let heard : (r : Pair) → Asks s (labels s (pair_of e.0) k) r → IsHeard old children r = λ r asks. a.heard r (subst (λ (z : List ℕ). Asks s z r) (sym a.label) asks) in
      noted_step s pairs old new i k (fresh_of e.0.label (k + 1) given) children e.0 table e.1 (news_are s (pair_of e.0) k e.0.label given a.label g) (λ r asks. heard_there old children r (heard r asks)) heard
      (λ j child. subst (λ (z : List ℕ). IsAskedAt s old z j) a.label (a.only j child)) (subst (λ o. IsDone o k) (sym e.2) (omega arith)) (noted e.0 e.1)

  pub stepped : (g g' : Agenda) (mid : List (List ℕ)) → IsGoing s pairs old g → IsNoted old new i k given anew
      → g'.first ≡ g.first → g'.askers ≡ mid → IsRicher g.due g'.due → IsRicher g.askers mid
      → ((e : Entry) (f : First) → slice_get old i ≡ Some e → Contains (fresh_of e.label (k + 1) given) f → Contains (row_in g'.due (k + 1)) i)
      → ((e : Entry) (f : First) → slice_get old i ≡ Some e → Contains (fresh_of e.label (k + 1) given) f → (a : ℕ) → Contains (row_in mid (i - g.first)) a → Contains (row_in g'.due (k + 1)) a)
      → ((e : Entry) (j : ℕ) → slice_get old i ≡ Some e → Contains (replaced anew e.children.items) j → g.first ≤ j → Contains (row_in mid (j - g.first)) i)
      → ((e : Entry) (j : ℕ) (c : Entry) (f : First) → slice_get new i ≡ Some e → Contains e.children.items j → slice_get new j ≡ Some c → Contains c.firsts.items f → k + 1 ≤ f.round → IsDue g'.due i (k + 1) f.round)
      → IsGoing s pairs new g'
  stepped g g' mid go noted first kept more richer told woken listened due =
      let e = some_at (λ (e : Entry). e.rounds ≡ Some k) (slice_get old i) rounds in
      let children = replaced anew e.0.children.items in
      let firsts = fresh_of e.0.label (k + 1) given in
      let a = asked_at e.0 e.1 in
      let one = (round_done noted).0 in
      let round : k + 1 ≡ suc k = omega arith in
      elim (noted e.0 e.1) [
        | inr (is', other) ↦ absurd (other e.2)
        | inl (e', is', at_k, pair, rounds', firsts', children', label') ↦
            let there : slice_get new i ≡ Some e' = ap (λ z. slice_get z i) is' ∙ set-here old i e.0 e' e.1 in
            subst (λ (z : List Entry). IsGoing s pairs z g') (sym is')
            (going_set s pairs old g g' go i k e.0 e' firsts e.1 e.2 rounds' firsts'
            (λ f in_firsts. (fresh_of-is e.0.label (k + 1) given f in_firsts).2 ∙ round)
            first more (λ q a there. subst (λ (z : List (List ℕ)). Contains (row_in z q) a) (sym kept) (richer q a there))
            (λ f in_firsts. subst (λ z. Contains (row_in g'.due z) i) round (told e.0 f e.1 in_firsts))
            (λ f in_firsts a asks. subst (λ z. Contains (row_in g'.due z) a) round (woken e.0 f e.1 in_firsts a
            (subst (λ z. Contains (row_in mid (i - z)) a) first (subst (λ (z : List (List ℕ)). Contains (row_in z (i - g'.first)) a) kept asks))))
            (λ j child le. subst (λ (z : List (List ℕ)). Contains (row_in z (j - g'.first)) i) (sym kept) (subst (λ z. Contains (row_in mid (j - z)) i) (sym first)
            (listened e.0 j e.1 (subst (λ (z : List ℕ). Contains z j) children' child) (omega (arith, first)))))
            (λ j child. within_of (λ (c : Entry). Asks s e.0.label (pair_of c)) old j (a.only j (subst (λ (z : List ℕ). Contains z j) children' child)))
            (subst (λ (z : List Entry). IsTable s pairs z) is' one.table)
            (λ j c f child at_j in_c le. subst (λ z. IsDue g'.due i z f.round) round (due e' j c f there child (ap (λ z. slice_get z j) is' ∙ at_j) in_c (omega arith))))
      ]

-- the round couldn't be noted
pub round_lost : (old new : List Entry) (i k : ℕ) → IsSomeAnd (slice_get old i) (λ e. e.rounds ≡ Some k) → IsUntouched old new i → IsMore old new
round_lost old new i k rounds touch =
    let e = some_at (λ (e : Entry). e.rounds ≡ Some k) (slice_get old i) rounds in
    untouched_more old new i e.0 e.1 touch

-- the rounds of firsts never fall
pub ordered : (s : System) (pairs : ℕ) (entries : List Entry) → IsTable s pairs entries → AreOrdered entries
ordered s pairs entries table e there = (table.up_to e there).order
