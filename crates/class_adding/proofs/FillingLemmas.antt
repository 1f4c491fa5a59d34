-- A page between its rounds: what is known of it before the first one, and from one to the next.
use Rattle.std.proofs.Common.{◌≡◌, ◌≢◌, ◌⊎◌, ℕ, suc, ◌+◌, ◌^◌, ◌<◌, ◌≤◌, ◌==◌, false, List, [], ◌∷◌, ◌++◌, length, get_or, Option, Some, None, IfSome, Contains, refl, sym, ap, ◌∙◌, inl, inr, arith, subst}
use Rattle.std.proofs.lemmas.Bool.{cases_Bool, eqb-true}
use Rattle.tree_sem.specs.Trees.{LabelTree}
use Rattle.tree_sem.specs.Order.{paths_of}
use Rattle.simple_core.specs.declared.system.System.{System}
use Rattle.simple_core.specs.Pairs.{Pair}
use Rattle.closed_page.specs.declared.gains.NodeGain.{NodeGain}
use Rattle.closed_page.specs.Gains.{Gain, gains_at}
use Rattle.class_adding.specs.declared.looking.Look.{Look}
use Rattle.class_adding.specs.Alike.{AreAlike}
use Rattle.class_adding.specs.Filling.{AreLooked, AreFresh, IsNews, IsLooked, IsAfter, wake_at, wakes_in}
use Rattle.class_adding.specs.Fillings.{IsBegun, IsTaken}
use Rattle.class_adding.specs.Fresh.{AreSettled, AreResting}
use Rattle.class_adding.specs.Looks.{AreLooks, AreFound, AreSeen, RestUndue}
use Rattle.class_adding.specs.Work.{IsWorking, IsNext, IsSeen, IsWritten, AreUntil, nodes_in}
use Rattle.class_adding.specs.declared.filling.Filling.{Filling}
use Rattle.class_adding.specs.declared.rounds.Round.{Round}
use Rattle.class_adding.specs.declared.work.Work.{Work}
use Rattle.class_adding.proofs.AlikeLemmas.{all_alike_next}
use Rattle.class_adding.proofs.EndLemmas.{IsClosing, closing_start, closing_next}
use Rattle.class_adding.proofs.RoundLemmas.{looked_now, looked_more, news_rest}
use Rattle.class_adding.proofs.SettledLemmas.{all_labels_are, settled_start, resting_start, settled_next, resting_next, rest_now}
use Rattle.class_adding.proofs.WrittenLemmas.{working_start, working_next, look_of, cases_true, is_due}

-- after k rounds
pub record IsFilled (s : System) (t : LabelTree) (k : ℕ) (known : Pair → Type 0) (f : Filling) : Type 0 where
  pub closing : IsClosing s t f.labels.labels f.labels.firsts k known
  pub rests : RestUndue s f.labels.labels k known f.work.due.items f.work.wakes.items f.labels.nodes
  pub settled : AreSettled s f.labels.labels f.labels.nodes f.work.fresh.items
  pub resting : AreResting s f.labels.labels k known f.labels.nodes f.work.fresh.items f.work.wakes.items
  pub working : IsWorking f.labels.nodes f.work
  pub alike : AreAlike f.labels.labels f.labels.nodes f.alike.items
  pub nodes : f.labels.nodes ≡ paths_of t
  pub few : k ≤ 2 ^ 62 + f.labels.notes
  pub room : f.labels.notes < 2 ^ 63

pub filled_start : (s : System) (t : LabelTree) (known : Pair → Type 0) (f : Filling) → IsBegun t f → IsFilled s t 0 known f
filled_start s t known f b =
    let u = f.labels.labels in
    let nodes = f.labels.nodes in
    let own = all_labels_are t u nodes nodes f.work.fresh.items b.labels refl b.start.fresh in
    record {
      closing = closing_start s t u f.labels.firsts known nodes b.nodes b.labels b.firsts b.rising;
      rests = λ i less. inl ((b.start.due i).1 less);
      settled = settled_start s u nodes f.work.fresh.items own;
      resting = resting_start s u nodes f.work.fresh.items own known f.work.wakes.items b.start.none;
      working = working_start t nodes f.work b.start;
      alike = subst (λ (z : LabelTree). AreAlike z nodes f.alike.items) (sym b.labels) b.alike;
      nodes = b.nodes;
      few = omega arith;
      room = b.few;
    }

module _ (s : System) (u : LabelTree) (nodes : List (List ℕ)) (k : ℕ) (known known' : Pair → Type 0) (w : Work) (r : Round) (latest : ℕ)
    (rests : RestUndue s u k known w.due.items w.wakes.items nodes) (working : IsWorking nodes w) (found : AreFound s u nodes k known' w.due.items r) (more : (q : Pair) → known q → known' q) where
  -- a node that isn't due stays as it is
  undue : (i : ℕ) → i < length nodes → (Contains w.due.items i → ⊥) → IsLooked s u k known [] (wake_at w.wakes.items i) (get_or nodes i [])
  undue i less never = elim (rests i less) [ inl there ↦ absurd (never there) | inr look ↦ look ]

  still : (i : ℕ) → i < length nodes → (Contains w.due.items i → ⊥) → IsLooked s u k known' (gains_at nodes r.gains.items) (wake_at w.wakes.items i) (get_or nodes i [])
  still i less never = looked_more s u k known known' [] (gains_at nodes r.gains.items) (wake_at w.wakes.items i) (get_or nodes i []) more (λ g none. absurd (no_gain g none)) (undue i less never)
    where
      no_gain : (g : Gain) → Contains [] g → ⊥
      no_gain g (j, less, at) = omega (arith, less)

  pub all_seen : w.latest ≤ latest → AreUntil r.looks.items latest → AreSeen s u k known' (gains_at nodes r.gains.items) latest nodes
  all_seen before until i less = elim (is_due i w.due.items) [
    | inl there ↦
        let l = found.covers i there in
        let at : IsLooked s u k known' (gains_at nodes r.gains.items) l.0.wake (get_or nodes i []) = subst (λ n. IsLooked s u k known' (gains_at nodes r.gains.items) l.0.wake (get_or nodes n [])) l.2 (looked_now s u k known' (gains_at nodes r.gains.items) nodes l.0 (found.looks_are l.0 l.1)) in
        (l.0.wake, at, until l.0 l.1)
    | inr never ↦ (wake_at w.wakes.items i, still i less never, sooner (wake_at w.wakes.items i) before (working.until i))
  ]
    where
      sooner : (wake : Option ℕ) → w.latest ≤ latest → IfSome wake (λ r. r ≤ w.latest) → IfSome wake (λ r. r ≤ latest)
      sooner None le h = tt
      sooner (Some r) le h = let early : r ≤ w.latest = h in omega (arith, early, le)

  -- what is written of the looks
  pub all_fresh : (fresh : List (List ℕ)) → IsWritten (λ (l : Look). l.news) [] r.looks.items w.fresh.items fresh → AreFresh s u k nodes fresh
  all_fresh fresh written i less = elim (written.each i) [
    | inl kept ↦
        let never : Contains w.due.items i → ⊥ = λ there. let l = found.covers i there in kept.1 l.0 l.1 l.2 in
        let none : get_or w.fresh.items i [] ≡ [] = elim (working.quiet i less) [ inl is ↦ is | inr there ↦ absurd (never there) ] in
        subst (λ (z : List ℕ). IsNews s u k (get_or nodes i []) z) (sym (kept.0 ∙ none)) (news_rest s u k known (wake_at w.wakes.items i) (get_or nodes i []) (undue i less never))
    | inr l ↦
        subst (λ (z : List ℕ). IsNews s u k (get_or nodes i []) z) (sym l.3) (subst (λ n. IsNews s u k (get_or nodes n []) l.0.news) l.2 (found.looks_are l.0 l.1).tells.is_news)
  ]

  pub all_looked : (wakes : List (Option ℕ)) → IsWritten (λ (l : Look). l.wake) None r.looks.items w.wakes.items wakes → AreLooked s u k known' (gains_at nodes r.gains.items) wakes nodes
  all_looked wakes written i less = elim (written.each i) [
    | inl kept ↦
        let never : Contains w.due.items i → ⊥ = λ there. let l = found.covers i there in kept.1 l.0 l.1 l.2 in
        subst (λ (z : Option ℕ). IsLooked s u k known' (gains_at nodes r.gains.items) z (get_or nodes i [])) (sym kept.0) (still i less never)
    | inr l ↦
        subst (λ (z : Option ℕ). IsLooked s u k known' (gains_at nodes r.gains.items) z (get_or nodes i [])) (sym l.3)
        (subst (λ n. IsLooked s u k known' (gains_at nodes r.gains.items) l.0.wake (get_or nodes n [])) l.2 (looked_now s u k known' (gains_at nodes r.gains.items) nodes l.0 (found.looks_are l.0 l.1)))
  ]

not_woken : (wake : Option ℕ) (n : ℕ) → (wake ≡ Some n → ⊥) → wakes_in n wake ≡ false
not_woken None n other = refl
not_woken (Some r) n other = elim (cases_Bool (r == n)) [ inl same ↦ absurd (other (ap Some (eqb-true r n same))) | inr none ↦ none ]

-- a node that isn't due need not be looked at
rests_next : (s : System) (t u u' : LabelTree) (k k' latest : ℕ) (known : Pair → Type 0) (gains : List Gain) (nodes : List (List ℕ)) (w w' : Work) (looks : List Look) → nodes ≡ paths_of t → IsAfter s t k u → IsAfter s t (suc k) u'
    → AreFresh s u k nodes w'.fresh.items → AreLooks s u k known gains nodes looks → AreLooked s u k known gains w'.wakes.items nodes → IsWorking nodes w → ((i : ℕ) → Contains w.due.items i → IsSeen looks i)
    → IsNext nodes w looks latest k' w' → IsWorking nodes w' → k' ≡ suc k → RestUndue s u' k' known w'.due.items w'.wakes.items nodes
rests_next s t u u' k k' latest known gains nodes w w' looks all after after' fresh looks_are looked working covers next working' one i less = elim (is_due i w'.due.items) [
  | inl there ↦ inl there
  | inr never ↦
      let wakes = w'.wakes.items in
      let of = look_of nodes w looks latest k' w' working (λ l there. (looks_are l there).tells.same) covers next in
      let quiet : get_or w'.fresh.items i [] ≡ [] = elim (working'.quiet i less) [ inl is ↦ is | inr there ↦ absurd (never there) ] in
      let awaited : wake_at wakes i ≡ Some (suc k) → Contains (nodes_in w'.awaited (suc k)) i = λ e. subst (λ (z : Option ℕ). IfSome z (λ n. Contains (nodes_in w'.awaited n) i)) e (working'.awaited i) in
      let asleep : wakes_in (suc k) (wake_at wakes i) ≡ false = not_woken (wake_at wakes i) (suc k) (λ e. never (next.woken i (subst (λ z. Contains (nodes_in w'.awaited z) i) (sym one) (awaited e)))) in
      inr (subst (λ z. IsLooked s u' z known [] (wake_at wakes i) (get_or nodes i [])) (sym one)
      (rest_now s t u u' k nodes w'.fresh.items all after after' fresh i less quiet
      (λ j n in_j at m listed from.
      let l = of j m.from in_j from in
      elim (cases_true l.0.seen_below) [
        | inl seen ↦ never ((next.near l.0 l.1 l.3).below seen i n less (at ∙ ap (λ z. get_or nodes z [] ++ n ∷ []) (sym l.2)))
        | inr unseen ↦ (looks_are l.0 l.1).tells.below unseen m listed l.4
      ])
      (λ j n in_j at m listed from.
      let l = of j m.from in_j from in
      elim (cases_true l.0.seen_above) [
        | inl seen ↦ never ((next.near l.0 l.1 l.3).above seen i n less (ap (λ z. get_or nodes z []) l.2 ∙ at))
        | inr unseen ↦ (looks_are l.0 l.1).tells.above unseen m listed l.4
      ])
      known gains wakes looked asleep))
]

-- how many rounds there are: each has a gain, or comes before the last one in which a node wakes
some_gains : (gains : List NodeGain) → (gains ≡ [] → ⊥) → 0 < length gains
some_gains [] some = absurd (some refl)
some_gains (g ∷ gains) some = omega arith

few_next : (k k' latest notes notes' : ℕ) (gains : List NodeGain) → (gains ≢ []) ⊎ (k < latest) → latest < 2 ^ 62 → k ≤ 2 ^ 62 + notes → k' ≡ suc k → notes' ≡ notes + length gains → k' ≤ 2 ^ 62 + notes'
few_next k k' latest notes notes' gains cases bound few next more = elim cases [
  | inl some ↦ let one : 0 < length gains = some_gains gains some in omega (arith, one, few, next, more)
  | inr waits ↦ let less : k < latest = waits in omega (arith, less, bound, next)
]

pub filled_next : (s : System) (t : LabelTree) (k k' latest : ℕ) (known known' : Pair → Type 0) (f f' : Filling) (r : Round) → IsFilled s t k known f → ((q : Pair) → known q → known' q)
    → AreFound s f.labels.labels f.labels.nodes k known' f.work.due.items r → f.work.latest ≤ latest → AreUntil r.looks.items latest → latest < 2 ^ 62 → (r.gains.items ≢ []) ⊎ (k < latest)
    → IsTaken f r latest k' f' → k' ≡ suc k → IsFilled s t k' known' f'
filled_next s t k k' latest known known' f f' r filled more found before until bound cases taken next =
    let u = f.labels.labels in
    let u' = f'.labels.labels in
    let nodes = f.labels.nodes in
    let nodes' = f'.labels.nodes in
    let gains = gains_at nodes r.gains.items in
    let looks = r.looks.items in
    let wakes = f'.work.wakes.items in
    let fresh = f'.work.fresh.items in
    let due = f'.work.due.items in
    let seen = all_seen s u nodes k known known' f.work r latest filled.rests filled.working found more before until in
    let is_fresh : AreFresh s u k nodes fresh = all_fresh s u nodes k known known' f.work r latest filled.rests filled.working found more fresh taken.next.fresh in
    let looked : AreLooked s u k known' gains wakes nodes = all_looked s u nodes k known known' f.work r latest filled.rests filled.working found more wakes taken.next.wakes in
    let closing : IsClosing s t u' f'.labels.firsts k' known' =
    closing_next s t u f.labels.firsts k known known' nodes gains latest filled.nodes filled.closing found.right seen more k' u' f'.labels.firsts next taken.labels taken.firsts in
    let after' : IsAfter s t (suc k) u' = subst (λ z. IsAfter s t z u') next closing.after in
    let working : IsWorking nodes f'.work = working_next nodes f.work looks latest k' f'.work filled.working (λ l there. (found.looks_are l there).tells.same) found.covers taken.next (λ l there. (found.looks_are l there).within) before until bound in
    let rests : RestUndue s u' k' known' due wakes nodes =
    rests_next s t u u' k k' latest known' gains nodes f.work f'.work looks filled.nodes filled.closing.after after' is_fresh found.looks_are looked filled.working found.covers taken.next working next in
    let same : nodes' ≡ nodes = taken.nodes in
    record {
      closing = closing;
      rests = subst (λ (z : List (List ℕ)). RestUndue s u' k' known' due wakes z) (sym same) rests;
      settled = subst (λ (z : List (List ℕ)). AreSettled s u' z fresh) (sym same) (settled_next s t u u' k nodes fresh filled.nodes filled.closing.after after' is_fresh);
      resting = subst (λ (z : List (List ℕ)). AreResting s u' k' known' z fresh wakes) (sym same) (subst (λ z. AreResting s u' z known' nodes fresh wakes) (sym next)
          (resting_next s t u u' k nodes fresh filled.nodes filled.closing.after after' is_fresh known' gains wakes wakes refl looked));
      working = subst (λ (z : List (List ℕ)). IsWorking z f'.work) (sym same) working;
      alike = subst (λ (z : List (List ℕ)). AreAlike u' z f'.alike.items) (sym same)
          (all_alike_next s t u u' k nodes f.alike.items f'.alike.items filled.nodes filled.closing.after after' (ap (λ z. z.items) taken.alike) filled.alike);
      nodes = same ∙ filled.nodes;
      few = few_next k k' latest f.labels.notes f'.labels.notes r.gains.items cases bound filled.few next taken.notes;
      room = taken.few filled.room;
    }
