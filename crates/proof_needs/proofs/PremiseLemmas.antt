-- What is wanted once a reason was followed, by places.
--     has_set, has_same       a list in the ties of triples, once one tie is written
--     premises_of             what `Follows` says, by places
use Rattle.std.proofs.Common.{◌≡◌, ◌⊎◌, ◌↔◌, ℕ, zero, suc, ◌<◌, List, [], ◌∷◌, ◌++◌, length, Contains, Option, Some, None, slice_get, slice_set, inl, inr, refl, sym, ap, ◌∙◌, subst, arith}
use Rattle.std.proofs.lemmas.Option.{slice_get_within}
use Rattle.std.proofs.lemmas.List.Elements.{Contains-append_cases, Contains-append_left, Contains-append_right}
use Rattle.tp_base.proofs.ClassLemmas.{Contains-with_class}
use Rattle.tp_base.proofs.Lists.{Contains-at, Contains-only, element_at}
use Rattle.tp_base.proofs.Rising.{Contains-here}
use Rattle.tree_sem.specs.Paths.{parent_of}
use Rattle.tree_sem.proofs.PathLemmas.{parent_of-none}
use Rattle.simple_core.specs.declared.system.System.{System}
use Rattle.proof_needs.specs.declared.needs.Choice.{Choice}
use Rattle.proof_needs.specs.declared.needs.Choice.TheVariants.{Start, Local, Up, Real, Spawn}
use Rattle.proof_needs.specs.declared.needs.Needs.{Needs}
use Rattle.proof_needs.specs.declared.needs.Tie.{Tie}
use Rattle.proof_needs.specs.declared.spots.Spot.{Spot}
use Rattle.proof_needs.specs.declared.spots.Spot.TheVariants.{Page, Added}
use Rattle.proof_needs.specs.declared.spots.Want.{Want}
use Rattle.proof_needs.specs.Choices.{from_up, from_down, needs_of, spawn_needs}
use Rattle.proof_needs.specs.Following.{IsAtNode, IsUsed, FollowsUp, FollowsDown, Follows}
use Rattle.proof_needs.specs.Premises.{place_of, HasPlace, triple_named, IsWantedAt, HasChild, AsksAbove, ArePlaced, IsPremise, IsNewChild, IsNewAbove, WantsPremises}
use Rattle.proof_needs.specs.Sets.{IsMore, IsWith}
use Rattle.proof_needs.specs.Spots.{paths_in, triples_in}
use Rattle.proof_needs.specs.Ties.{IsTieIndex}
use Rattle.proof_needs.specs.Triples.{Triple, page_node, added}
use Rattle.proof_needs.specs.Triples.{Spot as Where}
use Rattle.proof_needs.specs.Wants.{want_of, IsOfEach, IsAtEach}
use Rattle.proof_needs.proofs.SetLemmas.{more_Contains, with_nothing}

-- an element that is written
written : {X : Type 0} (xs : List X) (n : ℕ) (x : X) → n < length xs → slice_get (slice_set xs n x) n ≡ Some x
written [] n x lt = absurd (omega arith)
written (y ∷ xs) zero x lt = refl
written (y ∷ xs) (suc n) x lt = written xs n x (omega arith)

written_cases : {X : Type 0} (xs : List X) (n m : ℕ) (x y : X) → slice_get (slice_set xs n x) m ≡ Some y → ((m ≡ n) × (y ≡ x)) ⊎ (slice_get xs m ≡ Some y)
written_cases [] n m x y at = inr at
written_cases (z ∷ xs) zero zero x y at = inl (refl, let same : x ≡ y = cc in sym same)
written_cases (z ∷ xs) zero (suc m) x y at = inr at
written_cases (z ∷ xs) (suc n) zero x y at = inr at
written_cases (z ∷ xs) (suc n) (suc m) x y at = elim (written_cases xs n m x y at) [
  | inl (place, same) ↦ inl (ap suc place, same)
  | inr old ↦ inr old
]

old_cases : {X : Type 0} (xs : List X) (n m : ℕ) (x y : X) → slice_get xs m ≡ Some y → (m ≡ n) ⊎ (slice_get (slice_set xs n x) m ≡ Some y)
old_cases [] n m x y at = inr at
old_cases (z ∷ xs) zero zero x y at = inl refl
old_cases (z ∷ xs) zero (suc m) x y at = inr at
old_cases (z ∷ xs) (suc n) zero x y at = inr at
old_cases (z ∷ xs) (suc n) (suc m) x y at = elim (old_cases xs n m x y at) [
  | inl place ↦ inl (ap suc place)
  | inr still ↦ inr still
]

one_at : {X : Type 0} (xs : List X) (i : ℕ) (x y : X) → slice_get xs i ≡ Some x → slice_get xs i ≡ Some y → x ≡ y
one_at xs i x y at at' = cc

turned : {A B C : Type 0} → A ↔ (B ⊎ C) → A ↔ (C ⊎ B)
turned h = (λ a. elim (h.0 a) [ inl b ↦ inr b | inr c ↦ inl c ], λ e. elim e [ inl c ↦ h.1 (inr c) | inr b ↦ h.1 (inl b) ])

with_such : {A B C D : Type 0} → A ↔ (B ⊎ C) → C ↔ D → A ↔ (B ⊎ D)
with_such h k = (λ a. elim (h.0 a) [ inl b ↦ inl b | inr c ↦ inr (k.0 c) ], λ e. elim e [ inl b ↦ h.1 (inl b) | inr d ↦ h.1 (inr (k.1 d)) ])

one_more : {X : Type 0} (xs : List X) (x y : X) → Contains (xs ++ x ∷ []) y ↔ (Contains xs y ⊎ (y ≡ x))
one_more xs x y = (
  λ there. elim (Contains-append_cases xs (x ∷ []) y there) [ inl old ↦ inl old | inr last ↦ inr (sym (Contains-only x y last)) ],
  λ either. elim either [ inl old ↦ Contains-append_left xs (x ∷ []) y old | inr same ↦ Contains-append_right xs (x ∷ []) y (Contains-here y x [] same) ],
)

-- what a tie of the triple has in one of its lists
module _ {X : Type 0} (f : Tie → List X) (ts : List Triple) where
  abbrev Has : List Tie → Triple → X → Type 0
  Has ties t x = (tie : Tie) × ((m : ℕ) × (slice_get ts m ≡ Some t) × (slice_get ties m ≡ Some tie)) × Contains (f tie) x

  has_set : (ties : List Tie) (n : ℕ) (tie now : Tie) (u : Triple) (N : X → Type 0) → slice_get ties n ≡ Some tie → slice_get ts n ≡ Some u → ((x : X) → Contains (f now) x ↔ (Contains (f tie) x ⊎ N x))
      → (t : Triple) (x : X) → Has (slice_set ties n now) t x ↔ (Has ties t x ⊎ ((t ≡ u) × N x))
  has_set ties n tie now u N at at_u more t x = (to, from)
    where
      now_at : slice_get (slice_set ties n now) n ≡ Some now
      now_at = written ties n now (slice_get_within ties n tie at)

      to : Has (slice_set ties n now) t x → Has ties t x ⊎ ((t ≡ u) × N x)
      to (e, (m, at_t, at_e), is) = elim (written_cases ties n m now e at_e) [
        | inl (place, same) ↦
            let at_n : slice_get ts n ≡ Some t = subst (λ z. slice_get ts z ≡ Some t) place at_t in
            elim ((more x).0 (subst (λ z. Contains (f z) x) same is)) [
              | inl old ↦ inl (tie, (n, at_n, at), old)
              | inr new ↦ inr (one_at ts n t u at_n at_u, new)
            ]
        | inr still ↦ inl (e, (m, at_t, still), is)
      ]

      from : Has ties t x ⊎ ((t ≡ u) × N x) → Has (slice_set ties n now) t x
      from (inl (e, (m, at_t, at_e), is)) = elim (old_cases ties n m now e at_e) [
        | inl place ↦
            let same : e ≡ tie = one_at ties n e tie (subst (λ z. slice_get ties z ≡ Some e) place at_e) at in
            (now, (n, subst (λ z. slice_get ts z ≡ Some t) place at_t, now_at), (more x).1 (inl (subst (λ z. Contains (f z) x) same is)))
        | inr still ↦ (e, (m, at_t, still), is)
      ]
      from (inr (same, new)) = (now, (n, subst (λ z. slice_get ts n ≡ Some z) (sym same) at_u, now_at), (more x).1 (inr new))

  -- a list that stays
  has_kept : (ties ties' : List Tie) (n : ℕ) (tie now : Tie) (u : Triple) (N : Type 0) → ties' ≡ slice_set ties n now → slice_get ties n ≡ Some tie → slice_get ts n ≡ Some u → f now ≡ f tie → (N → ⊥)
      → (t : Triple) (x : X) → Has ties' t x ↔ (Has ties t x ⊎ N)
  has_kept ties ties' n tie now u N is at at_u same none t x =
      let none_new : (y : X) → Contains (f now) y ↔ (Contains (f tie) y ⊎ ⊥) = λ y. (
        λ there. inl (subst (λ z. Contains z y) same there),
        λ e. elim e [ inl there ↦ subst (λ z. Contains z y) (sym same) there | inr no_such ↦ absurd no_such ],
      ) in
      with_such (subst (λ z. Has z t x ↔ (Has ties t x ⊎ ((t ≡ u) × ⊥))) (sym is) (has_set ties n tie now u (λ y. ⊥) at at_u none_new t x)) (λ both. absurd both.1, λ such. absurd (none such))

  -- nothing more
  has_same : (ties ties' : List Tie) (N : Type 0) → ties' ≡ ties → (N → ⊥) → (t : Triple) (x : X) → Has ties' t x ↔ (Has ties t x ⊎ N)
  has_same ties ties' N same none t x = (
    λ is. inl (subst (λ z. Has z t x) same is),
    λ either. elim either [ inl is ↦ subst (λ z. Has z t x) (sym same) is | inr new ↦ absurd (none new) ],
  )

module _ (s : System) (old new : Needs) (placed : ArePlaced old) where
  abbrev nodes : List (List ℕ)
  nodes = paths_in old.nodes.keys

  abbrev nodes' : List (List ℕ)
  nodes' = paths_in new.nodes.keys

  abbrev triples : List Triple
  triples = triples_in old.triples.keys

  abbrev ties : List Tie
  ties = old.ties.items

  abbrev ties' : List Tie
  ties' = new.ties.items

  abbrev wants : List Want
  wants = old.wants.keys

  abbrev wants' : List Want
  wants' = new.wants.keys

  -- with the triples, which stay
  abbrev still : Needs
  still = record new { triples = old.triples }

  same_place : IsMore nodes nodes' → (u : Spot) → HasPlace old u → place_of still u ≡ place_of old u
  same_place more (Page n) lt = let x = element_at nodes n lt in rw (x.1, more n x.0 x.1) refl
  same_place more (Added n) lt = refl

  wants_by : (P : Want → Type 0) (Q : Where → ℕ → Type 0) → IsMore nodes nodes' → IsWith wants P wants' → ((w : Want) → P w → Q (place_of still w.spot) w.atom)
      → ((p : Where) (a : ℕ) → Q p a → (w : Want) × P w × (place_of still w.spot ≡ p) × (w.atom ≡ a))
      → (p : Where) (a : ℕ) → IsWantedAt still p a ↔ (IsWantedAt old p a ⊎ Q p a)
  wants_by P Q more is to_place to_want p a = (to, from)
    where
      to : IsWantedAt still p a → IsWantedAt old p a ⊎ Q p a
      to (w, there, at, atom) = elim (is.within w there) [
        | inl before ↦ inl (w, before, sym (same_place more w.spot (placed.wanted w before)) ∙ at, atom)
        | inr such ↦ inr (subst (λ z. Q z a) at (subst (λ z. Q (place_of still w.spot) z) atom (to_place w such)))
      ]

      from : IsWantedAt old p a ⊎ Q p a → IsWantedAt still p a
      from (inl (w, there, at, atom)) = (w, more_Contains wants wants' is.more w there, same_place more w.spot (placed.wanted w there) ∙ at, atom)
      from (inr q) = let want = to_want p a q in (want.0, is.all want.0 want.1, want.2, want.3)

  nothing_wanted : (Q : Where → ℕ → Type 0) → IsMore nodes nodes' → wants' ≡ wants → ((p : Where) (a : ℕ) → Q p a → ⊥) → (p : Where) (a : ℕ) → IsWantedAt still p a ↔ (IsWantedAt old p a ⊎ Q p a)
  nothing_wanted Q more same none =
      wants_by (λ w. ⊥) Q more (subst (IsWith wants (λ w. ⊥)) (sym same) (with_nothing wants (λ w. ⊥) (λ w no_such. no_such))) (λ w no_such. absurd no_such) (λ p a q. absurd (none p a q))

  -- an atom at a node
  wanted_at_node : (v : List ℕ) (b : ℕ) (Q : Where → ℕ → Type 0) → IsAtNode v b nodes nodes' wants wants' → ((p : Where) (a : ℕ) → Q p a ↔ ((p ≡ page_node v) × (a ≡ b))) → (p : Where) (a : ℕ) → IsWantedAt still p a ↔ (IsWantedAt old p a ⊎ Q p a)
  wanted_at_node v b Q at q_is =
      let here : place_of still (Page at.number) ≡ page_node v = rw at.at refl in
      wants_by (λ w. w ≡ want_of (Page at.number) b) Q at.of_nodes.more at.of_wants
      (λ w is. subst (λ (z : Want). Q (place_of still z.spot) z.atom) (sym is) ((q_is (place_of still (Page at.number)) b).1 (here, refl)))
      (λ p a q. let both = (q_is p a).0 q in (want_of (Page at.number) b, refl, here ∙ sym both.0, sym both.1))

  -- spots in the ties, as places
  children_by : IsMore nodes nodes' → (M : Triple → Spot → Type 0) (N : Where → Triple → Type 0) → ((t : Triple) (u : Spot) → Has (λ tie. tie.users.items) triples ties' t u ↔ (Has (λ tie. tie.users.items) triples ties t u ⊎ M t u))
      → ((t : Triple) (u : Spot) → M t u → HasPlace old u × N (place_of old u) t) → ((p : Where) (t : Triple) → N p t → (u : Spot) × M t u × (place_of old u ≡ p)) → (p : Where) (t : Triple) → HasChild still p t ↔ (HasChild old p t ⊎ N p t)
  children_by more M N has to_place to_spot p t = (to, from)
    where
      to : HasChild still p t → HasChild old p t ⊎ N p t
      to (u, e, is, there, at) = elim ((has t u).0 (e, is, there)) [
        | inl (f, is', there') ↦ inl (u, f, is', there', sym (same_place more u (placed.users f u (Contains-at ties is'.0 f is'.2) there')) ∙ at)
        | inr m ↦ let n = to_place t u m in inr (subst (λ z. N z t) (sym (same_place more u n.0) ∙ at) n.1)
      ]

      from : HasChild old p t ⊎ N p t → HasChild still p t
      from (inl (u, e, is, there, at)) =
          let h = (has t u).1 (inl (e, is, there)) in
          (u, h.0, h.1, h.2, same_place more u (placed.users e u (Contains-at ties is.0 e is.2) there) ∙ at)
      from (inr n) =
          let u = to_spot p t n in
          let h = (has t u.0).1 (inr u.1) in
          (u.0, h.0, h.1, h.2, same_place more u.0 (to_place t u.0 u.1).0 ∙ u.2)

  -- spots that stay those that have the node of a triple as a child
  same_children : IsMore nodes nodes' → (N : Where → Triple → Type 0) → ((t : Triple) (u : Spot) → Has (λ tie. tie.users.items) triples ties' t u ↔ (Has (λ tie. tie.users.items) triples ties t u ⊎ ⊥)) → ((p : Where) (t : Triple) → N p t → ⊥)
      → (p : Where) (t : Triple) → HasChild still p t ↔ (HasChild old p t ⊎ N p t)
  same_children more N has none = children_by more (λ t u. ⊥) N has (λ t u no_such. absurd no_such) (λ p t n. absurd (none p t n))

  same_ties : (q : Where) (c : Choice) (named : Option Triple) → IsMore nodes nodes' → ties' ≡ ties → ((p : Where) (t : Triple) → IsNewChild s old q c named p t → ⊥) → ((t : Triple) (a : ℕ) → IsNewAbove s old q c t a → ⊥)
      → ((p : Where) (a : ℕ) → IsWantedAt still p a ↔ (IsWantedAt old p a ⊎ IsPremise s old q c named p a)) → WantsPremises s q c named old still
  same_ties q c named more same no_child no_above wanted = record {
    wanted = wanted;
    children = same_children more (IsNewChild s old q c named) (has_same (λ tie. tie.users.items) triples ties ties' ⊥ same (λ no_such. no_such)) no_child;
    above = λ t a. has_same (λ tie. tie.above) triples ties ties' (IsNewAbove s old q c t a) same (no_above t a) t a;
  }

  abbrev IsRight : Spot → Choice → Option ℕ → Type 0
  IsRight u c named = WantsPremises s (place_of old u) c (triple_named old named) old still

  same_more : nodes' ≡ nodes → IsMore nodes nodes'
  same_more same = subst (IsMore nodes) (sym same) (λ i x at. at)

  right_start : (u : Spot) (named : Option ℕ) → (nodes' ≡ nodes) × (ties' ≡ ties) × (wants' ≡ wants) → IsRight u Start named
  right_start u named f =
      same_ties (place_of old u) Start (triple_named old named) (same_more f.0) f.1 (λ p t no_such. no_such) (λ t a no_such. no_such)
      (nothing_wanted (λ p a. ⊥) (same_more f.0) f.2 (λ p a no_such. no_such))

  right_local : (u : Spot) (l : ℕ) (named : Option ℕ) → HasPlace old u → (nodes' ≡ nodes) × (ties' ≡ ties) × IsWith wants (IsOfEach u (needs_of s l)) wants' → IsRight u (Local l) named
  right_local u l named there f =
      let here = same_place (same_more f.0) u there in
      same_ties (place_of old u) (Local l) (triple_named old named) (same_more f.0) f.1 (λ p t no_such. no_such) (λ t a no_such. no_such)
      (wants_by (IsOfEach u (needs_of s l)) (λ p a. (p ≡ place_of old u) × Contains (needs_of s l) a) (same_more f.0) f.2
      (λ w is. subst (λ (z : Want). (place_of still z.spot ≡ place_of old u) × Contains (needs_of s l) z.atom) (sym is.2) (here, is.1))
      (λ p a q. (want_of u a, (a, q.1, refl), here ∙ sym q.0, refl)))

  right_up : (u : Spot) (l : ℕ) (named : Option ℕ) → HasPlace old u → FollowsUp nodes nodes' ties ties' wants wants' u (from_up s l) → IsRight u (Up l) named
  right_up (Page n) l named there f =
      let x = element_at nodes n there in
      let here : place_of old (Page n) ≡ page_node x.0 = rw x.1 refl in
      subst (λ z. WantsPremises s z (Up l) (triple_named old named) old still) (sym here) (by_parent x.0 x.1 (parent_of x.0) refl)
    where
      no_above : (v : List ℕ) (t : Triple) (a : ℕ) → IsNewAbove s old (page_node v) (Up l) t a → ⊥
      no_above v t a is = let clash : page_node v ≡ added t = is.0 in cc

      by_parent : (v : List ℕ) → slice_get nodes n ≡ Some v → (o : Option (List ℕ)) → parent_of v ≡ o → WantsPremises s (page_node v) (Up l) (triple_named old named) old still
      by_parent v at None is =
          let root = f.2 (at ∙ ap Some (parent_of-none v is)) in
          same_ties (page_node v) (Up l) (triple_named old named) (same_more root.0) f.0 (λ p t no_such. no_such) (no_above v)
          (nothing_wanted (IsPremise s old (page_node v) (Up l) (triple_named old named)) (same_more root.0) root.1 (λ p a q. let none : None ≡ Some q.0.0 = sym is ∙ q.0.1 in cc))
      by_parent v at (Some u) is =
          let at_node = f.1 v u at is in
          same_ties (page_node v) (Up l) (triple_named old named) at_node.of_nodes.more f.0 (λ p t no_such. no_such) (no_above v)
          (wanted_at_node u (from_up s l) (IsPremise s old (page_node v) (Up l) (triple_named old named)) at_node (λ p a. (
            λ q. (q.0.2 ∙ ap page_node (let both : Some q.0.0 ≡ Some u = sym q.0.1 ∙ is in let same : q.0.0 ≡ u = cc in same), q.1),
            λ q. ((u, is, q.0), q.1),
          )))
  right_up (Added n) l named there f =
      let t = element_at triples n there in
      let tie = element_at ties n (let count = placed.each_tied in let lt : n < length triples = there in omega arith) in
      let here : place_of old (Added n) ≡ added t.0 = rw t.1 refl in
      let is = f.1 tie.0 tie.1 in
      let more = same_more f.0 in
      let one : (t' : Triple) (x : ℕ) → ((t' ≡ t.0) × (x ≡ from_up s l)) ↔ ((added t.0 ≡ added t') × (x ≡ from_up s l)) = λ t' x. (
        λ both. (ap added (sym both.0), both.1),
        λ both. (let e : added t.0 ≡ added t' = both.0 in let e' : t.0 ≡ t' = cc in sym e', both.1),
      ) in
      subst (λ z. WantsPremises s z (Up l) (triple_named old named) old still) (sym here) (record {
        wanted = wants_by (IsAtEach tie.0.users.items (from_up s l)) (λ p a. HasChild old p t.0 × (a ≡ from_up s l)) more is.of_wants
            (λ w at. subst (λ (z : Want). HasChild old (place_of still z.spot) t.0 × (z.atom ≡ from_up s l)) (sym at.2)
            ((at.0, tie.0, (n, t.1, tie.1), at.1, sym (same_place more at.0 (placed.users tie.0 at.0 (Contains-at ties n tie.0 tie.1) at.1))), refl))
            (λ p a q. let (v, e, (m, at_t, at_e), in_e, at_p) = q.0 in
            let place : m ≡ n = placed.different m n t.0 at_t t.1 in
            let same : e ≡ tie.0 = one_at ties n e tie.0 (subst (λ z. slice_get ties z ≡ Some e) place at_e) tie.1 in
            (want_of v (from_up s l), (v, subst (λ (z : Tie). Contains z.users.items v) same in_e, refl), same_place more v (placed.users e v (Contains-at ties m e at_e) in_e) ∙ at_p, sym q.1));
        children = same_children more (λ p t'. ⊥) (has_kept (λ e. e.users.items) triples ties ties' n tie.0 is.now t.0 ⊥ is.ties_is tie.1 t.1 is.users (λ no_such. no_such)) (λ p t' no_such. no_such);
        above = λ t' a. with_such (subst (λ z. Has (λ e. e.above) triples z t' a ↔ (Has (λ e. e.above) triples ties t' a ⊎ ((t' ≡ t.0) × (a ≡ from_up s l)))) (sym is.ties_is)
            (has_set (λ e. e.above) triples ties n tie.0 is.now t.0 (λ x. x ≡ from_up s l) tie.1 t.1 (λ x. subst (λ z. Contains z x ↔ (Contains tie.0.above x ⊎ (x ≡ from_up s l))) (sym is.above) (turned (Contains-with_class (from_up s l) tie.0.above x))) t' a)) (one t' a);
      })

  right_real : (u : Spot) (l k : ℕ) (named : Option ℕ) → HasPlace old u → FollowsDown nodes nodes' ties ties' wants wants' u k (from_down s l) → IsRight u (Real l k) named
  right_real (Page n) l k named there f =
      let x = element_at nodes n there in
      let here : place_of old (Page n) ≡ page_node x.0 = rw x.1 refl in
      let at_node = f.1 x.0 x.1 in
      subst (λ z. WantsPremises s z (Real l k) (triple_named old named) old still) (sym here)
      (same_ties (page_node x.0) (Real l k) (triple_named old named) at_node.of_nodes.more f.0 (λ p t no_such. no_such) (λ t a no_such. no_such)
      (wanted_at_node (x.0 ++ k ∷ []) (from_down s l) (λ p a. (p ≡ page_node (x.0 ++ k ∷ [])) × (a ≡ from_down s l)) at_node (λ p a. (λ q. q, λ q. q))))
  right_real (Added n) l k named there f =
      same_ties (place_of old (Added n)) (Real l k) (triple_named old named) (same_more f.0) f.1 (λ p t no_such. no_such) (λ t a no_such. no_such)
      (nothing_wanted (IsPremise s old (place_of old (Added n)) (Real l k) (triple_named old named)) (same_more f.0) f.2 (λ p a q. q.0))

  right_spawn : (u : Spot) (l c n : ℕ) → HasPlace old u → n < length ties → nodes' ≡ nodes → ((tie : Tie) → slice_get ties n ≡ Some tie → IsUsed n (from_down s l) (spawn_needs s c) u tie ties ties' wants wants') → IsRight u (Spawn l c) (Some n)
  right_spawn u l c n there lt same f =
      let t = element_at triples n (let count = placed.each_tied in omega arith) in
      let tie = element_at ties n lt in
      let is = f tie.0 tie.1 in
      let more = same_more same in
      let q = place_of old u in
      let here : place_of still u ≡ q = same_place more u there in
      let child : place_of still (Added n) ≡ added t.0 = rw t.1 refl in
      let asks : (a : ℕ) → AsksAbove old t.0 a → Contains tie.0.above a = λ a (e, (m, at_t, at_e), in_e).
      let place : m ≡ n = placed.different m n t.0 at_t t.1 in
      subst (λ (z : Tie). Contains z.above a) (one_at ties n e tie.0 (subst (λ z. slice_get ties z ≡ Some e) place at_e) tie.1) in_e in
      subst (λ o. WantsPremises s q (Spawn l c) o old still) (sym t.1) (record {
        wanted = wants_by (λ w. (w ≡ want_of u (spawn_needs s c)) ⊎ ((w ≡ want_of (Added n) (from_down s l)) ⊎ IsOfEach u tie.0.above w)) (IsPremise s old q (Spawn l c) (Some t.0)) more is.of_wants
            (λ w such. elim such [
              | inl spawner ↦ subst (λ (z : Want). IsPremise s old q (Spawn l c) (Some t.0) (place_of still z.spot) z.atom) (sym spawner) (inl (here, refl))
              | inr rest ↦ elim rest [
                | inl own ↦ subst (λ (z : Want). IsPremise s old q (Spawn l c) (Some t.0) (place_of still z.spot) z.atom) (sym own) (inr (inl (child, refl)))
                | inr asked ↦ subst (λ (z : Want). IsPremise s old q (Spawn l c) (Some t.0) (place_of still z.spot) z.atom) (sym asked.2) (inr (inr (here, (tie.0, (n, t.1, tie.1), asked.1))))
              ]
            ])
            (λ p a premise. elim premise [
              | inl spawner ↦ (want_of u (spawn_needs s c), inl refl, here ∙ sym spawner.0, sym spawner.1)
              | inr rest ↦ elim rest [
                | inl own ↦ (want_of (Added n) (from_down s l), inr (inl refl), child ∙ sym own.0, sym own.1)
                | inr asked ↦ (want_of u a, inr (inr (a, asks a asked.1, refl)), here ∙ sym asked.0, refl)
              ]
            ]);
        children = children_by more (λ t' v. (t' ≡ t.0) × (v ≡ u)) (λ p t'. (p ≡ q) × (Some t.0 ≡ Some t'))
            (λ t' v. subst (λ z. Has (λ e. e.users.items) triples z t' v ↔ (Has (λ e. e.users.items) triples ties t' v ⊎ ((t' ≡ t.0) × (v ≡ u)))) (sym is.ties_is)
            (has_set (λ e. e.users.items) triples ties n tie.0 is.now t.0 (λ x. x ≡ u) tie.1 t.1 (λ x. subst (λ z. Contains z x ↔ (Contains tie.0.users.items x ⊎ (x ≡ u))) (sym is.users) (one_more tie.0.users.items u x)) t' v))
            (λ t' v both. (subst (HasPlace old) (sym both.1) there, (ap (place_of old) both.1, ap Some (sym both.0))))
            (λ p t' both. (u, (let e : Some t.0 ≡ Some t' = both.1 in let e' : t.0 ≡ t' = cc in sym e', refl), sym both.0));
        above = has_kept (λ e. e.above) triples ties ties' n tie.0 is.now t.0 ⊥ is.ties_is tie.1 t.1 is.above (λ no_such. no_such);
      })

  right : (u : Spot) (c : Choice) (named : Option ℕ) → HasPlace old u → IsTieIndex (length ties) u c named → Follows nodes nodes' ties ties' wants wants' s u c named → IsRight u c named
  right u Start named there index f = right_start u named f
  right u (Local l) named there index f = right_local u l named there f
  right u (Up l) named there index f = right_up u l named there f
  right u (Real l k) named there index f = right_real u l k named there f
  right u (Spawn l c) None there index f = absurd index.1
  right u (Spawn l c) (Some n) there index f = right_spawn u l c n there index.1 f.0 (λ tie at. f.1 n tie refl at)

pub premises_of : (s : System) (old new : Needs) (u : Spot) (c : Choice) (named : Option ℕ) → IsTieIndex (length old.ties.items) u c named → new.triples ≡ old.triples
    → Follows (paths_in old.nodes.keys) (paths_in new.nodes.keys) old.ties.items new.ties.items old.wants.keys new.wants.keys s u c named
    → ArePlaced old → HasPlace old u → WantsPremises s (place_of old u) c (triple_named old named) old new
premises_of s old new u c named index same f placed there =
    subst (λ z. WantsPremises s (place_of old u) c (triple_named old named) old (record new { triples = z })) (sym same) (right s old new placed u c named there index f)
