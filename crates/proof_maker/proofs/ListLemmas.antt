-- A worklist whose lists grow.
use Rattle.std.proofs.Common.{◌≡◌, ◌⊎◌, ℕ, zero, suc, ◌<◌, ◌≤◌, List, [], ◌∷◌, ◌++◌, length, Contains, Option, Some, None, IsSome, slice_get, slice_set, inl, inr, refl, sym, ap, ◌∙◌, subst, arith}
use Rattle.std.proofs.lemmas.Option.{slice_get_within}
use Rattle.tp_base.proofs.Lists.{Contains-at, element_at, push_cases, length-push}
use Rattle.tree_sem.specs.Trees.{LabelTree, node_at}
use Rattle.simple_core.specs.declared.system.System.{System}
use Rattle.simple_core.specs.Pairs.{Pair}
use Rattle.proof_needs.specs.declared.needs.Choice.{Choice}
use Rattle.proof_needs.specs.declared.needs.Choice.TheVariants.{Start, Local, Up, Real, Spawn}
use Rattle.proof_needs.specs.declared.spots.Spot.{Spot}
use Rattle.proof_needs.specs.declared.spots.Spot.TheVariants.{Page, Added}
use Rattle.proof_needs.specs.declared.spots.Want.{Want}
use Rattle.proof_needs.specs.declared.needs.Tie.{Tie}
use Rattle.proof_needs.specs.declared.needs.Draft.{Draft}
use Rattle.proof_needs.specs.Choices.{from_up, from_down, spawn_needs}
use Rattle.proof_maker.specs.Needs.{IsChosen, triple_by, Needed, Used}
use Rattle.proof_needs.specs.Triples.{Triple}
use Rattle.proof_needs.specs.Triples.{Spot as Where}
use Rattle.proof_maker.specs.Reasons.{reason_of}
use Rattle.proof_needs.specs.Sets.{AreDistinct, IsMore}
use Rattle.proof_needs.specs.Spots.{spot_in, IsSpot}
use Rattle.proof_maker.specs.Worklist.{IsFollowedUp, IsFollowedDown, IsFollowed, IsTripleOf, IsDraft, IsUserOf, IsComing, IsTie, IsWanted, IsWorklist}
use Rattle.proof_needs.specs.Wants.{want_of}
use Rattle.proof_needs.proofs.SetLemmas.{more_Contains}

pub same_more : {X : Type 0} (xs : List X) → IsMore xs xs
same_more xs i x at = at

-- an element that is written
pub written : {X : Type 0} (xs : List X) (n : ℕ) (x : X) → n < length xs → slice_get (slice_set xs n x) n ≡ Some x
written [] n x lt = absurd (omega arith)
written (y ∷ xs) zero x lt = refl
written (y ∷ xs) (suc n) x lt = written xs n x (omega arith)

pub not_written : {X : Type 0} (xs : List X) (n m : ℕ) (x : X) → (n ≡ m → ⊥) → slice_get (slice_set xs n x) m ≡ slice_get xs m
not_written [] n m x other = refl
not_written (y ∷ xs) zero zero x other = absurd (other refl)
not_written (y ∷ xs) zero (suc m) x other = refl
not_written (y ∷ xs) (suc n) zero x other = refl
not_written (y ∷ xs) (suc n) (suc m) x other = not_written xs n m x (λ e. other (ap suc e))

pub written_long : {X : Type 0} (xs : List X) (n : ℕ) (x : X) → length (slice_set xs n x) ≡ length xs
written_long [] n x = refl
written_long (y ∷ xs) zero x = refl
written_long (y ∷ xs) (suc n) x = ap suc (written_long xs n x)

-- spots keep what they are
module _ (nodes nodes' : List (List ℕ)) (triples triples' : List Triple) (more : IsMore nodes nodes') (more' : IsMore triples triples') where
  pub is_spot : (u : Spot) → IsSpot nodes triples u → IsSpot nodes' triples' u
  is_spot (Page n) lt = let x = element_at nodes n lt in slice_get_within nodes' n x.0 (more n x.0 x.1)
  is_spot (Added n) lt = let x = element_at triples n lt in slice_get_within triples' n x.0 (more' n x.0 x.1)

  pub same_spot : (u : Spot) → IsSpot nodes triples u → spot_in nodes' triples' u ≡ spot_in nodes triples u
  same_spot (Page n) lt = let x = element_at nodes n lt in rw (x.1, more n x.0 x.1) refl
  same_spot (Added n) lt = let x = element_at triples n lt in rw (x.1, more' n x.0 x.1) refl

-- ties keep what they have
abbrev pub AreTiesMore : List Tie → List Tie → Type 0
AreTiesMore ties ties' = (n : ℕ) (tie : Tie) → slice_get ties n ≡ Some tie
    → (now : Tie) × (slice_get ties' n ≡ Some now) × ((u : Spot) → Contains tie.users.items u → Contains now.users.items u) × ((b : ℕ) → Contains tie.above b → Contains now.above b)

pub same_ties : (ties : List Tie) → AreTiesMore ties ties
same_ties ties n tie at = (tie, at, λ u is. is, λ b is. is)

module _ (s : System) (page : LabelTree) where
  -- what was followed stays so
  pub followed_more : (nodes nodes' : List (List ℕ)) (triples : List Triple) (ties ties' : List Tie) (wants wants' : List Want) → IsMore nodes nodes' → AreTiesMore ties ties' → ((w : Want) → Contains wants w → Contains wants' w)
      → (u : Spot) → IsSpot nodes triples u → (w : Choice) (named : Option ℕ) → IsFollowed s nodes ties wants u w named → IsFollowed s nodes' ties' wants' u w named
  followed_more nodes nodes' triples ties ties' wants wants' more tied kept u spot Start named is = tt
  followed_more nodes nodes' triples ties ties' wants wants' more tied kept u spot (Local l) named is = λ b in'. kept (want_of u b) (is b in')
  followed_more nodes nodes' triples ties ties' wants wants' more tied kept u spot (Up l) named is = up u spot is
    where
      up : (u : Spot) → IsSpot nodes triples u → IsFollowedUp nodes ties wants u (from_up s l) → IsFollowedUp nodes' ties' wants' u (from_up s l)
      up (Page n) lt is =
          let x = element_at nodes n lt in
          λ v p at above.
          let same : x.0 ≡ v = let old = more n x.0 x.1 in cc in
          let m = is v p (x.1 ∙ ap Some same) above in
          (m.0, more m.0 p m.1, kept (want_of (Page m.0) (from_up s l)) m.2)
      up (Added n) lt is = let now = tied n is.0 is.1 in (now.0, now.1, now.3 (from_up s l) is.2)
  followed_more nodes nodes' triples ties ties' wants wants' more tied kept u spot (Real l k) named is = down u spot is
    where
      down : (u : Spot) → IsSpot nodes triples u → IsFollowedDown nodes wants u k (from_down s l) → IsFollowedDown nodes' wants' u k (from_down s l)
      down (Page n) lt is =
          let x = element_at nodes n lt in
          λ v at.
          let same : x.0 ≡ v = let old = more n x.0 x.1 in cc in
          let m = is v (x.1 ∙ ap Some same) in
          (m.0, more m.0 (v ++ k ∷ []) m.1, kept (want_of (Page m.0) (from_down s l)) m.2)
      down (Added n) lt is = tt
  followed_more nodes nodes' triples ties ties' wants wants' more tied kept u spot (Spawn l c) None is = absurd is.1
  followed_more nodes nodes' triples ties ties' wants wants' more tied kept u spot (Spawn l c) (Some n) is =
      let user = is.1 in
      let now = tied n user.0 user.1 in
      (kept (want_of u (spawn_needs s c)) is.0, (now.0, now.1, now.2 u user.2))

  pub triple_more : (triples triples' : List Triple) → IsMore triples triples' → (spot : Where) (r : ℕ) (w : Choice) (named : Option ℕ) → IsTripleOf s page triples spot r w named → IsTripleOf s page triples' spot r w named
  triple_more triples triples' more spot r Start named is = is
  triple_more triples triples' more spot r (Local l) named is = is
  triple_more triples triples' more spot r (Up l) named is = is
  triple_more triples triples' more spot r (Real l n) named is = is
  triple_more triples triples' more spot r (Spawn l c) None is = is
  triple_more triples triples' more spot r (Spawn l c) (Some n) is = more n (triple_by s page spot r l c) is

  pub draft_more : (nodes nodes' : List (List ℕ)) (triples triples' : List Triple) → IsMore nodes nodes' → IsMore triples triples' → (w : Want) (d : Draft) → IsSpot nodes triples w.spot → IsDraft s page nodes triples w d → IsDraft s page nodes' triples' w d
  draft_more nodes nodes' triples triples' more more' w d spot is =
      let same = sym (same_spot nodes nodes' triples triples' more more' w.spot spot) in
      record {
        chosen = subst (λ z. IsChosen s page z w.atom d.round (reason_of d.choice)) same is.chosen;
        triple = triple_more triples triples' more' (spot_in nodes' triples' w.spot) d.round d.choice d.triple (subst (λ z. IsTripleOf s page triples z d.round d.choice d.triple) same is.triple);
      }

  module _ (target : ℕ) where
    pub wanted_more : (nodes nodes' : List (List ℕ)) (triples triples' : List Triple) → IsMore nodes nodes' → IsMore triples triples' → (w : Want) → IsWanted s page target nodes triples w → IsWanted s page target nodes' triples' w
    wanted_more nodes nodes' triples triples' more more' w is =
        let same = sym (same_spot nodes nodes' triples triples' more more' w.spot is.spot) in
        record {
          spot = is_spot nodes nodes' triples triples' more more' w.spot is.spot;
          needed = subst (λ z. Needed s page target z w.atom) same is.needed;
          comes = subst (λ z. IsComing s page target z w.atom) same is.comes;
        }

    pub tie_more : (nodes nodes' : List (List ℕ)) (triples triples' : List Triple) (wants wants' : List Want) → IsMore nodes nodes' → IsMore triples triples' → ((w : Want) → Contains wants w → Contains wants' w)
        → (t : Triple) (tie : Tie) → IsTie s page target nodes triples wants t tie → IsTie s page target nodes' triples' wants' t tie
    tie_more nodes nodes' triples triples' wants wants' more more' kept t tie is = record {
      users = λ u in'.
          let old = is.users u in' in
          (is_spot nodes nodes' triples triples' more more' u old.0, subst (λ z. IsUserOf s page target z t) (sym (same_spot nodes nodes' triples triples' more more' u old.0)) old.1);
      above = is.above;
      tied = λ u b in' in''. kept (want_of u b) (is.tied u b in' in'');
      rises = is.rises;
    }

    -- The lists of the next worklist, without the last draft.
    pub record IsLater (known : Pair → Type 0) (nodes nodes' : List (List ℕ)) (triples triples' : List Triple) (ties ties' : List Tie) (wants wants' : List Want) : Type 0 where
      pub nodes_more : IsMore nodes nodes'
      pub triples_more : IsMore triples triples'
      pub wants_more : IsMore wants wants'
      pub ties_more : AreTiesMore ties ties'
      pub nodes_there : (v : List ℕ) → Contains nodes' v → IsSome (node_at v page)
      pub triples_known : (t : Triple) → Contains triples' t → known (t.kind, t.parent)
      pub triples_used : (t : Triple) → Contains triples' t → Used s page target t
      pub nodes_distinct : AreDistinct nodes'
      pub triples_distinct : AreDistinct triples'
      pub wants_distinct : AreDistinct wants'
      pub wanted : (w : Want) → Contains wants' w → Contains wants w ⊎ IsWanted s page target nodes' triples' w
      pub tie_count : length ties' ≡ length triples'
      pub each_tie : (n : ℕ) (t : Triple) (tie : Tie) → slice_get triples' n ≡ Some t → slice_get ties' n ≡ Some tie → IsTie s page target nodes' triples' wants' t tie

    module _ (known : Pair → Type 0) where
      pub grown : (nodes nodes' : List (List ℕ)) (triples triples' : List Triple) (ties ties' : List Tie) (wants wants' : List Want) (drafts : List Draft)
          → IsWorklist s page target known nodes triples ties wants drafts → IsLater known nodes nodes' triples triples' ties ties' wants wants' → IsWorklist s page target known nodes' triples' ties' wants' drafts
      grown nodes nodes' triples triples' ties ties' wants wants' drafts list later =
          let kept : (w : Want) → Contains wants w → Contains wants' w = more_Contains wants wants' later.wants_more in
          record {
            root = let r = list.root in (r.0, later.nodes_more r.0 [] r.1, kept (want_of (Page r.0) target) r.2);
            nodes_there = later.nodes_there;
            triples_known = later.triples_known;
            triples_used = later.triples_used;
            nodes_distinct = later.nodes_distinct;
            triples_distinct = later.triples_distinct;
            wants_distinct = later.wants_distinct;
            wanted = λ w is. elim (later.wanted w is) [
              | inl old ↦ wanted_more nodes nodes' triples triples' later.nodes_more later.triples_more w (list.wanted w old)
              | inr new ↦ new
            ];
            tie_count = later.tie_count;
            each_tie = later.each_tie;
            few = let few = list.few in longer few;
            each_draft = λ i w d at at'.
                let old = old_want i w d at at' in
                draft_more nodes nodes' triples triples' later.nodes_more later.triples_more w d (list.wanted w (Contains-at wants i w old)).spot (list.each_draft i w d old at');
            followed = λ i w d at at'.
                let old = old_want i w d at at' in
                followed_more nodes nodes' triples ties ties' wants wants' later.nodes_more later.ties_more kept w.spot (list.wanted w (Contains-at wants i w old)).spot d.choice d.triple (list.followed i w d old at');
          }
        where
          longer : length drafts ≤ length wants → length drafts ≤ length wants'
          longer few = omega (arith, no_shorter wants wants' later.wants_more)
            where
              no_shorter : (xs ys : List Want) → IsMore xs ys → length xs ≤ length ys
              no_shorter [] ys more = omega arith
              no_shorter (x ∷ xs) [] more = let never = more 0 x refl in cc
              no_shorter (x ∷ xs) (y ∷ ys) more = omega (arith, no_shorter xs ys (λ i z at. more (suc i) z at))

          old_want : (i : ℕ) (w : Want) (d : Draft) → slice_get wants' i ≡ Some w → slice_get drafts i ≡ Some d → slice_get wants i ≡ Some w
          old_want i w d at at' =
              let lt = slice_get_within drafts i d at' in
              let few = list.few in
              let x = element_at wants i (omega arith) in
              let new = later.wants_more i x.0 x.1 in
              let same : x.0 ≡ w = cc in
              x.1 ∙ ap Some same

      pub pushed : (nodes : List (List ℕ)) (triples : List Triple) (ties : List Tie) (wants : List Want) (drafts : List Draft) (w : Want) (d : Draft) → IsWorklist s page target known nodes triples ties wants drafts
          → slice_get wants (length drafts) ≡ Some w → IsDraft s page nodes triples w d → IsFollowed s nodes ties wants w.spot d.choice d.triple → IsWorklist s page target known nodes triples ties wants (drafts ++ d ∷ [])
      pushed nodes triples ties wants drafts w d list next draft followed = record {
        root = list.root;
        nodes_there = list.nodes_there;
        triples_known = list.triples_known;
        triples_used = list.triples_used;
        nodes_distinct = list.nodes_distinct;
        triples_distinct = list.triples_distinct;
        wants_distinct = list.wants_distinct;
        wanted = list.wanted;
        tie_count = list.tie_count;
        each_tie = list.each_tie;
        few = let lt = slice_get_within wants (length drafts) w next in omega (arith, length-push drafts d);
        each_draft = λ i x e at at'. elim (push_cases drafts d i e at') [
          | inl old ↦ list.each_draft i x e at old
          | inr new ↦
              let same : w ≡ x = let one : slice_get wants (length drafts) ≡ Some x = subst (λ z. slice_get wants z ≡ Some x) new.0 at in cc in
              subst (λ z. IsDraft s page nodes triples x z) new.1 (subst (λ z. IsDraft s page nodes triples z d) same draft)
        ];
        followed = λ i x e at at'. elim (push_cases drafts d i e at') [
          | inl old ↦ list.followed i x e at old
          | inr new ↦
              let same : w ≡ x = let one : slice_get wants (length drafts) ≡ Some x = subst (λ z. slice_get wants z ≡ Some x) new.0 at in cc in
              subst (λ (z : Draft). IsFollowed s nodes ties wants x.spot z.choice z.triple) new.1 (subst (λ (z : Want). IsFollowed s nodes ties wants z.spot d.choice d.triple) same followed)
        ];
      }
