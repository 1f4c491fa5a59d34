-- A worklist that is worked off has all that is needed.
use Rattle.std.proofs.Common.{◌≡◌, ◌↔◌, ℕ, List, [], ◌∷◌, ◌++◌, length, Contains, Option, Some, None, slice_get, refl, sym, ap, ◌∙◌, subst, arith}
use Rattle.std.proofs.lemmas.Option.{slice_get_within}
use Rattle.tp_base.proofs.Lists.{Contains-at, at_Contains, element_at}
use Rattle.tree_sem.specs.Trees.{LabelTree}
use Rattle.simple_core.specs.declared.system.System.{System}
use Rattle.simple_core.specs.Pairs.{Pair}
use Rattle.proof_needs.specs.declared.needs.Choice.{Choice}
use Rattle.proof_needs.specs.declared.needs.Choice.TheVariants.{Start, Local, Up, Real, Spawn}
use Rattle.proof_needs.specs.declared.spots.Spot.{Spot}
use Rattle.proof_needs.specs.declared.spots.Spot.TheVariants.{Page, Added}
use Rattle.proof_needs.specs.declared.spots.Want.{Want}
use Rattle.proof_needs.specs.declared.needs.Tie.{Tie}
use Rattle.proof_needs.specs.declared.needs.Draft.{Draft}
use Rattle.proof_needs.specs.Choices.{by_local, by_up, by_real, by_spawn, from_up, from_down, chosen}
use Rattle.proof_needs.specs.Choices.{Choice as Reason}
use Rattle.proof_maker.specs.Needs.{setting_at, path_at, labels_at, IsChosen, triple_by, Needed, goal, top, by_rule, by_parent, by_child, by_spawner, by_entry, IsNeededAbove}
use Rattle.proof_needs.specs.Triples.{Triple, page_node, added}
use Rattle.proof_needs.specs.Triples.{Spot as Where}
use Rattle.proof_maker.specs.Reasons.{reason_of}
use Rattle.proof_needs.specs.Spots.{spot_in, IsSpot}
use Rattle.proof_maker.specs.Worklist.{AreOwn, IsUserAt, IsFollowed, IsTripleOf, IsWorklist}
use Rattle.proof_needs.specs.Wants.{want_of}
use Rattle.proof_maker.proofs.ValidLemmas.{first_one}

-- a reason that the code has, by the relation's
local_reason : (c : Choice) (l : ℕ) → reason_of c ≡ by_local l → c ≡ Local l
local_reason Start l e = cc
local_reason (Local k) l e = let same : k ≡ l = cc in ap Local same
local_reason (Up k) l e = cc
local_reason (Real k n) l e = cc
local_reason (Spawn k c) l e = cc

up_reason : (c : Choice) (l : ℕ) → reason_of c ≡ by_up l → c ≡ Up l
up_reason Start l e = cc
up_reason (Local k) l e = cc
up_reason (Up k) l e = let same : k ≡ l = cc in ap Up same
up_reason (Real k n) l e = cc
up_reason (Spawn k c) l e = cc

real_reason : (c : Choice) (l n : ℕ) → reason_of c ≡ by_real l n → c ≡ Real l n
real_reason Start l n e = cc
real_reason (Local k) l n e = cc
real_reason (Up k) l n e = cc
real_reason (Real k m) l n e = let one : k ≡ l = cc in let two : m ≡ n = cc in λ i. Real (one i) (two i)
real_reason (Spawn k c) l n e = cc

spawn_reason : (c : Choice) (l n : ℕ) → reason_of c ≡ by_spawn l n → c ≡ Spawn l n
spawn_reason Start l n e = cc
spawn_reason (Local k) l n e = cc
spawn_reason (Up k) l n e = cc
spawn_reason (Real k m) l n e = cc
spawn_reason (Spawn k m) l n e = let one : k ≡ l = cc in let two : m ≡ n = cc in λ i. Spawn (one i) (two i)

module _ (s : System) (page : LabelTree) (target : ℕ) (known : Pair → Type 0) (nodes : List (List ℕ)) (triples : List Triple) (ties : List Tie) (wants : List Want) (drafts : List Draft)
    (list : IsWorklist s page target known nodes triples ties wants drafts) (own : AreOwn triples wants) (whole : length drafts ≡ length wants) where
  -- the atom is wanted at the spot
  pub record IsFound (spot : Where) (a : ℕ) : Type 0 where
    pub where_is : Spot
    pub is_spot : IsSpot nodes triples where_is
    pub same : spot_in nodes triples where_is ≡ spot
    pub wanted : Contains wants (want_of where_is a)

  abbrev pub IsListed : Where → Type 0
  IsListed (page_node v) = Unit {0}
  IsListed (added t) = Contains triples t

  -- what was looked at for it
  record IsDrafted (u : Spot) (spot : Where) (r : ℕ) (w : Reason) : Type 0 where
    draft : Draft
    reason : reason_of draft.choice ≡ w
    triple : IsTripleOf s page triples spot r draft.choice draft.triple
    followed : IsFollowed s nodes ties wants u draft.choice draft.triple

  drafted : (spot : Where) (a r : ℕ) (w : Reason) → IsChosen s page spot a r w → (f : IsFound spot a) → IsDrafted f.where_is spot r w
  drafted spot a r w choice f =
      let u = f.where_is in
      let i = at_Contains wants (want_of u a) f.wanted in
      let d = element_at drafts i.0 (let lt = slice_get_within wants i.0 (want_of u a) i.1 in omega arith) in
      let draft = list.each_draft i.0 (want_of u a) d.0 i.1 d.1 in
      let is : IsChosen s page spot a d.0.round (reason_of d.0.choice) = subst (λ z. IsChosen s page z a d.0.round (reason_of d.0.choice)) f.same draft.chosen in
      let round : d.0.round ≡ r = first_one (labels_at s page spot) a d.0.round r is.first choice.first in
      record {
        draft = d.0;
        reason = sym is.choice ∙ ap (chosen s (setting_at s page spot) (path_at s page spot) a) round ∙ choice.choice;
        triple = subst (λ z. IsTripleOf s page triples spot z d.0.choice d.0.triple) round (subst (λ z. IsTripleOf s page triples z d.0.round d.0.choice d.0.triple) f.same draft.triple);
        followed = list.followed i.0 (want_of u a) d.0 i.1 d.1;
      }

  -- a node of the page has a number
  record IsNode (u : Spot) (v : List ℕ) : Type 0 where
    number : ℕ
    is_page : u ≡ Page number
    at : slice_get nodes number ≡ Some v

  node_of : (u : Spot) (v : List ℕ) → IsSpot nodes triples u → spot_in nodes triples u ≡ page_node v → IsNode u v
  node_of (Page n) v lt same =
      let x = element_at nodes n lt in
      let one : page_node x.0 ≡ page_node v = rw x.1 at same in
      record { number = n; is_page = refl; at = x.1 ∙ ap Some (let e : x.0 ≡ v = cc in e) }
  node_of (Added n) v lt same = cc

  -- and an added node that of its triple
  record IsAddedAt (u : Spot) (t : Triple) : Type 0 where
    number : ℕ
    is_added : u ≡ Added number
    at : slice_get triples number ≡ Some t

  added_of : (u : Spot) (t : Triple) → IsSpot nodes triples u → spot_in nodes triples u ≡ added t → IsAddedAt u t
  added_of (Page n) t lt same = cc
  added_of (Added n) t lt same =
      let x = element_at triples n lt in
      let one : added x.0 ≡ added t = rw x.1 at same in
      record { number = n; is_added = refl; at = x.1 ∙ ap Some (let e : x.0 ≡ t = cc in e) }

  at_node : (m from : ℕ) (p : List ℕ) → slice_get nodes m ≡ Some p → Contains wants (want_of (Page m) from) → IsFound (page_node p) from
  at_node m from p at is = record { where_is = Page m; is_spot = slice_get_within nodes m p at; same = rw at refl; wanted = is }

  -- the spawn's triple has a number, and its tie the spot
  record IsChild (u : Spot) (t : Triple) : Type 0 where
    number : ℕ
    at : slice_get triples number ≡ Some t
    user : IsUserAt ties number u

  child_of : (u : Spot) (spot : Where) (r l c : ℕ) (named : Option ℕ) → IsTripleOf s page triples spot r (Spawn l c) named → IsFollowed s nodes ties wants u (Spawn l c) named → IsChild u (triple_by s page spot r l c)
  child_of u spot r l c None at is = absurd at
  child_of u spot r l c (Some n) at is = record { number = n; at = at; user = is.1 }

  child : (spot : Where) (a r l c : ℕ) → IsChosen s page spot a r (by_spawn l c) → (f : IsFound spot a) → IsChild f.where_is (triple_by s page spot r l c)
  child spot a r l c choice f =
      let d = drafted spot a r (by_spawn l c) choice f in
      let is = spawn_reason d.draft.choice l c d.reason in
      child_of f.where_is spot r l c d.draft.triple (subst (λ z. IsTripleOf s page triples spot r z d.draft.triple) is d.triple) (subst (λ z. IsFollowed s nodes ties wants f.where_is z d.draft.triple) is d.followed)

  -- where an entry needs an atom of the parent, each spot that names the entry has it
  entry_found : (spot : Where) (r l c k b m : ℕ) (u : Spot) → IsSpot nodes triples u → spot_in nodes triples u ≡ spot → IsChild u (triple_by s page spot r l c) → IsChosen s page (added (triple_by s page spot r l c)) b m (by_up k)
      → IsFound (added (triple_by s page spot r l c)) b → IsFound spot (from_up s k)
  entry_found spot r l c k b m u is_spot same ch choice g =
      let t = triple_by s page spot r l c in
      let n = added_of g.where_is t g.is_spot g.same in
      let one : n.number ≡ ch.number = list.triples_distinct n.number ch.number t n.at ch.at in
      let d = drafted (added t) b m (by_up k) choice g in
      let is = up_reason d.draft.choice k d.reason in
      let up : IsFollowed s nodes ties wants (Added ch.number) (Up k) d.draft.triple = subst (λ z. IsFollowed s nodes ties wants z (Up k) d.draft.triple) (n.is_added ∙ ap Added one) (subst (λ z. IsFollowed s nodes ties wants g.where_is z d.draft.triple) is d.followed) in
      let user = ch.user in
      let tie : up.0 ≡ user.0 = let p = up.1 in let q = user.1 in cc in
      let above : Contains user.0.above (from_up s k) = subst (λ (z : Tie). Contains z.above (from_up s k)) tie up.2 in
      record {
        where_is = u;
        is_spot = is_spot;
        same = same;
        wanted = (list.each_tie ch.number t user.0 ch.at user.1).tied u (from_up s k) user.2 above;
      }

  pub complete : (spot : Where) (a : ℕ) → Needed s page target spot a → IsListed spot → IsFound spot a
  complete spot a goal listed = let r = list.root in at_node r.0 target [] r.1 r.2
  complete spot a (top t) listed =
      let i = at_Contains triples t listed in
      record { where_is = Added i.0; is_spot = slice_get_within triples i.0 t i.1; same = rw i.1 refl; wanted = own i.0 t i.1 }
  complete spot b (by_rule p a r l x need choice in') listed =
      let f = complete p a need listed in
      let d = drafted p a r (by_local l) choice f in
      let followed : IsFollowed s nodes ties wants f.where_is (Local l) d.draft.triple = subst (λ z. IsFollowed s nodes ties wants f.where_is z d.draft.triple) (local_reason d.draft.choice l d.reason) d.followed in
      record { where_is = f.where_is; is_spot = f.is_spot; same = f.same; wanted = followed x in' }
  complete spot b (by_parent v p a r l need choice above) listed =
      let f = complete (page_node v) a need tt in
      let n = node_of f.where_is v f.is_spot f.same in
      let d = drafted (page_node v) a r (by_up l) choice f in
      let followed : IsFollowed s nodes ties wants (Page n.number) (Up l) d.draft.triple
      = subst (λ z. IsFollowed s nodes ties wants z (Up l) d.draft.triple) n.is_page (subst (λ z. IsFollowed s nodes ties wants f.where_is z d.draft.triple) (up_reason d.draft.choice l d.reason) d.followed) in
      let m = followed v p n.at above in
      at_node m.0 (from_up s l) p m.1 m.2
  complete spot b (by_child v a r l k need choice) listed =
      let f = complete (page_node v) a need tt in
      let n = node_of f.where_is v f.is_spot f.same in
      let d = drafted (page_node v) a r (by_real l k) choice f in
      let followed : IsFollowed s nodes ties wants (Page n.number) (Real l k) d.draft.triple
      = subst (λ z. IsFollowed s nodes ties wants z (Real l k) d.draft.triple) n.is_page (subst (λ z. IsFollowed s nodes ties wants f.where_is z d.draft.triple) (real_reason d.draft.choice l k d.reason) d.followed) in
      let m = followed v n.at in
      at_node m.0 (from_down s l) (v ++ k ∷ []) m.1 m.2
  complete spot b (by_spawner p a r l c need choice) listed =
      let f = complete p a need listed in
      let d = drafted p a r (by_spawn l c) choice f in
      let followed : IsFollowed s nodes ties wants f.where_is (Spawn l c) d.draft.triple = subst (λ z. IsFollowed s nodes ties wants f.where_is z d.draft.triple) (spawn_reason d.draft.choice l c d.reason) d.followed in
      record { where_is = f.where_is; is_spot = f.is_spot; same = f.same; wanted = followed.0 }
  complete spot b (by_entry p a r l c x m k need choice need' choice') listed =
      let f = complete p a need listed in
      let ch = child p a r l c choice f in
      let g = complete (added (triple_by s page p r l c)) x need' (Contains-at triples ch.number (triple_by s page p r l c) ch.at) in
      entry_found p r l c k x m f.where_is f.is_spot f.same ch choice' g

  -- at a node of the page, and at an added node of the list
  pub on_page : (v : List ℕ) (a : ℕ) → Needed s page target (page_node v) a → (n : ℕ) × (slice_get nodes n ≡ Some v) × Contains wants (want_of (Page n) a)
  on_page v a need =
      let f = complete (page_node v) a need tt in
      let n = node_of f.where_is v f.is_spot f.same in
      (n.number, n.at, subst (λ z. Contains wants (want_of z a)) n.is_page f.wanted)

  pub on_added : (n : ℕ) (t : Triple) (a : ℕ) → slice_get triples n ≡ Some t → Needed s page target (added t) a → Contains wants (want_of (Added n) a)
  on_added n t a at need =
      let f = complete (added t) a need (Contains-at triples n t at) in
      let m = added_of f.where_is t f.is_spot f.same in
      subst (λ z. Contains wants (want_of z a)) (m.is_added ∙ ap Added (list.triples_distinct m.number n t m.at at)) f.wanted

  -- a tie has what the triple's node needs of its parent
  pub parent_is : (n : ℕ) (t : Triple) (tie : Tie) → slice_get triples n ≡ Some t → slice_get ties n ≡ Some tie → (b : ℕ) → Contains tie.above b ↔ IsNeededAbove s page target (added t) b
  parent_is n t tie at at' b = (λ in'. (list.each_tie n t tie at at').above b in', from)
    where
      from : IsNeededAbove s page target (added t) b → Contains tie.above b
      from (a, r, l, need, choice, same) =
          let f = complete (added t) a need (Contains-at triples n t at) in
          let m = added_of f.where_is t f.is_spot f.same in
          let one : m.number ≡ n = list.triples_distinct m.number n t m.at at in
          let d = drafted (added t) a r (by_up l) choice f in
          let is = up_reason d.draft.choice l d.reason in
          let up : IsFollowed s nodes ties wants (Added n) (Up l) d.draft.triple = subst (λ z. IsFollowed s nodes ties wants z (Up l) d.draft.triple) (m.is_added ∙ ap Added one) (subst (λ z. IsFollowed s nodes ties wants f.where_is z d.draft.triple) is d.followed) in
          let same_tie : up.0 ≡ tie = let p = up.1 in cc in
          subst (Contains tie.above) same (subst (λ (z : Tie). Contains z.above (from_up s l)) same_tie up.2)
