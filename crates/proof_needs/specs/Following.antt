-- What becomes wanted for a reason, which is what its premises are: an atom at a spot each. What is needed by a proof is what comes
-- of these, from the target on.
--     Start        has none
--     Local l      each atom that the rule needs, at the spot itself
--     Up l         the left side of the link, at the parent. An added node is the child of each spot that uses it: at each of these
--     Real l k     the left side of the link, at the child with the number k
--     Spawn l c    the atom that the spawn rule needs, at the spot itself; the left side of the link, at the added node; and of what
--                  the added node's own reasons need of a parent, each atom, at the spot
-- A tie of an added node has both: the spots that use it, and what it needs of a parent. Each new one of either is met with all of the
-- others that came before.
--     IsAtNode               the node has a number, and the atom is wanted there
--     IsAbove                an added node needs one atom more of its parent, which is wanted at each spot that uses it
--     IsUsed                 one spot more uses an added node
--     Follows                the premises of a reason at a spot are wanted, and nothing else
--     IsAboveSome, IsUsedSome   the same after a want of memory: before the tie is written, or with some of the atoms wanted
--     FollowsSome            after a want of memory nothing is lost, and what is new is some of the premises, or a number for their node
use Rattle.std.specs.Prelude.{◌≡◌, ◌⊎◌, ℕ, List, [], ◌∷◌, ◌++◌, suc, length, Option, Some, None, IsSomeAnd, slice_get, slice_set}
use Rattle.tree_sem.specs.Paths.{parent_of}
use Rattle.tp_base.specs.Classes.{with_class}
use Rattle.simple_core.specs.declared.system.System.{System}
use Rattle.proof_needs.specs.declared.needs.Choice.{Choice}
use Rattle.proof_needs.specs.declared.needs.Choice.TheVariants.{Start, Local, Up, Real, Spawn}
use Rattle.proof_needs.specs.declared.spots.Spot.{Spot}
use Rattle.proof_needs.specs.declared.spots.Spot.TheVariants.{Page, Added}
use Rattle.proof_needs.specs.declared.spots.Want.{Want}
use Rattle.proof_needs.specs.declared.needs.Tie.{Tie}
use Rattle.proof_needs.specs.Choices.{from_up, from_down, needs_of, spawn_needs, spawn_kind}
use Rattle.proof_needs.specs.Triples.{Triple}
use Rattle.proof_needs.specs.Sets.{IsWith, IsWithSome}
use Rattle.proof_needs.specs.Wants.{want_of, IsOfEach, IsAtEach}

pub record IsAtNode (v : List ℕ) (from : ℕ) (nodes nodes' : List (List ℕ)) (wants wants' : List Want) : Type 0 where
  pub number : ℕ
  pub at : slice_get nodes' number ≡ Some v
  pub of_nodes : IsWith nodes (λ u. u ≡ v) nodes'
  pub of_wants : IsWith wants (λ w. w ≡ want_of (Page number) from) wants'

-- the added node n needs one atom more of its parent
pub record IsAbove (n from : ℕ) (tie : Tie) (ties ties' : List Tie) (wants wants' : List Want) : Type 0 where
  pub now : Tie
  pub ties_is : ties' ≡ slice_set ties n now
  pub users : now.users.items ≡ tie.users.items
  pub above : now.above ≡ with_class from tie.above
  pub of_wants : IsWith wants (IsAtEach tie.users.items from) wants'

-- the spot has the added node n as a child
pub record IsUsed (n from needs : ℕ) (spot : Spot) (tie : Tie) (ties ties' : List Tie) (wants wants' : List Want) : Type 0 where
  pub now : Tie
  pub ties_is : ties' ≡ slice_set ties n now
  pub users : now.users.items ≡ tie.users.items ++ spot ∷ []
  pub above : now.above ≡ tie.above
  pub of_wants : IsWith wants (λ w. (w ≡ want_of spot needs) ⊎ ((w ≡ want_of (Added n) from) ⊎ IsOfEach spot tie.above w)) wants'

-- the added node n may need one atom more of its parent
pub record IsAboveSome (n from : ℕ) (tie : Tie) (ties ties' : List Tie) (wants wants' : List Want) : Type 0 where
  pub now : Tie
  pub ties_is : ties' ≡ slice_set ties n now
  pub users : now.users.items ≡ tie.users.items
  pub cases : ((now.above ≡ tie.above) × (wants' ≡ wants)) ⊎ ((now.above ≡ with_class from tie.above) × IsWithSome wants (IsAtEach tie.users.items from) wants')

-- the spot may have the added node n as a child
pub record IsUsedSome (n from needs : ℕ) (spot : Spot) (tie : Tie) (ties ties' : List Tie) (wants wants' : List Want) : Type 0 where
  pub now : Tie
  pub ties_is : ties' ≡ slice_set ties n now
  pub above : now.above ≡ tie.above
  pub cases : ((now.users.items ≡ tie.users.items) × (wants' ≡ wants))
      ⊎ ((now.users.items ≡ tie.users.items ++ spot ∷ []) × IsWithSome wants (λ w. (w ≡ want_of spot needs) ⊎ ((w ≡ want_of (Added n) from) ⊎ IsOfEach spot tie.above w)) wants')

abbrev pub IsParentOf : List (List ℕ) → ℕ → List ℕ → Type 0
IsParentOf nodes n u = (v : List ℕ) → slice_get nodes n ≡ Some v → parent_of v ≡ Some u

abbrev pub IsChildOf : List (List ℕ) → ℕ → ℕ → List ℕ → Type 0
IsChildOf nodes n k u = (v : List ℕ) → slice_get nodes n ≡ Some v → u ≡ v ++ k ∷ []

module _ (nodes nodes' : List (List ℕ)) (ties ties' : List Tie) (wants wants' : List Want) where
  -- the root has no parent, at which nothing is wanted then
  abbrev pub FollowsUp : Spot → ℕ → Type 0
  FollowsUp (Page n) from = (ties' ≡ ties) × ((v p : List ℕ) → slice_get nodes n ≡ Some v → parent_of v ≡ Some p → IsAtNode p from nodes nodes' wants wants')
      × (slice_get nodes n ≡ Some [] → (nodes' ≡ nodes) × (wants' ≡ wants))
  FollowsUp (Added n) from = (nodes' ≡ nodes) × ((tie : Tie) → slice_get ties n ≡ Some tie → IsAbove n from tie ties ties' wants wants')

  -- an added node has no child in the page
  abbrev pub FollowsDown : Spot → ℕ → ℕ → Type 0
  FollowsDown (Page n) k from = (ties' ≡ ties) × ((v : List ℕ) → slice_get nodes n ≡ Some v → IsAtNode (v ++ k ∷ []) from nodes nodes' wants wants')
  FollowsDown (Added n) k from = (nodes' ≡ nodes) × (ties' ≡ ties) × (wants' ≡ wants)

  abbrev pub Follows : System → Spot → Choice → Option ℕ → Type 0
  Follows s spot Start named = (nodes' ≡ nodes) × (ties' ≡ ties) × (wants' ≡ wants)
  Follows s spot (Local l) named = (nodes' ≡ nodes) × (ties' ≡ ties) × IsWith wants (IsOfEach spot (needs_of s l)) wants'
  Follows s spot (Up l) named = FollowsUp spot (from_up s l)
  Follows s spot (Real l n) named = FollowsDown spot n (from_down s l)
  Follows s spot (Spawn l c) named = (nodes' ≡ nodes) × ((n : ℕ) (tie : Tie) → named ≡ Some n → slice_get ties n ≡ Some tie → IsUsed n (from_down s l) (spawn_needs s c) spot tie ties ties' wants wants')

  abbrev pub FollowsUpSome : Spot → ℕ → Type 0
  FollowsUpSome (Page n) from = (ties' ≡ ties) × (wants' ≡ wants) × IsWithSome nodes (IsParentOf nodes n) nodes'
  FollowsUpSome (Added n) from = (nodes' ≡ nodes) × ((tie : Tie) → slice_get ties n ≡ Some tie → IsAboveSome n from tie ties ties' wants wants')

  abbrev pub FollowsDownSome : Spot → ℕ → Type 0
  FollowsDownSome (Page n) k = (ties' ≡ ties) × (wants' ≡ wants) × IsWithSome nodes (IsChildOf nodes n k) nodes'
  FollowsDownSome (Added n) k = ⊥

  -- the start has no premise, and an added node no child in the page: neither is refused
  abbrev pub FollowsSome : System → Spot → Choice → Option ℕ → Type 0
  FollowsSome s spot Start named = ⊥
  FollowsSome s spot (Local l) named = (nodes' ≡ nodes) × (ties' ≡ ties) × IsWithSome wants (IsOfEach spot (needs_of s l)) wants'
  FollowsSome s spot (Up l) named = FollowsUpSome spot (from_up s l)
  FollowsSome s spot (Real l n) named = FollowsDownSome spot n
  FollowsSome s spot (Spawn l c) named = (nodes' ≡ nodes) × ((n : ℕ) (tie : Tie) → named ≡ Some n → slice_get ties n ≡ Some tie → IsUsedSome n (from_down s l) (spawn_needs s c) spot tie ties ties' wants wants')

-- the triple has a number, with a tie of its own
pub record IsEntered (t : Triple) (triples triples' : List Triple) (ties ties' : List Tie) (number : ℕ) : Type 0 where
  pub at : slice_get triples' number ≡ Some t
  pub of_triples : IsWith triples (λ u. u ≡ t) triples'
  pub tie_cases : ((ties' ≡ ties) × (length triples' ≡ length triples)) ⊎ ((e : Tie) × (ties' ≡ ties ++ e ∷ []) × (e.above ≡ []) × (e.users.items ≡ []) × (length triples' ≡ suc (length triples)))

-- for a spawn, the triple of the child below a spot with this visible label is entered
abbrev pub Enters : System → List ℕ → List Triple → List Triple → List Tie → List Tie → Choice → Option ℕ → Type 0
Enters s below triples triples' ties ties' Start named = (named ≡ None) × (triples' ≡ triples) × (ties' ≡ ties)
Enters s below triples triples' ties ties' (Local l) named = (named ≡ None) × (triples' ≡ triples) × (ties' ≡ ties)
Enters s below triples triples' ties ties' (Up l) named = (named ≡ None) × (triples' ≡ triples) × (ties' ≡ ties)
Enters s below triples triples' ties ties' (Real l n) named = (named ≡ None) × (triples' ≡ triples) × (ties' ≡ ties)
Enters s below triples triples' ties ties' (Spawn l c) named =
    IsSomeAnd named (IsEntered (record { kind = spawn_kind s c; parent = below; atom = from_down s l }) triples triples' ties ties')
