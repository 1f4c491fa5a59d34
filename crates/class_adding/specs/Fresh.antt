-- What the last round brought, and what is still to come of it. Of each node, by its number, `fresh` has the atoms that the last
-- round brought: what only older atoms give is in the labels.
--     AreFollowed links own label fresh   own has what the label gives by links that look at no fresh atom
--     IsSettled s u nodes fresh i   own has what older atoms give, at the node and next to it
--     HasGiven s k known q wake old new   old got what a child that is asked as q gives after k rounds, and no more till the round `wake`
--     IsAsleep s k known own wake   until the round `wake`, what the label asks gives nothing new, and all of it is known
--     IsResting ..               this is so of each label that neither wakes nor asks anew, and it has what its children give
use Rattle.std.specs.Prelude.{◌≡◌, ◌⊎◌, ◌<◌, ◌≤◌, ◌^◌, ℕ, List, [], ◌∷◌, ◌++◌, Option, Some, None, length, get_or, false, Contains, IfSome}
use Rattle.std.specs.List.{flat_map}
use Rattle.tp_base.specs.Classes.{union_of}
use Rattle.tree_sem.specs.Trees.{LabelTree}
use Rattle.simple_core.specs.declared.system.System.{System}
use Rattle.simple_core.specs.declared.rules.Link.{Link}
use Rattle.simple_core.specs.Labels.{given_by_links, labels_below}
use Rattle.simple_core.specs.Rounds.{grown}
use Rattle.simple_core.specs.Pairs.{Pair, Asks}
use Rattle.rule_index.specs.Asking.{AreMet, AsksAnew}
use Rattle.class_adding.specs.Filling.{SleepsTill, IsBefore, GivesSame, wakes_in, wake_at}
use Rattle.closed_page.specs.Gains.{label_in}

-- the atoms of `given` that aren't in own
pub record AreNewIn (own given news : List ℕ) : Type 0 where
  pub other : (a : ℕ) → Contains news a → Contains own a → ⊥
  pub right : (a : ℕ) → Contains news a → Contains given a
  pub whole : (a : ℕ) → Contains given a → Contains own a ⊎ Contains news a

-- an atom more, if it isn't in own
pub record IsAddedIfNew (own : List ℕ) (a : ℕ) (old new : List ℕ) : Type 0 where
  pub kept : (x : ℕ) → Contains old x → Contains new x
  pub right : (x : ℕ) → Contains new x → Contains old x ⊎ ((x ≡ a) × (Contains own x → ⊥))
  pub there : Contains own a ⊎ Contains new a

abbrev pub AreFollowed : List Link → List ℕ → List ℕ → List ℕ → Type 0
AreFollowed links own label fresh = (l : Link) → Contains links l → Contains label l.from → Contains own l.to ⊎ Contains fresh l.from

-- the sets with some numbers
abbrev pub set_at : List (List ℕ) → Option ℕ → List ℕ
set_at sets None = []
set_at sets (Some j) = get_or sets j []

-- what the sets with these numbers give to the parent
abbrev pub given_at : System → List (List ℕ) → List ℕ → List ℕ
given_at s own row = flat_map (λ c. given_by_links s.down (get_or own c [])) row

pub record IsSettled (s : System) (u : LabelTree) (nodes fresh : List (List ℕ)) (i : ℕ) : Type 0 where
  pub right : (j : ℕ) → j < length nodes → (a : ℕ) → Contains (get_or fresh j []) a → Contains (label_in u (get_or nodes j [])) a
  pub here : AreMet s.local (label_in u (get_or nodes i [])) (get_or fresh i [])
  pub above : (j n : ℕ) → j < length nodes → get_or nodes i [] ≡ get_or nodes j [] ++ n ∷ [] → AreFollowed s.up (label_in u (get_or nodes i [])) (label_in u (get_or nodes j [])) (get_or fresh j [])
  pub below : (j n : ℕ) → j < length nodes → get_or nodes j [] ≡ get_or nodes i [] ++ n ∷ [] → AreFollowed s.down (label_in u (get_or nodes i [])) (label_in u (get_or nodes j [])) (get_or fresh j [])

abbrev pub AreSettled : System → LabelTree → List (List ℕ) → List (List ℕ) → Type 0
AreSettled s u nodes fresh = (i : ℕ) → i < length nodes → IsSettled s u nodes fresh i

pub record IsAsleep (s : System) (k : ℕ) (known : Pair → Type 0) (own : List ℕ) (wake : Option ℕ) : Type 0 where
  pub sleeps : SleepsTill s k own wake
  pub after : IfSome wake (λ r. k < r)
  pub bound : IfSome wake (λ r. r < 2 ^ 62)
  pub told : (q : Pair) → Asks s own q → known q

pub record HasGiven (s : System) (k : ℕ) (known : Pair → Type 0) (q : Pair) (wake : Option ℕ) (old new : List ℕ) : Type 0 where
  pub given : new ≡ union_of old (given_by_links s.down (grown s k q.0 q.1))
  pub same : (m : ℕ) → k ≤ m → IsBefore m wake → GivesSame s k m q
  pub after : IfSome wake (λ r. k < r)
  pub bound : IfSome wake (λ r. r < 2 ^ 62)
  pub told : known q

-- the same of all children that the label adds
pub record HaveGiven (s : System) (k : ℕ) (known : Pair → Type 0) (own : List ℕ) (wake : Option ℕ) (old new : List ℕ) : Type 0 where
  pub given : new ≡ union_of old (flat_map (given_by_links s.down) (labels_below s (grown s k) own))
  pub asleep : IsAsleep s k known own wake

pub record IsRested (s : System) (k : ℕ) (known : Pair → Type 0) (own : List ℕ) (wake : Option ℕ) : Type 0 where
  pub asleep : IsAsleep s k known own wake
  pub given : (y : ℕ) → Contains (flat_map (given_by_links s.down) (labels_below s (grown s k) own)) y → Contains own y

abbrev pub IsResting : System → ℕ → (Pair → Type 0) → List ℕ → List ℕ → Option ℕ → Type 0
IsResting s k known own fresh wake = wakes_in k wake ≡ false → ((a : ℕ) → Contains fresh a → AsksAnew s a → ⊥) → IsRested s k known own wake

-- this is so of each node
abbrev pub AreResting : System → LabelTree → ℕ → (Pair → Type 0) → List (List ℕ) → List (List ℕ) → List (Option ℕ) → Type 0
AreResting s u k known nodes fresh wakes = (i : ℕ) → i < length nodes → IsResting s k known (label_in u (get_or nodes i [])) (get_or fresh i []) (wake_at wakes i)
