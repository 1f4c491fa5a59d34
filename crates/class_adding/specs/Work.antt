-- The worklist of a page. Nodes are numbered in document order.
--     nodes_in awaited r     the nodes for which something is awaited in the round r
--     IsNear nodes l due     the list has the node of the look l, its parent and its children where links look at what is new
--     AreCallersOf nodes fresh i row   the row has children of the i-th node, and each of them at which something is new
--     IsWritten value looks old new   each of the looks has written its value at its node, and nothing else changed
--     IsNext nodes w looks k w'   w' is w after looks that end as round k
--     IsWorking nodes w      what is kept of it between two rounds
use Rattle.std.specs.Prelude.{◌≡◌, ◌⊎◌, ◌↔◌, ◌≤◌, ◌<◌, ◌^◌, ◌==◌, ℕ, List, [], ◌∷◌, ◌++◌, Option, None, length, get_or, Contains, IsTrue, IsFalse, IfSome}
use Rattle.multimap.specs.Values.{values_at}
use Rattle.tree_sem.specs.Trees.{LabelTree}
use Rattle.row_index.specs.Rows.{row_of}
use Rattle.closed_page.specs.Labelled.{AreAllLabels, IsParentIn, AreKidsAll, IsHeard}
use Rattle.class_adding.specs.Filling.{wake_at}
use Rattle.class_adding.specs.declared.looking.Look.{Look}
use Rattle.class_adding.specs.declared.work.Work.{Work}

abbrev pub nodes_in : List (ℕ × List ℕ) → ℕ → List ℕ
nodes_in = values_at (λ r key. r == key)

abbrev pub AreNumbers : List (List ℕ) → List ℕ → Type 0
AreNumbers nodes due = (i : ℕ) → Contains due i → i < length nodes

abbrev pub AreKidsIn : List (List ℕ) → ℕ → List ℕ → Type 0
AreKidsIn nodes c due = (d n : ℕ) → d < length nodes → get_or nodes d [] ≡ get_or nodes c [] ++ n ∷ [] → Contains due d

pub record IsNear (nodes : List (List ℕ)) (l : Look) (due : List ℕ) : Type 0 where
  pub itself : Contains due l.number
  pub above : IsTrue l.seen_above → IsParentIn nodes l.number due
  pub below : IsTrue l.seen_below → AreKidsIn nodes l.number due

abbrev pub AreNear : List (List ℕ) → List Look → List ℕ → Type 0
AreNear nodes looks due = (l : Look) → Contains looks l → IsTrue l.grew → IsNear nodes l due

-- the rows of a list where the places of some keys were taken away
abbrev pub IsLessOf : List (List ℕ) → List (List ℕ) → Type 0
IsLessOf old new = (i c : ℕ) → Contains (row_of new i) c → Contains (row_of old i) c

pub record AreCallersOf (nodes fresh : List (List ℕ)) (i : ℕ) (row : List ℕ) : Type 0 where
  pub only : (c : ℕ) → Contains row c → (c < length nodes) × (n : ℕ) × (get_or nodes c [] ≡ get_or nodes i [] ++ n ∷ [])
  pub heard : (c n a : ℕ) → c < length nodes → get_or nodes c [] ≡ get_or nodes i [] ++ n ∷ [] → Contains (get_or fresh c []) a → Contains row c

-- a node has a look
abbrev pub IsSeen : List Look → ℕ → Type 0
IsSeen looks i = (l : Look) × Contains looks l × (l.number ≡ i)

pub record IsWritten {X : Type 0} (value : Look → X) (none : X) (looks : List Look) (old new : List X) : Type 0 where
  pub count : length new ≡ length old
  pub each : (i : ℕ) → ((get_or new i none ≡ get_or old i none) × ((l : Look) → Contains looks l → l.number ≡ i → ⊥))
      ⊎ ((l : Look) × Contains looks l × (l.number ≡ i) × (get_or new i none ≡ value l))

-- one more node waits for the round `wake`, if there is one
pub record IsAwaited (old new : List (ℕ × List ℕ)) (number : ℕ) (wake : Option ℕ) : Type 0 where
  pub kept : (r i : ℕ) → Contains (nodes_in old r) i → Contains (nodes_in new r) i
  pub right : (r i : ℕ) → Contains (nodes_in new r) i → Contains (nodes_in old r) i ⊎ (i ≡ number)
  pub there : IfSome wake (λ r. Contains (nodes_in new r) number)

-- the nodes of these looks wait for the rounds in which they wake
pub record AreAwaited (old new : List (ℕ × List ℕ)) (looks : List Look) : Type 0 where
  pub kept : (r i : ℕ) → Contains (nodes_in old r) i → Contains (nodes_in new r) i
  pub right : (r i : ℕ) → Contains (nodes_in new r) i → Contains (nodes_in old r) i ⊎ IsSeen looks i
  pub there : (l : Look) → Contains looks l → IfSome l.wake (λ r. Contains (nodes_in new r) l.number)

-- no look wakes after `latest`
abbrev pub AreUntil : List Look → ℕ → Type 0
AreUntil looks latest = (l : Look) → Contains looks l → IfSome l.wake (λ r. r ≤ latest)

pub record IsNext (nodes : List (List ℕ)) (w : Work) (looks : List Look) (latest k : ℕ) (w' : Work) : Type 0 where
  pub fresh : IsWritten (λ l. l.news) [] looks w.fresh.items w'.fresh.items
  pub wakes : IsWritten (λ l. l.wake) None looks w.wakes.items w'.wakes.items
  pub awaited : AreAwaited w.awaited w'.awaited looks
  pub only : AreKidsAll nodes w'.callers
  pub heard : (l : Look) → Contains looks l → IsTrue l.grew → IsHeard nodes w'.callers l.number
  pub within : AreNumbers nodes w'.due.items
  pub near : AreNear nodes looks w'.due.items
  pub woken : (i : ℕ) → Contains (nodes_in w'.awaited k) i → Contains w'.due.items i
  pub until : w'.latest ≡ latest
  pub later : IsFalse w'.is_first
  pub none : w'.none ≡ w.none

-- What is kept of the nodes between two rounds: only nodes that are due have something new, each such child stands among
-- its parent's callers, but for the first round, and each that wakes is awaited then.
pub record IsWorking (nodes : List (List ℕ)) (w : Work) : Type 0 where
  pub long : length w.fresh.items ≡ length nodes
  pub times : length w.wakes.items ≡ length nodes
  pub within : AreNumbers nodes w.due.items
  pub quiet : (i : ℕ) → i < length nodes → (get_or w.fresh.items i [] ≡ []) ⊎ Contains w.due.items i
  pub only : AreKidsAll nodes w.callers
  pub heard : IsFalse w.is_first → (c a : ℕ) → c < length nodes → Contains (get_or w.fresh.items c []) a → IsHeard nodes w.callers c
  pub awaited : (i : ℕ) → IfSome (wake_at w.wakes.items i) (λ r. Contains (nodes_in w.awaited r) i)
  pub numbers : (r : ℕ) → AreNumbers nodes (nodes_in w.awaited r)
  pub until : (i : ℕ) → IfSome (wake_at w.wakes.items i) (λ r. r ≤ w.latest)
  pub bound : w.latest < 2 ^ 62
  pub none : w.none ≡ []

-- before the first round all labels are new, and every node is due
pub record IsStart (t : LabelTree) (nodes : List (List ℕ)) (w : Work) : Type 0 where
  pub fresh : AreAllLabels t nodes w.fresh.items (length nodes)
  pub start : IsTrue w.is_first
  pub none_called : w.callers ≡ []
  pub times : length w.wakes.items ≡ length nodes
  pub none : (i : ℕ) → wake_at w.wakes.items i ≡ None
  pub awaited : w.awaited ≡ []
  pub first : w.latest ≡ 0
  pub empty : w.none ≡ []
  pub due : (i : ℕ) → Contains w.due.items i ↔ (i < length nodes)
