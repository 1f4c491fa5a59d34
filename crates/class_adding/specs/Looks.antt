-- What a round finds at the nodes of its worklist.
--     gain_of c news         the node with the number c gains these atoms
--     MayLook S a f k number a look at the node with this number tells what is new there after one more round than k
--     IsLookAt .. number l   the look l says what is new at the node with this number, and when it wakes
--     IsLook .. nodes l      l is such a look at its node, and what is new there is among the gains
--     IsTakenOver .. looks number l   l is one of the looks, moved to a node that is like its own
--     AreSeen .. latest nodes   each node was looked at or need not be, and wakes in no round after `latest`
--     AreFound .. due r      the round r found what is new at each node that was due
--     RestUndue .. due wakes nodes   a node that isn't due need not be looked at
use Rattle.std.specs.Prelude.{◌≡◌, ◌⊎◌, ◌≤◌, ◌<◌, ℕ, List, [], Option, length, get_or, All, Contains, IsTrue, IsFalse, IfSome}
use Rattle.tree_sem.specs.Trees.{LabelTree}
use Rattle.simple_core.specs.declared.system.System.{System}
use Rattle.simple_core.specs.Pairs.{Pair}
use Rattle.simple_core.specs.declared.summaries.Summaries.{Ghosts}
use Rattle.rule_index.specs.Asking.{AreUnseen}
use Rattle.closed_page.specs.declared.gains.NodeGain.{NodeGain}
use Rattle.closed_page.specs.Gains.{Gain, gains_at, label_in}
use Rattle.closed_page.specs.Labelled.{node_of}
use Rattle.class_adding.specs.declared.asker.Asker.{Asker}
use Rattle.class_adding.specs.declared.filling.Filling.{Filling}
use Rattle.class_adding.specs.declared.looking.Look.{Look}
use Rattle.class_adding.specs.declared.rounds.Round.{Round}
use Rattle.class_adding.specs.Asking.{IsReady}
use Rattle.class_adding.specs.Alike.{IsAlike, AreAlike}
use Rattle.class_adding.specs.Filling.{IsGained, IsLooked, IsNews, AreRight, AreNew, wake_at}
use Rattle.class_adding.specs.Fresh.{IsSettled, IsAsleep, IsResting}
use Rattle.class_adding.specs.Work.{IsWorking, IsSeen}

abbrev pub gain_of : ℕ → List ℕ → NodeGain
gain_of c news = record { number = c; label = news }

-- the asker may look at the node with this number
pub record MayLook {X : Type 0} (S : Ghosts X) (a : Asker X) (f : Filling) (k number : ℕ) : Type 0 where
  pub within : number < length f.labels.nodes
  pub working : IsWorking f.labels.nodes f.work
  pub alike : AreAlike f.labels.labels f.labels.nodes f.alike.items
  pub settled : IsSettled a.system.now f.labels.labels f.labels.nodes f.work.fresh.items number
  pub resting : IsResting a.system.now k (S.known a.sums.now) (label_in f.labels.labels (node_of f.labels number)) (get_or f.work.fresh.items number []) (wake_at f.work.wakes.items number)
  pub ready : IsReady S a

pub record IsLookAt (s : System) (u : LabelTree) (k : ℕ) (known : Pair → Type 0) (nodes : List (List ℕ)) (number : ℕ) (l : Look) : Type 0 where
  pub here : l.number ≡ number
  pub is_news : IsNews s u k (get_or nodes number []) l.news
  pub same : IsFalse l.grew → l.news ≡ []
  pub above : IsFalse l.seen_above → AreUnseen s.down l.news
  pub below : IsFalse l.seen_below → AreUnseen s.up l.news
  pub other : IsTrue l.grew → All (Contains (label_in u (get_or nodes number []))) l.news → ⊥
  pub asleep : IsAsleep s k known (label_in u (get_or nodes number [])) l.wake

pub record IsLook (s : System) (u : LabelTree) (k : ℕ) (known : Pair → Type 0) (gains : List Gain) (nodes : List (List ℕ)) (l : Look) : Type 0 where
  pub within : l.number < length nodes
  pub tells : IsLookAt s u k known nodes l.number l
  pub gained : IsTrue l.grew → IsGained gains (get_or nodes l.number [])

pub record IsTakenOver (u : LabelTree) (nodes : List (List ℕ)) (looks : List Look) (number : ℕ) (l : Look) : Type 0 where
  pub before : Look
  pub there : Contains looks before
  pub alike : IsAlike u (get_or nodes before.number []) (get_or nodes number [])
  pub moved : l ≡ record before { number = number }

abbrev pub AreLooks : System → LabelTree → ℕ → (Pair → Type 0) → List Gain → List (List ℕ) → List Look → Type 0
AreLooks s u k known gains nodes looks = (l : Look) → Contains looks l → IsLook s u k known gains nodes l

abbrev pub AreSeen : System → LabelTree → ℕ → (Pair → Type 0) → List Gain → ℕ → List (List ℕ) → Type 0
AreSeen s u k known gains latest nodes = (i : ℕ) → i < length nodes → (wake : Option ℕ) × IsLooked s u k known gains wake (get_or nodes i []) × IfSome wake (λ r. r ≤ latest)

abbrev pub RestUndue : System → LabelTree → ℕ → (Pair → Type 0) → List ℕ → List (Option ℕ) → List (List ℕ) → Type 0
RestUndue s u k known due wakes nodes = (i : ℕ) → i < length nodes → Contains due i ⊎ IsLooked s u k known [] (wake_at wakes i) (get_or nodes i [])

-- a round found what is new at each node that was due
pub record AreFound (s : System) (u : LabelTree) (nodes : List (List ℕ)) (k : ℕ) (known : Pair → Type 0) (due : List ℕ) (r : Round) : Type 0 where
  pub right : AreRight s u k (gains_at nodes r.gains.items)
  pub news : AreNew u (gains_at nodes r.gains.items)
  pub looks_are : AreLooks s u k known (gains_at nodes r.gains.items) nodes r.looks.items
  pub numbers : All (λ g. g.number < length nodes) r.gains.items
  pub covers : (i : ℕ) → Contains due i → IsSeen r.looks.items i
