-- What the code looks at: a closed page with the rules of its system by what they give, and the places of its labels.
--     setting_of, path_of      the place as a setting, and as the path of a node in it
--     labels_of s page place k the label at the place after so many rounds
--     IsPlace S world place    it is a node of the page, or an added node of a known pair with the entry of this
--     HasArrivals s place      what an added node has with it is what is told of it
--     IsReady S world          the page is closed, what it asks is known to the summaries, which S reads, and these, the rules and the
--                              marks are of the system
use Rattle.std.specs.Prelude.{◌≡◌, ℕ, Bool, ◌&&◌, Some, None, List, [], ◌∷◌, ◌++◌, IsSome, option_map, unwrap_or}
use Rattle.tp_base.specs.Classes.{has_class}
use Rattle.tree_sem.specs.Trees.{LabelTree, node_at}
use Rattle.tree_sem.specs.Paths.{parent_of}
use Rattle.simple_core.specs.declared.summaries.Summaries.{Ghosts}
use Rattle.simple_core.specs.declared.system.System.{System}
use Rattle.simple_core.specs.Pairs.{Pair, Asked}
use Rattle.simple_core.specs.Labels.{visible_in}
use Rattle.simple_core.specs.Rounds.{grown}
use Rattle.simple_core.specs.Pages.{page_round}
use Rattle.simple_core.specs.Knowledge.{KeepsAsking}
use Rattle.closed_page.specs.ClosedPages.{IsClosedPage}
use Rattle.proof_maker.specs.declared.worlds.Place.{Place}
use Rattle.proof_maker.specs.declared.worlds.Place.TheVariants.{Node, Added}
use Rattle.proof_maker.specs.declared.worlds.World.{World}
use Rattle.proof_needs.specs.Choices.{Setting, on_page, on_added, spawn_needs, spawn_kind, stands}
use Rattle.proof_needs.specs.Choices.{Choice as Reason}
use Rattle.simple_core.specs.Givers.{AreAllGivers}
use Rattle.proof_maker.specs.Tellings.{IsTold}

abbrev pub setting_of : System → LabelTree → Place → Setting
setting_of s page (Node at) = on_page s page
setting_of s page (Added j parent arrivals i) = on_added s j parent.now

abbrev pub path_of : Place → List ℕ
path_of (Node at) = at.now
path_of (Added j parent arrivals i) = []

abbrev pub labels_of : System → LabelTree → Place → ℕ → List ℕ
labels_of s page place k = (setting_of s page place).label k (path_of place)

abbrev pub IsPlace : {X : Type 0} → Ghosts X → World X → Place → Type 0
IsPlace S world (Node at) = IsSome (node_at at.now world.page.now)
IsPlace S world (Added j parent arrivals i) = S.known world.sums.now (j, parent.now) × S.is_entry world.sums.now i (j, parent.now)

abbrev pub HasArrivals : System → Place → Type 0
HasArrivals s (Node at) = Unit {0}
HasArrivals s (Added j parent None i) = Unit {0}
HasArrivals s (Added j parent (Some told) i) = IsTold s (λ k. grown s k j parent.now) told.now

-- it is a node of the page, if it is none that is added
abbrev pub IsNodeOf : LabelTree → Place → Type 0
IsNodeOf page (Node at) = IsSome (node_at at.now page)
IsNodeOf page (Added j parent arrivals i) = Unit {0}

-- the label of a node's parent
abbrev pub above_on : System → LabelTree → ℕ → List ℕ → List ℕ
above_on s page k v = unwrap_or (option_map (page_round s page k) (parent_of v)) []

-- with the pair of an added node all that it asks is known
abbrev pub IsAsking : System → (Pair → Type 0) → Place → Type 0
IsAsking s known (Node at) = Unit {0}
IsAsking s known (Added j parent arrivals i) = KeepsAsking s known

pub record IsReady {X : Type 0} (S : Ghosts X) (world : World X) : Type 0 where
  pub made : S.system world.sums.now ≡ world.system.now
  pub closed : IsClosedPage world.system.now world.page.now world.closed.now
  pub asked : (q : Pair) → Asked world.system.now world.page.now q → S.known world.sums.now q
  pub rules : AreAllGivers world.system.now world.rules.now
  pub marks : world.marks.now ≡ world.system.now.visible

-- whether all premises of the reason stand at the place in a round
abbrev pub stands_at : {X : Type 0} → World X → Place → ℕ → Reason → Bool
stands_at world place k w = stands world.system.now (setting_of world.system.now world.page.now place) k (path_of place) w

-- whether the page's child n, or the child that the spawn rule c adds, has the atom
abbrev pub real_has : {X : Type 0} → World X → Place → ℕ → ℕ → ℕ → Bool
real_has world place k from n = has_class from ((setting_of world.system.now world.page.now place).label k (path_of place ++ n ∷ []))

abbrev pub spawn_has : {X : Type 0} → World X → Place → ℕ → ℕ → ℕ → Bool
spawn_has world place k from c =
    let s = world.system.now in
    let label = labels_of s world.page.now place k in
    has_class (spawn_needs s c) label && has_class from (grown s k (spawn_kind s c) (visible_in s label))
