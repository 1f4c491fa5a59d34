-- The wants of the worklist, dealt out to their spots in order.
--     IsDealt P Tie xs       the wants whose spots have P, sorted by first round and then by Tie
use Rattle.std.specs.Prelude.{◌≡◌, ◌⊎◌, ℕ, ◌<◌, List, [], Contains, Some, unwrap_or, slice_get}
use Rattle.tree_sem.specs.Order.{Before}
use Rattle.proof_needs.specs.declared.spots.Spot.{Spot}
use Rattle.proof_needs.specs.declared.spots.Spot.TheVariants.{Page, Added}
use Rattle.proof_needs.specs.declared.spots.Want.{Want}
use Rattle.proof_needs.specs.declared.needs.Draft.{Draft}

abbrev pub IsOnPage : Spot → Type 0
IsOnPage (Page n) = Unit {0}
IsOnPage (Added n) = ⊥

-- the number of the page's node; 0 for an added node
abbrev pub node_of : Spot → ℕ
node_of (Page n) = n
node_of (Added n) = 0

abbrev pub path_at : List (List ℕ) → Want → List ℕ
path_at nodes w = unwrap_or (slice_get nodes (node_of w.spot)) []

-- the order of the document, and then by atom
abbrev pub PageTie : List (List ℕ) → Want → Want → Type 0
PageTie nodes w x = Before (path_at nodes w) (path_at nodes x) ⊎ ((path_at nodes w ≡ path_at nodes x) × (w.atom < x.atom))

abbrev pub AtomTie : Want → Want → Type 0
AtomTie w x = w.atom < x.atom

pub record IsDealt (wants : List Want) (drafts : List Draft) (P : Spot → Type 0) (Tie : Want → Want → Type 0) (xs : List ℕ) : Type 0 where
  pub each : (k i : ℕ) → slice_get xs k ≡ Some i → (w : Want) × (slice_get wants i ≡ Some w) × P w.spot
  pub all : (i : ℕ) (w : Want) → slice_get wants i ≡ Some w → P w.spot → Contains xs i
  pub ordered : (k l i j : ℕ) (w x : Want) (d e : Draft) → k < l → slice_get xs k ≡ Some i → slice_get xs l ≡ Some j → slice_get wants i ≡ Some w → slice_get wants j ≡ Some x
      → slice_get drafts i ≡ Some d → slice_get drafts j ≡ Some e → (d.round < e.round) ⊎ ((d.round ≡ e.round) × Tie w x)
