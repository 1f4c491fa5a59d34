-- The worklist of a proof, as the code keeps it.
--     IsWorking s page known n    what it has is what is needed
--     IsStart, IsDone             its beginning and its end
use Rattle.std.specs.Prelude.{◌≡◌, ℕ, ◌≤◌, [], length, Some, slice_get}
use Rattle.tree_sem.specs.Trees.{LabelTree}
use Rattle.simple_core.specs.declared.system.System.{System}
use Rattle.simple_core.specs.Pairs.{Pair}
use Rattle.proof_needs.specs.declared.spots.Spot.TheVariants.{Page}
use Rattle.proof_needs.specs.declared.needs.Needs.{Needs}
use Rattle.proof_needs.specs.Sets.{IsWith}
use Rattle.proof_needs.specs.Spots.{paths_in, triples_in}
use Rattle.proof_maker.specs.Worklist.{AreOwn, IsWorklist}
use Rattle.proof_needs.specs.Wants.{want_of}

pub record IsWorking (s : System) (page : LabelTree) (known : Pair → Type 0) (n : Needs) : Type 0 where
  pub list : IsWorklist s page n.target known (paths_in n.nodes.keys) (triples_in n.triples.keys) n.ties.items n.wants.keys n.drafts.items
  pub own : AreOwn (triples_in n.triples.keys) n.wants.keys

-- nothing but the target at the root
pub record IsStart (target : ℕ) (n : Needs) : Type 0 where
  pub target_is : n.target ≡ target
  pub root : ℕ
  pub at : slice_get (paths_in n.nodes.keys) root ≡ Some []
  pub of_nodes : IsWith [] (λ v. v ≡ []) (paths_in n.nodes.keys)
  pub of_wants : IsWith [] (λ w. w ≡ want_of (Page root) target) n.wants.keys
  pub no_triples : triples_in n.triples.keys ≡ []
  pub no_ties : n.ties.items ≡ []
  pub no_drafts : n.drafts.items ≡ []

-- all is looked at
pub record IsDone (s : System) (page : LabelTree) (known : Pair → Type 0) (target limit : ℕ) (n : Needs) : Type 0 where
  pub working : IsWorking s page known n
  pub target_is : n.target ≡ target
  pub whole : length n.drafts.items ≡ length n.wants.keys
  pub few : length n.triples.keys ≤ limit
