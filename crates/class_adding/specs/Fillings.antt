-- The state of the iteration between two rounds.
--     IsBegun t f            f has the labels of the page t, each of their atoms as a first of round 0, and every node is due;
--                            nodes that are marked are alike
--     IsTaken f r latest k f'   f' is f with what the round r brought, as round k
use Rattle.std.specs.Prelude.{◌≡◌, ◌++◌, ◌+◌, ◌<◌, ◌^◌, ℕ, List, length, Contains}
use Rattle.std.specs.List.Sorted.{IsStrictlyIncreasing}
use Rattle.tree_sem.specs.Trees.{LabelTree}
use Rattle.tree_sem.specs.Order.{paths_of}
use Rattle.closed_page.specs.Gains.{label_in, AreStarts, gains_at, with_gains, news}
use Rattle.class_adding.specs.Alike.{AreAlike}
use Rattle.class_adding.specs.Work.{IsStart, IsNext}
use Rattle.class_adding.specs.declared.filling.Filling.{Filling}
use Rattle.class_adding.specs.declared.rounds.Round.{Round}

pub record IsBegun (t : LabelTree) (f : Filling) : Type 0 where
  pub labels : f.labels.labels ≡ t
  pub nodes : f.labels.nodes ≡ paths_of t
  pub firsts : AreStarts t f.labels.nodes f.labels.firsts
  pub few : f.labels.notes < 2 ^ 63
  pub rising : (v : List ℕ) → Contains f.labels.nodes v → IsStrictlyIncreasing (label_in t v)
  pub alike : AreAlike t f.labels.nodes f.alike.items
  pub start : IsStart t f.labels.nodes f.work

pub record IsTaken (f : Filling) (r : Round) (latest k : ℕ) (f' : Filling) : Type 0 where
  pub labels : f'.labels.labels ≡ with_gains f.labels.labels (gains_at f.labels.nodes r.gains.items)
  pub nodes : f'.labels.nodes ≡ f.labels.nodes
  pub firsts : f'.labels.firsts ≡ f.labels.firsts ++ news f.labels.labels (gains_at f.labels.nodes r.gains.items) k
  pub notes : f'.labels.notes ≡ f.labels.notes + length r.gains.items
  pub few : f.labels.notes < 2 ^ 63 → f'.labels.notes < 2 ^ 63
  pub alike : f'.alike ≡ f.alike
  pub next : IsNext f.labels.nodes f.work r.looks.items latest k f'.work
