-- The reason that a proof gives for an atom: the first one whose premises are all there one round before the atom's first round.
--     Setting                the labels of a page's nodes, or of one added node, round by round
--     chosen s set v a r     the reason, where the first round is r
use Rattle.std.specs.Prelude.{ℕ, zero, suc, ◌==◌, ◌&&◌, Bool, false, List, [], ◌∷◌, ◌++◌, map, find, length, option_map, unwrap_or, slice_get}
use Rattle.std.specs.List.{flat_map, range_with_len}
use Rattle.tp_base.specs.Classes.{has_class, all_among}
use Rattle.tree_sem.specs.Trees.{LabelTree, children_at}
use Rattle.tree_sem.specs.Paths.{parent_of}
use Rattle.simple_core.specs.declared.system.System.{System}
use Rattle.simple_core.specs.Labels.{visible_in}
use Rattle.simple_core.specs.Rounds.{grown}
use Rattle.simple_core.specs.Pages.{page_round}
use Rattle.simple_core.specs.Givers.{places_from}

pub record Setting : Type 0 where
  pub label : ℕ → List ℕ → List ℕ  -- the label of a node after so many rounds
  pub above : ℕ → List ℕ → List ℕ  -- that of its parent
  pub reals : List ℕ → ℕ  -- how many children it has in the page

abbrev pub on_page : System → LabelTree → Setting
on_page s page = record {
  label = page_round s page;
  above = λ k v. unwrap_or (option_map (page_round s page k) (parent_of v)) [];
  reals = λ v. unwrap_or (children_at v page) 0;
}

-- a node of the kind j, below a parent with the visible label p. Its path is that of a root
abbrev pub on_added : System → ℕ → List ℕ → Setting
on_added s j p = record { label = λ k v. grown s k j p; above = λ k v. p; reals = λ v. 0 }

-- from the start, or by rules of these numbers: for a `down` link with the number of a real child, or of a spawn rule
pub data Choice : Type 0 where
  at_start : Choice
  by_local : ℕ → Choice
  by_up : ℕ → Choice
  by_real : (link child : ℕ) → Choice
  by_spawn : (link spawn : ℕ) → Choice

module _ (s : System) where
  abbrev pub from_up : ℕ → ℕ
  from_up l = unwrap_or (option_map (λ r. r.from) (slice_get s.up l)) 0

  abbrev pub from_down : ℕ → ℕ
  from_down l = unwrap_or (option_map (λ r. r.from) (slice_get s.down l)) 0

  abbrev pub needs_of : ℕ → List ℕ
  needs_of l = unwrap_or (option_map (λ r. r.needs) (slice_get s.local l)) []

  abbrev pub spawn_needs : ℕ → ℕ
  spawn_needs c = unwrap_or (option_map (λ r. r.needs) (slice_get s.child c)) 0

  abbrev pub spawn_kind : ℕ → ℕ
  spawn_kind c = unwrap_or (option_map (λ r. r.kind) (slice_get s.child c)) 0

  module _ (set : Setting) where
    -- the reasons that give the atom at v, in their order
    abbrev pub ways_down : List ℕ → ℕ → List Choice
    ways_down v l = map (by_real l) (range_with_len 0 (set.reals v)) ++ map (by_spawn l) (range_with_len 0 (length s.child))

    abbrev pub ways : List ℕ → ℕ → List Choice
    ways v a = map by_local (places_from (λ r. r.gives == a) 0 s.local) ++ map by_up (places_from (λ l. l.to == a) 0 s.up)
        ++ flat_map (ways_down v) (places_from (λ l. l.to == a) 0 s.down)

    -- all premises stand in the round k
    abbrev pub stands : ℕ → List ℕ → Choice → Bool
    stands k v at_start = false
    stands k v (by_local l) = all_among (needs_of l) (set.label k v)
    stands k v (by_up l) = has_class (from_up l) (set.above k v)
    stands k v (by_real l n) = has_class (from_down l) (set.label k (v ++ n ∷ []))
    stands k v (by_spawn l c) = has_class (spawn_needs c) (set.label k v) && has_class (from_down l) (grown s k (spawn_kind c) (visible_in s (set.label k v)))

    abbrev pub chosen : List ℕ → ℕ → ℕ → Choice
    chosen v a zero = at_start
    chosen v a (suc k) = unwrap_or (find (stands k v) (ways v a)) at_start
