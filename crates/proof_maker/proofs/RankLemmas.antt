-- First rounds fall from a triple to those that its node's atoms name.
use Rattle.std.proofs.Common.{◌≡◌, ℕ, zero, suc, ◌-◌, ◌<◌, ◌≤◌, true, Contains, Some, refl, sym, ap, ◌∙◌, subst, arith}
use Rattle.std.proofs.lemmas.Bool.{and_parts}
use Rattle.std.proofs.lemmas.List.Elements.{All-contains}
use Rattle.tp_base.specs.Classes.{has_class}
use Rattle.tp_base.proofs.ClassLemmas.{Contains-has_class, all_among-All, Contains-cut_to}
use Rattle.tree_sem.specs.Trees.{LabelTree}
use Rattle.simple_core.specs.declared.system.System.{System}
use Rattle.simple_core.specs.Labels.{visible_in}
use Rattle.simple_core.specs.Rounds.{grown, IsFirst}
use Rattle.proof_needs.specs.Choices.{Choice, at_start, by_local, by_up, by_spawn, from_up, from_down, needs_of, spawn_needs, spawn_kind, stands}
use Rattle.proof_maker.specs.Needs.{setting_at, path_at, labels_at, IsChosen, triple_by, Needed, goal, top, by_rule, by_parent, by_child, by_spawner, by_entry}
use Rattle.proof_needs.specs.Triples.{Triple, Spot, page_node, added}
use Rattle.proof_maker.proofs.ValidLemmas.{first_one, first_by, chosen_stands}

module _ (s : System) (page : LabelTree) where
  -- the premises of a chosen reason stand in the round before
  chosen_premises : (spot : Spot) (a k : ℕ) (w : Choice) → IsChosen s page spot a (suc k) w → stands s (setting_at s page spot) k (path_at s page spot) w ≡ true
  chosen_premises spot a k w choice =
      let c = chosen_stands s page spot a k choice.first in
      let same : w ≡ c.0 = sym choice.choice ∙ c.1 in
      ap (stands s (setting_at s page spot) k (path_at s page spot)) same ∙ c.3

  local_before : (spot : Spot) (a k l b : ℕ) → IsChosen s page spot a (suc k) (by_local l) → Contains (needs_of s l) b → Contains (labels_at s page spot k) b
  local_before spot a k l b choice is =
      All-contains (Contains (labels_at s page spot k)) (needs_of s l) b (all_among-All (needs_of s l) (labels_at s page spot k) (chosen_premises spot a k (by_local l) choice)) is

  spawn_before : (spot : Spot) (a k l c : ℕ) → IsChosen s page spot a (suc k) (by_spawn l c)
      → Contains (labels_at s page spot k) (spawn_needs s c) × Contains (grown s k (spawn_kind s c) (visible_in s (labels_at s page spot k))) (from_down s l)
  spawn_before spot a k l c choice =
      let below = grown s k (spawn_kind s c) (visible_in s (labels_at s page spot k)) in
      let parts = and_parts (has_class (spawn_needs s c) (labels_at s page spot k)) (has_class (from_down s l) below) (chosen_premises spot a k (by_spawn l c) choice) in
      (Contains-has_class (spawn_needs s c) (labels_at s page spot k) parts.0, Contains-has_class (from_down s l) below parts.1)

  -- what a child needs of its parent is there in the round in which the child is looked at
  entry_before : (spot : Spot) (a k l c b m j : ℕ) → IsChosen s page spot a (suc k) (by_spawn l c) → IsChosen s page (added (triple_by s page spot (suc k) l c)) b m (by_up j) → Contains (labels_at s page spot k) (from_up s j)
  entry_before spot a k l c b zero j choice up = let never : at_start ≡ by_up j = up.choice in cc
  entry_before spot a k l c b (suc m) j choice up =
      let t = triple_by s page spot (suc k) l c in
      let seen : Contains (visible_in s (labels_at s page spot (suc k - 1))) (from_up s j) = Contains-has_class (from_up s j) t.parent (chosen_premises (added t) b m (by_up j) up) in
      let level : suc k - 1 ≡ k = omega arith in
      ((Contains-cut_to s.visible (labels_at s page spot k) (from_up s j)).0 (subst (λ n. Contains (visible_in s (labels_at s page spot n)) (from_up s j)) level seen)).1

  -- at a triple's node the atom comes no later than the triple's own
  abbrev IsEarly : Spot → ℕ → Type 0
  IsEarly (page_node v) a = Unit {0}
  IsEarly (added t) a = (m r : ℕ) → IsFirst (labels_at s page (added t)) t.atom (Some m) → IsFirst (labels_at s page (added t)) a (Some r) → r ≤ m

  earlier : (spot : Spot) (a r b : ℕ) (w : Choice) → IsEarly spot a → IsChosen s page spot a r w → (at_start ≡ w → ⊥) → ((k : ℕ) → r ≡ suc k → Contains (labels_at s page spot k) b) → IsEarly spot b
  earlier (page_node v) a r b w early choice other has = tt
  earlier (added t) a zero b w early choice other has = absurd (other choice.choice)
  earlier (added t) a (suc k) b w early choice other has = λ m r x y.
      let le = first_by (labels_at s page (added t)) b r k y (has k refl) in
      let own = early m (suc k) x choice.first in
      omega arith

  module _ (target : ℕ) where
    needed_early : (spot : Spot) (a : ℕ) → Needed s page target spot a → IsEarly spot a
    needed_early spot a goal = tt
    needed_early spot a (top t) = λ m r x y. let same = first_one (labels_at s page (added t)) t.atom m r x y in omega arith
    needed_early spot a (by_rule p x r l b need choice is) =
        earlier p x r b (by_local l) (needed_early p x need) choice (λ e. cc) (λ k same. local_before p x k l b (subst (λ n. IsChosen s page p x n (by_local l)) same choice) is)
    needed_early spot a (by_parent v p x r l need choice above) = tt
    needed_early spot a (by_child v x r l n need choice) = tt
    needed_early spot a (by_spawner p x r l c need choice) =
        earlier p x r (spawn_needs s c) (by_spawn l c) (needed_early p x need) choice (λ e. cc) (λ k same. (spawn_before p x k l c (subst (λ n. IsChosen s page p x n (by_spawn l c)) same choice)).0)
    needed_early spot a (by_entry p x r l c b m j need choice need' up) =
        earlier p x r (from_up s j) (by_spawn l c) (needed_early p x need) choice (λ e. cc) (λ k same.
        entry_before p x k l c b m j (subst (λ n. IsChosen s page p x n (by_spawn l c)) same choice) (subst (λ n. IsChosen s page (added (triple_by s page p n l c)) b m (by_up j)) same up))

    -- the atom of a child comes before the atom that it gives
    child_earlier : (spot : Spot) (a r l c n : ℕ) → IsChosen s page spot a r (by_spawn l c) → IsFirst (labels_at s page (added (triple_by s page spot r l c))) (from_down s l) (Some n) → n < r
    child_earlier spot a zero l c n choice first = let never : at_start ≡ by_spawn l c = choice.choice in cc
    child_earlier spot a (suc k) l c n choice first =
        let level : suc k - 1 ≡ k = omega arith in
        let there : Contains (grown s k (spawn_kind s c) (visible_in s (labels_at s page spot (suc k - 1)))) (from_down s l) =
        subst (λ m. Contains (grown s k (spawn_kind s c) (visible_in s (labels_at s page spot m))) (from_down s l)) (sym level) (spawn_before spot a k l c choice).1 in
        let le = first_by (labels_at s page (added (triple_by s page spot (suc k) l c))) (from_down s l) n k first there in
        omega arith

    -- a triple that an atom at a triple's node names has an atom that comes before the triple's own
    pub falls : (t : Triple) (a r l c m n : ℕ) → Needed s page target (added t) a → IsChosen s page (added t) a r (by_spawn l c) → IsFirst (labels_at s page (added t)) t.atom (Some m)
        → IsFirst (labels_at s page (added (triple_by s page (added t) r l c))) (from_down s l) (Some n) → n < m
    falls t a r l c m n need choice own child =
        let le = needed_early (added t) a need m r own choice.first in
        let lt = child_earlier (added t) a r l c n choice child in
        omega arith
