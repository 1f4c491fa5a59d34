-- The premises of a chosen reason: they come, they are needed, and there are nodes for them.
use Rattle.std.proofs.Common.{◌≡◌, ℕ, zero, suc, ◌-◌, ◌<◌, true, List, [], ◌∷◌, ◌++◌, Contains, Some, None, IsSome, option_map, unwrap_or, refl, sym, ap, ◌∙◌, subst, arith}
use Rattle.std.proofs.lemmas.Bool.{and_parts}
use Rattle.std.proofs.lemmas.List.Elements.{All-contains}
use Rattle.tp_base.specs.Classes.{has_class}
use Rattle.tp_base.proofs.ClassLemmas.{Contains-has_class, all_among-All, Contains-cut_to}
use Rattle.tp_base.proofs.Lists.{Contains-at}
use Rattle.tp_base.proofs.Rising.{Contains-none}
use Rattle.tree_sem.specs.Trees.{LabelTree, node_at, length_of, tree_of}
use Rattle.tree_sem.specs.Paths.{parent_of}
use Rattle.tree_sem.proofs.RowLemmas.{there, tree_of-within, child_node_at}
use Rattle.simple_core.specs.declared.rules.Spawn.{Spawn}
use Rattle.simple_core.specs.declared.system.System.{System}
use Rattle.simple_core.specs.Pairs.{Pair, Asked}
use Rattle.simple_core.specs.Labels.{kinds_at, visible_in}
use Rattle.simple_core.specs.Rounds.{grown}
use Rattle.simple_core.specs.Pages.{page_round}
use Rattle.simple_core.proofs.LabelLemmas.{is-kinds_at}
use Rattle.proof_needs.specs.Choices.{Choice, at_start, by_local, by_up, by_real, by_spawn, from_up, from_down, needs_of, spawn_needs, spawn_kind, stands}
use Rattle.proof_maker.specs.Glances.{AsksAt}
use Rattle.proof_maker.specs.Needs.{setting_at, path_at, labels_at, IsChosen, triple_by, Needed, by_entry, IsNeededAbove}
use Rattle.proof_needs.specs.Triples.{Triple, Spot, page_node, added}
use Rattle.proof_maker.specs.Worklist.{IsUserOf, IsComing}
use Rattle.proof_maker.proofs.ChoiceLemmas.{IsWay}
use Rattle.proof_maker.proofs.ValidLemmas.{chosen_stands}

module _ (s : System) (page : LabelTree) where
  -- an atom that is chosen by a rule comes after a round in which all premises stand
  pub record IsLate (spot : Spot) (r : ℕ) (w : Choice) (a : ℕ) : Type 0 where
    pub before : ℕ
    pub round : r ≡ suc before
    pub stand : stands s (setting_at s page spot) before (path_at s page spot) w ≡ true
    pub way : IsWay s (setting_at s page spot) (path_at s page spot) a w

  late : (spot : Spot) (a r : ℕ) (w : Choice) → (at_start ≡ w → ⊥) → IsChosen s page spot a r w → IsLate spot r w a
  late spot a zero w other is = absurd (other is.choice)
  late spot a (suc k) w other is =
      let c = chosen_stands s page spot a k is.first in
      let same : c.0 ≡ w = sym c.1 ∙ is.choice in
      record {
        before = k;
        round = refl;
        stand = subst (λ z. stands s (setting_at s page spot) k (path_at s page spot) z ≡ true) same c.3;
        way = subst (λ z. IsWay s (setting_at s page spot) (path_at s page spot) a z) same c.2;
      }

  pub late_local : (spot : Spot) (a r l : ℕ) → IsChosen s page spot a r (by_local l) → IsLate spot r (by_local l) a
  late_local spot a r l is = late spot a r (by_local l) (λ e. cc) is

  pub late_up : (spot : Spot) (a r l : ℕ) → IsChosen s page spot a r (by_up l) → IsLate spot r (by_up l) a
  late_up spot a r l is = late spot a r (by_up l) (λ e. cc) is

  pub late_real : (spot : Spot) (a r l n : ℕ) → IsChosen s page spot a r (by_real l n) → IsLate spot r (by_real l n) a
  late_real spot a r l n is = late spot a r (by_real l n) (λ e. cc) is

  pub late_spawn : (spot : Spot) (a r l c : ℕ) → IsChosen s page spot a r (by_spawn l c) → IsLate spot r (by_spawn l c) a
  late_spawn spot a r l c is = late spot a r (by_spawn l c) (λ e. cc) is

  module _ (target : ℕ) where
    -- a rule
    pub rule_comes : (spot : Spot) (a r l b : ℕ) → IsChosen s page spot a r (by_local l) → Contains (needs_of s l) b → IsComing s page target spot b
    rule_comes spot a r l b is in' =
        let late' = late_local spot a r l is in
        (late'.before, All-contains (Contains (labels_at s page spot late'.before)) (needs_of s l) b (all_among-All (needs_of s l) (labels_at s page spot late'.before) late'.stand) in')

    -- the parent
    pub record IsParent (v : List ℕ) (l : ℕ) : Type 0 where
      pub path : List ℕ
      pub above : parent_of v ≡ Some path
      pub comes : IsComing s page target (page_node path) (from_up s l)

    pub parent_comes : (v : List ℕ) (a r l : ℕ) → IsChosen s page (page_node v) a r (by_up l) → IsParent v l
    parent_comes v a r l is =
        let late' = late_up (page_node v) a r l is in
        let k = late'.before in
        let has : Contains (unwrap_or (option_map (page_round s page k) (parent_of v)) []) (from_up s l) = Contains-has_class (from_up s l) (unwrap_or (option_map (page_round s page k) (parent_of v)) []) late'.stand in
        elim (parent_of v) as (λ o. parent_of v ≡ o → Contains (unwrap_or (option_map (page_round s page k) o) []) (from_up s l) → IsParent v l) [
          | None ↦ λ e h. absurd (Contains-none (from_up s l) h)
          | Some p ↦ λ e h. record { path = p; above = e; comes = (k, h) }
        ] refl has

    pub up_seen : (t : Triple) (a r l : ℕ) → IsChosen s page (added t) a r (by_up l) → Contains t.parent (from_up s l)
    up_seen t a r l is = Contains-has_class (from_up s l) t.parent (late_up (added t) a r l is).stand

    -- a real child
    pub child_comes : (v : List ℕ) (a r l n : ℕ) → IsChosen s page (page_node v) a r (by_real l n) → IsComing s page target (page_node (v ++ n ∷ [])) (from_down s l)
    child_comes v a r l n is =
        let late' = late_real (page_node v) a r l n is in
        (late'.before, Contains-has_class (from_down s l) (page_round s page late'.before (v ++ n ∷ [])) late'.stand)

    pub child_there : (v : List ℕ) (a r l n : ℕ) → IsChosen s page (page_node v) a r (by_real l n) → IsSome (node_at (v ++ n ∷ []) page)
    child_there v a r l n is =
        let lt = (late_real (page_node v) a r l n is).way.3 in
        elim (node_at v page) as (λ o. node_at v page ≡ o → n < unwrap_or (option_map (λ (x : LabelTree). length_of x.below) o) 0 → IsSome (node_at (v ++ n ∷ []) page)) [
          | None ↦ λ e less. absurd (omega arith)
          | Some x ↦ λ e less. let c = there (tree_of x.below n) (tree_of-within x.below n less) in rw (child_node_at v n page x c.0 e c.1) refl
        ] refl lt

    pub no_real : (t : Triple) (a r l n : ℕ) → IsChosen s page (added t) a r (by_real l n) → ⊥
    no_real t a r l n is = let lt : n < 0 = (late_real (added t) a r l n is).way.3 in omega arith

    -- a child that is added
    pub record IsSpawned (spot : Spot) (r l c : ℕ) : Type 0 where
      pub spawner : IsComing s page target spot (spawn_needs s c)
      pub child : IsComing s page target (added (triple_by s page spot r l c)) (from_down s l)

    pub spawn_comes : (spot : Spot) (a r l c : ℕ) → IsChosen s page spot a r (by_spawn l c) → IsSpawned spot r l c
    spawn_comes spot a r l c is =
        let late' = late_spawn spot a r l c is in
        let k = late'.before in
        let label = labels_at s page spot k in
        let parts = and_parts (has_class (spawn_needs s c) label) (has_class (from_down s l) (grown s k (spawn_kind s c) (visible_in s label))) late'.stand in
        let level : r - 1 ≡ k = omega (arith, late'.round) in
        record {
          spawner = (k, Contains-has_class (spawn_needs s c) label parts.0);
          child = (k, subst (λ m. Contains (grown s k (spawn_kind s c) (visible_in s (labels_at s page spot m))) (from_down s l)) (sym level) (Contains-has_class (from_down s l) (grown s k (spawn_kind s c) (visible_in s label)) parts.1));
        }

    -- a node of the page, or an added node of a known pair
    abbrev pub IsLive : (Pair → Type 0) → Spot → Type 0
    IsLive known (page_node v) = IsSome (node_at v page)
    IsLive known (added t) = known (t.kind, t.parent)

    pub below_known : (known : Pair → Type 0) → ((q : Pair) → Asked s page q → known q) → (spot : Spot) → IsLive known spot → AsksAt s known spot → (a r l c : ℕ) → IsChosen s page spot a r (by_spawn l c)
        → known ((triple_by s page spot r l c).kind, (triple_by s page spot r l c).parent)
    below_known known asked spot live asks a r l c is =
        let late' = late_spawn spot a r l c is in
        let k = late'.before in
        let label = labels_at s page spot k in
        let parts = and_parts (has_class (spawn_needs s c) label) (has_class (from_down s l) (grown s k (spawn_kind s c) (visible_in s label))) late'.stand in
        let level : r - 1 ≡ k = omega (arith, late'.round) in
        let spawn = late'.way.3 in
        let at = late'.way.4 in
        let needs : spawn_needs s c ≡ spawn.needs = ap (λ o. unwrap_or (option_map (λ (x : Spawn). x.needs) o) 0) at in
        let kind : spawn.kind ≡ spawn_kind s c = sym (ap (λ o. unwrap_or (option_map (λ (x : Spawn). x.kind) o) 0) at) in
        let has : Contains label spawn.needs = subst (Contains label) needs (Contains-has_class (spawn_needs s c) label parts.0) in
        let adds : Contains (kinds_at s label) (spawn_kind s c) = is-kinds_at s label (spawn_kind s c) (record { spawn = spawn; listed = Contains-at s.child c spawn at; needs = has; kind = kind }) in
        subst (λ m. known (spawn_kind s c, visible_in s (labels_at s page spot m))) (sym level) (of_spot spot live asks k (spawn_kind s c) adds)
      where
        of_spot : (spot : Spot) → IsLive known spot → AsksAt s known spot → (k j : ℕ) → Contains (kinds_at s (labels_at s page spot k)) j → known (j, visible_in s (labels_at s page spot k))
        of_spot (page_node v) live asks k j adds = asked (j, visible_in s (page_round s page k v)) (v, live, k, (adds, refl))
        of_spot (added t) live asks k j adds = asks (t.kind, t.parent) (j, visible_in s (grown s k t.kind t.parent)) k live (adds, refl)

    -- what an added node needs of its parent comes at each of its users, and is needed there
    pub record IsOwed (spot : Spot) (b : ℕ) : Type 0 where
      pub comes : IsComing s page target spot b
      pub needed : Needed s page target spot b

    pub owed : (spot : Spot) (t : Triple) (b : ℕ) → IsUserOf s page target spot t → IsNeededAbove s page target (added t) b → IsOwed spot b
    owed spot t b (a, r, l, c, need, choice, same) (x, m, k, need', choice', from) =
        let late' = late_spawn spot a r l c choice in
        let level : r - 1 ≡ late'.before = omega (arith, late'.round) in
        let need'' : Needed s page target (added (triple_by s page spot r l c)) x = subst (λ z. Needed s page target (added z) x) (sym same) need' in
        let choice'' : IsChosen s page (added (triple_by s page spot r l c)) x m (by_up k) = subst (λ z. IsChosen s page (added z) x m (by_up k)) (sym same) choice' in
        let seen : Contains (visible_in s (labels_at s page spot (r - 1))) (from_up s k) = up_seen (triple_by s page spot r l c) x m k choice'' in
        let both = (Contains-cut_to s.visible (labels_at s page spot (r - 1)) (from_up s k)).0 seen in
        record {
          comes = (r - 1, subst (Contains (labels_at s page spot (r - 1))) from both.1);
          needed = subst (Needed s page target spot) from (by_entry spot a r l c x m k need choice need'' choice'');
        }
