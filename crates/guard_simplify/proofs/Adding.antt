-- Where a guard holds, steps give its atom: the rules of its formulas, from the inside out.
use Rattle.std.proofs.Common.{◌≡◌, ℕ, ◌<◌, List, [], ◌∷◌, ◌++◌, length, take, drop, map, Some, None, option_map, IsSomeAnd, All, Contains, sym, ◌∙◌, subst, inl, inr, arith, append-nil, append_assoc}
use Rattle.std.proofs.lemmas.List.{take-append-drop}
use Rattle.std.proofs.lemmas.List.{length-drop}
use Rattle.std.proofs.lemmas.List.Elements.{All-contains}
use Rattle.tp_base.proofs.ClassLemmas.{Contains-union_of}
use Rattle.tp_base.proofs.Rising.{Contains-none, All-from_Contains}
use Rattle.tree_sem.specs.Trees.{LabelTree, node_at}
use Rattle.simple_core.specs.declared.rules.Local.{Local}
use Rattle.simple_core.specs.declared.rules.Link.{Link}
use Rattle.simple_core.specs.declared.system.System.{System}
use Rattle.simple_core.specs.Labels.{set_of}
use Rattle.guard_sem.specs.Guards.{Guard, always, atom, all, any, parent, ancestor, child, descendant, somewhere, Guards, no_guards, guard, parts}
use Rattle.guard_sem.specs.Holding.{Holds, HoldAll, HoldsOne}
use Rattle.guard_sem.proofs.SelectorLemmas.{HasAtoms-more}
use Rattle.simple_core.specs.Reached.{IsLater, Got}
use Rattle.simple_core.proofs.Steps.{later_itself, later_both, got_already, then_got, got_by_local, got_by_up, got_by_down}
use Rattle.tree_sem.specs.Nodes.{IsNode, HasAtom, HasAtoms}
use Rattle.tree_sem.proofs.NodeLemmas.{HasAtom-node, IsNode-front, HasAtoms-none}
use Rattle.tree_sem.proofs.GrowthLemmas.{IsNode-grows, HasAtom-grows}
use Rattle.guard_sem.proofs.HoldingLemmas.{HoldAll-grows}

abbrev pub rule_of : List ℕ → ℕ → Local
rule_of needs x = record { needs = needs; gives = x; stmt = None }

abbrev pub link_of : ℕ → ℕ → Link
link_of y x = record { from = y; to = x }

-- the rules of a guard's formulas are in the system, where `at` gives the atoms of formulas
module _ (s : System) (at : Guard → ℕ) where
  abbrev mutual
    pub Served : Guard → Type 0
    Served always = Contains s.local (rule_of [] (at always))
    Served (atom a) = at (atom a) ≡ a
    Served (all gs) = Contains s.local (rule_of (set_of (map at (parts gs))) (at (all gs))) × ServedAll gs
    Served (any gs) = ServedOne (at (any gs)) gs
    Served (parent g) = Contains s.up (link_of (at g) (at (parent g))) × Served g
    Served (ancestor g) = Contains s.up (link_of (at g) (at (ancestor g))) × Contains s.up (link_of (at (ancestor g)) (at (ancestor g))) × Served g
    Served (child g) = Contains s.down (link_of (at g) (at (child g))) × Served g
    Served (descendant g) = Contains s.down (link_of (at g) (at (descendant g))) × Contains s.down (link_of (at (descendant g)) (at (descendant g))) × Served g
    Served (somewhere g) =
        Contains s.local (rule_of (at g ∷ []) (at (somewhere g))) × Contains s.up (link_of (at (somewhere g)) (at (somewhere g)))
        × Contains s.down (link_of (at (somewhere g)) (at (somewhere g))) × Served g

    pub ServedAll : Guards → Type 0
    ServedAll no_guards = Unit {0}
    ServedAll (guard g gs) = Served g × ServedAll gs

    pub ServedOne : ℕ → Guards → Type 0
    ServedOne x no_guards = Unit {0}
    ServedOne x (guard g gs) = Contains s.local (rule_of (at g ∷ []) x) × Served g × ServedOne x gs

  -- x goes from a node to those below it
  up_along : (x : ℕ) → Contains s.up (link_of x x) → (q p : List ℕ) (u : LabelTree) → IsNode u (p ++ q) → HasAtom u p x → Got s u (p ++ q) x
  up_along x listed [] p u is has = rw (append-nil p) (got_already s u p x has)
  up_along x listed (k ∷ q) p u is has =
      let path : (p ++ k ∷ []) ++ q ≡ p ++ k ∷ q = append_assoc p (k ∷ []) q in
      let is' : IsNode u ((p ++ k ∷ []) ++ q) = rw path is in
      let first = got_by_up s (link_of x x) listed u p k (IsNode-front u (p ++ k ∷ []) q is') has in
      let rest = up_along x listed q (p ++ k ∷ []) first.after (IsNode-grows u first.after first.later.grows ((p ++ k ∷ []) ++ q) is') first.has in
      rw path at (then_got s u first.after ((p ++ k ∷ []) ++ q) x first.later rest)

  -- y at a node above v, and x along the way
  up_from : (y x : ℕ) → Contains s.up (link_of y x) → Contains s.up (link_of x x) → (u : LabelTree) (p q v : List ℕ) → p ++ q ≡ v → 0 < length q → IsNode u v → HasAtom u p y → Got s u v x
  up_from y x to on u p [] v path some is has = absurd (omega arith)
  up_from y x to on u p (k ∷ q) v path some is has =
      let steps : (p ++ k ∷ []) ++ q ≡ v = append_assoc p (k ∷ []) q ∙ path in
      let is' : IsNode u ((p ++ k ∷ []) ++ q) = rw steps is in
      let here = got_by_up s (link_of y x) to u p k (IsNode-front u (p ++ k ∷ []) q is') has in
      let rest = up_along x on q (p ++ k ∷ []) here.after (IsNode-grows u here.after here.later.grows ((p ++ k ∷ []) ++ q) is') here.has in
      subst (λ z. Got s u z x) steps (then_got s u here.after ((p ++ k ∷ []) ++ q) x here.later rest)

  -- x goes from a node to those above it
  pub down_along : (x : ℕ) → Contains s.down (link_of x x) → (q v : List ℕ) (u : LabelTree) → HasAtom u (v ++ q) x → Got s u v x
  down_along x listed [] v u has = got_already s u v x (rw (append-nil v) at has)
  down_along x listed (k ∷ q) v u has =
      let path : (v ++ k ∷ []) ++ q ≡ v ++ k ∷ q = append_assoc v (k ∷ []) q in
      let first = down_along x listed q (v ++ k ∷ []) u (rw path has) in
      let is = IsNode-front first.after v (k ∷ []) (HasAtom-node first.after (v ++ k ∷ []) x first.has) in
      then_got s u first.after v x first.later (got_by_down s (link_of x x) listed first.after v k is first.has)

  -- y at a node below v, and x along the way
  down_from : (y x : ℕ) → Contains s.down (link_of y x) → Contains s.down (link_of x x) → (q : List ℕ) (k : ℕ) (v : List ℕ) (u : LabelTree) → HasAtom u (v ++ k ∷ q) y → Got s u v x
  down_from y x to on [] k v u has = got_by_down s (link_of y x) to u v k (IsNode-front u v (k ∷ []) (HasAtom-node u (v ++ k ∷ []) y has)) has
  down_from y x to on (l ∷ q) k v u has =
      let path : (v ++ k ∷ []) ++ l ∷ q ≡ v ++ k ∷ l ∷ q = append_assoc v (k ∷ []) (l ∷ q) in
      let first = down_from y x to on q l (v ++ k ∷ []) u (rw path has) in
      let is = IsNode-front first.after v (k ∷ []) (HasAtom-node first.after (v ++ k ∷ []) x first.has) in
      then_got s u first.after v x first.later (got_by_down s (link_of x x) on first.after v k is first.has)

  pub one_need : (u : LabelTree) (v : List ℕ) (y : ℕ) → HasAtom u v y → HasAtoms u v (y ∷ [])
  one_need u v y has = HasAtoms-more u v y [] has (HasAtoms-none u v (HasAtom-node u v y has))

  HasAtoms-set_of : (u : LabelTree) (v xs : List ℕ) → HasAtoms u v xs → HasAtoms u v (set_of xs)
  HasAtoms-set_of u v xs fits = elim (node_at v u) as (λ o. IsSomeAnd (option_map (λ (n : LabelTree). n.label) o) (λ l. All (Contains l) xs) → IsSomeAnd (option_map (λ (n : LabelTree). n.label) o) (λ l. All (Contains l) (set_of xs))) [
    | None ↦ λ fits. absurd fits
    | Some n ↦ λ fits. All-from_Contains (Contains n.label) (set_of xs) (λ x in_set. elim ((Contains-union_of [] xs x).0 in_set) [
      | inl none ↦ absurd (Contains-none x none)
      | inr listed ↦ All-contains (Contains n.label) xs x fits listed
    ])
  ] fits

  -- a later tree whose node at v has all these atoms
  record GotAll (u : LabelTree) (v : List ℕ) (xs : List ℕ) : Type 0 where
    after : LabelTree
    later : IsLater s u after
    fits : HasAtoms after v xs

  mutual
    pub add : (g : Guard) → Served g → (u : LabelTree) (v : List ℕ) → Holds u v g → Got s u v (at g)
    add always served u v h = got_by_local s (rule_of [] (at always)) served u v (HasAtoms-none u v h)
    add (atom a) served u v h = got_already s u v (at (atom a)) (rw served h)
    add (all gs) served u v h =
        let parts' = add_all gs served.1 u v h.0 h.1 in
        then_got s u parts'.after v (at (all gs)) parts'.later
        (got_by_local s (rule_of (set_of (map at (parts gs))) (at (all gs))) served.0 parts'.after v (HasAtoms-set_of parts'.after v (map at (parts gs)) parts'.fits))
    add (any gs) served u v h = add_one (at (any gs)) gs served u v h
    add (parent g) served u v h =
        let p = h.2 in
        let first = add g served.1 u p h.4 in
        let is : IsNode u (p ++ h.1 ∷ []) = rw h.3 at h.0 in
        let here = got_by_up s (link_of (at g) (at (parent g))) served.0 first.after p h.1 (IsNode-grows u first.after first.later.grows (p ++ h.1 ∷ []) is) first.has in
        subst (λ z. Got s u z (at (parent g))) (sym h.3) (then_got s u first.after (p ++ h.1 ∷ []) (at (parent g)) first.later here)
    add (ancestor g) served u v h =
        let first = add g served.2 u (take h.1 v) h.3 in
        let long = length-drop h.1 v in
        then_got s u first.after v (at (ancestor g)) first.later
        (up_from (at g) (at (ancestor g)) served.0 served.1 first.after (take h.1 v) (drop h.1 v) v (take-append-drop h.1 v) (omega (arith, long, h.2)) (IsNode-grows u first.after first.later.grows v h.0) first.has)
    add (child g) served u v h =
        let first = add g served.1 u (v ++ h.0 ∷ []) h.1 in
        let is = IsNode-front first.after v (h.0 ∷ []) (HasAtom-node first.after (v ++ h.0 ∷ []) (at g) first.has) in
        then_got s u first.after v (at (child g)) first.later (got_by_down s (link_of (at g) (at (child g))) served.0 first.after v h.0 is first.has)
    add (descendant g) served u v h =
        let first = add g served.2 u (v ++ h.0 ∷ h.1) h.2 in
        then_got s u first.after v (at (descendant g)) first.later (down_from (at g) (at (descendant g)) served.0 served.1 h.1 h.0 v first.after first.has)
    add (somewhere g) served u v h =
        let x = at (somewhere g) in
        let first = add g served.3 u h.1 h.2 in
        let there = then_got s u first.after h.1 x first.later (got_by_local s (rule_of (at g ∷ []) x) served.0 first.after h.1 (one_need first.after h.1 (at g) first.has)) in
        let root = then_got s u there.after [] x there.later (down_along x served.2 h.1 [] there.after there.has) in
        then_got s u root.after v x root.later (up_along x served.1 v [] root.after (IsNode-grows u root.after root.later.grows v h.0) root.has)

    add_all : (gs : Guards) → ServedAll gs → (u : LabelTree) (v : List ℕ) → IsNode u v → HoldAll u v gs → GotAll u v (map at (parts gs))
    add_all no_guards served u v is h = record { after = u; later = later_itself s u; fits = HasAtoms-none u v is }
    add_all (guard g gs) served u v is h =
        let first = add g served.0 u v h.0 in
        let grows = first.later.grows in
        let rest = add_all gs served.1 first.after v (IsNode-grows u first.after grows v is) (HoldAll-grows u first.after grows gs v is h.1) in
        record {
          after = rest.after;
          later = later_both s u first.after rest.after first.later rest.later;
          fits = HasAtoms-more rest.after v (at g) (map at (parts gs)) (HasAtom-grows first.after rest.after rest.later.grows v (at g) first.has) rest.fits;
        }

    add_one : (x : ℕ) (gs : Guards) → ServedOne x gs → (u : LabelTree) (v : List ℕ) → HoldsOne u v gs → Got s u v x
    add_one x no_guards served u v h = absurd h
    add_one x (guard g gs) served u v h = elim h [
      | inl one ↦
          let first = add g served.1 u v one in
          then_got s u first.after v x first.later (got_by_local s (rule_of (at g ∷ []) x) served.0 first.after v (one_need first.after v (at g) first.has))
      | inr other ↦ add_one x gs served.2 u v other
    ]
