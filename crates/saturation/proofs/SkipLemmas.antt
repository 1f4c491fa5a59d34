-- A cell none of whose reads changed need not be calculated.
use Rattle.std.proofs.Common.{◌≡◌, ℕ, suc, ◌<◌, length, Bool, true, false, ◌&&◌, ◌||◌, ◌==◌, List, Contains, refl, sym, ap, ◌∙◌, inl, inr}
use Rattle.std.specs.List.{list_any, list_all}
use Rattle.std.proofs.lemmas.Bool.{eqb-true, or_left, both_ways, false_from_ne_true}
use Rattle.std.proofs.lemmas.List.Elements.{All-contains}
use Rattle.tp_base.proofs.Truths.{or_again}
use Rattle.class_diagrams.specs.Trees.{leaf, eval, IsOrdered, Implies}
use Rattle.class_diagrams.proofs.TreeLemmas.{cases_tree, same_where_agree}
use Rattle.diagram_ops.specs.Compositions.{tcompose}
use Rattle.diagram_ops.proofs.CompositionLemmas.{AllAtoms, AllAtoms-further, tcompose-same}
use Rattle.simple_core.specs.declared.rules.Link.{Link}
use Rattle.simple_core.specs.declared.rules.Spawn.{Spawn}
use Rattle.simple_core.specs.declared.system.System.{System}
use Rattle.simple_core.specs.Systems.{IsSound}
use Rattle.pushdown_sym.specs.Terms.{CellTrees, next_tree}
use Rattle.pushdown_sym.specs.Rounds.{cell}
use Rattle.pushdown_sym.proofs.Tests.{any_same, all_same}
use Rattle.pushdown_sym.proofs.TermLemmas.{eval-next_tree, by_local_rules, by_up_links, by_down_links}
use Rattle.pushdown_sym.proofs.CellLemmas.{IsOrdered-cell, IsOrdered-next_tree, visible-cell}
use Rattle.saturation.specs.Reads.{IsRead, by_rule, by_own, by_child, IsStillFor}

-- a rule for another atom does not matter
same_where : (b : Bool) (v w : Bool) → (b ≡ true → v ≡ w) → (b && v) ≡ (b && w)
same_where true v w same = same refl
same_where false v w same = refl

and_false : (b : Bool) → (b && false) ≡ false
and_false true = refl
and_false false = refl

module _ (s : System) (before now : CellTrees) (j a : ℕ) (same : IsStillFor s before now j a)
    (visible : (i b : ℕ) → AllAtoms (Contains s.visible) (before i b)) where
  local_same : (p : List ℕ) → by_local_rules s now j a p ≡ by_local_rules s before j a p
  local_same p =
      any_same (λ r. (r.gives == a) && list_all (λ b. eval (now j b) p) r.needs) (λ r. (r.gives == a) && list_all (λ b. eval (before j b) p) r.needs) s.local
      (λ r listed. same_where (r.gives == a) (list_all (λ b. eval (now j b) p) r.needs) (list_all (λ b. eval (before j b) p) r.needs)
      (λ gives. all_same (λ b. eval (now j b) p) (λ b. eval (before j b) p) r.needs
      (λ b in_needs. ap (λ t. eval t p) (same.needs r listed (eqb-true r.gives a gives) b in_needs))))

  child_same : (p : List ℕ) (l : Link) → Contains s.down l → l.to ≡ a → (c : Spawn) → Contains s.child c
      → (eval (now j c.needs) p && eval (tcompose (now c.kind l.from) (now j)) p) ≡ (eval (before j c.needs) p && eval (tcompose (before c.kind l.from) (before j)) p)
  child_same p l listed to c in_child =
      elim (same.children l listed to c in_child) [
        | inl none ↦ rw (none.0, none.1) refl
        | inr (inl none) ↦ rw (none.0, none.1) (and_false (eval (now j c.needs) p) ∙ sym (and_false (eval (before j c.needs) p)))
        | inr (inr child) ↦
            let composed : tcompose (before c.kind l.from) (now j) ≡ tcompose (before c.kind l.from) (before j) =
            tcompose-same (before c.kind l.from) (now j) (before j) (AllAtoms-further (Contains s.visible) (λ b. now j b ≡ before j b) (before c.kind l.from) child.2 (visible c.kind l.from)) in
            rw (child.0, child.1, composed) refl
      ]

  down_same : (p : List ℕ) → by_down_links s now j a p ≡ by_down_links s before j a p
  down_same p =
      any_same (λ l. (l.to == a) && list_any (λ c. eval (now j c.needs) p && eval (tcompose (now c.kind l.from) (now j)) p) s.child)
      (λ l. (l.to == a) && list_any (λ c. eval (before j c.needs) p && eval (tcompose (before c.kind l.from) (before j)) p) s.child) s.down
      (λ l listed. same_where (l.to == a) _ _
      (λ to. any_same (λ c. eval (now j c.needs) p && eval (tcompose (now c.kind l.from) (now j)) p)
      (λ c. eval (before j c.needs) p && eval (tcompose (before c.kind l.from) (before j)) p) s.child
      (child_same p l listed (eqb-true l.to a to))))

  -- so where the cell is that of the round behind `before`, the next round changes nothing
  unchanged : ((i b : ℕ) → IsOrdered (now i b)) → now j a ≡ next_tree s before j a → next_tree s now j a ≡ now j a
  unchanged ordered at =
      same_where_agree (next_tree s now j a) (now j a) (IsOrdered-next_tree s now j a ordered) (ordered j a) (λ p rises.
      eval-next_tree s now j a p
      ∙ (λ i. eval (at i) p || (local_same p i || by_up_links s now j a p || down_same p i))
      ∙ ap (λ b. b || (by_local_rules s before j a p || by_up_links s now j a p || by_down_links s before j a p)) (eval-next_tree s before j a p)
      ∙ or_again (eval (before j a) p) (by_local_rules s before j a p || by_up_links s now j a p || by_down_links s before j a p)
      ∙ sym (eval-next_tree s before j a p)
      ∙ ap (λ t. eval t p) (sym at))

-- ### cells grow

pub cell-grows : (s : System) (k j a : ℕ) → Implies (cell s k j a) (cell s (suc k) j a)
cell-grows s k j a p holds =
    eval-next_tree s (cell s k) j a p
    ∙ or_left (eval (cell s k j a) p) (by_local_rules s (cell s k) j a p || by_up_links s (cell s k) j a p || by_down_links s (cell s k) j a p) holds

-- what holds nowhere never did
pub was_false : (s : System) (k j a : ℕ) → cell s (suc k) j a ≡ leaf false → cell s k j a ≡ leaf false
was_false s k j a none =
    same_where_agree (cell s k j a) (leaf false) (IsOrdered-cell s k j a) tt (λ p rises.
    false_from_ne_true (eval (cell s k j a) p) (λ holds.
    both_ways (eval (cell s (suc k) j a) p) (ap (λ t. eval t p) none) (cell-grows s k j a p holds)))

pub unchanged_reads : (s : System) → IsSound s → (before now : CellTrees) (j a : ℕ) → j < length s.kinds
    → ((i b : ℕ) → now i b ≡ leaf false → before i b ≡ leaf false)
    → ((i b : ℕ) → i < length s.kinds → IsRead s now i b j a → now i b ≡ before i b) → IsStillFor s before now j a
unchanged_reads s sound before now j a kind was same = record {
  needs = λ r listed gives b there. same j b kind (by_rule r listed gives there refl);
  children = λ l listed to c in_child. elim (cases_tree (now j c.needs) (leaf false)) [
    | inl none ↦ inl (none, was j c.needs none)
    | inr maker ↦ elim (cases_tree (now c.kind l.from) (leaf false)) [
      | inl none ↦ inr (inl (none, was c.kind l.from none))
      | inr child ↦ inr (inr (
        same j c.needs kind (by_own l listed to c in_child maker child (inl refl) refl),
        same c.kind l.from (All-contains (λ (c : Spawn). c.kind < length s.kinds) s.child c sound.spawned in_child) (by_child l listed to c in_child refl refl maker),
        λ b visible. same j b kind (by_own l listed to c in_child maker child (inr visible) refl),
      ))
    ]
  ];
}

-- a cell that is skipped is the definition's cell of the next round
pub skipped : (s : System) → IsSound s → (k j a : ℕ) → j < length s.kinds
    → ((i b : ℕ) → i < length s.kinds → IsRead s (cell s (suc k)) i b j a → cell s (suc k) i b ≡ cell s k i b)
    → cell s (suc (suc k)) j a ≡ cell s (suc k) j a
skipped s sound k j a kind same =
    unchanged s (cell s k) (cell s (suc k)) j a (unchanged_reads s sound (cell s k) (cell s (suc k)) j a kind (was_false s k) same) (visible-cell s sound k) (IsOrdered-cell s (suc k)) refl
