-- Cells that agree for all kinds of a system give the same next cell.
use Rattle.std.proofs.Common.{◌≡◌, ℕ, suc, ◌<◌, ◌==◌, true, List, [], ◌∷◌, ◌++◌, map, length, Contains, Result, Ok, Err, IfOk, refl, ap, ◌∙◌}
use Rattle.std.specs.List.{filter, flat_map}
use Rattle.std.proofs.lemmas.List.Elements.{All-contains}
use Rattle.tp_base.proofs.Lists.{map_alike}
use Rattle.class_diagrams.specs.References.{Reference}
use Rattle.class_diagrams.specs.declared.faults.DiagramFault.{DiagramFault}
use Rattle.class_diagrams.specs.Trees.{Tree, leaf, tand}
use Rattle.class_diagrams.specs.Arena.{tree_at, Arena}
use Rattle.diagram_ops.specs.Compositions.{tcompose, inner_results}
use Rattle.diagram_ops.specs.Steps.{Calculates}
use Rattle.simple_core.specs.declared.rules.Local.{Local}
use Rattle.simple_core.specs.declared.rules.Link.{Link}
use Rattle.simple_core.specs.declared.rules.Spawn.{Spawn}
use Rattle.simple_core.specs.declared.system.System.{System}
use Rattle.simple_core.specs.Systems.{IsSound}
use Rattle.pushdown_sym.specs.CellMap.{Entries, trees_in}
use Rattle.pushdown_sym.specs.Rounds.{cell}
use Rattle.pushdown_sym.specs.Laws.{Tells}
use Rattle.pushdown_sym.specs.Terms.{CellTrees, conjunction, conjunctions, local_term, down_term, terms, up_terms, disjunction, disjunctions, next_tree, partial_results}

flat-same : {X Y : Type 0} (g h : X → List Y) (xs : List X) → ((x : X) → g x ≡ h x) → flat_map g xs ≡ flat_map h xs
flat-same g h xs same = λ i. flat_map (λ x. same x i) xs

module _ (s : System) (sound : IsSound s) (now other : CellTrees) (j : ℕ) (kind : j < length s.kinds) (agree : (i b : ℕ) → i < length s.kinds → now i b ≡ other i b) where
  conjunction-same : (x : Tree) (needs : List ℕ) → conjunction now j x needs ≡ conjunction other j x needs
  conjunction-same x [] = refl
  conjunction-same x (b ∷ needs) = ap (λ t. conjunction now j (tand x t) needs) (agree j b kind) ∙ conjunction-same (tand x (other j b)) needs

  conjunctions-same : (x : Tree) (needs : List ℕ) → conjunctions now j x needs ≡ conjunctions other j x needs
  conjunctions-same x [] = refl
  conjunctions-same x (b ∷ needs) = ap (λ t. tand x t ∷ conjunctions now j (tand x t) needs) (agree j b kind) ∙ ap (λ ts. tand x (other j b) ∷ ts) (conjunctions-same (tand x (other j b)) needs)

  local-same : (r : Local) → local_term now j r ≡ local_term other j r
  local-same r = λ i. record { tree = conjunction-same (leaf true) r.needs i; before = conjunctions-same (leaf true) r.needs i }

  down-same : (l : Link) (c : Spawn) → Contains s.child c → down_term now j l c ≡ down_term other j l c
  down-same l c listed =
      let child = agree c.kind l.from (All-contains (λ (c : Spawn). c.kind < length s.kinds) s.child c sound.spawned listed) in
      λ i. record {
        tree = tand (agree j c.needs kind i) (tcompose (child i) (λ b. agree j b kind i));
        before = agree j c.needs kind i ∷ inner_results (child i) (λ b. agree j b kind i);
      }

  pub terms-same : (a : ℕ) → terms s now j a ≡ terms s other j a
  terms-same a = λ i.
      map_alike (local_term now j) (local_term other j) (filter (λ (r : Local). r.gives == a) s.local) (λ r _. local-same r) i
      ++ up_terms s a
      ++ flat-same (λ (l : Link). map (down_term now j l) s.child) (λ (l : Link). map (down_term other j l) s.child) (filter (λ (l : Link). l.to == a) s.down)
      (λ l. map_alike (down_term now j l) (down_term other j l) s.child (down-same l)) i

  pub next_tree-same : (a : ℕ) → next_tree s now j a ≡ next_tree s other j a
  unfolding next_tree
  next_tree-same a = λ i. disjunction (agree j a kind i) (terms-same a i)

  pub partial_results-same : (a : ℕ) → partial_results s now j a ≡ partial_results s other j a
  unfolding partial_results
  partial_results-same a = λ i. agree j a kind i ∷ disjunctions (agree j a kind i) (terms-same a i)

-- what is calculated over the cells of a round is a cell of the next one
pub next_round : (s : System) → IsSound s → (k j a : ℕ) → j < length s.kinds → (old new : Arena) (now : Entries) (results : List Tree) (result : Result Reference DiagramFault)
    → Tells s old.branches now k → Calculates old new results (next_tree s (trees_in old.branches now) j a) result → IfOk result (λ r. tree_at new.branches r ≡ cell s (suc k) j a)
next_round s sound k j a kind old new now results (Ok f) tells made = made.answer.1 ∙ next_tree-same s sound (trees_in old.branches now) (cell s k) j kind (λ i b less. tells i b less) a
next_round s sound k j a kind old new now results (Err e) tells made = tt
