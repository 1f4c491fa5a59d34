-- One cell more of the next round.
use Rattle.std.proofs.Common.{◌≡◌, ◌≢◌, ℕ, suc, ◌<◌, List, [], ◌∷◌, ◌++◌, length, All, Contains, Result, Ok, Err, IsErrAnd, refl, sym, subst, ◌∙◌, inl, inr}
use Rattle.std.proofs.lemmas.List.Elements.{All-append, Contains-append_left, Contains-append_right}
use Rattle.tp_base.proofs.Rising.{Contains-here}
use Rattle.class_diagrams.specs.References.{Reference}
use Rattle.class_diagrams.specs.declared.faults.DiagramFault.{DiagramFault}
use Rattle.class_diagrams.specs.declared.faults.DiagramFault.TheVariants.{Full, Memory}
use Rattle.class_diagrams.specs.Trees.{Tree}
use Rattle.class_diagrams.specs.Arena.{tree_at, IsIn, Arena}
use Rattle.class_diagrams.proofs.ArenaLemmas.{tree_at-further, IsIn-further}
use Rattle.diagram_ops.specs.Steps.{held_with_all, Brings}
use Rattle.diagram_ops.proofs.HeldLemmas.{AreCovered}
use Rattle.diagram_ops.proofs.StepLemmas.{brings_then}
use Rattle.simple_core.specs.declared.system.System.{System}
use Rattle.simple_core.specs.Systems.{IsSound}
use Rattle.pushdown_sym.specs.CellMap.{Entries, place_in, trees_in}
use Rattle.pushdown_sym.specs.Terms.{next_tree, partial_results}
use Rattle.pushdown_sym.specs.Rounds.{cell, given_atoms, of_each_cell}
use Rattle.saturation.specs.Waking.{CellName}
use Rattle.pushdown_sym.specs.Laws.{Tells}
use Rattle.saturation.specs.Saturation.{AreChanges, IsStep}
use Rattle.pushdown_sym.proofs.SameLemmas.{next_tree-same, partial_results-same}
use Rattle.saturation.proofs.BudgetLemmas.{covered_cell}
use Rattle.saturation.proofs.NoteLemmas.{last_cases}
use Rattle.saturation.proofs.LoopLemmas.{all_one}

module _ (s : System) (k : ℕ) (first d : Arena) (now : Entries) (name : CellName) (done : List CellName) (changes : List (CellName × Reference))
    (kind : name.0 < length s.kinds) (sound : IsSound s) (given : Contains (given_atoms s) name.1) (tells : Tells s d.branches now k) (was : AreChanges s k first d done changes) where
  same_results : partial_results s (trees_in d.branches now) name.0 name.1 ≡ partial_results s (cell s k) name.0 name.1
  same_results = partial_results-same s sound (trees_in d.branches now) (cell s k) name.0 kind (λ i b less. tells i b less) name.1

  pub step_failed : (end : Arena) (r : Result (Unit {0}) DiagramFault) (e : DiagramFault) → IsErrAnd r (λ y. y ≡ e)
      → (e ≡ Full → d.limit < length (held_with_all d.branches (partial_results s (trees_in d.branches now) name.0 name.1))) → IsStep s k first end (done ++ name ∷ []) changes r
  step_failed end (Ok u) e is full = absurd is
  step_failed end (Err Memory) e is full = tt
  step_failed end (Err Full) e is full = record {
    kind = name.0;
    atom = name.1;
    at = d;
    kind_below = kind;
    given = given;
    brings = was.brings;
    full = subst (λ (ts : List Tree). d.limit < length (held_with_all d.branches ts)) same_results (full (sym is));
  }

  module _ (new : Arena) (f : Reference) (inside : IsIn new.branches f) (tree : tree_at new.branches f ≡ next_tree s (trees_in d.branches now) name.0 name.1)
      (brings : Brings d new (partial_results s (trees_in d.branches now) name.0 name.1)) where
    is : tree_at new.branches f ≡ cell s (suc k) name.0 name.1
    is = tree ∙ next_tree-same s sound (trees_in d.branches now) (cell s k) name.0 kind (λ i b less. tells i b less) name.1

    all_brings : Brings first new (of_each_cell s (partial_results s (cell s k)))
    all_brings = brings_then first d new (partial_results s (trees_in d.branches now) name.0 name.1) (of_each_cell s (partial_results s (cell s k)))
        (subst (λ (ts : List Tree). AreCovered ts (of_each_cell s (partial_results s (cell s k)))) (sym same_results) (covered_cell s (partial_results s (cell s k)) name.0 name.1 kind given))
        was.brings brings

    old_inside : All (λ (c : CellName × Reference). IsIn new.branches c.1) changes
    old_inside i x less = IsIn-further d.branches new.branches _ brings.stays (was.inside i x less)

    old_trees : All (λ (c : CellName × Reference). tree_at new.branches c.1 ≡ cell s (suc k) c.0.0 c.0.1) changes
    old_trees i x less = tree_at-further d.branches new.branches _ brings.stays (was.inside i x less) ∙ was.trees i x less

    old_listed : All (λ (c : CellName × Reference). Contains (done ++ name ∷ []) c.0) changes
    old_listed i x less = Contains-append_left done (name ∷ []) _ (was.listed i x less)

    pub step_kept : tree_at new.branches f ≡ trees_in new.branches now name.0 name.1 → IsIn d.branches (place_in now name.0 name.1) → AreChanges s k first new (done ++ name ∷ []) changes
    step_kept same there = record {
      inside = old_inside;
      trees = old_trees;
      differ = was.differ;
      listed = old_listed;
      others = λ j a listed. elim (last_cases {X = CellName} done name (j, a) listed) [
        | inl before ↦ was.others j a before
        | inr last ↦ inr (subst (λ (c : CellName). cell s (suc k) c.0 c.1 ≡ cell s k c.0 c.1) (sym last)
            (sym is ∙ same ∙ tree_at-further d.branches new.branches (place_in now name.0 name.1) brings.stays there ∙ tells name.0 name.1 kind))
      ];
      brings = all_brings;
    }

    pub step_pushed : (tree_at new.branches f ≢ trees_in new.branches now name.0 name.1) → IsIn d.branches (place_in now name.0 name.1) → AreChanges s k first new (done ++ name ∷ []) (changes ++ (name, f) ∷ [])
    step_pushed differs there = record {
      inside = All-append (λ (c : CellName × Reference). IsIn new.branches c.1) changes ((name, f) ∷ []) old_inside (all_one (λ (c : CellName × Reference). IsIn new.branches c.1) (name, f) inside);
      trees = All-append (λ (c : CellName × Reference). tree_at new.branches c.1 ≡ cell s (suc k) c.0.0 c.0.1) changes ((name, f) ∷ []) old_trees (all_one (λ (c : CellName × Reference). tree_at new.branches c.1 ≡ cell s (suc k) c.0.0 c.0.1) (name, f) is);
      differ = All-append (λ (c : CellName × Reference). cell s (suc k) c.0.0 c.0.1 ≢ cell s k c.0.0 c.0.1) changes ((name, f) ∷ []) was.differ
          (all_one (λ (c : CellName × Reference). cell s (suc k) c.0.0 c.0.1 ≢ cell s k c.0.0 c.0.1) (name, f)
          (λ equal. differs (is ∙ equal ∙ sym (tells name.0 name.1 kind) ∙ sym (tree_at-further d.branches new.branches (place_in now name.0 name.1) brings.stays there))));
      listed = All-append (λ (c : CellName × Reference). Contains (done ++ name ∷ []) c.0) changes ((name, f) ∷ []) old_listed
          (all_one (λ (c : CellName × Reference). Contains (done ++ name ∷ []) c.0) (name, f) (Contains-append_right done (name ∷ []) name (Contains-here name name [] refl)));
      others = λ j a listed. elim (last_cases {X = CellName} done name (j, a) listed) [
        | inl before ↦ elim (was.others j a before) [
          | inl changed ↦ inl (changed.0, Contains-append_left changes ((name, f) ∷ []) ((j, a), changed.0) changed.1)
          | inr same ↦ inr same
        ]
        | inr last ↦ inl (f, Contains-append_right changes ((name, f) ∷ []) ((j, a), f) (Contains-here {X = CellName × Reference} ((j, a), f) (name, f) [] (λ n. (last n, f))))
      ];
      brings = all_brings;
    }
