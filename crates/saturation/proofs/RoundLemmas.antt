-- The loop over the cells of a round.
use Rattle.std.proofs.Common.{◌≡◌, ℕ, List, [], Result, Ok, Err, IsErrAnd, IsErrOf, sym, subst, ◌∙◌, arith}
use Rattle.tp_base.proofs.Rising.{Contains-none}
use Rattle.class_diagrams.specs.References.{Reference}
use Rattle.class_diagrams.specs.declared.faults.DiagramFault.{DiagramFault}
use Rattle.class_diagrams.specs.declared.faults.DiagramFault.TheVariants.{Full, Memory}
use Rattle.class_diagrams.specs.Arena.{Arena, IsArena}
use Rattle.diagram_ops.proofs.StepLemmas.{brings_itself}
use Rattle.simple_core.specs.declared.system.System.{System}
use Rattle.pushdown_sym.specs.Terms.{partial_results}
use Rattle.pushdown_sym.specs.Rounds.{cell, of_each_cell}
use Rattle.saturation.specs.Waking.{CellName}
use Rattle.saturation.specs.Saturation.{AreChanges, IsFullIn, IsStep}

pub step_none : (s : System) (k : ℕ) (d : Arena) (changes : List (CellName × Reference)) → changes ≡ [] → IsArena d → AreChanges s k d d [] changes
step_none s k d changes none arena = subst (λ (cs : List (CellName × Reference)). AreChanges s k d d [] cs) (sym none) (record {
  inside = λ i x less. absurd (omega arith);
  trees = λ i x less. absurd (omega arith);
  differ = λ i x less. absurd (omega arith);
  listed = λ i x less. absurd (omega arith);
  others = λ j a there. absurd (Contains-none {X = CellName} (j, a) there);
  brings = brings_itself d (of_each_cell s (partial_results s (cell s k))) arena;
})

pub full_of : {T : Type 0} (s : System) (k : ℕ) (first end : Arena) (done : List CellName) (changes : List (CellName × Reference)) (r : Result T DiagramFault) (e : DiagramFault)
    → IsErrAnd r (λ y. y ≡ e) → IsErrOf r Full → IsStep s k first end done changes (Err e) → IsFullIn s k first
full_of s k first end done changes (Ok x) e is full step = absurd is
full_of s k first end done changes (Err x) Full is full step = step
full_of s k first end done changes (Err x) Memory is full step = let fault : x ≡ Full = cc in let same : Memory ≡ Full = sym is ∙ fault in cc

pub error_is : {T E : Type 0} (e x : E) → IsErrOf {T = T} {E = E} (Err e) x → e ≡ x
error_is e x is = cc

pub error_passed : {T U E : Type 0} (r : Result U E) (e x : E) → IsErrAnd r (λ y. y ≡ e) → IsErrOf r x → IsErrOf {T = T} {E = E} (Err e) x
error_passed (Ok u) e x is of = absurd is
error_passed (Err y) e x is of = let fault : y ≡ x = cc in let same : e ≡ x = sym is ∙ fault in cc
