-- Cells that are of an arena.
use Rattle.std.proofs.Common.{◌≡◌, Bool, true, false, if◌then◌else◌, List, sym, subst}
use Rattle.class_diagrams.specs.References.{Reference, leaf_reference}
use Rattle.class_diagrams.specs.Trees.{Tree}
use Rattle.class_diagrams.specs.Arena.{IsIn}

pub leaf_inside : (ts : List Tree) (f : Reference) (b : Bool) → f ≡ leaf_reference b → IsIn ts f
leaf_inside ts f true is = subst (λ (p : Reference). IsIn ts p) (sym is) tt
leaf_inside ts f false is = subst (λ (p : Reference). IsIn ts p) (sym is) tt

pub either_inside : (ts : List Tree) (test : Bool) (f g r : Reference) → IsIn ts f → IsIn ts g → r ≡ (if test then f else g) → IsIn ts r
either_inside ts true f g r first second is = subst (λ (p : Reference). IsIn ts p) (sym is) first
either_inside ts false f g r first second is = subst (λ (p : Reference). IsIn ts p) (sym is) second
