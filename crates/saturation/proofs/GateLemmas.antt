-- Atoms of which a parent has to have one.
use Rattle.std.proofs.Common.{◌≡◌, ℕ, ◌-◌, ◌<◌, Bool, true, false, not, List, [], ◌∷◌, ◌++◌, length, get_or, slice_get, Option, Some, None, All, IfSome, sym, ap, subst, ◌∙◌, arith}
use Rattle.std.proofs.lemmas.Bool.{and_parts, both_ways, false_from_ne_true, not-true}
use Rattle.std.proofs.lemmas.List.Elements.{All-push}
use Rattle.std.proofs.lemmas.Option.{slice_get_within, get_or_from_slice_get}
use Rattle.tp_base.specs.Classes.{has_class}
use Rattle.class_diagrams.specs.Trees.{Tree, eval}
use Rattle.class_diagrams.specs.Arena.{tree_at, IsIn}
use Rattle.class_diagrams.specs.Gates.{IsGate}
use Rattle.saturation.specs.declared.courses.Course.{Course}
use Rattle.saturation.specs.Histories.{Change, AreGrowing, first_in, first_holding}
use Rattle.saturation.specs.Courses.{IsGated, HasGate}
use Rattle.saturation.proofs.GrowthLemmas.{none_at}

-- where there is none
pub no_gate : (ts : List Tree) (starts : Bool) (changes : List Change) → IsGated ts starts changes None
no_gate ts starts changes parent grows shut = let never : false ≡ true = shut in cc

module _ (ts : List Tree) (changes : List Change) (last : Change) (at : Some last ≡ slice_get changes (length changes - 1)) where
  last_within : length changes - 1 < length changes
  last_within = slice_get_within changes (length changes - 1) last (sym at)

  last_is : (e : Change) → get_or changes (length changes - 1) e ≡ last
  last_is e = get_or_from_slice_get changes (length changes - 1) last e (sym at)

  pub last_inside : All (λ c. IsIn ts c.1) changes → IsIn ts last.1
  last_inside inside = subst (λ (c : Change). IsIn ts c.1) (last_is last) (inside (length changes - 1) last last_within)

  -- where the last change doesn't hold, none does
  none_holds : (parent : List ℕ) → AreGrowing ts changes parent → eval (tree_at ts last.1) parent ≡ false → first_holding ts changes parent ≡ None
  none_holds parent grows fails = none_at ts parent changes (λ m e before. false_from_ne_true (eval (tree_at ts (get_or changes m e).1) parent) (λ yes.
      both_ways (eval (tree_at ts last.1) parent) fails
      (ap (λ (c : Change). eval (tree_at ts c.1) parent) (sym (last_is e)) ∙ grows m (length changes - 1) e (omega (arith, before)) last_within yes)))

  -- the gate of the last change
  pub last_gate : (starts : Bool) (gate : Option (ℕ × ℕ)) → starts ≡ false → IfSome gate (λ g. IsGate g.0 g.1 (tree_at ts last.1)) → IsGated ts starts changes gate
  last_gate starts None not_there is parent grows shut = no_gate ts starts changes parent grows shut
  last_gate starts (Some g) not_there is parent grows shut =
      let lacks = and_parts (not (has_class g.0 parent)) (not (has_class g.1 parent)) shut in
      ap (λ (b : Bool). first_in b ts changes parent) not_there
      ∙ none_holds parent grows (is parent (not-true (has_class g.0 parent) lacks.0) (not-true (has_class g.1 parent) lacks.1))

-- one course more
pub gate_pushed : (ts : List Tree) (courses new : List Course) (a : ℕ) (starts : Bool) (gate : Option (ℕ × ℕ)) (found changes : List Change) → changes ≡ found
    → IsGated ts starts found gate → new ≡ courses ++ record { atom = a; starts = starts; gate = gate; changes = changes } ∷ [] → All (HasGate ts) courses → All (HasGate ts) new
gate_pushed ts courses new a starts gate found changes copy gated is all =
    let c : Course = record { atom = a; starts = starts; gate = gate; changes = changes } in
    subst (λ (cs : List Course). All (HasGate ts) cs) (sym is) (All-push (HasGate ts) courses c all (subst (λ (h : List Change). IsGated ts starts h gate) (sym copy) gated))

-- the row of a kind
pub row_gated : (ts : List Tree) (rows : List (List Course)) (j : ℕ) (row : List Course) → All (All (HasGate ts)) rows → slice_get rows j ≡ Some row → All (HasGate ts) row
row_gated ts rows j row all at = subst (λ (cs : List Course). All (HasGate ts) cs) (get_or_from_slice_get rows j row row at) (all j row (slice_get_within rows j row at))
