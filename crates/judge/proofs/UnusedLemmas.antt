-- The answers where the root has none of the atoms.
use Rattle.std.proofs.Common.{◌≡◌, ℕ, Bool, false, List, [], ◌∷◌, Result, Ok, Err, IfOk, refl, sym, ◌∙◌, subst}
use Rattle.std.specs.List.{list_any}
use Rattle.std.proofs.lemmas.Bool.{or_parts}
use Rattle.tp_base.specs.Classes.{has_class}
use Rattle.tree_sem.specs.Trees.{LabelTree}
use Rattle.usage_report.specs.Answers.{Answer, unused}
use Rattle.simple_core.specs.declared.system.System.{System}
use Rattle.limits.specs.declared.budgets.Limits.{Limits}
use Rattle.judge.specs.BySeen.{IsSaidWhere, AreSaid, all_unused}

module _ (s : System) (page : LabelTree) (limits : Limits) (label : List ℕ) where
  unused_said : (seen : List ℕ) → list_any (λ a. has_class a label) seen ≡ false → AreSaid s page limits label seen (all_unused seen)
  unused_said [] none = tt
  unused_said (a ∷ seen) none =
      let parts = or_parts (has_class a label) (list_any (λ b. has_class b label) seen) none in
      (subst (λ b. IsSaidWhere s page limits b a unused) (sym parts.0) refl, unused_said seen parts.1)

  pub unused_made : {X E : Type 0} (f : X → List Answer) (r : Result X E) (items seen : List ℕ) (some : Bool) → items ≡ seen → some ≡ list_any (λ a. has_class a label) items → some ≡ false
      → IfOk r (λ v. f v ≡ all_unused items) → IfOk r (λ v. AreSaid s page limits label seen (f v))
  unused_made f (Ok v) items seen some same test none is =
      subst (λ (z : List ℕ). AreSaid s page limits label z (f v)) same (subst (λ (z : List Answer). AreSaid s page limits label items z) (sym is) (unused_said items (sym test ∙ none)))
  unused_made f (Err e) items seen some same test none is = tt
