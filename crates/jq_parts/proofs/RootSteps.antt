-- Roots that are one word.
use Rattle.std.proofs.Common.{◌≡◌, ℕ, true, false, List, [], ◌∷◌, Ok, Err, refl, codes}
use Rattle.jq_words.specs.declared.faults.ScriptFault.TheVariants.{ComplexArgument, ThisOutside}
use Rattle.jq_words.specs.Words.{Word, is_name, is_any_name, is_name_among, is_one, place}
use Rattle.jq_words.proofs.FitSteps.{no_form, form}
use Rattle.jq_cursor.specs.Keywords.{pages}
use Rattle.jq_parts.specs.Bindings.{elements, everywhere}
use Rattle.jq_parts.specs.Scopes.{Scope, this_chain, used}
use Rattle.jq_parts.specs.Roots.{named_root}
use Rattle.jq_parts.proofs.TargetSteps.{spelled_one}

module _ (size : ℕ) (scope : Scope) (ws : List Word) where
  pub no_root : is_one ws ≡ false → named_root size scope ws ≡ Err (ComplexArgument (place size ws))
  unfolding named_root
  no_root none = rw (no_form (is_name (codes "this")) ws none, no_form (is_name_among pages) ws none, no_form is_any_name ws none) refl

module _ (size : ℕ) (scope : Scope) (ws : List Word) (w : Word) (here : ws ≡ w ∷ []) where
  pub this_root : is_name (codes "this") w ≡ true → scope.has_this ≡ true → named_root size scope ws ≡ Ok (elements this_chain)
  unfolding named_root
  this_root is this = rw (form (is_name (codes "this")) w ws here, is, this) refl

  pub this_refused : is_name (codes "this") w ≡ true → scope.has_this ≡ false → named_root size scope ws ≡ Err (ThisOutside (place size ws))
  unfolding named_root
  this_refused is this = rw (form (is_name (codes "this")) w ws here, is, this) refl

  pub page_root : is_name (codes "this") w ≡ false → is_name_among pages w ≡ true → named_root size scope ws ≡ Ok everywhere
  unfolding named_root
  page_root other is = rw (form (is_name (codes "this")) w ws here, other, form (is_name_among pages) w ws here, is) refl

  pub other_root : is_name (codes "this") w ≡ false → is_name_among pages w ≡ false → is_any_name w ≡ false → named_root size scope ws ≡ Err (ComplexArgument (place size ws))
  unfolding named_root
  other_root other page name = rw (form (is_name (codes "this")) w ws here, other, form (is_name_among pages) w ws here, page, form is_any_name w ws here, name) refl

  pub name_root : is_name (codes "this") w ≡ false → is_name_among pages w ≡ false → is_any_name w ≡ true → named_root size scope ws ≡ used scope w.spelling (place size ws)
  unfolding named_root
  name_root other page name = rw (form (is_name (codes "this")) w ws here, other, form (is_name_among pages) w ws here, page, form is_any_name w ws here, name, spelled_one w ws here) refl
