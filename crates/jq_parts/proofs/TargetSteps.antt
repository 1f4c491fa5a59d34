-- A word before a closing bracket, and no more.
use Rattle.std.proofs.Common.{◌≡◌, ℕ, Bool, true, false, ◌&&◌, if◌then◌else◌, List, [], ◌∷◌, drop, bytes_eq, Option, Some, None, Err, refl, sym, ap, ◌∙◌, codes}
use Rattle.std.proofs.lemmas.Slice.Eq.{bytes_eq-Decides}
use Rattle.std.specs.Prelude.{IfNone}
use Rattle.tp_base.proofs.Truths.{and_false}
use Rattle.jq_words.specs.declared.faults.ScriptFault.TheVariants.{ComplexArgument}
use Rattle.jq_words.specs.Words.{Word, is_mark, is_name, is_name_kind, is_any_name, is_among, is_name_among, fits, is_form, is_one, place, spelled}
use Rattle.jq_words.proofs.FitSteps.{no_form, form, form_then_two}
use Rattle.jq_cursor.specs.Keywords.{jquery, pages, is_name_besides}
use Rattle.jq_parts.specs.Scopes.{Scope}
use Rattle.jq_parts.specs.Arguments.{named_target, bare_target, wrapped_target, wrapped_this, other_target}

all_of : (b c : Bool) → c ≡ true → (b && (c && true)) ≡ b
all_of true c is = rw is refl
all_of false c is = refl

none_of : (b c d : Bool) → c ≡ false → (b && (c && d)) ≡ false
none_of true c d is = rw is refl
none_of false c d is = refl

pub closed : (p : Word → Bool) (w c : Word) (ws : List Word) → ws ≡ w ∷ drop 1 ws → drop 1 ws ≡ c ∷ [] → is_mark (codes ")") c ≡ true
    → is_form (p ∷ is_mark (codes ")") ∷ []) ws ≡ p w
unfolding is_form
closed p w c [] here behind is = cc
closed p w c (v ∷ []) here behind is = cc
closed p w c (v ∷ x ∷ y ∷ ws) here behind is = cc
closed p w c (v ∷ x ∷ []) here behind is = let same : x ≡ c = cc in let first : v ≡ w = cc in rw (same, first) (all_of (p w) (is_mark (codes ")") c) is)

-- no word is alone in the brackets of J
pub no_wrapped : {X : Type 0} (r : Option X) (ws inside : List Word) → fits (is_name_among jquery ∷ is_mark (codes "(") ∷ []) ws ≡ true → inside ≡ drop 1 (drop 1 ws)
    → IfNone r ((p : Word → Bool) → is_form (p ∷ is_mark (codes ")") ∷ []) inside ≡ false)
    → IfNone r ((p : Word → Bool) → is_form (is_name_among jquery ∷ is_mark (codes "(") ∷ p ∷ is_mark (codes ")") ∷ []) ws ≡ false)
no_wrapped None ws inside starts here none = λ p.
    form_then_two (is_name_among jquery) (is_mark (codes "(")) (p ∷ is_mark (codes ")") ∷ []) ws starts ∙ ap (is_form (p ∷ is_mark (codes ")") ∷ [])) (sym here) ∙ none p
no_wrapped (Some x) ws inside starts here none = tt

pub none_closed : (p : Word → Bool) (ws : List Word) → ws ≡ [] → is_form (p ∷ is_mark (codes ")") ∷ []) ws ≡ false
unfolding is_form
none_closed p ws none = rw none refl

pub other_closed : (p : Word → Bool) (ws : List Word) (c : Word) → drop 1 ws ≡ c ∷ [] → is_mark (codes ")") c ≡ false
    → is_form (p ∷ is_mark (codes ")") ∷ []) ws ≡ false
unfolding is_form
other_closed p [] c behind other = cc
other_closed p (v ∷ []) c behind other = cc
other_closed p (v ∷ x ∷ y ∷ ws) c behind other = cc
other_closed p (v ∷ x ∷ []) c behind other = let same : x ≡ c = cc in rw same (none_of (p v) (is_mark (codes ")") c) true other)

pub more_closed : (p : Word → Bool) (ws : List Word) → is_one (drop 1 ws) ≡ false → is_form (p ∷ is_mark (codes ")") ∷ []) ws ≡ false
unfolding is_form
more_closed p [] other = refl
more_closed p (v ∷ []) other = and_false (p v)
more_closed p (v ∷ x ∷ []) other = cc
more_closed p (v ∷ x ∷ y ∷ ws) other = none_of_two (p v) (is_mark (codes ")") x) where
  none_of_two : (b c : Bool) → (b && (c && false)) ≡ false
  none_of_two true true = refl
  none_of_two true false = refl
  none_of_two false c = refl

-- ---- a bound name alone

module _ (scope : Scope) (at : ℕ) (ws : List Word) where
  pub no_bare : is_one ws ≡ false → bare_target scope at ws ≡ Err (ComplexArgument at)
  unfolding bare_target
  no_bare none = rw (no_form (is_name_besides (codes "this" ∷ [])) ws none) refl

among_one : (w : Word) → is_name_among (codes "this" ∷ []) w ≡ is_name (codes "this") w
unfolding is_name_among is_name is_among
among_one w = same_or w (bytes_eq (codes "this") w.spelling) (bytes_eq w.spelling (codes "this")) (turned (codes "this") w.spelling)
  where
    turned : (xs ys : List ℕ) → bytes_eq xs ys ≡ bytes_eq ys xs
    turned xs ys = elim (bytes_eq xs ys) as (λ b. bytes_eq xs ys ≡ b → b ≡ bytes_eq ys xs) [
      | true ↦ λ e. sym ((bytes_eq-Decides ys xs).1 (sym ((bytes_eq-Decides xs ys).0 e)))
      | false ↦ λ e. elim (bytes_eq ys xs) as (λ b. bytes_eq ys xs ≡ b → false ≡ b) [
        | true ↦ λ f. let never : true ≡ false = sym ((bytes_eq-Decides xs ys).1 (sym ((bytes_eq-Decides ys xs).0 f))) ∙ e in cc
        | false ↦ λ f. refl
      ] refl
    ] refl

    same_or : (w : Word) (a b : Bool) → a ≡ b → (is_name_kind w.kind && (if a then true else false)) ≡ (is_name_kind w.kind && b)
    same_or w true b is = ap (λ x. is_name_kind w.kind && x) is
    same_or w false b is = ap (λ x. is_name_kind w.kind && x) is

pub spelled_one : (w : Word) (ws : List Word) → ws ≡ w ∷ [] → spelled ws ≡ w.spelling
unfolding spelled
spelled_one w ws here = rw here refl

module _ (scope : Scope) (at : ℕ) (ws : List Word) (w : Word) (here : ws ≡ w ∷ []) where
  pub other_bare : is_any_name w ≡ false → bare_target scope at ws ≡ Err (ComplexArgument at)
  unfolding bare_target
  other_bare other = rw (form (is_name_besides (codes "this" ∷ [])) w ws here, other) refl

  pub this_bare : is_any_name w ≡ true → is_name (codes "this") w ≡ true → bare_target scope at ws ≡ Err (ComplexArgument at)
  unfolding bare_target
  this_bare name is = rw (form (is_name_besides (codes "this" ∷ [])) w ws here, name, among_one w ∙ is) refl

  pub bare : is_any_name w ≡ true → is_name (codes "this") w ≡ false → bare_target scope at ws ≡ named_target scope at w.spelling at
  unfolding bare_target
  bare name other = rw (form (is_name_besides (codes "this" ∷ [])) w ws here, name, among_one w ∙ other, spelled_one w ws here) refl

-- ---- names in the brackets of J

module _ (size room : ℕ) (scope : Scope) (ws : List Word) where
  pub not_wrapped : ((p : Word → Bool) → is_form (is_name_among jquery ∷ is_mark (codes "(") ∷ p ∷ is_mark (codes ")") ∷ []) ws ≡ false)
      → other_target size room scope ws ≡ bare_target scope (place size ws) ws
  unfolding other_target
  not_wrapped none = rw (none (is_name (codes "this")), none (is_name_besides pages)) refl

many : (w : Word) (ws : List Word) → drop 1 (drop 1 ws) ≡ w ∷ drop 1 (drop 1 (drop 1 ws)) → is_one ws ≡ false
many w [] here = refl
many w (v ∷ []) here = cc
many w (v ∷ x ∷ ws) here = refl

module _ (size room : ℕ) (scope : Scope) (ws : List Word) (w : Word)
    (is : (p : Word → Bool) → is_form (is_name_among jquery ∷ is_mark (codes "(") ∷ p ∷ is_mark (codes ")") ∷ []) ws ≡ p w) where
  pub this_wrapped : is_name (codes "this") w ≡ true → other_target size room scope ws ≡ wrapped_this size room scope (drop 1 ws)
  unfolding other_target
  this_wrapped this = rw (is (is_name (codes "this")), this) refl

  pub name_wrapped : is_name (codes "this") w ≡ false → is_any_name w ≡ true → is_name_among pages w ≡ false
      → other_target size room scope ws ≡ wrapped_target size room scope (place size ws) (drop 1 ws)
  unfolding other_target
  name_wrapped this name page = rw (is (is_name (codes "this")), this, is (is_name_besides pages), name, page) refl

  pub other_wrapped : drop 1 (drop 1 ws) ≡ w ∷ drop 1 (drop 1 (drop 1 ws)) → is_name (codes "this") w ≡ false → is_any_name w ≡ false
      → other_target size room scope ws ≡ Err (ComplexArgument (place size ws))
  unfolding other_target
  other_wrapped here this other = rw (is (is_name (codes "this")), this, is (is_name_besides pages), other) (no_bare scope (place size ws) ws (many w ws here))

  pub page_wrapped : drop 1 (drop 1 ws) ≡ w ∷ drop 1 (drop 1 (drop 1 ws)) → is_name (codes "this") w ≡ false → is_any_name w ≡ true → is_name_among pages w ≡ true
      → other_target size room scope ws ≡ Err (ComplexArgument (place size ws))
  unfolding other_target
  page_wrapped here this name page = rw (is (is_name (codes "this")), this, is (is_name_besides pages), name, page) (no_bare scope (place size ws) ws (many w ws here))
