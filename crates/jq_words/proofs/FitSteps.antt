-- The first words, one by one.
use Rattle.std.proofs.Common.{◌≡◌, Bool, true, false, ◌&&◌, List, [], ◌∷◌, drop, refl, ap, ◌∙◌}
use Rattle.tp_base.proofs.Truths.{and_true, and_false}
use Rattle.jq_words.specs.Words.{Word, fits, first_is, is_form, is_one}

pub fits_no : (p : Word → Bool) (ps : List (Word → Bool)) (ws : List Word) → first_is p ws ≡ false → fits (p ∷ ps) ws ≡ false
unfolding fits first_is
fits_no p ps [] other = refl
fits_no p ps (w ∷ ws) other = rw other refl

pub fits_then : (p : Word → Bool) (ps : List (Word → Bool)) (ws : List Word) → first_is p ws ≡ true → fits (p ∷ ps) ws ≡ fits ps (drop 1 ws)
unfolding fits first_is
fits_then p ps [] is = cc
fits_then p ps (w ∷ ws) is = rw is refl

pub fits_one : (p : Word → Bool) (ws : List Word) → fits (p ∷ []) ws ≡ first_is p ws
unfolding fits first_is
fits_one p [] = refl
fits_one p (w ∷ ws) = and_true (p w)

no_more : (a b c : Bool) → (a && (b && true)) ≡ false → (a && (b && c)) ≡ false
no_more true true c other = cc
no_more true false c other = refl
no_more false b c other = refl

and_more : (a b c : Bool) → (a && (b && true)) ≡ true → (a && (b && c)) ≡ c
and_more true true c is = refl
and_more true false c is = cc
and_more false b c is = cc

never : (b c : Bool) → (b && false) ≡ true → (b && false) ≡ c
never true c is = cc
never false c is = cc

pub fits_no_two : (p q : Word → Bool) (ps : List (Word → Bool)) (ws : List Word) → fits (p ∷ q ∷ []) ws ≡ false → fits (p ∷ q ∷ ps) ws ≡ false
unfolding fits
fits_no_two p q ps [] other = refl
fits_no_two p q ps (w ∷ []) other = other
fits_no_two p q ps (w ∷ v ∷ ws) other = no_more (p w) (q v) (fits ps ws) other

pub fits_then_two : (p q : Word → Bool) (ps : List (Word → Bool)) (ws : List Word) → fits (p ∷ q ∷ []) ws ≡ true → fits (p ∷ q ∷ ps) ws ≡ fits ps (drop 1 (drop 1 ws))
unfolding fits
fits_then_two p q ps [] is = cc
fits_then_two p q ps (w ∷ []) is = never (p w) (fits ps []) is
fits_then_two p q ps (w ∷ v ∷ ws) is = and_more (p w) (q v) (fits ps ws) is

-- ---- words that are no more than some

pub form_no : (p : Word → Bool) (ps : List (Word → Bool)) (ws : List Word) → first_is p ws ≡ false → is_form (p ∷ ps) ws ≡ false
unfolding is_form first_is
form_no p ps [] other = refl
form_no p ps (w ∷ ws) other = rw other refl

pub form_then : (p : Word → Bool) (ps : List (Word → Bool)) (ws : List Word) → first_is p ws ≡ true → is_form (p ∷ ps) ws ≡ is_form ps (drop 1 ws)
unfolding is_form first_is
form_then p ps [] is = cc
form_then p ps (w ∷ ws) is = rw is refl

pub form_no_two : (p q : Word → Bool) (ps : List (Word → Bool)) (ws : List Word) → fits (p ∷ q ∷ []) ws ≡ false → is_form (p ∷ q ∷ ps) ws ≡ false
unfolding fits is_form
form_no_two p q ps [] other = refl
form_no_two p q ps (w ∷ []) other = other
form_no_two p q ps (w ∷ v ∷ ws) other = no_more (p w) (q v) (is_form ps ws) other

pub form_then_two : (p q : Word → Bool) (ps : List (Word → Bool)) (ws : List Word) → fits (p ∷ q ∷ []) ws ≡ true → is_form (p ∷ q ∷ ps) ws ≡ is_form ps (drop 1 (drop 1 ws))
unfolding fits is_form
form_then_two p q ps [] is = cc
form_then_two p q ps (w ∷ []) is = never (p w) (is_form ps []) is
form_then_two p q ps (w ∷ v ∷ ws) is = and_more (p w) (q v) (is_form ps ws) is

pub no_form : (p : Word → Bool) (ws : List Word) → is_one ws ≡ false → is_form (p ∷ []) ws ≡ false
unfolding is_form
no_form p [] none = refl
no_form p (w ∷ []) none = cc
no_form p (w ∷ v ∷ ws) none = and_false (p w)

pub form : (p : Word → Bool) (w : Word) (ws : List Word) → ws ≡ w ∷ [] → is_form (p ∷ []) ws ≡ p w
unfolding is_form
form p w ws here = rw here (and_true (p w))

pub one_word : (w : Word) (ws : List Word) → ws ≡ w ∷ drop 1 ws → drop 1 ws ≡ [] → ws ≡ w ∷ []
one_word w ws here none = here ∙ ap (λ r. w ∷ r) none

pub no_word : (ws : List Word) → ws ≡ [] → is_one ws ≡ false
no_word ws none = rw none refl

pub two_words : (v : Word) (ws : List Word) → drop 1 ws ≡ v ∷ drop 1 (drop 1 ws) → is_one ws ≡ false
two_words v [] next = refl
two_words v (w ∷ []) next = cc
two_words v (w ∷ x ∷ ws) next = refl
