-- The functions that are declared, word by word.
use Rattle.std.proofs.Common.{◌≡◌, ℕ, Bool, true, false, ◌&&◌, if◌then◌else◌, List, [], ◌∷◌, ◌++◌, drop, map, refl, sym, ap, ◌∙◌, codes, append_assoc, rules}
use Rattle.std.proofs.lemmas.List.{map-append}
use denote.Bor.{Bor}
use Rattle.jq_words.specs.Words.{Word, is_mark, is_any_name, begins, begins_name, first_is, fits}
use Rattle.jq_words.specs.Functions.{behind_function, before_function, declared_in}

pub no_function : (ws : List Word) → begins_name (codes "function") ws ≡ false → behind_function ws ≡ []
unfolding behind_function first_is
no_function [] other = refl
no_function (f ∷ []) other = refl
no_function (f ∷ w ∷ ws) other = rw other refl

pub no_second : (ws : List Word) → begins_name (codes "function") ws ≡ true → drop 1 ws ≡ [] → behind_function ws ≡ []
unfolding behind_function first_is
no_second [] is none = refl
no_second (f ∷ []) is none = refl
no_second (f ∷ w ∷ ws) is none = cc

pub no_name : (ws : List Word) (n : Word) → begins_name (codes "function") ws ≡ true → drop 1 ws ≡ n ∷ drop 1 (drop 1 ws) → is_any_name n ≡ false → behind_function ws ≡ []
unfolding behind_function first_is
no_name [] n is next other = refl
no_name (f ∷ []) n is next other = refl
no_name (f ∷ w ∷ ws) n is next other = let same : w ≡ n = cc in rw (is, same, other) refl

pub behind : (ws : List Word) (n : Word) → begins_name (codes "function") ws ≡ true → drop 1 ws ≡ n ∷ drop 1 (drop 1 ws) → is_any_name n ≡ true → behind_function ws ≡ n.spelling ∷ []
unfolding behind_function first_is
behind [] n is next name = cc
behind (f ∷ []) n is next name = cc
behind (f ∷ w ∷ ws) n is next name = let same : w ≡ n = cc in rw (is, same, name) refl

pub none_before : (ws : List Word) → ws ≡ [] → before_function ws ≡ []
unfolding before_function
none_before ws none = rw none refl

pub other_before : (ws : List Word) (n : Word) → ws ≡ n ∷ drop 1 ws → is_any_name n ≡ false → before_function ws ≡ []
unfolding before_function
other_before [] n here other = refl
other_before (w ∷ ws) n here other = let same : w ≡ n = cc in rw (same, other) refl

never : (b : Bool) (names : List (List ℕ)) → (if b && false then names else []) ≡ []
never true names = refl
never false names = refl

neither : (b m : Bool) (names : List (List ℕ)) → (if b && (m && false) then names else []) ≡ []
neither true true names = refl
neither true false names = refl
neither false m names = refl

pub other_mark : (ws : List Word) → begins (codes "=") (drop 1 ws) ≡ false → before_function ws ≡ []
unfolding before_function first_is fits
other_mark [] other = refl
other_mark (w ∷ []) other = never (is_any_name w) (w.spelling ∷ [])
other_mark (w ∷ m ∷ ws) other = rw other (never (is_any_name w) (w.spelling ∷ []))

pub other_function : (ws : List Word) → begins_name (codes "function") (drop 1 (drop 1 ws)) ≡ false → before_function ws ≡ []
unfolding before_function first_is fits
other_function [] other = refl
other_function (w ∷ []) other = never (is_any_name w) (w.spelling ∷ [])
other_function (w ∷ m ∷ []) other = neither (is_any_name w) (is_mark (codes "=") m) (w.spelling ∷ [])
other_function (w ∷ m ∷ f ∷ ws) other = rw other (neither (is_any_name w) (is_mark (codes "=") m) (w.spelling ∷ []))

pub before : (ws : List Word) (n : Word) → ws ≡ n ∷ drop 1 ws → is_any_name n ≡ true → begins (codes "=") (drop 1 ws) ≡ true → begins_name (codes "function") (drop 1 (drop 1 ws)) ≡ true
    → before_function ws ≡ n.spelling ∷ []
unfolding before_function first_is fits
before [] n here name mark is = cc
before (w ∷ []) n here name mark is = cc
before (w ∷ m ∷ []) n here name mark is = cc
before (w ∷ m ∷ f ∷ ws) n here name mark is = let same : w ≡ n = cc in rw (same, name, mark, is) refl

pub pushed : (found : List (Bor (List ℕ))) (n : Bor (List ℕ)) → map (λ (k : Bor (List ℕ)). k.now) (found ++ n ∷ []) ≡ map (λ (k : Bor (List ℕ)). k.now) found ++ n.now ∷ []
pushed found n = map-append (λ (k : Bor (List ℕ)). k.now) found (n ∷ [])

pub not_pushed : (found : List (List ℕ)) → found ++ [] ≡ found
not_pushed found = search rules

regroup : (found a b c : List (List ℕ)) → ((found ++ a) ++ b) ++ c ≡ found ++ (a ++ (b ++ c))
regroup found a b c = append_assoc (found ++ a) b c ∙ append_assoc found a (b ++ c)

whole : (w : Word) (ws : List Word) → ws ≡ w ∷ drop 1 ws → behind_function ws ++ (before_function ws ++ declared_in (drop 1 ws)) ≡ declared_in ws
unfolding declared_in
whole w [] here = cc
whole w (v ∷ ws) here = sym (append_assoc (behind_function (v ∷ ws)) (before_function (v ∷ ws)) (declared_in ws))

pub one_more : (found : List (List ℕ)) (w : Word) (ws : List Word) → ws ≡ w ∷ drop 1 ws
    → ((found ++ behind_function ws) ++ before_function ws) ++ declared_in (drop 1 ws) ≡ found ++ declared_in ws
one_more found w ws here = regroup found (behind_function ws) (before_function ws) (declared_in (drop 1 ws)) ∙ ap (λ r. found ++ r) (whole w ws here)

pub ends : (found : List (List ℕ)) (ws : List Word) → ws ≡ [] → found ++ declared_in ws ≡ found
unfolding declared_in
ends found ws none = rw none (not_pushed found)
