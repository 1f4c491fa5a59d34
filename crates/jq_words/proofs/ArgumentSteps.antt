-- How far an argument reaches, word by word.
use Rattle.std.proofs.Common.{◌≡◌, ◌≢◌, ℕ, zero, suc, ◌+◌, ◌≤◌, ◌<◌, Bool, true, false, if◌then◌else◌, List, [], ◌∷◌, length, take, drop, refl, sym, ap, ◌∙◌, subst, arith}
use Rattle.jq_words.specs.declared.brackets.Bracket.{Bracket}
use Rattle.jq_words.specs.Words.{Word}
use Rattle.jq_words.specs.Brackets.{brackets_behind, ends_argument, argument_len, is_empty}

one_more : (others : Bool) (os : List Bracket) (w : Word) (ws : List Word) → ends_argument others os w ≡ false → argument_len others os (w ∷ ws) ≡ 1 + argument_len others (brackets_behind os w) ws
unfolding argument_len
one_more others os w ws on = rw on refl

one_over : (others : Bool) (os : List Bracket) (w : Word) (ws : List Word) → ends_argument others os w ≡ true → argument_len others os (w ∷ ws) ≡ 0
unfolding argument_len
one_over others os w ws is = rw is refl

pub goes_on : (others : Bool) (os : List Bracket) (w : Word) (ws : List Word)
    → ws ≡ w ∷ drop 1 ws → ends_argument others os w ≡ false → argument_len others os ws ≡ 1 + argument_len others (brackets_behind os w) (drop 1 ws)
goes_on others os w ws here on = ap (argument_len others os) here ∙ one_more others os w (drop 1 ws) on

pub over : (others : Bool) (os : List Bracket) (w : Word) (ws : List Word) → ws ≡ w ∷ drop 1 ws → ends_argument others os w ≡ true → argument_len others os ws ≡ 0
over others os w ws here is = ap (argument_len others os) here ∙ one_over others os w (drop 1 ws) is

pub ends : (others : Bool) (os : List Bracket) (ws : List Word) → ws ≡ [] → argument_len others os ws ≡ 0
unfolding argument_len
ends others os ws none = rw none refl

-- ---- how many words that are

chosen : (b : Bool) (n m : ℕ) → n ≤ m → (if b then 0 else 1 + n) ≤ suc m
chosen true n m within = omega arith
chosen false n m within = omega (arith, within)

pub within : (others : Bool) (os : List Bracket) (ws : List Word) → argument_len others os ws ≤ length ws
unfolding argument_len
within others os [] = omega arith
within others os (w ∷ ws) = chosen (ends_argument others os w) (argument_len others (brackets_behind os w) ws) (length ws) (within others (brackets_behind os w) ws)

pub none_given : (others : Bool) (n : ℕ) (ws : List Word) → n ≡ argument_len others [] ws → n ≡ 0 → is_empty (take (argument_len others [] ws) ws) ≡ true
none_given others n ws is none = let no : argument_len others [] ws ≡ 0 = sym is ∙ none in rw no refl

some_taken : (n : ℕ) (ws : List Word) → 0 < n → n ≤ length ws → is_empty (take n ws) ≡ false
some_taken zero ws some few = let never : ⊥ = omega (arith, some) in absurd never
some_taken (suc n) [] some few = let never : ⊥ = omega (arith, few) in absurd never
some_taken (suc n) (w ∷ ws) some few = refl

pub some_given : (others : Bool) (n : ℕ) (ws : List Word) → n ≡ argument_len others [] ws → n ≢ 0 → is_empty (take (argument_len others [] ws) ws) ≡ false
some_given others n ws is some = some_taken (argument_len others [] ws) ws (subst (λ (k : ℕ). 0 < k) is (omega (arith, some))) (within others [] ws)

-- ---- how many are counted

-- Those that were passed and those that are left are together as many as the words, so that they can be counted. It is said of what can be
-- counted, since that the words can be is known when the first one is read.
pub record AreCounted (n : ℕ) (ws : List Word) : Type 0 where
  pub fits : length ws ≤ 18446744073709551615 → n + length ws ≤ 18446744073709551615

pub none_counted : (ws : List Word) → AreCounted 0 ws
none_counted ws = record { fits = λ few. omega (arith, few) }

pub one_fits : (n : ℕ) (w : Word) (ws : List Word) → ws ≡ w ∷ drop 1 ws → length ws ≤ 18446744073709551615 → AreCounted n ws → n < 18446744073709551615
one_fits n w ws here few counted = let some : length ws ≡ suc (length (drop 1 ws)) = ap length here in omega (arith, some, counted.fits few)

pub one_counted : (n : ℕ) (w : Word) (ws rest : List Word) → ws ≡ w ∷ drop 1 ws → length ws ≤ 18446744073709551615 → rest ≡ drop 1 ws → AreCounted n ws
    → AreCounted (n + 1) rest
one_counted n w ws rest here few is counted =
    let some : length ws ≡ suc (length (drop 1 ws)) = ap length here in
    record { fits = λ fewer. omega (arith, some, ap length is, counted.fits few) }
