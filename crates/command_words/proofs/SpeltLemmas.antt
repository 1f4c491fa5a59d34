-- Text spells a character behind a hyphen.
use Rattle.std.proofs.Common.{◌≡◌, ℕ, ◌==◌, Bool, true, false, if◌then◌else◌, List, [], ◌∷◌, Some, None, refl, sym, ap, ◌∙◌, subst, drop, length, suc, arith}
use Rattle.std.specs.Prelude.{slice_get, unwrap_or}
use Rattle.std.specs.Str.{IsUtf8, chars}
use Rattle.std.proofs.lemmas.Str.{encodes-chars, chars_past_char}
use Rattle.std.proofs.Math.Utf8.{encodes}
use Rattle.std.proofs.lemmas.Bool.{eqb-true}
use Rattle.std.proofs.lemmas.Option.{none-some}
use Rattle.clap.specs.Lexer.{short_of, short_of_rest}
use Rattle.clap.specs.Walk.{Text}
use Rattle.command_words.proofs.Walks.{IsSpelt}

tail_is : (a b : ℕ) (xs ys : List ℕ) → a ∷ xs ≡ b ∷ ys → xs ≡ ys
tail_is a b xs ys e = ap (drop 1) e

first_char : (x : ℕ) (xs cs : List ℕ) → encodes cs ≡ x ∷ xs → (c : ℕ) × (slice_get cs 0 ≡ Some c)
first_char x xs [] e = let bad : 0 ≡ suc (length xs) = ap length e in absurd (omega arith)
first_char x xs (c ∷ cs) e = (c, refl)

from_hyphen : (x : ℕ) (xs : Text) → IsUtf8 (45 ∷ x ∷ xs) → (c : ℕ) × (slice_get (chars (x ∷ xs)) 0 ≡ Some c)
unfolding lib.Utf8.encode
from_hyphen x xs utf8 =
    let split : chars (45 ∷ x ∷ xs) ≡ 45 ∷ chars (x ∷ xs) = chars_past_char (45 ∷ x ∷ xs) (x ∷ xs) 45 utf8 refl in
    let whole : encodes (45 ∷ chars (x ∷ xs)) ≡ 45 ∷ x ∷ xs = ap encodes (sym split) ∙ encodes-chars (45 ∷ x ∷ xs) utf8 in
    first_char x xs (chars (x ∷ xs)) (tail_is 45 45 (encodes (chars (x ∷ xs))) (x ∷ xs) whole)

hyphen_first : (a : ℕ) (rest : Text) (x : ℕ) (xs : Text) (s : Bool) → (a == 45) ≡ s → (if s then short_of_rest rest else None) ≡ Some (x ∷ xs) → (a ≡ 45) × (rest ≡ x ∷ xs)
hyphen_first a [] x xs true e is = absurd (none-some (x ∷ xs) is)
hyphen_first a (b ∷ rest) x xs true e is = (eqb-true a 45 e, behind (b == 45) is)
  where
    behind : (t : Bool) → (if t then None else Some (b ∷ rest)) ≡ Some (x ∷ xs) → b ∷ rest ≡ x ∷ xs
    behind true same = absurd (none-some (x ∷ xs) same)
    behind false same = ap (λ o. unwrap_or o (b ∷ rest)) same
hyphen_first a rest x xs false e is = absurd (none-some (x ∷ xs) is)

short_is : (a : ℕ) (rest : Text) (s : Bool) → (a == 45) ≡ s → short_of (a ∷ rest) ≡ (if s then short_of_rest rest else None)
short_is a rest true e = rw e refl
short_is a rest false e = rw e refl

pub spelt_of : (w : Text) → IsUtf8 w → IsSpelt w
spelt_of [] utf8 = record { spelt = λ x xs is. absurd (none-some (x ∷ xs) is) }
spelt_of (a ∷ rest) utf8 = record {
  spelt = λ x xs is.
      let parts = hyphen_first a rest x xs (a == 45) refl (sym (short_is a rest (a == 45) refl) ∙ is) in
      from_hyphen x xs (subst (λ z. IsUtf8 (z ∷ x ∷ xs)) parts.0 (subst (λ z. IsUtf8 (a ∷ z)) parts.1 utf8));
}
