-- Texts, one token after the other, as loops do.
use Rattle.std.proofs.Common.{◌≡◌, ℕ, List, [], ◌∷◌, ◌++◌, length, refl, sym, ◌∙◌, append_assoc, arith}
use Rattle.std.proofs.lemmas.List.{append-nil}
use Rattle.code_scan.specs.declared.token.Token.{Token}
use Rattle.code_tokens.specs.Members.{letters_of, letters_in}

pub more_letters : (before : List ℕ) (t : Token) (ts : List Token) (total : List ℕ) → before ++ letters_in (t ∷ ts) ≡ total → (before ++ letters_of t.kind) ++ letters_in ts ≡ total
unfolding letters_in
more_letters before t ts total so_far = append_assoc before (letters_of t.kind) (letters_in ts) ∙ so_far

pub no_letters : (before : List ℕ) (ts : List Token) (total : List ℕ) → before ++ letters_in ts ≡ total → length ts ≡ 0 → before ≡ total
unfolding letters_in
no_letters before [] total so_far none = sym (append-nil before) ∙ so_far
no_letters before (t ∷ ts) total so_far none = absurd (omega arith)
