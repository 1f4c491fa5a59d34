-- Offsets past a text's end.
use Rattle.std.proofs.Common.{◌≡◌, ℕ, List, length, take, sym, ◌∙◌, arith, min, inl, inr}
use Rattle.std.proofs.lemmas.Bool.{cases_lt}
use Rattle.std.proofs.lemmas.List.{take_all}

-- what is taken up to an offset past the end is all
pub take_within : (n m : ℕ) (text : List ℕ) → m ≡ min n (length text) → take m text ≡ take n text
take_within n m text is = elim (cases_lt n (length text)) [
  | inl lt ↦ let same : m ≡ n = omega arith in rw same
  | inr ge ↦ let same : m ≡ length text = omega arith in rw same (take_all (length text) text (omega arith) ∙ sym (take_all n text ge))
]
