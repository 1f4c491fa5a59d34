-- Words without regard to case.
use Rattle.std.proofs.Common.{IsTrue, ◌≡◌, ◌↔◌, ℕ, Bool, nat_eq, length, List, [], ◌∷◌, map, sym, ◌∙◌, arith}
use Rattle.std.proofs.lemmas.Bool.{ne_eqb}
use Rattle.std.proofs.lemmas.Slice.Eq.{bytes_eq-Decides}
use Rattle.std.specs.Char.{to_ascii_lowercase}
use Rattle.tp_base.proofs.Truths.{same_test}
use Rattle.sel_text.specs.Grammar.{is_word, is_empty}

pub is_word_by : (b : Bool) (name word : List ℕ) → IsTrue b ↔ (map to_ascii_lowercase name ≡ map to_ascii_lowercase word) → b ≡ is_word name (map to_ascii_lowercase word)
is_word_by b name word same =
    let decides = bytes_eq-Decides (map to_ascii_lowercase name) (map to_ascii_lowercase word) in
    same_test b (is_word name (map to_ascii_lowercase word)) (λ yes. decides.1 (same.0 yes)) (λ yes. same.1 (decides.0 yes))

pub is_empty_by : (bs : List ℕ) (b : Bool) → b ≡ nat_eq (length bs) 0 → is_empty bs ≡ b
is_empty_by [] b test = sym test
is_empty_by (x ∷ bs) b test = sym (ne_eqb (length (x ∷ bs)) 0 (omega arith)) ∙ sym test
