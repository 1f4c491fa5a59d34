-- Sets and hashes, atom by atom.
use Rattle.std.proofs.Common.{◌≡◌, ◌↔◌, ℕ, ◌+◌, ◌<◌, ◌≤◌, List, [], ◌∷◌, take, length, get_or, slice_get, Some, false, IsTrue, refl, sym, ap, ◌∙◌, arith}
use Rattle.std.proofs.lemmas.List.Sums.{fold-append}
use Rattle.std.proofs.lemmas.List.{take_all, same_lists}
use Rattle.std.proofs.lemmas.Option.{slice_get-get_or, get_or_from_slice_get}
use Rattle.tp_base.proofs.Lists.{take_next}
use Rattle.pair_table.specs.Hashes.{hash_with, hash_of}

pub all_atoms : (xs ys : List ℕ) (i m n : ℕ) → m ≡ length xs → n ≡ length ys → m ≡ n → length xs ≤ i → ((j : ℕ) → j < i → slice_get xs j ≡ slice_get ys j) → xs ≡ ys
all_atoms xs ys i m n is_m is_n len le same = same_lists xs ys (sym is_m ∙ len ∙ is_n) (λ j d less. sym (get_or_from_slice_get ys j (get_or xs j d) d (sym (same j (omega arith)) ∙ slice_get-get_or xs j d less)))

-- the lengths differ
pub other_length : (xs ys : List ℕ) (m n : ℕ) → m ≡ length xs → n ≡ length ys → (m ≡ n → ⊥) → IsTrue false ↔ (xs ≡ ys)
other_length xs ys m n is_m is_n other = (λ never. cc, λ same. absurd (other (is_m ∙ ap length same ∙ sym is_n)))

-- two atoms differ
pub other_atom : (xs ys : List ℕ) (i a b : ℕ) → slice_get xs i ≡ Some a → slice_get ys i ≡ Some b → (a ≡ b → ⊥) → IsTrue false ↔ (xs ≡ ys)
other_atom xs ys i a b at_a at_b other = (
  λ never. cc,
  λ same. absurd (other (
      let both : Some a ≡ Some b = sym at_a ∙ ap (λ zs. slice_get zs i) same ∙ at_b in
      let one : a ≡ b = cc in
      one)),
)

-- an atom more is taken in
pub hash_next : (kind : ℕ) (label : List ℕ) (i a h h' : ℕ) → slice_get label i ≡ Some a → h ≡ hash_of kind (take i label) → h' ≡ hash_with h a → h' ≡ hash_of kind (take (i + 1) label)
hash_next kind label i a h h' at before more =
    more
    ∙ ap (λ n. hash_with n a) before
    ∙ sym (ap (hash_of kind) (take_next label i a at) ∙ fold-append hash_with kind (take i label) (a ∷ []))

pub hash_all : (kind : ℕ) (label : List ℕ) (i n h : ℕ) → n ≡ length label → n ≤ i → h ≡ hash_of kind (take i label) → h ≡ hash_of kind label
hash_all kind label i n h is_n le is = is ∙ ap (hash_of kind) (take_all i label (omega (arith, le, is_n)))
