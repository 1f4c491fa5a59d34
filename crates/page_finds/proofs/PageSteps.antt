-- White space and comments before a page's document type, one after the other.
use Rattle.std.proofs.Common.{◌≡◌, ℕ, zero, suc, ◌-◌, ◌<◌, nat_eq, true, false, List, [], ◌∷◌, length, drop, refl, arith, eq-eqb}
use Rattle.std.proofs.lemmas.Bool.{ne_eqb}
use Rattle.text_bytes.specs.Blanks.{is_blank}
use Rattle.text_bytes.specs.Rests.{IsRest}
use Rattle.page_finds.specs.Pages.{behind_comment, is_doctype, is_standard_from, is_standard}
use Rattle.page_finds.proofs.TagSteps.{rest_of}

skips : (n : ℕ) (bs : List ℕ) → is_standard_from n bs ≡ is_standard_from 0 (drop n bs)
unfolding is_standard_from
skips zero bs = refl
skips (suc n) [] = refl
skips (suc n) (b ∷ bs) = skips n bs

pub blank_first : (b : ℕ) (bs : List ℕ) → is_blank b ≡ true → is_standard (b ∷ bs) ≡ is_standard bs
unfolding is_standard_from
blank_first b bs is = rw is refl

pub comment_first : (b : ℕ) (bs rest : List ℕ) → is_blank b ≡ false → rest ≡ behind_comment (b ∷ bs) → IsRest (b ∷ bs) rest → length rest < length (b ∷ bs) → is_standard (b ∷ bs) ≡ is_standard rest
unfolding is_standard_from
comment_first b bs rest seen is last less =
    let other : nat_eq (length rest) (length (b ∷ bs)) ≡ false = ne_eqb _ _ (λ e. omega arith) in
    rw (seen, ← is, other, skips (length bs - length rest) bs, rest_of b bs rest last less) refl

pub other_first : (b : ℕ) (bs rest : List ℕ) → is_blank b ≡ false → rest ≡ behind_comment (b ∷ bs) → length rest ≡ length (b ∷ bs) → is_standard (b ∷ bs) ≡ is_doctype (b ∷ bs)
unfolding is_standard_from
other_first b bs rest seen is same = let all : nat_eq (length rest) (length (b ∷ bs)) ≡ true = eq-eqb _ _ same in rw (seen, ← is, all) refl

pub nothing : (bs : List ℕ) → length bs ≡ 0 → is_standard bs ≡ false
unfolding is_standard_from
nothing [] none = refl
nothing (b ∷ bs) none = absurd (omega arith)
