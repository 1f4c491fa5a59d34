-- The parts of a value, one after the other, and the names that the code writes down.
use Rattle.std.proofs.Common.{◌≡◌, ℕ, zero, suc, ◌+◌, ◌*◌, ◌-◌, ◌<◌, nat_lt, lt-ltb, ◌&&◌, Bool, true, false, List, [], ◌∷◌, ◌++◌, length, map, drop, get_or, slice_index_or, refl, sym, ap, subst, ◌∙◌, append_assoc, arith}
use Rattle.std.specs.Char.{digit_value}
use Rattle.std.proofs.lemmas.List.{append-nil}
use Rattle.text_bytes.specs.Rests.{IsRest}
use Rattle.code_sources.specs.declared.references.TheConstants.{KNOWN_NAMES, WINDOWS_1252}
use Rattle.code_sources.specs.References.{known_names, windows_1252, capped, number, Part, Said, part, with_part, said_from}

pub names_are : map (λ n. (n.0.now, n.1)) KNOWN_NAMES ≡ known_names
names_are = refl

pub windows_are : WINDOWS_1252 ≡ windows_1252
windows_are = refl

pub windows_at : (i : ℕ) → slice_index_or WINDOWS_1252 i 0 ≡ get_or windows_1252 i 0
windows_at i = refl

-- ---- digits

pub one_digit : (base code b digit more : ℕ) (behind rest : List ℕ) (total : ℕ × List ℕ) → rest ≡ b ∷ behind → number base code rest ≡ total
    → digit_value b < base → digit ≡ digit_value b → more ≡ capped (base * code + digit) → number base more behind ≡ total
unfolding number
one_digit base code b digit more behind rest total is so_far less at sum =
    let small : nat_lt (digit_value b) base ≡ true = lt-ltb (digit_value b) base less in
    let so_far' : number base code (b ∷ behind) ≡ total = subst (λ (bs : List ℕ). number base code bs ≡ total) is so_far in
    let one : number base code (b ∷ behind) ≡ number base (capped (base * code + digit_value b)) behind = rw small refl in
    rw (sum, at) (sym one ∙ so_far')

-- ---- parts

and_more : (a b c : Bool) → ((a && b) && c) ≡ (a && (b && c))
and_more true b c = refl
and_more false b c = refl

and_true : (s : Bool) → (s && true) ≡ s
and_true true = refl
and_true false = refl

with_part_twice : (a b : List ℕ) (s t : Bool) (q : Said) → with_part a s (with_part b t q) ≡ with_part (a ++ b) (s && t) q
with_part_twice a b s t q = rw (and_more s t q.sure) (simp append_assoc)

skips : (n : ℕ) (bs : List ℕ) → said_from n bs ≡ said_from 0 (drop n bs)
unfolding said_from
skips zero bs = refl
skips (suc n) [] = refl
skips (suc n) (b ∷ bs) = skips n bs

one_more : (b : ℕ) (behind front : List ℕ) (sure : Bool) (total : Said) (p : Part) → with_part front sure (said_from 0 (b ∷ behind)) ≡ total → part b behind ≡ p → IsRest behind p.rest
    → with_part (front ++ p.letters) (sure && p.sure) (said_from 0 p.rest) ≡ total
unfolding said_from
one_more b behind front sure total p so_far is last =
    let one : said_from 0 (b ∷ behind) ≡ with_part p.letters p.sure (said_from 0 p.rest) = rw (is, skips (length behind - length p.rest) behind, last.last) refl in
    sym (with_part_twice front p.letters sure p.sure (said_from 0 p.rest)) ∙ ap (with_part front sure) (sym one) ∙ so_far

pub goes_on : (b : ℕ) (behind rest front : List ℕ) (sure : Bool) (total : Said) (p : Part) → rest ≡ b ∷ behind → with_part front sure (said_from 0 rest) ≡ total → part b behind ≡ p
    → IsRest behind p.rest → with_part (front ++ p.letters) (sure && p.sure) (said_from 0 p.rest) ≡ total
goes_on b behind rest front sure total p is so_far read last =
    one_more b behind front sure total p (subst (λ (bs : List ℕ). with_part front sure (said_from 0 bs) ≡ total) is so_far) read last

pub begins : (bs : List ℕ) → with_part [] true (said_from 0 bs) ≡ said_from 0 bs
begins bs = refl

pub ends : (bs front : List ℕ) (sure : Bool) (total : Said) → with_part front sure (said_from 0 bs) ≡ total → length bs ≡ 0 → record { text = front; sure = sure } ≡ total
unfolding said_from
ends [] front sure total so_far none =
    let cut : with_part front sure (record { text = []; sure = true }) ≡ record { text = front; sure = sure } = rw (and_true sure) (simp append-nil) in
    sym cut ∙ so_far
ends (b ∷ bs) front sure total so_far none = absurd (omega arith)
