-- Reading what stands one place after the other, as a loop does.
use Rattle.std.proofs.Common.{◌≡◌, ℕ, zero, suc, ◌-◌, ◌≤◌, ◌<◌, List, [], ◌∷◌, length, take, drop, refl, sym, ap, ◌∙◌, append_assoc, arith}
use Rattle.std.proofs.lemmas.List.{append-nil}
use Rattle.code_scan.specs.declared.token.Front.{Front}
use Rattle.text_bytes.specs.Rests.{IsRest}
use Rattle.code_scan.specs.States.{State, after}
use Rattle.code_scan.specs.Fronts.{front}
use Rattle.code_scan.specs.Tokens.{Found, nothing, joined, one_found, found_from}

pub joined_twice : (a b c : Found) → joined (joined a b) c ≡ joined a (joined b c)
unfolding joined
joined_twice a b c = simp append_assoc

pub joined_none : (a : Found) → joined a nothing ≡ a
unfolding joined
joined_none a = simp append-nil

pub begins : (a : Found) → joined nothing a ≡ a
unfolding joined
begins a = refl

-- the bytes that are left of what was read are passed over
pub found_skip : (size : ℕ) (s : State) (n : ℕ) (bs : List ℕ) → found_from size s n bs ≡ found_from size s 0 (drop n bs)
unfolding found_from
found_skip size s zero bs = refl
found_skip size s (suc n) [] = refl
found_skip size s (suc n) (b ∷ bs) = found_skip size s n bs

pub drop_first : (n b : ℕ) (bs : List ℕ) → 1 ≤ n → drop (n - 1) bs ≡ drop n (b ∷ bs)
drop_first zero b bs low = absurd (omega arith)
drop_first (suc n) b bs low = let less : suc n - 1 ≡ n = omega arith in rw less refl

-- ---- what a loop knows at each turn: `before` was read, and `rest` is left

pub goes_on : (size : ℕ) (s : State) (at : ℕ) (f : Front) (rest : List ℕ) (before total : Found)
    → joined before (found_from size s 0 rest) ≡ total → front s rest ≡ f → at ≡ size - length rest → 0 < length rest → 1 ≤ f.len
    → joined (joined before (one_found f at s.new_line)) (found_from size (after s f.piece (take f.len rest)) 0 (drop f.len rest)) ≡ total
unfolding found_from
goes_on size s at f [] before total so_far read here lt low = absurd (omega arith)
goes_on size s at f (b ∷ bs) before total so_far read here lt low =
    let next = after s f.piece (take f.len (b ∷ bs)) in
    let passed : found_from size next (f.len - 1) bs ≡ found_from size next 0 (drop f.len (b ∷ bs)) = found_skip size next (f.len - 1) bs ∙ ap (found_from size next 0) (drop_first f.len b bs low) in
    let one : found_from size s 0 (b ∷ bs) ≡ joined (one_found f at s.new_line) (found_from size next 0 (drop f.len (b ∷ bs))) = rw (← here, read) (ap (joined (one_found f at s.new_line)) passed) in
    joined_twice before (one_found f at s.new_line) (found_from size next 0 (drop f.len (b ∷ bs))) ∙ ap (joined before) (sym one) ∙ so_far

pub ends : (size : ℕ) (s : State) (rest : List ℕ) (before total : Found) → joined before (found_from size s 0 rest) ≡ total → length rest ≡ 0 → before ≡ total
unfolding found_from
ends size s [] before total so_far none = sym (joined_none before) ∙ so_far
ends size s (b ∷ bs) before total so_far none = absurd (omega arith)

pub behind_mark_within : (all rest : List ℕ) → IsRest all rest → length rest ≤ length all
behind_mark_within all rest part = part.shorter
