-- Reading a Text part by part, as a loop does.
use Rattle.std.proofs.Common.{◌≡◌, ℕ, zero, suc, ◌-◌, ◌≤◌, ◌&&◌, Bool, true, false, List, [], ◌∷◌, ◌++◌, length, drop, Option, Some, None, refl, sym, ap, subst, ◌∙◌, append_assoc, arith}
use Rattle.std.proofs.lemmas.List.{append-nil}
use Rattle.code_scan.specs.declared.texts.Ending.{Ending}
use Rattle.code_scan.specs.declared.texts.Ending.TheVariants.{Cut}
use Rattle.code_scan.specs.Escapes.{Part}
use Rattle.code_scan.proofs.ScanSteps.{drop_first}
use Rattle.code_scan.specs.Texts.{Quoted, ended, ended_or, with_part, next_part, end_of, text_from}

and_more : (a b c : Bool) → ((a && b) && c) ≡ (a && (b && c))
and_more true b c = refl
and_more false b c = refl

with_part_twice : (a b : List ℕ) (s t : Bool) (q : Quoted) → with_part a s (with_part b t q) ≡ with_part (a ++ b) (s && t) q
with_part_twice a b s t q = rw (and_more s t q.sure) (simp append_assoc)

-- the bytes that are left of a part are passed over
text_skip : (quote n : ℕ) (bs : List ℕ) → text_from quote n bs ≡ text_from quote 0 (drop n bs)
unfolding text_from
text_skip quote zero bs = refl
text_skip quote (suc n) [] = refl
text_skip quote (suc n) (b ∷ bs) = text_skip quote n bs

-- ---- what a loop knows at each turn: `front` was read, and `rest` is left

and_true : (s : Bool) → (s && true) ≡ s
and_true true = refl
and_true false = refl

cut_off : (front : List ℕ) (sure : Bool) (ending : Ending) (rest : List ℕ) → with_part front sure (ended ending rest) ≡ record { letters = front; rest = rest; ending = ending; sure = sure }
cut_off front sure ending rest = rw (and_true sure) (simp append-nil)

one_more : (quote b : ℕ) (behind front : List ℕ) (sure : Bool) (total : Quoted) (p : Part) → with_part front sure (text_from quote 0 (b ∷ behind)) ≡ total
    → end_of quote (b ∷ behind) ≡ None → next_part b behind ≡ p → 1 ≤ p.len → with_part (front ++ p.letters) (sure && p.sure) (text_from quote 0 (drop p.len (b ∷ behind))) ≡ total
unfolding text_from
one_more quote b behind front sure total p so_far none found low =
    let passed : text_from quote (p.len - 1) behind ≡ text_from quote 0 (drop p.len (b ∷ behind)) = text_skip quote (p.len - 1) behind ∙ ap (text_from quote 0) (drop_first p.len b behind low) in
    let one : text_from quote 0 (b ∷ behind) ≡ with_part p.letters p.sure (text_from quote 0 (drop p.len (b ∷ behind))) = rw (none, found) (ap (with_part p.letters p.sure) passed) in
    sym (with_part_twice front p.letters sure p.sure (text_from quote 0 (drop p.len (b ∷ behind)))) ∙ ap (with_part front sure) (sym one) ∙ so_far

pub goes_on : (quote b : ℕ) (behind rest front : List ℕ) (sure : Bool) (total : Quoted) (p : Part) → rest ≡ b ∷ behind → with_part front sure (text_from quote 0 rest) ≡ total
    → end_of quote rest ≡ None → next_part b behind ≡ p → 1 ≤ p.len → with_part (front ++ p.letters) (sure && p.sure) (text_from quote 0 (drop p.len rest)) ≡ total
goes_on quote b behind rest front sure total p is so_far none found low =
    subst (λ (bs : List ℕ). with_part (front ++ p.letters) (sure && p.sure) (text_from quote 0 (drop p.len bs)) ≡ total) (sym is) (one_more quote b behind front sure total p
    (subst (λ (bs : List ℕ). with_part front sure (text_from quote 0 bs) ≡ total) is so_far) (subst (λ (bs : List ℕ). end_of quote bs ≡ None) is none) found low)

stopped : (quote : ℕ) (rest others : List ℕ) (ending : Ending) → end_of quote rest ≡ Some (ending, others) → text_from quote 0 rest ≡ ended ending others
unfolding text_from end_of
stopped quote [] others ending found = ap (λ (o : Option (Ending × List ℕ)). ended_or o (ended Cut [])) found
stopped quote (b ∷ bs) others ending found =
    let p = next_part b bs in
    ap (λ (o : Option (Ending × List ℕ)). ended_or o (with_part p.letters p.sure (text_from quote (p.len - 1) bs))) found

pub stops : (quote : ℕ) (rest others front : List ℕ) (sure : Bool) (ending : Ending) (total : Quoted) → with_part front sure (text_from quote 0 rest) ≡ total
    → end_of quote rest ≡ Some (ending, others) → record { letters = front; rest = others; ending = ending; sure = sure } ≡ total
stops quote rest others front sure ending total so_far found = sym (cut_off front sure ending others) ∙ ap (with_part front sure) (sym (stopped quote rest others ending found)) ∙ so_far

pub runs_out : (quote : ℕ) (rest front : List ℕ) (sure : Bool) (total : Quoted) → with_part front sure (text_from quote 0 rest) ≡ total → length rest ≡ 0
    → record { letters = front; rest = rest; ending = Cut; sure = sure } ≡ total
unfolding text_from
runs_out quote [] front sure total so_far none = sym (cut_off front sure Cut []) ∙ so_far
runs_out quote (b ∷ bs) front sure total so_far none = absurd (omega arith)
