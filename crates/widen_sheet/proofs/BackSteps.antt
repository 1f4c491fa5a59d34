-- Marks and bytes, one after the other.
use Rattle.std.proofs.Common.{Bool, not, ◌&&◌, ◌≡◌, ℕ, zero, suc, ◌-◌, ◌<◌, true, false, List, [], ◌∷◌, ◌++◌, length, take, drop, Some, None, Ok, Err, refl, sym, ap, ◌∙◌, arith, append_assoc, append-nil}
use Rattle.text_bytes.specs.Rests.{IsRest}
use Rattle.sel_text.specs.Bytes.{begins_with}
use Rattle.widen_sheet.specs.Wide.{Back, behind_text, opens_mark, mark_at, back_from}
use Rattle.widen_sheet.specs.declared.faults.BackFault.{BackFault}
use Rattle.widen_sheet.specs.declared.faults.BackFault.TheVariants.{NoMark}

pub skips : (size : ℕ) (star : Bool) (n : ℕ) (bs : List ℕ) → back_from size star n bs ≡ back_from size star 0 (drop n bs)
unfolding back_from
skips size star zero bs = refl
skips size star (suc n) [] = refl
skips size star (suc n) (b ∷ bs) = skips size star n bs

pub joined : (xs ys : List ℕ) (r : Back) → behind_text (xs ++ ys) r ≡ behind_text xs (behind_text ys r)
joined xs ys (Ok zs) = ap Ok (append_assoc xs ys zs)
joined xs ys (Err e) = refl

pub begins : (r : Back) → behind_text [] r ≡ r
begins (Ok zs) = refl
begins (Err e) = refl

pub one_mark : (size : ℕ) (star : Bool) (bs own behind : List ℕ) → mark_at bs ≡ Some (own, behind) → IsRest bs behind → length behind < length bs → back_from size star 0 bs ≡ behind_text own (back_from size (begins_with 42 bs) 0 behind)
unfolding back_from
one_mark size star [] own behind at last less = absurd (omega arith)
one_mark size star (b ∷ bs) own behind at last less =
    let step : length (b ∷ bs) - length behind ≡ suc (length bs - length behind) = omega arith in
    let same : drop (length bs - length behind) bs ≡ behind = ap (λ n. drop n (b ∷ bs)) (sym step) ∙ last.last in
    rw (at, skips size (begins_with 42 (b ∷ bs)) (length bs - length behind) bs, same) refl

pub behind_one : (size : ℕ) (star : Bool) (bs own behind out later : List ℕ) → mark_at bs ≡ Some (own, behind) → IsRest bs behind → length behind < length bs → later ≡ out ++ own
    → behind_text later (back_from size (begins_with 42 bs) 0 behind) ≡ behind_text out (back_from size star 0 bs)
behind_one size star bs own behind out later at last less put = rw put (joined out own (back_from size (begins_with 42 bs) 0 behind) ∙ ap (behind_text out) (sym (one_mark size star bs own behind at last less)))

pub one_byte : (size : ℕ) (star : Bool) (bs first behind out later : List ℕ) → mark_at bs ≡ None → (opens_mark bs && not star) ≡ false → 0 < length bs → first ≡ take 1 bs → behind ≡ drop 1 bs → later ≡ out ++ first
    → behind_text later (back_from size (begins_with 42 bs) 0 behind) ≡ behind_text out (back_from size star 0 bs)
unfolding back_from
one_byte size star [] first behind out later at other some is last put = absurd (omega arith)
one_byte size star (b ∷ bs) first behind out later at other some is last put = rw (put, is, last, at, other) (joined out (b ∷ []) (back_from size (begins_with 42 (b ∷ bs)) 0 bs))

pub no_mark : (size : ℕ) (star : Bool) (bs : List ℕ) → mark_at bs ≡ None → (opens_mark bs && not star) ≡ true → 0 < length bs → back_from size star 0 bs ≡ Err (NoMark (size - length bs))
unfolding back_from
no_mark size star [] at opens some = absurd (omega arith)
no_mark size star (b ∷ bs) at opens some = rw (at, opens) refl

pub ends : (size : ℕ) (star : Bool) (bs out : List ℕ) (all : Back) → length bs ≡ 0 → behind_text out (back_from size star 0 bs) ≡ all → all ≡ Ok out
unfolding back_from
ends size star [] out all none put = sym put ∙ ap Ok (append-nil out)
ends size star (b ∷ bs) out all none put = absurd (omega arith)

pub failed : (out : List ℕ) (part all : Back) (e : BackFault) → part ≡ Err e → behind_text out part ≡ all → all ≡ Err e
failed out part all e is put = sym put ∙ rw is refl
