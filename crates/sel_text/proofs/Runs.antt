-- Steps, one after the other.
use Rattle.std.proofs.Common.{◌≡◌, ℕ, zero, suc, ◌-◌, ◌<◌, Bool, true, List, [], ◌∷◌, length, drop, Ok, Err, refl, sym, ap, ◌∙◌, arith}
use Rattle.tp_base.specs.Names.{Named}
use Rattle.sel_text.specs.declared.faults.SelFault.{SelFault}
use Rattle.text_bytes.specs.Rests.{IsRest}
use Rattle.sel_text.specs.Bytes.{behind_gap}
use Rattle.sel_text.specs.Machine.{Draft, empty_draft, step, finished, run}
use Rattle.sel_text.specs.Reading.{read_piece}
use Rattle.sel_text.proofs.SameReading.{same_reading}

skips : (drops : Bool) (to : ℕ) (d : Draft) (n : ℕ) (bs : List ℕ) → run drops to d n bs ≡ run drops to d 0 (drop n bs)
unfolding run
skips drops to d zero bs = refl
skips drops to d (suc n) [] = refl
skips drops to d (suc n) (b ∷ bs) = skips drops to d n bs

pub goes_on : (drops : Bool) (to : ℕ) (d e : Draft) (bs rest : List ℕ) → step drops to d bs ≡ Ok (e, rest) → IsRest bs rest → length rest < length bs
    → run drops to d 0 bs ≡ run drops to e 0 rest
unfolding run
goes_on drops to d e [] rest is last less = absurd (omega arith)
goes_on drops to d e (b ∷ bs) rest is last less =
    let step : length (b ∷ bs) - length rest ≡ suc (length bs - length rest) = omega arith in
    let same : drop (length bs - length rest) bs ≡ rest = ap (λ n. drop n (b ∷ bs)) (sym step) ∙ last.last in
    rw (is, skips drops to e (length bs - length rest) bs, same) refl

pub fails : (drops : Bool) (to : ℕ) (d : Draft) (bs : List ℕ) (e : SelFault) → step drops to d bs ≡ Err e → 0 < length bs → run drops to d 0 bs ≡ (d.names, Err e)
unfolding run
fails drops to d [] e is some = absurd (omega arith)
fails drops to d (b ∷ bs) e is some = rw is refl

pub ends : (drops : Bool) (to : ℕ) (d : Draft) (bs : List ℕ) → length bs ≡ 0 → run drops to d 0 bs ≡ (d.names, finished to d)
unfolding run
ends drops to d [] none = refl
ends drops to d (b ∷ bs) none = absurd (omega arith)

pub begins : (drops : Bool) (to : ℕ) (d : Draft) (names : List Named) (text rest : List ℕ) → d ≡ empty_draft names → rest ≡ behind_gap true 0 text → run drops to d 0 rest ≡ read_piece drops to text names
begins drops to d names text rest first at = rw (first, at) (same_reading drops to text names)
