-- Steps, one after the other.
use Rattle.std.proofs.Common.{◌≡◌, ℕ, zero, suc, ◌-◌, ◌<◌, nat_lt, Bool, true, false, List, [], ◌∷◌, length, drop, refl, sym, ap, ◌∙◌, arith}
use Rattle.text_bytes.specs.OrderMark.{behind_order_mark}
use Rattle.text_bytes.specs.Rests.{IsRest}
use Rattle.css_read.specs.declared.fronts.Front.{Front}
use Rattle.css_read.specs.declared.fronts.Front.TheVariants.{Passed, Opens, Closes, Styles}
use Rattle.css_read.specs.FoundHolders.{Found, none_found, passed_over, found_after, found_from}
use Rattle.css_read.specs.Holders.{steps_from, steps_of}
use Rattle.css_read.specs.Rules.{next_front, depth_after}
use Rattle.css_read.specs.Units.{begins_gap}
use Rattle.css_read.proofs.SpanLemmas.{steps_skip}

step : (size depth : ℕ) (bs rest : List ℕ) (f : Front) → (f, rest) ≡ next_front (nat_lt 0 depth) bs → IsRest bs rest → length rest < length bs
    → steps_from size depth 0 bs ≡ (record { front = f; from = size - length bs; to = size - length rest }) ∷ steps_from size (depth_after depth f) 0 rest
unfolding steps_from
step size depth [] rest f is last less = absurd (omega arith)
step size depth (b ∷ bs) rest f is last less =
    let count : length (b ∷ bs) - length rest ≡ suc (length bs - length rest) = omega arith in
    let behind : drop (length bs - length rest) bs ≡ rest = ap (λ n. drop n (b ∷ bs)) (sym count) ∙ last.last in
    rw (← is, steps_skip size (depth_after depth f) (length bs - length rest) bs, behind) refl

length-behind : (outer : List ℕ) → length (drop 1 outer) ≡ length outer - 1
length-behind [] = refl
length-behind (n ∷ outer) = omega arith

depth_found : (text : List ℕ) (found : Found) (f : Front) (from to : ℕ) → length (found_after text found f from to).opened ≡ depth_after (length found.opened) f
depth_found text found Passed from to = by (begins_gap (drop from text))
  where
    by : (gap : Bool) → length (passed_over gap found).opened ≡ length found.opened
    by true = refl
    by false = refl
depth_found text found Opens from to = omega arith
depth_found text found Closes from to = length-behind found.opened
depth_found text found (Styles len) from to = refl

pub goes_on : (text : List ℕ) (found later : Found) (size : ℕ) (bs rest : List ℕ) (f : Front) → (f, rest) ≡ next_front (nat_lt 0 (length found.opened)) bs → IsRest bs rest → length rest < length bs
    → later ≡ found_after text found f (size - length bs) (size - length rest)
    → found_from text found (steps_from size (length found.opened) 0 bs) ≡ found_from text later (steps_from size (length later.opened) 0 rest)
unfolding found_from
goes_on text found later size bs rest f is last less more =
    let depth : length later.opened ≡ depth_after (length found.opened) f = ap (λ (x : Found). length x.opened) more ∙ depth_found text found f (size - length bs) (size - length rest) in
    rw (step size (length found.opened) bs rest f is last less, depth, more) refl

pub ends : (text : List ℕ) (found : Found) (size depth : ℕ) (bs : List ℕ) → length bs ≡ 0 → found_from text found (steps_from size depth 0 bs) ≡ found
unfolding found_from steps_from
ends text found size depth [] none = refl
ends text found size depth (b ∷ bs) none = absurd (omega arith)

pub begins : (text rest : List ℕ) (found : Found) → found ≡ none_found → rest ≡ behind_order_mark text
    → found_from text found (steps_from (length text) (length found.opened) 0 rest) ≡ found_from text none_found (steps_of text)
unfolding steps_of
begins text rest found first at = rw (first, at) refl
