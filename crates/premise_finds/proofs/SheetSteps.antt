-- A sheet's parts and the places in them, one after the other.
use Rattle.std.proofs.Common.{◌≡◌, ℕ, zero, suc, ◌+◌, ◌-◌, ◌<◌, nat_lt, Bool, List, [], ◌∷◌, ◌++◌, length, drop, Option, refl, sym, ap, ◌∙◌, append_assoc, arith}
use Rattle.std.proofs.lemmas.List.{append-nil}
use Rattle.text_bytes.specs.OrderMark.{behind_order_mark}
use Rattle.text_bytes.specs.Rests.{IsRest}
use Rattle.css_read.specs.declared.fronts.Front.{Front}
use Rattle.css_read.specs.Rules.{next_front, depth_after}
use Rattle.css_read.specs.Units.{behind_unit}
use Rattle.premise_finds.specs.declared.names.Name.{Name}
use Rattle.premise_finds.specs.declared.findings.Finding.{Finding}
use Rattle.premise_finds.specs.declared.sheets.Region.{Region}
use Rattle.premise_finds.specs.SheetNames.{name_at}
use Rattle.premise_finds.specs.Sheets.{one, found_from, found_in, found_in_front, findings_from, layer_at, layers_from, text_findings}

-- what is left of bytes behind the first of them
rest_of : (b : ℕ) (bs rest : List ℕ) → IsRest (b ∷ bs) rest → length rest < length (b ∷ bs) → drop (length bs - length rest) bs ≡ rest
rest_of b bs rest last less =
    let count : length (b ∷ bs) - length rest ≡ suc (length bs - length rest) = omega arith in
    ap (λ n. drop n (b ∷ bs)) (sym count) ∙ last.last

-- ---- in a part

found_skips : (region : Region) (several : Bool) (to n : ℕ) (bs : List ℕ) → found_from region several to n bs ≡ found_from region several to 0 (drop n bs)
unfolding found_from
found_skips region several to zero bs = refl
found_skips region several to (suc n) [] = refl
found_skips region several to (suc n) (b ∷ bs) = found_skips region several to n bs

-- with what was found before
pub found_step : (before : List Finding) (region : Region) (several : Bool) (to : ℕ) (bs rest : List ℕ) (name : Option Name)
    → name ≡ name_at region several bs → rest ≡ behind_unit bs → IsRest bs rest → length rest < length bs
    → (before ++ one name (to - length bs) to) ++ found_in region several to rest ≡ before ++ found_in region several to bs
unfolding found_from
found_step before region several to [] rest name is unit last less = absurd (omega arith)
found_step before region several to (b ∷ bs) rest name is unit last less =
    rw (is, ← unit, found_skips region several to (length bs - length rest) bs, rest_of b bs rest last less)
    (append_assoc before (one (name_at region several (b ∷ bs)) (to - length (b ∷ bs)) to) (found_from region several to 0 rest))

pub found_ends : (before all : List Finding) (region : Region) (several : Bool) (to : ℕ) (bs : List ℕ) → length bs ≡ 0 → before ++ found_in region several to bs ≡ all → before ≡ all
unfolding found_from
found_ends before all region several to [] none found = sym (append-nil before) ∙ found
found_ends before all region several to (b ∷ bs) none found = absurd (omega arith)

-- what is found in two parts, one after the other
pub joined : (before first second middle all : List Finding) → middle ≡ before ++ first → all ≡ middle ++ second → all ≡ before ++ (first ++ second)
joined before first second middle all one' two = two ∙ ap (λ fs. fs ++ second) one' ∙ append_assoc before first second

-- ---- layers

layers_skip : (n : ℕ) (bs : List ℕ) → layers_from n bs ≡ layers_from 0 (drop n bs)
unfolding layers_from
layers_skip zero bs = refl
layers_skip (suc n) [] = refl
layers_skip (suc n) (b ∷ bs) = layers_skip n bs

pub layers_step : (n : ℕ) (bs rest : List ℕ) → n ≡ layer_at bs → rest ≡ behind_unit bs → IsRest bs rest → length rest < length bs → layers_from 0 bs ≡ n + layers_from 0 rest
unfolding layers_from
layers_step n [] rest is unit last less = absurd (omega arith)
layers_step n (b ∷ bs) rest is unit last less = rw (is, ← unit, layers_skip (length bs - length rest) bs, rest_of b bs rest last less) refl

pub no_layers : (bs : List ℕ) → length bs ≡ 0 → layers_from 0 bs ≡ 0
unfolding layers_from
no_layers [] none = refl
no_layers (b ∷ bs) none = absurd (omega arith)

-- ---- in a sheet

skips : (several : Bool) (size depth n : ℕ) (bs : List ℕ) → findings_from several size depth n bs ≡ findings_from several size depth 0 (drop n bs)
unfolding findings_from
skips several size depth zero bs = refl
skips several size depth (suc n) [] = refl
skips several size depth (suc n) (b ∷ bs) = skips several size depth n bs

pub goes_on : (before : List Finding) (several : Bool) (size depth : ℕ) (bs rest : List ℕ) (f : Front) → (f, rest) ≡ next_front (nat_lt 0 depth) bs → IsRest bs rest → length rest < length bs
    → (before ++ found_in_front several size bs (f, rest)) ++ findings_from several size (depth_after depth f) 0 rest ≡ before ++ findings_from several size depth 0 bs
unfolding findings_from
goes_on before several size depth [] rest f is last less = absurd (omega arith)
goes_on before several size depth (b ∷ bs) rest f is last less =
    rw (← is, skips several size (depth_after depth f) (length bs - length rest) bs, rest_of b bs rest last less)
    (append_assoc before (found_in_front several size (b ∷ bs) (f, rest)) (findings_from several size (depth_after depth f) 0 rest))

pub ends : (before all : List Finding) (several : Bool) (size depth : ℕ) (bs : List ℕ) → length bs ≡ 0 → before ++ findings_from several size depth 0 bs ≡ all → before ≡ all
unfolding findings_from
ends before all several size depth [] none found = sym (append-nil before) ∙ found
ends before all several size depth (b ∷ bs) none found = absurd (omega arith)

pub begins : (several : Bool) (text sheet : List ℕ) → several ≡ nat_lt 1 (layers_from 0 sheet) → sheet ≡ behind_order_mark text
    → findings_from several (length text) 0 0 sheet ≡ text_findings text
unfolding text_findings
begins several text sheet layers at = rw (layers, at) refl
