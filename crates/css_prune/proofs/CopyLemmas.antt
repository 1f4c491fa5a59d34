-- A text without ranges that rise, from one to the next.
use Rattle.std.proofs.Common.{◌≡◌, ℕ, zero, suc, ◌+◌, ◌-◌, ◌<◌, ◌≤◌, max, nat_le, Bool, true, false, ◌||◌, ◌&&◌, List, [], ◌∷◌, ◌++◌, length, take, drop, get_or, slice_range, refl, sym, ap, ◌∙◌, arith, append_assoc}
use Rattle.std.specs.List.{list_any}
use Rattle.std.specs.List.Sorted.{IsNonDecreasingBy}
use Rattle.std.proofs.lemmas.Bool.{le-leb, lt-leb, lt-ltb, le-ltb}
use Rattle.std.proofs.lemmas.List.{drop-drop}
use Rattle.css_read.specs.declared.sheets.Range.{Range}
use Rattle.css_read.specs.Pruned.{is_in, without}
use Rattle.css_read.proofs.CutLemmas.{none_cut}
use Rattle.css_prune.specs.Copying.{RiseFrom}

-- ---- their order

risen : (from : ℕ) (rs : List Range) → ((d : Range) → 0 < length rs → from ≤ (get_or rs 0 d).from) → IsNonDecreasingBy (λ r. r.from) rs → RiseFrom from rs
risen from [] low rises = tt
risen from (r ∷ rs) low rises = (low r (omega arith), risen r.from rs (λ d some. rises 0 1 d (omega arith) (omega arith)) (λ i j d less within. rises (suc i) (suc j) d (omega arith) (omega arith)))

pub all_risen : (rs : List Range) → IsNonDecreasingBy (λ r. r.from) rs → RiseFrom 0 rs
all_risen rs rises = risen 0 rs (λ d some. omega arith) rises

pub same_without : (rs ss : List Range) → ((at : ℕ) → list_any (is_in at) rs ≡ list_any (is_in at) ss) → (at : ℕ) (bs : List ℕ) → without rs at bs ≡ without ss at bs
unfolding without
same_without rs ss same at [] = refl
same_without rs ss same at (b ∷ bs) = rw (same at, same_without rs ss same (at + 1) bs) refl

-- ---- up to the first one

none_in : (from at : ℕ) (rs : List Range) → RiseFrom from rs → at < from → list_any (is_in at) rs ≡ false
none_in from at [] rise less = refl
none_in from at (r ∷ rs) rise less = rw (lt-leb r.from at (omega (arith, rise.0)), none_in r.from at rs rise.1 (omega (arith, rise.0))) refl

stays : (n at to : ℕ) (rs : List Range) (bs : List ℕ) → to ≡ at + n → RiseFrom to rs → without rs at bs ≡ take n bs ++ without rs to (drop n bs)
unfolding without
stays zero at to rs bs end rise = let same : to ≡ at = omega arith in rw same refl
stays (suc n) at to rs [] end rise = refl
stays (suc n) at to rs (b ∷ bs) end rise = rw (none_in to at rs rise (omega arith)) (ap (λ x. b ∷ x) (stays n (at + 1) to rs bs (omega arith) rise))

-- ---- over it

goes : (n at to : ℕ) (r : Range) (rs : List Range) (bs : List ℕ) → to ≡ at + n → r.from ≤ at → to ≤ r.to → without (r ∷ rs) at bs ≡ without (r ∷ rs) to (drop n bs)
unfolding without
goes zero at to r rs bs end begun within = let same : to ≡ at = omega arith in rw same refl
goes (suc n) at to r rs [] end begun within = refl
goes (suc n) at to r rs (b ∷ bs) end begun within = rw (le-leb r.from at begun, lt-ltb at r.to (omega arith)) (goes n (at + 1) to r rs bs (omega arith) (omega arith) within)

and_false : (t u : Bool) → (t && false || u) ≡ u
and_false true u = refl
and_false false u = refl

past : (at : ℕ) (r : Range) (rs : List Range) (bs : List ℕ) → r.to ≤ at → without (r ∷ rs) at bs ≡ without rs at bs
unfolding without
past at r rs [] behind = refl
past at r rs (b ∷ bs) behind = rw (le-ltb at r.to behind, and_false (nat_le r.from at) (list_any (is_in at) rs), past (at + 1) r rs bs (omega arith)) refl

by_order : (m n : ℕ) {P : Type 0} → (m ≤ n → P) → (n < m → P) → P
by_order m n {P} low high = grind arith

over : (at next : ℕ) (r : Range) (rs : List Range) (text : List ℕ) → r.from ≤ at → next ≡ max at r.to → without (r ∷ rs) at (drop at text) ≡ without rs next (drop next text)
over at next r rs text begun is =
    by_order r.to at
    (λ behind. let same : next ≡ at = omega arith in rw same (past at r rs (drop at text) behind))
    (λ inside.
    let end : next ≡ r.to = omega arith in
    let sum : at + (r.to - at) ≡ r.to = omega arith in
    rw end (goes (r.to - at) at r.to r rs (drop at text) (omega arith) begun (omega arith) ∙ rw (drop-drop (r.to - at) at text, sum) (past r.to r rs (drop r.to text) (omega arith))))

-- ---- one range, and what is behind the last one

one_range : (at next : ℕ) (r : Range) (rs : List Range) (text : List ℕ) → RiseFrom r.from rs → next ≡ max (max at r.from) r.to → without (r ∷ rs) at (drop at text) ≡ slice_range text at r.from ++ without rs next (drop next text)
one_range at next r rs text rise is =
    by_order at r.from
    (λ before.
    let sum : at + (r.from - at) ≡ r.from = omega arith in
    stays (r.from - at) at r.from (r ∷ rs) (drop at text) (omega arith) (omega arith, rise)
    ∙ ap (λ x. slice_range text at r.from ++ x) (rw (drop-drop (r.from - at) at text, sum) (over r.from next r rs text (omega arith) (omega arith))))
    (λ begun. let none : r.from - at ≡ 0 = omega arith in rw none (over at next r rs text (omega arith) (omega arith)))

pub one_copied : (at next : ℕ) (r : Range) (rest later : List Range) (text old new all : List ℕ) → rest ≡ r ∷ later → RiseFrom 0 rest → next ≡ max (max at r.from) r.to → new ≡ old ++ slice_range text at r.from
    → old ++ without rest at (drop at text) ≡ all → (new ++ without later next (drop next text) ≡ all) × RiseFrom 0 later
one_copied at next r rest later text old new all first rise is found before =
    let risen = rw first at rise in (
      rw (found, append_assoc old (slice_range text at r.from) (without later next (drop next text)), ← one_range at next r later text risen.1 is, ← first) before,
      lower later r.from 0 (omega arith) risen.1,
    )
  where
    lower : (rs : List Range) (from to : ℕ) → to ≤ from → RiseFrom from rs → RiseFrom to rs
    lower [] from to less rise = tt
    lower (r ∷ rs) from to less rise = (omega (arith, rise.0), rise.1)

pub all_copied : (at : ℕ) (rest : List Range) (text old new all : List ℕ) → length rest ≡ 0 → new ≡ old ++ drop at text → old ++ without rest at (drop at text) ≡ all → new ≡ all
all_copied at (r ∷ rs) text old new all none found before = absurd (omega arith)
all_copied at [] text old new all none found before = found ∙ ap (λ x. old ++ x) (sym (none_cut at (drop at text))) ∙ before
