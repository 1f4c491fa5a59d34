-- Changes that are noted kind by kind, and put in the order of their atoms.
use Rattle.std.proofs.Common.{◌≡◌, ℕ, zero, suc, ◌+◌, ◌<◌, ◌≤◌, true, false, not, nat_lt, nat_le, eqb, ◌==◌, ◌&&◌, if◌then◌else◌, List, [], ◌∷◌, ◌++◌, length, map, filter, take, drop, get_or, refl, sym, ap, ◌∙◌, subst, arith, inl, inr}
use Rattle.std.specs.List.{zip}
use Rattle.std.specs.List.Sorted.{IsNonDecreasingBy, IsStableByKey, ties, IsPartitionPoint}
use Rattle.std.specs.Ordering.{nat_cmp, is_lt}
use Rattle.std.proofs.lemmas.Bool.{cases_Bool, cases_lt, cases_order, eqb-true, eq-eqb, ne_eqb, lt-ltb, le-ltb, ltb-true, ltb-false, leb-true, leb-false, le-leb, lt-leb}
use Rattle.std.proofs.lemmas.List.{map-append, length-map, get_or-map, take_all, length-take-le}
use Rattle.std.proofs.lemmas.List.Elements.{filter-append, filter_agree}
use Rattle.std.proofs.lemmas.Slice.Zip.{firsts-zip}
use Rattle.row_index.specs.Rows.{row_of, IsNoted}
use Rattle.row_index.proofs.RowLemmas.{noted_at}
use Rattle.class_diagrams.specs.References.{leaf_reference}
use Rattle.saturation.specs.Histories.{Change}
use Rattle.pushdown_sym.specs.Starts.{StartsAt}
use Rattle.saturation.specs.HistoryMap.{Noted, changes_of, AreApart, history_in, EndsAt, IsBehind}

-- ### one change more

changes_push : (a atom : ℕ) (change : Change) (row : List Noted) → changes_of a (row ++ (atom, change) ∷ []) ≡ (if atom == a then changes_of atom row ++ change ∷ [] else changes_of a row)
changes_push a atom change row =
    let apart : changes_of a (row ++ (atom, change) ∷ []) ≡ changes_of a row ++ changes_of a ((atom, change) ∷ []) =
    ap (map (λ (n : Noted). n.1)) (filter-append (λ (n : Noted). n.0 == a) row ((atom, change) ∷ [])) ∙ map-append (λ (n : Noted). n.1) (filter (λ (n : Noted). n.0 == a) row) (filter (λ (n : Noted). n.0 == a) ((atom, change) ∷ [])) in
    elim (cases_Bool (eqb atom a)) [
      | inl here ↦ rw here (apart ∙ rw here (ap (λ b. changes_of b row ++ change ∷ []) (sym (eqb-true atom a here))))
      | inr other ↦ rw other (apart ∙ rw other (append_none (changes_of a row)))
    ]
  where
    append_none : (cs : List Change) → cs ++ [] ≡ cs
    append_none [] = refl
    append_none (c ∷ cs) = ap (λ ds. c ∷ ds) (append_none cs)

pub pushed : (old new : List (List Noted)) (kind atom : ℕ) (change : Change) → IsNoted old new kind (atom, change)
    → (j a : ℕ) → history_in new j a ≡ (if (kind == j) && (atom == a) then history_in old kind atom ++ change ∷ [] else history_in old j a)
pushed old new kind atom change noted j a =
    let at = noted_at {V = Noted} old new kind (atom, change) noted j in
    elim (cases_Bool (eqb kind j)) [
      | inr other ↦ rw other (ap (changes_of a) (rw other at at))
      | inl here ↦
          let row : row_of new j ≡ row_of old kind ++ (atom, change) ∷ [] = rw here at at in
          let more : history_in new j a ≡ (if atom == a then history_in old kind atom ++ change ∷ [] else history_in old kind a) = ap (changes_of a) row ∙ changes_push a atom change (row_of old kind) in
          elim (cases_Bool (eqb atom a)) [
            | inl same ↦ rw (here, same) (rw same at more)
            | inr apart ↦ rw (here, apart) ((rw apart at more) ∙ ap (λ k. history_in old k a) (eqb-true kind j here))
          ]
    ]

-- ### in the order of the atoms

numbers_tie : (a b : ℕ) → (not (is_lt (nat_cmp b a)) && not (is_lt (nat_cmp a b))) ≡ eqb a b
numbers_tie a b = elim (cases_order a b) [
  | inl same ↦ rw (le-ltb b a (omega (arith, same)), le-ltb a b (omega (arith, same)), eq-eqb a b same, eq-eqb b a (sym same)) refl
  | inr (inl less) ↦ rw (le-ltb b a (omega (arith, less)), lt-ltb a b less, ne_eqb a b (λ same. omega (arith, less, same)), ne_eqb b a (λ same. omega (arith, less, same))) refl
  | inr (inr more) ↦ rw (lt-ltb b a more) (sym (ne_eqb a b (λ same. omega (arith, more, same))))
]

-- a sort by the atoms that keeps the order of equal ones leaves the changes of each as they are
pub sorted_same : (xs ys : List Noted) → IsStableByKey (λ (n : Noted). n.0) nat_cmp xs ys → (a : ℕ) → changes_of a ys ≡ changes_of a xs
sorted_same xs ys stable a =
    let one : Noted = (a, (0, leaf_reference false)) in
    let alike : (n : Noted) → ties (λ (x y : Noted). is_lt (nat_cmp x.0 y.0)) one n ≡ eqb n.0 a = λ n. numbers_tie n.0 a in
    ap (map (λ (n : Noted). n.1))
    (sym (filter_agree (ties (λ (x y : Noted). is_lt (nat_cmp x.0 y.0)) one) (λ (n : Noted). eqb n.0 a) alike ys)
    ∙ stable one
    ∙ filter_agree (ties (λ (x y : Noted). is_lt (nat_cmp x.0 y.0)) one) (λ (n : Noted). eqb n.0 a) alike xs)

-- ### two columns

pub zip_columns : (row : List Noted) → zip (map (λ (n : Noted). n.0) row) (map (λ (n : Noted). n.1) row) ≡ row
zip_columns [] = refl
zip_columns (n ∷ row) = ap (λ ns. n ∷ ns) (zip_columns row)

pub columns_apart : (row : List Noted) → IsNonDecreasingBy (λ (n : Noted). n.0) row → AreApart (map (λ (n : Noted). n.0) row) (map (λ (n : Noted). n.1) row)
columns_apart row order = record {
  order = λ i j d le less.
      let within : j < length row = subst (λ n. j < n) (length-map row (λ (n : Noted). n.0)) less in
      let one : Noted = (d, (0, leaf_reference false)) in
      let low = get_or-map (λ (n : Noted). n.0) row i one d (omega (arith, le, within)) in
      let high = get_or-map (λ (n : Noted). n.0) row j one d within in
      let rises = order i j one le within in
      subst (λ m. m ≤ get_or (map (λ (n : Noted). n.0) row) j d) (sym low) (subst (λ m. (get_or row i one).0 ≤ m) (sym high) rises);
  count = length-map row (λ (n : Noted). n.0) ∙ sym (length-map row (λ (n : Noted). n.1));
}

-- ### the part of one atom

none_left : (n : ℕ) → drop {A = Change} n [] ≡ []
none_left zero = refl
none_left (suc n) = refl

-- those at the places from `from` to `to` are of the atom, and no others
pub part_is : (a : ℕ) (atoms : List ℕ) (changes : List Change) (from to : ℕ) → length atoms ≡ length changes
    → ((k : ℕ) → k < length atoms → k < from → eqb (get_or atoms k a) a ≡ false)
    → ((k : ℕ) → k < length atoms → from ≤ k → k < to → eqb (get_or atoms k a) a ≡ true)
    → ((k : ℕ) → k < length atoms → to ≤ k → eqb (get_or atoms k a) a ≡ false)
    → drop from (take to changes) ≡ changes_of a (zip atoms changes)
part_is a [] [] zero zero same before within behind = refl
part_is a [] [] zero (suc to) same before within behind = refl
part_is a [] [] (suc from) zero same before within behind = refl
part_is a [] [] (suc from) (suc to) same before within behind = refl
part_is a [] (c ∷ changes) from to same before within behind = absurd (omega (arith, same))
part_is a (b ∷ atoms) [] from to same before within behind = absurd (omega (arith, same))
part_is a (b ∷ atoms) (c ∷ changes) (suc from) (suc to) same before within behind =
    rw (before 0 (omega arith) (omega arith))
    (part_is a atoms changes from to (omega (arith, same)) (λ k less lower. before (suc k) (omega arith) (omega arith)) (λ k less le lower. within (suc k) (omega arith) (omega arith) (omega arith)) (λ k less le. behind (suc k) (omega arith) (omega arith)))
part_is a (b ∷ atoms) (c ∷ changes) zero (suc to) same before within behind =
    rw (within 0 (omega arith) (omega arith) (omega arith))
    (ap (λ cs. c ∷ cs) (part_is a atoms changes zero to (omega (arith, same)) (λ k less lower. absurd (omega arith)) (λ k less le lower. within (suc k) (omega arith) (omega arith) (omega arith)) (λ k less le. behind (suc k) (omega arith) (omega arith))))
part_is a (b ∷ atoms) (c ∷ changes) zero zero same before within behind =
    rw (behind 0 (omega arith) (omega arith))
    (part_is a atoms changes zero zero (omega (arith, same)) (λ k less lower. absurd (omega arith)) (λ k less le lower. absurd (omega arith)) (λ k less le. behind (suc k) (omega arith) (omega arith)))
part_is a (b ∷ atoms) (c ∷ changes) (suc from) zero same before within behind =
    rw (behind 0 (omega arith) (omega arith))
    (sym (none_left from) ∙ part_is a atoms changes from zero (omega (arith, same)) (λ k less lower. before (suc k) (omega arith) (omega arith)) (λ k less le lower. absurd (omega arith)) (λ k less le. behind (suc k) (omega arith) (omega arith)))

module _ (a : ℕ) (atoms : List ℕ) (changes : List Change) (from to : ℕ) (apart : AreApart atoms changes)
    (low : IsPartitionPoint (λ b. nat_lt b a ≡ true) (λ b. nat_lt b a ≡ false) atoms from)
    (high : IsPartitionPoint (λ b. nat_le b a ≡ true) (λ b. nat_le b a ≡ false) atoms to)
    (from_within : from ≤ length atoms) (to_within : to ≤ length atoms) where
  less : (k : ℕ) → k < from → get_or atoms k a < a
  less k before = ltb-true (get_or atoms k a) a (low.0 k a (omega arith) before)

  not_less : (k : ℕ) → k < length atoms → from ≤ k → a ≤ get_or atoms k a
  not_less k within le = ltb-false (get_or atoms k a) a (low.1 k a le within)

  not_more : (k : ℕ) → k < to → get_or atoms k a ≤ a
  not_more k before = leb-true (get_or atoms k a) a (high.0 k a (omega arith) before)

  more : (k : ℕ) → k < length atoms → to ≤ k → a < get_or atoms k a
  more k within le = leb-false (get_or atoms k a) a (high.1 k a le within)

  part_ordered : from ≤ to
  part_ordered = elim (cases_lt to from) [
    | inl wrong ↦ let below = less to wrong in let above = more to (omega (arith, wrong, from_within)) (omega arith) in absurd (omega (arith, below, above))
    | inr right ↦ right
  ]

  -- the changes between the two places are those of the atom
  part_found : drop from (take to changes) ≡ changes_of a (zip atoms changes)
  part_found = part_is a atoms changes from to apart.count
      (λ k within before. ne_eqb (get_or atoms k a) a (λ same. let below = less k before in omega (arith, below, same)))
      (λ k within le before. let above = not_less k within le in let below = not_more k before in eq-eqb (get_or atoms k a) a (omega (arith, above, below)))
      (λ k within le. ne_eqb (get_or atoms k a) a (λ same. let above = more k within le in omega (arith, above, same)))

-- where what is no greater ends, by where what is less than the next number does
pub ends_before : (a n : ℕ) (atoms : List ℕ) (to : ℕ) → n ≡ a → StartsAt (n + 1) atoms to → EndsAt a atoms to
ends_before a n atoms to same starts = (
  λ k d zero before. let below = ltb-true (get_or atoms k d) (n + 1) (starts.0 k d zero before) in le-leb (get_or atoms k d) a (omega (arith, below, same)),
  λ k d le within. let above = ltb-false (get_or atoms k d) (n + 1) (starts.1 k d le within) in lt-leb (get_or atoms k d) a (omega (arith, above, same)),
)

-- the same of what was searched
pub part_of : (a : ℕ) (atoms xs ys : List ℕ) (changes : List Change) (from to : ℕ) → AreApart atoms changes → xs ≡ atoms → ys ≡ atoms
    → IsPartitionPoint (λ b. nat_lt b a ≡ true) (λ b. nat_lt b a ≡ false) xs from → IsPartitionPoint (λ b. nat_le b a ≡ true) (λ b. nat_le b a ≡ false) ys to
    → from ≤ length xs → to ≤ length ys
    → (from ≤ length (take to changes)) × (drop from (take to changes) ≡ changes_of a (zip atoms changes))
part_of a atoms xs ys changes from to apart same_xs same_ys at_xs at_ys from_within to_within =
    let low = subst (λ (z : List ℕ). IsPartitionPoint (λ b. nat_lt b a ≡ true) (λ b. nat_lt b a ≡ false) z from) same_xs at_xs in
    let high = subst (λ (z : List ℕ). IsPartitionPoint (λ b. nat_le b a ≡ true) (λ b. nat_le b a ≡ false) z to) same_ys at_ys in
    let from_in : from ≤ length atoms = subst (λ (z : List ℕ). from ≤ length z) same_xs from_within in
    let to_in : to ≤ length atoms = subst (λ (z : List ℕ). to ≤ length z) same_ys to_within in
    let long : length (take to changes) ≡ to = length-take-le to changes (omega (arith, to_in, apart.count)) in
    let ordered = part_ordered a atoms changes from to apart low high from_in to_in in
    (omega (arith, long, ordered), part_found a atoms changes from to apart low high from_in to_in)

-- the place where they end, in the row
pub place_behind : (a : ℕ) (atoms ys : List ℕ) (changes : List Change) (to : ℕ) → AreApart atoms changes → ys ≡ atoms → EndsAt a ys to → to ≤ length ys → IsBehind a (zip atoms changes) to
place_behind a atoms ys changes to apart same at within =
    let columns : map (λ (n : Noted). n.0) (zip atoms changes) ≡ atoms = firsts-zip atoms changes (sym apart.count) in
    let long : length (zip atoms changes) ≡ length atoms = sym (length-map (zip atoms changes) (λ (n : Noted). n.0)) ∙ ap length columns in
    let inside : to ≤ length atoms = subst (λ (z : List ℕ). to ≤ length z) same within in
    (omega (arith, long, inside), subst (λ (z : List ℕ). EndsAt a z to) (same ∙ sym columns) at)

-- columns that were filled to the end
module _ (row : List Noted) (i : ℕ) (atoms : List ℕ) (changes : List Change) (end : length row ≤ i)
    (filled : (atoms ≡ map (λ (n : Noted). n.0) (take i row)) × (changes ≡ map (λ (n : Noted). n.1) (take i row))) where
  all_atoms : atoms ≡ map (λ (n : Noted). n.0) row
  all_atoms = filled.0 ∙ ap (map (λ (n : Noted). n.0)) (take_all i row end)

  all_changes : changes ≡ map (λ (n : Noted). n.1) row
  all_changes = filled.1 ∙ ap (map (λ (n : Noted). n.1)) (take_all i row end)

  pub filled_apart : IsNonDecreasingBy (λ (n : Noted). n.0) row → AreApart atoms changes
  filled_apart order = subst (λ (z : List ℕ). AreApart z changes) (sym all_atoms) (subst (λ (z : List Change). AreApart (map (λ (n : Noted). n.0) row) z) (sym all_changes) (columns_apart row order))

  pub filled_whole : zip atoms changes ≡ row
  filled_whole = (λ n. zip (all_atoms n) (all_changes n)) ∙ zip_columns row
