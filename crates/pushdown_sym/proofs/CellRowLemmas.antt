-- The cells of each atom, in a row by their kinds.
--     found, missed     what the place of a kind says of its diagram
--     put_at, put_new   a row with one diagram changed
--     place_is          a cell stands in the row of its atom
use Rattle.std.proofs.Common.{◌≡◌, ◌≢◌, ℕ, Bool, zero, suc, ◌+◌, ◌-◌, ◌<◌, ◌≤◌, eqb, true, false, ◌==◌, ◌&&◌, if◌then◌else◌, List, [], ◌∷◌, ◌++◌, map, length, set, get_or, slice_get, Option, Some, None, Result, Ok, Err, IfOk, IfErr, ltb, unwrap_or, Contains, refl, sym, ap, subst, ◌∙◌, arith, inl, inr}
use Rattle.std.specs.Map.{lookup}
use Rattle.std.specs.List.{insert}
use Rattle.std.specs.List.Sorted.{IsSearchInRange, IsBinarySearchResult, IsNonDecreasingBy, IsStrictlyIncreasing}
use Rattle.std.specs.Ordering.{nat_cmp, ordering_index}
use Rattle.std.proofs.lemmas.Cmp.{ranked}
use Rattle.std.proofs.lemmas.Bool.{cases_Bool, cases_lt, eqb-true, ltb-true, ltb-false, eq-eqb, ne_eqb, both_ways}
use Rattle.std.proofs.lemmas.Bool.Decides.{nat_tests}
use Rattle.std.proofs.lemmas.List.{get_or-map, length-map, get_or_default, get_or_past, get_or-set_same, get_or-set_other}
use Rattle.std.proofs.lemmas.List.Elements.{All-contains, Contains-append_left, Contains-append_right}
use Rattle.std.proofs.lemmas.List.Sorted.{IsNonDecreasingBy-from_default}
use Rattle.std.proofs.lemmas.Option.{same_Some, slice_get-get_or, slice_get_within, slice_get_read, get_or_from_slice_get}
use Rattle.tp_base.specs.Classes.{with_class}
use Rattle.tp_base.proofs.ClassLemmas.{Contains-with_class, IsStrictlyIncreasing-with_class, with_class-below, with_class-above}
use Rattle.tp_base.proofs.Lists.{Contains-at, map_at}
use Rattle.tp_base.proofs.Rising.{rises_between, rises_head, rises_tail, Contains-here, Contains-behind, Contains-none}
use Rattle.class_diagrams.specs.References.{Reference, leaf_reference}
use Rattle.pushdown_sym.specs.declared.cells.CellKey.{CellKey}
use Rattle.pushdown_sym.specs.CellMap.{Entries, place_in}
use Rattle.row_index.specs.Rows.{row_of}
use Rattle.pushdown_sym.specs.CellRows.{KindRow, kinds_of, diagram_in, AreNoted, IsAt, IsGapOf, entry_of, entries_from, entries_of}

-- ### one row

nothing : (e : ℕ × Reference) → slice_get [] 0 ≡ Some e → ⊥
nothing e at = let never : None ≡ Some e = at in cc

-- a kind is there at some place before the others
later : (x : ℕ × Reference) (row : KindRow) (j i : ℕ) → IsStrictlyIncreasing (kinds_of (x ∷ row)) → IsAt row j i → x.0 < j
later x row j i rises at =
    All-contains (λ y. x.0 < y) (kinds_of row) j (rises_head x.0 (kinds_of row) rises)
    (Contains-at (kinds_of row) i j (map_at (λ (e : ℕ × Reference). e.0) row i (j, at.0) at.1))

-- a kind that stands somewhere has the diagram that stands there
pub found : (row : KindRow) (j i : ℕ) (p : Reference) → IsStrictlyIncreasing (kinds_of row) → slice_get row i ≡ Some (j, p) → diagram_in row j ≡ p
found [] j i p rises at = absurd (nothing (j, p) at)
found (x ∷ row) j zero p rises at =
    let same : x ≡ (j, p) = same_Some x (j, p) at in
    let here : eqb j x.0 ≡ true = eq-eqb j x.0 (ap (λ (e : ℕ × Reference). e.0) (sym same)) in
    rw here (ap (λ (e : ℕ × Reference). e.1) same)
found (x ∷ row) j (suc i) p rises at =
    let less = later x row j i rises (p, at) in
    let other : eqb j x.0 ≡ false = ne_eqb j x.0 (λ same. omega (arith, less, same)) in
    rw other (found row j i p (rises_tail x.0 (kinds_of row) rises) at)

-- a kind whose diagram isn't false is there
pub listed : (row : KindRow) (j : ℕ) → diagram_in row j ≢ leaf_reference false → Contains (kinds_of row) j
listed [] j some = absurd (some refl)
listed (x ∷ row) j some = elim (cases_Bool (eqb j x.0)) [
  | inl here ↦ Contains-here j x.0 (kinds_of row) (eqb-true j x.0 here)
  | inr other ↦ Contains-behind j x.0 (kinds_of row) (listed row j (rw other at some))
]

tail_gap : (x : ℕ × Reference) (row : KindRow) (j i : ℕ) → IsGapOf (x ∷ row) j (suc i) → IsGapOf row j i
tail_gap x row j i gap = record {
  in_range = omega (arith, gap.in_range);
  smaller = λ k less. gap.smaller (suc k) (omega arith);
  greater = λ k le within. gap.greater (suc k) (omega arith) (omega arith);
}

-- a kind that would be new isn't there
pub missed : (row : KindRow) (j i : ℕ) → IsGapOf row j i → diagram_in row j ≡ leaf_reference false
missed [] j i gap = refl
missed (x ∷ row) j zero gap =
    let less : j < x.0 = gap.greater 0 (omega arith) (omega arith) in
    rw (ne_eqb j x.0 (λ same. omega (arith, less, same)))
    (missed row j zero (record {
      in_range = omega arith;
      smaller = λ k before. absurd (omega arith);
      greater = λ k le within. gap.greater (suc k) (omega arith) (omega arith);
    }))
missed (x ∷ row) j (suc i) gap =
    let more : x.0 < j = gap.smaller 0 (omega arith) in
    rw (ne_eqb j x.0 (λ same. omega (arith, more, same))) (missed row j i (tail_gap x row j i gap))

-- the same of what is read at the place
pub found_read : (row : KindRow) (j i : ℕ) (x : ℕ × Reference) → IsStrictlyIncreasing (kinds_of row) → IsAt row j i → x ≡ get_or row i x → x.1 ≡ diagram_in row j
found_read row j i x rises at is =
    ap (λ (e : ℕ × Reference). e.1) (is ∙ get_or_from_slice_get row i (j, at.0) x at.1) ∙ sym (found row j i at.0 rises at.1)

-- ### one diagram changed

other_first : (x : ℕ × Reference) (row : KindRow) (kind j : ℕ) (to : Reference) (new : KindRow) → x.0 ≢ kind
    → diagram_in new j ≡ (if kind == j then to else diagram_in row j) → diagram_in (x ∷ new) j ≡ (if kind == j then to else diagram_in (x ∷ row) j)
other_first x row kind j to new apart same = elim (cases_Bool (eqb j x.0)) [
  | inl here ↦
      let other : eqb kind j ≡ false = ne_eqb kind j (λ equal. apart (sym (equal ∙ eqb-true j x.0 here))) in
      rw (here, other) refl
  | inr behind ↦ rw behind same
]

own_only : (kind j : ℕ) (to : Reference) → diagram_in ((kind, to) ∷ []) j ≡ (if kind == j then to else leaf_reference false)
own_only kind j to = elim (cases_Bool (eqb kind j)) [
  | inl here ↦ rw (here, eq-eqb j kind (sym (eqb-true kind j here))) refl
  | inr other ↦ rw (other, ne_eqb j kind (λ same. both_ways (eqb kind j) other (eq-eqb kind j (sym same)))) refl
]

own_first : (e : ℕ × Reference) (row : KindRow) (kind j : ℕ) (to : Reference) → (eqb kind j ≡ false → diagram_in row j ≡ diagram_in (e ∷ row) j)
    → diagram_in ((kind, to) ∷ row) j ≡ (if kind == j then to else diagram_in (e ∷ row) j)
own_first e row kind j to skip = elim (cases_Bool (eqb kind j)) [
  | inl here ↦ rw (here, eq-eqb j kind (sym (eqb-true kind j here))) refl
  | inr other ↦ rw (other, ne_eqb j kind (λ same. both_ways (eqb kind j) other (eq-eqb kind j (sym same)))) (skip other)
]

pub put_at : (row : KindRow) (kind i : ℕ) (p to : Reference) → IsStrictlyIncreasing (kinds_of row) → slice_get row i ≡ Some (kind, p)
    → (j : ℕ) → diagram_in (set row i (kind, to)) j ≡ (if kind == j then to else diagram_in row j)
put_at [] kind i p to rises at j = absurd (nothing (kind, p) at)
put_at (x ∷ row) kind zero p to rises at j =
    let same : kind ≡ x.0 = ap (λ (e : ℕ × Reference). e.0) (sym (same_Some x (kind, p) at)) in
    own_first x row kind j to (λ other. rw (ne_eqb j x.0 (λ equal. both_ways (eqb kind j) other (eq-eqb kind j (same ∙ sym equal)))) refl)
put_at (x ∷ row) kind (suc i) p to rises at j =
    let less = later x row kind i rises (p, at) in
    other_first x row kind j to (set row i (kind, to)) (λ same. omega (arith, less, same)) (put_at row kind i p to (rises_tail x.0 (kinds_of row) rises) at j)

pub put_new : (row : KindRow) (kind i : ℕ) (to : Reference) → IsGapOf row kind i
    → (j : ℕ) → diagram_in (insert row i (kind, to)) j ≡ (if kind == j then to else diagram_in row j)
put_new [] kind zero to gap j = own_only kind j to
put_new [] kind (suc i) to gap j = absurd (omega (arith, gap.in_range))
put_new (x ∷ row) kind zero to gap j = elim (cases_Bool (eqb kind j)) [
  | inl here ↦ rw (here, eq-eqb j kind (sym (eqb-true kind j here))) refl
  | inr other ↦ rw (other, ne_eqb j kind (λ same. both_ways (eqb kind j) other (eq-eqb kind j (sym same)))) refl
]
put_new (x ∷ row) kind (suc i) to gap j =
    let less : x.0 < kind = gap.smaller 0 (omega arith) in
    other_first x row kind j to (insert row i (kind, to)) (λ same. omega (arith, less, same)) (put_new row kind i to (tail_gap x row kind i gap) j)

kinds_set : (row : KindRow) (kind i : ℕ) (p to : Reference) → slice_get row i ≡ Some (kind, p) → kinds_of (set row i (kind, to)) ≡ kinds_of row
kinds_set [] kind i p to at = absurd (nothing (kind, p) at)
kinds_set (x ∷ row) kind zero p to at = ap (λ k. k ∷ kinds_of row) (ap (λ (e : ℕ × Reference). e.0) (sym (same_Some x (kind, p) at)))
kinds_set (x ∷ row) kind (suc i) p to at = ap (λ ks. x.0 ∷ ks) (kinds_set row kind i p to at)

kinds_insert : (row : KindRow) (kind i : ℕ) (to : Reference) → IsGapOf row kind i → kinds_of (insert row i (kind, to)) ≡ with_class kind (kinds_of row)
kinds_insert [] kind zero to gap = refl
kinds_insert [] kind (suc i) to gap = absurd (omega (arith, gap.in_range))
kinds_insert (x ∷ row) kind zero to gap = sym (with_class-below kind x.0 (kinds_of row) (gap.greater 0 (omega arith) (omega arith)))
kinds_insert (x ∷ row) kind (suc i) to gap =
    ap (λ ks. x.0 ∷ ks) (kinds_insert row kind i to (tail_gap x row kind i gap)) ∙ sym (with_class-above kind x.0 (kinds_of row) (gap.smaller 0 (omega arith)))

-- ### the kinds that are noted

pub none_noted : (row : KindRow) (noted : List ℕ) → row ≡ [] → AreNoted row noted
none_noted row noted none = subst (λ (r : KindRow). AreNoted r noted) (sym none) (record {
  rising = λ k less. absurd (omega arith);
  whole = λ j there. absurd (Contains-none j there);
})

pub noted_more : (row : KindRow) (noted : List ℕ) (kind : ℕ) → AreNoted row noted → AreNoted row (noted ++ kind ∷ [])
noted_more row noted kind are = record {
  rising = are.rising;
  whole = λ j there. Contains-append_left noted (kind ∷ []) j (are.whole j there);
}

pub noted_at : (row : KindRow) (noted : List ℕ) (kind i : ℕ) (p to : Reference) → slice_get row i ≡ Some (kind, p) → AreNoted row noted → AreNoted (set row i (kind, to)) noted
noted_at row noted kind i p to at are =
    let same = kinds_set row kind i p to at in
    record {
      rising = subst IsStrictlyIncreasing (sym same) are.rising;
      whole = λ j there. are.whole j (subst (λ (ks : List ℕ). Contains ks j) same there);
    }

pub noted_new : (row : KindRow) (noted : List ℕ) (kind i : ℕ) (to : Reference) → IsGapOf row kind i → AreNoted row noted → AreNoted (insert row i (kind, to)) (noted ++ kind ∷ [])
noted_new row noted kind i to gap are =
    let same = kinds_insert row kind i to gap in
    record {
      rising = subst IsStrictlyIncreasing (sym same) (IsStrictlyIncreasing-with_class kind (kinds_of row) are.rising);
      whole = λ j there. elim ((Contains-with_class kind (kinds_of row) j).0 (subst (λ (ks : List ℕ). Contains ks j) same there)) [
        | inl here ↦ Contains-append_right noted (kind ∷ []) j (Contains-here j kind [] here)
        | inr before ↦ Contains-append_left noted (kind ∷ []) j (are.whole j before)
      ];
    }

-- ### a search

module _ (row : KindRow) (rises : IsStrictlyIncreasing (kinds_of row)) (kind : ℕ) where
  long : length (kinds_of row) ≡ length row
  long = length-map row (λ (e : ℕ × Reference). e.0)

  none : ℕ × Reference
  none = (0, leaf_reference false)

  kind_at : (i : ℕ) → i < length row → get_or (kinds_of row) i 0 ≡ (get_or row i none).0
  kind_at i within = get_or-map (λ (e : ℕ × Reference). e.0) row i none 0 within

  -- the comparisons with the kind rise along the row
  comparisons_rise : IsNonDecreasingBy (λ (e : ℕ × Reference). ordering_index (nat_cmp e.0 kind)) row
  comparisons_rise = IsNonDecreasingBy-from_default (λ (e : ℕ × Reference). ordering_index (nat_cmp e.0 kind)) row none (λ i j le within.
      let first = kind_at i (omega (arith, le, within)) in
      let second = kind_at j within in
      let kinds_rise = rises_between (kinds_of row) rises i j le (omega (arith, within, long)) in
      let rise : (get_or row i none).0 ≤ (get_or row j none).0 = omega (arith, first, second, kinds_rise) in
      grind (arith, nat_tests))

  searched_at : (i : ℕ) → IsSearchInRange (Ok i) (length row) → IsBinarySearchResult (λ (e : ℕ × Reference). nat_cmp e.0 kind) row (Ok i) → IsAt row kind i
  searched_at i within equal =
      let same : (get_or row i none).0 ≡ kind = ranked _ kind _ (sym (equal none)) in
      ((get_or row i none).1, slice_get-get_or row i none within ∙ ap (λ k. Some (k, (get_or row i none).1)) same)

  searched_gap : (i : ℕ) → IsSearchInRange (Err i) (length row) → IsBinarySearchResult (λ (e : ℕ × Reference). nat_cmp e.0 kind) row (Err i) → IsGapOf row kind i
  searched_gap i within parted =
      let parts = parted comparisons_rise in
      record {
        in_range = within;
        smaller = λ k less.
            let inside : k < length row = omega (arith, less, within) in
            let before : (get_or row k none).0 < kind = ranked _ kind _ (sym (parts.0 k none (omega arith) less)) in
            omega (arith, before, kind_at k inside);
        greater = λ k le inside.
            let behind : kind < (get_or row k none).0 = ranked _ kind _ (sym (parts.1 k none le inside)) in
            omega (arith, behind, kind_at k inside);
      }

  pub searched_ok : (r : Result ℕ ℕ) → IsSearchInRange r (length row) → IsBinarySearchResult (λ (e : ℕ × Reference). nat_cmp e.0 kind) row r → IfOk r (IsAt row kind)
  searched_ok (Ok i) within is = searched_at i within is
  searched_ok (Err i) within is = tt

  pub searched_err : (r : Result ℕ ℕ) → IsSearchInRange r (length row) → IsBinarySearchResult (λ (e : ℕ × Reference). nat_cmp e.0 kind) row r → IfErr r (IsGapOf row kind)
  searched_err (Ok i) within is = tt
  searched_err (Err i) within is = searched_gap i within is

-- a kind that is read at a place
pub read_at : (row : KindRow) (kind place : ℕ) (x : ℕ × Reference) → true ≡ ltb place (length row) → x ≡ get_or row place x → eqb x.0 kind ≡ true → IsAt row kind place
read_at row kind place x inside is same =
    (x.1, slice_get_read row (length row) place x refl (ltb-true place (length row) (sym inside)) is ∙ ap (λ k. Some (k, x.1)) (eqb-true x.0 kind same))

-- a kind that is greater than the last one
pub gap_behind : (row : KindRow) → IsStrictlyIncreasing (kinds_of row) → (kind : ℕ) (x : ℕ × Reference) → Some x ≡ slice_get row (length row - 1) → x.0 < kind → IsGapOf row kind (length row)
gap_behind row rises kind x at less =
    let within = slice_get_within row (length row - 1) x (sym at) in
    let last : get_or (kinds_of row) (length row - 1) 0 ≡ x.0 =
    get_or-map (λ (e : ℕ × Reference). e.0) row (length row - 1) x 0 within ∙ ap (λ (e : ℕ × Reference). e.0) (get_or_from_slice_get row (length row - 1) x x (sym at)) in
    record {
      in_range = omega arith;
      smaller = λ k before.
          let up = rises_between (kinds_of row) rises k (length row - 1) (omega (arith, before)) (omega (arith, within, length-map row (λ (e : ℕ × Reference). e.0))) in
          omega (arith, last, up, less);
      greater = λ k le inside. absurd (omega (arith, le, inside));
    }

none_some : (x : ℕ × Reference) → None ≡ Some x → ⊥
none_some x never = cc

-- and where there is none
pub gap_of_none : (row : KindRow) (kind : ℕ) → None ≡ slice_get row (length row - 1) → IsGapOf row kind (length row)
gap_of_none row kind none = elim (cases_lt 0 (length row)) [
  | inl some ↦ absurd (none_some (get_or row (length row - 1) (0, leaf_reference false)) (none ∙ slice_get-get_or row (length row - 1) (0, leaf_reference false) (omega (arith, some))))
  | inr past ↦ record {
    in_range = omega arith;
    smaller = λ k before. absurd (omega (arith, before, past));
    greater = λ k le inside. absurd (omega (arith, le, inside));
  }
]

-- ### the rows of all atoms

abbrev is_cell : ℕ → ℕ → CellKey → Bool
is_cell j a key = (j == key.kind) && (a == key.atom)

in_own : (j a : ℕ) (row : KindRow) (others : Entries) → lookup (is_cell j a) others ≡ None → lookup (is_cell j a) (map (entry_of a) row ++ others) ≡ lookup (λ kind. j == kind) row
in_own j a [] others none = none
in_own j a (x ∷ row) others none = elim (cases_Bool (eqb j x.0)) [
  | inl here ↦ rw (here, eq-eqb a a refl) refl
  | inr other ↦ rw other (in_own j a row others none)
]

in_other : (j a b : ℕ) → a ≢ b → (row : KindRow) (others : Entries) → lookup (is_cell j a) (map (entry_of b) row ++ others) ≡ lookup (is_cell j a) others
in_other j a b apart [] others = refl
in_other j a b apart (x ∷ row) others = elim (cases_Bool (eqb j x.0)) [
  | inl here ↦ rw (here, ne_eqb a b apart) (in_other j a b apart row others)
  | inr other ↦ rw other (in_other j a b apart row others)
]

none_before : (rows : List KindRow) (b j a : ℕ) → a < b → lookup (is_cell j a) (entries_from b rows) ≡ None
none_before [] b j a less = refl
none_before (row ∷ rows) b j a less = in_other j a b (λ same. omega (arith, less, same)) row (entries_from (suc b) rows) ∙ none_before rows (suc b) j a (omega (arith, less))

at_atom : (rows : List KindRow) (b n j a : ℕ) → a ≡ b + n → lookup (is_cell j a) (entries_from b rows) ≡ lookup (λ kind. j == kind) (get_or rows n [])
at_atom [] b n j a is = refl
at_atom (row ∷ rows) b zero j a is =
    let same : a ≡ b = omega (arith, is) in
    subst (λ c. lookup (is_cell j a) (map (entry_of c) row ++ entries_from (suc c) rows) ≡ lookup (λ kind. j == kind) row) same
    (in_own j a row (entries_from (suc a) rows) (none_before rows (suc a) j a (omega arith)))
at_atom (row ∷ rows) b (suc n) j a is =
    in_other j a b (λ same. omega (arith, is, same)) row (entries_from (suc b) rows) ∙ at_atom rows (suc b) n j a (omega (arith, is))

-- a cell stands in its atom's row
pub place_is : (rows : List KindRow) (j a : ℕ) → place_in (entries_of rows) j a ≡ diagram_in (row_of rows a) j
place_is rows j a = ap (λ (o : Option Reference). unwrap_or o (leaf_reference false)) (at_atom rows 0 a j a (omega arith))

-- a row in its place
pub row_is : (rows : List KindRow) (view : Entries) (n a : ℕ) (row : KindRow) → entries_of rows ≡ view → n ≡ a → n < length rows → row ≡ get_or rows n row
    → (j : ℕ) → diagram_in row j ≡ place_in view j a
row_is rows view n a row same number within is j =
    ap (λ (r : KindRow). diagram_in r j) (is ∙ get_or_default rows n row [] within ∙ ap (row_of rows) number) ∙ sym (place_is rows j a) ∙ ap (λ (es : Entries). place_in es j a) same

-- what is read of a row
pub row_read : (rows : List KindRow) (view : Entries) (n a : ℕ) (row : KindRow) → entries_of rows ≡ view → n ≡ a → true ≡ ltb n (length rows) → row ≡ get_or rows n row
    → (j : ℕ) → diagram_in row j ≡ place_in view j a
row_read rows view n a row same number inside is j = row_is rows view n a row same number (ltb-true n (length rows) (sym inside)) is j

-- and of an atom behind all rows
pub row_past : (rows : List KindRow) (view : Entries) (n a : ℕ) → entries_of rows ≡ view → n ≡ a → false ≡ ltb n (length rows)
    → (j : ℕ) → leaf_reference false ≡ place_in view j a
row_past rows view n a same number past j =
    ap (λ (r : KindRow). diagram_in r j) (sym (get_or_past rows n [] (ltb-false n (length rows) (sym past))) ∙ ap (row_of rows) number) ∙ sym (place_is rows j a) ∙ ap (λ (es : Entries). place_in es j a) same

longer_from : (rows : List KindRow) (b : ℕ) → entries_from b (rows ++ [] ∷ []) ≡ entries_from b rows
longer_from [] b = refl
longer_from (row ∷ rows) b = ap (λ es. map (entry_of b) row ++ es) (longer_from rows (suc b))

-- a row without a kind is one for more atoms
pub same_longer : (rows : List KindRow) → entries_of (rows ++ [] ∷ []) ≡ entries_of rows
same_longer rows = longer_from rows 0

both : (b c : Bool) → c ≡ true → (p q : Reference) → (if b then p else q) ≡ (if b && c then p else q)
both true c passes p q = ap (λ d. if d then p else q) (sym passes)
both false c passes p q = refl

neither : (b c : Bool) → c ≡ false → (p q : Reference) → q ≡ (if b && c then p else q)
neither true c fails p q = ap (λ d. if d then p else q) (sym fails)
neither false c fails p q = refl

-- one row changed at one kind
place_set : (rows : List KindRow) (atom kind : ℕ) (to : Reference) (new : KindRow) → atom < length rows
    → ((j : ℕ) → diagram_in new j ≡ (if kind == j then to else diagram_in (row_of rows atom) j))
    → (j a : ℕ) → place_in (entries_of (set rows atom new)) j a ≡ (if (kind == j) && (atom == a) then to else place_in (entries_of rows) j a)
place_set rows atom kind to new within is j a = place_is (set rows atom new) j a ∙ elim (cases_Bool (eqb atom a)) [
  | inl here ↦
      let same : atom ≡ a = eqb-true atom a here in
      let row : row_of (set rows atom new) a ≡ new = ap (row_of (set rows atom new)) (sym same) ∙ get_or-set_same rows atom new [] within in
      ap (λ (r : KindRow). diagram_in r j) row ∙ is j
      ∙ (λ n. if kind == j then to else diagram_in (row_of rows (same n)) j)
      ∙ (λ n. if kind == j then to else sym (place_is rows j a) n)
      ∙ both (eqb kind j) (eqb atom a) here to (place_in (entries_of rows) j a)
  | inr other ↦
      let apart : a ≢ atom = λ same. both_ways (eqb atom a) other (eq-eqb atom a (sym same)) in
      ap (λ (r : KindRow). diagram_in r j) (get_or-set_other rows atom a new [] apart)
      ∙ sym (place_is rows j a)
      ∙ neither (eqb kind j) (eqb atom a) other to (place_in (entries_of rows) j a)
]

pub put_ok : (rows : List KindRow) (view : Entries) (n atom kind : ℕ) (to : Reference) (before new : KindRow) → entries_of rows ≡ view → n ≡ atom → n < length rows → before ≡ get_or rows n before
    → ((j : ℕ) → diagram_in new j ≡ (if kind == j then to else diagram_in before j))
    → (j a : ℕ) → place_in (entries_of (set rows n new)) j a ≡ (if (kind == j) && (atom == a) then to else place_in view j a)
put_ok rows view n atom kind to before new same number within is put j a =
    place_set rows n kind to new within
    (λ i. put i ∙ ap (λ (row : KindRow). if kind == i then to else diagram_in row i) (is ∙ get_or_default rows n before [] within)) j a
    ∙ (λ m. if (kind == j) && (number m == a) then to else place_in (same m) j a)
