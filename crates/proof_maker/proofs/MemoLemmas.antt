-- The rows of what is remembered.
--     no_rows, pushed_rows     each has what comes to its pair
--     row_arrivals             what the row of a pair tells
use Rattle.std.proofs.Common.{◌≡◌, ℕ, ◌<◌, List, [], ◌∷◌, ◌++◌, length, slice_get, Some, Result, Ok, Err, IfOk, OnOk, OnErr, Contains, inl, inr, sym, ◌∙◌, subst}
use Rattle.std.proofs.lemmas.List.Elements.{Contains-push_cases}
use Rattle.std.proofs.lemmas.Option.{slice_get_within}
use Rattle.tp_base.proofs.Rising.{Contains-none}
use Rattle.tp_base.proofs.Lists.{Contains-at, slice_get-push}
use Rattle.pair_table.specs.declared.table.Row.{Row}
use Rattle.pair_table.specs.Rows.{IsRowOf}
use Rattle.pair_table.proofs.RowLemmas.{row_of_pair}
use Rattle.simple_core.specs.declared.system.System.{System}
use Rattle.simple_core.specs.Rounds.{grown}
use Rattle.proof_maker.specs.declared.told.Told.{Told}
use Rattle.proof_maker.specs.Tellings.{IsTold}
use Rattle.proof_maker.specs.PlaceMemos.{IsPlaceMemo}

-- a row
abbrev Line : Type 0
Line = Row Told

pub no_rows : (s : System) (rows : List Line) → rows ≡ [] → IsPlaceMemo s rows
no_rows s rows none = λ g there. absurd (Contains-none g (subst (λ (z : List Line). Contains z g) none there))

one_more : (s : System) (rows rows' : List Line) (g : Line) → IsPlaceMemo s rows → IsTold s (λ k. grown s k g.kind g.label) g.value → rows' ≡ rows ++ g ∷ [] → IsPlaceMemo s rows'
one_more s rows rows' g before new is = λ h there. elim (Contains-push_cases rows g h (subst (λ (z : List Line). Contains z h) is there)) [
  | inl old ↦ before h old
  | inr last ↦ subst (λ (z : Line). IsTold s (λ k. grown s k z.kind z.label) z.value) last new
]

-- what a row tells of its pair
pub row_told : (s : System) (rows : List Line) (kind : ℕ) (parent : List ℕ) (n : ℕ) (told : Told) → IsPlaceMemo s rows → IsRowOf rows kind parent n → ((g : Line) → slice_get rows n ≡ Some g → told ≡ g.value)
    → IsTold s (λ k. grown s k kind parent) told
row_told s rows kind parent n told are there is =
    let row = row_of_pair rows kind parent n there in
    let g = row.0 in
    subst (λ (z : Told). IsTold s (λ k. grown s k kind parent) z) (sym (is g row.1))
    (subst (λ (z : List ℕ). IsTold s (λ k. grown s k kind z) g.value) row.3 (subst (λ z. IsTold s (λ k. grown s k z g.label) g.value) row.2 (are g (Contains-at rows n g row.1))))

pub row_bound : (rows : List Line) (kind : ℕ) (parent : List ℕ) (n : ℕ) → IsRowOf rows kind parent n → n < length rows
row_bound rows kind parent n there = let row = row_of_pair rows kind parent n there in slice_get_within rows n row.0 row.1

-- a row is put behind all, where memory is to be had
pub pushed_rows : {T E : Type 0} (s : System) (rows rows' : List Line) (g : Line) (r : Result T E) → IsPlaceMemo s rows → IsTold s (λ k. grown s k g.kind g.label) g.value → OnOk r (rows' ≡ rows ++ g ∷ []) → OnErr r (rows' ≡ rows) → IsPlaceMemo s rows'
pushed_rows s rows rows' g (Ok x) before new is same = one_more s rows rows' g before new is
pushed_rows s rows rows' g (Err e) before new is same = subst (λ (z : List Line). IsPlaceMemo s z) (sym same) before

pub pushed_row : {E : Type 0} (rows rows' : List Line) (g : Line) (kind : ℕ) (parent : List ℕ) (r : Result ℕ E) → g.kind ≡ kind → g.label ≡ parent → OnOk r (rows' ≡ rows ++ g ∷ []) → IfOk r (λ n. n ≡ length rows) → IfOk r (IsRowOf rows' kind parent)
pushed_row rows rows' g kind parent (Err e) kind_is parent_is is at = tt
pushed_row rows rows' g kind parent (Ok n) kind_is parent_is is at =
    let there : slice_get rows' n ≡ Some g = (λ i. slice_get (is i) (at i)) ∙ slice_get-push rows g in
    rw there (λ i. (kind_is i, parent_is i))
