-- A binary search among the courses of a kind.
use Rattle.std.proofs.Common.{◌≡◌, ℕ, ◌<◌, ◌≤◌, false, List, [], map, length, get_or, Contains, Ok, Err, None, sym, ap, ◌∙◌, arith, inl, inr}
use Rattle.std.specs.List.Sorted.{IsSearchInRange, IsBinarySearchResult, IsNonDecreasingBy, IsStrictlyIncreasing}
use Rattle.std.specs.Ordering.{nat_cmp, ordering_index}
use Rattle.std.proofs.lemmas.Cmp.{ranked}
use Rattle.std.proofs.lemmas.Bool.{cases_lt}
use Rattle.std.proofs.lemmas.Bool.Decides.{nat_tests}
use Rattle.std.proofs.lemmas.List.{get_or-map, length-map}
use Rattle.std.proofs.lemmas.List.Sorted.{IsNonDecreasingBy-from_default}
use Rattle.tp_base.proofs.Rising.{rises_between}
use Rattle.saturation.specs.declared.courses.Course.{Course}

module _ (courses : List Course) (rises : IsStrictlyIncreasing (map (λ c. c.atom) courses)) (atom : ℕ) where
  -- the comparisons with the atom rise along the list
  comparisons_rise : IsNonDecreasingBy (λ (c : Course). ordering_index (nat_cmp c.atom atom)) courses
  comparisons_rise = IsNonDecreasingBy-from_default (λ (c : Course). ordering_index (nat_cmp c.atom atom)) courses (record { atom = 0; starts = false; gate = None; changes = [] }) (λ i j le within.
      let none : Course = record { atom = 0; starts = false; gate = None; changes = [] } in
      let long = length-map courses (λ (c : Course). c.atom) in
      let first = get_or-map (λ (c : Course). c.atom) courses i none 0 (omega (arith, le, within)) in
      let second = get_or-map (λ (c : Course). c.atom) courses j none 0 within in
      let atoms_rise = rises_between (map (λ c. c.atom) courses) rises i j le (omega (arith, within, long)) in
      let rise : (get_or courses i none).atom ≤ (get_or courses j none).atom = omega (arith, first, second, atoms_rise) in
      grind (arith, nat_tests))

  pub course_found : (i : ℕ) (c : Course) → IsSearchInRange (Ok i) (length courses) → IsBinarySearchResult (λ (c : Course). nat_cmp c.atom atom) courses (Ok i)
      → c ≡ get_or courses i c → Contains courses c × (c.atom ≡ atom)
  course_found i c within equal is = ((i, within, sym is), ap (λ (e : Course). e.atom) is ∙ ranked _ atom _ (sym (equal c)))

  pub course_missing : (i : ℕ) → IsBinarySearchResult (λ (c : Course). nat_cmp c.atom atom) courses (Err i) → (c : Course) → Contains courses c → c.atom ≡ atom → ⊥
  course_missing i parted =
      let parts = parted comparisons_rise in
      λ c there same. elim (cases_lt there.0 i) [
        | inl before ↦
            let less : (get_or courses there.0 c).atom < atom = ranked _ atom _ (sym (parts.0 there.0 c (omega arith) before)) in
            omega (arith, less, same, ap (λ (e : Course). e.atom) there.2)
        | inr behind ↦
            let more : atom < (get_or courses there.0 c).atom = ranked _ atom _ (sym (parts.1 there.0 c behind there.1)) in
            omega (arith, more, same, ap (λ (e : Course). e.atom) there.2)
      ]
