-- Firsts by their atoms, a row of runs for each.
use Rattle.std.proofs.Common.{◌≡◌, ◌≢◌, ◌⊎◌, ℕ, suc, zero, ◌+◌, ◌-◌, ◌<◌, ◌≤◌, false, List, [], ◌∷◌, ◌++◌, length, get_or, take, Option, Some, None, Contains, refl, sym, ap, ◌∙◌, inl, inr, arith, subst}
use Rattle.std.specs.List.{flat_map, range_with_len}
use Rattle.std.specs.Ordering.{nat_cmp, is_lt, ordering_then}
use Rattle.std.specs.Cmp.{IsTotalOrder}
use Rattle.std.specs.List.Sorted.{IsSortedByKey, IsStrictlyIncreasing}
use Rattle.std.proofs.lemmas.Bool.{cases_lt, cases_eq, cases_order}
use Rattle.std.proofs.lemmas.Cmp.{on_total, then_total, nat_cmp_total}
use Rattle.std.proofs.lemmas.List.{get_or_default, get_or-take, length-take-le}
use Rattle.std.proofs.lemmas.List.Kept.{AllPairs-from_increasing}
use Rattle.std.proofs.lemmas.List.Elements.{Contains-append_left, Contains-append_right, Contains-append_cases, Contains-push, Contains-push_cases}
use Rattle.std.proofs.lemmas.List.Sorted.{sorted_far, ranks_by}
use Rattle.tp_base.proofs.Lists.{flat_map-Contains, Contains-flat_map}
use Rattle.tp_base.proofs.Numbers.{nat_less, nat_same, never_less}
use Rattle.tp_base.proofs.Rising.{Contains-none}
use Rattle.simple_core.proofs.Members.{Contains-range, range-Contains}
use Rattle.tree_sem.proofs.NodeLemmas.{Contains-map, map-Contains}
use Rattle.closed_page.specs.declared.first_rounds.Spot.{Spot}
use Rattle.closed_page.specs.declared.first_rows.Run.{Run}
use Rattle.closed_page.specs.declared.notes.NodeNews.{NodeNews}
use Rattle.closed_page.specs.Firsts.{AreKept, IsRoundIn, IsChildIn}
use Rattle.closed_page.specs.Notes.{NodeFirst, firsts_in, expanded, spot_cmp, IsAlike, AreAlike}
use Rattle.closed_page.specs.Runs.{row_at, start_of, end_of, IsIn, Covers, Tells, EndsBy, AllEndBy, AreOrdered, AreSorted, AreEnded, IsPut, first_of, spot_in, run_firsts, all_from, all_in, AreByAtom, AreByAtomWith, IsOfRun, IsRunOf, IsRoundInRow, IsChildInRow}
use Rattle.closed_page.proofs.FirstsLemmas.{is_placed}
use Rattle.closed_page.proofs.RunLemmas.{none_ordered, ends_on}

-- ---- a child that is put into the row of an atom

pub rows_start : (rows : List (List Run)) → rows ≡ [] → AreByAtom [] rows
rows_start rows none = record {
  whole = λ f there. absurd (Contains-none f there);
  only = λ a s r (x, there, is, round). absurd (Contains-none x (subst (λ (z : List (List Run)). Contains (row_at z a) x) none there));
}

pub sorted_start : (rows : List (List Run)) → rows ≡ [] → AreSorted rows
sorted_start rows none a = subst (λ (z : List (List Run)). AreOrdered (row_at z a)) (sym none) none_ordered

pub ended_start : (rows : List (List Run)) (spot : Spot) → rows ≡ [] → AreEnded rows spot
ended_start rows spot none a x there = absurd (Contains-none x (subst (λ (z : List (List Run)). Contains (row_at z a) x) none there))

-- the atoms of the children of a run, one more at a time
pub with_start : (fs : List NodeFirst) (y : Run) (rows : List (List Run)) → AreByAtom fs rows → AreByAtomWith fs [] y rows
with_start fs y rows is = record {
  whole = λ f there. elim there [ inl old ↦ is.whole f old | inr new ↦ absurd (Contains-none f.atom new.atom) ];
  only = λ a s r told. inl (is.only a s r told);
}

module _ (old new : List (List Run)) (a : ℕ) (y : Run) (put : IsPut old new a y) where
  pub put_sorted : AreSorted old → AreSorted new
  put_sorted sorted b = elim (cases_eq b a) [
    | inl same ↦ subst (λ n. AreOrdered (row_at new n)) (sym same) put.here.ordered
    | inr other ↦ subst (λ z. AreOrdered z) (sym (put.others b other)) (sorted b)
  ]

  pub put_ended : AreEnded old (end_of y) → AreEnded new (end_of y)
  put_ended ended b = elim (cases_eq b a) [
    | inl same ↦ subst (λ n. AllEndBy (row_at new n) (end_of y)) (sym same) put.here.ends
    | inr other ↦ subst (λ z. AllEndBy z (end_of y)) (sym (put.others b other)) (ended b)
  ]

  put_kept : (f : NodeFirst) → Covers (row_at old f.atom) (spot_in f) → Covers (row_at new f.atom) (spot_in f)
  put_kept f was = elim (cases_eq f.atom a) [
    | inl same ↦ subst (λ n. Covers (row_at new n) (spot_in f)) (sym same) (put.here.kept (spot_in f) (subst (λ n. Covers (row_at old n) (spot_in f)) same was))
    | inr other ↦ subst (λ z. Covers z (spot_in f)) (sym (put.others f.atom other)) was
  ]

  pub put_firsts : (fs : List NodeFirst) (atoms more : List ℕ) → more ≡ atoms ++ a ∷ [] → AreByAtomWith fs atoms y old → AreByAtomWith fs more y new
  put_firsts fs atoms more is before = subst (λ z. AreByAtomWith fs z y new) (sym is) (record {
    whole = λ f there. elim there [
      | inl early ↦ put_kept f (before.whole f (inl early))
      | inr of_run ↦ elim (Contains-push_cases atoms a f.atom of_run.atom) [
        | inl early ↦ put_kept f (before.whole f (inr (record { atom = early; child = of_run.child; round = of_run.round })))
        | inr same ↦ subst (λ n. Covers (row_at new n) (spot_in f)) same (put.here.here (spot_in f) of_run.child)
      ]
    ];
    only = λ b s r told. elim (cases_eq b a) [
      | inl same ↦ elim (put.here.only s r (subst (λ n. Tells (row_at new n) s r) same told)) [
        | inl early ↦ lifted b s r (before.only b s r (subst (λ n. Tells (row_at old n) s r) (sym same) early))
        | inr now ↦ inr (record { atom = subst (Contains (atoms ++ a ∷ [])) (sym same) (Contains-push atoms a); child = now.0; round = now.1 })
      ]
      | inr other ↦ lifted b s r (before.only b s r (subst (λ z. Tells z s r) (put.others b other) told))
    ];
  })
    where
      lifted : (b : ℕ) (s : Spot) (r : ℕ) → Contains fs (first_of s b r) ⊎ IsOfRun atoms y (first_of s b r) → Contains fs (first_of s b r) ⊎ IsOfRun (atoms ++ a ∷ []) y (first_of s b r)
      lifted b s r (inl early) = inl early
      lifted b s r (inr of_run) = inr (record { atom = Contains-append_left atoms (a ∷ []) b of_run.atom; child = of_run.child; round = of_run.round })

  -- the rows of atoms that are still to come are as before
  pub put_rest : (atoms : List ℕ) (i : ℕ) → get_or atoms i 0 ≡ a → ((b : ℕ) → ((k : ℕ) → k < i → get_or atoms k 0 ≡ b → ⊥) → AllEndBy (row_at old b) (start_of y))
      → (b : ℕ) → ((k : ℕ) → k < i + 1 → get_or atoms k 0 ≡ b → ⊥) → AllEndBy (row_at new b) (start_of y)
  put_rest atoms i at before b none =
      let other : b ≢ a = λ same. none i (omega arith) (at ∙ sym same) in
      subst (λ z. AllEndBy z (start_of y)) (sym (put.others b other)) (before b (λ k less. none k (omega (arith, less))))

-- no atom of a set stands in it once more
pub atoms_apart : (atoms : List ℕ) (i a : ℕ) → IsStrictlyIncreasing atoms → i < length atoms → get_or atoms i 0 ≡ a → (k : ℕ) → k < i → get_or atoms k 0 ≡ a → ⊥
atoms_apart atoms i a rising less at k before same = let up = AllPairs-from_increasing atoms rising k i 0 before less in omega (arith, up, same, at)

pub ended_on : (rows : List (List Run)) (y : Run) → y.first ≤ y.last → AreEnded rows (start_of y) → AreEnded rows (end_of y)
ended_on rows y full ended b x there = ends_on x y full (ended b x there)

-- ---- the firsts of all rows

in_run : (a : ℕ) (row : List Run) (f : NodeFirst) → Contains (flat_map (run_firsts a) row) f → (f.atom ≡ a) × Tells row (spot_in f) f.round
in_run a row f there =
    let (x, listed, in_x) = flat_map-Contains (run_firsts a) row f there in
    let (k, in_range, is) = map-Contains (λ (k : ℕ). record { parent = x.parent; atom = a; step = x.first + k; round = x.round }) (range_with_len 0 (x.last + 1 - x.first)) f in_x in
    let less = range-Contains (x.last + 1 - x.first) k in_range in
    let step : f.step ≡ x.first + k = ap (λ (z : NodeFirst). z.step) is in
    (ap (λ (z : NodeFirst). z.atom) is, (x, listed, record { parent = ap (λ (z : NodeFirst). z.parent) (sym is); from = omega (arith, step); to = omega (arith, step, less) }, ap (λ (z : NodeFirst). z.round) (sym is)))

run_in : (a : ℕ) (row : List Run) (f : NodeFirst) → f.atom ≡ a → Tells row (spot_in f) f.round → Contains (flat_map (run_firsts a) row) f
run_in a row f atom (x, listed, is, round) =
    let g : ℕ → NodeFirst = λ k. record { parent = x.parent; atom = a; step = x.first + k; round = x.round } in
    let from = is.from in
    let to = is.to in
    let k = f.step - x.first in
    let step : x.first + k ≡ f.step = omega (arith, from) in
    let same : g k ≡ f = λ i. record { parent = is.parent i; atom = sym atom i; step = step i; round = round i } in
    Contains-flat_map (run_firsts a) row x f listed
    (subst (Contains (run_firsts a x)) same (Contains-map g (range_with_len 0 (x.last + 1 - x.first)) k (Contains-range (x.last + 1 - x.first) k (omega (arith, from, to)))))

in_from : (a : ℕ) (rows : List (List Run)) (f : NodeFirst) → Contains (all_from a rows) f → (b : ℕ) × (f.atom ≡ a + b) × Tells (row_at rows b) (spot_in f) f.round
in_from a [] f there = absurd (Contains-none f there)
in_from a (row ∷ rows) f there = elim (Contains-append_cases (flat_map (run_firsts a) row) (all_from (suc a) rows) f there) [
  | inl here ↦ let is = in_run a row f here in (0, is.0 ∙ omega arith, is.1)
  | inr behind ↦ let (b, atom, told) = in_from (suc a) rows f behind in (suc b, omega (arith, atom), told)
]

from_in : (a : ℕ) (rows : List (List Run)) (b : ℕ) (f : NodeFirst) → f.atom ≡ a + b → Tells (row_at rows b) (spot_in f) f.round → Contains (all_from a rows) f
from_in a [] b f atom (x, there, is, round) = absurd (Contains-none x there)
from_in a (row ∷ rows) zero f atom told = Contains-append_left (flat_map (run_firsts a) row) (all_from (suc a) rows) f (run_in a row f (atom ∙ omega arith) told)
from_in a (row ∷ rows) (suc b) f atom told = Contains-append_right (flat_map (run_firsts a) row) (all_from (suc a) rows) f (from_in (suc a) rows b f (omega (arith, atom)) told)

pub all-told : (rows : List (List Run)) (f : NodeFirst) → Contains (all_in rows) f → Tells (row_at rows f.atom) (spot_in f) f.round
all-told rows f there = let (b, atom, told) = in_from 0 rows f there in let same : b ≡ f.atom = omega (arith, atom) in subst (λ n. Tells (row_at rows n) (spot_in f) f.round) same told

pub told-all : (rows : List (List Run)) (f : NodeFirst) → Tells (row_at rows f.atom) (spot_in f) f.round → Contains (all_in rows) f
told-all rows f told = from_in 0 rows f.atom f (omega arith) told

module _ (fs : List NodeFirst) (rows : List (List Run)) (by_atom : AreByAtom fs rows) where
  pub all_old : (f : NodeFirst) → Contains (all_in rows) f → Contains fs f
  all_old f there = by_atom.only f.atom (spot_in f) f.round (all-told rows f there)

  -- a node has an atom from one round on, so that the run with it is of that round
  pub all_told : (nodes : List (List ℕ)) → AreKept nodes fs → (f : NodeFirst) → Contains fs f → Contains (all_in rows) f
  all_told nodes kept f there =
      let (x, listed, is) = by_atom.whole f there in
      let other : Contains fs (first_of (spot_in f) f.atom x.round) = by_atom.only f.atom (spot_in f) x.round (x, listed, is, refl) in
      let round : x.round ≡ f.round = kept.of_nodes.one _ _ (is_placed nodes fs (first_of (spot_in f) f.atom x.round) other) (is_placed nodes fs f there) refl refl in
      told-all rows f (x, listed, is, round)

-- ---- what the row of an atom says of all firsts

module _ (rows : List (List Run)) (a : ℕ) where
  here_of : (f : NodeFirst) → Contains (all_in rows) f → f.atom ≡ a → Tells (row_at rows a) (spot_in f) f.round
  here_of f there atom = subst (λ n. Tells (row_at rows n) (spot_in f) f.round) atom (all-told rows f there)

  pub round_in_all : (spot : Spot) (o : Option ℕ) → IsRoundInRow (row_at rows a) spot o → IsRoundIn (all_in rows) spot a o
  round_in_all spot None none = λ f there at.
      let (x, listed, is, round) = here_of f there at.atom in
      let same : spot_in f ≡ spot = λ i. record { parent = at.parent i; step = at.step i } in
      none (x, listed, subst (IsIn x) same is)
  round_in_all spot (Some r) told = (first_of spot a r, told-all rows (first_of spot a r) told, record { parent = refl; step = refl; atom = refl }, refl)

  pub child_in_all : (p k : ℕ) (o : Option ℕ) → IsChildInRow (row_at rows a) p k o → IsChildIn (all_in rows) p a k o
  child_in_all p k None none = λ f there below.
      let (x, listed, is, round) = here_of f there below.atom in
      let low = below.round in
      none x listed (record { parent = is.parent ∙ below.parent; round = omega (arith, round, low) })
  child_in_all p k (Some s) ((x, listed, below, first, full), least) =
      let f : NodeFirst = first_of (record { parent = p; step = s }) a x.round in
      let in_x : IsIn x (record { parent = p; step = s }) = record { parent = below.parent; from = omega (arith, first); to = omega (arith, first, full) } in (
        (f, told-all rows f (x, listed, in_x, refl), record { parent = refl; atom = refl; round = below.round }, refl),
        λ g there below'.
            let (y, listed', is, round) = here_of g there below'.atom in
            let low = below'.round in
            let from = is.from in
            let up = least y listed' (record { parent = is.parent ∙ below'.parent; round = omega (arith, round, low) }) in
            omega (arith, up, from),
      )

-- ---- the order of notes

pub spot_total : IsTotalOrder spot_cmp
spot_total = then_total (on_total (λ (s : Spot). s.parent) nat_cmp_total) (on_total (λ (s : Spot). s.step) nat_cmp_total)

-- what ends by a child ends by each that isn't before it
ends_later : (x : Run) (s t : Spot) → is_lt (spot_cmp t s) ≡ false → EndsBy x s → EndsBy x t
ends_later x s t not end =
    let steps = nat_cmp t.step s.step in
    elim (cases_order t.parent s.parent) [
      | inl same ↦ elim (cases_lt t.step s.step) [
        | inl less ↦ absurd (never_less (spot_cmp t s) (ap (λ o. ordering_then o steps) (nat_same t.parent s.parent same) ∙ nat_less t.step s.step less) not)
        | inr from ↦ elim end [
          | inl under ↦ inl (omega (arith, under, same))
          | inr beside ↦ let to = beside.1 in inr (beside.0 ∙ sym same, omega (arith, to, from))
        ]
      ]
      | inr (inl less) ↦ absurd (never_less (spot_cmp t s) (ap (λ o. ordering_then o steps) (nat_less t.parent s.parent less)) not)
      | inr (inr more) ↦ elim end [ inl under ↦ inl (omega (arith, under, more)) | inr beside ↦ let same = beside.0 in inl (omega (arith, same, more)) ]
    ]

pub ended_next : (notes : List NodeNews) → IsSortedByKey (λ (n : NodeNews). n.spot) spot_cmp notes → (rows : List (List Run)) (i : ℕ) (n : NodeNews) → i < length notes → n ≡ get_or notes i n → AreEnded rows n.spot
    → (j : ℕ) (d : NodeNews) → i + 1 ≤ j → j < length notes → AreEnded rows (get_or notes j d).spot
ended_next notes sorted rows i n less at ended j d le within a x there =
    let far = sorted_far (λ (m o : NodeNews). is_lt (spot_cmp m.spot o.spot)) (ranks_by spot_total (λ (m : NodeNews). m.spot)) notes sorted i j d (omega (arith, le)) within in
    let here : get_or notes i d ≡ n = get_or_default notes i d n less ∙ sym at in
    ends_later x n.spot (get_or notes j d).spot (ap (λ (z : NodeNews). is_lt (spot_cmp (get_or notes j d).spot z.spot)) (sym here) ∙ far) (ended a x there)

-- the firsts of notes in another order
pub moved_firsts : (old new : List NodeNews) → ((n : NodeNews) → Contains old n → Contains new n) → (f : NodeFirst) → Contains (expanded old) f → Contains (expanded new) f
moved_firsts old new moved f there = let (n, listed, in_n) = flat_map-Contains firsts_in old f there in Contains-flat_map firsts_in new n f (moved n listed) in_n

pub by_atom_moved : (fs gs : List NodeFirst) (rows : List (List Run)) → ((f : NodeFirst) → Contains gs f → Contains fs f) → ((f : NodeFirst) → Contains fs f → Contains gs f) → AreByAtom gs rows → AreByAtom fs rows
by_atom_moved fs gs rows back on is = record {
  whole = λ f there. is.whole f (on f there);
  only = λ a s r told. back (first_of s a r) (is.only a s r told);
}

-- ---- notes of one run of children

taken : (notes : List NodeNews) (j : ℕ) (n : NodeNews) → j ≤ length notes → Contains (take j notes) n → (k : ℕ) × (k < j) × (get_or notes k n ≡ n)
taken notes j n le (k, less, at) = let long = length-take-le j notes le in let early : k < j = omega (arith, less, long) in (k, early, sym (get_or-take j notes k n early) ∙ at)

taken_there : (notes : List NodeNews) (j k : ℕ) (n : NodeNews) → j ≤ length notes → k < j → get_or notes k n ≡ n → Contains (take j notes) n
taken_there notes j k n le less at = let long = length-take-le j notes le in (k, omega (arith, less, long), get_or-take j notes k n less ∙ at)

module _ (notes : List NodeNews) (i j : ℕ) (y : Run) (alike : AreAlike notes i j) (of : IsRunOf notes i j y) where
  i_within : i ≤ length notes
  i_within = let more = alike.more in let le = alike.within in omega (arith, more, le)

  -- the last of the notes ends the run
  pub run_end : (d : NodeNews) → (get_or notes (j - 1) d).spot ≡ end_of y
  run_end d =
      let more = alike.more in
      let is = alike.each (j - 1) d (omega (arith, more)) (omega (arith, more)) in
      let parent = is.parent ∙ sym (of.parent d) in
      let step = is.step in
      let first = of.first d in
      let last = of.last in
      let steps : (get_or notes (j - 1) d).spot.step ≡ y.last = omega (arith, step, first, last, more) in
      λ k. record { parent = parent k; step = steps k }

  -- the atoms of the notes are those of the first, as of the children of the run
  pub run_told : (n : NodeNews) → n ≡ get_or notes i n → (rows : List (List Run)) → AreByAtomWith (expanded (take i notes)) n.atoms y rows → AreByAtom (expanded (take j notes)) rows
  run_told n at rows is = record {
    whole = λ f there.
        let (m, listed, in_m) = flat_map-Contains firsts_in (take j notes) f there in
        let (k, less, here) = taken notes j m alike.within listed in
        elim (cases_lt k i) [
          | inl early ↦ is.whole f (inl (Contains-flat_map firsts_in (take i notes) m f (taken_there notes i k m i_within early here) in_m))
          | inr late ↦
              let (a, in_atoms, f_is) = map-Contains (λ (a : ℕ). record { parent = m.spot.parent; atom = a; step = m.spot.step; round = m.round }) m.atoms f in_m in
              let like : IsAlike (get_or notes i m) (k - i) m = subst (IsAlike (get_or notes i m) (k - i)) here (alike.each k m late less) in
              let parent : y.parent ≡ f.parent = of.parent m ∙ sym like.parent ∙ ap (λ (z : NodeFirst). z.parent) (sym f_is) in
              let step = like.step in
              let first = of.first m in
              let last = of.last in
              let f_step : f.step ≡ m.spot.step = ap (λ (z : NodeFirst). z.step) f_is in
              let one : get_or notes i m ≡ n = get_or_default notes i m n (omega (arith, late, less, alike.within)) ∙ sym at in
              let atoms : m.atoms ≡ n.atoms = like.atoms ∙ ap (λ (z : NodeNews). z.atoms) one in
              let in_n : Contains n.atoms f.atom = subst (λ z. Contains z f.atom) atoms (subst (Contains m.atoms) (ap (λ (z : NodeFirst). z.atom) (sym f_is)) in_atoms) in
              is.whole f (inr (record {
                atom = in_n;
                child = record { parent = parent; from = omega (arith, f_step, step, first); to = omega (arith, f_step, step, first, last, less, late) };
                round = ap (λ (z : NodeFirst). z.round) f_is ∙ like.round ∙ sym (of.round m);
              }))
        ];
    only = λ a s r told. elim (is.only a s r told) [
      | inl early ↦
          let (m, listed, in_m) = flat_map-Contains firsts_in (take i notes) (first_of s a r) early in
          let (k, less, here) = taken notes i m i_within listed in
          let more = alike.more in
          Contains-flat_map firsts_in (take j notes) m (first_of s a r) (taken_there notes j k m alike.within (omega (arith, less, more)) here) in_m
      | inr of_run ↦
          let from = of_run.child.from in
          let to = of_run.child.to in
          let last = of.last in
          let k = i + (s.step - y.first) in
          let late : i ≤ k = omega arith in
          let less : k < j = omega (arith, from, to, last, alike.more) in
          let within : k < length notes = omega (arith, less, alike.within) in
          let m = get_or notes k n in
          let like = alike.each k n late less in
          let step' = like.step in
          let first = of.first n in
          let step : m.spot.step ≡ s.step = omega (arith, step', first, from) in
          let parent : m.spot.parent ≡ s.parent = like.parent ∙ sym (of.parent n) ∙ of_run.child.parent in
          let round : m.round ≡ r = like.round ∙ sym (of.round n) ∙ sym of_run.round in
          let atoms : n.atoms ≡ m.atoms = ap (λ (z : NodeNews). z.atoms) at ∙ sym like.atoms in
          let in_m : Contains (firsts_in m) (first_of m.spot a m.round) = Contains-map (λ (b : ℕ). record { parent = m.spot.parent; atom = b; step = m.spot.step; round = m.round }) m.atoms a (subst (λ z. Contains z a) atoms of_run.atom) in
          let same : first_of m.spot a m.round ≡ first_of s a r = λ h. record { parent = parent h; atom = a; step = step h; round = round h } in
          Contains-flat_map firsts_in (take j notes) m (first_of s a r) (taken_there notes j k m alike.within less (sym (get_or_default notes k n m within))) (subst (Contains (firsts_in m)) same in_m)
    ];
  }

  -- what is put in ends before the notes that are still to come
  pub run_next : (n : NodeNews) → IsSortedByKey (λ (n : NodeNews). n.spot) spot_cmp notes → (rows : List (List Run)) → AreEnded rows (end_of y)
      → (k : ℕ) (d : NodeNews) → j ≤ k → k < length notes → AreEnded rows (get_or notes k d).spot
  run_next n sorted rows ended k d le within =
      let more = alike.more in
      let last = get_or notes (j - 1) n in
      let less : j - 1 < length notes = omega (arith, more, le, within) in
      ended_next notes sorted rows (j - 1) last less (get_or_default notes (j - 1) n last less) (subst (AreEnded rows) (sym (run_end n)) ended) k d (omega (arith, more, le)) within
