-- The courses of a kind, one atom more; and what comes by them.
use Rattle.std.proofs.Common.{◌≡◌, ℕ, suc, ◌+◌, ◌<◌, nat_lt, Bool, true, false, cond, ◌||◌, List, [], ◌∷◌, ◌++◌, length, map, slice_get, Option, Some, None, All, IfSome, Contains, refl, sym, ap, subst, ◌∙◌, inl, inr, arith}
use Rattle.std.specs.List.{flat_map, filter}
use Rattle.std.specs.List.Sorted.{IsStrictlyIncreasing}
use Rattle.std.proofs.lemmas.Bool.{true≢false}
use Rattle.std.proofs.lemmas.List.{map-append, append-nil}
use Rattle.std.proofs.lemmas.List.Elements.{All-contains, Contains-append_left, Contains-append_right, filter-append}
use Rattle.std.proofs.lemmas.List.Kept.{IsStrictlyIncreasing-filter}
use Rattle.tp_base.specs.Classes.{has_class}
use Rattle.tp_base.proofs.Truths.{is_less}
use Rattle.tp_base.proofs.Lists.{Contains-only, flat_map-Contains, Contains-flat_map, push_cases, length-push}
use Rattle.tp_base.proofs.Rising.{Contains-here, Contains-none, All-from_Contains}
use Rattle.class_diagrams.specs.Arena.{Arena, IsIn}
use Rattle.simple_core.specs.declared.summaries.First.{First}
use Rattle.simple_core.specs.declared.system.System.{System}
use Rattle.simple_core.specs.Systems.{kind_label, IsSound}
use Rattle.simple_core.specs.Rounds.{grown, IsFirst}
use Rattle.simple_core.specs.Firsts.{AreFirsts}
use Rattle.simple_core.proofs.RoundLemmas.{set_of-rises}
use Rattle.pushdown_sym.specs.CellMap.{Entries}
use Rattle.saturation.specs.declared.courses.Course.{Course}
use Rattle.saturation.specs.Histories.{Change, first_in}
use Rattle.saturation.specs.Saturation.{Histories, IsBuilt}
use Rattle.saturation.specs.Courses.{NeverComes, can_come, IsCourse, AreCourses, HasGate, CanBeAsked, first_of, first_by}
use Rattle.saturation.proofs.NoteLemmas.{last_cases}
use Rattle.saturation.proofs.EndLemmas.{first_is, first_few}
use Rattle.saturation.proofs.GrowthLemmas.{found_growing}

module _ (label : List ℕ) (history : ℕ → List Change) (atoms : List ℕ) (courses : List Course) (are : AreCourses label history atoms courses) where
  -- one atom more, with its course
  pub one_course : (c : Course) → IsCourse label history c → can_come label history c.atom ≡ true → AreCourses label history (atoms ++ c.atom ∷ []) (courses ++ c ∷ [])
  one_course c is may = record {
    right = λ d there. elim (last_cases courses c d there) [
      | inl old ↦ let both = are.right d old in (Contains-append_left atoms (c.atom ∷ []) d.atom both.0, both.1)
      | inr new ↦ subst (λ (e : Course). Contains (atoms ++ c.atom ∷ []) e.atom × IsCourse label history e) (sym new)
          (Contains-append_right atoms (c.atom ∷ []) c.atom (Contains-here c.atom c.atom [] refl), is)
    ];
    whole = λ a there. elim (last_cases atoms c.atom a there) [
      | inl old ↦ elim (are.whole a old) [
        | inl found ↦ inl (found.0, Contains-append_left courses (c ∷ []) found.0 found.1, found.2)
        | inr never ↦ inr never
      ]
      | inr new ↦ inl (c, Contains-append_right courses (c ∷ []) c (Contains-here c c [] refl), sym new)
    ];
    order = map-append (λ (e : Course). e.atom) courses (c ∷ []) ∙ ap (λ xs. xs ++ c.atom ∷ []) are.order
        ∙ sym (filter-append (can_come label history) atoms (c.atom ∷ []) ∙ ap (λ b. filter (can_come label history) atoms ++ cond b (c.atom ∷ []) []) may);
  }

  -- one atom more, which never comes
  pub no_course : (a : ℕ) → NeverComes label history a → AreCourses label history (atoms ++ a ∷ []) courses
  no_course a never = record {
    right = λ c there. let both = are.right c there in (Contains-append_left atoms (a ∷ []) c.atom both.0, both.1);
    whole = λ b there. elim (last_cases atoms a b there) [
      | inl old ↦ are.whole b old
      | inr new ↦ inr (subst (λ (e : ℕ). NeverComes label history e) (sym new) never)
    ];
    order = are.order ∙ sym (filter-append (can_come label history) atoms (a ∷ [])
        ∙ ap (λ b. filter (can_come label history) atoms ++ cond b (a ∷ []) []) (ap (λ b. b || nat_lt 0 (length (history a))) never.0 ∙ ap (λ (h : List Change). nat_lt 0 (length h)) never.1)
        ∙ append-nil (filter (can_come label history) atoms));
  }

-- a course that is pushed
pub course_pushed : (label : List ℕ) (history : ℕ → List Change) (atoms : List ℕ) (courses new : List Course) (a : ℕ) (starts : Bool) (gate : Option (ℕ × ℕ)) (found changes : List Change)
    → starts ≡ has_class a label → found ≡ history a → starts || nat_lt 0 (length found) ≡ true → changes ≡ found → new ≡ courses ++ record { atom = a; starts = starts; gate = gate; changes = changes } ∷ []
    → AreCourses label history atoms courses → AreCourses label history (atoms ++ a ∷ []) new
course_pushed label history atoms courses new a starts gate found changes start look may copy is are = subst (λ (cs : List Course). AreCourses label history (atoms ++ a ∷ []) cs) (sym is)
    (one_course label history atoms courses are (record { atom = a; starts = starts; gate = gate; changes = changes }) (record { starts = start; changes = copy ∙ look })
    (sym (ap (λ b. b || nat_lt 0 (length found)) start ∙ ap (λ (h : List Change). has_class a label || nat_lt 0 (length h)) look) ∙ may))

neither : (starts : Bool) (cs : List Change) → starts || nat_lt 0 (length cs) ≡ false → (starts ≡ false) × (cs ≡ [])
neither true cs fails = absurd (true≢false fails)
neither false [] fails = (refl, refl)
neither false (c ∷ cs) fails = absurd (true≢false (sym (is_less 0 (suc (length cs)) (omega arith)) ∙ fails))

-- an atom that is passed over
pub course_passed : (label : List ℕ) (history : ℕ → List Change) (atoms : List ℕ) (courses : List Course) (a : ℕ) (starts : Bool) (found : List Change)
    → starts ≡ has_class a label → found ≡ history a → starts || nat_lt 0 (length found) ≡ false
    → AreCourses label history atoms courses → AreCourses label history (atoms ++ a ∷ []) courses
course_passed label history atoms courses a starts found start look fails are =
    let both = neither starts found fails in
    no_course label history atoms courses are a (sym start ∙ both.0, sym look ∙ both.1)

-- one row more
pub one_row : {X : Type 0} (P : ℕ → X → Type 0) (rows new : List X) (i : ℕ) (row : X) → length rows ≡ i → new ≡ rows ++ row ∷ [] → ((j : ℕ) (r : X) → slice_get rows j ≡ Some r → P j r) → P i row
    → (length new ≡ i + 1) × ((j : ℕ) (r : X) → slice_get new j ≡ Some r → P j r)
one_row {X} P rows new i row count is each last = (
  let more : length new ≡ suc (length rows) = ap (λ (rs : List X). length rs) is ∙ length-push rows row in omega arith,
  λ j r at. elim (push_cases rows row j r (subst (λ (rs : List X). slice_get rs j ≡ Some r) is at)) [
    | inl old ↦ each j r old
    | inr new ↦ subst (P j) new.1 (subst (λ (n : ℕ). P n row) (sym (new.0 ∙ count)) last)
  ],
)

-- ### what comes

first_of_is : (a : ℕ) (r : Option ℕ) (f : First) → Contains (first_of a r) f → (a ≡ f.atom) × (r ≡ Some f.round)
first_of_is a None f there = absurd (Contains-none f there)
first_of_is a (Some k) f there = let is = Contains-only (record { atom = a; round = k }) f there in (ap (λ (g : First). g.atom) is, ap (λ (g : First). Some g.round) is)

module _ (s : System) (sound : IsSound s) (d : Arena) (histories : Histories) (cells : Entries) (built : IsBuilt s d histories cells) (j : ℕ) (kind : j < length s.kinds) (parent : List ℕ)
    (courses : List Course) (are : AreCourses (kind_label s j) (histories j) s.visible courses) where
  pub can_be_asked : All (HasGate d.branches) courses → All (CanBeAsked d.branches parent) courses
  can_be_asked gated = All-from_Contains (CanBeAsked d.branches parent) courses (λ c there.
      let is = (are.right c there).1 in record {
        inside = subst (λ (h : List Change). All (λ x. IsIn d.branches x.1) h) (sym is.changes) (built.told j c.atom kind).inside;
        growing = found_growing s d histories cells built j c.atom kind c.changes is.changes parent;
        gate = All-contains (HasGate d.branches) courses c gated there;
      })

  course_known : (c : Course) → IsCourse (kind_label s j) (histories j) c → (r : Option ℕ) → first_in c.starts d.branches c.changes parent ≡ r
      → first_in (has_class c.atom (kind_label s j)) d.branches (histories j c.atom) parent ≡ r
  course_known c is r found =
      ap (λ (h : List Change). first_in (has_class c.atom (kind_label s j)) d.branches h parent) (sym is.changes)
      ∙ ap (λ (b : Bool). first_in b d.branches c.changes parent) (sym is.starts)
      ∙ found

  course_first : (c : Course) → IsCourse (kind_label s j) (histories j) c → (r : Option ℕ) → first_in c.starts d.branches c.changes parent ≡ r → IsFirst (λ k. grown s k j parent) c.atom r
  course_first c is r found = first_is s sound d histories cells built j c.atom kind parent r (course_known c is r found)

  pub course_asked : All (HasGate d.branches) courses → (c : Course) → Contains courses c → CanBeAsked d.branches parent c
  course_asked gated c there = All-contains (CanBeAsked d.branches parent) courses c (can_be_asked gated) there

  pub courses_rise : IsStrictlyIncreasing (map (λ c. c.atom) courses)
  courses_rise = subst IsStrictlyIncreasing (sym are.order)
      (IsStrictlyIncreasing-filter (can_come (kind_label s j) (histories j)) s.visible (subst IsStrictlyIncreasing (sym sound.visible) (set_of-rises (map (λ l. l.from) s.up))))

  -- what is found by the course of an atom
  pub course_tells : (c : Course) → Contains courses c → (a : ℕ) → c.atom ≡ a → (r : Option ℕ) → r ≡ first_in c.starts d.branches c.changes parent
      → IsFirst (λ k. grown s k j parent) a r × IfSome r (λ k. k < 4611686018427387904)
  course_tells c there a same r found =
      let is = (are.right c there).1 in (
        subst (λ (b : ℕ). IsFirst (λ k. grown s k j parent) b r) same (course_first c is r (sym found)),
        first_few s sound d histories cells built j c.atom kind parent r (course_known c is r (sym found)),
      )

  -- an atom that comes in some round has a first one
  comes_first : (k : ℕ) (c : Course) → Contains courses c → Contains (grown s k j parent) c.atom → (r : Option ℕ) → first_in c.starts d.branches c.changes parent ≡ r
      → IsFirst (λ k. grown s k j parent) c.atom r → (f : First) × Contains (flat_map (first_by d.branches parent) courses) f × (f.atom ≡ c.atom)
  comes_first k c there comes None found first = absurd (first k comes)
  comes_first k c there comes (Some m) found first =
      let f : First = record { atom = c.atom; round = m } in (
        f,
        Contains-flat_map (first_by d.branches parent) courses c f there
            (subst (λ (r : Option ℕ). Contains (first_of c.atom r) f) (sym found) (Contains-here f f [] refl)),
        refl,
      )

  never_first : (a k : ℕ) → NeverComes (kind_label s j) (histories j) a → Contains (grown s k j parent) a → ⊥
  never_first a k never comes =
      first_is s sound d histories cells built j a kind parent None (
      ap (λ (h : List Change). first_in (has_class a (kind_label s j)) d.branches h parent) never.1
      ∙ ap (λ (b : Bool). first_in b d.branches [] parent) never.0)
      k comes

  -- a visible atom that has no course
  pub no_course_tells : (a : ℕ) → Contains s.visible a → ((c : Course) → Contains courses c → c.atom ≡ a → ⊥) → IsFirst (λ k. grown s k j parent) a None
  no_course_tells a visible none = λ k comes. elim (are.whole a visible) [
    | inl found ↦ none found.0 found.1 found.2
    | inr never ↦ never_first a k never comes
  ]

  pub firsts_are : (firsts : List First) → firsts ≡ flat_map (first_by d.branches parent) courses → AreFirsts s.visible (λ k. grown s k j parent) firsts
  firsts_are firsts is = subst (λ (fs : List First). AreFirsts s.visible (λ k. grown s k j parent) fs) (sym is) (record {
    right = λ f there.
        let found = flat_map-Contains (first_by d.branches parent) courses f there in
        let c = found.0 in
        let of = are.right c found.1 in
        let at = first_of_is c.atom (first_in c.starts d.branches c.changes parent) f found.2 in
        subst (λ (a : ℕ). Contains s.visible a × IsFirst (λ k. grown s k j parent) a (Some f.round)) at.0 (of.0, course_first c of.1 (Some f.round) at.1);
    whole = λ a k visible comes. elim (are.whole a visible) [
      | inl found ↦
          let c = found.0 in
          let r = first_in c.starts d.branches c.changes parent in
          let first = comes_first k c found.1 (subst (λ (b : ℕ). Contains (grown s k j parent) b) (sym found.2) comes) r refl (course_first c (are.right c found.1).1 r refl) in
          (first.0, first.1, first.2 ∙ found.2)
      | inr never ↦ absurd (never_first a k never comes)
    ];
  })
