-- What the cells tell at the end.
use Rattle.std.proofs.Common.{◌≡◌, ℕ, suc, ◌+◌, ◌*◌, ◌-◌, ◌<◌, ◌≤◌, ◌↔◌, true, false, List, [], ◌∷◌, length, Option, Some, None, All, Contains, IfSome, refl, sym, ap, subst, ◌∙◌, arith, inl, inr}
use Rattle.std.proofs.lemmas.Bool.{cases_lt, cases_Bool, both_ways}
use Rattle.std.proofs.lemmas.Nat.{mul-le}
use Rattle.std.proofs.lemmas.List.Elements.{All-head, All-tail}
use Rattle.std.specs.List.Sorted.{IsStrictlyIncreasing}
use Rattle.tp_base.specs.Classes.{has_class}
use Rattle.tp_base.proofs.ClassLemmas.{has_class-Contains, Contains-has_class}
use Rattle.tp_base.specs.declared.atoms.TheConstants.{MOST_ATOMS}
use Rattle.tp_base.proofs.Truths.{same_test}
use Rattle.class_diagrams.specs.Trees.{Tree, eval}
use Rattle.class_diagrams.specs.Arena.{tree_at, Arena, IsArena, Holds}
use Rattle.class_diagrams.specs.References.{Reference}
use Rattle.class_diagrams.proofs.ArenaLemmas.{Holds-tree_at, tree_at-further}
use Rattle.diagram_ops.specs.Steps.{held_with_all, Brings}
use Rattle.diagram_ops.proofs.StepLemmas.{brings_then}
use Rattle.diagram_ops.proofs.HeldLemmas.{covered_right}
use Rattle.simple_core.specs.declared.system.System.{System}
use Rattle.simple_core.specs.Systems.{kind_label, IsSound}
use Rattle.simple_core.specs.Rounds.{grown, IsRest, IsFirst}
use Rattle.pushdown_sym.specs.CellMap.{Entries, place_in, trees_in}
use Rattle.pushdown_sym.specs.Terms.{partial_results}
use Rattle.pushdown_sym.specs.Rounds.{cell, given_atoms, of_each_cell, work, IsAtRest, IsReached}
use Rattle.pushdown_sym.proofs.GrownLemmas.{cell_told}
use Rattle.saturation.specs.Histories.{Change, IsHistory, start_place, place_after, first_holding, first_in}
use Rattle.saturation.specs.Waking.{CellName}
use Rattle.saturation.specs.Saturation.{Histories, empty, IsRound, IsDone, IsBuilt, AreChanges}
use Rattle.saturation.specs.Budgets.{MayBeSpent, HasToBeSpent}
use Rattle.saturation.specs.Held.{HoldsCells}
use Rattle.saturation.proofs.HistoryLemmas.{first_found, none_found}
use Rattle.saturation.proofs.RestLemmas.{rest_stays, label_at_rest}
use Rattle.saturation.proofs.FewRounds.{few_rounds}
use Rattle.saturation.proofs.BudgetLemmas.{cells_held, not_spent, spent_at, work_later}
use Rattle.saturation.proofs.LoopLemmas.{settled, place_inside, history_further, at_rest}
use Rattle.saturation.proofs.GivenLemmas.{never_there, atoms_below}

-- ### the number of rounds

-- the conditions on the numbers are those of a sound system and of an arena
pub rounds_few : (s : System) (nodes k : ℕ) (d : Arena) (histories : Histories) (todo : List CellName) → IsRound s nodes k d histories todo
    → length s.kinds ≤ 4096 → length d.branches ≤ 67108864 → k < 4611686018427387904
rounds_few s nodes k d histories todo round kinds branches =
    let few = few_rounds s d.branches (length s.kinds) MOST_ATOMS k round.changed in
    let product : (length d.branches + 2) * (MOST_ATOMS * length s.kinds) ≤ 67108866 * 4294963200 =
    mul-le (length d.branches + 2) (MOST_ATOMS * length s.kinds) 67108866 4294963200 (omega arith) (omega arith) in
    omega arith

-- ### every round

rest_later : (s : System) → IsSound s → (k m j a : ℕ) → j < length s.kinds → IsAtRest s k → k ≤ m → cell s m j a ≡ cell s k j a
rest_later s sound k m j a kind rest le =
    subst (λ z. cell s z j a ≡ cell s k j a) {x = k + (m - k)} {y = m} (omega arith) (rest_stays s sound k (m - k) j a kind rest)

first_past : (ts : List Tree) (label : List ℕ) (n : ℕ) (cs : List Change) (r : ℕ) → All (λ c. c.0 ≤ n) cs → first_holding ts cs label ≡ Some r → r ≤ n
first_past ts label n [] r past found = cc
first_past ts label n (c ∷ cs) r past found = elim (cases_Bool (eval (tree_at ts c.1) label)) [
  | inl here ↦
      let here_is : Some c.0 ≡ Some r = rw here at found in
      let round : c.0 ≡ r = cc in
      let before : c.0 ≤ n = All-head (λ (c : Change). c.0 ≤ n) c cs past in
      omega arith
  | inr none ↦ let behind : first_holding ts cs label ≡ Some r = rw none at found in first_past ts label n cs r (All-tail (λ (c : Change). c.0 ≤ n) c cs past) behind
]

module _ (s : System) (sound : IsSound s) (d : Arena) (histories : Histories) (cells : Entries) (built : IsBuilt s d histories cells) (j a : ℕ) (kind : j < length s.kinds) where
  pub every_round : (m : ℕ) → tree_at d.branches (place_after s j a (histories j a) m) ≡ cell s m j a
  every_round m =
      let told = built.told j a kind in
      elim (cases_lt built.round m) [
        | inr within ↦ told.cells m within
        | inl past ↦
            ap (tree_at d.branches) (settled (histories j a) (start_place s j a) built.round m (omega arith) told.past)
            ∙ told.cells built.round (omega arith)
            ∙ sym (rest_later s sound built.round m j a kind built.rest (omega arith))
      ]

  holds_told : (parent : List ℕ) (m : ℕ) → eval (tree_at d.branches (place_after s j a (histories j a) m)) parent ≡ true → Contains (grown s m j parent) a
  holds_told parent m holds = (cell_told s sound m j a parent).0 (ap (λ t. eval t parent) (sym (every_round m)) ∙ holds)

  fails_told : (parent : List ℕ) (m : ℕ) → eval (tree_at d.branches (place_after s j a (histories j a) m)) parent ≡ false → Contains (grown s m j parent) a → ⊥
  fails_told parent m fails there =
      both_ways (eval (tree_at d.branches (place_after s j a (histories j a) m)) parent) fails
      (ap (λ t. eval t parent) (every_round m) ∙ (cell_told s sound m j a parent).1 there)

  first_behind : (parent : List ℕ) → has_class a (kind_label s j) ≡ false → (r : Option ℕ) → first_holding d.branches (histories j a) parent ≡ r → IsFirst (λ k. grown s k j parent) a r
  first_behind parent starts None found = λ m. fails_told parent m (none_found d.branches parent (histories j a) found (start_place s j a) starts m)
  first_behind parent starts (Some r) found =
      let first = first_found d.branches parent (histories j a) r (built.told j a kind).order found (start_place s j a) starts in
      (holds_told parent r first.0, λ m less. fails_told parent m (first.1 m less))

  -- the first change whose diagram holds is in the first round whose label has the atom, where that isn't there from the beginning
  pub first_is : (parent : List ℕ) (r : Option ℕ) → first_in (has_class a (kind_label s j)) d.branches (histories j a) parent ≡ r → IsFirst (λ k. grown s k j parent) a r
  first_is parent r found = elim (cases_Bool (has_class a (kind_label s j))) [
    | inr none ↦ first_behind parent none r (rw none at found)
    | inl starts ↦
        let at : Some 0 ≡ r = rw starts at found in
        subst (λ (o : Option ℕ). IsFirst (λ k. grown s k j parent) a o) at ((cell_told s sound 0 j a parent).0 starts, λ m less. absurd (omega arith))
  ]

  few_behind : (parent : List ℕ) (r : Option ℕ) → first_holding d.branches (histories j a) parent ≡ r → IfSome r (λ k. k < 4611686018427387904)
  few_behind parent None found = tt
  few_behind parent (Some r) found =
      let past = first_past d.branches parent built.round (histories j a) r (built.told j a kind).past found in
      let few = built.few in
      omega arith

  pub first_few : (parent : List ℕ) (r : Option ℕ) → first_in (has_class a (kind_label s j)) d.branches (histories j a) parent ≡ r → IfSome r (λ k. k < 4611686018427387904)
  first_few parent r found = elim (cases_Bool (has_class a (kind_label s j))) [
    | inr none ↦ few_behind parent r (rw none at found)
    | inl starts ↦
        let at : Some 0 ≡ r = rw starts at found in
        subst (λ (o : Option ℕ). IfSome o (λ k. k < 4611686018427387904)) at (omega arith)
  ]

-- the set of the atoms whose last diagrams hold is what a node of the kind gets
pub rest_is : (s : System) (sound : IsSound s) (d : Arena) (histories : Histories) (cells : Entries) → (built : IsBuilt s d histories cells) → (j : ℕ) → j < length s.kinds
    → (parent label : List ℕ) → IsStrictlyIncreasing label
    → ((a : ℕ) → Contains label a ↔ (Contains (given_atoms s) a × (eval (trees_in d.branches cells j a) parent ≡ true))) → IsRest s j parent label
rest_is s sound d histories cells built j kind parent label rises members =
    label_at_rest s sound built.round j parent label kind built.rest rises (λ a.
    same_test (has_class a label) (eval (cell s built.round j a) parent)
    (λ there. ap (λ t. eval t parent) (sym (built.tells j a kind)) ∙ ((members a).0 (Contains-has_class a label there)).1)
    (λ holds. has_class-Contains a label ((members a).1 (
      elim (cases_Bool (has_class a (given_atoms s))) [
        | inl given ↦ Contains-has_class a (given_atoms s) given
        | inr none ↦
            let never = never_there s built.round j a (λ there. both_ways (has_class a (given_atoms s)) none (has_class-Contains a (given_atoms s) there)) in
            absurd (both_ways false refl (sym (ap (λ t. eval t parent) never) ∙ holds))
      ],
      ap (λ t. eval t parent) (built.tells j a kind) ∙ holds,
    ))))

-- ### the budget

-- all cells at rest are held
all_held : (s : System) (sound : IsSound s) (d : Arena) (histories : Histories) (k : ℕ) → IsArena d → ((j a : ℕ) → j < length s.kinds → IsHistory s d.branches k (histories j a) j a) → IsAtRest s k → HoldsCells s d.branches
all_held s sound d histories k arena each rest m at_rest = cells_held s m d arena (λ j a kind.
    let told = each j a kind in
    let same : tree_at d.branches (place_after s j a (histories j a) k) ≡ cell s m j a =
    told.cells k (omega arith) ∙ (elim (cases_lt k m) [
      | inl late ↦ sym (rest_later s sound k m j a kind rest (omega arith))
      | inr early ↦ rest_later s sound m k j a kind at_rest early
    ]) in
    subst (λ t. Holds d.branches t) same (Holds-tree_at d.branches (place_after s j a (histories j a) k) (place_inside d.branches (histories j a) (start_place s j a) k tt told.inside)))

module _ (s : System) (nodes k : ℕ) (old d : Arena) (histories : Histories) (todo : List CellName) (round : IsRound s nodes k old histories todo) where
  next_work : Brings old d (of_each_cell s (partial_results s (cell s k))) → Brings (empty nodes) d (work s (suc k))
  next_work brings =
      brings_then (empty nodes) old d (of_each_cell s (partial_results s (cell s k))) (work s (suc k))
      (covered_right (work s k) (of_each_cell s (partial_results s (cell s k)))) (work_later s k nodes old round.work) brings

  -- each round so far changed something
  next_reached : IsReached s (suc k)
  next_reached m less rest = let c = round.changed m (omega arith) in c.differs (rest c.kind c.atom c.kind_below)

  -- a cell for which there is no room
  pub spent : (j a : ℕ) → j < length s.kinds → Contains (given_atoms s) a → Brings old d (of_each_cell s (partial_results s (cell s k)))
      → d.limit < length (held_with_all d.branches (partial_results s (cell s k) j a)) → MayBeSpent s nodes
  spent j a kind atom brings full = spent_at s k nodes j a d kind atom (next_work brings) next_reached full

-- ### one round more

module _ (s : System) (sound : IsSound s) (nodes k : ℕ) (old d : Arena) (histories : Histories) (cells : Entries) (todo : List CellName) (done : IsDone s nodes k old histories cells todo) where
  pub rounds_left : k < 4611686018427387904
  rounds_left =
      let few = sound.few_kinds in
      let room = done.round.work.arena.in_limit in
      let small = done.round.work.arena.small in
      rounds_few s nodes k old histories todo done.round (omega arith) (omega arith)

  -- where nothing changed
  module _ (changes : List (CellName × Reference)) (calculated : AreChanges s k old d todo changes) (none : changes ≡ []) where
    rests : IsAtRest s k
    rests = at_rest s sound (atoms_below s sound) nodes k old d histories todo [] changes done.round calculated none

    told_at_rest : (j a : ℕ) → j < length s.kinds → IsHistory s d.branches k (histories j a) j a
    told_at_rest j a kind = history_further s old.branches d.branches calculated.brings.stays k (histories j a) j a (done.round.told j a kind)

    pub built_at_rest : IsBuilt s d histories cells
    built_at_rest = record {
      round = k;
      few = rounds_left;
      rest = rests;
      told = told_at_rest;
      tells = λ j a kind. tree_at-further old.branches d.branches (place_in cells j a) calculated.brings.stays (done.inside j a) ∙ done.tells j a kind;
      work = (suc k, next_reached s nodes k old d histories todo done.round, (next_work s nodes k old d histories todo done.round calculated.brings).only);
      whole = all_held s sound d histories k calculated.brings.arena told_at_rest rests;
    }

    pub whole_at_rest : ¬ HasToBeSpent s nodes
    whole_at_rest (m, rest, more) =
        let fits = not_spent s m nodes old done.round.work.arena done.round.work.limit (all_held s sound old histories k done.round.work.arena done.round.told rests m rest) in
        omega arith
