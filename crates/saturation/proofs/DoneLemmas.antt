-- One round after another.
use Rattle.std.proofs.Common.{◌≡◌, ℕ, suc, ◌+◌, ◌*◌, ◌<◌, ◌≤◌, true, false, ◌==◌, List, [], ◌∷◌, length, All, Contains, refl, ◌∙◌, arith, inl, inr}
use Rattle.std.proofs.lemmas.Bool.{both_ways, eqb-true, eq-eqb}
use Rattle.std.proofs.lemmas.Nat.{mul-le}
use Rattle.tp_base.specs.declared.atoms.TheConstants.{MOST_ATOMS}
use Rattle.std.proofs.lemmas.List.Elements.{All-contains}
use Rattle.tp_base.proofs.Rising.{Contains-none, Contains-here}
use Rattle.class_diagrams.specs.References.{Reference}
use Rattle.class_diagrams.specs.Arena.{Arena}
use Rattle.class_diagrams.proofs.ArenaLemmas.{tree_at-further}
use Rattle.simple_core.specs.declared.rules.Spawn.{Spawn}
use Rattle.simple_core.specs.declared.system.System.{System}
use Rattle.simple_core.specs.Systems.{IsSound}
use Rattle.pushdown_sym.specs.CellMap.{Entries, place_in, trees_in}
use Rattle.pushdown_sym.specs.Adding.{AreIn}
use Rattle.pushdown_sym.specs.Rounds.{cell, given_atoms}
use Rattle.saturation.specs.Budgets.{MayBeSpent}
use Rattle.saturation.specs.Waking.{CellName, AreReaders, AreEnds, HaveChanged}
use Rattle.saturation.specs.Saturation.{Histories, AreChanges, AreNotedUpTo, IsFullIn, IsDone, HasSome}
use Rattle.saturation.proofs.FewRounds.{few_rounds}
use Rattle.saturation.proofs.GivenLemmas.{atoms_below}
use Rattle.saturation.proofs.LoopLemmas.{history_further, is_changed, stays_same, next_round}
use Rattle.saturation.proofs.NoteLemmas.{all_noted}
use Rattle.saturation.proofs.WakingLemmas.{readers_same}
use Rattle.saturation.proofs.EndsLemmas.{ends_same}
use Rattle.saturation.proofs.EndLemmas.{spent}

module _ (s : System) (nodes k : ℕ) (old : Arena) (before : Histories) (cells : Entries) (todo : List CellName) (done : IsDone s nodes k old before cells todo) where
  pub todo_given : All (λ (c : CellName). Contains (given_atoms s) c.1) todo
  todo_given i c less = (done.round.cells i c less).1

  pub todo_kinds : All (λ (c : CellName). c.0 < length s.kinds) todo
  todo_kinds i c less = (done.round.cells i c less).0

  pub spent_in : IsFullIn s k old → MayBeSpent s nodes
  spent_in full = spent s nodes k old full.at before todo done.round full.kind full.atom full.kind_below full.given full.brings full.full

  pub rounds_bound : k ≤ (nodes + 2) * (MOST_ATOMS * length s.kinds)
  rounds_bound =
      let few = few_rounds s old.branches (length s.kinds) MOST_ATOMS k done.round.changed in
      let room = done.round.work.arena.in_limit in
      let limit = done.round.work.limit in
      let product : (length old.branches + 2) * (MOST_ATOMS * length s.kinds) ≤ (nodes + 2) * (MOST_ATOMS * length s.kinds) =
      mul-le (length old.branches + 2) (MOST_ATOMS * length s.kinds) (nodes + 2) (MOST_ATOMS * length s.kinds) (omega arith) (omega arith) in
      omega arith

  module _ (new : Arena) (changes : List (CellName × Reference)) (calculated : AreChanges s k old new todo changes) where
    -- nothing is noted yet
    pub start_noted : AreNotedUpTo s new.branches k [] before (trees_in new.branches cells)
    start_noted j a kind = inr (
      (
        history_further s old.branches new.branches calculated.brings.stays k (before j a) j a (done.round.told j a kind),
        tree_at-further old.branches new.branches (place_in cells j a) calculated.brings.stays (done.inside j a) ∙ done.tells j a kind,
      ),
      λ f there. Contains-none {X = CellName × Reference} ((j, a), f) there,
    )

    -- all is noted, and something changed
    pub next_done : IsSound s → (c : CellName × Reference) → Contains changes c → (after : Histories) (later : Entries) (next : List CellName) → AreIn new.branches later
        → AreNotedUpTo s new.branches k changes after (trees_in new.branches later) → AreReaders s (trees_in new.branches later) changes next
        → IsDone s nodes (suc k) new after later next
    next_done sound c first after later next inside noted readers =
        let told = all_noted s new.branches k changes after (trees_in new.branches later)
        (stays_same s sound (atoms_below s sound) nodes k old new before todo next changes done.round calculated) noted in
        record {
          inside = inside;
          round = next_round s sound (atoms_below s sound) nodes k old new before todo next changes done.round calculated after (λ j a kind. (told j a kind).0) c first
              (readers_same s (λ c there. All-contains (λ (c : Spawn). c.kind < length s.kinds) s.child c sound.spawned there) (trees_in new.branches later) (cell s (suc k)) (λ j a kind. (told j a kind).1) changes next readers);
          tells = λ j a kind. (told j a kind).1;
        }

    -- what holds somewhere did so before, or is among the changes
    pub since_changed : IsSound s → (after : Histories) (later : Entries) → AreNotedUpTo s new.branches k changes after (trees_in new.branches later)
        → HaveChanged s (cell s k) (trees_in new.branches later) changes
    since_changed sound after later noted i b kind some = elim (is_changed changes i b) [
      | inl there ↦ inr there
      | inr none ↦
          let same = stays_same s sound (atoms_below s sound) nodes k old new before todo [] changes done.round calculated in
          let told = all_noted s new.branches k changes after (trees_in new.branches later) same noted in
          inl (λ never. some ((told i b kind).1 ∙ same i b kind none ∙ never))
    ]

    pub ends_later : IsSound s → (after : Histories) (later : Entries) (ends : ℕ → List ℕ) → AreNotedUpTo s new.branches k changes after (trees_in new.branches later)
        → AreEnds s (trees_in new.branches later) ends → AreEnds s (cell s (suc k)) ends
    ends_later sound after later ends noted given =
        let told = all_noted s new.branches k changes after (trees_in new.branches later)
        (stays_same s sound (atoms_below s sound) nodes k old new before todo [] changes done.round calculated) noted in
        ends_same s (trees_in new.branches later) (cell s (suc k)) ends (λ c there. All-contains (λ (c : Spawn). c.kind < length s.kinds) s.child c sound.spawned there) (λ j a kind. (told j a kind).1) given

    -- what changed is of the system's kinds
    pub changed_kinds : All (λ (c : CellName × Reference). c.0.0 < length s.kinds) changes
    changed_kinds i c less = All-contains (λ (x : CellName). x.0 < length s.kinds) todo _ todo_kinds (calculated.listed i c less)

-- ### lists that have something

pub none_if : {X : Type 0} (xs : List X) (n : ℕ) → n ≡ length xs → (n == 0) ≡ true → xs ≡ []
none_if [] n is none = refl
none_if (x ∷ xs) n is none = let zero : n ≡ 0 = eqb-true n 0 none in absurd (omega arith)

pub some_if : {X : Type 0} (xs : List X) (n : ℕ) → n ≡ length xs → (n == 0) ≡ false → HasSome xs
some_if [] n is some = absurd (both_ways (n == 0) some (eq-eqb n 0 is))
some_if (x ∷ xs) n is some = (x, Contains-here x x xs refl)
