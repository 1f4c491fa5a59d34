-- Kinds that are marked, and what links may give to them.
use Rattle.std.proofs.Common.{◌≡◌, ◌≢◌, ℕ, ◌<◌, Bool, true, false, List, [], ◌∷◌, ◌++◌, length, get_or, Contains, refl, sym, ap, subst, ◌∙◌, arith, inl, inr}
use Rattle.std.proofs.lemmas.Bool.{cases_Bool}
use Rattle.std.proofs.lemmas.List.Elements.{Contains-append_left, Contains-append_right, Contains-append_cases}
use Rattle.tp_base.specs.Classes.{has_class}
use Rattle.tp_base.proofs.Lists.{Contains-flat_map, flat_map-Contains}
use Rattle.tp_base.proofs.Rising.{Contains-here, Contains-none}
use Rattle.class_diagrams.specs.References.{Reference}
use Rattle.class_diagrams.specs.Trees.{leaf}
use Rattle.simple_core.specs.declared.rules.Spawn.{Spawn}
use Rattle.simple_core.specs.declared.system.System.{System}
use Rattle.pushdown_sym.specs.Terms.{CellTrees}
use Rattle.saturation.specs.Waking.{CellName, seen_by, seen_each, AreMarked, AreAllMarked, AreSeen, AreEnds}
use Rattle.saturation.proofs.NoteLemmas.{last_cases}
use Rattle.saturation.proofs.WakingLemmas.{named_one, one_named}

-- ### kinds that are marked

pub all_marked_more : (count : ℕ) (looked : List ℕ) (done : List (CellName × Reference)) (c : CellName × Reference) (old new : List Bool) → AreAllMarked count looked done old → AreMarked looked c.0 old new
    → AreAllMarked count looked (done ++ c ∷ []) new
all_marked_more count looked done c old new before marked = record {
  long = marked.count ∙ before.long;
  marked = λ d listed looks within. elim (last_cases {X = CellName × Reference} done c d listed) [
    | inl earlier ↦ marked.kept d.0.0 (before.marked d earlier looks within)
    | inr last ↦
        let kind : d.0.0 ≡ c.0.0 = ap (λ (e : CellName × Reference). e.0.0) last in
        let atom : d.0.1 ≡ c.0.1 = ap (λ (e : CellName × Reference). e.0.1) last in
        subst (λ z. get_or new z false ≡ true) (sym kind) (marked.here (subst (λ z. has_class z looked ≡ true) atom looks) (omega (arith, kind, within, before.long)))
  ];
  only = λ j there. elim (marked.only j there) [
    | inl earlier ↦ let one = before.only j earlier in (one.0, Contains-append_left done (c ∷ []) one.0 one.1, one.2, one.3)
    | inr here ↦ (c, Contains-append_right done (c ∷ []) c (Contains-here c c [] refl), sym here.0, here.1)
  ];
}

-- ### marked kinds with the ends of an atom

pub seen_there : (marks : List Bool) (atoms kinds : List ℕ) (j a : ℕ) → Contains kinds j → get_or marks j false ≡ true → Contains atoms a → Contains {X = CellName} (seen_each marks atoms kinds) (j, a)
seen_there marks atoms kinds j a kind marked there =
    Contains-flat_map {X = ℕ} {Y = CellName} (seen_by marks atoms) kinds j (j, a) kind (rw marked (named_one j j a atoms refl there))

pub there_seen : (marks : List Bool) (atoms kinds : List ℕ) (c : CellName) → Contains (seen_each marks atoms kinds) c → (get_or marks c.0 false ≡ true) × Contains atoms c.1
there_seen marks atoms kinds c there =
    let found = flat_map-Contains {X = ℕ} {Y = CellName} (seen_by marks atoms) kinds c there in
    elim (cases_Bool (get_or marks found.0 false)) [
      | inl marked ↦
          let one = one_named found.0 atoms c (rw marked at found.2) in
          (subst (λ z. get_or marks z false ≡ true) (sym one.0) marked, one.1)
      | inr none ↦ absurd (Contains-none c (rw none at found.2))
    ]

pub seen_none : (now : CellTrees) (marks : List Bool) (ends : ℕ → List ℕ) (cells : List CellName) → AreSeen now marks [] ends cells cells
seen_none now marks ends cells = record {
  kept = λ c there. there;
  whole = λ m a j listed some marked end. absurd (Contains-none m listed);
  only = λ c there. inl there;
}

-- an atom more that has no ends
pub seen_skipped : (now : CellTrees) (marks : List Bool) (done : List ℕ) (atom : ℕ) (ends : ℕ → List ℕ) (old cells : List CellName) → ends atom ≡ [] → AreSeen now marks done ends old cells
    → AreSeen now marks (done ++ atom ∷ []) ends old cells
seen_skipped now marks done atom ends old cells none before = record {
  kept = before.kept;
  whole = λ m a j listed some marked end. elim (last_cases done atom m listed) [
    | inl earlier ↦ before.whole m a j earlier some marked end
    | inr last ↦ absurd (Contains-none a (subst (λ (z : List ℕ). Contains z a) none (subst (λ z. Contains (ends z) a) last end)))
  ];
  only = before.only;
}

pub seen_more : (now : CellTrees) (marks : List Bool) (done : List ℕ) (atom : ℕ) (ends : ℕ → List ℕ) (kinds : List ℕ) (old cells new : List CellName)
    → ((j : ℕ) → now j atom ≢ leaf false → Contains kinds j) → new ≡ cells ++ seen_each marks (ends atom) kinds → AreSeen now marks done ends old cells
    → AreSeen now marks (done ++ atom ∷ []) ends old new
seen_more now marks done atom ends kinds old cells new having is before = record {
  kept = λ c there. subst (λ (cs : List CellName). Contains cs c) (sym is) (Contains-append_left cells (seen_each marks (ends atom) kinds) c (before.kept c there));
  whole = λ m a j listed some marked end. subst (λ (cs : List CellName). Contains cs (j, a)) (sym is) (elim (last_cases done atom m listed) [
    | inl earlier ↦ Contains-append_left cells (seen_each marks (ends atom) kinds) (j, a) (before.whole m a j earlier some marked end)
    | inr last ↦ Contains-append_right cells (seen_each marks (ends atom) kinds) (j, a)
        (seen_there marks (ends atom) kinds j a (having j (subst (λ z. now j z ≢ leaf false) last some)) marked (subst (λ z. Contains (ends z) a) last end))
  ]);
  only = λ c there. elim (Contains-append_cases cells (seen_each marks (ends atom) kinds) c (subst (λ (cs : List CellName). Contains cs c) is there)) [
    | inl earlier ↦ before.only c earlier
    | inr last ↦ let found = there_seen marks (ends atom) kinds c last in inr (found.0, atom, found.1)
  ];
}

-- the same of cells that agree
pub ends_same : (s : System) (now other : CellTrees) (ends : ℕ → List ℕ) → ((c : Spawn) → Contains s.child c → c.kind < length s.kinds) → ((j a : ℕ) → j < length s.kinds → now j a ≡ other j a)
    → AreEnds s now ends → AreEnds s other ends
ends_same s now other ends kinds same before = record {
  whole = λ l listed c in_child some. before.whole l listed c in_child (λ none. some (sym (same c.kind l.from (kinds c in_child)) ∙ none));
  only = before.only;
}
