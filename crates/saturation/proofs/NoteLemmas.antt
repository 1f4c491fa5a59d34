-- Changes noted one after another; one that comes again changes nothing.
use Rattle.std.proofs.Common.{◌≡◌, ◌≢◌, ℕ, suc, ◌<◌, Bool, true, false, ◌==◌, eqb, ◌&&◌, if◌then◌else◌, List, [], ◌∷◌, ◌++◌, length, Contains, sym, ap, subst, ◌∙◌, inl, inr, ◌⊎◌}
use Rattle.std.proofs.lemmas.Bool.{cases_Bool, eqb-true, eq-eqb}
use Rattle.tp_base.proofs.Rising.{Contains-cons, Contains-none}
use Rattle.class_diagrams.specs.References.{Reference}
use Rattle.class_diagrams.specs.Trees.{Tree}
use Rattle.class_diagrams.specs.Arena.{tree_at, IsIn}
use Rattle.class_diagrams.proofs.BranchLemmas.{StartsWith-itself}
use Rattle.simple_core.specs.declared.system.System.{System}
use Rattle.pushdown_sym.specs.Terms.{CellTrees}
use Rattle.pushdown_sym.specs.Rounds.{cell}
use Rattle.saturation.specs.Histories.{Change, IsHistory}
use Rattle.saturation.specs.Waking.{CellName}
use Rattle.saturation.specs.Saturation.{Histories, IsTold, AreNotedUpTo}
use Rattle.saturation.proofs.LoopLemmas.{same_name, history_kept, history_pushed}

-- what is behind a list is in it or is the last
pub last_cases : {X : Type 0} (xs : List X) (x y : X) → Contains (xs ++ x ∷ []) y → Contains xs y ⊎ (y ≡ x)
last_cases [] x y there = elim ((Contains-cons y x []).0 there) [ inl here ↦ inr here | inr none ↦ absurd (Contains-none y none) ]
last_cases (z ∷ xs) x y there = elim ((Contains-cons y z (xs ++ x ∷ [])).0 there) [
  | inl here ↦ inl ((Contains-cons y z xs).1 (inl here))
  | inr behind ↦ elim (last_cases xs x y behind) [ inl first ↦ inl ((Contains-cons y z xs).1 (inr first)) | inr last ↦ inr last ]
]

-- one of two, each of which is of the arena
pub either_in : (ts : List Tree) (first : Bool) (p q r : Reference) → r ≡ (if first then p else q) → IsIn ts p → IsIn ts q → IsIn ts r
either_in ts true p q r is in_p in_q = subst (IsIn ts) (sym is) in_p
either_in ts false p q r is in_p in_q = subst (IsIn ts) (sym is) in_q

-- one of two by the test of a cell
at_cell : {X : Type 0} (j a i b : ℕ) (x y z : X) → (i ≡ j) → (b ≡ a) → z ≡ (if (j == i) && (a == b) then x else y) → z ≡ x
at_cell j a i b x y z kinds atoms is = rw (eq-eqb j i (sym kinds), eq-eqb a b (sym atoms)) at is

at_other : {X : Type 0} (j a i b : ℕ) (x y z : X) → ((◌≡◌ {A = CellName} (i, b) (j, a)) → ⊥) → z ≡ (if (j == i) && (a == b) then x else y) → z ≡ y
at_other j a i b x y z other is = elim (cases_Bool (eqb j i)) [
  | inr kinds ↦ rw kinds at is
  | inl kinds ↦ elim (cases_Bool (eqb a b)) [
    | inr atoms ↦ rw (kinds, atoms) at is
    | inl atoms ↦ absurd (other (λ n. (sym (eqb-true j i kinds) n, sym (eqb-true a b atoms) n)))
  ]
]

-- a cell that is given a diagram of its own tree
same_cells : (ts : List Tree) (j a : ℕ) (f : Reference) (places others : ℕ → ℕ → Reference) → tree_at ts f ≡ tree_at ts (places j a)
    → ((i b : ℕ) → others i b ≡ (if (j == i) && (a == b) then f else places i b)) → (i b : ℕ) → tree_at ts (others i b) ≡ tree_at ts (places i b)
same_cells ts j a f places others same set i b = elim (same_name i b j a) [
  | inr other ↦ ap (tree_at ts) (at_other j a i b f (places i b) (others i b) other (set i b))
  | inl here ↦
      ap (tree_at ts) (at_cell j a i b f (places i b) (others i b) (ap (λ (c : CellName). c.0) here) (ap (λ (c : CellName). c.1) here) (set i b))
      ∙ same ∙ ap (λ (c : CellName). tree_at ts (places c.0 c.1)) (sym here)
]

module _ (s : System) (ts : List Tree) (k : ℕ) (done : List (CellName × Reference)) (j a : ℕ) (f : Reference) (tree : tree_at ts f ≡ cell s (suc k) j a) where
  still_none : (i b : ℕ) → ((◌≡◌ {A = CellName} (i, b) (j, a)) → ⊥) → ((g : Reference) → Contains done ((i, b), g) → ⊥)
      → (g : Reference) → Contains (done ++ ((j, a), f) ∷ []) ((i, b), g) → ⊥
  still_none i b other none g there = elim (last_cases {X = CellName × Reference} done ((j, a), f) ((i, b), g) there) [
    | inl before ↦ none g before
    | inr last ↦ other (ap (λ (e : CellName × Reference). e.0) last)
  ]

  -- a change that the cell has already
  noted_same : (h : Histories) (now : CellTrees) → tree_at ts f ≡ now j a → AreNotedUpTo s ts k done h now → AreNotedUpTo s ts k (done ++ ((j, a), f) ∷ []) h now
  noted_same h now same noted i b kind = elim (noted i b kind) [
    | inl after ↦ inl after
    | inr before ↦ elim (same_name i b j a) [
      | inr other ↦ inr (before.0, still_none i b other before.1)
      | inl here ↦
          let unchanged : cell s (suc k) i b ≡ cell s k i b =
          ap (λ (c : CellName). cell s (suc k) c.0 c.1) here ∙ sym tree ∙ same ∙ ap (λ (c : CellName). now c.0 c.1) (sym here) ∙ before.0.1 in
          inl (history_kept s ts ts (StartsWith-itself ts) k (h i b) i b before.0.0 unchanged, before.0.1 ∙ sym unchanged)
    ]
  ]

  -- and that is given to it once more
  pub noted_again : (h : Histories) (places others : ℕ → ℕ → Reference) → tree_at ts f ≡ tree_at ts (places j a)
      → ((i b : ℕ) → others i b ≡ (if (j == i) && (a == b) then f else places i b))
      → AreNotedUpTo s ts k done h (λ i b. tree_at ts (places i b)) → AreNotedUpTo s ts k (done ++ ((j, a), f) ∷ []) h (λ i b. tree_at ts (others i b))
  noted_again h places others same set noted i b kind =
      let place = same_cells ts j a f places others same set i b in
      elim (noted_same h (λ m n. tree_at ts (places m n)) same noted i b kind) [
        | inl after ↦ inl (after.0, place ∙ after.1)
        | inr before ↦ inr ((before.0.0, place ∙ before.0.1), before.1)
      ]

  -- a change of the cell
  pub noted_push : (h new : Histories) (places others : ℕ → ℕ → Reference) → IsIn ts f → tree_at ts f ≢ tree_at ts (places j a)
      → ((i b : ℕ) → new i b ≡ (if (j == i) && (a == b) then h j a ++ (suc k, f) ∷ [] else h i b))
      → ((i b : ℕ) → others i b ≡ (if (j == i) && (a == b) then f else places i b))
      → AreNotedUpTo s ts k done h (λ i b. tree_at ts (places i b)) → AreNotedUpTo s ts k (done ++ ((j, a), f) ∷ []) new (λ i b. tree_at ts (others i b))
  noted_push h new places others inside differs pushed set noted i b kind = elim (same_name i b j a) [
    | inr other ↦
        let history : new i b ≡ h i b = at_other j a i b (h j a ++ (suc k, f) ∷ []) (h i b) (new i b) other (pushed i b) in
        let place : tree_at ts (others i b) ≡ tree_at ts (places i b) = ap (tree_at ts) (at_other j a i b f (places i b) (others i b) other (set i b)) in
        elim (noted i b kind) [
          | inl after ↦ inl (subst (λ (c : List Change). IsHistory s ts (suc k) c i b) (sym history) after.0, place ∙ after.1)
          | inr before ↦ inr ((subst (λ (c : List Change). IsHistory s ts k c i b) (sym history) before.0.0, place ∙ before.0.1), still_none i b other before.1)
        ]
    | inl here ↦
        let kinds : i ≡ j = ap (λ (c : CellName). c.0) here in
        let atoms : b ≡ a = ap (λ (c : CellName). c.1) here in
        let history : new i b ≡ h j a ++ (suc k, f) ∷ [] = at_cell j a i b (h j a ++ (suc k, f) ∷ []) (h i b) (new i b) kinds atoms (pushed i b) in
        let place : others i b ≡ f = at_cell j a i b f (places i b) (others i b) kinds atoms (set i b) in
        let given : tree_at ts f ≡ cell s (suc k) i b = tree ∙ ap (λ (c : CellName). cell s (suc k) c.0 c.1) (sym here) in
        elim (noted i b kind) [
          | inl after ↦ absurd (differs (given ∙ sym after.1 ∙ ap (λ (c : CellName). tree_at ts (places c.0 c.1)) here))
          | inr before ↦ inl (
            subst (λ (c : List Change). IsHistory s ts (suc k) c i b) (sym (history ∙ ap (λ (c : CellName). h c.0 c.1 ++ (suc k, f) ∷ []) (sym here)))
                (history_pushed s ts ts (StartsWith-itself ts) k (h i b) i b before.0.0 f inside given),
            ap (tree_at ts) place ∙ given,
          )
        ]
  ]

-- when all changes are noted, each cell is told one round further
pub all_noted : (s : System) (ts : List Tree) (k : ℕ) (changes : List (CellName × Reference)) (h : Histories) (now : CellTrees)
    → ((j a : ℕ) → j < length s.kinds → ((f : Reference) → Contains changes ((j, a), f) → ⊥) → cell s (suc k) j a ≡ cell s k j a)
    → AreNotedUpTo s ts k changes h now → (j a : ℕ) → j < length s.kinds → IsTold s ts (suc k) h now j a
all_noted s ts k changes h now stays noted j a kind = elim (noted j a kind) [
  | inl after ↦ after
  | inr before ↦
      let same = stays j a kind before.1 in
      (history_kept s ts ts (StartsWith-itself ts) k (h j a) j a before.0.0 same, before.0.1 ∙ sym same)
]
