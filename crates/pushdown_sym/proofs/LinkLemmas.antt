-- The terms of links.
use Rattle.std.proofs.Common.{◌≡◌, eqb, ℕ, zero, suc, ◌+◌, Bool, true, false, List, [], ◌∷◌, ◌++◌, map, take, slice_get, Some, if◌then◌else◌, ◌==◌, Result, Ok, Err, IsErrAnd, All, arith, refl, sym, ap, subst, ◌∙◌, inl, inr, append-nil}
use Rattle.std.specs.List.{filter, flat_map}
use Rattle.std.specs.List.Sorted.{IsStrictlyIncreasing}
use Rattle.std.proofs.lemmas.Bool.{cases_Bool}
use Rattle.std.proofs.lemmas.List.{take_more, map-append}
use Rattle.std.proofs.lemmas.Option.{slice_get_within, get_or_from_slice_get}
use Rattle.class_diagrams.specs.References.{Reference}
use Rattle.class_diagrams.specs.declared.faults.DiagramFault.{DiagramFault}
use Rattle.class_diagrams.specs.Trees.{Tree, leaf, branch, tand, tor, variable, IsBranchOf}
use Rattle.class_diagrams.specs.Arena.{tree_at, IsIn, Arena, IsArena}
use Rattle.class_diagrams.proofs.ArenaLemmas.{tree_at-further}
use Rattle.diagram_ops.specs.Steps.{Calculates}
use Rattle.diagram_ops.specs.Compositions.{atoms_of}
use Rattle.diagram_ops.proofs.HeldLemmas.{AreCovered}
use Rattle.diagram_ops.proofs.StepLemmas.{brings_itself, brings_part, calculates_last, calculates_failed, calculates_same_error}
use Rattle.simple_core.specs.declared.rules.Local.{Local}
use Rattle.simple_core.specs.declared.rules.Link.{Link}
use Rattle.simple_core.specs.declared.system.System.{System}
use Rattle.pushdown_sym.specs.CellMap.{Entries, place_in, trees_in}
use Rattle.pushdown_sym.specs.Terms.{CellTrees, Term, terms, local_term, up_term, down_term, disjunction, disjunctions, next_tree, partial_results}
use Rattle.pushdown_sym.specs.declared.gathering.Child.{Child}
use Rattle.pushdown_sym.specs.Adding.{AreIn, Adds, of_local, of_up, of_down, paired, term_at, child_term}
use Rattle.pushdown_sym.specs.Children.{term_of}
use Rattle.pushdown_sym.proofs.SeenLemmas.{child_is}
use Rattle.pushdown_sym.proofs.AddLemmas.{IsAdding, add_more, disjunctions_first, cells_same}

-- ### a link to the parent

pub of_up-gives : (a : ℕ) (l : Link) → true ≡ eqb l.to a → of_up a l ≡ up_term l ∷ []
of_up-gives a l gives = rw (← gives) refl

module _ (a b : Arena) (sofar : Reference) (l : Link) (sofar_in : IsIn a.branches sofar) (arena : IsArena a) where
  up_covered : AreCovered (variable l.from ∷ []) (disjunctions (tree_at a.branches sofar) (up_term l ∷ []))
  up_covered x there = elim there [ inl here ↦ inl here | inr none ↦ absurd none ]

  pub up_failed : (r : Result Reference DiagramFault) (u w : Tree) (e : DiagramFault) → IsErrAnd r (λ y. y ≡ e)
      → Calculates a b (variable l.from ∷ []) u (Err e) → Calculates a b (disjunctions (tree_at a.branches sofar) (up_term l ∷ [])) w r
  up_failed r u w e is failed =
      calculates_same_error a b (disjunctions (tree_at a.branches sofar) (up_term l ∷ [])) w r e is
      (calculates_failed a a b (variable l.from ∷ []) (disjunctions (tree_at a.branches sofar) (up_term l ∷ [])) u w e up_covered
      (brings_itself a (disjunctions (tree_at a.branches sofar) (up_term l ∷ [])) arena) failed)

  pub up_added : (c : Arena) (g : Reference) (r : Result Reference DiagramFault) → Calculates a b (variable l.from ∷ []) (variable l.from) (Ok g)
      → Calculates b c (tor (tree_at b.branches sofar) (tree_at b.branches g) ∷ []) (tor (tree_at b.branches sofar) (tree_at b.branches g)) r
      → Adds a c sofar (up_term l ∷ []) r
  up_added c g r first second =
      let same : tor (tree_at b.branches sofar) (tree_at b.branches g) ≡ tor (tree_at a.branches sofar) (variable l.from) =
      λ k. tor (tree_at-further a.branches b.branches sofar first.brings.stays sofar_in k) (first.answer.1 k) in
      calculates_last a b c (tor (tree_at b.branches sofar) (tree_at b.branches g) ∷ []) (disjunctions (tree_at a.branches sofar) (up_term l ∷ []))
      (tor (tree_at b.branches sofar) (tree_at b.branches g)) (tor (tree_at a.branches sofar) (variable l.from)) r
      (λ x there. elim there [ inl here ↦ inr (inl (subst (λ u. IsBranchOf x u) same here)) | inr none ↦ absurd none ])
      (brings_part a b (variable l.from ∷ []) (disjunctions (tree_at a.branches sofar) (up_term l ∷ [])) up_covered first.brings)
      same second

-- ### false terms

pub tor-false : (t : Tree) → tor t (leaf false) ≡ t
unfolding tor
tor-false (leaf true) = refl
tor-false (leaf false) = refl
tor-false (branch a l h) = refl

pub tand-false : (t : Tree) → tand (leaf false) t ≡ leaf false
unfolding tand
tand-false t = refl

-- ### atoms with their diagrams

pub paired_more : (f : ℕ → Reference) (atoms : List ℕ) (i b : ℕ) → slice_get atoms i ≡ Some b → paired f (take (i + 1) atoms) ≡ paired f (take i atoms) ++ (b, f b) ∷ []
paired_more f atoms i b at =
    ap (paired f) (take_more atoms i b (slice_get_within atoms i b at) ∙ (λ k. take i atoms ++ get_or_from_slice_get atoms i b b at k ∷ []))
    ∙ map-append (λ c. (c, f c)) (take i atoms) (b ∷ [])

pub atoms_paired : (f : ℕ → Reference) (atoms : List ℕ) → map (λ e. e.0) (paired f atoms) ≡ atoms
atoms_paired f [] = refl
atoms_paired f (b ∷ atoms) = ap (λ bs. b ∷ bs) (atoms_paired f atoms)

pub all_paired : (P : Reference → Type 0) (f : ℕ → Reference) (atoms : List ℕ) → ((b : ℕ) → P (f b)) → All (λ e. P e.1) (paired f atoms)
all_paired P f [] each k d less = absurd (omega arith)
all_paired P f (b ∷ atoms) each zero d less = each b
all_paired P f (b ∷ atoms) each (suc k) d less = all_paired P f atoms each k d (omega arith)

pub rising_paired : (f : ℕ → Reference) (atoms : List ℕ) → IsStrictlyIncreasing atoms → IsStrictlyIncreasing (map (λ e. e.0) (paired f atoms))
rising_paired f atoms rising = subst IsStrictlyIncreasing (sym (atoms_paired f atoms)) rising

pub child_there : (a b : Arena) (cells : Entries) (j : ℕ) (c : Child) (sofar there : Reference) (by : List (ℕ × Reference)) (r : Result Reference DiagramFault)
    → there ≡ place_in cells j c.needs → by ≡ paired (place_in cells j) (atoms_of (tree_at a.branches c.diagram))
    → Adds a b sofar (child_term a there c.diagram by ∷ []) r → Adds a b sofar (term_of a.branches cells j c ∷ []) r
child_there a b cells j c sofar there by r there_is by_is adds =
    subst (λ (t : Term). Adds a b sofar (t ∷ []) r)
    ((λ i. child_term a (there_is i) c.diagram (by_is i)) ∙ child_is a cells j c)
    adds

pub small_there : (a b : Arena) (cells : Entries) (j : ℕ) (c : Child) (sofar there : Reference) (r : Result Reference DiagramFault)
    → there ≡ place_in cells j c.needs
    → Adds a b sofar (term_at a.branches there c.diagram (trees_in a.branches cells j) ∷ []) r → Adds a b sofar (term_of a.branches cells j c ∷ []) r
small_there a b cells j c sofar there r there_is adds =
    subst (λ (t : Term). Adds a b sofar (t ∷ []) r) (λ i. term_at a.branches (there_is i) c.diagram (trees_in a.branches cells j)) adds

-- ### all terms

pub filtered_one : {X Y : Type 0} (q : X → Bool) (g : X → Y) (xs : List X) → flat_map (λ x. if q x then g x ∷ [] else []) xs ≡ map g (filter q xs)
filtered_one q g [] = refl
filtered_one q g (x ∷ xs) = elim (cases_Bool (q x)) [
  | inl passes ↦ rw passes (ap (λ ys. g x ∷ ys) (filtered_one q g xs))
  | inr fails ↦ rw fails (filtered_one q g xs)
]

pub filtered_flat : {X Y : Type 0} (q : X → Bool) (g : X → List Y) (xs : List X) → flat_map (λ x. if q x then g x else []) xs ≡ flat_map g (filter q xs)
filtered_flat q g [] = refl
filtered_flat q g (x ∷ xs) = elim (cases_Bool (q x)) [
  | inl passes ↦ rw passes (ap (λ ys. g x ++ ys) (filtered_flat q g xs))
  | inr fails ↦ rw fails (filtered_flat q g xs)
]

pub flat_terms : (s : System) (now : CellTrees) (j a : ℕ)
    → flat_map (of_local now j a) s.local ++ flat_map (of_up a) s.up ++ flat_map (of_down s.child now j a) s.down ≡ terms s now j a
flat_terms s now j a = λ i.
    filtered_one (λ (r : Local). r.gives == a) (local_term now j) s.local i
    ++ filtered_one (λ (l : Link). l.to == a) up_term s.up i
    ++ filtered_flat (λ (l : Link). l.to == a) (λ l. map (down_term now j l) s.child) s.down i

-- ### one list of terms after another

widened : (a b : Arena) (start : Reference) (ts us : List Term) (f : Reference) → Adds a b start ts (Ok f) → IsAdding a b start (ts ++ us) ts f
widened a b start ts us f adds = record {
  answer = adds.answer;
  brings = brings_part a b (disjunctions (tree_at a.branches start) ts) (disjunctions (tree_at a.branches start) (ts ++ us))
      (disjunctions_first (tree_at a.branches start) ts us) adds.brings;
}

pub adds_then : (a b c : Arena) (start f : Reference) (ts us : List Term) (r : Result Reference DiagramFault)
    → Adds a b start ts (Ok f) → Adds b c f us r → Adds a c start (ts ++ us) r
adds_then a b c start f ts us r first second =
    add_more a b start (ts ++ us) ts us [] f (sym (append-nil (ts ++ us))) (widened a b start ts us f first) c r second

pub adds_failed_first : (a b : Arena) (start : Reference) (ts us : List Term) (e : DiagramFault) → IsArena a → Adds a b start ts (Err e) → Adds a b start (ts ++ us) (Err e)
adds_failed_first a b start ts us e arena failed =
    calculates_failed a a b (disjunctions (tree_at a.branches start) ts) (disjunctions (tree_at a.branches start) (ts ++ us)) (disjunction (tree_at a.branches start) ts)
    (disjunction (tree_at a.branches start) (ts ++ us)) e
    (disjunctions_first (tree_at a.branches start) ts us) (brings_itself a (disjunctions (tree_at a.branches start) (ts ++ us)) arena) failed

-- ### the whole cell

module _ (s : System) (cells : Entries) (j a : ℕ) (old : Arena) (start : Reference) (is : start ≡ place_in cells j a) (arena : IsArena old) where
  whole_added : (d : Arena) (ts : List Term) (r : Result Reference DiagramFault) → ts ≡ terms s (trees_in old.branches cells) j a → Adds old d start ts r
      → Calculates old d (partial_results s (trees_in old.branches cells) j a) (next_tree s (trees_in old.branches cells) j a) r
  unfolding partial_results next_tree
  whole_added d ts r whole adds =
      calculates_last old old d (disjunctions (tree_at old.branches start) ts) (partial_results s (trees_in old.branches cells) j a) (disjunction (tree_at old.branches start) ts) (next_tree s (trees_in old.branches cells) j a) r
      (λ x there. inr (subst (λ (vs : List Tree). AreCovered vs (disjunctions (trees_in old.branches cells j a) (terms s (trees_in old.branches cells) j a)))
      (λ i. disjunctions (tree_at old.branches (sym is i)) (sym whole i)) (λ y within. within) x there))
      (brings_itself old (partial_results s (trees_in old.branches cells) j a) arena) (λ i. disjunction (tree_at old.branches (is i)) (whole i)) adds

  -- the terms of the local rules and of the links to the parent
  abbrev ts : List Term
  ts = flat_map (of_local (trees_in old.branches cells) j a) s.local

  abbrev us : List Term
  us = flat_map (of_up a) s.up

  abbrev vs : List Term
  vs = flat_map (of_down s.child (trees_in old.branches cells) j a) s.down

  pub locals_failed : (b : Arena) (r : Result Reference DiagramFault) (e : DiagramFault) → IsErrAnd r (λ y. y ≡ e)
      → Adds old b start (flat_map (of_local (trees_in old.branches cells) j a) s.local) (Err e)
      → Calculates old b (partial_results s (trees_in old.branches cells) j a) (next_tree s (trees_in old.branches cells) j a) r
  locals_failed b r e same failed =
      calculates_same_error old b (partial_results s (trees_in old.branches cells) j a) (next_tree s (trees_in old.branches cells) j a) r e same
      (whole_added b (ts ++ us ++ vs) (Err e) (flat_terms s (trees_in old.branches cells) j a)
      (adds_failed_first old b start (ts ++ us) vs e arena (adds_failed_first old b start ts us e arena failed)))

  module _ (b c : Arena) (f : Reference) (first : Adds old b start (flat_map (of_local (trees_in old.branches cells) j a) s.local) (Ok f)) where
    pub ups_failed : (r : Result Reference DiagramFault) (e : DiagramFault) → IsErrAnd r (λ y. y ≡ e) → Adds b c f (flat_map (of_up a) s.up) (Err e)
        → Calculates old c (partial_results s (trees_in old.branches cells) j a) (next_tree s (trees_in old.branches cells) j a) r
    ups_failed r e same failed =
        calculates_same_error old c (partial_results s (trees_in old.branches cells) j a) (next_tree s (trees_in old.branches cells) j a) r e same
        (whole_added c (ts ++ us ++ vs) (Err e) (flat_terms s (trees_in old.branches cells) j a)
        (adds_failed_first old c start (ts ++ us) vs e arena (adds_then old b c start f ts us (Err e) first failed)))

    pub all_added : (d : Arena) (g : Reference) (r : Result Reference DiagramFault) → AreIn old.branches cells → Adds b c f (flat_map (of_up a) s.up) (Ok g)
        → Adds c d g (flat_map (of_down s.child (trees_in c.branches cells) j a) s.down) r
        → Calculates old d (partial_results s (trees_in old.branches cells) j a) (next_tree s (trees_in old.branches cells) j a) r
    all_added d g r inside second third =
        let both = adds_then old b c start f ts us (Ok g) first second in
        whole_added d (ts ++ us ++ vs) r (flat_terms s (trees_in old.branches cells) j a)
        (adds_then old c d start g (ts ++ us) vs r both
        (subst (λ (now : CellTrees). Adds c d g (flat_map (of_down s.child now j a) s.down) r) (cells_same old.branches c.branches cells both.brings.stays inside) third))
