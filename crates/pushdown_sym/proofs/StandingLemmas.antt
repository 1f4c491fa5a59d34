-- Terms of the children that stand, and of those that a node of the kind may have, give what those of all give.
use Rattle.std.proofs.Common.{◌≡◌, ◌==◌, ℕ, Bool, true, false, List, [], ◌∷◌, ◌++◌, map, filter, Result, refl, sym, ap, subst, ◌∙◌, inl, inr}
use Rattle.std.specs.List.{flat_map}
use Rattle.std.proofs.lemmas.Bool.{cases_Bool, not-false}
use Rattle.std.proofs.lemmas.List.Elements.{filter-append}
use Rattle.class_diagrams.specs.References.{Reference, leaf_reference}
use Rattle.class_diagrams.specs.declared.faults.DiagramFault.{DiagramFault}
use Rattle.class_diagrams.specs.Trees.{Tree, leaf, branch, tand, tor}
use Rattle.class_diagrams.specs.Arena.{tree_at, Arena, IsArena}
use Rattle.diagram_ops.specs.Compositions.{tcompose}
use Rattle.diagram_ops.proofs.HeldLemmas.{AreCovered, covered_right}
use Rattle.diagram_ops.proofs.StepLemmas.{brings_itself, calculates_last}
use Rattle.simple_core.specs.declared.rules.Link.{Link}
use Rattle.simple_core.specs.declared.rules.Spawn.{Spawn}
use Rattle.simple_core.specs.declared.system.System.{System}
use Rattle.pushdown_sym.specs.declared.gathering.Child.{Child}
use Rattle.pushdown_sym.specs.CellMap.{Entries, place_in, trees_in, is_false, may_have}
use Rattle.pushdown_sym.specs.Terms.{Term, disjunction, disjunctions}
use Rattle.pushdown_sym.specs.Adding.{Adds}
use Rattle.pushdown_sym.specs.Children.{child_by, children_by, stands, standing_by, standing_each, standing_of, beneath, term_of}
use Rattle.pushdown_sym.proofs.AddLemmas.{covered_behind}
use Rattle.pushdown_sym.proofs.LinkLemmas.{tor-false, tand-false}
use Rattle.pushdown_sym.proofs.MapLemmas.{false_is}

-- ### terms that are false

module _ (f : Child → Term) (passes : Child → Bool) (none : (c : Child) → passes c ≡ false → (f c).tree ≡ leaf false) where
  nothing_more : (t : Tree) (c : Child) → passes c ≡ false → tor t (f c).tree ≡ t
  nothing_more t c fails = ap (tor t) (none c fails) ∙ tor-false t

  disjunction-filter : (t : Tree) (cs : List Child) → disjunction t (map f (filter passes cs)) ≡ disjunction t (map f cs)
  disjunction-filter t [] = refl
  disjunction-filter t (c ∷ cs) = elim (cases_Bool (passes c)) [
    | inl here ↦ rw here (disjunction-filter (tor t (f c).tree) cs)
    | inr fails ↦ rw fails (disjunction-filter t cs ∙ ap (λ u. disjunction u (map f cs)) (sym (nothing_more t c fails)))
  ]

  covered-filter : (t : Tree) (cs : List Child) → AreCovered (disjunctions t (map f (filter passes cs))) (disjunctions t (map f cs))
  covered-filter t [] = λ x within. within
  covered-filter t (c ∷ cs) = elim (cases_Bool (passes c)) [
    | inl here ↦ rw here (covered_behind (f c).before
        ((f c).tree ∷ tor t (f c).tree ∷ disjunctions (tor t (f c).tree) (map f (filter passes cs)))
        ((f c).tree ∷ tor t (f c).tree ∷ disjunctions (tor t (f c).tree) (map f cs))
        (λ x within. elim within [
          | inl first ↦ inl first
          | inr more ↦ elim more [ inl second ↦ inr (inl second) | inr behind ↦ inr (inr (covered-filter (tor t (f c).tree) cs x behind)) ]
        ]))
    | inr fails ↦ rw fails (λ x within.
        covered_right (f c).before ((f c).tree ∷ tor t (f c).tree ∷ disjunctions (tor t (f c).tree) (map f cs)) x
        (inr (inr (subst (λ u. AreCovered (disjunctions t (map f (filter passes cs))) (disjunctions u (map f cs))) (sym (nothing_more t c fails)) (covered-filter t cs) x within))))
  ]

-- ### in an arena

tand-none : (t : Tree) → tand t (leaf false) ≡ leaf false
unfolding tand
tand-none (leaf true) = refl
tand-none (leaf false) = refl
tand-none (branch a l h) = refl

module _ (a b : Arena) (cells : Entries) (j : ℕ) (start : Reference) (arena : IsArena a) where
  false_term : (c : Child) → stands c ≡ false → (term_of a.branches cells j c).tree ≡ leaf false
  false_term c fails =
      let now = trees_in a.branches cells j in
      let none : c.diagram ≡ leaf_reference false = false_is c.diagram (not-false (is_false c.diagram) fails) in
      ap (λ p. tand (now c.needs) (tcompose (tree_at a.branches p) now)) none ∙ tand-none (now c.needs)

  pub standing_add : (cs : List Child) (r : Result Reference DiagramFault) → Adds a b start (map (term_of a.branches cells j) (filter stands cs)) r → Adds a b start (map (term_of a.branches cells j) cs) r
  standing_add cs r adds =
      let f = term_of a.branches cells j in
      let t = tree_at a.branches start in
      calculates_last a a b (disjunctions t (map f (filter stands cs))) (disjunctions t (map f cs)) (disjunction t (map f (filter stands cs))) (disjunction t (map f cs)) r
      (covered-filter f stands false_term t cs) (brings_itself a (disjunctions t (map f cs)) arena) (disjunction-filter f stands false_term t cs) adds

  no_term : (c : Child) → may_have cells j c.needs ≡ false → (term_of a.branches cells j c).tree ≡ leaf false
  no_term c fails =
      let now = trees_in a.branches cells j in
      let none : place_in cells j c.needs ≡ leaf_reference false = false_is (place_in cells j c.needs) (not-false (is_false (place_in cells j c.needs)) fails) in
      ap (λ p. tand (tree_at a.branches p) (tcompose (tree_at a.branches c.diagram) now)) none ∙ tand-false (tcompose (tree_at a.branches c.diagram) now)

  pub beneath_add : (cs : List Child) (r : Result Reference DiagramFault) → Adds a b start (map (term_of a.branches cells j) (beneath cells j cs)) r → Adds a b start (map (term_of a.branches cells j) cs) r
  beneath_add cs r adds =
      let f = term_of a.branches cells j in
      let passes : Child → Bool = λ c. may_have cells j c.needs in
      let t = tree_at a.branches start in
      calculates_last a a b (disjunctions t (map f (filter passes cs))) (disjunctions t (map f cs)) (disjunction t (map f (filter passes cs))) (disjunction t (map f cs)) r
      (covered-filter f passes no_term t cs) (brings_itself a (disjunctions t (map f cs)) arena) (disjunction-filter f passes no_term t cs) adds

-- ### found link by link

pub filter-flat_map : {X Y : Type 0} (p : Y → Bool) (f g : X → List Y) → ((x : X) → filter p (f x) ≡ g x) → (xs : List X) → filter p (flat_map f xs) ≡ flat_map g xs
filter-flat_map p f g same [] = refl
filter-flat_map p f g same (x ∷ xs) = filter-append p (f x) (flat_map f xs) ∙ (λ n. same x n ++ filter-flat_map p f g same xs n)

filter-map : {X Y : Type 0} (p : Y → Bool) (f : X → Y) (xs : List X) → filter p (map f xs) ≡ flat_map (λ x. filter p (f x ∷ [])) xs
filter-map p f [] = refl
filter-map p f (x ∷ xs) = filter-append p (f x ∷ []) (map f xs) ∙ ap (λ ys. filter p (f x ∷ []) ++ ys) (filter-map p f xs)

-- those that stand, link by link
pub standing_are : (s : System) (cells : Entries) (a : ℕ) → flat_map (standing_each cells s.child) (filter (λ (l : Link). l.to == a) s.down) ≡ standing_of s cells a
standing_are s cells a =
    sym (filter-flat_map stands (children_by cells s.child) (standing_each cells s.child) (λ l. filter-map stands (child_by cells l) s.child) (filter (λ (l : Link). l.to == a) s.down))

-- a spawn rule whose child doesn't stand gives none
pub none_standing : (cells : Entries) (l : Link) (c : Spawn) → stands (child_by cells l c) ≡ false → standing_by cells l c ≡ []
none_standing cells l c fails = rw fails refl
