-- Terms of different children give what those of all give.
use Rattle.std.proofs.Common.{◌≡◌, ℕ, eqb, Bool, true, false, ◌&&◌, ◌||◌, List, [], ◌∷◌, ◌++◌, map, fold, Contains, Result, refl, sym, ap, subst, ◌∙◌, inl, inr, if◌then◌else◌, append_assoc, append-nil}
use Rattle.std.specs.List.{list_any}
use Rattle.std.proofs.lemmas.Bool.{cases_Bool, and_parts, eqb-true}
use Rattle.std.proofs.lemmas.List.Elements.{Contains-append_cases}
use Rattle.tp_base.proofs.Rising.{Contains-here, Contains-cons, Contains-none}
use Rattle.tp_base.proofs.Lists.{any_Contains}
use Rattle.tp_base.proofs.Truths.{or_again}
use Rattle.class_diagrams.specs.References.{Reference}
use Rattle.class_diagrams.specs.declared.faults.DiagramFault.{DiagramFault}
use Rattle.class_diagrams.specs.Numbers.{number_of}
use Rattle.class_diagrams.specs.Trees.{Tree, tor, eval, IsOrdered}
use Rattle.class_diagrams.specs.Arena.{tree_at, IsIn, Arena, IsArena}
use Rattle.class_diagrams.proofs.ReferenceLemmas.{number_of-same}
use Rattle.class_diagrams.proofs.TreeLemmas.{same_where_agree}
use Rattle.class_diagrams.proofs.CombineLemmas.{eval-tor, IsOrdered-tor, IsOrdered-tand}
use Rattle.class_diagrams.proofs.ArenaLemmas.{IsOrdered-tree_at}
use Rattle.diagram_ops.specs.Compositions.{tcompose}
use Rattle.diagram_ops.proofs.CompositionLemmas.{IsOrdered-tcompose}
use Rattle.diagram_ops.proofs.HeldLemmas.{AreCovered, covered_right}
use Rattle.diagram_ops.proofs.StepLemmas.{brings_itself, calculates_last}
use Rattle.pushdown_sym.specs.declared.gathering.Child.{Child}
use Rattle.pushdown_sym.specs.CellMap.{Entries, place_in, trees_in}
use Rattle.pushdown_sym.specs.Terms.{Term, disjunction, disjunctions}
use Rattle.pushdown_sym.specs.Adding.{AreIn, Adds}
use Rattle.pushdown_sym.specs.Children.{same_child, with_child, different, term_of}
use Rattle.pushdown_sym.proofs.AddLemmas.{covered_behind}

pub same_child-true : (c d : Child) → same_child c d ≡ true → c ≡ d
same_child-true c d same =
    let whole : (eqb c.needs d.needs && eqb (number_of c.diagram) (number_of d.diagram)) ≡ true = same in
    let both = and_parts (eqb c.needs d.needs) (eqb (number_of c.diagram) (number_of d.diagram)) whole in
    let needs : c.needs ≡ d.needs = eqb-true c.needs d.needs both.0 in
    let diagrams : c.diagram ≡ d.diagram = number_of-same c.diagram d.diagram (eqb-true (number_of c.diagram) (number_of d.diagram) both.1) in
    λ i. record { needs = needs i; diagram = diagrams i }

-- ### those of a list that come first, where some were there

abbrev pub firsts : List Child → List Child → List Child
firsts seen [] = []
firsts seen (c ∷ cs) = if list_any (same_child c) seen then firsts seen cs else c ∷ firsts (seen ++ c ∷ []) cs

pub fold_is : (seen cs : List Child) → fold with_child seen cs ≡ seen ++ firsts seen cs
fold_is seen [] = sym (append-nil seen)
fold_is seen (c ∷ cs) = elim (cases_Bool (list_any (same_child c) seen)) [
  | inl there ↦ rw there (fold_is seen cs)
  | inr new ↦ rw new (fold_is (seen ++ c ∷ []) cs ∙ append_assoc seen (c ∷ []) (firsts (seen ++ c ∷ []) cs))
]

pub firsts_among : (seen cs : List Child) (c : Child) → Contains (firsts seen cs) c → Contains cs c
firsts_among seen [] c there = there
firsts_among seen (d ∷ cs) c there = elim (cases_Bool (list_any (same_child d) seen)) [
  | inl old ↦ (Contains-cons c d cs).1 (inr (firsts_among seen cs c (rw old at there)))
  | inr new ↦ (Contains-cons c d cs).1 (elim ((Contains-cons c d (firsts (seen ++ d ∷ []) cs)).0 (rw new at there)) [
    | inl here ↦ inl here
    | inr behind ↦ inr (firsts_among (seen ++ d ∷ []) cs c behind)
  ])
]

-- ### what is there already adds nothing

or_kept : (v w u : Bool) → (v || w) ≡ v → ((v || u) || w) ≡ (v || u)
or_kept true w u kept = refl
or_kept false true u kept = let wrong : true ≡ false = kept in cc
or_kept false false true kept = refl
or_kept false false false kept = refl

tor-again : (t u : Tree) → IsOrdered t → IsOrdered u → tor (tor t u) u ≡ tor t u
tor-again t u ok u_ok =
    same_where_agree (tor (tor t u) u) (tor t u) (IsOrdered-tor (tor t u) u (IsOrdered-tor t u ok u_ok) u_ok) (IsOrdered-tor t u ok u_ok)
    (λ set rises. eval-tor (tor t u) u set ∙ ap (λ v. v || eval u set) (eval-tor t u set) ∙ or_again (eval t set) (eval u set) ∙ sym (eval-tor t u set))

tor-kept : (t u w : Tree) → IsOrdered t → IsOrdered u → IsOrdered w → tor t w ≡ t → tor (tor t u) w ≡ tor t u
tor-kept t u w ok u_ok w_ok kept =
    same_where_agree (tor (tor t u) w) (tor t u) (IsOrdered-tor (tor t u) w (IsOrdered-tor t u ok u_ok) w_ok) (IsOrdered-tor t u ok u_ok)
    (λ set rises. eval-tor (tor t u) w set ∙ ap (λ v. v || eval w set) (eval-tor t u set)
    ∙ or_kept (eval t set) (eval w set) (eval u set) (sym (eval-tor t w set) ∙ ap (λ v. eval v set) kept) ∙ sym (eval-tor t u set))

module _ (f : Child → Term) where
  -- the terms of these add nothing to the tree
  abbrev AreThere : Tree → List Child → Type 0
  AreThere t seen = (c : Child) → Contains seen c → (tor t (f c).tree ≡ t) × IsOrdered (f c).tree

  there_more : (t : Tree) (seen : List Child) (c : Child) → IsOrdered t → IsOrdered (f c).tree → AreThere t seen → AreThere (tor t (f c).tree) (seen ++ c ∷ [])
  there_more t seen c ok c_ok there d listed = elim (Contains-append_cases seen (c ∷ []) d listed) [
    | inl before ↦ (tor-kept t (f c).tree (f d).tree ok c_ok (there d before).1 (there d before).0, (there d before).1)
    | inr last ↦ elim ((Contains-cons d c []).0 last) [
      | inl here ↦ subst (λ (e : Child). (tor (tor t (f c).tree) (f e).tree ≡ tor t (f c).tree) × IsOrdered (f e).tree) (sym here) (tor-again t (f c).tree ok c_ok, c_ok)
      | inr none ↦ absurd (Contains-none d none)
    ]
  ]

  found_there : (t : Tree) (seen : List Child) (c : Child) → AreThere t seen → list_any (same_child c) seen ≡ true → tor t (f c).tree ≡ t
  found_there t seen c there some =
      let found = any_Contains (same_child c) seen some in
      subst (λ (e : Child). tor t (f e).tree ≡ t) (sym (same_child-true c found.0 found.2)) (there found.0 found.1).0

  abbrev terms_of : List Child → List Term
  terms_of cs = map f cs

  disjunction-firsts : (t : Tree) (seen cs : List Child) → IsOrdered t → AreThere t seen → ((c : Child) → Contains cs c → IsOrdered (f c).tree)
      → disjunction t (terms_of (firsts seen cs)) ≡ disjunction t (terms_of cs)
  disjunction-firsts t seen [] ok there all = refl
  disjunction-firsts t seen (c ∷ cs) ok there all =
      let rest : (d : Child) → Contains cs d → IsOrdered (f d).tree = λ d listed. all d ((Contains-cons d c cs).1 (inr listed)) in
      let here = all c (Contains-here c c cs refl) in
      elim (cases_Bool (list_any (same_child c) seen)) [
        | inl some ↦ rw some (disjunction-firsts t seen cs ok there rest ∙ ap (λ u. disjunction u (terms_of cs)) (sym (found_there t seen c there some)))
        | inr new ↦ rw new (disjunction-firsts (tor t (f c).tree) (seen ++ c ∷ []) cs (IsOrdered-tor t (f c).tree ok here) (there_more t seen c ok here there) rest)
      ]

  covered-firsts : (t : Tree) (seen cs : List Child) → IsOrdered t → AreThere t seen → ((c : Child) → Contains cs c → IsOrdered (f c).tree)
      → AreCovered (disjunctions t (terms_of (firsts seen cs))) (disjunctions t (terms_of cs))
  covered-firsts t seen [] ok there all = λ x within. within
  covered-firsts t seen (c ∷ cs) ok there all =
      let rest : (d : Child) → Contains cs d → IsOrdered (f d).tree = λ d listed. all d ((Contains-cons d c cs).1 (inr listed)) in
      let here = all c (Contains-here c c cs refl) in
      elim (cases_Bool (list_any (same_child c) seen)) [
        | inl some ↦ rw some (λ x within.
            covered_right (f c).before ((f c).tree ∷ tor t (f c).tree ∷ disjunctions (tor t (f c).tree) (terms_of cs)) x
            (inr (inr (subst (λ u. AreCovered (disjunctions t (terms_of (firsts seen cs))) (disjunctions u (terms_of cs))) (sym (found_there t seen c there some))
            (covered-firsts t seen cs ok there rest) x within))))
        | inr new ↦ rw new (covered_behind (f c).before
            ((f c).tree ∷ tor t (f c).tree ∷ disjunctions (tor t (f c).tree) (terms_of (firsts (seen ++ c ∷ []) cs)))
            ((f c).tree ∷ tor t (f c).tree ∷ disjunctions (tor t (f c).tree) (terms_of cs))
            (λ x within. elim within [
              | inl first ↦ inl first
              | inr more ↦ elim more [
                | inl second ↦ inr (inl second)
                | inr behind ↦ inr (inr (covered-firsts (tor t (f c).tree) (seen ++ c ∷ []) cs (IsOrdered-tor t (f c).tree ok here) (there_more t seen c ok here there) rest x behind))
              ]
            ]))
      ]

-- ### in an arena

module _ (a b : Arena) (cells : Entries) (j : ℕ) (arena : IsArena a) (inside : AreIn a.branches cells) (start : Reference) (start_in : IsIn a.branches start) where
  abbrev ordered : (c : Child) → Type 0
  ordered c = IsOrdered (term_of a.branches cells j c).tree

  term-ordered : (c : Child) → ordered c
  term-ordered c =
      let cell_ok : (i n : ℕ) → IsOrdered (trees_in a.branches cells i n) = λ i n. IsOrdered-tree_at a.branches (place_in cells i n) arena.ordered (inside i n) in
      IsOrdered-tand (trees_in a.branches cells j c.needs) (tcompose (tree_at a.branches c.diagram) (trees_in a.branches cells j)) (cell_ok j c.needs)
      (IsOrdered-tcompose (tree_at a.branches c.diagram) (trees_in a.branches cells j) (cell_ok j))

  pub different_add : (cs : List Child) (r : Result Reference DiagramFault) → Adds a b start (map (term_of a.branches cells j) (different cs)) r → Adds a b start (map (term_of a.branches cells j) cs) r
  different_add cs r adds =
      let f = term_of a.branches cells j in
      let t = tree_at a.branches start in
      let ok = IsOrdered-tree_at a.branches start arena.ordered start_in in
      let none : AreThere f t [] = λ c listed. absurd (Contains-none c listed) in
      let each : (c : Child) → Contains cs c → ordered c = λ c listed. term-ordered c in
      let firsts_are : firsts [] cs ≡ different cs = sym (fold_is [] cs) in
      calculates_last a a b (disjunctions t (map f (different cs))) (disjunctions t (map f cs)) (disjunction t (map f (different cs))) (disjunction t (map f cs)) r
      (subst (λ (ds : List Child). AreCovered (disjunctions t (map f ds)) (disjunctions t (map f cs))) firsts_are (covered-firsts f t [] cs ok none each))
      (brings_itself a (disjunctions t (map f cs)) arena)
      (subst (λ (ds : List Child). disjunction t (map f ds) ≡ disjunction t (map f cs)) firsts_are (disjunction-firsts f t [] cs ok none each))
      adds
