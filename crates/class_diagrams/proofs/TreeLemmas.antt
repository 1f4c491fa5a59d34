-- What decision trees mean, and that each meaning has one tree.
use Rattle.std.proofs.Common.{◌≡◌, ◌≢◌, ℕ, zero, suc, ◌+◌, ◌<◌, ◌≤◌, Bool, true, false, not, ◌&&◌, ◌||◌, eqb, List, [], ◌∷◌, filter, refl, sym, ap, subst, ◌∙◌, arith, inl, inr, ◌⊎◌}
use Rattle.std.proofs.lemmas.Bool.{both_ways, eq-eqb, ne_eqb, eqb-true, cases_order, cases_Bool, and_parts}
use Rattle.tp_base.specs.Classes.{has_class, union_of}
use Rattle.tp_base.proofs.ClassLemmas.{has_class-Contains, Contains-has_class, Contains-union_of, IsStrictlyIncreasing-union_of}
use Rattle.class_diagrams.specs.Pairs.{size}
use Rattle.class_diagrams.specs.Trees.{Tree, leaf, branch, eval, AgreeOnAllSets, StartsAbove, IsOrdered, same_tree, join}

-- ### `same_tree` decides equality

pub same_tree-refl : (t : Tree) → same_tree t t ≡ true
same_tree-refl (leaf true) = refl
same_tree-refl (leaf false) = refl
same_tree-refl (branch a l h) = rw (eq-eqb a a refl, same_tree-refl l, same_tree-refl h) refl

pub same_tree-true : (t u : Tree) → same_tree t u ≡ true → t ≡ u
same_tree-true (leaf true) (leaf true) h = refl
same_tree-true (leaf true) (leaf false) h = cc
same_tree-true (leaf false) (leaf true) h = cc
same_tree-true (leaf false) (leaf false) h = refl
same_tree-true (leaf v) (branch b m k) h = cc
same_tree-true (branch a l h) (leaf w) e = cc
same_tree-true (branch a l h) (branch b m k) e =
    let outer = and_parts (eqb a b && same_tree l m) (same_tree h k) e in
    let inner = and_parts (eqb a b) (same_tree l m) outer.0 in
    let atoms : a ≡ b = eqb-true a b inner.0 in
    let lows : l ≡ m = same_tree-true l m inner.1 in
    let highs : h ≡ k = same_tree-true h k outer.1 in
    cc

pub same_tree-false : (t u : Tree) → same_tree t u ≡ false → t ≢ u
same_tree-false t u h same = both_ways (same_tree t u) h (subst (λ v. same_tree t v ≡ true) same (same_tree-refl t))

pub not_same_tree : (t u : Tree) → t ≢ u → same_tree t u ≡ false
not_same_tree t u other = elim (cases_Bool (same_tree t u)) [ inl same ↦ absurd (other (same_tree-true t u same)) | inr differs ↦ differs ]

pub cases_tree : (t u : Tree) → (t ≡ u) ⊎ (t ≢ u)
cases_tree t u = elim (cases_Bool (same_tree t u)) [ inl same ↦ inl (same_tree-true t u same) | inr differs ↦ inr (same_tree-false t u differs) ]

pub join-same : (a : ℕ) (t u : Tree) → t ≡ u → join a t u ≡ t
join-same a t u same = rw (subst (λ v. same_tree t v ≡ true) same (same_tree-refl t)) refl

pub join-other : (a : ℕ) (t u : Tree) → t ≢ u → join a t u ≡ branch a t u
join-other a t u other = rw (not_same_tree t u other) refl

-- ### sets with and without an atom

without : ℕ → List ℕ → List ℕ
without a set = filter (λ x. not (eqb x a)) set

has_class-here : (a : ℕ) (set : List ℕ) → has_class a (a ∷ set) ≡ true
has_class-here a set = rw (eq-eqb a a refl) refl

has_class-behind : (a b : ℕ) (set : List ℕ) → a < b → has_class b (a ∷ set) ≡ has_class b set
has_class-behind a b set less = rw (ne_eqb a b (λ e. omega arith)) refl

has_class-without : (a : ℕ) (set : List ℕ) → has_class a (without a set) ≡ false
unfolding without
has_class-without a [] = refl
has_class-without a (x ∷ set) = elim (cases_Bool (eqb x a)) [
  | inl same ↦ rw same (has_class-without a set)
  | inr other ↦ rw (other, other) (has_class-without a set)
]

has_class-others : (a b : ℕ) (set : List ℕ) → a < b → has_class b (without a set) ≡ has_class b set
unfolding without
has_class-others a b [] less = refl
has_class-others a b (x ∷ set) less = elim (cases_Bool (eqb x a)) [
  | inl same ↦
      let at : x ≡ a = eqb-true x a same in
      rw (same, ne_eqb x b (λ e. omega arith)) (has_class-others a b set less)
  | inr other ↦ rw other (ap (λ z. eqb x b || z) (has_class-others a b set less))
]

-- ### what a tree looks at

pub eval-same_members : (t : Tree) (s z : List ℕ) → ((b : ℕ) → has_class b s ≡ has_class b z) → eval t s ≡ eval t z
eval-same_members (leaf v) s z same = refl
eval-same_members (branch a l h) s z same = rw (same a, eval-same_members l s z same, eval-same_members h s z same) refl

eval-same_above : (a : ℕ) (t : Tree) (s z : List ℕ) → StartsAbove a t → IsOrdered t → ((b : ℕ) → a < b → has_class b s ≡ has_class b z) → eval t s ≡ eval t z
eval-same_above a (leaf v) s z above ok same = refl
eval-same_above a (branch b l h) s z above ok same =
    let further = λ (c : ℕ) (more : b < c). same c (omega arith) in
    rw (same b above, eval-same_above b l s z ok.0 ok.4 further, eval-same_above b h s z ok.1 ok.5 further) refl

eval-with : (a : ℕ) (t : Tree) (set : List ℕ) → StartsAbove a t → IsOrdered t → eval t (a ∷ set) ≡ eval t set
eval-with a t set above ok = eval-same_above a t (a ∷ set) set above ok (λ b less. has_class-behind a b set less)

eval-without : (a : ℕ) (t : Tree) (set : List ℕ) → StartsAbove a t → IsOrdered t → eval t (without a set) ≡ eval t set
eval-without a t set above ok = eval-same_above a t (without a set) set above ok (λ b less. has_class-others a b set less)

eval-high : (a : ℕ) (l h : Tree) (set : List ℕ) → IsOrdered (branch a l h) → eval (branch a l h) (a ∷ set) ≡ eval h set
eval-high a l h set ok = rw (has_class-here a set, eval-with a h set ok.1 ok.5) refl

eval-low : (a : ℕ) (l h : Tree) (set : List ℕ) → IsOrdered (branch a l h) → eval (branch a l h) (without a set) ≡ eval l set
eval-low a l h set ok = rw (has_class-without a set, eval-without a l set ok.0 ok.4) refl

-- ### a branch is neither always true nor always false

-- the empty set fails each tree but true
fails_empty : (t : Tree) → IsOrdered t → (t ≡ leaf true) ⊎ (eval t [] ≡ false)
fails_empty (leaf true) ok = inl refl
fails_empty (leaf false) ok = inr refl
fails_empty (branch a l h) ok = inr (elim (fails_empty l ok.4) [
  | inr fails ↦ fails
  | inl low ↦ elim (fails_empty h ok.5) [
    | inl high ↦ absurd (ok.2 (low ∙ sym high))
    | inr fails ↦ absurd (both_ways (eval h []) fails (ok.3 [] (rw low refl)))
  ]
])

-- some set satisfies each tree but false
satisfied : (t : Tree) → IsOrdered t → (t ≡ leaf false) ⊎ ((set : List ℕ) × (eval t set ≡ true))
satisfied (leaf true) ok = inr ([], refl)
satisfied (leaf false) ok = inl refl
satisfied (branch a l h) ok = inr (elim (satisfied h ok.5) [
  | inr some ↦ (a ∷ some.0, eval-high a l h some.0 ok ∙ some.1)
  | inl high ↦ elim (satisfied l ok.4) [
    | inl low ↦ absurd (ok.2 (low ∙ sym high))
    | inr some ↦ absurd (both_ways (eval h some.0) (rw high refl) (ok.3 some.0 some.1))
  ]
])

-- ### trees that agree on all sets are the same

abbrev Agree : Tree → Tree → Type 0
Agree t u = (set : List ℕ) → eval t set ≡ eval u set

leaf_not_branch : (v : Bool) (a : ℕ) (l h : Tree) → IsOrdered (branch a l h) → Agree (leaf v) (branch a l h) → ⊥
leaf_not_branch v a l h ok agree = elim (fails_empty (branch a l h) ok) [
  | inl same ↦ cc
  | inr fails ↦ elim (satisfied (branch a l h) ok) [
    | inl same ↦ cc
    | inr some ↦ let no : v ≡ false = agree [] ∙ fails in let yes : v ≡ true = agree some.0 ∙ some.1 in both_ways v no yes
  ]
]

-- low and high trees of a branch agree with a tree that does not look at its atom
agree_low : (a : ℕ) (l h u : Tree) → IsOrdered (branch a l h) → StartsAbove a u → IsOrdered u → Agree (branch a l h) u → Agree l u
agree_low a l h u ok above u_ok agree set = sym (eval-low a l h set ok) ∙ agree (without a set) ∙ eval-without a u set above u_ok

agree_high : (a : ℕ) (l h u : Tree) → IsOrdered (branch a l h) → StartsAbove a u → IsOrdered u → Agree (branch a l h) u → Agree h u
agree_high a l h u ok above u_ok agree set = sym (eval-high a l h set ok) ∙ agree (a ∷ set) ∙ eval-with a u set above u_ok

agree_lows : (a : ℕ) (l h m k : Tree) → IsOrdered (branch a l h) → IsOrdered (branch a m k) → Agree (branch a l h) (branch a m k) → Agree l m
agree_lows a l h m k ok other agree set = sym (eval-low a l h set ok) ∙ agree (without a set) ∙ eval-low a m k set other

agree_highs : (a : ℕ) (l h m k : Tree) → IsOrdered (branch a l h) → IsOrdered (branch a m k) → Agree (branch a l h) (branch a m k) → Agree h k
agree_highs a l h m k ok other agree set = sym (eval-high a l h set ok) ∙ agree (a ∷ set) ∙ eval-high a m k set other

same_below : (n : ℕ) (t u : Tree) → size t + size u ≤ n → IsOrdered t → IsOrdered u → Agree t u → t ≡ u
same_below n (leaf v) (leaf w) few ok other agree = ap leaf (agree [])
same_below n (leaf v) (branch b m k) few ok other agree = absurd (leaf_not_branch v b m k other agree)
same_below n (branch a l h) (leaf w) few ok other agree = absurd (leaf_not_branch w a l h ok (λ set. sym (agree set)))
same_below zero (branch a l h) (branch b m k) few ok other agree = absurd (omega arith)
same_below (suc n) (branch a l h) (branch b m k) few ok other agree = elim (cases_order a b) [
  | inl same ↦
      let there : IsOrdered (branch a m k) = subst (λ c. IsOrdered (branch c m k)) (sym same) other in
      let alike : Agree (branch a l h) (branch a m k) = subst (λ c. Agree (branch a l h) (branch c m k)) (sym same) agree in
      let low : l ≡ m = same_below n l m (omega arith) ok.4 other.4 (agree_lows a l h m k ok there alike) in
      let high : h ≡ k = same_below n h k (omega arith) ok.5 other.5 (agree_highs a l h m k ok there alike) in
      cc
  | inr apart ↦ elim apart [
    | inl less ↦
        let low : l ≡ branch b m k = same_below n l (branch b m k) (omega arith) ok.4 other (agree_low a l h (branch b m k) ok less other agree) in
        let high : h ≡ branch b m k = same_below n h (branch b m k) (omega arith) ok.5 other (agree_high a l h (branch b m k) ok less other agree) in
        absurd (ok.2 (low ∙ sym high))
    | inr more ↦
        let back = λ (set : List ℕ). sym (agree set) in
        let low : branch a l h ≡ m = same_below n (branch a l h) m (omega arith) ok other.4 (λ set. sym (agree_low b m k (branch a l h) other more ok back set)) in
        let high : branch a l h ≡ k = same_below n (branch a l h) k (omega arith) ok other.5 (λ set. sym (agree_high b m k (branch a l h) other more ok back set)) in
        absurd (other.2 (sym low ∙ high))
  ]
]

-- a list of atoms as a set
sorted_same : (set : List ℕ) (b : ℕ) → has_class b (union_of [] set) ≡ has_class b set
sorted_same set b = elim (cases_Bool (has_class b set)) [
  | inl there ↦ has_class-Contains b (union_of [] set) ((Contains-union_of [] set b).1 (inr (Contains-has_class b set there))) ∙ sym there
  | inr none ↦ elim (cases_Bool (has_class b (union_of [] set))) [
    | inr same ↦ same ∙ sym none
    | inl there ↦ elim ((Contains-union_of [] set b).0 (Contains-has_class b (union_of [] set) there)) [
      | inl in_empty ↦ absurd (omega (arith, in_empty.1))
      | inr in_set ↦ absurd (both_ways (has_class b set) none (has_class-Contains b set in_set))
    ]
  ]
]

-- two trees that meet the condition are the same exactly where they agree on all sets
pub same_where_agree : (t u : Tree) → IsOrdered t → IsOrdered u → AgreeOnAllSets t u → t ≡ u
same_where_agree t u ok other agree =
    same_below (size t + size u) t u (omega arith) ok other (λ set.
    sym (eval-same_members t (union_of [] set) set (sorted_same set))
    ∙ agree (union_of [] set) (IsStrictlyIncreasing-union_of [] set (λ k within. absurd (omega arith)))
    ∙ eval-same_members u (union_of [] set) set (sorted_same set))

pub agree_where_same : (t u : Tree) → t ≡ u → AgreeOnAllSets t u
agree_where_same t u same set rises = ap (λ v. eval v set) same
