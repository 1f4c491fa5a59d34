-- The walk over the branches of a diagram.
use Rattle.std.proofs.Common.{◌≡◌, ℕ, ◌+◌, ◌<◌, ◌≤◌, ◌↔◌, Bool, true, false, eqb, List, [], ◌∷◌, ◌++◌, map, fold, take, length, get_or, Contains, slice_get, Some, Result, Ok, Err, OnOk, IfOk, refl, sym, ap, subst, ◌∙◌, arith, inl, inr, ◌⊎◌, append_assoc, append-nil, length-append}
use Rattle.std.specs.List.{IsDistinct, AllByRecursion, list_any}
use Rattle.std.specs.List.Sorted.{IsStrictlyIncreasing}
use Rattle.std.proofs.lemmas.Bool.{both_ways, cases_Bool, cases_lt, or_cases, eqb-true, eq-eqb}
use Rattle.std.proofs.lemmas.List.Elements.{Contains-append_left, Contains-append_cases, Contains-push}
use Rattle.std.proofs.lemmas.List.{get_or_append_left, length-map, take_more}
use Rattle.std.proofs.lemmas.Option.{slice_get_within, slice_get-get_or, get_or_from_slice_get}
use Rattle.std.proofs.lemmas.Map.Steps.{length-le_from_distinct_below}
use Rattle.tp_base.specs.Classes.{union_of}
use Rattle.tp_base.proofs.ClassLemmas.{Contains-with_class, Contains-union_of, IsStrictlyIncreasing-with_class, IsStrictlyIncreasing-union_of, same_members}
use Rattle.tp_base.proofs.Rising.{Contains-here, Contains-behind, Contains-cons, Contains-none, All-from_Contains}
use Rattle.class_diagrams.specs.References.{Reference}
use Rattle.class_diagrams.specs.Numbers.{number_of}
use Rattle.class_diagrams.specs.Trees.{Tree, leaf, branch, same_tree, has_tree, subs, IsBranchOf}
use Rattle.class_diagrams.specs.Arena.{tree_at, IsIn, AreSame}
use Rattle.class_diagrams.proofs.TreeLemmas.{same_tree-refl, same_tree-true, not_same_tree}
use Rattle.class_diagrams.proofs.BranchLemmas.{with_branches-cases, with_branches-all}
use Rattle.class_diagrams.proofs.ReferenceLemmas.{ref_eq, ref_eq-true, number_of-below}
use Rattle.diagram_ops.specs.Compositions.{atoms_of, size_of}
use Rattle.diagram_ops.specs.Walks.{with_branch_of, with_branch, HasTree, IsSeen, HasParts, IsBranchIn, AreBranches, IsWalk, with_root, roots_of}
use Rattle.diagram_ops.proofs.HeldLemmas.{no_more, subs-distinct}

-- ### branches of trees

branch_itself : (a : ℕ) (l h : Tree) → IsBranchOf (branch a l h) (branch a l h)
branch_itself a l h = inl refl

-- a branch of one of the parts of a branch of a tree is a branch of that tree
branch_further : (a : ℕ) (l h t x : Tree) → IsBranchOf (branch a l h) t → IsBranchOf x l ⊎ IsBranchOf x h → IsBranchOf x t
branch_further a l h (leaf v) x of part = absurd of
branch_further a l h (branch b m k) x of part = elim of [
  | inl same ↦
      let lows : l ≡ m = cc in
      let highs : h ≡ k = cc in
      elim part [
        | inl low ↦ inr (inl (subst (λ u. IsBranchOf x u) lows low))
        | inr high ↦ inr (inr (subst (λ u. IsBranchOf x u) highs high))
      ]
  | inr parts ↦ elim parts [
    | inl low ↦ inr (inl (branch_further a l h m x low part))
    | inr high ↦ inr (inr (branch_further a l h k x high part))
  ]
]

leaf_is_none : (v : Bool) (t : Tree) → IsBranchOf (leaf v) t → ⊥
leaf_is_none v (leaf w) of = of
leaf_is_none v (branch a l h) of = elim of [
  | inl same ↦ cc
  | inr parts ↦ elim parts [ inl low ↦ leaf_is_none v l low | inr high ↦ leaf_is_none v h high ]
]

-- ### one diagram more

found_one : (k : Reference) (ks : List Reference) → list_any (ref_eq k) ks ≡ true → Contains ks k
found_one k [] none = cc
found_one k (x ∷ ks) some = elim (or_cases (ref_eq k x) (list_any (ref_eq k) ks) some) [
  | inl here ↦ Contains-here k x ks (ref_eq-true k x here)
  | inr behind ↦ Contains-behind k x ks (found_one k ks behind)
]

-- what goes behind those that were seen is the diagram of a branch, or nothing
pub record IsMore (branches : List Tree) (seen : List Reference) (f : Reference) (rest : List Reference) : Type 0 where
  pub whole : with_branch branches seen f ≡ seen ++ rest
  pub there : IsSeen branches (seen ++ rest) (tree_at branches f)
  pub only : (p : Reference) → Contains rest p → (p ≡ f) × ((v : Bool) → tree_at branches p ≡ leaf v → ⊥)

more_of : (ts : List Tree) (seen : List Reference) (f : Reference) (t : Tree) → tree_at ts f ≡ t
    → (rest : List Reference) × (with_branch_of t seen f ≡ seen ++ rest) × IsSeen ts (seen ++ rest) t × ((p : Reference) → Contains rest p → (p ≡ f) × ((v : Bool) → tree_at ts p ≡ leaf v → ⊥))
more_of ts seen f (leaf v) is = ([], sym (append-nil seen), tt, λ p none. absurd (Contains-none p none))
more_of ts seen f (branch a l h) is = elim (cases_Bool (list_any (ref_eq f) seen)) [
  | inl there ↦ (
    [],
    rw (there, append-nil seen) refl,
    (f, Contains-append_left seen [] f (found_one f seen there), is),
    λ p none. absurd (Contains-none p none),
  )
  | inr new ↦ (
    f ∷ [],
    rw new refl,
    (f, Contains-push seen f, is),
    λ p there. elim ((Contains-cons p f []).0 there) [
      | inl same ↦ (same, λ v leaf_is. let no : leaf v ≡ branch a l h = sym leaf_is ∙ ap (tree_at ts) same ∙ is in cc)
      | inr none ↦ absurd (Contains-none p none)
    ],
  )
]

more : (ts : List Tree) (seen : List Reference) (f : Reference) → (rest : List Reference) × IsMore ts seen f rest
more ts seen f = let h = more_of ts seen f (tree_at ts f) refl in (h.0, record { whole = h.1; there = h.2; only = h.3 })

-- ### places in a longer list

at_left : (xs ys : List Reference) (i : ℕ) (p : Reference) → i < length xs → slice_get (xs ++ ys) i ≡ Some p → slice_get xs i ≡ Some p
at_left xs ys i p less at =
    slice_get-get_or xs i p less ∙ ap (λ (q : Reference). Some q) (sym (get_or_append_left xs ys p i less) ∙ get_or_from_slice_get (xs ++ ys) i p p at)

same_at : (xs : List Reference) (i : ℕ) (p q : Reference) → slice_get xs i ≡ Some p → slice_get xs i ≡ Some q → p ≡ q
same_at xs i p q first second = sym (get_or_from_slice_get xs i p p first) ∙ get_or_from_slice_get xs i q p second

there_at : (xs : List Reference) (i : ℕ) (p : Reference) → slice_get xs i ≡ Some p → Contains xs p
there_at xs i p at = (i, slice_get_within xs i p at, get_or_from_slice_get xs i p p at)

-- ### the walk

module _ (ts : List Tree) (f : Reference) where
  has_more : (xs ys : List Reference) (t : Tree) → HasTree ts xs t → HasTree ts (xs ++ ys) t
  has_more xs ys t has = (has.0, Contains-append_left xs ys has.0 has.1, has.2)

  seen_more : (xs ys : List Reference) (t : Tree) → IsSeen ts xs t → IsSeen ts (xs ++ ys) t
  seen_more xs ys (leaf v) seen = tt
  seen_more xs ys (branch a l h) seen = has_more xs ys (branch a l h) seen

  parts_more : (xs ys : List Reference) (t : Tree) → HasParts ts xs t → HasParts ts (xs ++ ys) t
  parts_more xs ys (leaf v) has = tt
  parts_more xs ys (branch a l h) has = (seen_more xs ys l has.0, seen_more xs ys h has.1)

  is_branch_itself : (p : Reference) → ((v : Bool) → tree_at ts p ≡ leaf v → ⊥) → (t : Tree) → tree_at ts p ≡ t → IsBranchOf t t
  is_branch_itself p no_leaf (leaf v) is = absurd (no_leaf v is)
  is_branch_itself p no_leaf (branch a l h) is = branch_itself a l h

  pub walk_start : (seen : List Reference) → IsIn ts f → seen ≡ with_branch ts [] f → IsDistinct ref_eq seen → IsWalk ts f seen 0
  walk_start seen within is different =
      let h = more ts [] f in
      let whole : seen ≡ h.0 = is ∙ h.1.whole in record {
        few = omega arith;
        different = different;
        each = λ p there.
            let of = h.1.only p (subst (λ (xs : List Reference). Contains xs p) whole there) in
            (subst (λ q. IsIn ts q) (sym of.0) within, subst (λ u. IsBranchOf (tree_at ts p) u) (ap (tree_at ts) of.0) (is_branch_itself p of.1 (tree_at ts p) refl));
        first = subst (λ (xs : List Reference). IsSeen ts xs (tree_at ts f)) (sym whole) h.1.there;
        closed = λ i p less at. absurd (omega arith);
      }

  module _ (seen : List Reference) (n : ℕ) (walk : IsWalk ts f seen n) (at : Reference) (here : slice_get seen n ≡ Some at) where
    -- a leaf has no parts
    pub walk_leaf : (v : Bool) → tree_at ts at ≡ leaf v → IsWalk ts f seen (n + 1)
    walk_leaf v is = absurd (leaf_is_none v (tree_at ts f) (subst (λ t. IsBranchOf t (tree_at ts f)) is (walk.each at (there_at seen n at here)).1))

    module _ (b : ℕ) (low high : Reference) (is : tree_at ts at ≡ branch b (tree_at ts low) (tree_at ts high)) (low_in : IsIn ts low) (high_in : IsIn ts high) where
      of_f : (x : Tree) → IsBranchOf x (tree_at ts low) ⊎ IsBranchOf x (tree_at ts high) → IsBranchOf x (tree_at ts f)
      of_f x part =
          branch_further b (tree_at ts low) (tree_at ts high) (tree_at ts f) x
          (subst (λ t. IsBranchOf t (tree_at ts f)) is (walk.each at (there_at seen n at here)).1) part

      is_in : (p : Reference) → ((v : Bool) → tree_at ts p ≡ leaf v → ⊥) → (p ≡ low) ⊎ (p ≡ high) → IsBranchIn ts f p
      is_in p no_leaf is_part = elim is_part [
        | inl same ↦ (subst (λ q. IsIn ts q) (sym same) low_in, of_f (tree_at ts p) (inl (subst (λ q. IsBranchOf (tree_at ts p) (tree_at ts q)) same (is_branch_itself p no_leaf (tree_at ts p) refl))))
        | inr same ↦ (subst (λ q. IsIn ts q) (sym same) high_in, of_f (tree_at ts p) (inr (subst (λ q. IsBranchOf (tree_at ts p) (tree_at ts q)) same (is_branch_itself p no_leaf (tree_at ts p) refl))))
      ]

      -- a branch has two
      pub walk_on : (next : List Reference) → next ≡ with_branch ts (with_branch ts seen low) high → IsDistinct ref_eq next → IsWalk ts f next (n + 1)
      walk_on next keys different =
          let one = more ts seen low in
          let two = more ts (seen ++ one.0) high in
          let rest = one.0 ++ two.0 in
          let whole : next ≡ seen ++ rest =
          keys ∙ ap (λ (xs : List Reference). with_branch ts xs high) one.1.whole ∙ two.1.whole ∙ append_assoc seen one.0 two.0 in
          let lows : IsSeen ts (seen ++ rest) (tree_at ts low) =
          subst (λ (xs : List Reference). IsSeen ts xs (tree_at ts low)) (append_assoc seen one.0 two.0) (seen_more (seen ++ one.0) two.0 (tree_at ts low) one.1.there) in
          let highs : IsSeen ts (seen ++ rest) (tree_at ts high) =
          subst (λ (xs : List Reference). IsSeen ts xs (tree_at ts high)) (append_assoc seen one.0 two.0) two.1.there in
          subst (λ (xs : List Reference). IsWalk ts f xs (n + 1)) (sym whole) (record {
            few = let within = slice_get_within seen n at here in let longer = length-append seen rest in omega arith;
            different = subst (λ (xs : List Reference). IsDistinct ref_eq xs) whole different;
            each = λ p there. elim (Contains-append_cases seen rest p there) [
              | inl before ↦ walk.each p before
              | inr new ↦ elim (Contains-append_cases one.0 two.0 p new) [
                | inl first ↦ let of = one.1.only p first in is_in p of.1 (inl of.0)
                | inr second ↦ let of = two.1.only p second in is_in p of.1 (inr of.0)
              ]
            ];
            first = seen_more seen rest (tree_at ts f) walk.first;
            closed = λ i p less at_i.
                let within = slice_get_within seen n at here in
                let at_seen : slice_get seen i ≡ Some p = at_left seen rest i p (omega arith) at_i in
                elim (cases_lt i n) [
                  | inl before ↦ parts_more seen rest (tree_at ts p) (walk.closed i p before at_seen)
                  | inr last ↦
                      let same : p ≡ at = same_at seen n p at (subst (λ k. slice_get seen k ≡ Some p) {x = i} {y = n} (omega arith) at_seen) here in
                      subst (λ t. HasParts ts (seen ++ rest) t) (sym (ap (tree_at ts) same ∙ is)) (lows, highs)
                ];
          })

  -- ### at its end

  module _ (seen : List Reference) (n : ℕ) (walk : IsWalk ts f seen n) (past : length seen ≤ n) where
    all_closed : (t : Tree) → HasTree ts seen t → HasParts ts seen t
    all_closed t has =
        let there = has.1 in
        subst (λ u. HasParts ts seen u) has.2 (walk.closed there.0 has.0 (omega (arith, there.1)) (slice_get-get_or seen there.0 has.0 there.1 ∙ ap (λ (q : Reference). Some q) there.2))

    all_seen : (t u : Tree) → IsSeen ts seen u → IsBranchOf t u → HasTree ts seen t
    all_seen t (leaf v) seen_u of = absurd of
    all_seen t (branch a l h) seen_u of =
        let parts = all_closed (branch a l h) seen_u in
        elim of [
          | inl same ↦ subst (λ x. HasTree ts seen x) (sym same) seen_u
          | inr inner ↦ elim inner [ inl low ↦ all_seen t l parts.0 low | inr high ↦ all_seen t h parts.1 high ]
        ]

    pub walk_end : AreBranches ts f seen
    walk_end = record { different = walk.different; each = walk.each; whole = λ t of. all_seen t (tree_at ts f) walk.first of }

-- ### how long it can be

numbers_differ : (p : Reference) (seen : List Reference) → AllByRecursion (λ q. ref_eq p q ≡ false) seen → AllByRecursion (λ m. eqb (number_of p) m ≡ false) (map number_of seen)
numbers_differ p [] apart = tt
numbers_differ p (q ∷ seen) apart = (apart.0, numbers_differ p seen apart.1)

numbers_distinct : (seen : List Reference) → IsDistinct ref_eq seen → IsDistinct eqb (map number_of seen)
unfolding IsDistinct
numbers_distinct [] distinct = tt
numbers_distinct (p ∷ seen) distinct = (numbers_differ p seen distinct.0, numbers_distinct seen distinct.1)

numbers_below : (ts : List Tree) (seen : List Reference) → ((p : Reference) → Contains seen p → IsIn ts p) → (q : ℕ) → list_any (eqb q) (map number_of seen) ≡ true → q < length ts + 2
numbers_below ts [] inside q there = cc
numbers_below ts (p ∷ seen) inside q there = elim (or_cases (eqb q (number_of p)) (list_any (eqb q) (map number_of seen)) there) [
  | inl here ↦ let same = eqb-true q (number_of p) here in let below = number_of-below ts p (inside p (Contains-here p p seen refl)) in omega arith
  | inr behind ↦ numbers_below ts seen (λ r within. inside r (Contains-behind r p seen within)) q behind
]

pub walk_short : (ts : List Tree) (f : Reference) (seen : List Reference) (n : ℕ) → IsWalk ts f seen n → length seen ≤ length ts + 2
walk_short ts f seen n walk =
    let few = length-le_from_distinct_below (map number_of seen) (length ts + 2) (numbers_distinct seen walk.different)
    (numbers_below ts seen (λ p there. (walk.each p there).0)) in
    let same = length-map seen number_of in
    omega arith

-- ### how many they are

ref_eq-refl : (p : Reference) → ref_eq p p ≡ true
ref_eq-refl p = eq-eqb (number_of p) (number_of p) refl

trees_apart : (ts : List Tree) → AreSame ts → (p : Reference) → IsIn ts p → (seen : List Reference) → ((q : Reference) → Contains seen q → IsIn ts q)
    → AllByRecursion (λ q. ref_eq p q ≡ false) seen → AllByRecursion (λ t. same_tree (tree_at ts p) t ≡ false) (map (tree_at ts) seen)
trees_apart ts same p p_in [] inside apart = tt
trees_apart ts same p p_in (q ∷ seen) inside apart = (
  not_same_tree (tree_at ts p) (tree_at ts q) (λ equal.
      both_ways (ref_eq p q) apart.0 (subst (λ r. ref_eq p r ≡ true) (same p q p_in (inside q (Contains-here q q seen refl)) equal) (ref_eq-refl p))),
  trees_apart ts same p p_in seen (λ r there. inside r (Contains-behind r q seen there)) apart.1,
)

trees_distinct : (ts : List Tree) → AreSame ts → (seen : List Reference) → ((q : Reference) → Contains seen q → IsIn ts q) → IsDistinct ref_eq seen → IsDistinct same_tree (map (tree_at ts) seen)
unfolding IsDistinct
trees_distinct ts same [] inside distinct = tt
trees_distinct ts same (p ∷ seen) inside distinct = (
  trees_apart ts same p (inside p (Contains-here p p seen refl)) seen (λ r there. inside r (Contains-behind r p seen there)) distinct.0,
  trees_distinct ts same seen (λ r there. inside r (Contains-behind r p seen there)) distinct.1,
)

has_one : (ts : List Tree) (seen : List Reference) (x : Tree) → has_tree x (map (tree_at ts) seen) ≡ true → HasTree ts seen x
has_one ts [] x there = cc
has_one ts (p ∷ seen) x there = elim (or_cases (same_tree x (tree_at ts p)) (has_tree x (map (tree_at ts) seen)) there) [
  | inl here ↦ (p, Contains-here p p seen refl, sym (same_tree-true x (tree_at ts p) here))
  | inr behind ↦ let of = has_one ts seen x behind in (of.0, Contains-behind of.0 p seen of.1, of.2)
]

one_has : (ts : List Tree) (seen : List Reference) (p : Reference) → Contains seen p → has_tree (tree_at ts p) (map (tree_at ts) seen) ≡ true
one_has ts [] p there = absurd (Contains-none p there)
one_has ts (q ∷ seen) p there = elim ((Contains-cons p q seen).0 there) [
  | inl here ↦ rw (ap (tree_at ts) here, same_tree-refl (tree_at ts q)) refl
  | inr behind ↦ elim (cases_Bool (same_tree (tree_at ts p) (tree_at ts q))) [
    | inl same ↦ rw same refl
    | inr other ↦ rw other (one_has ts seen p behind)
  ]
]

pub size_is : (ts : List Tree) → AreSame ts → (f : Reference) (seen : List Reference) → AreBranches ts f seen → length seen ≡ size_of (tree_at ts f)
size_is ts same f seen are =
    let trees = map (tree_at ts) seen in
    let few = no_more trees (subs (tree_at ts f ∷ [])) (trees_distinct ts same seen (λ q there. (are.each q there).0) are.different)
    (λ x there. let of = has_one ts seen x there in with_branches-all x [] (tree_at ts f) (subst (λ t. IsBranchOf t (tree_at ts f)) of.2 (are.each of.0 of.1).1)) in
    let all = no_more (subs (tree_at ts f ∷ [])) trees (subs-distinct (tree_at ts f ∷ [])) (λ x there. elim (with_branches-cases x [] (tree_at ts f) there) [
      | inl none ↦ cc
      | inr of ↦ let has = are.whole x of in subst (λ t. has_tree t trees ≡ true) has.2 (one_has ts seen has.0 has.1)
    ]) in
    let long = length-map seen (tree_at ts) in
    omega arith

-- ### their atoms

-- the tree is a branch on this atom
abbrev IsRoot : ℕ → Tree → Type 0
IsRoot a (leaf value) = ⊥
IsRoot a (branch atom low high) = a ≡ atom

pub atoms-rise : (t : Tree) → IsStrictlyIncreasing (atoms_of t)
atoms-rise (leaf v) = λ k within. absurd (omega arith)
atoms-rise (branch a l h) = IsStrictlyIncreasing-with_class a (union_of (atoms_of l) (atoms_of h)) (IsStrictlyIncreasing-union_of (atoms_of l) (atoms_of h) (atoms-rise l))

-- the atoms are those of the branches
root_there : (a : ℕ) (t u : Tree) → IsBranchOf t u → IsRoot a t → Contains (atoms_of u) a
root_there a t (leaf v) of root = absurd of
root_there a t (branch b l h) of root = (Contains-with_class b (union_of (atoms_of l) (atoms_of h)) a).1 (elim of [
  | inl same ↦ inl (subst (λ (z : Tree). IsRoot a z) same root)
  | inr parts ↦ inr ((Contains-union_of (atoms_of l) (atoms_of h) a).1 (elim parts [ inl low ↦ inl (root_there a t l low root) | inr high ↦ inr (root_there a t h high root) ]))
])

there_root : (a : ℕ) (u : Tree) → Contains (atoms_of u) a → (t : Tree) × IsBranchOf t u × IsRoot a t
there_root a (leaf v) there = absurd (Contains-none a there)
there_root a (branch b l h) there = elim ((Contains-with_class b (union_of (atoms_of l) (atoms_of h)) a).0 there) [
  | inl here ↦ (branch b l h, inl refl, here)
  | inr parts ↦ elim ((Contains-union_of (atoms_of l) (atoms_of h) a).0 parts) [
    | inl low ↦ let of = there_root a l low in (of.0, inr (inl of.1), of.2)
    | inr high ↦ let of = there_root a h high in (of.0, inr (inr of.1), of.2)
  ]
]

with_root-rises : (t : Tree) (atoms : List ℕ) → IsStrictlyIncreasing atoms → IsStrictlyIncreasing (with_root t atoms)
with_root-rises (leaf v) atoms rises = rises
with_root-rises (branch a l h) atoms rises = IsStrictlyIncreasing-with_class a atoms rises

with_root-Contains : (t : Tree) (atoms : List ℕ) (a : ℕ) → Contains (with_root t atoms) a ↔ (IsRoot a t ⊎ Contains atoms a)
with_root-Contains (leaf v) atoms a = (λ there. inr there, λ there. elim there [ inl none ↦ absurd none | inr before ↦ before ])
with_root-Contains (branch b l h) atoms a = Contains-with_class b atoms a

module _ (ts : List Tree) where
  roots-rise : (atoms : List ℕ) (seen : List Reference) → IsStrictlyIncreasing atoms → IsStrictlyIncreasing (fold (λ xs p. with_root (tree_at ts p) xs) atoms seen)
  roots-rise atoms [] rises = rises
  roots-rise atoms (p ∷ seen) rises = roots-rise (with_root (tree_at ts p) atoms) seen (with_root-rises (tree_at ts p) atoms rises)

  roots-found : (atoms : List ℕ) (seen : List Reference) (a : ℕ) → Contains (fold (λ xs p. with_root (tree_at ts p) xs) atoms seen) a
      → Contains atoms a ⊎ ((p : Reference) × Contains seen p × IsRoot a (tree_at ts p))
  roots-found atoms [] a there = inl there
  roots-found atoms (p ∷ seen) a there = elim (roots-found (with_root (tree_at ts p) atoms) seen a there) [
    | inl first ↦ elim ((with_root-Contains (tree_at ts p) atoms a).0 first) [
      | inl root ↦ inr (p, Contains-here p p seen refl, root)
      | inr before ↦ inl before
    ]
    | inr later ↦ inr (later.0, Contains-behind later.0 p seen later.1, later.2)
  ]

  roots-kept : (atoms : List ℕ) (seen : List Reference) (a : ℕ) → Contains atoms a ⊎ ((p : Reference) × Contains seen p × IsRoot a (tree_at ts p))
      → Contains (fold (λ xs p. with_root (tree_at ts p) xs) atoms seen) a
  roots-kept atoms [] a there = elim there [ inl before ↦ before | inr later ↦ absurd (Contains-none later.0 later.1) ]
  roots-kept atoms (p ∷ seen) a there = roots-kept (with_root (tree_at ts p) atoms) seen a (elim there [
    | inl before ↦ inl ((with_root-Contains (tree_at ts p) atoms a).1 (inr before))
    | inr later ↦ elim ((Contains-cons later.0 p seen).0 later.1) [
      | inl here ↦ inl ((with_root-Contains (tree_at ts p) atoms a).1 (inl (subst (λ q. IsRoot a (tree_at ts q)) here later.2)))
      | inr behind ↦ inr (later.0, behind, later.2)
    ]
  ])

  nothing_rises : IsStrictlyIncreasing []
  nothing_rises k within = absurd (omega arith)

  atoms_are : (f : Reference) (seen : List Reference) → AreBranches ts f seen → roots_of ts seen ≡ atoms_of (tree_at ts f)
  atoms_are f seen are =
      same_members (roots_of ts seen) (atoms_of (tree_at ts f)) (roots-rise [] seen nothing_rises) (atoms-rise (tree_at ts f))
      (All-from_Contains (Contains (atoms_of (tree_at ts f))) (roots_of ts seen) (λ a there. elim (roots-found [] seen a there) [
        | inl none ↦ absurd (Contains-none a none)
        | inr of ↦ root_there a (tree_at ts of.0) (tree_at ts f) (are.each of.0 of.1).1 of.2
      ]))
      (All-from_Contains (Contains (roots_of ts seen)) (atoms_of (tree_at ts f)) (λ a there.
      let root = there_root a (tree_at ts f) there in
      let has = are.whole root.0 root.1 in
      roots-kept [] seen a (inr (has.0, has.1, subst (λ t. IsRoot a t) (sym has.2) root.2))))

-- ### for the answers

pub on_both : {T E : Type 0} (r : Result T E) (P Q S : Type 0) → (P → Q → S) → OnOk r P → OnOk r Q → OnOk r S
on_both (Ok v) P Q S further first second = further first second
on_both (Err e) P Q S further first second = tt

pub none_different : IsDistinct ref_eq []
unfolding IsDistinct
none_different = tt

fold_push : {X Y : Type 0} (g : Y → X → Y) (y : Y) (xs : List X) (x : X) → fold g y (xs ++ x ∷ []) ≡ g (fold g y xs) x
fold_push g y [] x = refl
fold_push g y (z ∷ xs) x = fold_push g (g y z) xs x

-- one diagram more
pub roots_more : (ts : List Tree) (seen : List Reference) (i : ℕ) (p : Reference) → i < length seen → p ≡ get_or seen i p
    → roots_of ts (take (i + 1) seen) ≡ with_root (tree_at ts p) (roots_of ts (take i seen))
roots_more ts seen i p less is =
    ap (roots_of ts) (take_more seen i p less ∙ (λ k. take i seen ++ sym is k ∷ []))
    ∙ fold_push (λ (atoms : List ℕ) q. with_root (tree_at ts q) atoms) [] (take i seen) p

pub atoms_found : {E : Type 0} (ts : List Tree) (f : Reference) (seen listed : List Reference) → AreBranches ts f seen → listed ≡ seen
    → (r : Result (List ℕ) E) → IfOk r (λ atoms. atoms ≡ roots_of ts listed) → IfOk r (λ atoms. atoms ≡ atoms_of (tree_at ts f))
atoms_found ts f seen listed are same (Ok atoms) is = is ∙ ap (roots_of ts) same ∙ atoms_are ts f seen are
atoms_found ts f seen listed are same (Err e) is = tt
