-- Lists of trees that hold the parts of each of their trees.
use Rattle.std.proofs.Common.{◌≡◌, ◌≢◌, ℕ, ◌≤◌, true, false, List, [], ◌∷◌, ◌++◌, length, refl, sym, ap, subst, ◌∙◌, arith, inl, inr, ◌⊎◌, append_assoc, append-nil, length-append}
use Rattle.std.proofs.lemmas.Bool.{cases_Bool, or_cases, or_right}
use Rattle.class_diagrams.specs.Trees.{Tree, leaf, branch, same_tree, join, has_tree, with_tree, with_branches, IsBranchOf}
use Rattle.class_diagrams.specs.Arena.{StartsWith, Holds, IsClosed}
use Rattle.class_diagrams.proofs.TreeLemmas.{same_tree-refl, same_tree-true, cases_tree, join-same, join-other}

-- ### beginnings

pub StartsWith-itself : (ts : List Tree) → StartsWith ts ts
StartsWith-itself ts = ([], sym (append-nil ts))

pub StartsWith-further : (ts us vs : List Tree) → StartsWith ts us → StartsWith us vs → StartsWith ts vs
StartsWith-further ts us vs first second =
    (first.0 ++ second.0, second.1 ∙ ap (λ xs. xs ++ second.0) first.1 ∙ append_assoc ts first.0 second.0)

pub StartsWith-length : (ts us : List Tree) → StartsWith ts us → length ts ≤ length us
StartsWith-length ts us first = rw first.1 (omega (arith, length-append ts first.0))

-- ### what a list has

has_tree-left : (t : Tree) (ts us : List Tree) → has_tree t ts ≡ true → has_tree t (ts ++ us) ≡ true
has_tree-left t [] us h = cc
has_tree-left t (x ∷ ts) us h = elim (or_cases (same_tree t x) (has_tree t ts) h) [
  | inl here ↦ rw here refl
  | inr behind ↦ or_right (same_tree t x) (has_tree t (ts ++ us)) (has_tree-left t ts us behind)
]

has_tree-last : (t : Tree) (ts : List Tree) → has_tree t (ts ++ t ∷ []) ≡ true
has_tree-last t [] = rw (same_tree-refl t) refl
has_tree-last t (x ∷ ts) = or_right (same_tree t x) (has_tree t (ts ++ t ∷ [])) (has_tree-last t ts)

has_tree-cases : (t u : Tree) (ts : List Tree) → has_tree t (ts ++ u ∷ []) ≡ true → (has_tree t ts ≡ true) ⊎ (t ≡ u)
has_tree-cases t u [] h = elim (or_cases (same_tree t u) false h) [ inl here ↦ inr (same_tree-true t u here) | inr none ↦ cc ]
has_tree-cases t u (x ∷ ts) h = elim (or_cases (same_tree t x) (has_tree t (ts ++ u ∷ [])) h) [
  | inl here ↦ inl (rw here refl)
  | inr behind ↦ elim (has_tree-cases t u ts behind) [
    | inl before ↦ inl (or_right (same_tree t x) (has_tree t ts) before)
    | inr last ↦ inr last
  ]
]

pub Holds-further : (t : Tree) (ts us : List Tree) → StartsWith ts us → Holds ts t → Holds us t
Holds-further (leaf v) ts us first held = tt
Holds-further (branch a l h) ts us first held = rw first.1 (has_tree-left (branch a l h) ts first.0 held)

-- ### one tree more

pub with_tree-held : (t : Tree) (ts : List Tree) → has_tree t ts ≡ true → with_tree t ts ≡ ts
with_tree-held t ts held = rw held refl

pub with_tree-new : (t : Tree) (ts : List Tree) → has_tree t ts ≡ false → with_tree t ts ≡ ts ++ t ∷ []
with_tree-new t ts new = rw new refl

pub StartsWith-with_tree : (t : Tree) (ts : List Tree) → StartsWith ts (with_tree t ts)
StartsWith-with_tree t ts = elim (cases_Bool (has_tree t ts)) [
  | inl held ↦ rw (with_tree-held t ts held) (StartsWith-itself ts)
  | inr new ↦ rw (with_tree-new t ts new) (t ∷ [], refl)
]

pub has_tree-with_tree : (t : Tree) (ts : List Tree) → has_tree t (with_tree t ts) ≡ true
has_tree-with_tree t ts = elim (cases_Bool (has_tree t ts)) [
  | inl held ↦ rw (with_tree-held t ts held) held
  | inr new ↦ rw (with_tree-new t ts new) (has_tree-last t ts)
]

pub IsClosed-with_tree : (a : ℕ) (l h : Tree) (ts : List Tree) → IsClosed ts → Holds ts l → Holds ts h → IsClosed (with_tree (branch a l h) ts)
IsClosed-with_tree a l h ts closed low high = elim (cases_Bool (has_tree (branch a l h) ts)) [
  | inl held ↦ rw (with_tree-held (branch a l h) ts held) closed
  | inr new ↦ rw (with_tree-new (branch a l h) ts new) (λ b m k there. elim (has_tree-cases (branch b m k) (branch a l h) ts there) [
    | inl before ↦
        let parts = closed b m k before in
        (Holds-further m ts _ (branch a l h ∷ [], refl) parts.0, Holds-further k ts _ (branch a l h ∷ [], refl) parts.1)
    | inr last ↦
        let lows : m ≡ l = cc in
        let highs : k ≡ h = cc in (
          subst (λ x. Holds (ts ++ branch a l h ∷ []) x) (sym lows) (Holds-further l ts _ (branch a l h ∷ [], refl) low),
          subst (λ x. Holds (ts ++ branch a l h ∷ []) x) (sym highs) (Holds-further h ts _ (branch a l h ∷ [], refl) high),
        )
  ])
]

-- ### the branches of one tree more

pub StartsWith-with_branches : (ts : List Tree) (t : Tree) → StartsWith ts (with_branches ts t)
StartsWith-with_branches ts (leaf v) = StartsWith-itself ts
StartsWith-with_branches ts (branch a l h) =
    StartsWith-further ts (with_branches ts l) _ (StartsWith-with_branches ts l)
    (StartsWith-further (with_branches ts l) (with_branches (with_branches ts l) h) _ (StartsWith-with_branches (with_branches ts l) h)
    (StartsWith-with_tree (branch a l h) (with_branches (with_branches ts l) h)))

pub Holds-with_branches : (ts : List Tree) (t : Tree) → Holds (with_branches ts t) t
Holds-with_branches ts (leaf v) = tt
Holds-with_branches ts (branch a l h) = has_tree-with_tree (branch a l h) (with_branches (with_branches ts l) h)

pub IsClosed-with_branches : (ts : List Tree) (t : Tree) → IsClosed ts → IsClosed (with_branches ts t)
IsClosed-with_branches ts (leaf v) closed = closed
IsClosed-with_branches ts (branch a l h) closed =
    IsClosed-with_tree a l h (with_branches (with_branches ts l) h)
    (IsClosed-with_branches (with_branches ts l) h (IsClosed-with_branches ts l closed))
    (Holds-further l (with_branches ts l) _ (StartsWith-with_branches (with_branches ts l) h) (Holds-with_branches ts l))
    (Holds-with_branches (with_branches ts l) h)

-- a tree that is held brings no branch
pub with_branches-held : (ts : List Tree) (t : Tree) → IsClosed ts → Holds ts t → with_branches ts t ≡ ts
with_branches-held ts (leaf v) closed held = refl
with_branches-held ts (branch a l h) closed held =
    let parts = closed a l h held in
    rw (with_branches-held ts l closed parts.0, with_branches-held ts h closed parts.1) (with_tree-held (branch a l h) ts held)

-- the low tree's branches, then the high tree's, then the branch: those of what is joined
pub with_branches-join : (ts : List Tree) (a : ℕ) (l h : Tree) → IsClosed ts → l ≢ h
    → with_branches ts (join a l h) ≡ with_tree (branch a l h) (with_branches (with_branches ts l) h)
with_branches-join ts a l h closed other = ap (with_branches ts) (join-other a l h other)

pub with_branches-join_same : (ts : List Tree) (a : ℕ) (l h : Tree) → IsClosed ts → l ≡ h
    → with_branches ts (join a l h) ≡ with_branches (with_branches ts l) h
with_branches-join_same ts a l h closed same =
    ap (with_branches ts) (join-same a l h same)
    ∙ sym (with_branches-held (with_branches ts l) l (IsClosed-with_branches ts l closed) (Holds-with_branches ts l))
    ∙ ap (with_branches (with_branches ts l)) same

-- what the two parts bring is a beginning of what the joined tree brings
pub StartsWith-join : (ts : List Tree) (a : ℕ) (l h : Tree) → IsClosed ts → StartsWith (with_branches (with_branches ts l) h) (with_branches ts (join a l h))
StartsWith-join ts a l h closed = elim (cases_tree l h) [
  | inl same ↦ rw (with_branches-join_same ts a l h closed same) (StartsWith-itself _)
  | inr other ↦ rw (with_branches-join ts a l h closed other) (StartsWith-with_tree (branch a l h) _)
]

-- what is joined brings nothing more than its parts and the branch
pub with_branches-again : (ts : List Tree) (a : ℕ) (l h : Tree) → IsClosed ts
    → with_branches (with_branches (with_branches ts l) h) (join a l h) ≡ with_branches ts (join a l h)
with_branches-again ts a l h closed =
    let first = IsClosed-with_branches ts l closed in
    let both = IsClosed-with_branches (with_branches ts l) h first in
    let low : Holds (with_branches (with_branches ts l) h) l =
    Holds-further l (with_branches ts l) (with_branches (with_branches ts l) h) (StartsWith-with_branches (with_branches ts l) h) (Holds-with_branches ts l) in
    let high = Holds-with_branches (with_branches ts l) h in
    elim (cases_tree l h) [
      | inl same ↦
          ap (with_branches (with_branches (with_branches ts l) h)) (join-same a l h same)
          ∙ with_branches-held (with_branches (with_branches ts l) h) l both low
          ∙ sym (with_branches-join_same ts a l h closed same)
      | inr other ↦
          ap (with_branches (with_branches (with_branches ts l) h)) (join-other a l h other)
          ∙ rw (with_branches-held (with_branches (with_branches ts l) h) l both low, with_branches-held (with_branches (with_branches ts l) h) h both high) refl
          ∙ sym (with_branches-join ts a l h closed other)
    ]

-- ### which branches a tree brings

with_tree-cases : (x t : Tree) (ts : List Tree) → has_tree x (with_tree t ts) ≡ true → (has_tree x ts ≡ true) ⊎ (x ≡ t)
with_tree-cases x t ts there = elim (cases_Bool (has_tree t ts)) [
  | inl held ↦ inl (rw (with_tree-held t ts held) at there)
  | inr new ↦ has_tree-cases x t ts (rw (with_tree-new t ts new) at there)
]

-- each is one of those before, or the tree's
pub with_branches-cases : (x : Tree) (ts : List Tree) (t : Tree) → has_tree x (with_branches ts t) ≡ true → (has_tree x ts ≡ true) ⊎ IsBranchOf x t
with_branches-cases x ts (leaf v) there = inl there
with_branches-cases x ts (branch a l h) there = elim (with_tree-cases x (branch a l h) (with_branches (with_branches ts l) h) there) [
  | inr same ↦ inr (inl same)
  | inl parts ↦ elim (with_branches-cases x (with_branches ts l) h parts) [
    | inr high ↦ inr (inr (inr high))
    | inl rest ↦ elim (with_branches-cases x ts l rest) [
      | inr low ↦ inr (inr (inl low))
      | inl before ↦ inl before
    ]
  ]
]

pub has_tree-further : (x : Tree) (ts us : List Tree) → StartsWith ts us → has_tree x ts ≡ true → has_tree x us ≡ true
has_tree-further x ts us first there = rw first.1 (has_tree-left x ts first.0 there)

-- and each of the tree's is there
pub with_branches-all : (x : Tree) (ts : List Tree) (t : Tree) → IsBranchOf x t → has_tree x (with_branches ts t) ≡ true
with_branches-all x ts (leaf v) part = absurd part
with_branches-all x ts (branch a l h) part = elim part [
  | inl same ↦ rw same (has_tree-with_tree (branch a l h) (with_branches (with_branches ts l) h))
  | inr parts ↦ has_tree-further x (with_branches (with_branches ts l) h) _ (StartsWith-with_tree (branch a l h) (with_branches (with_branches ts l) h)) (elim parts [
    | inl low ↦ has_tree-further x (with_branches ts l) _ (StartsWith-with_branches (with_branches ts l) h) (with_branches-all x ts l low)
    | inr high ↦ with_branches-all x (with_branches ts l) h high
  ])
]
