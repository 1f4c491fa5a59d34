-- Whether a guard holds at a node can be found out.
use Rattle.std.proofs.Common.{◌≡◌, ◌⊎◌, ℕ, zero, suc, ◌<◌, List, [], ◌∷◌, ◌++◌, length, take, Some, None, option_and_then, IsSome, IsSomeAnd, Contains, refl, sym, ap, ◌∙◌, subst, inl, inr, arith, length-append}
use Rattle.std.proofs.lemmas.Bool.{cases_Bool, cases_order}
use Rattle.std.proofs.lemmas.List.{take-append-le}
use Rattle.std.proofs.Math.Seq.{take-length}
use Rattle.tp_base.specs.Classes.{has_class}
use Rattle.tp_base.proofs.ClassLemmas.{has_class-Contains, Contains-has_class}
use Rattle.tp_base.proofs.Rising.{Contains-here, Contains-behind, Contains-cons, Contains-none}
use Rattle.tree_sem.specs.Trees.{LabelTree, node_at, label_at}
use Rattle.tree_sem.specs.Order.{paths_of}
use Rattle.tree_sem.proofs.RowLemmas.{there, node_at-append}
use Rattle.tree_sem.specs.Nodes.{IsNode, HasAtom}
use Rattle.tree_sem.proofs.BothLemmas.{last_of}
use Rattle.tree_sem.proofs.NodeLemmas.{Contains-paths_of, IsNode-front}
use Rattle.guard_sem.specs.Guards.{Guard, always, atom, all, any, parent, ancestor, child, descendant, somewhere, Guards, no_guards, guard}
use Rattle.guard_sem.specs.Holding.{Holds, HoldAll, HoldsOne}
use Rattle.guard_sem.proofs.HoldingLemmas.{Holds-node}

abbrev pub Either : Type 0 → Type 0
Either P = P ⊎ (P → ⊥)

pub decide_both : (P Q : Type 0) → Either P → Either Q → Either (P × Q)
decide_both P Q (inr not) q = inr (λ h. not h.0)
decide_both P Q (inl p) (inr not) = inr (λ h. not h.1)
decide_both P Q (inl p) (inl q) = inl (p, q)

pub decide_one : (P Q : Type 0) → Either P → Either Q → Either (P ⊎ Q)
decide_one P Q (inl p) q = inl (inl p)
decide_one P Q (inr not) (inl q) = inl (inr q)
decide_one P Q (inr not) (inr not') = inr (λ h. elim h [ inl p ↦ not p | inr q ↦ not' q ])

pub decide_same : (P Q : Type 0) → (P → Q) → (Q → P) → Either P → Either Q
decide_same P Q to from (inl p) = inl (to p)
decide_same P Q to from (inr not) = inr (λ q. not (from q))

-- some number below n
pub decide_below : (P : ℕ → Type 0) → ((k : ℕ) → Either (P k)) → (n : ℕ) → Either ((k : ℕ) × (k < n) × P k)
decide_below P decide zero = inr (λ h. let less = h.1 in absurd (omega (arith, less)))
decide_below P decide (suc n) = elim (decide n) [
  | inl p ↦ inl (n, omega arith, p)
  | inr not ↦ elim (decide_below P decide n) [
    | inl found ↦ inl (found.0, omega (arith, found.1), found.2)
    | inr none ↦ inr (λ h. elim (cases_order h.0 n) [
      | inl same ↦ not (subst P same h.2)
      | inr (inl less) ↦ none (h.0, less, h.2)
      | inr (inr more) ↦ let less = h.1 in absurd (omega (arith, less, more))
    ])
  ]
]

-- some element of a list
pub decide_among : {X : Type 0} (P : X → Type 0) → ((x : X) → Either (P x)) → (xs : List X) → Either ((x : X) × Contains xs x × P x)
decide_among P decide [] = inr (λ h. absurd (Contains-none h.0 h.1))
decide_among P decide (x ∷ xs) = elim (decide x) [
  | inl p ↦ inl (x, Contains-here x x xs refl, p)
  | inr not ↦ elim (decide_among P decide xs) [
    | inl found ↦ inl (found.0, Contains-behind found.0 x xs found.1, found.2)
    | inr none ↦ inr (λ h. elim ((Contains-cons h.0 x xs).0 h.1) [
      | inl here ↦ not (subst P here h.2)
      | inr behind ↦ none (h.0, behind, h.2)
    ])
  ]
]

pub decide_node : (t : LabelTree) (v : List ℕ) → Either (IsNode t v)
decide_node t v = elim (node_at v t) as (λ o. Either (IsSome o)) [ None ↦ inr (λ is. cc) | Some s ↦ inl refl ]

pub decide_atom : (t : LabelTree) (v : List ℕ) (a : ℕ) → Either (HasAtom t v a)
decide_atom t v a = elim (label_at v t) as (λ o. Either (IsSomeAnd o (λ l. Contains l a))) [
  | None ↦ inr (λ h. h)
  | Some l ↦ elim (cases_Bool (has_class a l)) [
    | inl yes' ↦ inl (Contains-has_class a l yes')
    | inr no' ↦ inr (λ h. let yes' = has_class-Contains a l h in cc)
  ]
]

-- a path below v, as an element of the list of paths there
below_v : (t : LabelTree) (v q : List ℕ) (s : LabelTree) → node_at v t ≡ Some s → IsNode t (v ++ q) → Contains (paths_of s) q
below_v t v q s at is =
    let parts : IsSome (option_and_then (node_at q) (node_at v t)) = rw (← node_at-append v q t) is in
    (Contains-paths_of s q).1 (rw at at parts)

-- Where P can be found out at each path, so can these.
module _ (t : LabelTree) (v : List ℕ) (P : List ℕ → Type 0) (decide : (p : List ℕ) → Either (P p)) where
  decide_parent : Either ((k : ℕ) × (p : List ℕ) × (v ≡ p ++ k ∷ []) × P p)
  decide_parent = elim v as (λ v. Either ((k : ℕ) × (p : List ℕ) × (v ≡ p ++ k ∷ []) × P p)) [
    | [] ↦ inr (λ h. let long = length-append h.1 (h.0 ∷ []) in let long' : 0 ≡ length (h.1 ++ h.0 ∷ []) = ap length h.2 in absurd (omega arith))
    | k ∷ q ↦
        let last = last_of (k ∷ q) (length q) refl in
        elim (decide (take (length q) (k ∷ q))) [
          | inl p ↦ inl (last.0, take (length q) (k ∷ q), last.1, p)
          | inr not ↦ inr (λ h.
              let long = length-append h.1 (h.0 ∷ []) in
              let long' : suc (length q) ≡ length (h.1 ++ h.0 ∷ []) = ap length h.2 in
              let same : take (length q) (k ∷ q) ≡ h.1 = ap (take (length q)) h.2 ∙ take-append-le (length q) h.1 (h.0 ∷ []) (omega arith) ∙ ap (λ n. take n h.1) (omega arith) ∙ take-length h.1 in
              not (subst P (sym same) h.3))
        ]
  ]

  -- a path that goes on from v by a list of which Q is true
  module _ (is : (p : List ℕ) → P p → IsNode t p) where
    decide_child : Either ((k : ℕ) × P (v ++ k ∷ []))
    decide_child = elim (decide_node t v) [
      | inr not ↦ inr (λ h. not (IsNode-front t v (h.0 ∷ []) (is (v ++ h.0 ∷ []) h.1)))
      | inl here ↦
          let at = there (node_at v t) here in
          elim (decide_among One (λ q. one q) (paths_of at.0)) [
            | inl found ↦ inl (unpack found.0 found.2)
            | inr none ↦ inr (λ h. none (h.0 ∷ [], below_v t v (h.0 ∷ []) at.0 at.1 (is (v ++ h.0 ∷ []) h.1), h.1))
          ]
    ]
      where
        One : List ℕ → Type 0
        One [] = ⊥
        One (k ∷ []) = P (v ++ k ∷ [])
        One (k ∷ l ∷ q) = ⊥

        one : (q : List ℕ) → Either (One q)
        one [] = inr (λ h. h)
        one (k ∷ []) = decide (v ++ k ∷ [])
        one (k ∷ l ∷ q) = inr (λ h. h)

        unpack : (q : List ℕ) → One q → (k : ℕ) × P (v ++ k ∷ [])
        unpack [] h = absurd h
        unpack (k ∷ []) h = (k, h)
        unpack (k ∷ l ∷ q) h = absurd h

    decide_descendant : Either ((k : ℕ) × (q : List ℕ) × P (v ++ k ∷ q))
    decide_descendant = elim (decide_node t v) [
      | inr not ↦ inr (λ h. not (IsNode-front t v (h.0 ∷ h.1) (is (v ++ h.0 ∷ h.1) h.2)))
      | inl here ↦
          let at = there (node_at v t) here in
          elim (decide_among Some' (λ q. some q) (paths_of at.0)) [
            | inl found ↦ inl (unpack found.0 found.2)
            | inr none ↦ inr (λ h. none (h.0 ∷ h.1, below_v t v (h.0 ∷ h.1) at.0 at.1 (is (v ++ h.0 ∷ h.1) h.2), h.2))
          ]
    ]
      where
        Some' : List ℕ → Type 0
        Some' [] = ⊥
        Some' (k ∷ q) = P (v ++ k ∷ q)

        some : (q : List ℕ) → Either (Some' q)
        some [] = inr (λ h. h)
        some (k ∷ q) = decide (v ++ k ∷ q)

        unpack : (q : List ℕ) → Some' q → (k : ℕ) × (r : List ℕ) × P (v ++ k ∷ r)
        unpack [] h = absurd h
        unpack (k ∷ q) h = (k, q, h)

decide_somewhere : (t : LabelTree) (P : List ℕ → Type 0) → ((p : List ℕ) → Either (P p)) → ((p : List ℕ) → P p → IsNode t p) → Either ((w : List ℕ) × P w)
decide_somewhere t P decide is = elim (decide_among P decide (paths_of t)) [
  | inl found ↦ inl (found.0, found.2)
  | inr none ↦ inr (λ h. none (h.0, (Contains-paths_of t h.0).1 (is h.0 h.1), h.1))
]

mutual
  pub decide_holds : (t : LabelTree) (g : Guard) (v : List ℕ) → Either (Holds t v g)
  decide_holds t always v = decide_node t v
  decide_holds t (atom a) v = decide_atom t v a
  decide_holds t (all gs) v = decide_both (IsNode t v) (HoldAll t v gs) (decide_node t v) (decide_all t gs v)
  decide_holds t (any gs) v = decide_any t gs v
  decide_holds t (parent g) v = decide_same _ (Holds t v (parent g)) (λ h. (h.0, h.1.0, h.1.1, h.1.2, h.1.3)) (λ h. (h.0, (h.1, h.2, h.3, h.4)))
      (decide_both (IsNode t v) ((k : ℕ) × (p : List ℕ) × (v ≡ p ++ k ∷ []) × Holds t p g) (decide_node t v) (decide_parent t v (λ p. Holds t p g) (λ p. decide_holds t g p)))
  decide_holds t (ancestor g) v = decide_same _ (Holds t v (ancestor g)) (λ h. (h.0, h.1.0, h.1.1, h.1.2)) (λ h. (h.0, (h.1, h.2, h.3)))
      (decide_both (IsNode t v) ((m : ℕ) × (m < length v) × Holds t (take m v) g) (decide_node t v) (decide_below (λ m. Holds t (take m v) g) (λ m. decide_holds t g (take m v)) (length v)))
  decide_holds t (child g) v = decide_child t v (λ p. Holds t p g) (λ p. decide_holds t g p) (λ p h. Holds-node t g p h)
  decide_holds t (descendant g) v = decide_descendant t v (λ p. Holds t p g) (λ p. decide_holds t g p) (λ p h. Holds-node t g p h)
  decide_holds t (somewhere g) v = decide_same _ (Holds t v (somewhere g)) (λ h. (h.0, h.1.0, h.1.1)) (λ h. (h.0, (h.1, h.2)))
      (decide_both (IsNode t v) ((w : List ℕ) × Holds t w g) (decide_node t v) (decide_somewhere t (λ p. Holds t p g) (λ p. decide_holds t g p) (λ p h. Holds-node t g p h)))

  decide_all : (t : LabelTree) (gs : Guards) (v : List ℕ) → Either (HoldAll t v gs)
  decide_all t no_guards v = inl tt
  decide_all t (guard g gs) v = decide_both (Holds t v g) (HoldAll t v gs) (decide_holds t g v) (decide_all t gs v)

  decide_any : (t : LabelTree) (gs : Guards) (v : List ℕ) → Either (HoldsOne t v gs)
  decide_any t no_guards v = inr (λ h. h)
  decide_any t (guard g gs) v = decide_one (Holds t v g) (HoldsOne t v gs) (decide_holds t g v) (decide_any t gs v)
