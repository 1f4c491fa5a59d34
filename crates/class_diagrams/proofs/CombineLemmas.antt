-- What trees are combined to: their meaning, their condition, and one step of the recursion.
use Rattle.std.proofs.Common.{◌≡◌, ℕ, ◌<◌, Bool, true, false, ◌&&◌, ◌||◌, cond, List, refl, sym, subst, ◌∙◌, arith, inl, inr, ◌⊎◌}
use Rattle.std.proofs.lemmas.Bool.{lt-ltb, le-ltb, cases_order, cases_Bool}
use Rattle.tp_base.specs.Classes.{has_class}
use Rattle.class_diagrams.specs.Trees.{Tree, leaf, branch, eval, Implies, StartsAbove, IsOrdered, join, combine, and_leaf, or_leaf, tand, tor, variable}
use Rattle.class_diagrams.proofs.TreeLemmas.{cases_tree, join-same, join-other}

-- what is asked of a rule for leaves: it keeps the other tree or the leaf, and computes a monotone operation
pub record IsRule (leaf_rule : Bool → Tree → Tree) (both : Bool → Bool → Bool) : Type 0 where
  pub picks : (v : Bool) (t : Tree) → (leaf_rule v t ≡ t) ⊎ (leaf_rule v t ≡ leaf v)
  pub means : (v : Bool) (t : Tree) (set : List ℕ) → eval (leaf_rule v t) set ≡ both v (eval t set)
  pub turned : (v w : Bool) → both v w ≡ both w v
  pub grows : (v w x y : Bool) → (v ≡ true → x ≡ true) → (w ≡ true → y ≡ true) → both v w ≡ true → both x y ≡ true

and_grows : (v w x y : Bool) → (v ≡ true → x ≡ true) → (w ≡ true → y ≡ true) → (v && w) ≡ true → (x && y) ≡ true
and_grows true true x y f g h = rw (f refl, g refl) refl
and_grows true false x y f g h = cc
and_grows false w x y f g h = cc

pub and_rule : IsRule and_leaf (λ v w. v && w)
and_rule = record {
  picks = λ v t. elim v as (λ v. (and_leaf v t ≡ t) ⊎ (and_leaf v t ≡ leaf v)) [ true ↦ inl refl | false ↦ inr refl ];
  means = λ v t set. elim v as (λ v. eval (and_leaf v t) set ≡ (v && eval t set)) [ true ↦ refl | false ↦ refl ];
  turned = λ v w. elim v as (λ v. (v && w) ≡ (w && v)) [ true ↦ elim w as (λ w. w ≡ (w && true)) [ true ↦ refl | false ↦ refl ] | false ↦ elim w as (λ w. false ≡ (w && false)) [ true ↦ refl | false ↦ refl ] ];
  grows = and_grows;
}

or_grows : (v w x y : Bool) → (v ≡ true → x ≡ true) → (w ≡ true → y ≡ true) → (v || w) ≡ true → (x || y) ≡ true
or_grows true w x y f g h = rw (f refl) refl
or_grows false true true y f g h = refl
or_grows false true false y f g h = g refl
or_grows false false x y f g h = cc

pub or_rule : IsRule or_leaf (λ v w. v || w)
or_rule = record {
  picks = λ v t. elim v as (λ v. (or_leaf v t ≡ t) ⊎ (or_leaf v t ≡ leaf v)) [ true ↦ inr refl | false ↦ inl refl ];
  means = λ v t set. elim v as (λ v. eval (or_leaf v t) set ≡ (v || eval t set)) [ true ↦ refl | false ↦ refl ];
  turned = λ v w. elim v as (λ v. (v || w) ≡ (w || v)) [ true ↦ elim w as (λ w. true ≡ (w || true)) [ true ↦ refl | false ↦ refl ] | false ↦ elim w as (λ w. w ≡ (w || false)) [ true ↦ refl | false ↦ refl ] ];
  grows = or_grows;
}

same_cond : (c v : Bool) → v ≡ cond c v v
same_cond true v = refl
same_cond false v = refl

eval-join : (a : ℕ) (t u : Tree) (set : List ℕ) → eval (join a t u) set ≡ cond (has_class a set) (eval u set) (eval t set)
eval-join a t u set = elim (cases_tree t u) [
  | inr other ↦ rw (join-other a t u other) refl
  | inl same ↦ rw (join-same a t u same, ← same) (same_cond (has_class a set) (eval t set))
]

StartsAbove-join : (c a : ℕ) (t u : Tree) → c < a → StartsAbove c t → StartsAbove c (join a t u)
StartsAbove-join c a t u less above = elim (cases_tree t u) [
  | inl same ↦ rw (join-same a t u same) above
  | inr other ↦ rw (join-other a t u other) less
]

IsOrdered-join : (a : ℕ) (t u : Tree) → StartsAbove a t → StartsAbove a u → Implies t u → IsOrdered t → IsOrdered u → IsOrdered (join a t u)
IsOrdered-join a t u above u_above implies ok u_ok = elim (cases_tree t u) [
  | inl same ↦ rw (join-same a t u same) ok
  | inr other ↦ rw (join-other a t u other) (above, u_above, other, implies, ok, u_ok)
]

StartsAbove-less : (c a : ℕ) (t : Tree) → c < a → StartsAbove a t → StartsAbove c t
StartsAbove-less c a (leaf v) less above = tt
StartsAbove-less c a (branch b l h) less above = omega arith

module _ (leaf_rule : Bool → Tree → Tree) where
  -- one step, by the order of the two first atoms
  pub combine-less : (a b : ℕ) (l h m k : Tree) → a < b
      → combine leaf_rule (branch a l h) (branch b m k) ≡ join a (combine leaf_rule l (branch b m k)) (combine leaf_rule h (branch b m k))
  combine-less a b l h m k less = rw (lt-ltb a b less) refl

  pub combine-more : (a b : ℕ) (l h m k : Tree) → b < a
      → combine leaf_rule (branch a l h) (branch b m k) ≡ join b (combine leaf_rule (branch a l h) m) (combine leaf_rule (branch a l h) k)
  combine-more a b l h m k more = rw (le-ltb a b (omega arith), lt-ltb b a more) refl

  pub combine-same : (a b : ℕ) (l h m k : Tree) → a ≡ b
      → combine leaf_rule (branch a l h) (branch b m k) ≡ join a (combine leaf_rule l m) (combine leaf_rule h k)
  combine-same a b l h m k same = rw (le-ltb a b (omega arith), le-ltb b a (omega arith)) refl

  module _ (both : Bool → Bool → Bool) (rule : IsRule leaf_rule both) where
    eval-combine_branch : (set : List ℕ) (a : ℕ) (l h u : Tree)
        → ((u : Tree) → eval (combine leaf_rule l u) set ≡ both (eval l set) (eval u set))
        → ((u : Tree) → eval (combine leaf_rule h u) set ≡ both (eval h set) (eval u set))
        → eval (combine leaf_rule (branch a l h) u) set ≡ both (eval (branch a l h) set) (eval u set)
    eval-combine_branch set a l h (leaf w) low high = rule.means w (branch a l h) set ∙ rule.turned w (eval (branch a l h) set)
    eval-combine_branch set a l h (branch b m k) low high = elim (cases_order a b) [
      | inl same ↦ rw (combine-same a b l h m k same, eval-join a (combine leaf_rule l m) (combine leaf_rule h k) set, low m, high k, ← same) (elim (cases_Bool (has_class a set)) [ inl has ↦ rw has refl | inr lacks ↦ rw lacks refl ])
      | inr apart ↦ elim apart [
        | inl less ↦ rw (combine-less a b l h m k less, eval-join a (combine leaf_rule l (branch b m k)) (combine leaf_rule h (branch b m k)) set, low (branch b m k), high (branch b m k)) (elim (cases_Bool (has_class a set)) [ inl has ↦ rw has refl | inr lacks ↦ rw lacks refl ])
        | inr more ↦
            let on_low = eval-combine_branch set a l h m low high in
            let on_high = eval-combine_branch set a l h k low high in
            rw (combine-more a b l h m k more, eval-join b (combine leaf_rule (branch a l h) m) (combine leaf_rule (branch a l h) k) set, on_low, on_high) (elim (cases_Bool (has_class b set)) [ inl has ↦ rw has refl | inr lacks ↦ rw lacks refl ])
      ]
    ]

    pub eval-combine : (t u : Tree) (set : List ℕ) → eval (combine leaf_rule t u) set ≡ both (eval t set) (eval u set)
    eval-combine (leaf v) u set = rule.means v u set
    eval-combine (branch a l h) u set = eval-combine_branch set a l h u (λ u. eval-combine l u set) (λ u. eval-combine h u set)

    Implies-combine : (t u x y : Tree) → Implies t x → Implies u y → Implies (combine leaf_rule t u) (combine leaf_rule x y)
    Implies-combine t u x y first second set holds =
        eval-combine x y set ∙ rule.grows (eval t set) (eval u set) (eval x set) (eval y set) (first set) (second set) (sym (eval-combine t u set) ∙ holds)

    StartsAbove-rule : (c : ℕ) (v : Bool) (t : Tree) → StartsAbove c t → StartsAbove c (leaf_rule v t)
    StartsAbove-rule c v t above = elim (rule.picks v t) [ inl other ↦ rw other above | inr own ↦ rw own tt ]

    StartsAbove-combine : (c : ℕ) (t u : Tree) → IsOrdered t → IsOrdered u → StartsAbove c t → StartsAbove c u → StartsAbove c (combine leaf_rule t u)
    StartsAbove-combine c (leaf v) u ok u_ok above u_above = StartsAbove-rule c v u u_above
    StartsAbove-combine c (branch a l h) (leaf w) ok u_ok above u_above = StartsAbove-rule c w (branch a l h) above
    StartsAbove-combine c (branch a l h) (branch b m k) ok u_ok above u_above = elim (cases_order a b) [
      | inl same ↦ rw (combine-same a b l h m k same) (StartsAbove-join c a _ _ above (StartsAbove-combine c l m ok.4 u_ok.4 (StartsAbove-less c a l above ok.0) (StartsAbove-less c b m u_above u_ok.0)))
      | inr apart ↦ elim apart [
        | inl less ↦ rw (combine-less a b l h m k less) (StartsAbove-join c a _ _ above (StartsAbove-combine c l (branch b m k) ok.4 u_ok (StartsAbove-less c a l above ok.0) u_above))
        | inr more ↦ rw (combine-more a b l h m k more) (StartsAbove-join c b _ _ u_above (StartsAbove-combine c (branch a l h) m ok u_ok.4 above (StartsAbove-less c b m u_above u_ok.0)))
      ]
    ]

    IsOrdered-rule : (v : Bool) (t : Tree) → IsOrdered t → IsOrdered (leaf_rule v t)
    IsOrdered-rule v t ok = elim (rule.picks v t) [ inl other ↦ rw other ok | inr own ↦ rw own tt ]

    pub IsOrdered-combine : (t u : Tree) → IsOrdered t → IsOrdered u → IsOrdered (combine leaf_rule t u)
    IsOrdered-combine (leaf v) u ok u_ok = IsOrdered-rule v u u_ok
    IsOrdered-combine (branch a l h) (leaf w) ok u_ok = IsOrdered-rule w (branch a l h) ok
    IsOrdered-combine (branch a l h) (branch b m k) ok u_ok = elim (cases_order a b) [
      | inl same ↦
          let above : StartsAbove a m × StartsAbove a k = subst (λ c. StartsAbove c m × StartsAbove c k) (sym same) (u_ok.0, u_ok.1) in
          rw (combine-same a b l h m k same) (IsOrdered-join a _ _
          (StartsAbove-combine a l m ok.4 u_ok.4 ok.0 above.0)
          (StartsAbove-combine a h k ok.5 u_ok.5 ok.1 above.1)
          (Implies-combine l m h k ok.3 u_ok.3)
          (IsOrdered-combine l m ok.4 u_ok.4)
          (IsOrdered-combine h k ok.5 u_ok.5))
      | inr apart ↦ elim apart [
        | inl less ↦ rw (combine-less a b l h m k less) (IsOrdered-join a _ _
            (StartsAbove-combine a l (branch b m k) ok.4 u_ok ok.0 less)
            (StartsAbove-combine a h (branch b m k) ok.5 u_ok ok.1 less)
            (Implies-combine l (branch b m k) h (branch b m k) ok.3 (λ set holds. holds))
            (IsOrdered-combine l (branch b m k) ok.4 u_ok)
            (IsOrdered-combine h (branch b m k) ok.5 u_ok))
        | inr more ↦ rw (combine-more a b l h m k more) (IsOrdered-join b _ _
            (StartsAbove-combine b (branch a l h) m ok u_ok.4 more u_ok.0)
            (StartsAbove-combine b (branch a l h) k ok u_ok.5 more u_ok.1)
            (Implies-combine (branch a l h) m (branch a l h) k (λ set holds. holds) u_ok.3)
            (IsOrdered-combine (branch a l h) m ok u_ok.4)
            (IsOrdered-combine (branch a l h) k ok u_ok.5))
      ]
    ]

-- ### both and either

pub eval-tand : (t u : Tree) (set : List ℕ) → eval (tand t u) set ≡ (eval t set && eval u set)
unfolding tand
eval-tand t u set = eval-combine and_leaf (λ v w. v && w) and_rule t u set

pub eval-tor : (t u : Tree) (set : List ℕ) → eval (tor t u) set ≡ (eval t set || eval u set)
unfolding tor
eval-tor t u set = eval-combine or_leaf (λ v w. v || w) or_rule t u set

pub IsOrdered-tand : (t u : Tree) → IsOrdered t → IsOrdered u → IsOrdered (tand t u)
unfolding tand
IsOrdered-tand t u ok u_ok = IsOrdered-combine and_leaf (λ v w. v && w) and_rule t u ok u_ok

pub IsOrdered-tor : (t u : Tree) → IsOrdered t → IsOrdered u → IsOrdered (tor t u)
unfolding tor
IsOrdered-tor t u ok u_ok = IsOrdered-combine or_leaf (λ v w. v || w) or_rule t u ok u_ok

pub IsOrdered-variable : (a : ℕ) → IsOrdered (variable a)
IsOrdered-variable a = (tt, tt, (λ same. let values : false ≡ true = cc in cc), (λ set holds. refl), tt, tt)
