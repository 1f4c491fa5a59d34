-- From which nodes a call leads to a node, by numbers.
use Rattle.std.proofs.Common.{◌≡◌, ◌↔◌, ℕ, zero, suc, ◌<◌, List, [], ◌∷◌, ◌++◌, length, take, map, true, Option, Some, None, Result, Ok, Err, IfOk, inl, inr, refl, sym, ap, ◌∙◌, subst, arith, length-append}
use Rattle.tp_base.specs.declared.no_memory.NoMemory.{NoMemory}
use Rattle.tp_base.proofs.Lists.{take_front}
use Rattle.tree_sem.specs.Trees.{LabelTree}
use Rattle.tree_sem.specs.Nodes.{IsNode}
use Rattle.tree_sem.proofs.NodeLemmas.{IsNode-front}
use Rattle.node_marks.specs.Marks.{IsFree, HasParentIn, HasAncestorIn, HasChildIn, HasDescendantIn, HasOtherIn}
use Rattle.node_marks.specs.Ranks.{under, IsUnder, AreRanked, HasNearestIn}
use Rattle.sel_text.specs.declared.selectors.Compound.{Compound}
use Rattle.sel_text.specs.declared.selectors.Selector as code_selector
use Rattle.sel_text.specs.Selectors.{Selector}
use Rattle.std.proofs.lemmas.Bool.{or_cases}
use Rattle.jq_stmts.specs.declared.chains.Call as code
use Rattle.jq_stmts.specs.declared.chains.Call.TheVariants.{Find, Children, Parent, Parents, Filter, Has, Around, Near, Add, End}
use Rattle.jq_stmts.specs.declared.sharp.SharpKind.{SharpKind}
use Rattle.jq_stmts.specs.declared.sharp.SharpKind.TheVariants as sharp
use Rattle.jq_stmts.specs.SharpViews.{with_kind}
use Rattle.sel_text.specs.Views.{selector_of}
use Rattle.jq_stmts.specs.Views.{atoms_of, call_of}
use Rattle.jq_sem.specs.Statements.{FitsOne, MayFit}
use Rattle.jq_stmts.specs.Statements.{find, children, parent, parents, filter, has, around, near, add}
use Rattle.jq_stmts.specs.Sharp.{plain, closest, siblings, wide_call}
use Rattle.node_marks.proofs.SetLemmas.{marked_node}
use Rattle.jq_stmts.proofs.SharpLemmas.{wide-with_kind}
use Rattle.jq_exact.specs.Firsts.{leads_back, adds, is_parted, parted_or_first, IsBefore}
use Rattle.jq_exact.proofs.FirstLemmas.{added_by}

-- a list, cut before an element
cut : (x : List ℕ) (m : ℕ) → m < length x → (j : ℕ) × (q : List ℕ) × (x ≡ take m x ++ j ∷ q)
cut [] m lt = absurd (omega (arith, lt))
cut (y ∷ x) zero lt = (y, x, refl)
cut (y ∷ x) (suc m) lt = let rest = cut x m (omega (arith, lt)) in (rest.0, rest.1, ap (λ z. y ∷ z) rest.2)

shorter : (w : List ℕ) (j : ℕ) (q : List ℕ) → length w < length (w ++ j ∷ q)
shorter w j q = let long = length-append w (j ∷ q) in omega (arith, long)

module _ (t : LabelTree) (ranks made : List ℕ) (cs : List (List ℕ)) where
  pub before_find : (chosen : List ℕ) → AreRanked t chosen (λ k v. FitsOne t cs v × IsUnder t k ranks v) → AreRanked t made (λ k. HasDescendantIn (IsUnder t k chosen)) → IsBefore t (plain (find cs)) ranks made
  before_find chosen fit over k low w = (
    λ on.
        let h = (over k low w).0 on in
        let x = w ++ h.0 ∷ h.1 in
        let both = (fit k low x).0 h.2 in
        (IsNode-front t w (h.0 ∷ h.1) (marked_node t (under k chosen) x h.2), x, (both.0, length w, shorter w h.0 h.1, take_front w (h.0 ∷ h.1)), both.1),
    λ h.
        let x = h.1 in
        let rest = cut x h.2.1 h.2.2 in
        let whole : x ≡ w ++ rest.0 ∷ rest.1 = rest.2 ∙ ap (λ z. z ++ rest.0 ∷ rest.1) h.2.3 in
        (over k low w).1 (rest.0, rest.1, subst (IsUnder t k chosen) whole ((fit k low x).1 (h.2.0, h.3))),
  )

  pub before_children : (chosen : List ℕ) → AreRanked t chosen (λ k v. MayFit t cs v × IsUnder t k ranks v) → AreRanked t made (λ k. HasChildIn (IsUnder t k chosen)) → IsBefore t (plain (children cs)) ranks made
  before_children chosen fit over k low w = (
    λ on.
        let h = (over k low w).0 on in
        let x = w ++ h.0 ∷ [] in
        let both = (fit k low x).0 h.1 in
        (IsNode-front t w (h.0 ∷ []) (marked_node t (under k chosen) x h.1), x, (both.0, h.0, w, refl, refl), both.1),
    λ h.
        let x = h.1 in
        let whole : x ≡ w ++ h.2.1 ∷ [] = h.2.3 ∙ ap (λ z. z ++ h.2.1 ∷ []) h.2.4 in
        (over k low w).1 (h.2.1, subst (IsUnder t k chosen) whole ((fit k low x).1 (h.2.0, h.3))),
  )

  pub before_parent : (chosen : List ℕ) → AreRanked t chosen (λ k v. MayFit t cs v × IsUnder t k ranks v) → AreRanked t made (λ k v. IsNode t v × HasParentIn (IsUnder t k chosen) v) → IsBefore t (plain (parent cs)) ranks made
  before_parent chosen fit below k low w = (
    λ on. let h = (below k low w).0 on in let both = (fit k low h.1.1).0 h.1.3 in (h.0, h.1.1, (both.0, h.1.0, sym h.1.2), both.1),
    λ h. (below k low w).1 (h.0, (h.2.1, h.1, sym h.2.2, (fit k low h.1).1 (h.2.0, h.3))),
  )

  pub before_parents : (chosen : List ℕ) → AreRanked t chosen (λ k v. MayFit t cs v × IsUnder t k ranks v) → AreRanked t made (λ k v. IsNode t v × HasAncestorIn (IsUnder t k chosen) v) → IsBefore t (plain (parents cs)) ranks made
  before_parents chosen fit below k low w = (
    λ on.
        let h = (below k low w).0 on in
        let x = take h.1.0 w in
        let rest = cut w h.1.0 h.1.1 in
        let both = (fit k low x).0 h.1.2 in
        (h.0, x, (both.0, rest.0, rest.1, sym rest.2), both.1),
    λ h.
        let x = h.1 in
        let front : take (length x) w ≡ x = ap (take (length x)) (sym h.2.3) ∙ take_front x (h.2.1 ∷ h.2.2) in
        (below k low w).1 (h.0, (length x, subst (λ z. length x < length z) h.2.3 (shorter x h.2.1 h.2.2), subst (IsUnder t k chosen) (sym front) ((fit k low x).1 (h.2.0, h.3)))),
  )

  pub before_filter : AreRanked t made (λ k v. FitsOne t cs v × IsUnder t k ranks v) → IsBefore t (plain (filter cs)) ranks made
  before_filter fit k low w = (
    λ on. let both = (fit k low w).0 on in (marked_node t (under k ranks) w both.1, w, (both.0, refl), both.1),
    λ h. (fit k low w).1 (subst (FitsOne t cs) h.2.1 h.2.0, subst (IsUnder t k ranks) h.2.1 h.3),
  )

  pub before_has : AreRanked t made (λ k v. HasDescendantIn (FitsOne t cs) v × IsUnder t k ranks v) → IsBefore t (plain (has cs)) ranks made
  before_has over k low w = (
    λ on. let both = (over k low w).0 on in (marked_node t (under k ranks) w both.1, w, (refl, both.0.0, both.0.1, both.0.2), both.1),
    λ h. (over k low w).1 (subst (HasDescendantIn (FitsOne t cs)) h.2.0 (h.2.1, h.2.2, h.2.3), subst (IsUnder t k ranks) h.2.0 h.3),
  )

  pub before_closest : AreRanked t made (λ k v. IsNode t v × HasNearestIn (FitsOne t cs) (IsUnder t k ranks) v) → IsBefore t (closest cs) ranks made
  before_closest nearest k low w = (
    λ on. let h = (nearest k low w).0 on in (h.0, h.1.0, (h.1.3, h.1.1, sym h.1.2, h.1.4), h.1.5),
    λ h. (nearest k low w).1 (h.0, (h.1, h.2.1, sym h.2.2, h.2.0, h.2.3, h.3)),
  )

  pub before_siblings : (chosen : List ℕ) → AreRanked t chosen (λ k v. MayFit t cs v × IsUnder t k ranks v) → AreRanked t made (λ k v. IsNode t v × HasOtherIn (IsUnder t k chosen) v) → IsBefore t (siblings cs) ranks made
  before_siblings chosen fit beside k low w = (
    λ on.
        let h = (beside k low w).0 on in
        let o = h.1 in
        let x = o.1 ++ o.3 ∷ [] in
        let both = (fit k low x).0 o.5 in
        (h.0, x, (both.0, (o.3, o.1, refl, o.0, (λ same. o.4 (sym same)), sym o.2)), both.1),
    λ h.
        let o = h.2.1 in
        (beside k low w).1 (h.0, (o.3, o.1, sym o.5, o.0, (λ same. o.4 (sym same)), subst (IsUnder t k chosen) o.2 ((fit k low h.1).1 (h.2.0, h.3)))),
  )

-- ---- a set by what says the same of its nodes

module _ (t : LabelTree) (S L : ℕ → List ℕ → Type 0) (same : (k : ℕ) (v : List ℕ) → S k v ↔ L k v) where
  pub ranked_same : (m : List ℕ) → AreRanked t m S → AreRanked t m L
  ranked_same m is k low v = (λ on. (same k v).0 ((is k low v).0 on), λ l. (is k low v).1 ((same k v).1 l))

  pub ok_ranked_same : (r : Result (List ℕ) NoMemory) → IfOk r (λ m. AreRanked t m S) → IfOk r (λ m. AreRanked t m L)
  ok_ranked_same (Ok m) is = ranked_same m is
  ok_ranked_same (Err e) is = tt

-- nodes of a set are those that fit
pub both_same : (A B C : List ℕ → Type 0) → ((v : List ℕ) → A v ↔ B v) → (v : List ℕ) → (A v × C v) ↔ (B v × C v)
both_same A B C same v = (λ h. ((same v).0 h.0, h.1), λ h. ((same v).1 h.0, h.1))

free_same : (A B : List ℕ → Type 0) → ((v : List ℕ) → A v ↔ B v) → (v q : List ℕ) → IsFree A v q → IsFree B v q
free_same A B same v [] free = tt
free_same A B same v (k ∷ q) free = (λ b. free.0 ((same (v ++ k ∷ [])).1 b), free_same A B same (v ++ k ∷ []) q free.1)

pub nearest_same : (N A B C : List ℕ → Type 0) → ((v : List ℕ) → A v ↔ B v) → (v : List ℕ) → (N v × HasNearestIn A C v) ↔ (N v × HasNearestIn B C v)
nearest_same N A B C same v = (
  λ h. let n = h.1 in (h.0, (n.0, n.1, n.2, (same n.0).0 n.3, free_same A B same n.0 n.1 n.4, n.5)),
  λ h. let n = h.1 in (h.0, (n.0, n.1, n.2, (same n.0).1 n.3, free_same B A (λ w. ((same w).1, (same w).0)) n.0 n.1 n.4, n.5)),
)

pub over_same : (A B C D : List ℕ → Type 0) → ((v : List ℕ) → A v ↔ HasDescendantIn B v) → ((v : List ℕ) → B v ↔ D v) → (v : List ℕ) → (A v × C v) ↔ (HasDescendantIn D v × C v)
over_same A B C D over same v = (
  λ h. let d = (over v).0 h.0 in ((d.0, d.1, (same (v ++ d.0 ∷ d.1)).0 d.2), h.1),
  λ h. let d = h.0 in ((over v).1 (d.0, d.1, (same (v ++ d.0 ∷ d.1)).1 d.2), h.1),
)

-- ---- a call that leads back is what it says, or `closest` or `siblings`

pub plain_back : (c : code.Call) (kind : Option SharpKind) → ((cs : List Compound) → c ≡ Around cs → ⊥) → ((cs : List Compound) → c ≡ Near cs → ⊥) → leads_back (with_kind (call_of c) kind) ≡ true → with_kind (call_of c) kind ≡ plain (call_of c)
plain_back c None other beside lead = refl
plain_back (Around cs) kind other beside lead = absurd (other cs refl)
plain_back (Find cs) (Some sharp.Closest) other beside lead = refl
plain_back (Children cs) (Some sharp.Closest) other beside lead = refl
plain_back (Parent cs) (Some sharp.Closest) other beside lead = refl
plain_back (Parents cs) (Some sharp.Closest) other beside lead = refl
plain_back (Has cs) (Some sharp.Closest) other beside lead = refl
plain_back (Near cs) (Some sharp.Closest) other beside lead = refl
plain_back (Add ss) (Some sharp.Closest) other beside lead = refl
plain_back End (Some sharp.Closest) other beside lead = refl
plain_back (Filter cs) (Some sharp.Closest) other beside lead = refl
plain_back (Find cs) (Some sharp.Siblings) other beside lead = refl
plain_back (Children cs) (Some sharp.Siblings) other beside lead = refl
plain_back (Parent cs) (Some sharp.Siblings) other beside lead = refl
plain_back (Parents cs) (Some sharp.Siblings) other beside lead = refl
plain_back (Has cs) (Some sharp.Siblings) other beside lead = refl
plain_back (Near cs) (Some sharp.Siblings) other beside lead = absurd (beside cs refl)
plain_back (Add ss) (Some sharp.Siblings) other beside lead = refl
plain_back End (Some sharp.Siblings) other beside lead = refl
plain_back (Filter cs) (Some sharp.Siblings) other beside lead = refl
plain_back (Find cs) (Some sharp.First) other beside lead = refl
plain_back (Children cs) (Some sharp.First) other beside lead = refl
plain_back (Parent cs) (Some sharp.First) other beside lead = refl
plain_back (Parents cs) (Some sharp.First) other beside lead = refl
plain_back (Has cs) (Some sharp.First) other beside lead = refl
plain_back (Near cs) (Some sharp.First) other beside lead = refl
plain_back (Add ss) (Some sharp.First) other beside lead = refl
plain_back End (Some sharp.First) other beside lead = refl
plain_back (Filter cs) (Some sharp.First) other beside lead = by_atoms (atoms_of cs) lead
  where
    by_atoms : (all : List (List ℕ)) → leads_back (with_kind (filter all) (Some sharp.First)) ≡ true → with_kind (filter all) (Some sharp.First) ≡ plain (filter all)
    by_atoms [] lead = refl
    by_atoms ([] ∷ []) lead = cc
    by_atoms ([] ∷ b ∷ more) lead = refl
    by_atoms ((x ∷ a) ∷ more) lead = refl

pub around_back : (t : LabelTree) (c : code.Call) (cs cs' : List Compound) → cs' ≡ cs → c ≡ Around cs → (kind : Option SharpKind) (ranks : List ℕ) (r : Result (List ℕ) NoMemory) → leads_back (with_kind (call_of c) kind) ≡ true
    → IfOk r (λ m. IsBefore t (closest (atoms_of cs')) ranks m) → IfOk r (λ m. IsBefore t (with_kind (call_of c) kind) ranks m)
around_back t c cs cs' same is kind ranks r lead made =
    subst (λ (x : code.Call). IfOk r (λ m. IsBefore t (with_kind (call_of x) kind) ranks m)) (sym is)
    (by_kind kind (subst (λ (x : code.Call). leads_back (with_kind (call_of x) kind) ≡ true) is lead) (subst (λ z. IfOk r (λ m. IsBefore t (closest (atoms_of z)) ranks m)) same made))
  where
    by_kind : (kind : Option SharpKind) → leads_back (with_kind (around (atoms_of cs)) kind) ≡ true → IfOk r (λ m. IsBefore t (closest (atoms_of cs)) ranks m) → IfOk r (λ m. IsBefore t (with_kind (around (atoms_of cs)) kind) ranks m)
    by_kind None lead made = cc
    by_kind (Some sharp.Closest) lead made = made
    by_kind (Some sharp.Siblings) lead made = cc
    by_kind (Some sharp.First) lead made = cc

pub near_back : (t : LabelTree) (c : code.Call) (cs cs' : List Compound) → cs' ≡ cs → c ≡ Near cs → (kind : Option SharpKind) (ranks : List ℕ) (r : Result (List ℕ) NoMemory) → leads_back (with_kind (call_of c) kind) ≡ true
    → IfOk r (λ m. IsBefore t (siblings (atoms_of cs')) ranks m) → IfOk r (λ m. IsBefore t (with_kind (call_of c) kind) ranks m)
near_back t c cs cs' same is kind ranks r lead made =
    subst (λ (x : code.Call). IfOk r (λ m. IsBefore t (with_kind (call_of x) kind) ranks m)) (sym is)
    (by_kind kind (subst (λ (x : code.Call). leads_back (with_kind (call_of x) kind) ≡ true) is lead) (subst (λ z. IfOk r (λ m. IsBefore t (siblings (atoms_of z)) ranks m)) same made))
  where
    by_kind : (kind : Option SharpKind) → leads_back (with_kind (near (atoms_of cs)) kind) ≡ true → IfOk r (λ m. IsBefore t (siblings (atoms_of cs)) ranks m) → IfOk r (λ m. IsBefore t (with_kind (near (atoms_of cs)) kind) ranks m)
    by_kind None lead made = cc
    by_kind (Some sharp.Closest) lead made = cc
    by_kind (Some sharp.Siblings) lead made = made
    by_kind (Some sharp.First) lead made = cc

-- ---- a call that adds, and the others

pub add_kind : (c : code.Call) (ss ss' : List code_selector.Selector) → ss' ≡ ss → c ≡ Add ss → (kind : Option SharpKind) → plain (add (map selector_of ss')) ≡ with_kind (call_of c) kind
add_kind c ss ss' same is kind = ap (λ z. plain (add (map selector_of z))) same ∙ sym (ap (λ (x : code.Call). with_kind (call_of x) kind) is ∙ by_kind kind)
  where
    by_kind : (kind : Option SharpKind) → with_kind (add (map selector_of ss)) kind ≡ plain (add (map selector_of ss))
    by_kind None = refl
    by_kind (Some sharp.Closest) = refl
    by_kind (Some sharp.Siblings) = refl
    by_kind (Some sharp.First) = refl

is_add : (c : code.Call) (ss : List Selector) → call_of c ≡ add ss → (all : List code_selector.Selector) × (c ≡ Add all)
is_add (Add all) ss e = (all, refl)
is_add (Find cs) ss e = cc
is_add (Children cs) ss e = cc
is_add (Parent cs) ss e = cc
is_add (Parents cs) ss e = cc
is_add (Filter cs) ss e = cc
is_add (Has cs) ss e = cc
is_add (Around cs) ss e = cc
is_add (Near cs) ss e = cc
is_add End ss e = cc

pub parted_back : (c : code.Call) (kind : Option SharpKind) → ((ss : List code_selector.Selector) → c ≡ Add ss → ⊥) → is_parted (with_kind (call_of c) kind) ≡ true → leads_back (with_kind (call_of c) kind) ≡ true
parted_back c kind other parted = elim (or_cases (leads_back (with_kind (call_of c) kind)) (adds (with_kind (call_of c) kind)) parted) [
  | inl lead ↦ lead
  | inr more ↦
      let by = added_by (with_kind (call_of c) kind) more in
      let is = is_add c by.0 (sym (wide-with_kind (call_of c) kind) ∙ ap wide_call by.1) in
      absurd (other is.0 is.1)
]

-- every other call leads back, adds, or asks for a first node
pub leads_by : (c : code.Call) (kind : Option SharpKind) → ((cs : List Compound) → c ≡ Around cs → ⊥) → ((cs : List Compound) → c ≡ Near cs → ⊥) → (c ≡ End → ⊥)
    → parted_or_first (with_kind (call_of c) kind ∷ []) ≡ true
leads_by (Around cs) kind a n e = absurd (a cs refl)
leads_by (Near cs) kind a n e = absurd (n cs refl)
leads_by (Add ss) None a n e = refl
leads_by (Add ss) (Some sharp.Closest) a n e = refl
leads_by (Add ss) (Some sharp.Siblings) a n e = refl
leads_by (Add ss) (Some sharp.First) a n e = refl
leads_by End kind a n e = absurd (e refl)
leads_by (Find cs) None a n e = refl
leads_by (Find cs) (Some sharp.Closest) a n e = refl
leads_by (Find cs) (Some sharp.Siblings) a n e = refl
leads_by (Find cs) (Some sharp.First) a n e = refl
leads_by (Children cs) None a n e = refl
leads_by (Children cs) (Some sharp.Closest) a n e = refl
leads_by (Children cs) (Some sharp.Siblings) a n e = refl
leads_by (Children cs) (Some sharp.First) a n e = refl
leads_by (Parent cs) None a n e = refl
leads_by (Parent cs) (Some sharp.Closest) a n e = refl
leads_by (Parent cs) (Some sharp.Siblings) a n e = refl
leads_by (Parent cs) (Some sharp.First) a n e = refl
leads_by (Parents cs) None a n e = refl
leads_by (Parents cs) (Some sharp.Closest) a n e = refl
leads_by (Parents cs) (Some sharp.Siblings) a n e = refl
leads_by (Parents cs) (Some sharp.First) a n e = refl
leads_by (Has cs) None a n e = refl
leads_by (Has cs) (Some sharp.Closest) a n e = refl
leads_by (Has cs) (Some sharp.Siblings) a n e = refl
leads_by (Has cs) (Some sharp.First) a n e = refl
leads_by (Filter cs) None a n e = refl
leads_by (Filter cs) (Some sharp.Closest) a n e = refl
leads_by (Filter cs) (Some sharp.Siblings) a n e = refl
leads_by (Filter cs) (Some sharp.First) a n e = by_atoms (atoms_of cs)
  where
    by_atoms : (all : List (List ℕ)) → parted_or_first (with_kind (filter all) (Some sharp.First) ∷ []) ≡ true
    by_atoms [] = refl
    by_atoms ([] ∷ []) = refl
    by_atoms ([] ∷ b ∷ more) = refl
    by_atoms ((x ∷ a) ∷ more) = refl
