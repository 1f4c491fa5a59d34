-- A chain is evaluated for all nodes that `this` may name at once: each call but one for a first node distributes over unions of sets.
use Rattle.std.proofs.Common.{◌≡◌, ◌↔◌, ◌⊎◌, ℕ, suc, Bool, true, false, IsTrue, List, [], ◌∷◌, ◌++◌, map, Option, Some, None, IsSome, Result, IfOk, refl, sym, ap, ◌∙◌, subst, inl, inr, arith}
use Rattle.std.proofs.lemmas.Bool.{cases_eq, false≢true, or_parts}
use Rattle.tree_sem.specs.Trees.{LabelTree, count_of, node_at}
use Rattle.node_marks.specs.Marks.{IsMarked, mark, path_at}
use Rattle.tp_base.specs.declared.no_memory.NoMemory.{NoMemory}
use Rattle.jq_stmts.specs.declared.chains.Chain as code_chain
use Rattle.jq_stmts.specs.declared.sharp.ExactStmt.{ExactStmt}
use Rattle.jq_sem.specs.Statements.{InRoot}
use Rattle.jq_stmts.specs.Statements.{Root, this}
use Rattle.jq_stmts.specs.Sharp.{ExactCall, plain, closest, siblings, first, ExactChain, ExactStatement}
use Rattle.jq_stmts.specs.SharpViews.{exact_chain, exact_handlers, exact_of}
use Rattle.jq_stmts.specs.Views.{chain_of}
use Rattle.node_marks.proofs.SetLemmas.{marked_node}
use Rattle.jq_sem.proofs.SetLemmas.{on_ok}
use Rattle.jq_sem.proofs.TogetherLemmas.{made_larger, made_union}
use Rattle.jq_exact.specs.declared.evaluation.Named.{Named}
use Rattle.jq_exact.specs.declared.evaluation.Named.TheVariants.{Nothing, Nodes}
use Rattle.jq_exact.specs.Exact.{IsMadeExactly, MadeExactly, stands, InExactly, UnderExactly, SelectedExactly}
use Rattle.jq_exact.specs.Together.{NamedBy, InOne, is_first, asks_first, IsRootSet, FromThis, FromNodes}

-- of sets with the same nodes calls make sets with the same nodes
pub is_made_same : (t : LabelTree) (S L : List ℕ → Type 0) → ((v : List ℕ) → S v ↔ L v) → (c : ExactCall) (v : List ℕ) → IsMadeExactly t S c v → IsMadeExactly t L c v
is_made_same t S L same (plain c) v m = made_larger t S L (λ w. (same w).0) c v m
is_made_same t S L same (closest cs) v m = (m.0, m.1, (same (v ++ m.1)).0 m.2, m.3)
is_made_same t S L same (siblings cs) v m = let o = m.1 in (m.0, (o.0, o.1, o.2, o.3, o.4, (same (o.1 ++ o.3 ∷ [])).0 o.5))
is_made_same t S L same first v m = ((same v).0 m.0, λ w is before. m.1 w ((same w).1 is) before)

pub both_ways : {A B : Type 0} → A ↔ B → B ↔ A
both_ways same = (same.1, same.0)

pub made_same : (t : LabelTree) (S L : List ℕ → Type 0) → ((v : List ℕ) → S v ↔ L v) → (calls : List ExactCall) (v : List ℕ) → MadeExactly t S calls v ↔ MadeExactly t L calls v
made_same t S L same [] v = same v
made_same t S L same (c ∷ earlier) v =
    let before = made_same t S L same earlier in (
      λ m. is_made_same t (MadeExactly t S earlier) (MadeExactly t L earlier) before c v m,
      λ m. is_made_same t (MadeExactly t L earlier) (MadeExactly t S earlier) (λ w. both_ways (before w)) c v m,
    )

module _ (t : LabelTree) (U : Option (List ℕ) → Type 0) (some : (u : Option (List ℕ)) × U u) (S : Option (List ℕ) → List ℕ → Type 0) where
  union_once : (S : Option (List ℕ) → List ℕ → Type 0) (c : ExactCall) → is_first c ≡ false → (v : List ℕ)
      → IsMadeExactly t (λ w. (u : Option (List ℕ)) × U u × S u w) c v ↔ ((u : Option (List ℕ)) × U u × IsMadeExactly t (S u) c v)
  union_once S (plain c) not_first v = made_union t U some S c v
  union_once S (closest cs) not_first v = (λ m. (m.2.0, m.2.1, (m.0, m.1, m.2.2, m.3)), λ m. (m.2.0, m.2.1, (m.0, m.1, m.2.2), m.2.3))
  union_once S (siblings cs) not_first v = (
    λ m. let o = m.1 in let s = o.5 in (s.0, s.1, (m.0, (o.0, o.1, o.2, o.3, o.4, s.2))),
    λ m. let o = m.2.1 in (m.2.0, (o.0, o.1, o.2, o.3, o.4, (m.0, m.1, o.5))),
  )
  union_once S first not_first v = cc

  pub made_of_union : (calls : List ExactCall) → asks_first calls ≡ false → (v : List ℕ) → MadeExactly t (λ w. (u : Option (List ℕ)) × U u × S u w) calls v ↔ ((u : Option (List ℕ)) × U u × MadeExactly t (S u) calls v)
  made_of_union [] none v = (λ m. m, λ m. m)
  made_of_union (c ∷ earlier) none v =
      let parts = or_parts (is_first c) (asks_first earlier) none in
      let A : List ℕ → Type 0 = MadeExactly t (λ w. (u : Option (List ℕ)) × U u × S u w) earlier in
      let B : List ℕ → Type 0 = λ w. (u : Option (List ℕ)) × U u × MadeExactly t (S u) earlier w in
      let same = made_of_union earlier parts.1 in
      let union = union_once (λ u. MadeExactly t (S u) earlier) c parts.0 v in (
        λ m. union.0 (is_made_same t A B same c v m),
        λ m. is_made_same t B A (λ w. both_ways (same w)) c v (union.1 m),
      )

-- ---- roots

-- the node that `this` names, alone
alone : (t : LabelTree) (marks : List Bool) (w : List ℕ) → IsMarked t marks w → (v : List ℕ) → (v ≡ w) ↔ InRoot t (Some w) this v
alone t marks w on v = (
  λ same. (subst (λ z. IsSome (node_at z t)) (sym same) (marked_node t marks w on), ap Some (sym same)),
  λ is. let some : Some w ≡ Some v = is.1 in let same : w ≡ v = cc in sym same,
)

-- all marked nodes, each by its own name
pub by_names : (t : LabelTree) (marks : List Bool) (v : List ℕ) → IsMarked t marks v ↔ ((u : Option (List ℕ)) × NamedBy t (Nodes marks) u × InRoot t u this v)
by_names t marks v = (λ on. (Some v, on, (marked_node t marks v on, refl)), λ m. from m)
  where
    from : ((u : Option (List ℕ)) × NamedBy t (Nodes marks) u × InRoot t u this v) → IsMarked t marks v
    from (None, named, is) = absurd named
    from (Some w, named, is) = let some : Some w ≡ Some v = is.1 in let same : w ≡ v = cc in subst (IsMarked t marks) same named

-- what calls make of the nodes that `this` may name
module _ (t : LabelTree) (calls : List ExactCall) where
  -- outside all handlers it names none
  pub from_nothing : (none m : List Bool) → ((v : List ℕ) → IsMarked t none v ↔ ⊥) → ((v : List ℕ) → IsMarked t m v ↔ MadeExactly t (IsMarked t none) calls v) → (v : List ℕ) → IsMarked t m v ↔ FromThis t Nothing calls v
  from_nothing none m empty made v =
      let same = made_same t (IsMarked t none) (InRoot t None this) (λ w. (λ on. absurd ((empty w).0 on), λ is. let never = is.1 in cc)) calls v in (
        λ on. (None, refl, same.0 ((made v).0 on)),
        λ from. (made v).1 (same.1 (subst (λ u. MadeExactly t (InRoot t u this) calls v) from.1 from.2)),
      )

  -- all at once, where no first node is asked for
  pub from_all : (marks copy m : List Bool) → ((u : Option (List ℕ)) × NamedBy t (Nodes marks) u) → copy ≡ marks → asks_first calls ≡ false → ((v : List ℕ) → IsMarked t m v ↔ MadeExactly t (IsMarked t copy) calls v)
      → (v : List ℕ) → IsMarked t m v ↔ FromThis t (Nodes marks) calls v
  from_all marks copy m some is none made v =
      let named : List ℕ → Type 0 = λ w. (u : Option (List ℕ)) × NamedBy t (Nodes marks) u × InRoot t u this w in
      let made' = subst (λ (z : List Bool). IsMarked t m v ↔ MadeExactly t (IsMarked t z) calls v) is (made v) in
      let same = made_same t (IsMarked t marks) named (by_names t marks) calls v in
      let union = made_of_union t (NamedBy t (Nodes marks)) some (λ u. InRoot t u this) calls none v in
      (λ on. union.0 (same.0 (made'.0 on)), λ from. made'.1 (same.1 (union.1 from)))

  -- each by itself
  pub from_each : (marks m : List Bool) → ((v : List ℕ) → IsMarked t m v ↔ FromNodes t marks calls (count_of t) v) → (v : List ℕ) → IsMarked t m v ↔ FromThis t (Nodes marks) calls v
  from_each marks m made v = (
    λ on.
        let f = (made v).0 on in
        let is : IsMarked t marks (path_at t f.0) = (f.0, f.1, refl, f.2) in
        (Some (path_at t f.0), is, (made_same t (λ w. w ≡ path_at t f.0) (InRoot t (Some (path_at t f.0)) this) (alone t marks (path_at t f.0) is) calls v).0 f.3),
    λ from. (made v).1 (back from),
  )
    where
      back : FromThis t (Nodes marks) calls v → FromNodes t marks calls (count_of t) v
      back (None, named, is) = absurd named
      back (Some w, named, is) =
          let same : (x : List ℕ) → (x ≡ path_at t named.0) ↔ InRoot t (Some w) this x = subst (λ z. (x : List ℕ) → (x ≡ z) ↔ InRoot t (Some w) this x) (sym named.2) (alone t marks w named) in
          (named.0, named.1, named.3, (made_same t (λ x. x ≡ path_at t named.0) (InRoot t (Some w) this) same calls v).1 is)

  -- one node more
  pub no_nodes_yet : (marks none : List Bool) → ((v : List ℕ) → IsMarked t none v ↔ ⊥) → (v : List ℕ) → IsMarked t none v ↔ FromNodes t marks calls 0 v
  no_nodes_yet marks none empty v = (λ on. absurd ((empty v).0 on), λ f. let less = f.1 in absurd (omega (arith, less)))

  pub one_node_more : (marks old new : List Bool) (n : ℕ) → mark marks n ≡ true → ((v : List ℕ) → IsMarked t old v ↔ FromNodes t marks calls n v)
      → ((v : List ℕ) → IsMarked t new v ↔ (IsMarked t old v ⊎ MadeExactly t (λ w. w ≡ path_at t n) calls v)) → (v : List ℕ) → IsMarked t new v ↔ FromNodes t marks calls (suc n) v
  one_node_more marks old new n on before more v = (
    λ m. elim ((more v).0 m) [
      | inl was ↦ let f = (before v).0 was in let less = f.1 in (f.0, omega (arith, less), f.2, f.3)
      | inr now ↦ (n, omega arith, on, now)
    ],
    λ f. elim (cases_eq f.0 n) [
      | inl same ↦ (more v).1 (inr (subst (λ k. MadeExactly t (λ w. w ≡ path_at t k) calls v) same f.3))
      | inr other ↦ let less = f.1 in (more v).1 (inl ((before v).1 (f.0, omega (arith, less, other), f.2, f.3)))
    ],
  )

  pub no_node_more : (marks old : List Bool) (n : ℕ) → mark marks n ≡ false → ((v : List ℕ) → IsMarked t old v ↔ FromNodes t marks calls n v) → (v : List ℕ) → IsMarked t old v ↔ FromNodes t marks calls (suc n) v
  no_node_more marks old n off before v = (
    λ m. let f = (before v).0 m in let less = f.1 in (f.0, omega (arith, less), f.2, f.3),
    λ f. elim (cases_eq f.0 n) [
      | inl same ↦ absurd (false≢true (sym off ∙ ap (mark marks) (sym same) ∙ f.2))
      | inr other ↦ let less = f.1 in (before v).1 (f.0, omega (arith, less, other), f.2, f.3)
    ],
  )

  pub with_one : (made alone more m : List Bool) (n : ℕ) → ((v : List ℕ) → IsMarked t alone v ↔ (v ≡ path_at t n)) → ((v : List ℕ) → IsMarked t more v ↔ MadeExactly t (IsMarked t alone) calls v)
      → ((v : List ℕ) → IsMarked t m v ↔ (IsMarked t made v ⊎ IsMarked t more v)) → (v : List ℕ) → IsMarked t m v ↔ (IsMarked t made v ⊎ MadeExactly t (λ w. w ≡ path_at t n) calls v)
  with_one made one more m n is_one is_more either v =
      let same = made_same t (IsMarked t one) (λ w. w ≡ path_at t n) is_one calls v in (
        λ h. elim ((either v).0 h) [ inl old ↦ inl old | inr new ↦ inr (same.0 ((is_more v).0 new)) ],
        λ h. (either v).1 (elim h [ inl old ↦ inl old | inr new ↦ inr ((is_more v).1 (same.1 new)) ]),
      )

-- ---- chains

module _ (t : LabelTree) (named : Named) (chain : ExactChain) (root : Root) (calls : List ExactCall) (is : stands chain.root chain.calls ≡ (root, calls)) where
  made_by : (u : Option (List ℕ)) (v : List ℕ) → InExactly t u chain v ↔ MadeExactly t (InRoot t u root) calls v
  made_by u v = subst (λ (s : Root × List ExactCall). InExactly t u chain v ↔ MadeExactly t (InRoot t u s.0) s.1 v) is (λ m. m, λ m. m)

  pub chain_from_set : ((u : Option (List ℕ)) × NamedBy t named u) → (begun m : List Bool) → IsRootSet t root (Some begun) → ((v : List ℕ) → IsMarked t m v ↔ MadeExactly t (IsMarked t begun) calls v)
      → (v : List ℕ) → IsMarked t m v ↔ InOne t (NamedBy t named) chain v
  chain_from_set some begun m same made v = (
    λ on. (some.0, some.1, (made_by some.0 v).1 ((made_same t (IsMarked t begun) (InRoot t some.0 root) (same some.0) calls v).0 ((made v).0 on))),
    λ one. (made v).1 ((made_same t (IsMarked t begun) (InRoot t one.0 root) (same one.0) calls v).1 ((made_by one.0 v).0 one.2)),
  )

  pub chain_from_this : root ≡ this → (m : List Bool) → ((v : List ℕ) → IsMarked t m v ↔ FromThis t named calls v) → (v : List ℕ) → IsMarked t m v ↔ InOne t (NamedBy t named) chain v
  chain_from_this is_this m made v = (
    λ on. let f = (made v).0 on in (f.0, f.1, (made_by f.0 v).1 (subst (λ r. MadeExactly t (InRoot t f.0 r) calls v) (sym is_this) f.2)),
    λ one. (made v).1 (one.0, one.1, subst (λ r. MadeExactly t (InRoot t one.0 r) calls v) is_this ((made_by one.0 v).0 one.2)),
  )

pub none_in_chain : (t : LabelTree) (named : Named) (b : Bool) → IsTrue b ↔ ((u : Option (List ℕ)) × NamedBy t named u) → b ≡ false → (chain : ExactChain) (r : Result (List Bool) NoMemory) → IfOk r (λ m. (v : List ℕ) → IsMarked t m v ↔ ⊥)
    → IfOk r (λ m. (v : List ℕ) → IsMarked t m v ↔ InOne t (NamedBy t named) chain v)
none_in_chain t named b test is chain r none =
    on_ok r _ _ (λ m empty v. (λ on. absurd ((empty v).0 on), λ one. let yes : b ≡ true = test.1 (one.0, one.1) in cc)) none

pub named_some : (t : LabelTree) (marks : List Bool) → ((u : Option (List ℕ)) × NamedBy t (Nodes marks) u) → (w : List ℕ) × IsMarked t marks w
named_some t marks (None, named) = absurd named
named_some t marks (Some w, named) = (w, named)

-- ---- statements

-- the handlers that are left, of a statement, from the i-th on
abbrev pub IsLeft : LabelTree → ExactStmt → Named → ℕ → List code_chain.Chain → List ℕ → Type 0
IsLeft t s named i rest v = (u : Option (List ℕ)) × NamedBy t named u × UnderExactly t u (exact_handlers s.sharp i (map chain_of rest)) (exact_chain s.sharp None (chain_of s.wide.chain)) v

pub all_left : (t : LabelTree) (s : ExactStmt) (rest : List code_chain.Chain) → rest ≡ s.wide.handlers → (v : List ℕ) → SelectedExactly t (exact_of s) v ↔ IsLeft t s Nothing 0 rest v
all_left t s rest is v =
    subst (λ (z : List code_chain.Chain). SelectedExactly t (exact_of s) v ↔ IsLeft t s Nothing 0 z v) (sym is)
    (λ m. (None, refl, m), λ m. subst (λ u. UnderExactly t u (exact_of s).handlers (exact_of s).chain v) m.1 m.2)

pub one_handled : (t : LabelTree) (s : ExactStmt) (named : Named) (i j : ℕ) (rest inner : List code_chain.Chain) (h : code_chain.Chain) (marks : List Bool) → rest ≡ h ∷ inner → j ≡ suc i
    → ((v : List ℕ) → IsMarked t marks v ↔ InOne t (NamedBy t named) (exact_chain s.sharp (Some i) (chain_of h)) v)
    → ((v : List ℕ) → SelectedExactly t (exact_of s) v ↔ IsLeft t s named i rest v) → (v : List ℕ) → SelectedExactly t (exact_of s) v ↔ IsLeft t s (Nodes marks) j inner v
one_handled t s named i j rest inner h marks is next made before v =
    let before' = subst (λ (z : List code_chain.Chain). SelectedExactly t (exact_of s) v ↔ IsLeft t s named i z v) is (before v) in
    subst (λ k. SelectedExactly t (exact_of s) v ↔ IsLeft t s (Nodes marks) k inner v) (sym next) (
      λ m. let l = before'.0 m in let under = l.2 in (Some under.0, (made under.0).1 (l.0, l.1, under.1), under.2),
      λ m. before'.1 (from m),
    )
  where
    from : IsLeft t s (Nodes marks) (suc i) inner v → IsLeft t s named i (h ∷ inner) v
    from (None, on, under) = absurd on
    from (Some w, on, under) = let one = (made w).0 on in (one.0, one.1, (w, one.2, under))

pub none_handled : (t : LabelTree) (s : ExactStmt) (named : Named) (i : ℕ) (rest : List code_chain.Chain) (marks : List Bool) → rest ≡ [] → ((v : List ℕ) → SelectedExactly t (exact_of s) v ↔ IsLeft t s named i rest v)
    → ((v : List ℕ) → IsMarked t marks v ↔ InOne t (NamedBy t named) (exact_chain s.sharp None (chain_of s.wide.chain)) v) → (v : List ℕ) → IsMarked t marks v ↔ SelectedExactly t (exact_of s) v
none_handled t s named i [] marks none before made v = (λ on. (before v).1 ((made v).0 on), λ m. (made v).1 ((before v).0 m))
none_handled t s named i (h ∷ rest) marks none before made v = cc

-- the answer for one node
pub selected_at : (t n : LabelTree) (s : ExactStatement) (marks : List Bool) (b : Bool) (v : List ℕ) → n ≡ t → IsTrue b ↔ IsMarked n marks v → ((w : List ℕ) → IsMarked n marks w ↔ SelectedExactly n s w) → IsTrue b ↔ SelectedExactly t s v
selected_at t n s marks b v same test is =
    let here : IsTrue b ↔ SelectedExactly n s v = (λ yes. (is v).0 (test.0 yes), λ one. test.1 ((is v).1 one)) in
    subst (λ (z : LabelTree). IsTrue b ↔ SelectedExactly z s v) same here

-- ---- the calls of a list of numbers

pub made_one_more : (t : LabelTree) (begun old new : List Bool) (c d : ExactCall) (earlier now : List ExactCall) → now ≡ c ∷ earlier → c ≡ d → ((v : List ℕ) → IsMarked t old v ↔ MadeExactly t (IsMarked t begun) earlier v)
    → ((v : List ℕ) → IsMarked t new v ↔ IsMadeExactly t (IsMarked t old) d v) → (v : List ℕ) → IsMarked t new v ↔ MadeExactly t (IsMarked t begun) now v
made_one_more t begun old new c d earlier now is same before made v =
    let S : List ℕ → Type 0 = MadeExactly t (IsMarked t begun) earlier in
    let made' = subst (λ (z : ExactCall). IsMarked t new v ↔ IsMadeExactly t (IsMarked t old) z v) (sym same) (made v) in
    subst (λ (z : List ExactCall). IsMarked t new v ↔ MadeExactly t (IsMarked t begun) z v) (sym is) (
      λ on. is_made_same t (IsMarked t old) S before c v (made'.0 on),
      λ m. made'.1 (is_made_same t S (IsMarked t old) (λ w. both_ways (before w)) c v m),
    )
