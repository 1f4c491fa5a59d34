-- What is left of a selector matches what the selector matches.
use Rattle.std.proofs.Common.{◌≡◌, ℕ, suc, ◌≤◌, Bool, true, false, List, [], ◌∷◌, ◌++◌, length, take, reverse, Option, Some, None, IsSomeAnd, All, Contains, refl, sym, ap, ◌∙◌, subst, arith, length-append}
use Rattle.std.proofs.lemmas.List.{take-append-le}
use Rattle.std.proofs.lemmas.List.Elements.{All-append}
use Rattle.tree_sem.specs.Trees.{LabelTree, label_at}
use Rattle.tree_sem.specs.Nodes.{IsNode, HasAtoms}
use Rattle.tree_sem.specs.Paths.{parent_of, IsAncestor}
use Rattle.tree_sem.proofs.NodeLemmas.{HasAtoms-none, IsNode-front}
use Rattle.tree_sem.proofs.PathLemmas.{parent_of-child, same_parent}
use Rattle.sel_text.specs.Selectors.{Selector, simple, child, inside}
use Rattle.sel_core.specs.Selectors.{Matches}
use Rattle.sel_core.proofs.UpwardLemmas.{child_matches, inside_matches}
use Rattle.widen_sheet.specs.declared.tokens.Kind.{Kind}
use Rattle.widen_sheet.specs.declared.tokens.Kind.TheVariants.{Judged, Other, Inside, Child, Next, Later}
use Rattle.widen_sheet.specs.Wide.{Wide, MatchesToken, MatchesBack, behind_join, dropped_at, dropped_back, IsWider}

-- ---- paths

-- a node above one is above its siblings
above_sibling : (w p : List ℕ) (j k : ℕ) → IsAncestor w (p ++ j ∷ []) → IsAncestor w (p ++ k ∷ [])
above_sibling w p j k (n, less, is) =
    let one : length (p ++ j ∷ []) ≡ suc (length p) = omega (arith, length-append p (j ∷ [])) in
    let other : length (p ++ k ∷ []) ≡ suc (length p) = omega (arith, length-append p (k ∷ [])) in
    let within : n ≤ length p = omega (arith, less, one) in
    (n, omega (arith, less, one, other), is ∙ take-append-le n p (j ∷ []) within ∙ sym (take-append-le n p (k ∷ []) within))

above_child : (p : List ℕ) (k : ℕ) → IsAncestor p (p ++ k ∷ [])
above_child p k =
    let count : length (p ++ k ∷ []) ≡ suc (length p) = omega (arith, length-append p (k ∷ [])) in
    (length p, omega (arith, count), sym (take-append-le (length p) p (k ∷ []) (omega arith) ∙ whole p))
  where
    whole : (p : List ℕ) → take (length p) p ≡ p
    whole [] = refl
    whole (x ∷ p) = ap (λ (r : List ℕ). x ∷ r) (whole p)

some_same : (p q : List ℕ) → Some p ≡ Some q → p ≡ q
some_same p q is = let same : p ≡ q = cc in same

-- ---- one step

module _ (t : LabelTree) (v : List ℕ) where
  has_both : (xs ys : List ℕ) → HasAtoms t v xs → HasAtoms t v ys → HasAtoms t v (xs ++ ys)
  has_both xs ys = by_label (label_at v t)
    where
      by_label : (o : Option (List ℕ)) → IsSomeAnd o (λ label. All (Contains label) xs) → IsSomeAnd o (λ label. All (Contains label) ys) → IsSomeAnd o (λ label. All (Contains label) (xs ++ ys))
      by_label None one other = one
      by_label (Some label) one other = All-append (Contains label) xs ys one other

  more_atoms : (s : Selector) (as' : List ℕ) → HasAtoms t v as' → Matches t v s → Matches t v (record { subject = s.subject ++ as'; outer = s.outer })
  more_atoms s as' has matches = (has_both s.subject as' matches.0 has, matches.1)

  behind_child : (s : Selector) (u : List ℕ) → IsNode t v → parent_of v ≡ Some u → Matches t u s → Matches t v (behind_join child s)
  behind_child s u node up matches = child_matches t v s (record { atoms = [] }) u up (HasAtoms-none t v node) matches

  behind_inside : (s : Selector) (u : List ℕ) → IsNode t v → IsAncestor u v → Matches t u s → Matches t v (behind_join inside s)
  behind_inside s u node up matches = inside_matches t v s (record { atoms = [] }) u up (HasAtoms-none t v node) matches

-- ---- all steps
module _ (atoms : List ℕ → List ℕ) (means : List ℕ → LabelTree → List ℕ → Bool) (t : LabelTree) where
  -- tokens match the node at v; and where they go, a sibling of it
  pub record AreLeft (ts : Wide) : Type 0 where
    pub stay : (v : List ℕ) → MatchesBack atoms means t v ts → Matches t v (dropped_back atoms false ts)
    pub go : (u p : List ℕ) (j k : ℕ) → u ≡ p ++ j ∷ [] → IsNode t (p ++ k ∷ []) → MatchesBack atoms means t u ts → Matches t (p ++ k ∷ []) (dropped_back atoms true ts)

  by_kind : (k : Kind) (text : List ℕ) (ts : Wide) → AreLeft ts → (v : List ℕ) → MatchesToken atoms means k text t v (λ (u : List ℕ). MatchesBack atoms means t u ts)
      → Matches t v (dropped_at atoms k text false (λ (g : Bool). dropped_back atoms g ts))
  by_kind Judged text ts left v is = more_atoms t v (dropped_back atoms false ts) (atoms text) is.0 (left.stay v is.1)
  by_kind Other text ts left v is = left.stay v is.1
  by_kind Child text ts left v (node, (u, up, is)) = behind_child t v (dropped_back atoms false ts) u node up (left.stay u is)
  by_kind Inside text ts left v (node, (u, up, is)) = behind_inside t v (dropped_back atoms false ts) u node up (left.stay u is)
  by_kind Next text ts left v (node, (u, (p, k, at, here), is)) =
      subst (λ (w : List ℕ). Matches t w (dropped_back atoms true ts)) (sym here) (left.go u p k (suc k) at (subst (IsNode t) here node) is)
  by_kind Later text ts left v (node, (u, (p, j, k, less, at, here), is)) =
      subst (λ (w : List ℕ). Matches t w (dropped_back atoms true ts)) (sym here) (left.go u p j k at (subst (IsNode t) here node) is)

  gone : (c : Kind) (text : List ℕ) (ts : Wide) → AreLeft ts → (u p : List ℕ) (j k : ℕ) → u ≡ p ++ j ∷ [] → IsNode t (p ++ k ∷ []) → MatchesToken atoms means c text t u (λ (w : List ℕ). MatchesBack atoms means t w ts)
      → Matches t (p ++ k ∷ []) (dropped_at atoms c text true (λ (g : Bool). dropped_back atoms g ts))
  gone Judged text ts left u p j k at node is = left.go u p j k at node is.1
  gone Other text ts left u p j k at node is = left.go u p j k at node is.1
  gone Child text ts left u p j k at node (here, (w, up, is)) =
      let same : w ≡ p = some_same w p (sym up ∙ ap parent_of at ∙ parent_of-child p j) in
      behind_child t (p ++ k ∷ []) (dropped_back atoms false ts) p node (parent_of-child p k) (subst (λ (x : List ℕ). Matches t x (dropped_back atoms false ts)) same (left.stay w is))
  gone Inside text ts left u p j k at node (here, (w, up, is)) =
      behind_inside t (p ++ k ∷ []) (dropped_back atoms false ts) w node (above_sibling w p j k (subst (IsAncestor w) at up)) (left.stay w is)
  gone Next text ts left u p j k at node (here, (w, (q, m, before, right), is)) =
      let same : q ≡ p = same_parent q p (suc m) j (sym right ∙ at) in
      left.go w p m k (before ∙ ap (λ (x : List ℕ). x ++ m ∷ []) same) node is
  gone Later text ts left u p j k at node (here, (w, (q, m, n, less, before, right), is)) =
      let same : q ≡ p = same_parent q p n j (sym right ∙ at) in
      left.go w p m k (before ∙ ap (λ (x : List ℕ). x ++ m ∷ []) same) node is

  pub are_left : (ts : Wide) → AreLeft ts
  are_left [] = record {
    stay = λ (v : List ℕ) (node : IsNode t v). (HasAtoms-none t v node, tt);
    go = λ (u p : List ℕ) (j k : ℕ) (at : u ≡ p ++ j ∷ []) (node : IsNode t (p ++ k ∷ [])) (is : IsNode t u).
        behind_inside t (p ++ k ∷ []) (simple []) p node (above_child p k) (HasAtoms-none t p (IsNode-front t p (k ∷ []) node), tt);
  }
  are_left (tok ∷ ts) = let left = are_left ts in record { stay = by_kind tok.kind tok.text ts left; go = gone tok.kind tok.text ts left }

pub is_wider : (t : LabelTree) → IsWider t
is_wider t atoms means v w is = (are_left atoms means t (reverse w)).stay v is
