-- What is written to one tie.
use Rattle.std.proofs.Common.{◌≡◌, ◌⊎◌, ℕ, ◌-◌, Bool, true, false, not, is_some, List, [], ◌∷◌, ◌++◌, length, take, get_or, Option, Some, None, IfSome, Result, Ok, Err, OnOk, OnErr, slice_get, slice_set, inl, inr, refl, sym, ap, ◌∙◌, subst, arith}
use Rattle.std.proofs.lemmas.Option.{get_or_from_slice_get}
use Rattle.tp_base.specs.Classes.{with_class}
use Rattle.tree_sem.specs.Paths.{parent_of}
use Rattle.tree_sem.proofs.PathLemmas.{parent_of-child, parent_of-take}
use Rattle.proof_needs.specs.declared.spots.Spot.{Spot}
use Rattle.proof_needs.specs.declared.spots.Spot.TheVariants.{Added}
use Rattle.proof_needs.specs.declared.spots.Want.{Want}
use Rattle.proof_needs.specs.declared.needs.Tie.{Tie}
use Rattle.proof_needs.specs.Following.{IsAbove, IsUsed, IsAboveSome, IsUsedSome, IsParentOf}
use Rattle.proof_needs.specs.Sets.{IsWith, IsWithSome}
use Rattle.proof_needs.specs.Wants.{want_of, IsOfEach, IsAtEach}
use Rattle.proof_needs.proofs.SetLemmas.{with_then, some_of, some_none, some_then, some_such}

-- the tie that was lent is that of the list
lent : (ties : List Tie) (n : ℕ) (tie was : Tie) → slice_get ties n ≡ Some tie → was ≡ get_or ties n was → was ≡ tie
lent ties n tie was at is = is ∙ get_or_from_slice_get ties n tie was at

pub above_is : (ties : List Tie) (n from : ℕ) (tie was now : Tie) (users : List Spot) (wants wants' : List Want) → slice_get ties n ≡ Some tie → was ≡ get_or ties n was → now.above ≡ with_class from was.above → now.users.items ≡ was.users.items → users ≡ was.users.items
    → IsWith wants (IsAtEach users from) wants' → IsAbove n from tie ties (slice_set ties n now) wants wants'
above_is ties n from tie was now users wants wants' at is above same its_users of_wants =
    let e = lent ties n tie was at is in record {
      now = now;
      ties_is = refl;
      users = same ∙ ap (λ (z : Tie). z.users.items) e;
      above = above ∙ ap (λ (z : Tie). with_class from z.above) e;
      of_wants = subst (λ z. IsWith wants (IsAtEach z from) wants') (its_users ∙ ap (λ (z : Tie). z.users.items) e) of_wants;
    }

pub used_is : (ties : List Tie) (n from needs : ℕ) (spot : Spot) (tie was now : Tie) (wants wants₁ wants₂ wants' : List Want) → slice_get ties n ≡ Some tie → was ≡ get_or ties n was → now.above ≡ was.above → now.users.items ≡ was.users.items ++ spot ∷ []
    → IsWith wants (λ w. w ≡ want_of spot needs) wants₁ → IsWith wants₁ (λ w. w ≡ want_of (Added n) from) wants₂ → IsWith wants₂ (IsOfEach spot was.above) wants' → IsUsed n from needs spot tie ties (slice_set ties n now) wants wants'
used_is ties n from needs spot tie was now wants wants₁ wants₂ wants' at is above users first second third =
    let e = lent ties n tie was at is in record {
      now = now;
      ties_is = refl;
      users = users ∙ ap (λ (z : Tie). z.users.items ++ spot ∷ []) e;
      above = above ∙ ap (λ (z : Tie). z.above) e;
      of_wants = subst (λ (z : Tie). IsWith wants (λ w. (w ≡ want_of spot needs) ⊎ ((w ≡ want_of (Added n) from) ⊎ IsOfEach spot z.above w)) wants') e
          (with_then (λ w. w ≡ want_of spot needs) (λ w. (w ≡ want_of (Added n) from) ⊎ IsOfEach spot was.above w) wants wants₁ wants' first (with_then (λ w. w ≡ want_of (Added n) from) (IsOfEach spot was.above) wants₁ wants₂ wants' second third));
    }

-- a want of memory before the tie is written, and behind
module _ (ties : List Tie) (n from : ℕ) (tie was now : Tie) (at : slice_get ties n ≡ Some tie) (is : was ≡ get_or ties n was) (wants wants' : List Want) where
  pub above_kept : now.above ≡ was.above → now.users.items ≡ was.users.items → wants' ≡ wants → IsAboveSome n from tie ties (slice_set ties n now) wants wants'
  above_kept above users same =
      let e = lent ties n tie was at is in record {
        now = now;
        ties_is = refl;
        users = users ∙ ap (λ (z : Tie). z.users.items) e;
        cases = inl (above ∙ ap (λ (z : Tie). z.above) e, same);
      }

  pub above_some : (users : List Spot) → now.above ≡ with_class from was.above → now.users.items ≡ was.users.items → users ≡ was.users.items → IsWithSome wants (IsAtEach users from) wants' → IsAboveSome n from tie ties (slice_set ties n now) wants wants'
  above_some users above same its_users of_wants =
      let e = lent ties n tie was at is in record {
        now = now;
        ties_is = refl;
        users = same ∙ ap (λ (z : Tie). z.users.items) e;
        cases = inr (above ∙ ap (λ (z : Tie). with_class from z.above) e, subst (λ z. IsWithSome wants (IsAtEach z from) wants') (its_users ∙ ap (λ (z : Tie). z.users.items) e) of_wants);
      }

  module _ (needs : ℕ) (spot : Spot) (above : now.above ≡ was.above) where
    pub used_kept : now.users.items ≡ was.users.items → wants' ≡ wants → IsUsedSome n from needs spot tie ties (slice_set ties n now) wants wants'
    used_kept users same =
        let e = lent ties n tie was at is in record {
          now = now;
          ties_is = refl;
          above = above ∙ ap (λ (z : Tie). z.above) e;
          cases = inl (users ∙ ap (λ (z : Tie). z.users.items) e, same);
        }

    abbrev IsOwed : List ℕ → Want → Type 0
    IsOwed asked w = (w ≡ want_of spot needs) ⊎ ((w ≡ want_of (Added n) from) ⊎ IsOfEach spot asked w)

    used_some : now.users.items ≡ was.users.items ++ spot ∷ [] → IsWithSome wants (IsOwed was.above) wants' → IsUsedSome n from needs spot tie ties (slice_set ties n now) wants wants'
    used_some users of_wants =
        let e = lent ties n tie was at is in record {
          now = now;
          ties_is = refl;
          above = above ∙ ap (λ (z : Tie). z.above) e;
          cases = inr (users ∙ ap (λ (z : Tie). z.users.items ++ spot ∷ []) e, subst (λ (z : Tie). IsWithSome wants (IsOwed z.above) wants') e of_wants);
        }

    -- none of the wants was added, the first, the first two, and some of the last
    pub used_first : now.users.items ≡ was.users.items ++ spot ∷ [] → wants' ≡ wants → IsUsedSome n from needs spot tie ties (slice_set ties n now) wants wants'
    used_first users same = used_some users (some_none (IsOwed was.above) wants wants' same)

    pub used_second : (wants₁ : List Want) → now.users.items ≡ was.users.items ++ spot ∷ [] → IsWith wants (λ w. w ≡ want_of spot needs) wants₁ → wants' ≡ wants₁ → IsUsedSome n from needs spot tie ties (slice_set ties n now) wants wants'
    used_second wants₁ users first same =
        used_some users (subst (IsWithSome wants (IsOwed was.above)) (sym same)
        (some_such (λ w. w ≡ want_of spot needs) (IsOwed was.above) wants wants₁ (λ w is. inl is) (some_of (λ w. w ≡ want_of spot needs) wants wants₁ first)))

    pub used_third : (wants₁ wants₂ : List Want) → now.users.items ≡ was.users.items ++ spot ∷ [] → IsWith wants (λ w. w ≡ want_of spot needs) wants₁ → IsWith wants₁ (λ w. w ≡ want_of (Added n) from) wants₂
        → IsWithSome wants₂ (IsOfEach spot was.above) wants' → IsUsedSome n from needs spot tie ties (slice_set ties n now) wants wants'
    used_third wants₁ wants₂ users first second third =
        used_some users (some_then (λ w. w ≡ want_of spot needs) (λ w. (w ≡ want_of (Added n) from) ⊎ IsOfEach spot was.above w) wants wants₁ wants' first
        (some_then (λ w. w ≡ want_of (Added n) from) (IsOfEach spot was.above) wants₁ wants₂ wants' second third))

-- the path of the parent
pub parent_is : (v p above up : List ℕ) → above ≡ v → up ≡ take (length above - 1) above → parent_of v ≡ Some p → up ≡ p
parent_is [] p above up same cut is = cc
parent_is (k ∷ v) p above up same cut is =
    let shorter : up ≡ take (length (k ∷ v) - 1) (k ∷ v) = cut ∙ ap (λ z. take (length z - 1) z) same in
    let other : Some (take (length (k ∷ v) - 1) (k ∷ v)) ≡ Some p = sym (parent_of-take (k ∷ v) (omega arith)) ∙ is in
    shorter ∙ (let e : take (length (k ∷ v) - 1) (k ∷ v) ≡ p = cc in e)

pub is_parent : (nodes : List (List ℕ)) (n : ℕ) (above up : List ℕ) (k : ℕ) → ((v : List ℕ) → slice_get nodes n ≡ Some v → above ≡ v) → above ≡ up ++ k ∷ [] → (u : List ℕ) → u ≡ up → IsParentOf nodes n u
is_parent nodes n above up k path is u same v at =
    subst (λ z. parent_of z ≡ Some u) (sym is ∙ path v at) (parent_of-child up k ∙ ap Some (sym same))

-- the last step of a path that isn't empty
pub last_step : (o : Option ℕ) (b : Bool) (P : ℕ → Type 0) → is_some o ≡ not b → b ≡ false → IfSome o P → (k : ℕ) × P k
last_step (Some k) b P is some last = (k, last)
last_step None b P is some last = let clash : false ≡ true = is ∙ ap not some in cc

-- what a success says, and a refusal
pub on_ok : {V E : Type 0} {P Q : Type 0} (r : Result V E) → (P → Q) → OnOk r P → OnOk r Q
on_ok (Ok v) f h = f h
on_ok (Err e) f h = tt

pub on_err : {V E : Type 0} (P : Type 0) (r : Result V E) → P → OnErr r P
on_err P (Ok v) p = tt
on_err P (Err e) p = p

pub err_then : {V E : Type 0} {P Q : Type 0} (r : Result V E) → (P → Q) → OnErr r P → OnErr r Q
err_then (Ok v) f h = tt
err_then (Err e) f h = f h
