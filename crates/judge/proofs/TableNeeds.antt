-- What a table that closed a page knows, against the pairs that the page needs.
use Rattle.std.proofs.Common.{◌≡◌, ◌⊎◌, ◌↔◌, ℕ, ◌≤◌, List, [], length, Option, Some, None, Result, Ok, Err, IsErrOf, OnOk, OnErr, IsSome, IfSome, Contains, sym, inl, inr, arith, subst}
use Rattle.tp_base.proofs.Rising.{Contains-none}
use Rattle.tree_sem.specs.Trees.{LabelTree}
use Rattle.simple_core.specs.declared.system.System.{System}
use Rattle.simple_core.specs.declared.summaries.GainFault.{GainFault}
use Rattle.simple_core.specs.declared.summaries.GainFault.TheVariants.{Spent}
use Rattle.simple_core.specs.Pairs.{Pair, Asked, Needed, wanted, HasMore, IsAllOf}
use Rattle.simple_core.specs.Knowledge.{TellsAfter, TellsWithin}
use Rattle.simple_core.proofs.RestLemmas.{needed_more}
use Rattle.simple_core.proofs.PairLemmas.{has_more_is, has_more_of}

module _ (s : System) (page : LabelTree) where
  -- what is asked of a table that had no pair
  abbrev AskedAnew : Pair → Type 0
  AskedAnew q = Contains {X = Pair} [] q ⊎ Asked s page q

  anew_is : (q : Pair) → Needed s AskedAnew q → Needed s (Asked s page) q
  anew_is = needed_more s AskedAnew (Asked s page) (λ q either. elim either [
    | inl none ↦ absurd (Contains-none {X = Pair} q none)
    | inr asked ↦ wanted q asked
  ])

  is_anew : (q : Pair) → Needed s (Asked s page) q → Needed s AskedAnew q
  is_anew = needed_more s (Asked s page) AskedAnew (λ q asked. wanted q (inr asked))

  -- a table that has all of them within its limit
  no_more : (known : List Pair) (pairs : ℕ) → IsAllOf (Needed s AskedAnew) known → length known ≤ pairs → ¬ HasMore (Needed s (Asked s page)) pairs
  no_more known pairs all few more =
      let many = (has_more_is (Needed s AskedAnew) known pairs all).0 (has_more_of (Needed s (Asked s page)) (Needed s AskedAnew) pairs is_anew more) in
      absurd (omega (arith, many, few))

  -- a table that needs more for a pair that was asked
  more_needed : (known : List Pair) (q : Pair) (pairs : ℕ) → ((r : Pair) → Contains known r → Needed s AskedAnew r) → Asked s page q
      → HasMore (Needed s (λ r. Contains known r ⊎ (r ≡ q))) pairs → HasMore (Needed s (Asked s page)) pairs
  more_needed known q pairs within asked =
      has_more_of (Needed s (λ r. Contains known r ⊎ (r ≡ q))) (Needed s (Asked s page)) pairs
      (needed_more s (λ r. Contains known r ⊎ (r ≡ q)) (Asked s page) (λ r either. elim either [
        | inl there ↦ anew_is r (within r there)
        | inr same ↦ subst (λ (z : Pair). Needed s (Asked s page) z) (sym same) (wanted q asked)
      ]))

  -- The page was closed by a table that had no pair, and keeps to its limit.
  pub closed_within : {X : Type 0} (r : Result X GainFault) (old known : List Pair) (pairs : ℕ) → old ≡ [] → OnOk r (TellsAfter s (Some old) (Some known) (Asked s page)) → length known ≤ pairs
      → OnOk r (¬ HasMore (Needed s (Asked s page)) pairs)
  closed_within (Ok x) old known pairs none told few =
      no_more known pairs (subst (λ (z : List Pair). IsAllOf (Needed s (λ q. Contains z q ⊎ Asked s page q)) known) none told) few
  closed_within (Err e) old known pairs none told few = tt

  -- The table was spent.
  pub spent_needs : {X : Type 0} (r : Result X GainFault) (old known : List Pair) (pairs' pairs : ℕ) (spent : Option Pair) → pairs' ≡ pairs → old ≡ []
      → IsErrOf r Spent → OnErr r (TellsWithin s (Some old) (Some known) (Asked s page)) → (IsErrOf r Spent ↔ IsSome spent) → IfSome spent (λ q. Asked s page q)
      → IfSome spent (λ q. HasMore (Needed s (λ r. Contains known r ⊎ (r ≡ q))) pairs') → HasMore (Needed s (Asked s page)) pairs
  spent_needs r old known pairs' pairs None same none is within both asked more = absurd (let h : IsSome {T = Pair} None = both.0 is in cc)
  spent_needs r old known pairs' pairs (Some q) same none is within both asked more =
      let told : (x : Pair) → Contains known x → Needed s (λ y. Contains old y ⊎ Asked s page y) x = subst (λ z. OnErr z (TellsWithin s (Some old) (Some known) (Asked s page))) is within in
      let told' : (x : Pair) → Contains known x → Needed s AskedAnew x = subst (λ (z : List Pair). (x : Pair) → Contains known x → Needed s (λ y. Contains z y ⊎ Asked s page y) x) none told in
      more_needed known q pairs told' asked (subst (λ z. HasMore (Needed s (λ r. Contains known r ⊎ (r ≡ q))) z) same more)
