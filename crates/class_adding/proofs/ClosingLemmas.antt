-- What closing a page makes of summaries, from what its questions made of them.
use Rattle.std.proofs.Common.{◌≡◌, ◌⊎◌, ◌↔◌, List, Option, Some, None, Result, Ok, Err, IsErrOf, IsErrAnd, OnOk, IsSome, Contains, refl, sym, ◌∙◌, inl, inr, subst}
use Rattle.tree_sem.specs.Trees.{LabelTree}
use Rattle.simple_core.specs.declared.system.System.{System}
use Rattle.simple_core.specs.declared.summaries.Summaries.{Ghosts}
use Rattle.simple_core.specs.declared.summaries.GainFault.{GainFault}
use Rattle.simple_core.specs.declared.summaries.GainFault.TheVariants.{Spent, Memory}
use Rattle.simple_core.specs.Pairs.{Pair, Asked, Needed, wanted}
use Rattle.simple_core.specs.Knowledge.{TellsAfter}
use Rattle.simple_core.proofs.KnowledgeLemmas.{tells_within-start}
use Rattle.simple_core.proofs.RestLemmas.{needed_more}
use Rattle.class_adding.specs.declared.asker.Asker.{Asker}
use Rattle.class_adding.specs.Asking.{Went, TellsSpent}
use Rattle.class_adding.specs.Closing.{MayClose, Closes}
use Rattle.class_adding.proofs.AddedLemmas.{within_more, if_some_more, never_err}
use Rattle.class_adding.proofs.WentLemmas.{err_spent, none_stays}

-- want of memory
abbrev IsRefused : {A : Type 0} → Result A GainFault → Type 0
IsRefused r = IsErrAnd r (λ e. e ≡ Memory)

abbrev answer : {A : Type 0} → A → Result A GainFault
answer x = Ok x

abbrev fault : {A : Type 0} → GainFault → Result A GainFault
fault e = Err e

not_spent : {A : Type 0} (r : Result A GainFault) → IsRefused r → IsErrOf r Spent → ⊥
not_spent (Ok x) memory is = absurd memory
not_spent (Err e) memory is = cc

refused_ok : {A : Type 0} (P : Type 0) (r : Result A GainFault) → IsRefused r → OnOk r P
refused_ok P (Ok x) memory = absurd memory
refused_ok P (Err e) memory = tt

on_ok_more : {A : Type 0} (P Q : Type 0) (r : Result A GainFault) → (P → Q) → OnOk r P → OnOk r Q
on_ok_more P Q (Ok x) more p = more p
on_ok_more P Q (Err e) more p = tt

-- where nothing was asked yet
pub closes_start : {X A : Type 0} (S : Ghosts X) (s : System) (Q : Pair → Type 0) (r : Result A GainFault) (x : X) → IsRefused r → MayClose S s x → Closes S s Q r x x
closes_start S s Q r x memory may = record {
  asked = refused_ok ((q : Pair) → Q q → S.known x q) r memory;
  kept = λ q there. there;
  told = refused_ok (TellsAfter s (S.told x) (S.told x) Q) r memory;
  within = tells_within-start s (S.told x) Q;
  system = refl;
  room = refl;
  keeps_room = may.keeps_room;
  spent = λ none. (λ is. absurd (not_spent r memory is), λ some. let never : IsSome {T = Pair} None = subst (λ (o : Option Pair). IsSome o) none some in cc);
  stays_spent = λ some. refl;
  spent_on = none_stays (S.spent_on x) Q;
}

-- after some questions
pub closes_went : {X A : Type 0} (S : Ghosts X) (Q : Pair → Type 0) (a b : Asker X) (r : Result A GainFault) → MayClose S a.system.now a.sums.now → Went S Q a b → TellsSpent S r a b
    → OnOk r ((q : Pair) → Q q → S.known b.sums.now q) → OnOk r (TellsAfter a.system.now (S.told a.sums.now) (S.told b.sums.now) Q) → Closes S a.system.now Q r a.sums.now b.sums.now
closes_went S Q a b r may w spent asked told = record {
  asked = asked;
  kept = w.kept;
  told = told;
  within = w.within;
  system = w.ready.made ∙ w.same_system ∙ sym may.made;
  room = w.room;
  keeps_room = w.keeps_room may.keeps_room;
  spent = spent;
  stays_spent = w.stays;
  spent_on = w.here;
}

module _ {X A B : Type 0} (S : Ghosts X) (s : System) (Q : Pair → Type 0) (old new : X) where
  -- with another result, of which the same is true
  closes_with : (r : Result A GainFault) (r' : Result B GainFault) → OnOk r' ((q : Pair) → Q q → S.known new q) → OnOk r' (TellsAfter s (S.told old) (S.told new) Q)
      → (S.spent_on old ≡ None → (IsErrOf r' Spent ↔ IsSome (S.spent_on new))) → Closes S s Q r old new → Closes S s Q r' old new
  closes_with r r' asked told spent c = record {
    asked = asked;
    kept = c.kept;
    told = told;
    within = c.within;
    system = c.system;
    room = c.room;
    keeps_room = c.keeps_room;
    spent = spent;
    stays_spent = c.stays_spent;
    spent_on = c.spent_on;
  }

  -- with another answer
  pub closes_on : (x : A) (y : B) → Closes S s Q (answer x) old new → Closes S s Q (answer y) old new
  closes_on x y c =
      closes_with (answer x) (answer y) c.asked c.told
      (λ none. (λ is. absurd (never_err (answer y) y Spent refl is), λ some. absurd (never_err (answer x) x Spent refl ((c.spent none).1 some)))) c

  -- with a refusal that is handed on
  pub closes_err : (r : Result B GainFault) (e : GainFault) → IsErrAnd r (λ x. x ≡ e) → Closes S s Q (fault {A = A} e) old new → Closes S s Q r old new
  closes_err r e is c =
      closes_with (fault {A = A} e) r (given_up ((q : Pair) → Q q → S.known new q)) (given_up (TellsAfter s (S.told old) (S.told new) Q)) (λ none. err_spent {U = A} r e (S.spent_on new) is (c.spent none)) c
    where
      given_up : (P : Type 0) → OnOk r P
      given_up P = elim r as (λ z. IsErrAnd z (λ x. x ≡ e) → OnOk z P) [ Ok x ↦ λ h. absurd h | Err x ↦ λ h. tt ] is

  -- with no memory for what comes behind
  pub closes_refused : (x : A) (r : Result B GainFault) → IsRefused r → Closes S s Q (answer x) old new → Closes S s Q r old new
  closes_refused x r memory c =
      closes_with (answer x) r (refused_ok ((q : Pair) → Q q → S.known new q) r memory) (refused_ok (TellsAfter s (S.told old) (S.told new) Q) r memory)
      (λ none. (λ is. absurd (not_spent r memory is), λ some. absurd (never_err (answer x) x Spent refl ((c.spent none).1 some)))) c

-- after questions that ended with a refusal
pub closes_went_err : {X A B : Type 0} (S : Ghosts X) (Q : Pair → Type 0) (a b : Asker X) (e : GainFault) (r : Result B GainFault) (new : X) → new ≡ b.sums.now → MayClose S a.system.now a.sums.now → Went S Q a b
    → TellsSpent S (fault {A = A} e) a b → IsErrAnd r (λ x. x ≡ e) → Closes S a.system.now Q r a.sums.now new
closes_went_err {X} {A} S Q a b e r new same may w spent is =
    subst (λ z. Closes S a.system.now Q r a.sums.now z) (sym same)
    (closes_err {A = A} S a.system.now Q a.sums.now b.sums.now r e is (closes_went S Q a b (fault {A = A} e) may w spent tt tt))

-- a page that asks the same
needed_alike : (s : System) (P Q : Pair → Type 0) (before : List Pair) → ((q : Pair) → P q → Q q) → (q : Pair) → Needed s (λ r. Contains before r ⊎ P r) q → Needed s (λ r. Contains before r ⊎ Q r) q
needed_alike s P Q before in_Q = needed_more s (λ r. Contains before r ⊎ P r) (λ r. Contains before r ⊎ Q r) (λ q either. wanted q (elim either [ inl old ↦ inl old | inr new ↦ inr (in_Q q new) ]))

after_alike : (s : System) (o n : Option (List Pair)) (P Q : Pair → Type 0) → ((q : Pair) → P q ↔ Q q) → TellsAfter s o n P → TellsAfter s o n Q
after_alike s None n P Q same after = after
after_alike s (Some before) None P Q same after = absurd after
after_alike s (Some before) (Some xs) P Q same after = record {
  different = after.different;
  each = λ q. (λ there. needed_alike s P Q before (λ r. (same r).0) q ((after.each q).0 there), λ needed. (after.each q).1 (needed_alike s Q P before (λ r. (same r).1) q needed));
}

pub closes_alike : {X A : Type 0} (S : Ghosts X) (s : System) (P Q : Pair → Type 0) (r : Result A GainFault) (old new : X) → ((q : Pair) → P q ↔ Q q) → Closes S s P r old new → Closes S s Q r old new
closes_alike S s P Q r old new same c = record {
  asked = on_ok_more ((q : Pair) → P q → S.known new q) ((q : Pair) → Q q → S.known new q) r (λ asked q is. asked q ((same q).1 is)) c.asked;
  kept = c.kept;
  told = on_ok_more (TellsAfter s (S.told old) (S.told new) P) (TellsAfter s (S.told old) (S.told new) Q) r (after_alike s (S.told old) (S.told new) P Q same) c.told;
  within = within_more s (S.told old) (S.told old) (S.told new) P Q (λ q. (same q).0) (tells_within-start s (S.told old) Q) c.within;
  system = c.system;
  room = c.room;
  keeps_room = c.keeps_room;
  spent = c.spent;
  stays_spent = c.stays_spent;
  spent_on = λ none. if_some_more P Q (S.spent_on new) (λ q. (same q).0) (c.spent_on none);
}

-- over the same rules
pub closes_rules : {X A : Type 0} (S : Ghosts X) (t : LabelTree) (s s' : System) (r : Result A GainFault) (old new : X) → s' ≡ s → Closes S s' (Asked s' t) r old new → Closes S s (Asked s t) r old new
closes_rules S t s s' r old new same = subst (λ (z : System). Closes S z (Asked z t) r old new) same
