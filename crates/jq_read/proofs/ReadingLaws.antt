-- What holds of all that is read, step by step.
use Rattle.std.proofs.Common.{ℕ, zero, suc, Bool, true, false, if◌then◌else◌, List, [], ◌∷◌, ◌++◌, take, Option, Some, None}
use Rattle.std.specs.Prelude.{Ok, Err, IfOk, IfSome}
use Rattle.std.specs.List.{AllByRecursion}
use Rattle.std.specs.Option.{option_or}
use Rattle.jq_words.specs.Words.{Outcome, ◌>>=◌}

pub any_then : {A B : Type 0} (Q : B → Type 0) (r : Outcome A) (f : A → Outcome B) → ((x : A) → IfOk (f x) Q) → IfOk (r >>= f) Q
any_then Q (Ok x) f q = q x
any_then Q (Err e) f q = tt

pub either : {A : Type 0} (Q : A → Type 0) (b : Bool) (x y : Outcome A) → IfOk x Q → IfOk y Q → IfOk (if b then x else y) Q
either Q true x y p q = p
either Q false x y p q = q

pub all_push : {X : Type 0} (P : X → Type 0) (xs : List X) (x : X) → AllByRecursion P xs → P x → AllByRecursion P (xs ++ x ∷ [])
all_push P [] x all one = (one, tt)
all_push P (y ∷ xs) x all one = (all.0, all_push P xs x all.1 one)

pub all_take : {X : Type 0} (P : X → Type 0) (n : ℕ) (xs : List X) → AllByRecursion P xs → AllByRecursion P (take n xs)
all_take P zero xs all = tt
all_take P (suc n) [] all = tt
all_take P (suc n) (x ∷ xs) all = (all.0, all_take P n xs all.1)

pub first_some : {X : Type 0} (P : X → Type 0) (x y : Option X) → IfSome x P → IfSome y P → IfSome (option_or x y) P
first_some P (Some x) y p q = p
first_some P None y p q = q

pub this_one : {X : Type 0} (P : X → Type 0) (b : Bool) (x : X) → P x → IfSome (if b then Some x else None) P
this_one P true x p = p
this_one P false x p = tt
