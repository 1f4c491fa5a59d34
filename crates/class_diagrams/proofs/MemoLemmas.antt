-- What is remembered.
use Rattle.std.proofs.Common.{◌≡◌, Bool, true, ◌&&◌, List, Option, Some, None, Result, Ok, Err, OnOk, OnErr, IfSome, Contains, sym, subst, inl, inr, ◌⊎◌}
use Rattle.std.specs.Map.{lookup}
use Rattle.std.proofs.lemmas.Bool.{and_parts}
use Rattle.lru.specs.LruCache.{LruCache, lru_cache, put_entries}
use Rattle.lru.proofs.CallerLemmas.{Contains-lookup, Contains-put_entries}
use Rattle.class_diagrams.specs.declared.memo.Operation.{Operation}
use Rattle.class_diagrams.specs.declared.memo.Operation.TheVariants.{And, Or}
use Rattle.class_diagrams.specs.declared.memo.Task.{Task}
use Rattle.class_diagrams.specs.declared.refs.Target.{Target}
use Rattle.class_diagrams.specs.contracts.memo.TaskPartialEq as its
use Rattle.class_diagrams.specs.contracts.memo.OperationPartialEq as kinds
use Rattle.class_diagrams.proofs.TableLemmas.{ref_eq, ref_eq-true}

kind_eq-true : (o p : Operation) → kinds.TheImpl.eq-value.it o p ≡ true → o ≡ p
kind_eq-true And And h = λ i. And
kind_eq-true Or Or h = λ i. Or
kind_eq-true And Or h = cc
kind_eq-true Or And h = cc

abbrev pub task_eq : Task → Task → Bool
task_eq = its.TheImpl.eq-value.it

pub task_eq-true : (s t : Task) → task_eq s t ≡ true → s ≡ t
task_eq-true s t h =
    let both : (kinds.TheImpl.eq-value.it s.operation t.operation && (ref_eq s.first t.first && ref_eq s.second t.second)) ≡ true = h in
    let outer = and_parts (kinds.TheImpl.eq-value.it s.operation t.operation) (ref_eq s.first t.first && ref_eq s.second t.second) both in
    let inner = and_parts (ref_eq s.first t.first) (ref_eq s.second t.second) outer.1 in
    let operations = kind_eq-true s.operation t.operation outer.0 in
    let firsts = ref_eq-true s.first t.first inner.0 in
    let seconds = ref_eq-true s.second t.second inner.1 in
    λ i. record { operation = operations i; first = firsts i; second = seconds i }

-- a look-up finds what is remembered
pub recalled : (entries : List (Task × Target)) (task : Task) (o : Option Target) → o ≡ lookup (task_eq task) entries → IfSome o (λ f. Contains entries (task, f))
recalled entries task None h = tt
recalled entries task (Some f) h =
    let found = Contains-lookup (task_eq task) entries f (sym h) in
    let same : found.0 ≡ task = sym (task_eq-true task found.0 found.2) in
    subst (λ t. Contains entries (t, f)) same found.1

-- what is remembered after a result was to be
pub noted : {E : Type 0} (r : Result (Option Target) E) (old new : LruCache Task Target) (task : Task) (f : Target)
    → OnOk r (new ≡ lru_cache (put_entries task_eq old task f) old.cap) → OnErr r (new ≡ old)
    → (entry : Task × Target) → Contains new.entries entry → Contains old.entries entry ⊎ (entry ≡ (task, f))
noted (Ok was) old new task f ok err entry there =
    elim (Contains-put_entries task_eq old task f entry (subst (λ (c : LruCache Task Target). Contains c.entries entry) ok there)) [
      | inl before ↦ inl before
      | inr put ↦ elim put.1 [
        | inl new_key ↦ inr (λ i. (new_key i, put.0 i))
        | inr old_key ↦
            let key : entry.0 ≡ task = sym (task_eq-true task entry.0 old_key.2) in
            inr (λ i. (key i, put.0 i))
      ]
    ]
noted (Err e) old new task f ok err entry there = inl (subst (λ (c : LruCache Task Target). Contains c.entries entry) err there)
