-- Which fault a call gives.
use Rattle.std.proofs.Common.{◌≡◌, ◌↔◌, ℕ, ◌<◌, ◌≤◌, inl, inr, arith, refl, sym, ◌∙◌, Option, Some, None, IsNone, IsSome, Result, Ok, Err, OnOk, IsErrOf, IsErrAnd}
use Rattle.std.proofs.lemmas.Bool.{cases_lt}
use Rattle.tp_base.proofs.Truths.{not_so}
use Rattle.tree_sem.specs.declared.tree_fault.TreeFault.{TreeFault}
use Rattle.tree_sem.specs.declared.tree_fault.TreeFault.TheVariants.{NoSuchNode, TooManyNodes, Memory}

-- where a node is there, and memory fails, the fault is no other
pub memory_fault : {T X : Type 0} (o : Option X) (x : X) (r : Result T TreeFault) → o ≡ Some x → IsErrAnd r (λ e. e ≡ Memory) → IsErrOf r NoSuchNode ↔ IsNone o
memory_fault o x (Ok v) there is = absurd is
memory_fault o x (Err e) there is = (λ same. let other : NoSuchNode ≡ Memory = cc in cc, λ none. let some : IsNone (Some x) = rw there at none in cc)

-- where a node is there, a call that succeeds gives none
pub no_fault : {T X : Type 0} (o : Option X) (x : X) (v : T) → o ≡ Some x → IsErrOf {T = T} {E = TreeFault} (Ok v) NoSuchNode ↔ IsNone o
no_fault o x v there = (λ same. cc, λ none. let some : IsNone (Some x) = rw there at none in cc)

-- where no node is there, the tree is not said to be full
pub no_node_fault : {T : Type 0} (X P : Type 0) → IsErrOf {T = T} {E = TreeFault} (Err NoSuchNode) TooManyNodes ↔ (IsSome {T = X} None × P)
no_node_fault X P = (λ same. let other : NoSuchNode ≡ TooManyNodes = cc in cc, λ both. let none = both.0 in cc)

-- where a node is there, a full tree is not said to lack it
pub full_fault : {T X : Type 0} (o : Option X) (x : X) → o ≡ Some x → IsErrOf {T = T} {E = TreeFault} (Err TooManyNodes) NoSuchNode ↔ IsNone o
full_fault o x there = (λ same. let other : TooManyNodes ≡ NoSuchNode = cc in cc, λ none. let some : IsNone (Some x) = rw there at none in cc)

-- a count that doesn't fit is past the limit
pub past : (count needed most : ℕ) → count ≡ needed → (needed ≤ most → ⊥) → most < count
past count needed most same not_within = elim (cases_lt most count) [ inl lt ↦ lt | inr le ↦ absurd (not_within (omega arith)) ]

-- what follows where a call succeeds
pub on_ok : {T E : Type 0} (r : Result T E) (P Q : Type 0) → (P → Q) → OnOk r P → OnOk r Q
on_ok (Ok x) P Q follows is = follows is
on_ok (Err e) P Q follows is = tt

-- where memory fails, the tree is not said to be full
pub not_too_many : {T : Type 0} (r : Result T TreeFault) → IsErrAnd r (λ e. e ≡ Memory) → IsErrOf r TooManyNodes → ⊥
not_too_many (Ok v) is same = is
not_too_many (Err e) is same = let other : TooManyNodes ≡ Memory = cc in cc

-- a call that succeeds, where the tree would not be full
pub fits : {T : Type 0} (v : T) (P : Type 0) → (P → ⊥) → IsErrOf {T = T} {E = TreeFault} (Ok v) TooManyNodes ↔ P
fits v P not_so = (λ same. cc, λ p. absurd (not_so p))

-- where a node is there, a call that never misses one gives no such fault
pub not_missing : {T X : Type 0} (o : Option X) (x : X) (r : Result T TreeFault) → o ≡ Some x → (IsErrOf r NoSuchNode → ⊥) → IsErrOf r NoSuchNode ↔ IsNone o
not_missing o x r there never = (λ is. absurd (never is), λ none. let some : IsNone (Some x) = rw there at none in cc)

-- and it says that the tree is full where the table is
pub full_tree : {T X : Type 0} (o : Option X) (x : X) (r : Result T TreeFault) (held count most : ℕ) → o ≡ Some x → count ≡ held → IsErrOf r TooManyNodes ↔ (held ≡ most) → IsErrOf r TooManyNodes ↔ (IsSome o × count ≡ most)
full_tree o x r held count most there same full = (λ is. (rw there refl, same ∙ full.0 is), λ both. full.1 (sym same ∙ both.1))
