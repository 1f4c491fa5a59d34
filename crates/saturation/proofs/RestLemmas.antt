-- Cells grow with the rounds, and stay from a round at rest on.
use Rattle.std.proofs.Common.{◌≡◌, ℕ, zero, suc, ◌+◌, ◌<◌, ◌≤◌, true, length, List, Contains, refl, sym, ap, subst, ◌∙◌, arith, inl, inr}
use Rattle.std.proofs.lemmas.Bool.{cases_lt}
use Rattle.std.specs.List.Sorted.{IsStrictlyIncreasing}
use Rattle.tp_base.specs.Classes.{has_class}
use Rattle.tp_base.proofs.ClassLemmas.{same_members, has_class-Contains, Contains-has_class}
use Rattle.tp_base.proofs.Rising.{All-from_Contains}
use Rattle.tp_base.proofs.Truths.{same_test}
use Rattle.class_diagrams.specs.Trees.{eval, Implies}
use Rattle.class_diagrams.proofs.TreeLemmas.{same_where_agree}
use Rattle.simple_core.specs.declared.system.System.{System}
use Rattle.simple_core.specs.Systems.{IsSound}
use Rattle.simple_core.specs.Rounds.{grown, IsRest}
use Rattle.simple_core.proofs.RoundLemmas.{grown-rises, grown-later}
use Rattle.pushdown_sym.specs.Rounds.{cell, IsAtRest}
use Rattle.pushdown_sym.proofs.CellLemmas.{IsOrdered-cell}
use Rattle.pushdown_sym.proofs.GrownLemmas.{cell_told}
use Rattle.saturation.proofs.SkipLemmas.{skipped, cell-grows}

-- ### cells grow

pub cell-later : (s : System) (k m j a : ℕ) → k ≤ m → Implies (cell s k j a) (cell s m j a)
cell-later s k zero j a le p holds = subst (λ z. eval (cell s z j a) p ≡ true) {x = k} {y = zero} (omega arith) holds
cell-later s k (suc m) j a le p holds = elim (cases_lt m k) [
  | inr within ↦ cell-grows s m j a p (cell-later s k m j a within p holds)
  | inl past ↦ subst (λ z. eval (cell s z j a) p ≡ true) {x = k} {y = suc m} (omega arith) holds
]

-- a cell that has a tree again has had it all the time
pub cell-between : (s : System) (k m j a : ℕ) → k ≤ m → cell s k j a ≡ cell s (suc m) j a → cell s (suc m) j a ≡ cell s m j a
cell-between s k m j a le same =
    same_where_agree (cell s (suc m) j a) (cell s m j a) (IsOrdered-cell s (suc m) j a) (IsOrdered-cell s m j a) (λ p rises.
    same_test (eval (cell s (suc m) j a) p) (eval (cell s m j a) p)
    (λ holds. cell-later s k m j a le p (ap (λ t. eval t p) same ∙ holds))
    (cell-grows s m j a p))

-- ### at rest

rest_once_more : (s : System) → IsSound s → (k : ℕ) → IsAtRest s k → IsAtRest s (suc k)
rest_once_more s sound k rest j a kind = skipped s sound k j a kind (λ i b other read. rest i b other)

pub rest_stays : (s : System) → IsSound s → (k m j a : ℕ) → j < length s.kinds → IsAtRest s k → cell s (k + m) j a ≡ cell s k j a
rest_stays s sound k zero j a kind rest = subst (λ z. cell s z j a ≡ cell s k j a) {x = k} {y = k + zero} (omega arith) refl
rest_stays s sound k (suc m) j a kind rest =
    subst (λ z. cell s z j a ≡ cell s k j a) {x = suc k + m} {y = k + suc m} (omega arith)
    (rest_stays s sound (suc k) m j a kind (rest_once_more s sound k rest) ∙ rest j a kind)

-- what a label has after all rounds is what it has at rest
pub grown_at_rest : (s : System) → IsSound s → (k m i : ℕ) (parent : List ℕ) (a : ℕ) → i < length s.kinds → IsAtRest s k → Contains (grown s m i parent) a → Contains (grown s k i parent) a
grown_at_rest s sound k m i parent a kind rest there =
    (cell_told s sound k i a parent).0
    (ap (λ t. eval t parent) (sym (rest_stays s sound k m i a kind rest))
    ∙ (cell_told s sound (k + m) i a parent).1 (grown-later s i parent m (k + m) (omega arith) a there))

-- the set of the atoms whose cells hold at rest is what the node gets
pub label_at_rest : (s : System) → IsSound s → (k i : ℕ) (parent label : List ℕ) → i < length s.kinds → IsAtRest s k → IsStrictlyIncreasing label
    → ((a : ℕ) → has_class a label ≡ eval (cell s k i a) parent) → IsRest s i parent label
label_at_rest s sound k i parent label kind rest rises has =
    let to = λ (a : ℕ) (there : Contains label a).
    (cell_told s sound k i a parent).0 (sym (has a) ∙ has_class-Contains a label there) in
    let back = λ (a : ℕ) (there : Contains (grown s k i parent) a).
    Contains-has_class a label (has a ∙ (cell_told s sound k i a parent).1 there) in
    record {
      reached = (
        k,
        same_members label (grown s k i parent) rises (grown-rises s k i parent)
            (All-from_Contains (Contains (grown s k i parent)) label to) (All-from_Contains (Contains label) (grown s k i parent) back),
      );
      whole = λ m. All-from_Contains (Contains label) (grown s m i parent) (λ a there. back a (grown_at_rest s sound k m i parent a kind rest there));
    }
