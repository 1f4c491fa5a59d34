-- Settled answers: what the exact replay of their steps leaves of them.
--     IsSettled page stmts system a b   b is said in the place of a
--     AreSettled                        the same, answer by answer
--     IsUnfolded page system a          the answer's proof is valid, and what it shows are the steps that it unfolds to
--     UsedIsExact page stmts system     what is said to be used is so by steps that are legal exactly
use Rattle.std.specs.Prelude.{◌≡◌, ◌⊎◌, ℕ, ◌≤◌, List, [], ◌∷◌, length, Option, Some, None, IfSome}
use Rattle.limits.specs.declared.budgets.TheConstants.{MOST_LIST}
use Rattle.tree_sem.specs.Trees.{LabelTree}
use Rattle.tree_sem.specs.declared.actions.Step.{Step}
use Rattle.jq_sem.specs.Reachability.{AreLegal}
use Rattle.jq_stmts.specs.Sharp.{ExactStatement, wides}
use Rattle.simple_core.specs.declared.system.System.{System}
use Rattle.proof_check.specs.declared.proofs.Proof.{Proof}
use Rattle.proof_check.specs.declared.unfolded.Unfolded.{Unfolded}
use Rattle.proof_check.specs.Unfolding.{passing}
use Rattle.proof_check.specs.Validity.{IsValid}
use Rattle.usage_report.specs.Answers.{Answer, used, maybe}
use Rattle.jq_exact.specs.declared.settling.Outcome.{Outcome}
use Rattle.jq_exact.specs.declared.settling.Outcome.TheVariants.{Kept, Broken, NotShown}
pub use Rattle.jq_exact.specs.Exact.{IsBrokenAt}
use Rattle.jq_exact.specs.Exact.{AreLegalExactly}
use Rattle.jq_exact.specs.Laws.{HasSharpStep}

-- the steps that a proof unfolds to, whatever they lead to
abbrev pub steps_of : System → Proof → LabelTree → List Step
steps_of system proof page = (passing system proof page).0.steps

-- of a proof with a sharp call: the steps that are shown are replayed
abbrev pub IsReplayed : LabelTree → List ExactStatement → Proof → ℕ → Option Unfolded → Answer → Type 0
IsReplayed page stmts proof steps None b = b ≡ maybe proof steps None None
IsReplayed page stmts proof steps (Some u) b =
    ((b ≡ used proof steps (Some u)) × AreLegalExactly page stmts u.steps)
    ⊎ ((i : ℕ) × (b ≡ maybe proof steps (Some u) (Some i)) × IsBrokenAt page stmts u.steps i)

-- each other answer stays
abbrev pub IsSettled : LabelTree → List ExactStatement → System → Answer → Answer → Type 0
IsSettled page stmts system (used proof steps shown) b =
    (HasSharpStep stmts (steps_of system proof page) × IsReplayed page stmts proof steps shown b)
    ⊎ ((¬ HasSharpStep stmts (steps_of system proof page)) × (b ≡ used proof steps shown))
IsSettled page stmts system a b = b ≡ a

abbrev pub AreSettled : LabelTree → List ExactStatement → System → List Answer → List Answer → Type 0
AreSettled page stmts system [] [] = Unit {0}
AreSettled page stmts system (a ∷ old) (b ∷ new) = IsSettled page stmts system a b × AreSettled page stmts system old new
AreSettled page stmts system _ _ = ⊥

-- what `judge` answers is so
abbrev pub IsUnfolded : LabelTree → System → Answer → Type 0
IsUnfolded page system (used proof steps shown) =
    ((target : ℕ) × IsValid system page proof target) × IfSome shown (λ u. (u.steps ≡ steps_of system proof page) × (length u.steps ≤ MOST_LIST))
IsUnfolded page system _ = Unit {0}

-- ---- one answer

-- what a replay of steps came to
abbrev pub IsOutcome : LabelTree → List ExactStatement → List Step → Outcome → Type 0
IsOutcome page stmts steps Kept = AreLegalExactly page stmts steps
IsOutcome page stmts steps (Broken i) = IsBrokenAt page stmts steps i
IsOutcome page stmts steps NotShown = ⊥

-- what is said by it
abbrev pub broken_by : Answer → Option ℕ → Answer
broken_by (used proof steps shown) broken = maybe proof steps shown broken
broken_by a broken = a

abbrev pub settled_by : Answer → Outcome → Answer
settled_by a Kept = a
settled_by a (Broken i) = broken_by a (Some i)
settled_by a NotShown = broken_by a None

-- ---- what is said to be used

-- what is shown are the steps that the proof unfolds to
abbrev pub ShowsAll : System → Proof → LabelTree → Option Unfolded → Type 0
ShowsAll system proof page None = Unit {0}
ShowsAll system proof page (Some u) = u.steps ≡ steps_of system proof page

-- An answer that is `used` after all was so before, and where its steps were legal for the statements that are judged, they are legal exactly.
abbrev pub UsedIsExact : LabelTree → List ExactStatement → System → Type 0
UsedIsExact page stmts system = (a : Answer) (proof : Proof) (steps : ℕ) (shown : Option Unfolded) → IsSettled page stmts system a (used proof steps shown)
    → (a ≡ used proof steps shown)
    × (ShowsAll system proof page shown → AreLegal page (wides stmts) (steps_of system proof page) → AreLegalExactly page stmts (steps_of system proof page))
