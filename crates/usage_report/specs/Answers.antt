-- Answers for selectors, and what of them is said.
--     line_of a      an answer without its proof
use Rattle.std.specs.Prelude.{ℕ, Option, option_map}
use Rattle.sel_text.specs.declared.faults.Skip.{Skip}
use Rattle.proof_check.specs.declared.proofs.Proof.{Proof}
use Rattle.proof_check.specs.declared.unfolded.Unfolded.{Unfolded}
use Rattle.usage_report.specs.Lines.{Shown, Line}
use Rattle.usage_report.specs.Lines as says

-- A selector is used by a proof of so many steps, which may be shown, or by one that was too large. It may be used by one of whose steps
-- one isn't legal by the calls that a statement has, or that weren't replayed. It is unused; it is skipped for a cause at an offset of
-- the sheet; or it was not found out.
pub data Answer : Type 0 where
  used : (proof : Proof) (steps : ℕ) (shown : Option Unfolded) → Answer
  maybe : (proof : Proof) (steps : ℕ) (shown : Option Unfolded) (broken : Option ℕ) → Answer
  used_unshown : Answer
  unused : Answer
  skipped : (cause : Skip) (at : ℕ) → Answer
  spent : Answer

abbrev pub shown_by : Unfolded → Shown
shown_by u = record { steps = u.steps; at = u.at }

abbrev pub shown_of : Option Unfolded → Option Shown
shown_of shown = option_map shown_by shown

abbrev pub line_of : Answer → Line
line_of (used proof steps shown) = says.used steps (shown_of shown)
line_of (maybe proof steps shown broken) = says.maybe steps (shown_of shown) broken
line_of used_unshown = says.used_unshown
line_of unused = says.unused
line_of (skipped cause at) = says.skipped cause at
line_of spent = says.spent
