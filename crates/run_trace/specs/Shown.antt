-- The steps that answers show.
--     IsShownIn o s steps                 they are shown for the selector s
--     IsShownAt items answers n s steps   by the answer of the item n
use Rattle.std.specs.Prelude.{◌≡◌, ℕ, zero, suc, List, [], ◌∷◌, Option, Some}
use Rattle.tree_sem.specs.declared.actions.Step.{Step}
use Rattle.sel_text.specs.Selectors.{Selector}
use Rattle.css_read.specs.Sheets as sheets
use Rattle.proof_check.specs.declared.unfolded.Unfolded.{Unfolded}
use Rattle.usage_report.specs.Answers.{Answer}
use Rattle.run_trace.specs.Traces.{shown_in}

abbrev pub IsShownIn : Option (Selector × Unfolded) → Selector → List Step → Type 0
IsShownIn o s steps = (u : Unfolded) × (o ≡ Some (s, u)) × (u.steps ≡ steps)

abbrev pub IsShownAt : List sheets.Item → List Answer → ℕ → Selector → List Step → Type 0
IsShownAt [] answers n s steps = ⊥
IsShownAt (i ∷ items) [] n s steps = ⊥
IsShownAt (i ∷ items) (a ∷ answers) zero s steps = IsShownIn (shown_in i.outcome a) s steps
IsShownAt (i ∷ items) (a ∷ answers) (suc n) s steps = IsShownAt items answers n s steps
