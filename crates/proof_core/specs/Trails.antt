-- The state of an unfolding.
use Rattle.std.specs.Prelude.{ℕ, ◌+◌, Option, Some, None, option_map, List, [], ◌∷◌, ◌++◌, if◌then◌else◌, unwrap_or}
use Rattle.simple_core.specs.declared.rules.Kind.{Kind}
use Rattle.proof_core.specs.declared.trails.Trail.{Trail}
use Rattle.proof_core.specs.AddedChildren.{progress_in}
use Rattle.proof_check.specs.Unfolding.{Progress, Passed, with_children, with_step, end_for}

abbrev pub progress_of : Trail → Progress
progress_of trail = progress_in trail.steps.items trail.added.entries

abbrev pub no_progress : Progress
no_progress = record { steps = []; added = λ q. 0 }

-- the state after n more children at v
abbrev pub grown_at : List ℕ → ℕ → Progress → Progress
grown_at v n done = record done { added = with_children v n done.added }

-- the state after the step that brings a kind's forest: at v or, for a `beside` kind, at the child of v with this number
abbrev pub step_of_forest : Kind → List ℕ → ℕ → Progress → Progress
step_of_forest kind v child done = with_step kind.stmt (if kind.beside then v ++ child ∷ [] else v) done

-- the state after this step, unless the kind is below another one and came with its forest
abbrev pub with_forest_of : Kind → List ℕ → ℕ → Progress → Progress
with_forest_of kind v child done = unwrap_or (option_map (λ j. done) kind.above) (grown_at v kind.siblings (step_of_forest kind v child done))

-- the number of the new node of the kind among the children of v, which had `base` children before all steps
abbrev pub number_for : Kind → ℕ → List ℕ → Progress → ℕ
number_for kind base v done = unwrap_or (option_map (λ j. kind.number) kind.above) (base + done.added v + kind.number)

-- an item that names no child
abbrev pub plain_pass : ℕ → List ℕ → Passed
plain_pass atom v = record { atom = atom; child = None; end = v }

-- an item whose child is added; the item with the spawn rule's atom names the child with this number
abbrev pub grown_pass : (ℕ → List ℕ → Progress → Progress × List Passed) → Option Kind → ℕ → ℕ → ℕ → ℕ → List ℕ → ℕ → Progress → Progress × Passed
grown_pass entry_at None atom from e base v child done = (done, plain_pass atom v)
grown_pass entry_at (Some kind) atom from e base v child done =
    let k = number_for kind base v done in
    let inside = entry_at e (v ++ k ∷ []) (with_forest_of kind v child done) in
    (inside.0, record { atom = atom; child = Some k; end = end_for from inside.1 (v ++ k ∷ []) })
