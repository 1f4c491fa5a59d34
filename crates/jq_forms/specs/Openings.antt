-- The form of a statement, decided by its first words.
use Rattle.std.specs.Prelude.{ℕ, ◌&&◌, ◌||◌, not, Bool, if◌then◌else◌, List, [], ◌∷◌, codes}
use Rattle.jq_words.specs.Words.{Word, is_mark, is_name, is_any_name, is_mark_among, is_name_among, fits, first_is, begins, begins_name}
use Rattle.jq_cursor.specs.Keywords.{jquery}
use Rattle.jq_forms.specs.declared.forms.StatementForm.{StatementForm}
use Rattle.jq_forms.specs.declared.forms.StatementForm.TheVariants as form

abbrev pub declaring : List (List ℕ)
declaring = codes "var" ∷ codes "let" ∷ codes "const" ∷ []

abbrev pub timers : List (List ℕ)
timers = codes "setTimeout" ∷ codes "setInterval" ∷ []

abbrev pub setting : List (List ℕ)
setting = codes "=" ∷ codes "+=" ∷ codes "-=" ∷ []

abbrev pub stepping : List (List ℕ)
stepping = codes "++" ∷ codes "--" ∷ []

-- a name that is no word of the grammar at the front of a statement
abbrev pub is_own_name : Word → Bool
is_own_name w = is_any_name w && not (is_name_among jquery w) && not (is_name_among timers w)

-- the form of a statement that begins with these words, the first of which may be bound to a chain
unfoldable pub form_of : Bool → List Word → StatementForm
form_of bound ws =
    if begins (codes ";") ws then form.Empty
    else if begins (codes "{") ws then form.Block
    else if first_is (is_name_among declaring) ws then form.Declaration
    else if begins_name (codes "function") ws then form.Function
    else if begins_name (codes "if") ws then form.Branch
    else if begins_name (codes "return") ws then form.Return
    else if fits (is_name_among jquery ∷ is_mark (codes "(") ∷ is_name (codes "function") ∷ []) ws then form.Start
    else if fits (is_name_among jquery ∷ is_mark (codes "(") ∷ is_name (codes "document") ∷ is_mark (codes ")") ∷ is_mark (codes ".") ∷ is_name (codes "ready") ∷ []) ws then form.Ready
    else if fits (is_name_among jquery ∷ is_mark (codes "(") ∷ []) ws then form.Chain
    else if fits (is_name_among jquery ∷ is_mark (codes ".") ∷ is_any_name ∷ []) ws then form.Foreign
    else if fits (is_name_among timers ∷ is_mark (codes "(") ∷ []) ws then form.Timer
    else if fits (is_own_name ∷ (λ w. is_mark_among setting w || is_mark_among stepping w) ∷ []) ws then form.Set
    else if fits (is_own_name ∷ is_mark (codes ".") ∷ []) ws && bound then form.Chain
    else if fits (is_mark (codes "(") ∷ is_name (codes "function") ∷ []) ws then form.Once
    else form.Free
