-- Reading a selector as the code does it, part by part and each name at once. Only private contracts speak of it; that it comes to the same is a lemma.
--     Draft     what was read so far
--     step      one part more, or one join
--     run       all of a text, and the names in the table then
use Rattle.std.specs.Prelude.{ℕ, zero, suc, ◌-◌, nat_lt, Bool, true, false, if◌then◌else◌, List, [], ◌∷◌, ◌++◌, length, Option, Some, None, Ok, Err}
use Rattle.std.specs.Option.{ok_or}
use Rattle.tp_base.specs.Names.{Named, with_name}
use Rattle.sel_text.specs.declared.faults.SelFault.TheVariants.{Skipped, TooManyAtoms}
use Rattle.sel_text.specs.declared.faults.Skip.TheVariants.{Long, Bad}
use Rattle.sel_text.specs.declared.faults.TheConstants.{MOST_PARTS}
use Rattle.sel_text.specs.declared.selectors.Compound.{Compound}
use Rattle.sel_text.specs.declared.selectors.Join.{Join}
use Rattle.sel_text.specs.Selectors.{Selector}
use Rattle.sel_text.specs.Parts.{selector_from}
use Rattle.sel_text.specs.Grammar.{Outcome, ◌>>=◌, left_at, Begun, any_part, first_part, Word, part_of, join_at}
use Rattle.sel_text.specs.Reading.{Ending, table_name}

-- the names; the finished compounds, each with the join on its right; the atoms of the last compound, and whether it has a part
pub record Draft : Type 0 where
  pub names : List Named
  pub parts : List Compound
  pub joins : List Join
  pub atoms : List ℕ
  pub started : Bool

abbrev pub empty_draft : List Named → Draft
empty_draft names = record { names = names; parts = []; joins = []; atoms = []; started = false }

-- an atom and the names with it, or no room for it
abbrev pub entered : Option (ℕ × List Named) → Outcome (ℕ × List Named)
entered None = Err TooManyAtoms
entered (Some e) = Ok e

-- the draft with one part more
unfoldable pub with_word : Draft → Option Word → Outcome Draft
with_word d None = Ok (record d { started = true })
with_word d (Some w) = do
  e ← entered (with_name d.names (table_name w))
  Ok (record d { names = e.1; atoms = d.atoms ++ e.0 ∷ []; started = true })

-- the draft behind a join
unfoldable pub with_join : Draft → Join → Draft
with_join d j = record d { parts = d.parts ++ (record { atoms = d.atoms }) ∷ []; joins = d.joins ++ j ∷ []; atoms = []; started = false }

-- a part that may begin at these bytes, or the fault
unfoldable pub with_part : ℕ → Draft → Option Begun → List ℕ → Outcome (Draft × List ℕ)
with_part to d begun bs = do
  b ← ok_or begun (left_at to bs bs)
  p ← part_of to b
  e ← with_word d p.0
  Ok (e, p.1)

-- the first part of a compound, of which there may be so many
unfoldable pub first_step : Bool → ℕ → Draft → List ℕ → Outcome (Draft × List ℕ)
first_step drops to d bs = do
  b ← ok_or (first_part drops bs) (left_at to bs bs)
  if nat_lt (length d.parts) MOST_PARTS then with_part to d (Some b) bs else Err (Skipped Long (to - length bs))

-- behind a part
abbrev pub behind_part : Bool → ℕ → Draft → Option Join × List ℕ → Outcome (Draft × List ℕ)
behind_part drops to d (Some j, bs) = Ok (with_join d j, bs)
behind_part drops to d (None, []) = Ok (d, [])
behind_part drops to d (None, b ∷ bs) = with_part to d (any_part drops (b ∷ bs)) (b ∷ bs)

unfoldable pub later_step : Bool → ℕ → Draft → List ℕ → Outcome (Draft × List ℕ)
later_step drops to d bs = join_at to bs >>= λ j. behind_part drops to d j

unfoldable pub step : Bool → ℕ → Draft → List ℕ → Outcome (Draft × List ℕ)
step drops to d bs = if d.started then later_step drops to d bs else first_step drops to d bs

-- the selector, where a compound isn't wanted any more
unfoldable pub finished : ℕ → Draft → Outcome Selector
finished to d = if d.started then Ok (selector_from (d.parts ++ (record { atoms = d.atoms }) ∷ []) d.joins) else Err (Skipped Bad to)

abbrev pub then_run : List Named → Outcome (Draft × List ℕ) → (Draft × List ℕ → Ending Selector) → Ending Selector
then_run names (Ok x) f = f x
then_run names (Err e) f = (names, Err e)

-- From left to right. `skip` bytes are left of the last part or join.
unfoldable pub run : Bool → ℕ → Draft → ℕ → List ℕ → Ending Selector
run drops to d skip [] = (d.names, finished to d)
run drops to d (suc skip) (b ∷ bs) = run drops to d skip bs
run drops to d zero (b ∷ bs) = then_run d.names (step drops to d (b ∷ bs)) (λ r. run drops to r.0 (length bs - length r.1) bs)
