-- What a selector's text is by the grammar alone, whatever the table of names has.
--     selector = compound { join compound }
--     compound = ( type | `*` | part ) { part }
--     part     = `.` name | `#` name | an attribute part | a pseudo part that is dropped
--     join     = white space | `>`, with white space round it or none
-- Comments may stand anywhere but in a name, and end it. From left to right:
--     Item         what stands next: a part of a compound, a join, or the end
--     item_at      the next one and the bytes behind it, or why the grammar is left there
--     Syntax       the names of each compound, the joins between compounds, and why the text is no selector, if it is none
--     syntax_of    those of a text
use Rattle.std.specs.Prelude.{ℕ, zero, suc, ◌+◌, ◌-◌, nat_lt, Bool, true, false, if◌then◌else◌, List, [], ◌∷◌, length, Option, Some, None, Ok, Err}
use Rattle.std.specs.Option.{ok_or}
use Rattle.sel_text.specs.declared.faults.SelFault.{SelFault}
use Rattle.sel_text.specs.declared.faults.SelFault.TheVariants.{Skipped}
use Rattle.sel_text.specs.declared.faults.Skip.TheVariants.{Long, Bad}
use Rattle.sel_text.specs.declared.faults.TheConstants.{MOST_PARTS}
use Rattle.sel_text.specs.declared.selectors.Join.{Join}
use Rattle.sel_text.specs.Bytes.{behind_gap}
use Rattle.sel_text.specs.Grammar.{Outcome, ◌>>=◌, left_at, Begun, any_part, first_part, Word, part_of, join_at}

-- ---- items

-- a part of a compound, with its name, which `*` and pseudo parts don't have; a join; or the white space and the comments before the end
pub data Item : Type 0 where
  part : Option Word → Item
  joined : Join → Item
  ended : Item

-- the part that begins so
unfoldable pub whole_part : ℕ → Begun → Outcome (Item × List ℕ)
whole_part to b = do
  p ← part_of to b
  Ok (part p.0, p.1)

-- where a compound is wanted: its first part, behind n compounds, of which there may be only so many
unfoldable pub first_item : Bool → ℕ → ℕ → List ℕ → Outcome (Item × List ℕ)
first_item drops to n bs = do
  b ← ok_or (first_part drops bs) (left_at to bs bs)
  if nat_lt n MOST_PARTS then whole_part to b else Err (Skipped Long (to - length bs))

-- behind a part: a join, the end, or a further part of the compound
abbrev pub behind_join : Bool → ℕ → Option Join × List ℕ → Outcome (Item × List ℕ)
behind_join drops to (Some j, bs) = Ok (joined j, bs)
behind_join drops to (None, []) = Ok (ended, [])
behind_join drops to (None, b ∷ bs) = ok_or (any_part drops (b ∷ bs)) (left_at to (b ∷ bs) (b ∷ bs)) >>= λ begun. whole_part to begun

unfoldable pub later_item : Bool → ℕ → List ℕ → Outcome (Item × List ℕ)
later_item drops to bs = join_at to bs >>= λ j. behind_join drops to j

-- behind n finished compounds; `begun` says whether the next one has a part already
unfoldable pub item_at : Bool → ℕ → ℕ → Bool → List ℕ → Outcome (Item × List ℕ)
item_at drops to n begun bs = if begun then later_item drops to bs else first_item drops to n bs

abbrev pub finished_after : ℕ → Item → ℕ
finished_after n (joined j) = n + 1
finished_after n i = n

abbrev pub begun_after : Bool → Item → Bool
begun_after begun (part w) = true
begun_after begun (joined j) = false
begun_after begun ended = begun

-- ---- a text

-- the names of the compound that a text begins in; the joins behind it, and the names of the compound behind each
pub record Syntax : Type 0 where
  pub names : List Word
  pub joins : List Join
  pub others : List (List Word)
  pub fault : Option SelFault

-- a text with an item before it
abbrev pub with_item : Item → Syntax → Syntax
with_item (part None) s = s
with_item (part (Some w)) s = record s { names = w ∷ s.names }
with_item (joined j) s = record { names = []; joins = j ∷ s.joins; others = s.names ∷ s.others; fault = s.fault }
with_item ended s = s

-- what has no item any more
abbrev pub nothing : Option SelFault → Syntax
nothing fault = record { names = []; joins = []; others = []; fault = fault }

abbrev pub then_syntax : Outcome (Item × List ℕ) → (Item → List ℕ → Syntax) → Syntax
then_syntax (Ok (i, rest)) f = with_item i (f i rest)
then_syntax (Err e) f = nothing (Some e)

-- Behind n finished compounds, of which the next one has a part already where `begun` says so. `skip` bytes are left of the last item.
unfoldable pub syntax_from : Bool → ℕ → ℕ → Bool → ℕ → List ℕ → Syntax
syntax_from drops to n begun skip [] = nothing (if begun then None else Some (Skipped Bad to))
syntax_from drops to n begun (suc skip) (b ∷ bs) = syntax_from drops to n begun skip bs
syntax_from drops to n begun zero (b ∷ bs) =
    then_syntax (item_at drops to n begun (b ∷ bs)) (λ i rest. syntax_from drops to (finished_after n i) (begun_after begun i) (length bs - length rest) bs)

-- a text with white space and comments round it
unfoldable pub syntax_of : Bool → ℕ → List ℕ → Syntax
syntax_of drops to text = syntax_from drops to 0 false 0 (behind_gap true 0 text)
