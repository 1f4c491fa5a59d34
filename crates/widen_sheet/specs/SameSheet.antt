-- What a widened sheet has in common with the sheet, where both are read.
--     wide_item        what a selector of a sheet is, where it is widened
--     AreSameItems     equally many selectors, in the same order and in the same rules; each is read as what is left of it
--     IsSameSheet      they are so, and the rules are the same, in the same at-rules
use Rattle.std.specs.Prelude.{◌≡◌, ℕ, nat_le, if◌then◌else◌, List, [], ◌∷◌, length, Option, Some, None, Ok, Err}
use Rattle.tp_base.specs.Names.{Named}
use Rattle.sel_text.specs.declared.faults.TheConstants.{MOST_PARTS}
use Rattle.sel_text.specs.Grammar as grammar
use Rattle.sel_text.specs.Reading.{read_selector}
use Rattle.sel_text.specs.Selectors.{Selector}
use Rattle.css_read.specs.Effects.{IsSameOutcome, scopes_of}
use Rattle.css_read.specs.Holders.{owners_of}
use Rattle.css_read.specs.Order.{range_of}
use Rattle.css_read.specs.Reading.{read_item, read_sheet}
use Rattle.css_read.specs.Shapes.{IsAlikeOutcome}
use Rattle.css_read.specs.Sheets.{Outcome, judged, Item, Sheet}
use Rattle.widen_sheet.specs.Wide.{Wide, wide_of, kinds, compounds_left, widens, bytes_at, widened_item, dropped, widen}

-- ---- a selector

-- the atoms of a part, where a table has its names
abbrev pub subject_of : grammar.Outcome Selector → List ℕ
subject_of (Ok s) = s.subject
subject_of (Err e) = []

unfoldable pub atoms_in : List Named → List ℕ → List ℕ
atoms_in names part = subject_of (read_selector part 0 (length part) names).1

abbrev pub if_few : Option Wide → Option Wide
if_few None = None
if_few (Some w) = if nat_le (compounds_left (kinds w)) MOST_PARTS then Some w else None

unfoldable pub wide_item : List ℕ → Item → Option Wide
wide_item text i = if widens i.outcome (bytes_at text i) then if_few (wide_of (bytes_at text i)) else None

-- a selector of the text, read with some names: it is judged as before, or skipped for the same cause
pub record IsRead (names : List Named) (text : List ℕ) (i : Item) (o : Outcome) : Type 0 where
  pub reads : read_item text i.rule names (range_of i) ≡ (names, Ok (record { from = i.from; to = i.to; rule = i.rule; outcome = o }))
  pub alike : IsAlikeOutcome i.outcome o

-- One that is widened is judged as what is left of it. Another one is what it was, with the names of the widened sheet.
abbrev pub IsLeft : List Named → List ℕ → Item → Item → Option Wide → Type 0
IsLeft names text i j (Some w) = j.outcome ≡ judged (dropped (atoms_in names) w)
IsLeft names text i j None = (o : Outcome) × IsRead names text i o × IsSameOutcome j.from j.outcome i.from o

pub record IsSameItem (names : List Named) (text wide : List ℕ) (i j : Item) : Type 0 where
  pub rule : i.rule ≡ j.rule
  pub bytes : bytes_at wide j ≡ widened_item text i
  pub left : IsLeft names text i j (wide_item text i)

abbrev pub AreSameItems : List Named → List ℕ → List ℕ → List Item → List Item → Type 0
AreSameItems names text wide [] [] = Unit {0}
AreSameItems names text wide (i ∷ items) (j ∷ others) = IsSameItem names text wide i j × AreSameItems names text wide items others
AreSameItems names text wide items others = ⊥

-- ---- a sheet

-- the rules have the blocks that they had, and round them the at-rules, of which the innermost has the same number
pub record IsSameSheet (names : List Named) (text wide : List ℕ) (s again : Sheet) : Type 0 where
  pub items : AreSameItems names text wide s.items again.items
  pub rules : length again.rules ≡ length s.rules
  pub scopes : scopes_of wide ≡ scopes_of text
  pub owners : owners_of wide ≡ owners_of text

-- a sheet that is widened, and what is read of it then, whatever names were in the table before
abbrev pub HasSameSheet : List ℕ → Type 0
HasSameSheet text = (wide : List ℕ) (later others last : List Named) (s again : Sheet) → widen text ≡ Ok wide → read_sheet text [] ≡ (later, Ok s) → read_sheet wide others ≡ (last, Ok again) → IsSameSheet last text wide s again
