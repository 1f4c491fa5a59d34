-- The results of the parser's calls, as the definitions see them.
use Rattle.std.specs.Prelude.{◌≡◌, ◌≢◌, ◌<◌, ◌≤◌, List, length, ℕ, Option, None, Some, option_map, Result, Ok, Err}
use denote.Bor.{Bor}
use Rattle.tp_base.specs.declared.atoms.AtomKind.TheVariants as kind
use Rattle.text_bytes.specs.Attributes.{with_value}
use Rattle.tp_base.specs.Names as names
pub use Rattle.tp_base.specs.Names.{IsFront}
use Rattle.tp_base.specs.Outcomes.{GivesUnless, ReadsUnless}
use Rattle.sel_text.specs.declared.faults.SelFault.{SelFault}
use Rattle.sel_text.specs.declared.faults.SelFault.TheVariants.{Memory}
use Rattle.sel_text.specs.declared.selectors.Join.{Join}
use Rattle.sel_text.specs.declared.grammar.Word as code_word
use Rattle.sel_text.specs.declared.grammar.Word.TheVariants.{Named, Asked}
use Rattle.sel_text.specs.declared.grammar.Begun as code_begun
use Rattle.sel_text.specs.declared.grammar.Begun.TheVariants.{Whole, Wanting}
use Rattle.sel_text.specs.Grammar.{Outcome, Word, Front, Begun, whole, wanting}

-- a call's result is what reading gives, seen by the view, unless memory ran out
abbrev pub Gives : {X Y : Type 0} → (X → Y) → Result X SelFault → Outcome Y → Type 0
Gives = GivesUnless Memory

abbrev pub word_of : code_word.Word → Word
word_of (Named k name) = (k, name.now)
word_of (Asked name None) = (kind.Attr, name.now)
word_of (Asked name (Some value)) = (kind.Attr, with_value name.now value.now)

abbrev pub begun_of : code_begun.Begun → Begun
begun_of (Whole w rest) = whole (option_map word_of w) rest.now
begun_of (Wanting k name) = wanting k name.now

-- what is left to read of a part that begins
abbrev pub left_of : code_begun.Begun → List ℕ
left_of (Whole w rest) = rest.now
left_of (Wanting k name) = name.now

-- a part that is whole has bytes of the text
abbrev pub IsShorter : List ℕ → code_begun.Begun → Type 0
IsShorter text (Whole w rest) = length rest.now < length text
IsShorter text (Wanting k name) = length name.now ≤ length text

-- a part: a word, if it has one, and the text behind it
abbrev pub part_view : Option code_word.Word × Bor (List ℕ) → Option Word × List ℕ
part_view p = (option_map word_of p.0, p.1.now)

-- an attribute part, and the text behind it
abbrev pub front_view : Option (code_word.Word × Bor (List ℕ)) → Front Word
front_view p = option_map (λ (r : code_word.Word × Bor (List ℕ)). (word_of r.0, r.1.now)) p

-- a join, if there is one, and the text behind it
abbrev pub join_view : Option Join × Bor (List ℕ) → Option Join × List ℕ
join_view j = (j.0, j.1.now)

-- a call's result, and the names that it leaves, are what reading gives, unless memory ran out
abbrev pub Reads : {X Y : Type 0} → (X → Y) → Result X SelFault → List names.Named → List names.Named × Outcome Y → Type 0
Reads = ReadsUnless Memory
