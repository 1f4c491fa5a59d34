-- The words of the command, as `clap` reads them: `--back`, at most once, and the name of one file.
--     app          the command's description
--     order_of     what the words ask for
use Rattle.std.specs.Prelude.{true, if◌then◌else◌, List, [], ◌∷◌, codes, Option, Some, None, option_map, option_and_then}
use Rattle.std.specs.Str.{bytes_eq}
use Rattle.clap.specs.Faults.{fault_of}
use Rattle.clap.specs.Kinds.{Kinds}
use Rattle.clap.specs.Simple.{App, new_rule, new_shape, with_rule, matches_of}
use Rattle.clap.specs.Walk.{Rule, Row, Text, all_of, first_of}
use Rattle.clap.specs.declared.builder.action.ArgAction.TheVariants.{Append, SetTrue}
use Rattle.widen_sheet.specs.declared.words.Way.{Way}
use Rattle.widen_sheet.specs.declared.words.Way.TheVariants as way

-- ---- the command

abbrev pub bare_app : App
bare_app = record { top = record (new_shape (codes "widen")) { no_binary_name = true; disable_help_flag = true }; subs = [] }

abbrev pub back_rule : Rule
back_rule = record (new_rule (codes "back")) { long = Some (codes "back"); action = Some SetTrue }

abbrev pub files_rule : Rule
files_rule = record (new_rule (codes "files")) { action = Some Append }

abbrev pub app : App
app = with_rule (with_rule bare_app back_rule) files_rule

-- ---- the order

-- by the value of `--back`, which is true where it is given, and false where it isn't
abbrev pub way_by : Option Text → Way
way_by None = way.Widen
way_by (Some value) = if bytes_eq value (codes "true") then way.Back else way.Widen

abbrev pub only : List Text → Option Text
only (name ∷ []) = Some name
only names = None

abbrev pub file_in : List Row → Option Text
file_in rows = option_and_then only (all_of (codes "files") rows)

-- by the matches of `clap`
abbrev pub order_in : List Row → Option (Way × Text)
order_in rows = option_map (λ name. (way_by (first_of (codes "back") rows), name)) (file_in rows)

-- where `clap` finds no fault
abbrev pub order_unless : Kinds → List Row → Option (Way × Text)
order_unless [] rows = order_in rows
order_unless (k ∷ ks) rows = None

abbrev pub order_of : List Text → Option (Way × Text)
order_of words = order_unless (fault_of app words) (matches_of app words)
