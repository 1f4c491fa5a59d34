-- The words of the command, as `clap` reads them: `--except` with a name, as often as one likes, and the names of two files.
--     app          the command's description
--     order_of     what the words ask for
use Rattle.std.specs.Prelude.{true, if◌then◌else◌, List, [], ◌∷◌, ◌++◌, codes, Option, Some, None, option_map, option_and_then, unwrap_or}
use Rattle.clap.specs.Faults.{fault_of}
use Rattle.clap.specs.Kinds.{Kinds}
use Rattle.clap.specs.Simple.{App, new_rule, new_shape, with_rule, matches_of}
use Rattle.clap.specs.Walk.{Rule, Row, Text, all_of}
use Rattle.clap.specs.declared.builder.action.ArgAction.TheVariants.{Append}
use Rattle.premise_finds.specs.declared.names.Name.{Name}
use Rattle.premise_finds.specs.NameTexts.{name_of}
use Rattle.premise_lines.specs.declared.words.Order.{Order}
use Rattle.premise_lines.specs.Lines.{has_name}

-- ---- the command

abbrev pub bare_app : App
bare_app = record { top = record (new_shape (codes "premises")) { no_binary_name = true; disable_help_flag = true }; subs = [] }

abbrev pub except_rule : Rule
except_rule = record (new_rule (codes "except")) { long = Some (codes "except"); action = Some Append }

abbrev pub files_rule : Rule
files_rule = record (new_rule (codes "files")) { action = Some Append }

abbrev pub app : App
app = with_rule (with_rule bare_app except_rule) files_rule

-- ---- the order

abbrev pub with_name : List Name → Name → List Name
with_name names n = if has_name names n then names else names ++ n ∷ []

-- these names, and those that are written so, each once
abbrev pub names_from : List Name → List Text → Option (List Name)
names_from names [] = Some names
names_from names (t ∷ ts) = option_and_then (λ n. names_from (with_name names n) ts) (name_of t)

abbrev pub order_by : List Text → List Text → Option Order
order_by excepted (page ∷ sheet ∷ []) = option_map (λ names. record { excepted = names; page = page; sheet = sheet }) (names_from [] excepted)
order_by excepted files = None

abbrev pub all_in : Text → List Row → List Text
all_in id rows = unwrap_or (all_of id rows) []

-- by the matches of `clap`
abbrev pub order_in : List Row → Option Order
order_in rows = order_by (all_in (codes "except") rows) (all_in (codes "files") rows)

-- where `clap` finds no fault
abbrev pub order_unless : Kinds → List Row → Option Order
order_unless [] rows = order_in rows
order_unless (k ∷ ks) rows = None

abbrev pub order_of : List Text → Option Order
order_of words = order_unless (fault_of app words) (matches_of app words)
