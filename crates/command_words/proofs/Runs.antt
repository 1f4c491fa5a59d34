-- The command, and what a walk over words comes to.
use Rattle.std.proofs.Common.{Bool, false, if◌then◌else◌, List, [], ◌∷◌, Option, Some, None, codes}
use Rattle.std.specs.Prelude.{option_and_then, fold}
use Rattle.clap.specs.Walk.{Held, Row, Rule, Text, Walk, Waiting, used, settled, has_row, walked}
use Rattle.clap.specs.Simple.{Shape, built, filled, with_index}
use Rattle.clap.specs.Faults.{walk_fault, settle_fault}
use Rattle.clap.specs.Kinds.{Kinds, or_else}
use Rattle.command_words.specs.Command.{flag_rule, option_rule, names_rule, app}
use Rattle.command_words.specs.Parts.{Flag, plain, dead, runs, site, prune, flag_name, Key, pairs, nodes, entries, list, gen, key_name, Part, flag, given, name, State, reading}

abbrev pub rule_flag : Flag → Rule
rule_flag f = filled (flag_rule (flag_name f))

abbrev pub rule_key : Key → Rule
rule_key k = filled (option_rule (key_name k))

abbrev pub rule_names : Rule
rule_names = with_index 1 (filled names_rule)

abbrev pub rules_all : List Rule
rules_all = rule_flag plain ∷ rule_flag dead ∷ rule_flag runs ∷ rule_flag site ∷ rule_flag prune ∷ rule_key pairs ∷ rule_key nodes ∷ rule_key entries ∷ rule_key list ∷ rule_key gen ∷ rule_names ∷ []

abbrev pub shape : Shape
shape = (built app).top

-- the rows after a part, unless it stands there already
abbrev pub use_part : List Row → Part → Option (List Row)
use_part rows (flag f) = if has_row (flag_name f) rows then None else Some (used (rule_flag f) [] rows)
use_part rows (given k v) = if has_row (key_name k) rows then None else Some (used (rule_key k) (v ∷ []) rows)
use_part rows (name x) = Some (used rule_names (x ∷ []) rows)

abbrev pub use_all : List Part → List Row → Option (List Row)
use_all [] rows = Some rows
use_all (p ∷ ps) rows = option_and_then (use_all ps) (use_part rows p)

-- what waits to be used: nothing, an option with its value, a name, or an option without its value
pub data Hold : Type 0 where
  none : Hold
  one : Key → Text → Hold
  word : Text → Hold
  unfilled : Key → Hold

abbrev pub hold_text : Hold → Option (Text × List Text)
hold_text none = None
hold_text (one k v) = Some (key_name k, v ∷ [])
hold_text (word x) = Some (codes "names", x ∷ [])
hold_text (unfilled k) = Some (key_name k, [])

abbrev pub use_hold : List Row → Hold → Option (List Row)
use_hold rows none = Some rows
use_hold rows (one k v) = use_part rows (given k v)
use_hold rows (word x) = use_part rows (name x)
use_hold rows (unfilled k) = None

abbrev pub held_at : List Row → Hold → Held
held_at rows hold = record { rows = rows; pending = hold_text hold; skip = 0 }

abbrev pub at : Bool → Waiting → List Row → Hold → Walk
at trailing waiting rows hold = record { held = held_at rows hold; waiting = waiting; position = 1; is_trailing = trailing; stopped = None }

-- the value, unless there is a fault
abbrev pub gate : {X : Type 0} → Kinds → X → Option X
gate [] x = Some x
gate (k ∷ ks) x = None

abbrev pub end_of : Walk → List Text → Walk
end_of w ws = fold (walked shape.rules []) w ws

-- the rows to which the walk leads, unless it is refused
abbrev pub got : Walk → List Text → Option (List Row)
got w ws = gate (or_else (walk_fault shape [] w ws) (settle_fault shape.rules false (end_of w ws).held)) (settled shape.rules (end_of w ws).held).rows

-- those of the parts
abbrev pub wanted : State → List Text → List Row → Option (List Row)
wanted s ws rows = option_and_then (λ ps. use_all ps rows) (reading s ws)

abbrev pub wanted_behind : State → List Text → List Row → Hold → Option (List Row)
wanted_behind s ws rows hold = option_and_then (wanted s ws) (use_hold rows hold)
