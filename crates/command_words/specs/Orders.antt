-- What a command line orders.
--     order_of ws           the order that the words give, where they are of the command's form
use Rattle.std.specs.Prelude.{ℕ, ◌+◌, ◌*◌, ◌%◌, ◌==◌, ◌&&◌, if◌then◌else◌, nat_le, Bool, true, false, not, List, [], ◌∷◌, length, Option, Some, None, is_some, option_map, option_and_then}
use Rattle.std.specs.List.{list_any, list_all}
use Rattle.std.specs.Option.{option_map_or}
use Rattle.std.specs.Str.{bytes_eq}
use Rattle.std.specs.Str.Parse.{digits_value}
use Rattle.limits.specs.declared.budgets.Limits.{Limits}
use Rattle.limits.specs.declared.budgets.TheConstants.{MOST_PAIRS, MOST_BRANCHES, MOST_ENTRIES, MOST_LIST}
use Rattle.limits.specs.Budgets.{standard}
use Rattle.triple_gen.specs.declared.triple.TheConstants.{MOST_BOXES}
use Rattle.command_words.specs.declared.numbers.TheConstants.{MOST_DIGITS}
use Rattle.command_words.specs.declared.words.Mode.{Mode}
use Rattle.command_words.specs.declared.words.Mode.TheVariants as mode
use Rattle.command_words.specs.declared.words.Order.{Order}
use Rattle.limits.specs.declared.pages.TheConstants.{MOST_PAGES}
use Rattle.command_words.specs.Parts.{Text, Flag, plain, dead, runs, site, prune, flag_name, Key, pairs, nodes, entries, list, gen, key_name, Part, flag, given, name, anything, reading}

-- ---- each option stands at most once

abbrev pub is_same : Part → Part → Bool
is_same (flag f) (flag g) = bytes_eq (flag_name g) (flag_name f)
is_same (flag f) (given k v) = false
is_same (flag f) (name x) = false
is_same (given k v) (flag f) = false
is_same (given k v) (given j w) = bytes_eq (key_name j) (key_name k)
is_same (given k v) (name x) = false
is_same (name x) p = false

-- these stood before
abbrev pub are_once : List Part → List Part → Bool
are_once seen [] = true
are_once seen (p ∷ ps) = not (list_any (is_same p) seen) && are_once (p ∷ seen) ps

-- ---- values

abbrev pub least : Key → ℕ
least pairs = 1
least nodes = 1
least entries = 1
least list = 0
least gen = 0

abbrev pub most : Key → ℕ
most pairs = MOST_PAIRS
most nodes = MOST_BRANCHES
most entries = MOST_ENTRIES
most list = MOST_LIST
most gen = MOST_BOXES

abbrev pub is_digit : ℕ → Bool
is_digit c = nat_le 48 c && nat_le c 57

-- decimal digits, at least one and not too many
abbrev pub is_number : Text → Bool
is_number v = nat_le 1 (length v) && (nat_le (length v) MOST_DIGITS && list_all is_digit v)

abbrev pub number : Text → ℕ
number v = digits_value 10 v

abbrev pub is_between : ℕ → ℕ → Text → Bool
is_between low high v = is_number v && (nat_le low (number v) && nat_le (number v) high)

-- ---- what the parts say

abbrev pub says : Flag → List Part → Bool
says f = list_any (is_same (flag f))

abbrev pub value_after : Key → Part → Option Text → Option Text
value_after k (flag f) o = o
value_after k (given j v) o = if bytes_eq (key_name j) (key_name k) then Some v else o
value_after k (name x) o = o

-- the value of an option, if it is given
abbrev pub value_from : Key → List Part → Option Text → Option Text
value_from k [] o = o
value_from k (p ∷ ps) o = value_from k ps (value_after k p o)

abbrev pub value_in : Key → List Part → Option Text
value_in k ps = value_from k ps None

abbrev pub names_in : List Part → List Text
names_in [] = []
names_in (flag f ∷ ps) = names_in ps
names_in (given k v ∷ ps) = names_in ps
names_in (name x ∷ ps) = x ∷ names_in ps

-- ---- the order

-- what is done: of `--prune`, `--dead`, `--runs` and `--site` at most one stands, or `--prune` beside `--site`
abbrev pub mode_by : Bool → Bool → Bool → Bool → Option Mode
mode_by false false false false = Some mode.Report
mode_by true false false false = Some mode.Prune
mode_by false true false false = Some mode.Dead
mode_by false false true false = Some mode.Runs
mode_by false false false true = Some mode.Site
mode_by true false false true = Some mode.SitePrune
mode_by _ _ _ _ = None

abbrev pub mode_in : List Part → Option Mode
mode_in ps = mode_by (says prune ps) (says dead ps) (says runs ps) (says site ps)

-- a sheet, and so many pages with their scripts
abbrev pub is_site : ℕ → Bool
is_site n = n % 2 == 1 && (nat_le 3 n && nat_le n (2 * MOST_PAGES + 1))

-- whether a mode is on several pages
abbrev pub takes_pages : Mode → Bool
takes_pages mode.Site = true
takes_pages mode.SitePrune = true
takes_pages _ = false

-- as many names as a mode takes; none with a size, which no other mode takes
abbrev pub are_names : Mode → ℕ → Bool
are_names m n = if takes_pages m then is_site n else n == 3

abbrev pub is_report : Mode → Bool
is_report mode.Report = true
is_report _ = false

abbrev pub is_named : Mode → Bool → ℕ → Bool
is_named m sized n = if sized then is_report m && n == 0 else are_names m n

abbrev pub are_named : Mode → List Part → Bool
are_named m ps = is_named m (is_some (value_in gen ps)) (length (names_in ps))

abbrev pub number_or : Key → ℕ → List Part → ℕ
number_or k default ps = option_map_or number (value_in k ps) default

-- the value of each option is a number in its range
abbrev pub is_good : List Part → Key → Bool
is_good ps k = option_map_or (is_between (least k) (most k)) (value_in k ps) true

abbrev pub limits_by : List Part → Limits
limits_by ps = record {
  plain = says plain ps;
  pairs = number_or pairs standard.pairs ps;
  nodes = number_or nodes standard.nodes ps;
  entries = number_or entries standard.entries ps;
  list = number_or list standard.list ps;
}

abbrev pub order_by : Mode → List Part → Order
order_by m ps = record { names = names_in ps; size = option_map number (value_in gen ps); mode = m; limits = limits_by ps }

abbrev pub are_good : List Part → Bool
are_good ps = is_good ps pairs && (is_good ps nodes && (is_good ps entries && is_good ps list))

abbrev pub is_well : Mode → List Part → Bool
is_well m ps = are_good ps && (is_good ps gen && are_named m ps)

abbrev pub order_from : List Part → Option Order
order_from ps = option_and_then (λ m. if is_well m ps then Some (order_by m ps) else None) (mode_in ps)

abbrev pub order_in : List Part → Option Order
order_in ps = if are_once [] ps then order_from ps else None

abbrev pub order_of : List Text → Option Order
order_of ws = option_and_then order_in (reading anything ws)

-- ---- as the code reads them

abbrev pub value_or : ℕ → ℕ → ℕ → Option Text → Option ℕ
value_or low high default None = Some default
value_or low high default (Some v) = if is_between low high v then Some (number v) else None

abbrev pub limits_if : List Part → Option Limits
limits_if ps = if are_good ps then Some (limits_by ps) else None

abbrev pub size_if : List Part → Option (Option ℕ)
size_if ps = if is_good ps gen then Some (option_map number (value_in gen ps)) else None
