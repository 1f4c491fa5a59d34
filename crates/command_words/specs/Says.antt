-- What matches say of parts.
use Rattle.std.specs.Prelude.{◌≡◌, if◌then◌else◌, List, [], Some, codes, unwrap_or}
use Rattle.clap.specs.Matches.{found_of}
use Rattle.clap.specs.Walk.{Row, first_of, all_of, one_of, rows_of}
use Rattle.clap.specs.declared.parser.matches.ArgMatches.{ArgMatches}
use Rattle.command_words.specs.Parts.{Flag, flag_name, Key, key_name, Part}
use Rattle.command_words.specs.Orders.{says, value_in, names_in}

pub record AreRows (ps : List Part) (rows : List Row) : Type 0 where
  pub flags : (f : Flag) → one_of (flag_name f) rows ≡ Some (if says f ps then codes "true" else codes "false")
  pub values : (k : Key) → first_of (key_name k) rows ≡ value_in k ps
  pub names : unwrap_or (all_of (codes "names") rows) [] ≡ names_in ps

abbrev pub Says : List Part → ArgMatches → Type 0
Says ps m = AreRows ps (rows_of (found_of m))
