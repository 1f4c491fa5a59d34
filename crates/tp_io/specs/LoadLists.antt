-- The list of loads that an implementation keeps.
use Rattle.std.specs.Prelude.{string_bytes}
use Rattle.tp_io.specs.Files.{Load}
use Rattle.tp_io.specs.declared.load_list.Entry.{Entry}

-- what an entry of the list says
abbrev pub load_of : Entry → Load
load_of e = record { name = string_bytes e.name; failed = e.failed }
