-- What is said of some stops, by the definitions.
use Rattle.std.proofs.Common.{◌≡◌, Some, None, codes, refl}
use Rattle.std.specs.Fmt.{digits}
use Rattle.run_ends.specs.declared.refusals.Part.TheVariants.{Page, Script}
use Rattle.run_ends.specs.declared.refusals.Fault.TheVariants.{NotUtf8}
use Rattle.run_ends.specs.declared.stops.Stop.TheVariants.{TooLarge, ReadFault, Unread}
use Rattle.run_ends.specs.Stops.{line_of}

large : line_of (TooLarge (Page None)) ≡ codes "treeped: page: too large\n"
large = refl

unread_script : line_of (ReadFault (Script (Some 12))) ≡ codes "treeped: script 12: read fault\n"
unfolding digits
unread_script = refl

not_utf8 : line_of (Unread (record { part = Page (Some 2); fault = NotUtf8; place = record { line = 1; column = 1 } })) ≡ codes "treeped: page 2: not utf-8 at 1:1\n"
unfolding digits
not_utf8 = refl
