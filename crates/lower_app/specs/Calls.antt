-- The calls that statements make.
use Rattle.std.specs.Prelude.{ℕ, List, ◌++◌, codes}
use Rattle.lower_app.specs.declared.given.Call.{Call}
use Rattle.lower_app.specs.declared.given.Call.TheVariants.{Classes, Attribute, Tag}
use Rattle.lower_app.specs.Quoting.{quoted}

abbrev pub call_text : Call → List ℕ
call_text (Classes words) = codes "addClass(" ++ quoted words ++ codes ")"
call_text (Attribute name value) = codes "attr(" ++ quoted name ++ codes ", " ++ quoted value ++ codes ")"
call_text (Tag text) = codes "append(" ++ quoted text ++ codes ")"
