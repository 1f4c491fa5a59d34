-- What a reader of a script knows at a place.
--     Context     what holds there: the handlers round it, and whether `this` names a node
--     State       what was read up to there
use Rattle.std.specs.Prelude.{ℕ, Bool, List}
use Rattle.tp_base.specs.Names.{Named}
use Rattle.jq_stmts.specs.Sharp.{ExactStatement}
use Rattle.jq_parts.specs.Bindings.{Declaration}
use Rattle.jq_parts.specs.Scopes.{Handler, Scope}
use Rattle.jq_parts.specs.Markup.{Grown, grown}

-- Whether the script is read exactly, the bytes of the file and how many there are, the functions that it declares, the handlers round
-- the place, outermost first, and whether `this` names the node of the innermost one there.
pub record Context : Type 0 where
  pub exact : Bool
  pub text : List ℕ
  pub size : ℕ
  pub declared : List (List ℕ)
  pub handlers : List Handler
  pub has_this : Bool

abbrev pub size : Context → ℕ
size c = c.size

-- The names in the table and how many nodes all markup has, the statements, and the declarations that are seen, in the order of the text.
pub record State : Type 0 where
  pub grown : Grown
  pub statements : List ExactStatement
  pub declarations : List Declaration

abbrev pub with_names : List Named → State → State
with_names names s = record s { grown = grown names s.grown.nodes }

-- what is seen at the place
abbrev pub scope_in : Context → State → Scope
scope_in c s = record { handlers = c.handlers; has_this = c.has_this; declarations = s.declarations }
