-- The statements of a script, and the marks of their sharp calls beside them.
use Rattle.std.specs.Prelude.{Bool, true, false, List, [], ◌∷◌, map}
use Rattle.jq_stmts.specs.declared.sharp.Sharp.{Sharp}
use Rattle.jq_stmts.specs.declared.stmts.Stmt.{Stmt}
use Rattle.jq_stmts.specs.Sharp.{ExactStatement, exact_statement}
use Rattle.jq_stmts.specs.SharpViews.{exact_of}
use Rattle.jq_stmts.specs.Views.{statements_of}
use Rattle.jq_exact.specs.declared.marks.Script.{Script}

-- statements with the marks of each, where there are any
abbrev pub marked : List Stmt → List (List Sharp) → List ExactStatement
marked stmts [] = map exact_statement (statements_of stmts)
marked [] (m ∷ sharp) = []
marked (s ∷ stmts) (m ∷ sharp) = exact_of (record { wide = s; sharp = m }) ∷ marked stmts sharp

-- whether there are any
abbrev pub has_marks : List Sharp → Bool
has_marks [] = false
has_marks (m ∷ marks) = true

abbrev pub exact_in : Script → List ExactStatement
exact_in s = marked s.stmts.items s.sharp.items
