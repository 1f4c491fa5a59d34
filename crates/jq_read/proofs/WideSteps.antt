-- The statements that are judged, one more at a time.
use Rattle.std.proofs.Common.{◌≡◌, List, [], ◌∷◌, ◌++◌, sym, ap, ◌∙◌}
use Rattle.std.proofs.lemmas.List.{map-append, append_assoc, append-nil}
use Rattle.jq_stmts.specs.declared.stmts.Stmt.{Stmt}
use Rattle.jq_stmts.specs.declared.sharp.ExactStmt.{ExactStmt}
use Rattle.jq_stmts.specs.Sharp.{wides}
use Rattle.jq_stmts.specs.SharpViews.{exacts_of}
use Rattle.jq_stmts.specs.Views.{statement_of, statements_of}
use Rattle.jq_stmts.proofs.SharpLemmas.{wide-exact_of}

-- those that are there, and those that are left, are all of them
abbrev pub AreWide : List Stmt → List ExactStmt → List ExactStmt → Type 0
AreWide found left all = statements_of found ++ wides (exacts_of left) ≡ wides (exacts_of all)

pub one_wide : (found : List Stmt) (s : ExactStmt) (left all : List ExactStmt) → AreWide found (s ∷ left) all → AreWide (found ++ s.wide ∷ []) left all
one_wide found s left all before =
    rw (map-append statement_of found (s.wide ∷ []))
    (append_assoc (statements_of found) (statement_of s.wide ∷ []) (wides (exacts_of left))
    ∙ ap (λ w. statements_of found ++ w ∷ wides (exacts_of left)) (sym (wide-exact_of s)) ∙ before)

pub all_wide : (found : List Stmt) (all : List ExactStmt) → AreWide found [] all → wides (exacts_of all) ≡ statements_of found
all_wide found all before = sym before ∙ append-nil (statements_of found)
