use Rattle.std.proofs.Common.{◌≡◌, ◌++◌, map}
use Rattle.std.specs.List.{AllByRecursion}
use Rattle.tp_base.specs.Cursor.{IsAt}
use Rattle.jq_stmts.specs.SharpViews.{exacts_of}
use Rattle.jq_parts.specs.ScopeViews.{stated_in}
use Rattle.jq_parts.specs.Stating.{IsCounted}
use Rattle.jq_parts.proofs.placing.placed.Given as goal

-- the statements that have their places, and those that are left, are all statements
abbrev pub invariant-loop-statement : goal.invariant-loop-statement
invariant-loop-statement l = record {
  all : exacts_of l.found.items ++ map (stated_in l.text) l.statement-iterator.rest.items ≡ map (stated_in l.text) l.fn.statements.items;
  counted : AllByRecursion IsCounted (map (stated_in l.text) l.statement-iterator.rest.items);
  here : IsAt l.text l.cursor;
}
