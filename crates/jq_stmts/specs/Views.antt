-- The abstraction function of statements.
use Rattle.std.specs.Prelude.{ℕ, List, map}
use Rattle.sel_text.specs.declared.selectors.Compound.{Compound}
use Rattle.sel_text.specs.Views.{selector_of}
use Rattle.jq_stmts.specs.declared.chains.Call.{Call}
use Rattle.jq_stmts.specs.declared.chains.Call.TheVariants.{Find, Children, Parent, Parents, Filter, Has, Around, Near, Add, End}
use Rattle.jq_stmts.specs.declared.chains.Chain.{Chain}
use Rattle.jq_stmts.specs.declared.chains.Root.{Root}
use Rattle.jq_stmts.specs.declared.chains.Root.TheVariants as code
use Rattle.jq_stmts.specs.declared.stmts.Stmt.{Stmt}
use Rattle.jq_stmts.specs.Statements as spec

-- compounds, each as its atoms
abbrev pub atoms_of : List Compound → List (List ℕ)
atoms_of cs = map (λ c. c.atoms) cs

abbrev pub root_of : Root → spec.Root
root_of (code.List ss) = spec.matched (map selector_of ss)
root_of code.This = spec.this

abbrev pub call_of : Call → spec.Call
call_of (Find cs) = spec.find (atoms_of cs)
call_of (Children cs) = spec.children (atoms_of cs)
call_of (Parent cs) = spec.parent (atoms_of cs)
call_of (Parents cs) = spec.parents (atoms_of cs)
call_of (Filter cs) = spec.filter (atoms_of cs)
call_of (Has cs) = spec.has (atoms_of cs)
call_of (Around cs) = spec.around (atoms_of cs)
call_of (Near cs) = spec.near (atoms_of cs)
call_of (Add ss) = spec.add (map selector_of ss)
call_of End = spec.back

abbrev pub chain_of : Chain → spec.Chain
chain_of c = record { root = root_of c.root; calls = map call_of c.calls }

abbrev pub statement_of : Stmt → spec.Statement
statement_of s = record {
  handlers = map chain_of s.handlers;
  chain = chain_of s.chain;
  action = s.action;
  place = s.place;
}

abbrev pub statements_of : List Stmt → List spec.Statement
statements_of ss = map statement_of ss
