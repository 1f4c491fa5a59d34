-- The abstraction function of statements with marks.
--     kind_at      the kind of the first mark at a call
--     exact_of     the statement as it stands in the script
use Rattle.std.specs.Prelude.{ℕ, suc, ◌==◌, ◌&&◌, Bool, true, false, if◌then◌else◌, List, [], ◌∷◌, map, Option, Some, None}
use Rattle.jq_stmts.specs.declared.sharp.Sharp.{Sharp}
use Rattle.jq_stmts.specs.declared.sharp.SharpKind.{SharpKind}
use Rattle.jq_stmts.specs.declared.sharp.SharpKind.TheVariants.{Closest, Siblings, First}
use Rattle.jq_stmts.specs.declared.sharp.ExactStmt.{ExactStmt}
use Rattle.jq_stmts.specs.Statements.{Call, around, near, filter, Chain}
use Rattle.jq_stmts.specs.Sharp.{ExactCall, plain, closest, siblings, first, ExactChain, ExactStatement}
use Rattle.jq_stmts.specs.Views.{statement_of}

abbrev pub is_same : Option ℕ → Option ℕ → Bool
is_same None None = true
is_same (Some h) (Some g) = h == g
is_same h g = false

abbrev pub is_at : Sharp → Option ℕ → ℕ → Bool
is_at s h i = (s.call == i) && is_same s.handler h

-- the kind of the first mark at the i-th call of a handler's chain or, without a handler, of the statement's own chain
abbrev pub kind_at : List Sharp → Option ℕ → ℕ → Option SharpKind
kind_at [] h i = None
kind_at (s ∷ sharp) h i = if is_at s h i then Some s.kind else kind_at sharp h i

-- a wide call with the kind of its mark; a mark at a call that its kind doesn't fit has no effect
abbrev pub with_kind : Call → Option SharpKind → ExactCall
with_kind c None = plain c
with_kind (around cs) (Some Closest) = closest cs
with_kind c (Some Closest) = plain c
with_kind (near cs) (Some Siblings) = siblings cs
with_kind c (Some Siblings) = plain c
with_kind (filter ([] ∷ [])) (Some First) = first
with_kind c (Some First) = plain c

-- calls of which the first has the index i
abbrev pub exact_calls : List Sharp → Option ℕ → ℕ → List Call → List ExactCall
exact_calls sharp h i [] = []
exact_calls sharp h i (c ∷ calls) = with_kind c (kind_at sharp h i) ∷ exact_calls sharp h (suc i) calls

abbrev pub exact_chain : List Sharp → Option ℕ → Chain → ExactChain
exact_chain sharp h c = record { root = c.root; calls = exact_calls sharp h 0 c.calls }

-- handlers of which the first has the index i
abbrev pub exact_handlers : List Sharp → ℕ → List Chain → List ExactChain
exact_handlers sharp i [] = []
exact_handlers sharp i (c ∷ chains) = exact_chain sharp (Some i) c ∷ exact_handlers sharp (suc i) chains

abbrev pub exact_of : ExactStmt → ExactStatement
exact_of s = record {
  handlers = exact_handlers s.sharp 0 (statement_of s.wide).handlers;
  chain = exact_chain s.sharp None (statement_of s.wide).chain;
  action = s.wide.action;
  place = s.wide.place;
}

abbrev pub exacts_of : List ExactStmt → List ExactStatement
exacts_of ss = map exact_of ss
