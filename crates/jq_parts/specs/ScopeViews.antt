-- The abstraction functions of scopes, markup, effects and statements.
use Rattle.std.specs.Prelude.{ℕ, map, List, Option, option_map}
use Rattle.tp_base.specs.Places.{place_at}
use Rattle.tree_sem.specs.declared.actions.Action.{Action}
use Rattle.jq_stmts.specs.Sharp.{ExactStatement}
use Rattle.jq_parts.specs.declared.markup.Grown as code_grown
use Rattle.jq_parts.specs.declared.placing.Stated.{Stated}
use Rattle.jq_parts.specs.declared.scopes.Handler as code_handler
use Rattle.jq_parts.specs.declared.scopes.Scope as code_scope
use Rattle.jq_chains.specs.declared.shared_chains.SharedChain.{SharedChain}
use Rattle.jq_chains.specs.MarkedCalls.{marked_chain_of}
use Rattle.jq_chains.specs.SharedChains.{shared_of}
use Rattle.jq_parts.specs.Markup.{Grown, grown}
use Rattle.jq_parts.specs.Views.{declarations_of}
use Rattle.jq_parts.specs.Scopes.{Handler, Scope}
use Rattle.jq_parts.specs.Stating.{Effect}

abbrev pub handler_of : code_handler.Handler → Handler
handler_of h = record { chain = shared_of h.chain; at = h.at }

abbrev pub handlers_of : List code_handler.Handler → List Handler
handlers_of hs = map handler_of hs

abbrev pub scope_of : code_scope.Scope → Scope
scope_of s = record { handlers = handlers_of s.handlers.items; has_this = s.has_this; declarations = declarations_of s.declarations }

abbrev pub grown_of : code_grown.Grown → Grown
grown_of g = grown g.atoms g.nodes

abbrev pub effect_of : Option (SharedChain × Action) → Effect
effect_of e = option_map (λ a. (shared_of a.0, a.1)) e

-- a statement of a text; the code has the offset where the definition has the place
abbrev pub stated_in : List ℕ → Stated → ExactStatement
stated_in text s = record {
  handlers = map marked_chain_of s.handlers.items;
  chain = marked_chain_of s.chain;
  action = s.action;
  place = place_at text s.at;
}
