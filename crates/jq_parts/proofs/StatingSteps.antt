-- One statement more, and its place.
use Rattle.std.proofs.Common.{◌≡◌, ℕ, ◌≤◌, List, [], ◌∷◌, ◌++◌, length, map, sym, ◌∙◌, arith}
use Rattle.std.proofs.lemmas.List.{map-append, append_assoc, append-nil, length-map}
use Rattle.jq_stmts.specs.declared.sharp.ExactStmt.{ExactStmt}
use Rattle.jq_stmts.specs.Sharp.{ExactStatement}
use Rattle.jq_stmts.specs.SharpViews.{exact_of, exacts_of}
use Rattle.jq_parts.specs.declared.placing.Stated.{Stated}
use Rattle.jq_words.specs.declared.faults.TheConstants.{MOST_CALLS, MOST_OPEN}
use Rattle.jq_chains.specs.MarkedCalls.{marked_chain_of, calls_in}
use Rattle.jq_parts.specs.ScopeViews.{stated_in}
use Rattle.jq_parts.specs.Stating.{IsCounted}

pub one_stated : (text : List ℕ) (ss : List Stated) (s : Stated) → map (stated_in text) (ss ++ s ∷ []) ≡ map (stated_in text) ss ++ stated_in text s ∷ []
one_stated text ss s = map-append (stated_in text) ss (s ∷ [])

-- one statement more has its place
pub placed_more : (text : List ℕ) (found : List ExactStmt) (s : ExactStmt) (t : Stated) (rest : List Stated) (all : List ExactStatement) →
    exact_of s ≡ stated_in text t → exacts_of found ++ map (stated_in text) (t ∷ rest) ≡ all → exacts_of (found ++ s ∷ []) ++ map (stated_in text) rest ≡ all
placed_more text found s t rest all is before =
    rw (map-append exact_of found (s ∷ []), is) (append_assoc (exacts_of found) (stated_in text t ∷ []) (map (stated_in text) rest) ∙ before)

-- all of them have
pub placed_all : (text : List ℕ) (found : List ExactStmt) (all : List ExactStatement) → exacts_of found ++ map (stated_in text) [] ≡ all → exacts_of found ≡ all
placed_all text found all before = sym (append-nil (exacts_of found)) ∙ before

-- what a statement's marks count, as the code has it
pub few_handlers : (text : List ℕ) (t : Stated) → IsCounted (stated_in text t) → length t.handlers.items ≤ MOST_OPEN
few_handlers text t counted = omega (arith, length-map t.handlers.items marked_chain_of, counted.few)

pub short_chains : (text : List ℕ) (t : Stated) → IsCounted (stated_in text t) → calls_in (map marked_chain_of (t.chain ∷ t.handlers.items)) ≤ MOST_CALLS
short_chains text t counted = counted.short
