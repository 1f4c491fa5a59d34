-- What is known at a place of a script is over the table of names, and what is added keeps it so.
use Rattle.std.proofs.Common.{ℕ, ◌≤◌, not, ◌&&◌, if◌then◌else◌, List, [], ◌∷◌, ◌++◌, length, map, Option, Some, None, arith}
use Rattle.std.specs.Prelude.{Ok, Err, IfOk, IfSome, nat_le, nat_lt, bytes_eq, option_and_then}
use Rattle.std.specs.List.{AllByRecursion}
use Rattle.tp_base.specs.Names.{Named}
use Rattle.tp_base.specs.Places.{place_at}
use Rattle.jq_stmts.specs.Sharp.{ExactChain, ExactStatement, wide_chain, wide_of, wides}
use Rattle.jq_words.specs.declared.faults.ScriptFault.TheVariants.{ThisOutside}
use Rattle.jq_words.specs.declared.faults.TheConstants.{MOST_STATEMENTS, MOST_CALLS}
use Rattle.jq_parts.specs.Bindings.{Value, elements, everywhere, markup, placed, Declaration, bound, latest, if_chain}
use Rattle.jq_parts.specs.Scopes.{Handler, Scope, used, if_bound, is_this, places_of, this_at}
use Rattle.jq_parts.specs.Markup.{Grown, grown}
use Rattle.jq_parts.specs.Stating.{Effect, stated, chains_of}
use Rattle.jq_chains.specs.MarkedCalls.{calls_in}
use Rattle.jq_stmts.specs.Tables.{IsChainOver, AreChainsOver, AreTreesOver, IsActionOver, IsStatementOver, AreStatementsOver}
use Rattle.jq_parts.proofs.SelectorLaws.{IsChainOver-more, AreChainsOver-more, AreTreesOver-more, AreStatementsOver-more}
use Rattle.jq_read.specs.States.{Context, State, with_names}
use Rattle.jq_read.specs.Chains.{and_stated}
use Rattle.jq_parts.proofs.TableLaws.{and_then}
use Rattle.jq_read.proofs.ReadingLaws.{either, first_some, this_one}

-- ---- what is over a table

abbrev pub IsExactOver : ℕ → ExactChain → Type 0
IsExactOver n c = IsChainOver n (wide_chain c)

abbrev pub IsValueOver : ℕ → Value → Type 0
IsValueOver n (elements chain) = IsExactOver n chain
IsValueOver n everywhere = Unit {0}
IsValueOver n (markup trees) = AreTreesOver n trees
IsValueOver n placed = Unit {0}

abbrev pub IsBoundOver : ℕ → Option Value → Type 0
IsBoundOver n None = Unit {0}
IsBoundOver n (Some v) = IsValueOver n v

abbrev pub AreBoundOver : ℕ → List Declaration → Type 0
AreBoundOver n ds = AllByRecursion (λ d. IsBoundOver n d.value) ds

abbrev pub IsElementsOver : ℕ → Option ExactChain → Type 0
IsElementsOver n None = Unit {0}
IsElementsOver n (Some chain) = IsExactOver n chain

abbrev pub IsEffectOver : ℕ → Effect → Type 0
IsEffectOver n None = Unit {0}
IsEffectOver n (Some e) = IsExactOver n e.0 × IsActionOver n e.1

-- how many names are in the table
abbrev pub count : State → ℕ
count s = length s.grown.names

-- what is known at a place, and the handlers round it
pub record AreOver (c : Context) (s : State) : Type 0 where
  pub handlers : AreChainsOver (count s) (map wide_chain (chains_of c.handlers))
  pub statements : AreStatementsOver (count s) (wides s.statements)
  pub bindings : AreBoundOver (count s) s.declarations

-- the same later on
pub record IsLater (c : Context) (s t : State) : Type 0 where
  pub longer : count s ≤ count t
  pub over : AreOver c t

pub value_more : (n m : ℕ) → n ≤ m → (v : Value) → IsValueOver n v → IsValueOver m v
value_more n m less (elements chain) over = IsChainOver-more n m less (wide_chain chain) over
value_more n m less everywhere over = tt
value_more n m less (markup trees) over = AreTreesOver-more n m less trees over
value_more n m less placed over = tt

one_bound_more : (n m : ℕ) → n ≤ m → (v : Option Value) → IsBoundOver n v → IsBoundOver m v
one_bound_more n m less None over = tt
one_bound_more n m less (Some v) over = value_more n m less v over

bound_more : (n m : ℕ) → n ≤ m → (ds : List Declaration) → AreBoundOver n ds → AreBoundOver m ds
bound_more n m less [] over = tt
bound_more n m less (d ∷ ds) over = (one_bound_more n m less d.value over.0, bound_more n m less ds over.1)

pub elements_more : (n m : ℕ) → n ≤ m → (chain : Option ExactChain) → IsElementsOver n chain → IsElementsOver m chain
elements_more n m less None over = tt
elements_more n m less (Some chain) over = IsChainOver-more n m less (wide_chain chain) over

pub same : (c : Context) (s : State) → AreOver c s → IsLater c s s
same c s over = record { longer = omega arith; over = over }

pub further : (c : Context) (s t u : State) → IsLater c s t → IsLater c t u → IsLater c s u
further c s t u first second = record { longer = omega (arith, first.longer, second.longer); over = second.over }

-- markup was read, and nothing else
pub grown_over : (c : Context) (s : State) (g : Grown) → count s ≤ length g.names → AreOver c s → IsLater c s (record s { grown = g })
grown_over c s g less over = record {
  longer = less;
  over = record {
    handlers = AreChainsOver-more (count s) (length g.names) less (map wide_chain (chains_of c.handlers)) over.handlers;
    statements = AreStatementsOver-more (count s) (length g.names) less (wides s.statements) over.statements;
    bindings = bound_more (count s) (length g.names) less s.declarations over.bindings;
  };
}

-- names were added, and nothing else
pub renamed_over : (c : Context) (s : State) (names : List Named) → count s ≤ length names → AreOver c s → IsLater c s (with_names names s)
renamed_over c s names less over = grown_over c s (grown names s.grown.nodes) less over

-- ---- statements

one_statement : (n : ℕ) (ss : List ExactStatement) (s : ExactStatement) → AreStatementsOver n (wides ss) → IsStatementOver n (wide_of s) → AreStatementsOver n (wides (ss ++ s ∷ []))
one_statement n [] s over one = (one, tt)
one_statement n (t ∷ ss) s over one = (over.0, one_statement n ss s over.1 one)

with_statements : (c : Context) (s : State) (ss : List ExactStatement) → AreStatementsOver (count s) (wides ss) → AreOver c s → IsLater c s (record s { statements = ss })
with_statements c s ss all over = record { longer = omega arith; over = record { handlers = over.handlers; statements = all; bindings = over.bindings } }

pub stated_over : (c : Context) (at : ℕ) (e : Effect) (s : State) → AreOver c s → IsEffectOver (count s) e → IfOk (and_stated c at e s) (IsLater c s)
unfolding and_stated stated
stated_over c at None s over effect = same c s over
stated_over c at (Some (chain, action)) s over effect =
    let one : ExactStatement = record { handlers = chains_of c.handlers; chain = chain; action = action; place = place_at c.text at } in
    and_then _ _ _ _ (either (λ ss. AreStatementsOver (count s) (wides ss)) (nat_le MOST_STATEMENTS (length s.statements)) _ _ tt
    (either (λ ss. AreStatementsOver (count s) (wides ss)) (nat_lt MOST_CALLS (calls_in (chain ∷ chains_of c.handlers))) _ _ tt
    (one_statement (count s) s.statements one over.statements (over.handlers, effect.0, effect.1))))
    (λ ss all. with_statements c s ss all over)

-- ---- names

latest_over : (n : ℕ) (name : List ℕ) (ds : List Declaration) → AreBoundOver n ds → IfSome (latest name ds) (λ d. IsBoundOver n d.value)
unfolding latest
latest_over n name [] all = tt
latest_over n name (d ∷ ds) all = first_some _ (latest name ds) (if bytes_eq d.name name then Some d else None) (latest_over n name ds all.1) (this_one _ (bytes_eq d.name name) d all.0)

chain_over : (n : ℕ) (d : Declaration) (v : Option Value) → IsBoundOver n v → IfSome {T = Declaration × Value} (option_and_then (λ x. Some (d, x)) v) (λ p. IsValueOver n p.1)
chain_over n d None over = tt
chain_over n d (Some v) over = over

if_latest : (n : ℕ) (d : Option Declaration) → IfSome d (λ x. IsBoundOver n x.value) → IfSome {T = Declaration × Value} (option_and_then if_chain d) (λ p. IsValueOver n p.1)
if_latest n None over = tt
if_latest n (Some d) over = chain_over n d d.value over

bound_over : (n : ℕ) (name : List ℕ) (ds : List Declaration) → AreBoundOver n ds → IfSome {T = Declaration × Value} (bound name ds) (λ p. IsValueOver n p.1)
unfolding bound
bound_over n name ds all = if_latest n (latest name ds) (latest_over n name ds all)

if_bound_over : (n : ℕ) (hs : List Handler) (name : List ℕ) (at : ℕ) (d : Option (Declaration × Value)) → IfSome {T = Declaration × Value} d (λ p. IsValueOver n p.1) → IfOk (if_bound hs name at d) (IsValueOver n)
if_bound_over n hs name at None over = tt
if_bound_over n hs name at (Some (d, v)) over = either _ (is_this v && not (bytes_eq d.under (places_of hs))) (Err (ThisOutside at)) (Ok v) tt over

pub used_over : (n : ℕ) (scope : Scope) (name : List ℕ) (at : ℕ) → AreBoundOver n scope.declarations → IfOk (used scope name at) (IsValueOver n)
unfolding used
used_over n scope name at all = if_bound_over n scope.handlers name at (bound name scope.declarations) (bound_over n name scope.declarations all)

pub this_over : (n : ℕ) (scope : Scope) (at : ℕ) → IfOk (this_at scope at) (IsExactOver n)
this_over n scope at = either _ scope.has_this _ _ (tt, tt) tt
