-- The statements of a script are over the table of names that reading leaves.
use Rattle.std.proofs.Common.{◌≡◌, ℕ, zero, suc, ◌-◌, Bool, true, false, List, [], ◌∷◌, ◌++◌, length, drop, Option, None, codes}
use Rattle.std.specs.Prelude.{Ok, IfOk}
use Rattle.std.proofs.lemmas.Result.{IfOk-at_ok, IfOk-weaker}
use Rattle.tp_base.specs.Names.{Named}
use Rattle.js_scan.specs.Tokens.{script_tokens}
use Rattle.jq_stmts.specs.Sharp.{ExactStatement, wides}
use Rattle.jq_stmts.specs.Statements.{Statement}
use Rattle.jq_words.specs.declared.faults.TheConstants.{MOST_OPEN}
use Rattle.jq_words.specs.Words.{Word, words, Outcome, is_mark, begins, begins_name, want, want_name, want_open, end}
use Rattle.jq_parts.specs.Bindings.{Value, Declaration, under_bound}
use Rattle.jq_parts.specs.Scopes.{places_of}
use Rattle.jq_forms.specs.Values.{is_chain}
use Rattle.jq_stmts.specs.Tables.{AreStatementsOver}
use Rattle.jq_forms.specs.declared.forms.StatementForm.{StatementForm}
use Rattle.jq_forms.specs.declared.forms.StatementForm.TheVariants as form
use Rattle.jq_read.specs.States.{Context, State, size}
use Rattle.jq_read.specs.Functions.{function_body, function, in_handler, handed, rules_in}
use Rattle.jq_read.specs.Chains.{chain}
use Rattle.jq_read.specs.Statements.{Blocks, and_end, bracketed, start, ready, once, timer, named_function, declared_value, value_behind, one, more_ones, declaration, chain_statement, with_state, statement_as, is_branch, form_at, statement, closes, sequence, no_block, braces, block, is_bound}
use Rattle.jq_words.specs.FreeLists.{free}
use Rattle.jq_forms.specs.ListParts.{called_with, and_list}
use Rattle.jq_forms.specs.Heads.{behind_document}
use Rattle.jq_read.specs.Script.{from_scan, at_top, nothing_read, script_of, script_with, script}
use Rattle.jq_parts.proofs.TableLaws.{and_then}
use Rattle.jq_read.proofs.ReadingLaws.{any_then, either, all_push}
use Rattle.jq_read.proofs.TableStates.{IsBoundOver, count, AreOver, IsLater, same, further}
use Rattle.jq_read.proofs.TableChains.{KeepsOver, bind, within, outside_over, body_over, in_handler_over, handed_over, chain_is_over}

-- ---- statements

module _ (blocks : Blocks) (keeps : (opened : ℕ) → KeepsOver (blocks opened)) where
  abbrev pub StateOver : Context → State → State × List Word → Type 0
  StateOver c s r = IsLater c s r.0

  end_over : (c : Context) (s t : State) (ws : List Word) → IsLater c s t → IfOk (and_end c t ws) (StateOver c s)
  end_over c s t ws later = any_then _ (end (size c) ws) _ (λ rest. later)

  pub more : (c : Context) (s t : State) (r : Outcome (State × List Word)) → IsLater c s t → IfOk r (StateOver c t) → IfOk r (StateOver c s)
  more c s t r later known = IfOk-weaker r (StateOver c t) (StateOver c s) (λ x others. further c s t x.0 later others) known

  bracketed_over : (room : ℕ) (c : Context) (s : State) (ws : List Word) → AreOver c s → IfOk (bracketed blocks room c s ws) (StateOver c s)
  unfolding bracketed
  bracketed_over room c s ws over =
      any_then _ (want_open (size c) room (codes "(") ws) _ (λ inside.
      and_then _ _ (function (blocks 1) (room - 1) (in_handler c None) s inside) _ (in_handler_over (blocks 1) (keeps 1) (room - 1) c None s inside tt over) (λ f later.
      any_then _ (want (size c) (codes ")") f.1) _ (λ rest. later)))

  start_over : (room : ℕ) (c : Context) (s : State) (ws : List Word) → AreOver c s → IfOk (start blocks room c s ws) (StateOver c s)
  unfolding start
  start_over room c s ws over = and_then _ _ (bracketed blocks room c s ws) _ (bracketed_over room c s ws over) (λ f later. end_over c s f.0 f.1 later)

  ready_over : (room : ℕ) (c : Context) (s : State) (ws : List Word) → AreOver c s → IfOk (ready blocks room c s ws) (StateOver c s)
  unfolding ready
  ready_over room c s ws over = any_then _ (behind_document (size c) room ws) _ (λ behind. start_over room c s behind over)

  once_over : (room : ℕ) (c : Context) (s : State) (ws : List Word) → AreOver c s → IfOk (once blocks room c s ws) (StateOver c s)
  unfolding once
  once_over room c s ws over =
      and_then _ _ (bracketed blocks room c s ws) _ (bracketed_over room c s ws over) (λ f later.
      any_then _ (called_with (size c) (rules_in c room false) f.1) _ (λ rest. end_over c s f.0 rest later))

  timer_over : (room : ℕ) (c : Context) (s : State) (ws : List Word) → AreOver c s → IfOk (timer blocks room c s ws) (StateOver c s)
  unfolding timer
  timer_over room c s ws over =
      any_then _ (want_open (size c) room (codes "(") ws) _ (λ inside.
      and_then _ _ (handed false (blocks 1) (room - 1) c None s inside) _ (handed_over (blocks 1) (keeps 1) false (room - 1) c None s inside tt over) (λ f later.
      any_then _ (and_list (size c) (rules_in c (room - 1) false) f.1) _ (λ rest.
      any_then _ (want (size c) (codes ")") rest) _ (λ behind. end_over c s f.0 behind later))))

  named_function_over : (room : ℕ) (c : Context) (s : State) (ws : List Word) → AreOver c s → IfOk (named_function blocks room c s ws) (StateOver c s)
  unfolding named_function
  named_function_over room c s ws over =
      any_then _ (want_name (size c) ws) _ (λ name.
      IfOk-weaker (function_body (blocks 0) room (in_handler c None) s name.1) (λ r. IsLater (in_handler c None) s r.0) (StateOver c s) (λ r later. outside_over c None s r.0 over later)
      (body_over (blocks 0) (keeps 0) room (in_handler c None) s name.1 (within c None s tt over)))

  -- the value of a declaration and the state behind it
  abbrev pub DeclaredOver : Context → State → Option Value × State × List Word → Type 0
  DeclaredOver c s r = IsLater c s r.1 × IsBoundOver (count r.1) r.0

  declared_over : (room : ℕ) (c : Context) (s : State) (ws : List Word) → AreOver c s → IfOk (declared_value blocks room c s ws) (DeclaredOver c s)
  unfolding declared_value
  declared_over room c s ws over =
      either _ (begins_name (codes "function") ws) _ _
      (and_then _ _ (function (blocks 0) room (in_handler c None) s ws) _ (in_handler_over (blocks 0) (keeps 0) room c None s ws tt over) (λ f later. (later, tt)))
      (either _ (is_chain c.exact (is_bound s ws) ws) _ _
      (and_then _ _ (chain (blocks 1) room c s ws) _ (chain_is_over (blocks 1) (keeps 1) room c s ws over) (λ r known. known))
      (any_then _ (free (size c) (rules_in c room false) ws) _ (λ rest. (same c s over, tt))))

  value_over : (room : ℕ) (c : Context) (s : State) (ws : List Word) → AreOver c s → IfOk (value_behind blocks room c s ws) (DeclaredOver c s)
  unfolding value_behind
  value_over room c s ws over = either _ (begins (codes "=") ws) _ _ (declared_over room c s (drop 1 ws) over) (same c s over, tt)

  one_over : (room : ℕ) (c : Context) (s : State) (ws : List Word) → AreOver c s → IfOk (one blocks room c s ws) (StateOver c s)
  unfolding one
  one_over room c s ws over =
      any_then _ (want_name (size c) ws) _ (λ name.
      and_then _ _ (value_behind blocks room c s name.1) _ (value_over room c s name.1 over) (λ v known.
      let d : Declaration = record { name = name.0; value = v.0; under = under_bound v.0 (places_of c.handlers) } in record {
        longer = known.0.longer;
        over = bind c v.1 (v.1.declarations ++ d ∷ []) (all_push (λ x. IsBoundOver (count v.1) x.value) v.1.declarations d known.0.over.bindings known.1) known.0.over;
      }))

  more_ones_over : (room : ℕ) (c : Context) (s : State) (skip : ℕ) (ws : List Word) → AreOver c s → IfOk (more_ones blocks room c s skip ws) (StateOver c s)
  unfolding more_ones
  more_ones_over room c s skip [] over = same c s over
  more_ones_over room c s (suc skip) (w ∷ ws) over = more_ones_over room c s skip ws over
  more_ones_over room c s zero (w ∷ ws) over =
      either _ (is_mark (codes ",") w) _ _
      (and_then _ _ (one blocks room c s ws) _ (one_over room c s ws over) (λ r later. more c s r.0 _ later (more_ones_over room c r.0 (length ws - length r.1) ws later.over)))
      (same c s over)

  declaration_over : (room : ℕ) (c : Context) (s : State) (ws : List Word) → AreOver c s → IfOk (declaration blocks room c s ws) (StateOver c s)
  unfolding declaration
  declaration_over room c s ws over =
      and_then _ _ (one blocks room c s ws) _ (one_over room c s ws over) (λ first later.
      and_then _ _ (more_ones blocks room c first.0 0 first.1) _ (more_ones_over room c first.0 0 first.1 later.over) (λ all others. end_over c s all.0 all.1 (further c s first.0 all.0 later others)))

  chain_statement_over : (room : ℕ) (c : Context) (s : State) (ws : List Word) → AreOver c s → IfOk (chain_statement blocks room c s ws) (StateOver c s)
  unfolding chain_statement
  chain_statement_over room c s ws over = and_then _ _ (chain (blocks 1) room c s ws) _ (chain_is_over (blocks 1) (keeps 1) room c s ws over) (λ r known. end_over c s r.1 r.2 known.0)

  list_over : (c : Context) (s : State) (r : Outcome (List Word)) → AreOver c s → IfOk (with_state s r) (StateOver c s)
  list_over c s r over = any_then _ r _ (λ rest. same c s over)

  statement_over : (f : StatementForm) (room : ℕ) (c : Context) (s : State) (ws : List Word) → AreOver c s → IfOk (statement_as f blocks room c s ws) (StateOver c s)
  unfolding statement_as
  statement_over form.Empty room c s ws over = same c s over
  statement_over form.Block room c s ws over = keeps 0 c s ws over
  statement_over form.Declaration room c s ws over = declaration_over room c s (drop 1 ws) over
  statement_over form.Function room c s ws over = named_function_over room c s (drop 1 ws) over
  statement_over form.Branch room c s ws over = list_over c s _ over
  statement_over form.Return room c s ws over = list_over c s _ over
  statement_over form.Start room c s ws over = start_over room c s (drop 1 ws) over
  statement_over form.Ready room c s ws over = ready_over room c s (drop 1 ws) over
  statement_over form.Chain room c s ws over = chain_statement_over room c s ws over
  statement_over form.Foreign room c s ws over = tt
  statement_over form.Timer room c s ws over = timer_over room c s (drop 1 ws) over
  statement_over form.Set room c s ws over = list_over c s _ over
  statement_over form.Once room c s ws over = once_over room c s ws over
  statement_over form.Free room c s ws over = list_over c s _ over

  whole_over : (room : ℕ) (c : Context) (s : State) (skip : ℕ) (ws : List Word) → AreOver c s → IfOk (statement blocks room c s skip ws) (StateOver c s)
  unfolding statement
  whole_over room c s skip [] over = tt
  whole_over room c s (suc skip) (w ∷ ws) over = whole_over room c s skip ws over
  whole_over room c s zero (w ∷ ws) over =
      and_then _ _ (statement_as (form_at s (w ∷ ws)) blocks room c s (w ∷ ws)) _ (statement_over (form_at s (w ∷ ws)) room c s (w ∷ ws) over) (λ begun later.
      either _ (is_branch (form_at s (w ∷ ws))) _ _
      (more c s begun.0 _ later
      (and_then _ _ (statement blocks room c begun.0 (length ws - length begun.1) ws) _ (whole_over room c begun.0 (length ws - length begun.1) ws later.over) (λ first others.
      either _ (begins_name (codes "else") first.1) _ _
      (more c begun.0 first.0 _ others (whole_over room c first.0 (length ws - length (drop 1 first.1)) ws others.over))
      others)))
      later)

  sequence_over : (in_block : Bool) (room : ℕ) (c : Context) (s : State) (skip : ℕ) (ws : List Word) → AreOver c s → IfOk (sequence in_block blocks room c s skip ws) (StateOver c s)
  unfolding sequence
  sequence_over in_block room c s skip [] over = either _ in_block _ _ tt (same c s over)
  sequence_over in_block room c s (suc skip) (w ∷ ws) over = sequence_over in_block room c s skip ws over
  sequence_over in_block room c s zero (w ∷ ws) over =
      either _ (closes in_block w) _ _ (same c s over)
      (and_then _ _ (statement blocks room c s 0 (w ∷ ws)) _ (whole_over room c s 0 (w ∷ ws) over) (λ r later. more c s r.0 _ later (sequence_over in_block room c r.0 (length ws - length r.1) ws later.over)))

-- ---- blocks and files

braces_over : (room : ℕ) (blocks : Blocks) → ((opened : ℕ) → KeepsOver (blocks opened)) → KeepsOver (braces room blocks)
unfolding braces
braces_over room blocks keeps c s ws over =
    any_then _ (want_open (size c) (suc room) (codes "{") ws) _ (λ inside.
    and_then _ _ (sequence true blocks room c s 0 inside) _ (sequence_over blocks keeps true room c s 0 inside over) (λ all later. later))

blocks_over : (room opened : ℕ) → KeepsOver (block room opened)
unfolding block no_block
blocks_over zero opened c s ws over = any_then _ (want_open (size c) 0 (codes "{") ws) _ (λ inside. same c s over)
blocks_over (suc room) (suc opened) c s ws over = blocks_over room opened c s ws over
blocks_over (suc room) zero c s ws over = braces_over room (block room) (blocks_over room) c s ws over

file_over : (exact : Bool) (text : List ℕ) (ws : List Word) (names : List Named) → IfOk (script_of exact text ws names) (λ r. AreStatementsOver (length r.1) (wides r.0))
unfolding script_of
file_over exact text ws names =
    and_then _ _ (sequence false (block MOST_OPEN) MOST_OPEN (at_top exact text ws) (nothing_read names) 0 ws) _
    (sequence_over (block MOST_OPEN) (blocks_over MOST_OPEN) false MOST_OPEN (at_top exact text ws) (nothing_read names) 0 ws (record { handlers = tt; statements = tt; bindings = tt }))
    (λ all later. later.over.statements)

script_over : (exact : Bool) (text : List ℕ) (names : List Named) → IfOk (script_with exact text names) (λ r. AreStatementsOver (length r.1) (wides r.0))
unfolding script_with
script_over exact text names = any_then _ (from_scan (script_tokens text)) _ (λ ts. file_over exact text (words text ts) names)

plain_over : (text : List ℕ) (names : List Named) → IfOk (script text names) (λ r. AreStatementsOver (length r.1) r.0)
unfolding script
plain_over text names = and_then _ _ (script_with false text names) _ (script_over false text names) (λ r known. known)

pub kept_over : (text : List ℕ) (names later : List Named) (ss : List Statement) → script text names ≡ Ok (ss, later) → AreStatementsOver (length later) ss
kept_over text names later ss is = IfOk-at_ok (λ r. AreStatementsOver (length r.1) r.0) is (plain_over text names)

pub exact_over : (text : List ℕ) (names later : List Named) (ss : List ExactStatement) → script_with true text names ≡ Ok (ss, later) → AreStatementsOver (length later) (wides ss)
exact_over text names later ss is = IfOk-at_ok (λ r. AreStatementsOver (length r.1) (wides r.0)) is (script_over true text names)
