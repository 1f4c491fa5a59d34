use Rattle.std.proofs.Common.{◌-◌, Ok, refl, sym, ap, ◌∙◌, arith}
use Rattle.std.proofs.lemmas.Result.{err_from_is_err_and}
use Rattle.sel_text.proofs.Fronts.{front_itself, front_of_front}
use Rattle.jq_words.proofs.Files.{of_rest, is_rest, rest_behind, behind_rest, behind_behind}
use Rattle.jq_parts.specs.Scopes.{places_of}
use Rattle.jq_parts.proofs.HandlerSteps.{back}
use Rattle.jq_read.specs.States.{Context}
use Rattle.jq_read.specs.Statements.{block}
use Rattle.jq_words.specs.Results.{IsBehind}
use Rattle.jq_read.specs.Readers.{context_of, state_of, GoesOn}
use Rattle.jq_read.proofs.SequenceSteps.{goes_on, fails, still_counted, over, file_ends, block_refused, block_fails}
use Rattle.jq_read.proofs.GoingOn.{same_size, with_words, both}
use Rattle.jq_read.proofs.ChainSteps as chain_steps
use Rattle.jq_read.proofs.DeclarationSteps as declaration_steps
use Rattle.jq_read.proofs.SeveralSteps as several_steps
use Rattle.jq_read.proofs.+grammar.Goals as goal

-- ---- loops

pub sequences::sequence-statements-preserved : goal.sequences::sequence-statements-preserved
sequences::sequence-statements-preserved t c =
    let here = rw c.words.ensures at c.in-Some.ensures.some in
    let few = rw c.words.ensures at c.in-Some.ensures.few in
    let read = rw c.statements.invariant.goes_on.kept at c.in_ok-between.ensures.gives in
    let on = sym c.if-is_over.ensures in
    record {
      goes_on = both c.statements.invariant.goes_on c.in_ok-between.ensures.goes_on (of_rest _ _ _ c.statements.invariant.goes_on.rest (is_rest _ _ c.in_ok-between.ensures.goes_on.rest));
      counted = still_counted c.args.in_block (block c.args.room) c.args.room (context_of c.args.reading.now) c.statements.between c.in_ok-between.between _ _ c.in-Some.word c.statements.reading.words.words c.turn.new.reading.words.words here few read c.in_ok-between.ensures.goes_on.rest.left c.statements.invariant.counted;
      reads = goes_on c.args.in_block (block c.args.room) c.args.room (context_of c.args.reading.now) c.statements.between c.in_ok-between.between _ _ c.in-Some.word c.statements.reading.words.words c.turn.new.reading.words.words _ c.statements.invariant.reads here on read c.in_ok-between.ensures.goes_on.rest.left;
    }

pub sequences::sequence-returns-in_err-between-clause-gives : goal.sequences::sequence-returns-in_err-between-clause-gives
sequences::sequence-returns-in_err-between-clause-gives t c =
    let here = rw c.words.ensures at c.in-Some.ensures.some in
    let p = err_from_is_err_and c.from_residual.result c.from_residual.ensures.1 in
    rw (p.1, p.2) (λ known. let read = rw c.statements.invariant.goes_on.kept at (c.in_err-between.ensures.gives known) in
    fails c.args.in_block (block c.args.room) c.args.room (context_of c.args.reading.now) c.statements.between _ c.in-Some.word c.statements.reading.words.words _ _ c.statements.invariant.reads here (sym c.if-is_over.ensures) read)

pub sequences::sequence-returns-then-is_over-clause-gives : goal.sequences::sequence-returns-then-is_over-clause-gives
sequences::sequence-returns-then-is_over-clause-gives t c =
    let here = rw c.words.ensures at c.in-Some.ensures.some in
    over c.args.in_block (block c.args.room) c.args.room (context_of c.args.reading.now) c.statements.between _ c.in-Some.word c.statements.reading.words.words _ c.statements.invariant.reads here (sym c.if-is_over.ensures)

pub sequences::sequence-returns-clause-gives : goal.sequences::sequence-returns-clause-gives
sequences::sequence-returns-clause-gives t c =
    let none = rw c.words.ensures at c.in_default.ensures.none in
    file_ends c.args.in_block (block c.args.room) c.args.room (context_of c.args.reading.now) c.at_file_end.result c.statements.between (state_of c.statements.reading) c.statements.reading.words.words _ c.statements.invariant.reads none
    (c.at_file_end.ensures.gives (context_of c.args.reading.now) (state_of c.statements.reading) (sym c.statements.invariant.goes_on.rest.size))

pub chains::calls-calls-preserved : goal.chains::calls-calls-preserved
chains::calls-calls-preserved t c =
    let dot = sym (rw c.words.ensures at c.calls-test.ensures.gives) in
    let read = rw c.calls.invariant.goes_on.kept at c.in_ok-so_far.ensures.gives in
    record {
      goes_on = both c.calls.invariant.goes_on c.in_ok-so_far.ensures.goes_on (of_rest _ _ _ c.calls.invariant.goes_on.rest (is_rest _ _ c.in_ok-so_far.ensures.goes_on.rest));
      reads = sym (chain_steps.goes_on (block c.args.room 1) c.args.room (context_of c.args.reading.now) _ _ _ _ c.calls.reading.words.words c.call.new.reading.words.words dot read c.in_ok-so_far.ensures.goes_on.rest.left) ∙ c.calls.invariant.reads;
    }

pub chains::calls-returns-in_err-so_far-clause-gives : goal.chains::calls-returns-in_err-so_far-clause-gives
chains::calls-returns-in_err-so_far-clause-gives t c =
    let dot = sym (rw c.words.ensures at c.calls-test.ensures.gives) in
    let p = err_from_is_err_and c.from_residual.result c.from_residual.ensures.1 in
    rw (p.1, p.2) (λ known. let read = rw c.calls.invariant.goes_on.kept at (c.in_err-so_far.ensures.gives known) in
    sym c.calls.invariant.reads ∙ chain_steps.fails (block c.args.room 1) c.args.room (context_of c.args.reading.now) _ _ c.calls.reading.words.words _ dot read)

pub declarations::more_ones-ones-preserved : goal.declarations::more_ones-ones-preserved
declarations::more_ones-ones-preserved t c =
    let comma = sym (rw c.words.ensures at c.ones-test.ensures.gives) in
    let read = rw (c.pass.ensures.passed, c.ones.invariant.goes_on.kept) at c.in_ok-one.ensures.gives in
    let behind = rw c.pass.ensures.passed at c.in_ok-one.ensures.goes_on.rest.left in
    record {
      goes_on = both c.ones.invariant.goes_on c.in_ok-one.ensures.goes_on (of_rest _ _ _ c.ones.invariant.goes_on.rest (is_rest _ _ (behind_behind _ _ _ c.pass.ensures.rest c.in_ok-one.ensures.goes_on.rest)));
      reads = sym (declaration_steps.goes_on (block c.args.room) c.args.room (context_of c.args.reading.now) _ _ c.ones.reading.words.words c.one.new.reading.words.words comma read behind) ∙ c.ones.invariant.reads;
    }

pub declarations::more_ones-returns-in_err-one-clause-gives : goal.declarations::more_ones-returns-in_err-one-clause-gives
declarations::more_ones-returns-in_err-one-clause-gives t c =
    let comma = sym (rw c.words.ensures at c.ones-test.ensures.gives) in
    let p = err_from_is_err_and c.from_residual.result c.from_residual.ensures.1 in
    rw (p.1, p.2) (λ known. let read = rw (c.pass.ensures.passed, c.ones.invariant.goes_on.kept) at (c.in_err-one.ensures.gives known) in
    sym c.ones.invariant.reads ∙ declaration_steps.fails (block c.args.room) c.args.room (context_of c.args.reading.now) _ c.ones.reading.words.words _ comma read)

pub chains::several-arguments-preserved : goal.chains::several-arguments-preserved
chains::several-arguments-preserved t c =
    let read = rw c.arguments.invariant.goes_on.kept at c.in_ok-handed.ensures.gives in
    let comma = rw (c.in_ok-handed.ensures.goes_on.rest.size, c.arguments.invariant.goes_on.rest.size) at c.in_ok-pass_comma.ensures.gives in
    record {
      goes_on = both c.arguments.invariant.goes_on c.in_ok-handed.ensures.goes_on (of_rest _ _ _ c.arguments.invariant.goes_on.rest (of_rest _ _ _ (is_rest _ _ c.in_ok-handed.ensures.goes_on.rest) c.in_ok-pass_comma.ensures.rest));
      reads = sym (several_steps.goes_on c.args.lists (block c.args.room 0) c.args.room (context_of c.args.reading.now) _ c.arguments.left (c.arguments.left - 1) _ _ c.arguments.reading.words.words c.handed.new.reading.words.words c.pass_comma.new.words.words (omega (arith, c.arguments-test.true)) read comma) ∙ c.arguments.invariant.reads;
    }

pub chains::several-returns-in_err-handed-clause-gives : goal.chains::several-returns-in_err-handed-clause-gives
chains::several-returns-in_err-handed-clause-gives t c =
    let p = err_from_is_err_and c.from_residual.result c.from_residual.ensures.1 in
    rw (p.1, p.2) (λ known. let read = rw c.arguments.invariant.goes_on.kept at (c.in_err-handed.ensures.gives known) in
    sym c.arguments.invariant.reads ∙ several_steps.fails c.args.lists (block c.args.room 0) c.args.room (context_of c.args.reading.now) _ c.arguments.left (c.arguments.left - 1) _ c.arguments.reading.words.words _ (omega (arith, c.arguments-test.true)) read)

pub chains::several-returns-in_err-pass_comma-clause-gives : goal.chains::several-returns-in_err-pass_comma-clause-gives
chains::several-returns-in_err-pass_comma-clause-gives t c =
    let p = err_from_is_err_and c.from_residual-in_err-pass_comma.result c.from_residual-in_err-pass_comma.ensures.1 in
    let read = rw c.arguments.invariant.goes_on.kept at c.in_ok-handed.ensures.gives in
    rw (p.1, p.2) (λ known. let comma = rw (c.in_ok-handed.ensures.goes_on.rest.size, c.arguments.invariant.goes_on.rest.size) at (c.in_err-pass_comma.ensures.gives known) in
    sym c.arguments.invariant.reads ∙ several_steps.comma_fails c.args.lists (block c.args.room 0) c.args.room (context_of c.args.reading.now) _ c.arguments.left (c.arguments.left - 1) _ _ c.arguments.reading.words.words c.handed.new.reading.words.words _ (omega (arith, c.arguments-test.true)) read comma)

-- ---- blocks

pub sequences::block-returns-in_err-want_open-clause-gives : goal.sequences::block-returns-in_err-want_open-clause-gives
sequences::block-returns-in_err-want_open-clause-gives t c =
    let p = err_from_is_err_and c.from_residual.result c.from_residual.ensures.1 in
    rw (p.1, p.2) (λ known. block_refused c.args.room (context_of c.args.reading.now) (state_of c.args.reading.now) c.args.reading.now.words.words _ (c.in_err-want_open.ensures.gives known))

pub sequences::block-returns-in_err-sequence-clause-gives : goal.sequences::block-returns-in_err-sequence-clause-gives
sequences::block-returns-in_err-sequence-clause-gives t c =
    let p = err_from_is_err_and c.from_residual-in_err-sequence.result c.from_residual-in_err-sequence.ensures.1 in
    rw (p.1, p.2) (λ known. let within = rw c.in_ok-want_open.ensures.rest.size at (c.in_err-sequence.ensures.gives known) in
    block_fails c.args.room (context_of c.args.reading.now) (state_of c.args.reading.now) c.args.reading.now.words.words _ _ c.in_ok-want_open.ensures.opened c.in_ok-want_open.ensures.gives within)

-- ---- what calls keep

pub bodies::function-returns-clause-goes_on : goal.bodies::function-returns-clause-goes_on
bodies::function-returns-clause-goes_on t c =
    with_words c.in_ok-function_body.ensures.goes_on (behind_behind _ _ _ c.in_ok-want_function.ensures.rest (rest_behind _ _ _ c.pass_name.ensures.rest c.in_ok-function_body.ensures.goes_on.rest))

pub bodies::bracketed-returns-clause-goes_on : goal.bodies::bracketed-returns-clause-goes_on
bodies::bracketed-returns-clause-goes_on t c =
    with_words c.in_ok-function.ensures.goes_on (behind_behind _ _ _ c.in_ok-want_open.ensures.rest (behind_behind _ _ _ c.in_ok-function.ensures.goes_on.rest c.in_ok-want.ensures.rest))

pub bodies::once-returns-clause-goes_on : goal.bodies::once-returns-clause-goes_on
bodies::once-returns-clause-goes_on t c =
    with_words c.in_ok-bracketed.ensures.goes_on (behind_behind _ _ _ c.in_ok-bracketed.ensures.goes_on.rest (behind_rest _ _ _ c.in_ok-called_with.ensures.rest c.in_ok-end.ensures.rest))

pub bodies::timer-returns-clause-goes_on : goal.bodies::timer-returns-clause-goes_on
bodies::timer-returns-clause-goes_on t c =
    with_words c.in_ok-handed.ensures.goes_on
    (behind_behind _ _ _ c.in_ok-want_open.ensures.rest (behind_behind _ _ _ c.in_ok-handed.ensures.goes_on.rest (rest_behind _ _ _ c.in_ok-and_list.ensures.rest (behind_rest _ _ _ c.in_ok-want.ensures.rest c.in_ok-end.ensures.rest))))

pub declarations::declaration-returns-clause-goes_on : goal.declarations::declaration-returns-clause-goes_on
declarations::declaration-returns-clause-goes_on t c =
    both c.in_ok-one.ensures.goes_on c.in_ok-more_ones.ensures.goes_on (behind_rest _ _ _ c.in_ok-one.ensures.goes_on.rest (of_rest _ _ _ c.in_ok-more_ones.ensures.goes_on.rest c.in_ok-end.ensures.rest))

pub bodies::function_body-returns-clause-goes_on : goal.bodies::function_body-returns-clause-goes_on
bodies::function_body-returns-clause-goes_on t c =
    let left = behind_behind _ _ _ c.in_ok-parameters.ensures.rest c.in_ok-block.ensures.goes_on.rest in
    let size = left.size in
    record { rest = left; kept = grind (arith, back, size); front = c.in_ok-block.ensures.goes_on.front }

pub bodies::named_function-returns-clause-goes_on : goal.bodies::named_function-returns-clause-goes_on
bodies::named_function-returns-clause-goes_on t c =
    with_words c.in_ok-function_body.ensures.goes_on (behind_behind _ _ _ c.in_ok-want_name.ensures.rest c.in_ok-function_body.ensures.goes_on.rest)

pub chains::listen_arguments-returns-clause-goes_on : goal.chains::listen_arguments-returns-clause-goes_on
chains::listen_arguments-returns-clause-goes_on t c =
    both c.in_ok-elements.ensures.goes_on c.in_ok-handed.ensures.goes_on (behind_behind _ _ _ c.in_ok-elements.ensures.goes_on.rest c.in_ok-handed.ensures.goes_on.rest)

pub chains::call-returns-clause-goes_on : goal.chains::call-returns-clause-goes_on
chains::call-returns-clause-goes_on t c =
    let inside = c.in_ok-done.ensures.goes_on in
    let left = behind_behind _ _ _ c.in_ok-row.ensures.rest (behind_behind _ _ _ c.in_ok-want_open.ensures.rest (rest_behind _ _ _ inside.rest c.in_ok-want.ensures.rest)) in
    let whole : GoesOn IsBehind c.args.reading.now (record c.call_arguments.new.reading { words = c.want.new.self }) (Ok (tt {0})) = with_words inside left in
    record {
      rest = rw c.in_ok-and_stated.ensures.words left;
      kept = c.in_ok-and_stated.ensures.kept ∙ whole.kept;
      front = front_of_front _ _ _ inside.front c.in_ok-and_stated.ensures.front;
    }

pub declarations::one-returns-clause-gives : goal.declarations::one-returns-clause-gives
declarations::one-returns-clause-gives t c =
    rw c.in_ok-declare.ensures.words
    (declaration_steps.one_reads (block c.args.room) c.args.room (context_of c.args.reading.now) _ _ _ _ _ _ _ _ (context_of c.value_behind.new.reading).handlers
    c.in_ok-name.ensures.gives (rw c.in_ok-name.ensures.rest.size at c.in_ok-value.ensures.gives) (ap (λ (x : Context). places_of x.handlers) c.in_ok-value.ensures.goes_on.kept) c.in_ok-declare.ensures.declared)

pub declarations::value_behind-returns-then-begins_name-clause-goes_on : goal.declarations::value_behind-returns-then-begins_name-clause-goes_on
declarations::value_behind-returns-then-begins_name-clause-goes_on t c =
    with_words c.in_ok-function.ensures.goes_on (is_rest _ _ (behind_behind _ _ _ c.pass.ensures.rest c.in_ok-function.ensures.goes_on.rest))

pub declarations::value_behind-returns-then-branch-clause-goes_on : goal.declarations::value_behind-returns-then-branch-clause-goes_on
declarations::value_behind-returns-then-branch-clause-goes_on t c =
    with_words c.in_ok-value.ensures.goes_on (is_rest _ _ (behind_behind _ _ _ c.pass.ensures.rest c.in_ok-value.ensures.goes_on.rest))

pub declarations::value_behind-returns-clause-goes_on : goal.declarations::value_behind-returns-clause-goes_on
declarations::value_behind-returns-clause-goes_on t c =
    let left = is_rest _ _ (behind_behind _ _ _ c.pass.ensures.rest c.in_ok-list_in.ensures.rest) in
    record { rest = left; kept = same_size (context_of c.args.reading.now) _ left.size; front = front_itself _ _ refl }
