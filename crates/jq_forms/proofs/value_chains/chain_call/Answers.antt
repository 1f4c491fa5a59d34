use Rattle.std.proofs.Common.{◌∙◌}
use Rattle.jq_cursor.specs.ListViews.{extent_of}
use Rattle.jq_forms.proofs.ValueSteps.{one_call, no_other_call}
use Rattle.jq_forms.proofs.value_chains.chain_call.Goals as goal

pub returns-then-reads_with-clause-other : goal.returns-then-reads_with-clause-other
returns-then-reads_with-clause-other c =
    no_other_call c.args.exact c.args.words.now.words (extent_of c.in_ok-enclosed.enclosed)
    (rw c.words-2.ensures at c.begins_call.ensures ∙ c.if-not-begins_call.false)
    (rw (c.spelled-name.ensures.bytes, c.words.ensures) at c.is_known.ensures ∙ c.if-not-is_known.false)
    (rw (c.pass.ensures.passed, c.again-list.ensures) at c.in_ok-enclosed.ensures.gives)
    (rw (c.behind.ensures, c.words-3.ensures, c.pass.ensures.passed, c.again-list.ensures, c.spelled-name.ensures.bytes, c.words.ensures) at c.reads_with.ensures ∙ c.if-reads_with.true)

pub returns-clause-call : goal.returns-clause-call
returns-clause-call c =
    one_call c.args.exact c.args.words.now.words (extent_of c.in_ok-enclosed.enclosed)
    (rw c.words-2.ensures at c.begins_call.ensures ∙ c.if-not-begins_call.false)
    (rw (c.spelled-name.ensures.bytes, c.words.ensures) at c.is_known.ensures ∙ c.if-not-is_known.false)
    (rw (c.pass.ensures.passed, c.again-list.ensures) at c.in_ok-enclosed.ensures.gives)
    (rw (c.behind.ensures, c.words-3.ensures, c.pass.ensures.passed, c.again-list.ensures, c.spelled-name.ensures.bytes, c.words.ensures) at c.reads_with.ensures ∙ c.if-reads_with.false)
