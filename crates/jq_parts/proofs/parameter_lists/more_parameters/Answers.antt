use Rattle.std.proofs.Common.{sym, ◌∙◌}
use Rattle.std.proofs.lemmas.Result.{err_from_is_err_and}
use Rattle.jq_words.proofs.Files.{of_rest, is_rest, behind_behind}
use Rattle.jq_parts.specs.Views.{declarations_of}
use Rattle.jq_parts.proofs.ParameterSteps.{goes_on, fails}
use Rattle.jq_parts.proofs.parameter_lists.more_parameters.Goals as goal

pub names-preserved : goal.names-preserved
names-preserved c =
    let behind = behind_behind c.names.words c.pass.new.self c.want_name.new.self c.pass.ensures.rest c.in_ok-name.ensures.rest in
    let found = rw (c.pass.ensures.passed, c.names.invariant.rest.size) at c.in_ok-name.ensures.gives in
    let here = sym (rw c.words.ensures at c.names-test.ensures.gives) in
    let one = goes_on c.args.words.now.size (declarations_of c.names.declarations) c.names.words.words c.want_name.new.self.words c.in_ok-name.name.now here found in
    record {
      rest = of_rest _ _ _ c.names.invariant.rest (is_rest _ _ behind);
      reads = rw c.in_ok-hide.ensures.hidden (sym one ∙ c.names.invariant.reads);
    }

pub returns-in_err-name-clause-gives : goal.returns-in_err-name-clause-gives
returns-in_err-name-clause-gives c =
    let p = err_from_is_err_and c.from_residual.result c.from_residual.ensures.1 in
    let here = sym (rw c.words.ensures at c.names-test.ensures.gives) in
    rw (p.1, p.2) (λ known. let found = rw (c.pass.ensures.passed, c.names.invariant.rest.size) at (c.in_err-name.ensures.gives known) in
    sym c.names.invariant.reads ∙ fails c.args.words.now.size (declarations_of c.names.declarations) c.names.words.words _ here found)
