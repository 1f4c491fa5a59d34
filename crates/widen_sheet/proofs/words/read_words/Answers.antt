use Rattle.std.proofs.Common.{rules, ◌≡◌, map, ◌∙◌}
use Rattle.std.specs.Prelude.{string_bytes}
use Rattle.std.proofs.lemmas.Result.{IfOk-weaker}
use Rattle.clap.specs.Simple.{app_of}
use Rattle.clap.specs.Values.{kind_of}
use Rattle.clap.specs.declared.error.kind.ErrorKind.TheVariants.{OutOfMemory}
use Rattle.widen_sheet.proofs.ValueLemmas.{taken, refused}
use Rattle.widen_sheet.proofs.words.read_words.Goals as goal

pub returns-in-Ok-clause-order : goal.returns-in-Ok-clause-order
returns-in-Ok-clause-order c =
    let same = taken (app_of c.in_ok-command.command) (map string_bytes c.args.words.now) c.in-Ok.matches c.in_ok-command.ensures c.in-Ok.ensures.kinds (λ s. (c.in-Ok.ensures.matches s).0) in
    IfOk-weaker c.ordered.result _ _ (λ o h. same ∙ h) c.ordered.ensures.order

pub returns-in-Ok-clause-words : goal.returns-in-Ok-clause-words
returns-in-Ok-clause-words c = λ err.
    taken (app_of c.in_ok-command.command) (map string_bytes c.args.words.now) c.in-Ok.matches c.in_ok-command.ensures c.in-Ok.ensures.kinds (λ s. (c.in-Ok.ensures.matches s).0) ∙ c.ordered.ensures.words err

pub returns-clause-words : goal.returns-clause-words
returns-clause-words c = λ err.
    let other : kind_of c.in-Err.error ≡ OutOfMemory → ⊥ = search rules in
    refused (app_of c.in_ok-command.command) (map string_bytes c.args.words.now) c.in-Err.error c.in_ok-command.ensures c.in-Err.ensures.kinds other
