use Rattle.std.proofs.Common.{rules, ◌≡◌, map, ◌∙◌}
use Rattle.std.specs.Prelude.{string_bytes}
use Rattle.std.proofs.lemmas.Result.{IfOk-weaker}
use Rattle.clap.specs.Simple.{app_of}
use Rattle.clap.specs.Values.{kind_of}
use Rattle.clap.specs.declared.error.kind.ErrorKind.TheVariants.{OutOfMemory}
use Rattle.command_words.proofs.WordLemmas.{are_taken, are_refused, all_spelt}
use Rattle.command_words.proofs.LawLemmas.{one, named, few, short, in_range}
use Rattle.command_words.proofs.words.read_words.Goals as goal

pub returns-in-Ok-clause-order : goal.returns-in-Ok-clause-order
returns-in-Ok-clause-order c =
    let taken = are_taken (app_of c.in_ok-command.command) (map string_bytes c.args.words.now) c.in-Ok.matches c.in_ok-command.ensures (all_spelt c.args.words.now) c.in-Ok.ensures.kinds (λ s. (c.in-Ok.ensures.matches s).0) in
    IfOk-weaker c.ordered.result _ _ (λ o h. taken.ordered ∙ h taken.parts taken.says) c.ordered.ensures.order

pub returns-in-Ok-clause-one : goal.returns-in-Ok-clause-one
returns-in-Ok-clause-one c = IfOk-weaker c.ordered.result _ _ (λ o h. one (map string_bytes c.args.words.now) o h) (returns-in-Ok-clause-order c)

pub returns-in-Ok-clause-named : goal.returns-in-Ok-clause-named
returns-in-Ok-clause-named c = IfOk-weaker c.ordered.result _ _ (λ o h. named (map string_bytes c.args.words.now) o h) (returns-in-Ok-clause-order c)

pub returns-in-Ok-clause-few : goal.returns-in-Ok-clause-few
returns-in-Ok-clause-few c = IfOk-weaker c.ordered.result _ _ (λ o h. few (map string_bytes c.args.words.now) o h) (returns-in-Ok-clause-order c)

pub returns-in-Ok-clause-short : goal.returns-in-Ok-clause-short
returns-in-Ok-clause-short c = IfOk-weaker c.ordered.result _ _ (λ o h. short (map string_bytes c.args.words.now) o h) (returns-in-Ok-clause-order c)

pub returns-in-Ok-clause-in_range : goal.returns-in-Ok-clause-in_range
returns-in-Ok-clause-in_range c = IfOk-weaker c.ordered.result _ _ (λ o h. in_range (map string_bytes c.args.words.now) o h) (returns-in-Ok-clause-order c)

pub returns-in-Ok-clause-words : goal.returns-in-Ok-clause-words
returns-in-Ok-clause-words c = λ err.
    let taken = are_taken (app_of c.in_ok-command.command) (map string_bytes c.args.words.now) c.in-Ok.matches c.in_ok-command.ensures (all_spelt c.args.words.now) c.in-Ok.ensures.kinds (λ s. (c.in-Ok.ensures.matches s).0) in
    taken.ordered ∙ c.ordered.ensures.words err taken.parts taken.says

pub returns-in-Err-2-clause-words : goal.returns-in-Err-2-clause-words
returns-in-Err-2-clause-words c = λ err.
    let other : kind_of c.in-Err.error ≡ OutOfMemory → ⊥ = search rules in
    are_refused (app_of c.in_ok-command.command) (map string_bytes c.args.words.now) c.in-Err.error c.in_ok-command.ensures (all_spelt c.args.words.now) c.in-Err.ensures.kinds other
