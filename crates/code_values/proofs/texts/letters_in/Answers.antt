use Rattle.code_tokens.specs.Members.{letters_in}
use Rattle.code_values.proofs.TextSteps.{no_letters}
use Rattle.code_values.proofs.texts.letters_in.Goals as goal

pub returns : goal.returns
returns c = no_letters c.tokens.letters.items c.tokens.rest.now (letters_in c.args.tokens.now) c.tokens.invariant c.in_default.ensures.cases
