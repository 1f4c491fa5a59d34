use Rattle.std.proofs.Common.{◌≡◌, if◌then◌else◌, Some, codes, subst}
use Rattle.clap.specs.Matches.{found_of, one_text}
use Rattle.command_words.proofs.ReadLemmas.{flag_text, flag_is}
use Rattle.command_words.specs.Orders as spec
use Rattle.command_words.proofs.matched.says.Goals as goal

pub returns : goal.returns
returns c = λ ps f said name. flag_is (spec.says f ps) c.get_flag.result (one_text (found_of c.args.matches.now) c.args.name.now) (subst (λ z. one_text (found_of c.args.matches.now) z ≡ Some (if spec.says f ps then codes "true" else codes "false")) name (flag_text ps c.args.matches.now said f)) c.get_flag.ensures.value c.get_flag.ensures.other
