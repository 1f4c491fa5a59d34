use Rattle.jq_stmts.specs.Views.{statement_of}
use Rattle.rule_translate.proofs.TranslationLemmas.{guard_selects_is}
use Rattle.rule_translate.proofs.laws.guard_selects.Goals as goal

pub returns : goal.returns
returns c = guard_selects_is c.args.tree.now (statement_of c.args.s.now)
