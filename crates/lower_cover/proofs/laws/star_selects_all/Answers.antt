use Rattle.jq_stmts.specs.Views.{statement_of}
use Rattle.lower_cover.proofs.StarLemmas.{star_selects}
use Rattle.lower_cover.proofs.laws.star_selects_all.Goals as goal

pub returns : goal.returns
returns c = star_selects (statement_of c.args.s.now) c.requires.star
