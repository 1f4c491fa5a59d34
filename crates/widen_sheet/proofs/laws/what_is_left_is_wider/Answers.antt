use Rattle.widen_sheet.proofs.WiderLemmas.{is_wider}
use Rattle.widen_sheet.proofs.laws.what_is_left_is_wider.Goals as goal

pub returns : goal.returns
returns c = is_wider c.args.tree.now
