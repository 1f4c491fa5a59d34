use Rattle.widen_sheet.proofs.SameSheets.{same_sheet}
use Rattle.widen_sheet.proofs.laws.widening_keeps_the_sheet.Goals as goal

pub returns : goal.returns
returns c = same_sheet c.args.text.now
