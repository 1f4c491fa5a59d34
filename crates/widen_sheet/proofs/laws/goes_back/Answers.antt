use Rattle.widen_sheet.proofs.SheetPieces.{goes_back_from}
use Rattle.widen_sheet.proofs.laws.goes_back.Goals as goal

pub returns : goal.returns
returns c = goes_back_from c.args.text.now
