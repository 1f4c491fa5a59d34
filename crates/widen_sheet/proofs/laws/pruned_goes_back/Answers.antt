use Rattle.widen_sheet.proofs.PutBackSheets.{put_back_sheet}
use Rattle.widen_sheet.proofs.laws.pruned_goes_back.Goals as goal

pub returns : goal.returns
returns c = put_back_sheet c.args.text.now
