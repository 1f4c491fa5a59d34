use Rattle.proof_maker.proofs.MemoLemmas.{no_rows}
use Rattle.proof_maker.proofs.place_memo.PlaceMemo.new.Goals as goal

pub returns : goal.returns
returns c = λ s. no_rows s _ c.new.ensures
