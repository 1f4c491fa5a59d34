use Rattle.std.proofs.lemmas.Result.{on_ok_weaker}
use Rattle.triple_gen.proofs.LineLemmas.{page_line_is}
use Rattle.triple_gen.proofs.texts.Text.page_line.Goals as goal

pub returns : goal.returns
returns c = on_ok_weaker c.put.result (λ last. page_line_is c.args.i c.args.self.now _ _ _ c.in_ok-put_with.ensures c.in_ok-put_with-2.ensures last) c.put.ensures
