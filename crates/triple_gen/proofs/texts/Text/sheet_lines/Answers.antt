use Rattle.std.proofs.lemmas.Result.{on_ok_weaker}
use Rattle.triple_gen.proofs.LineLemmas.{sheet_lines_is}
use Rattle.triple_gen.proofs.texts.Text.sheet_lines.Goals as goal

pub returns : goal.returns
returns c =
    on_ok_weaker c.put-2.result
    (λ last. sheet_lines_is c.args.i c.args.self.now _ _ _ _ _ _ _ c.in_ok-sheet_line.ensures c.in_ok-put_with.ensures c.in_ok-put.ensures c.in_ok-put_with-2.ensures c.in_ok-sheet_line-2.ensures c.in_ok-put_with-3.ensures last)
    c.put-2.ensures
