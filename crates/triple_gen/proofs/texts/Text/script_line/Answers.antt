use Rattle.std.proofs.lemmas.Result.{on_ok_weaker}
use Rattle.triple_gen.proofs.LineLemmas.{script_line_is}
use Rattle.triple_gen.proofs.texts.Text.script_line.Goals as goal

pub returns : goal.returns
returns c =
    on_ok_weaker c.put.result (λ last. script_line_is c.args.i c.args.next c.args.self.now _ _ _ _ c.in_ok-put_with.ensures c.in_ok-put_with-2.ensures c.in_ok-put_with-3.ensures last) c.put.ensures
