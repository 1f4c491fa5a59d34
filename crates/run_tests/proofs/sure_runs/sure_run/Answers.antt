use Rattle.std.proofs.Common.{map, string_bytes}
use Rattle.run_tests.proofs.SureLemmas.{is_sure}
use Rattle.run_tests.proofs.sure_runs.sure_run.Goals as goal

pub returns : goal.returns
returns c =
    let e = c.treeped.ensures in
    is_sure (map string_bytes c.args.words.now) c.args.files.now c.treeped.new.files c.args.out.now c.treeped.new.out c.args.err.now c.treeped.new.err c.treeped.result e.headline e.ended e.causes
