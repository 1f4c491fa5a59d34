use Rattle.std.proofs.Common.{◌∙◌}
use Rattle.tp_io.proofs.LoadListLemmas.{failed_last}
use Rattle.tp_io.proofs.load_list.LoadList.fail_last.Goals as goal

pub returns : goal.returns
returns c = λ before name was.
    failed_last c.self.inside.entries.items c.len-last.result before name c.index_mut.result.now
    (c.len-last.ensures ∙ c.self.inside.entries.ok.0) (c.self.view_is ∙ was) c.index_mut.ensures.value
