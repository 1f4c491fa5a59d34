use Rattle.std.proofs.Common.{ap, ◌++◌, ◌∙◌, map}
use Rattle.simple_core.specs.declared.summaries.First.{First}
use Rattle.need_table.proofs.GrowLemmas.{union_fresh}
use Rattle.need_table.proofs.entries.grow.Goals as goal

pub returns-clause-label : goal.returns-clause-label
returns-clause-label c = c.in_ok-move_to.ensures.set ∙ union_fresh c.args.label.now c.args.round c.args.given.now c.len-known.ensures.rising

pub returns-clause-firsts : goal.returns-clause-firsts
returns-clause-firsts c =
    c.in_ok-add_news.ensures ∙ ap (λ z. z ++ map (λ a. let f : First = record { atom = a; round = c.args.round } in f) c.deref.result.now) c.in_ok-make_room.ensures
    ∙ ap (λ z. c.args.firsts.now.items ++ map (λ a. let f : First = record { atom = a; round = c.args.round } in f) z) (c.deref.ensures.value ∙ c.in_ok-move_to.ensures.news)
