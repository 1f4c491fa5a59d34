use Rattle.std.proofs.Common.{List, Contains, map, drop, sym, ◌∙◌, ap, subst, arith}
use Rattle.simple_core.specs.declared.summaries.First.{First}
use Rattle.tree_sem.proofs.NodeLemmas.{Contains-map}
use Rattle.rule_index.specs.Asking.{AreMetBy}
use Rattle.need_table.proofs.GainLemmas.{met_whole}
use Rattle.need_table.proofs.gaining.add_own.Goals as goal

pub add_local-requires : goal.add_local-requires
add_local-requires c = met_whole c.args.system.now.local c.args.entry.now.label

pub add_later-requires-clause-met : goal.add_later-requires-clause-met
add_later-requires-clause-met c =
    subst (λ (z : List First). AreMetBy c.args.system.now.local c.args.entry.now.label (map (λ (f : First). f.atom) z)) (sym (c.behind.ensures ∙ ap (drop c.args.place) c.deref.ensures.value))
    (c.requires.met (omega (arith, c.if-k-eq0.false)))

pub add_later-requires-clause-within : goal.add_later-requires-clause-within
add_later-requires-clause-within c = λ f there.
    c.requires.within f.atom (Contains-map (λ (f : First). f.atom) (drop c.args.place c.args.entry.now.firsts.items) f (subst (λ (z : List First). Contains z f) (c.behind.ensures ∙ ap (drop c.args.place) c.deref.ensures.value) there))
