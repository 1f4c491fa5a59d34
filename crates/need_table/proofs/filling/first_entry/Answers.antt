use Rattle.std.proofs.Common.{[], List, map, sym, ap, ◌∙◌, subst}
use Rattle.std.specs.List.Sorted.{IsStrictlyIncreasing}
use Rattle.simple_core.specs.declared.rules.Kind.{Kind}
use Rattle.simple_core.specs.Labels.{set_of}
use Rattle.simple_core.specs.declared.summaries.First.{First}
use Rattle.need_table.specs.Tables.{fresh_of}
use Rattle.need_table.proofs.GrowLemmas.{fresh_all}
use Rattle.need_table.proofs.filling.first_entry.Goals as goal

pub returns-clause-label : goal.returns-clause-label
returns-clause-label c =
    let label = c.index-kinds-kind.result.label in
    let here = c.index-kinds-kind.is in
    c.in_ok-copy-2.ensures ∙ ap (λ (k : Kind). k.label) (sym here) ∙ fresh_all label (subst (λ (k : Kind). IsStrictlyIncreasing k.label) (sym here) c.in_ok-firsts.ensures.rises)
    ∙ ap (λ (z : List First). set_of (map (λ (f : First). f.atom) z)) (ap (λ (k : Kind). fresh_of [] 0 k.label) here ∙ sym c.in_ok-firsts.ensures.firsts)
