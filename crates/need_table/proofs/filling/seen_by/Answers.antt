use Rattle.std.proofs.Common.{◌≡◌, List, IfOk, map, drop, slice_get, ap, ◌∙◌, subst, arith}
use Rattle.std.specs.List.{filter}
use Rattle.tp_base.specs.Classes.{has_class, union_of}
use Rattle.simple_core.specs.declared.summaries.First.{First}
use Rattle.need_table.specs.declared.entries.Entry.{Entry}
use Rattle.need_table.specs.Tables.{atoms_from}
use Rattle.need_table.proofs.ChildLemmas.{some_at}
use Rattle.need_table.proofs.SeenLemmas.{seen_all}
use Rattle.need_table.proofs.filling.seen_by.Goals as goal

pub returns-in-Some : goal.returns-in-Some
returns-in-Some c =
    let x = c.args.entry.now in
    let before = c.in-Some.before.now in
    let known = c.in-Some.ensures in
    let e = some_at (λ (c : Entry). before ≡ c.parent) (slice_get c.args.entries.now known.0) known.2 in
    let is = c.requires.before (omega (arith, c.if-k-eq0.false)) known.0 e.0 known.1 e.1 in
    let new = ap (λ (z : List First). union_of before (filter (λ a. has_class a c.args.system.now.visible) (map (λ (f : First). f.atom) z))) (c.behind-fresh.ensures ∙ ap (drop c.args.place) c.deref.ensures.value) in
    subst (λ z. IfOk c.seen_further.result (λ s. s ≡ z)) (new ∙ seen_all c.args.system.now x e.0.parent before (atoms_from c.args.place x.firsts.items) is e.2 c.requires.rises) c.seen_further.ensures
