use Rattle.std.proofs.Common.{◌≡◌, List, ℕ, length, Some, None, slice_get, refl, sym, ap, ◌∙◌}
use Rattle.std.proofs.lemmas.Option.{slice_get_read, slice_get_past}
use Rattle.tp_base.specs.Classes.{union_of}
use Rattle.simple_core.specs.Labels.{set_of, given_by_links}
use Rattle.simple_core.specs.declared.summaries.First.{First}
use Rattle.need_table.specs.Tables.{atoms_within}
use Rattle.need_table.proofs.GainLemmas.{given_here, given_none}
use Rattle.need_table.proofs.OrderLemmas.{part_atoms}
use Rattle.need_table.proofs.gaining.add_child.Goals as goal

pub returns-in_ok-add_firsts : goal.returns-in_ok-add_firsts
returns-in_ok-add_firsts c =
    let s = c.args.system.now in
    let entries = c.args.entries.now in
    let entry = c.in-Some.entry.now in
    let at : slice_get entries c.args.j ≡ Some entry = slice_get_read entries (length entries) c.args.j entry refl c.in-Some.ensures.lookup.3.0 c.in-Some.ensures.lookup.1 in
    c.in_ok-add_firsts.ensures
    ∙ ap (λ (z : List ℕ). union_of c.args.next.now (given_by_links s.down z)) (part_atoms c.deref.result.now c.within.result.now c.args.from c.args.to c.within.ensures ∙ ap (λ (fs : List First). set_of (atoms_within c.args.from c.args.to fs)) c.deref.ensures.value)
    ∙ ap (λ (z : List ℕ). union_of c.args.next.now z) (sym (given_here s entries c.args.from c.args.to c.args.j entry at))

pub returns-in_default : goal.returns-in_default
returns-in_default c =
    let entries = c.args.entries.now in
    let past : slice_get entries c.args.j ≡ None = slice_get_past entries c.args.j c.in_default.ensures.lookup.3 in
    ap (λ (z : List ℕ). union_of c.args.next.now z) (sym (given_none c.args.system.now entries c.args.from c.args.to c.args.j past))
