use Rattle.std.proofs.Common.{◌≡◌, ◌+◌, ◌++◌, map, length, Some, None, refl, sym, ap, inl, inr, ◌∙◌, arith}
use Rattle.std.proofs.lemmas.Bool.{both_ways, ltb-false}
use Rattle.std.proofs.lemmas.Option.{get_or_from_slice_get}
use Rattle.tp_base.specs.Classes.{union_of}
use Rattle.simple_core.specs.Labels.{set_of}
use Rattle.simple_core.specs.declared.summaries.First.{First}
use Rattle.need_table.specs.declared.entries.Entry.{Entry}
use Rattle.need_table.specs.Tables.{pair_of, fresh_of, replaced}
use Rattle.need_table.proofs.FillLemmas.{on_err}
use Rattle.need_table.proofs.GrowLemmas.{none_more}
use Rattle.need_table.proofs.entry_table.note.Goals as goal

pub returns-then-is_at-clause-ok : goal.returns-then-is_at-clause-ok
returns-then-is_at-clause-ok c = λ e at.
    let entries = c.args.entries.now.items in
    let here : c.index_mut-entry.result.now ≡ e = c.index_mut-entry.ensures.value ∙ get_or_from_slice_get entries c.args.i e c.index_mut-entry.result.now at in
    let rounds : e.rounds ≡ Some c.args.k = ap (λ (x : Entry). x.rounds) (sym (c.index.ensures ∙ get_or_from_slice_get entries c.args.i e c.index.result.now at)) ∙ c.is_at.ensures.0 c.if-is_at.true in
    let given = c.args.given.now in
    inl (
      _,
      refl,
      rounds,
      ap pair_of here,
      ap Some (omega arith),
      c.in_ok-grow.ensures.firsts ∙ ap (λ (x : Entry). x.firsts.items ++ fresh_of x.label (c.args.k + 1) given) here,
      c.replace.ensures ∙ ap (λ (x : Entry). replaced c.args.anew x.children.items) here,
      c.in_ok-grow.ensures.label ∙ ap (λ (x : Entry). union_of x.label (set_of (map (λ (f : First). f.atom) (fresh_of x.label (c.args.k + 1) given)))) here,
    )

pub returns-then-is_at-clause-grew : goal.returns-then-is_at-clause-grew
returns-then-is_at-clause-grew c = λ same e at.
    let entries = c.args.entries.now.items in
    let here : c.index_mut-entry.result.now ≡ e = c.index_mut-entry.ensures.value ∙ get_or_from_slice_get entries c.args.i e c.index_mut-entry.result.now at in
    let more = ltb-false c.len-before.result c.len.result same in
    let firsts = c.index_mut-entry.result.now.firsts in
    ap (λ (x : Entry). fresh_of x.label (c.args.k + 1) c.args.given.now) (sym here)
    ∙ none_more firsts.items _ (omega (arith, more, c.len.ensures, c.len-before.ensures, c.grow.new.firsts.ok.0, firsts.ok.0, ap length c.in_ok-grow.ensures.firsts))

pub returns-clause-ok : goal.returns-clause-ok
returns-clause-ok c = λ e at.
    let here : c.index.result.now ≡ e = c.index.ensures ∙ get_or_from_slice_get c.args.entries.now.items c.args.i e c.index.result.now at in
    inr (refl, λ rounds. both_ways c.is_at.result c.if-is_at.false (c.is_at.ensures.1 (ap (λ (x : Entry). x.rounds) here ∙ rounds)))

pub returns-in_err-grow-clause-err : goal.returns-in_err-grow-clause-err
returns-in_err-grow-clause-err c = on_err _ c.from_residual.result (λ e at.
    let entries = c.args.entries.now.items in
    let here : c.index_mut-entry.result.now ≡ e = c.index_mut-entry.ensures.value ∙ get_or_from_slice_get entries c.args.i e c.index_mut-entry.result.now at in
    let rounds : e.rounds ≡ Some c.args.k = ap (λ (x : Entry). x.rounds) (sym (c.index.ensures ∙ get_or_from_slice_get entries c.args.i e c.index.result.now at)) ∙ c.is_at.ensures.0 c.if-is_at.true in
    (_, refl, λ none. let never : Some c.args.k ≡ None = sym rounds ∙ none in cc, ap pair_of here, ap (λ (x : Entry). x.rounds) here, ap (λ (x : Entry). x.children.items) here))
