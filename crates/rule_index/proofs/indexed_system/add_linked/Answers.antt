use Rattle.std.proofs.Common.{◌∙◌, ℕ, List, ap, arith, subst}
use Rattle.gathered.specs.Between.{IsBetween}
use Rattle.std.proofs.lemmas.List.{take_all}
use Rattle.tp_base.specs.Classes.{union_of}
use Rattle.rule_index.specs.Indexes.{by_label, to_of}
use Rattle.row_index.specs.Rows.{row_of}
use Rattle.rule_index.proofs.IndexLemmas.{label_more, linked, between_label, on_err}
use Rattle.rule_index.proofs.indexed_system.add_linked.Goals as goal

pub loop-i-preserved : goal.loop-i-preserved
loop-i-preserved c = label_more to_of c.args.links.now c.args.index.now (λ a. a) c.args.label.now c.args.next.now c.loop-i.next c.add_links.new.next c.of.result.now c.loop-i.i c.at-atom.result c.at-atom.ensures c.loop-i.invariant (c.of.ensures ∙ ap (λ z. row_of c.args.index.now z) c.atom.view_is) c.in_ok-add_links.ensures.ok

pub returns-clause-ok : goal.returns-clause-ok
returns-clause-ok c = c.loop-i.invariant ∙ ap (λ z. union_of c.args.next.now (by_label to_of c.args.links.now c.args.index.now (λ a. a) z)) (take_all c.loop-i.i c.args.label.now (omega (arith, c.loop-i-test.false))) ∙ linked c.args.links.now c.args.index.now c.args.label.now c.args.next.now c.requires.index c.requires.rises

pub returns-in_err-add_links-clause-err : goal.returns-in_err-add_links-clause-err
returns-in_err-add_links-clause-err c =
    on_err _ c.from_residual.result (subst (λ (most : List ℕ). IsBetween c.args.next.now most c.add_links.new.next) (linked c.args.links.now c.args.index.now c.args.label.now c.args.next.now c.requires.index c.requires.rises)
    (between_label to_of c.args.links.now c.args.index.now (λ a. a) c.args.label.now c.args.next.now c.loop-i.next c.add_links.new.next c.of.result.now c.loop-i.i c.at-atom.result c.at-atom.ensures c.loop-i.invariant (c.of.ensures ∙ ap (λ z. row_of c.args.index.now z) c.atom.view_is) c.in_err-add_links.ensures.err))
