use Rattle.std.proofs.Common.{ℕ, List, [], ◌∷◌, refl, ap, ◌∙◌, subst}
use Rattle.gathered.specs.Between.{IsBetween}
use Rattle.row_index.specs.Rows.{row_of}
use Rattle.rule_index.specs.Indexes.{to_of}
use Rattle.rule_index.proofs.IndexLemmas.{label_more, linked, between_label, on_err}
use Rattle.rule_index.proofs.indexed_system.add_linked_by.Goals as goal

pub returns-clause-ok : goal.returns-clause-ok
returns-clause-ok c =
    label_more to_of c.args.links.now c.args.index.now (λ a. a) (c.args.atom ∷ []) c.args.next.now c.args.next.now c.add_links.new.next c.of.result.now 0 c.args.atom refl refl
    (c.of.ensures ∙ ap (λ z. row_of c.args.index.now z) c.atom.view_is) c.in_ok-add_links.ensures.ok
    ∙ linked c.args.links.now c.args.index.now (c.args.atom ∷ []) c.args.next.now c.requires.index c.requires.rises

pub returns-in_err-add_links-clause-err : goal.returns-in_err-add_links-clause-err
returns-in_err-add_links-clause-err c =
    on_err _ c.from_residual.result (subst (λ (most : List ℕ). IsBetween c.args.next.now most c.add_links.new.next) (linked c.args.links.now c.args.index.now (c.args.atom ∷ []) c.args.next.now c.requires.index c.requires.rises)
    (between_label to_of c.args.links.now c.args.index.now (λ a. a) (c.args.atom ∷ []) c.args.next.now c.args.next.now c.add_links.new.next c.of.result.now 0 c.args.atom refl refl
    (c.of.ensures ∙ ap (λ z. row_of c.args.index.now z) c.atom.view_is) c.in_err-add_links.ensures.err))
