use Rattle.std.proofs.Common.{◌≡◌, ◌||◌, Bool, [], ◌∷◌, sym, ap, ◌∙◌}
use Rattle.std.specs.List.{list_any}
use Rattle.usage_report.specs.Views.{answer_of}
use Rattle.dead_script.specs.Verdicts as dead
use Rattle.treeped_app.specs.Modes as spec
use Rattle.treeped_app.specs.Views.{said_of}
use Rattle.usage_report.proofs.SeenLemmas.{any_seen}
use Rattle.treeped_app.proofs.statuses.status_of.Goals as goal
use Rattle.treeped_app.proofs.statuses.status_of.Goals.{then-any_open, else-any_open, then-any_unused, else-any_unused}

pub returns : goal.returns
returns c = λ x.
    let s = said_of x c.args.said.now in
    let left : Bool = list_any dead.is_open (spec.verdicts_in c.args.mode (s ∷ [])) in
    let gone : Bool = list_any dead.is_dead (spec.verdicts_in c.args.mode (s ∷ [])) in
    let first : c.any_open.result ≡ list_any spec.is_open s.items =
    c.any_open.ensures ∙ ap (list_any (λ a. spec.is_open (answer_of a))) c.deref.ensures.value ∙ sym (any_seen spec.is_open c.args.said.now.items.items) in
    let second : c.any_unused.result ≡ list_any spec.is_unused s.items =
    c.any_unused.ensures ∙ ap (list_any (λ a. spec.is_unused (answer_of a))) c.deref-2.ensures.value ∙ sym (any_seen spec.is_unused c.args.said.now.items.items) in
    let unsure : c.if-any_open.unsure ≡ (list_any spec.is_open s.items || left) =
    elim c.if-any_open.branch [
      | then-any_open w ↦ w.unsure-is ∙ w.if-any_open.true ∙ sym (ap (λ z. z || left) (sym first ∙ w.if-any_open.true))
      | else-any_open w ↦ w.unsure-is ∙ w.any_meets-unsure.ensures x ∙ sym (ap (λ z. z || left) (sym first ∙ w.if-any_open.false))
    ] in
    let unused : c.if-any_unused.unused ≡ (list_any spec.is_unused s.items || gone) =
    elim c.if-any_unused.branch [
      | then-any_unused w ↦ w.unused-is ∙ w.if-any_unused.true ∙ sym (ap (λ z. z || gone) (sym second ∙ w.if-any_unused.true))
      | else-any_unused w ↦ w.unused-is ∙ w.any_meets-unused.ensures x ∙ sym (ap (λ z. z || gone) (sym second ∙ w.if-any_unused.false))
    ] in
    c.status_by.ensures ∙ ap (λ z. spec.status_by z c.if-any_unused.unused) unsure ∙ ap (λ z. spec.status_by (list_any spec.is_open s.items || left) z) unused
