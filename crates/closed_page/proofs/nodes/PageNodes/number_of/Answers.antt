use Rattle.std.proofs.Common.{◌≡◌, List, ℕ, ◌∷◌, ◌++◌, [], Some, slice_get, refl, sym, ap, ◌∙◌, subst, add-one}
use Rattle.node_marks.proofs.NumberLemmas.{take_step}
use Rattle.closed_page.specs.Numbered.{told, AreNumbered}
use Rattle.closed_page.proofs.NodeLemmas.{first_root, child_is, child_none, turned_off}
use Rattle.closed_page.proofs.nodes.PageNodes.number_of.Goals as goal

pub levels-init : goal.levels-init
levels-init c =
    let n = c.self.inside in
    let is = subst (λ (z : List (List ℕ)). AreNumbered z (told n.parents.items) n.steps.items n.kids) c.self.view_is c.self.invariant in
    record { within = is.some; part = first_root c.args.self.now (told n.parents.items) n.steps.items n.kids is }

pub returns-in_err-found-clause-none : goal.returns-in_err-found-clause-none
returns-in_err-found-clause-none c = λ none.
    let n = c.self.inside in
    let is = subst (λ (z : List (List ℕ)). AreNumbered z (told n.parents.items) n.steps.items n.kids) c.self.view_is c.self.invariant in
    turned_off c.args.self.now (told n.parents.items) n.steps.items n.kids is c.levels.found c.levels.level c.at.result c.args.at.now c.levels.invariant.part c.at.ensures
    (child_none c.args.self.now (told n.parents.items) n.steps.items n.kids is c.levels.found c.at.result c.levels.invariant.within
    (λ i in_row here. c.in_err-found.ensures.none refl i in_row (subst (λ (z : List ℕ). slice_get z i ≡ Some c.at.result) (sym c.as_slice-steps.ensures.value) here)))

pub levels-preserved : goal.levels-preserved
levels-preserved c =
    let n = c.self.inside in
    let is = subst (λ (z : List (List ℕ)). AreNumbered z (told n.parents.items) n.steps.items n.kids) c.self.view_is c.self.invariant in
    let found = c.in_ok-found.found in
    let child = child_is c.args.self.now (told n.parents.items) n.steps.items n.kids is c.levels.found found c.at.result c.in_ok-found.ensures.some.0
    (subst (λ (z : List ℕ). slice_get z found ≡ Some c.at.result) c.as_slice-steps.ensures.value c.in_ok-found.ensures.some.1) in
    record {
      within = child.0;
      part = child.1 ∙ ap (λ z. z ++ c.at.result ∷ []) c.levels.invariant.part ∙ rw add-one (sym (take_step c.args.at.now c.levels.level c.at.result c.at.ensures));
    }
