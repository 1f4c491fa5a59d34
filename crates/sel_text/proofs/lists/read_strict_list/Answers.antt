use Rattle.std.proofs.Common.{[], ◌∷◌, sym, ◌∙◌}
use Rattle.std.proofs.lemmas.Result.{err_from_is_err_and}
use Rattle.std.proofs.lemmas.List.{map-append}
use Rattle.sel_text.specs.Views.{selector_of}
use Rattle.sel_text.proofs.Fronts.{front_of_front}
use Rattle.sel_text.proofs.ListSteps.{goes_on, fails, first_fails}
use Rattle.text_bytes.proofs.Rests.{of_rest, behind_first}
use Rattle.sel_text.proofs.Sound.{all_kept, all_more}
use Rattle.sel_text.proofs.lists.read_strict_list.Goals as goal

pub returns-in_err-selector-clause-reads : goal.returns-in_err-selector-clause-reads
returns-in_err-selector-clause-reads c =
    let p = err_from_is_err_and c.from_residual.result c.from_residual.ensures.1 in
    rw (p.1, p.2) (λ known. first_fails _ _ _ _ (c.in_err-selector.ensures.reads known))

pub returns-in_err-selector-2-clause-reads : goal.returns-in_err-selector-2-clause-reads
returns-in_err-selector-2-clause-reads c =
    let p = err_from_is_err_and c.from_residual-in_err-selector-2.result c.from_residual-in_err-selector-2.ensures.1 in
    let here = rw c.in-Some.ensures.cases.0 at c.commas.invariant.reads in
    rw (p.1, p.2) (λ known. sym here ∙ fails _ _ _ _ _ _ _ (c.in_err-selector-2.ensures.reads known))

pub commas-preserved : goal.commas-preserved
commas-preserved c =
    let here = rw c.in-Some.ensures.cases.0 at c.commas.invariant.reads in
    let after = rw c.in-Some.ensures.cases.0 at c.commas.invariant.rest in
    record {
      rest = of_rest _ _ _ after (of_rest _ _ _ (behind_first _ _) c.in_ok-selector-2.ensures.rest);
      reads = rw (c.in_ok-push-2.ensures.items, map-append selector_of c.commas.found.items (c.in_ok-selector-2.selector ∷ []))
          (sym (goes_on _ _ _ _ _ _ _ _ c.in_ok-selector-2.ensures.reads c.in_ok-selector-2.ensures.behind c.in_ok-selector-2.ensures.rest) ∙ here);
      front = front_of_front _ _ _ c.commas.invariant.front c.in_ok-selector-2.ensures.front;
      readable = all_more c.read_one-in-Some.new.atoms c.commas.found.items c.push-in-Some.new.self.items c.in_ok-selector-2.selector c.in_ok-push-2.ensures.items
          (all_kept c.commas.atoms c.read_one-in-Some.new.atoms c.in_ok-selector-2.ensures.front c.commas.found.items c.commas.invariant.readable) c.in_ok-selector-2.ensures.readable;
    }
