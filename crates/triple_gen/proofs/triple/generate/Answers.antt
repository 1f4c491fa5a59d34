use Rattle.std.proofs.Common.{◌≤◌, length, sym, subst}
use Rattle.tp_base.specs.declared.places.TheConstants.{MOST_BYTES}
use Rattle.triple_gen.proofs.SizeLemmas.{small_page, small_sheet, small_script}
use Rattle.triple_gen.proofs.triple.generate.Goals as goal

pub returns-clause-small_page : goal.returns-clause-small_page
returns-clause-small_page c = subst (λ z. length z ≤ MOST_BYTES) (sym c.in_ok-page.ensures) (small_page c.args.n c.requires.few)

pub returns-clause-small_sheet : goal.returns-clause-small_sheet
returns-clause-small_sheet c = subst (λ z. length z ≤ MOST_BYTES) (sym c.in_ok-sheet.ensures) (small_sheet c.args.n c.requires.few)

pub returns-clause-small_script : goal.returns-clause-small_script
returns-clause-small_script c = subst (λ z. length z ≤ MOST_BYTES) (sym c.in_ok-script.ensures) (small_script c.args.n c.requires.few)
