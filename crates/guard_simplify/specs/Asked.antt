-- Goals: guards that are asked for.
use Rattle.guard_sem.specs.Guards.{Guard}
use Rattle.guard_sem.specs.OfSelectors.{of_selector}
use Rattle.sel_text.specs.Views.{selector_of}
use Rattle.guard_simplify.specs.declared.asked.Asked.{Asked}
use Rattle.guard_simplify.specs.declared.asked.Asked.TheVariants as one

abbrev pub asked_of : Asked → Guard
asked_of (one.Guard g) = g.now
asked_of (one.Selector s) = of_selector (selector_of s.now)
