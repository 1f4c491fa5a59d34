-- What a selector of the code is to the definitions.
use Rattle.sel_text.specs.declared.selectors.Selector.{Selector}
use Rattle.sel_text.specs.Parts.{selector_from}
use Rattle.sel_text.specs.Selectors as spec

-- the selector of its compounds and joins
abbrev pub selector_of : Selector → spec.Selector
selector_of s = selector_from s.parts s.joins
