-- Selectors of which a browser may not know a part, so that it drops the whole list that they stand in.
use Rattle.std.specs.Prelude.{ℕ, ◌&&◌, not, Bool, List, [], ◌∷◌, flat_map, slice_range, codes}
use Rattle.std.specs.Result.{is_ok}
use Rattle.sel_text.specs.Lists.{read_strict_list}
use Rattle.css_read.specs.declared.sheets.Range.{Range}
use Rattle.css_read.specs.Reading.{pieces_of}
use Rattle.css_read.specs.Rules.{rules_of}
use Rattle.premise_finds.specs.declared.findings.Finding.{Finding}
use Rattle.premise_finds.specs.declared.names.Name.TheVariants as name
use Rattle.premise_finds.specs.Findings.{when, finding}
use Rattle.premise_finds.specs.Texts.{has_somewhere}

-- a selector that is judged with nothing dropped, and that no comment stands in
unfoldable pub is_as_written : List ℕ → Bool
is_as_written text = is_ok (read_strict_list text []).1 && not (has_somewhere (codes "/*") text)

abbrev pub found_at_selector : List ℕ → Range → List Finding
found_at_selector text p = when (not (is_as_written (slice_range text p.from p.to))) (finding name.UnknownToSome p.from p.to)

-- in a list of more than one
abbrev pub found_in_list : List ℕ → List Range → List Finding
found_in_list text [] = []
found_in_list text (p ∷ []) = []
found_in_list text (p ∷ q ∷ ps) = flat_map (found_at_selector text) (p ∷ q ∷ ps)

-- in the lists of a sheet's rules
unfoldable pub selector_findings : List ℕ → List Finding
selector_findings text = flat_map (λ r. found_in_list text (pieces_of text r)) (rules_of text)
