use Rattle.std.proofs.Common.{◌≡◌, ◌++◌, map, length}
use Rattle.std.specs.List.{list_all}
use Rattle.sel_text.specs.Views.{selector_of}
use Rattle.jq_words.specs.Brackets.{is_empty}
use Rattle.jq_cursor.proofs.selections.only_compounds.Given as goal

abbrev pub invariant-selectors : goal.invariant-selectors
invariant-selectors l = record {
  all : list_all (λ t. is_empty t.outer) (map selector_of l.left) ≡ list_all (λ t. is_empty t.outer) (map selector_of l.selectors);
  subjects : map (λ c. c.atoms) l.found.items ++ map (λ t. t.subject) (map selector_of l.left) ≡ map (λ t. t.subject) (map selector_of l.selectors);
}

abbrev pub decreases-selectors : goal.decreases-selectors
decreases-selectors l = length l.left
