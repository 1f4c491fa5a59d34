use Rattle.std.proofs.Common.{◌≡◌, length}
use Rattle.std.specs.Prelude.{find}
use Rattle.std.specs.Str.{bytes_eq}
use Rattle.premise_finds.specs.NameTexts.{text_of, name_of}
use Rattle.premise_finds.proofs.names.Name.of.Given as goal

abbrev pub invariant-names : goal.invariant-names
invariant-names l = find (λ n. bytes_eq (text_of n) l.text) l.left ≡ name_of l.text

abbrev pub decreases-names : goal.decreases-names
decreases-names l = length l.left
