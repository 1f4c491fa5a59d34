use Rattle.std.proofs.Common.{◌≡◌, map, length}
use Rattle.code_sources.specs.Scripts.{is_handed_in}
use Rattle.code_sources.proofs.files.is_handed_in.Given as goal

abbrev pub invariant-scripts : goal.invariant-scripts
invariant-scripts l = is_handed_in (map (λ s. s.now) l.left) l.file ≡ is_handed_in l.scripts l.file

abbrev pub decreases-scripts : goal.decreases-scripts
decreases-scripts l = length l.left
