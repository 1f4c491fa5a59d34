use Rattle.std.proofs.Common.{◌≡◌, map, length}
use Rattle.html_tokens.specs.Bytes.{lowered}
use Rattle.html_tokens.specs.Names.{is_among}
use Rattle.html_tokens.proofs.raw.is_among.Given as goal

abbrev pub invariant-names : goal.invariant-names
invariant-names l = is_among (map (λ n. lowered n.now) l.left) (lowered l.name) ≡ is_among (map (λ n. lowered n.now) l.names) (lowered l.name)

abbrev pub decreases-names : goal.decreases-names
decreases-names l = length l.left
