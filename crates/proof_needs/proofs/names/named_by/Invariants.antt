use Rattle.std.proofs.Common.{◌≡◌, ◌++◌, drop}
use Rattle.proof_needs.specs.Names.{named_all}
use Rattle.proof_needs.proofs.names.named_by.Given as goal

abbrev pub invariant-loop-want : goal.invariant-loop-want
invariant-loop-want l = l.named.items ++ named_all l.drafts (drop l.want-index l.wants) ≡ named_all l.drafts l.wants
