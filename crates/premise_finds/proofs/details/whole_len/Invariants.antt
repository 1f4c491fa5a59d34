use Rattle.std.proofs.Common.{◌≡◌, ◌≤◌}
use Rattle.premise_finds.specs.Details.{whole_len}
use Rattle.premise_finds.proofs.details.whole_len.Given as goal

abbrev pub invariant-bytes : goal.invariant-bytes
invariant-bytes l = record {
  within : l.len ≤ l.most;
  counts : whole_len l.len l.text ≡ whole_len l.most l.text;
}

abbrev pub decreases-bytes : goal.decreases-bytes
decreases-bytes l = l.len
