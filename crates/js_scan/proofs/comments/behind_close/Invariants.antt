use Rattle.std.proofs.Common.{◌≡◌, ◌≤◌, length}
use Rattle.js_scan.specs.Comments.{behind_close}
use Rattle.js_scan.proofs.comments.behind_close.Given as goal

abbrev pub invariant-bytes : goal.invariant-bytes
invariant-bytes l = record {
  within : length l.rest ≤ length l.text;
  reads : behind_close l.rest ≡ behind_close l.text;
}

abbrev pub decreases-bytes : goal.decreases-bytes
decreases-bytes l = length l.rest
