use Rattle.std.proofs.Common.{◌≡◌, ◌≤◌, length}
use Rattle.js_scan.specs.Texts.{with_letters, text_from}
use Rattle.js_scan.proofs.texts.quoted.Given as goal

abbrev pub invariant-pieces : goal.invariant-pieces
invariant-pieces l = record {
  within : length l.rest ≤ length l.text;
  reads : with_letters l.letters.items (text_from l.quote l.at 0 l.rest) ≡ text_from l.quote l.at 0 l.text;
}

abbrev pub decreases-pieces : goal.decreases-pieces
decreases-pieces l = length l.rest
