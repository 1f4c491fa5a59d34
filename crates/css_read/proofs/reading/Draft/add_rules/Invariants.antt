use Rattle.std.proofs.Common.{◌≡◌, ◌≤◌, ◌+◌, length}
use Rattle.css_read.specs.Drafts.{draft_of, IsDraft, ReadsOn}
use Rattle.css_read.specs.Rules.{rules_from, rules_of}
use Rattle.css_read.specs.Reading.{empty_sheet, add_rules}
use Rattle.css_read.proofs.reading.Draft.add_rules.Given as goal

abbrev pub invariant-rules : goal.invariant-rules
invariant-rules l = record {
  within : l.depth + length l.rest ≤ length l.fn.self.text.now;
  draft : IsDraft l.self;
  reads : add_rules l.fn.self.text.now (draft_of l.self) l.self.atoms (rules_from (length l.fn.self.text.now) l.depth 0 l.rest) ≡ add_rules l.fn.self.text.now empty_sheet l.fn.self.atoms (rules_of l.fn.self.text.now);
  reads_on : ReadsOn l.fn.self l.self;
}

abbrev pub decreases-rules : goal.decreases-rules
decreases-rules l = length l.rest
