use Rattle.std.proofs.Common.{◌≡◌, ◌≤◌, length}
use Rattle.sel_text.specs.Drafts.{draft_of, IsPaired}
use Rattle.sel_text.specs.Machine.{run}
use Rattle.sel_text.specs.Reading.{read_piece}
use Rattle.sel_text.specs.Results.{IsFront}
use Rattle.sel_text.proofs.reading.Draft.read.Given as goal

abbrev pub invariant-items : goal.invariant-items
invariant-items l = record {
  within : length l.rest ≤ l.fn.self.to;
  paired : IsPaired l.self;
  drops : l.self.drops ≡ l.fn.self.drops;
  to : l.self.to ≡ l.fn.self.to;
  reads : run l.fn.self.drops l.fn.self.to (draft_of l.self) 0 l.rest ≡ read_piece l.fn.self.drops l.fn.self.to l.text l.fn.self.names;
  front : IsFront l.fn.self.names l.self.names;
}

abbrev pub decreases-items : goal.decreases-items
decreases-items l = length l.rest
