use Rattle.std.proofs.Common.{◌≡◌, ◌≤◌, ◌<◌, length, map, slice_range}
use Rattle.css_read.specs.Drafts.{IsDraft, ReadsOn}
use Rattle.css_read.specs.Pieces.{more_pieces, pieces}
use Rattle.css_read.specs.Reading.{add_items}
use Rattle.css_read.specs.Views.{item_of}
use Rattle.css_read.proofs.reading.Draft.add_items.Given as goal

abbrev pub invariant-commas : goal.invariant-commas
invariant-commas l = record {
  within : length l.rest ≤ l.list.to;
  more : length l.fn.self.items.items < length l.self.items.items;
  draft : IsDraft l.self;
  rules : l.self.rules ≡ l.fn.self.rules;
  reads : add_items l.fn.self.text.now l.rule (map item_of l.self.items.items) l.self.atoms (more_pieces l.list.to 0 l.rest)
      ≡ add_items l.fn.self.text.now l.rule (map item_of l.fn.self.items.items) l.fn.self.atoms (pieces l.list.to (slice_range l.fn.self.text.now l.list.from l.list.to));
  reads_on : ReadsOn l.fn.self l.self;
}

abbrev pub decreases-commas : goal.decreases-commas
decreases-commas l = length l.rest
