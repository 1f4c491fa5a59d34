use Rattle.std.proofs.Common.{rules}
use Rattle.css_read.proofs.ReadableLemmas.{one_more}
use Rattle.css_read.proofs.reading.Draft.add_item.Goals as goal

pub returns-clause-draft : goal.returns-clause-draft
returns-clause-draft c = record {
  numbered = search rules;
  few = search rules;
  placed = search rules;
  readable = one_more c.args.self.now.atoms c.read_item.new.self.atoms c.args.self.now.items.items c.push.new.self.items c.in_ok-item.item (rw c.in_ok-item.ensures.items at c.in_ok-push.ensures.items)
      c.in_ok-item.ensures.reads_on.front c.requires.draft.readable c.in_ok-item.ensures.readable;
}
