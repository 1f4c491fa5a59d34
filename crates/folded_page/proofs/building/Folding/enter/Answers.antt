use Rattle.std.proofs.Common.{map, sym, ◌∙◌, arith}
use Rattle.std.proofs.lemmas.List.{length-map}
use Rattle.folded_page.proofs.EnterLemmas.{label_there, entered_same, entered_more}
use Rattle.folded_page.proofs.building.Folding.enter.Goals as goal

pub returns-then-lead-node : goal.returns-then-lead-node
returns-then-lead-node c =
    entered_same c.args.columns.now.parents.items c.args.leads.now (map (λ b. b.now) c.args.columns.now.labels.items) c.requires.foldable _ _ _ c.args.self.now.numbers.items c.args.node c.requires.so_far c.requires.within
    c.if-lead-node.true c.index-number.result.now c.index-number.ensures c.push.new.self.items c.in_ok-push.ensures.items

pub returns : goal.returns
returns c =
    let labelled = c.requires.foldable.labelled in
    let count = c.requires.foldable.are_leads.count in
    let within = c.requires.within in
    let long = length-map c.args.columns.now.labels.items (λ b. b.now) in
    entered_more c.args.columns.now.parents.items c.args.leads.now (map (λ b. b.now) c.args.columns.now.labels.items) c.requires.foldable c.args.self.now.page.builder _ _ c.args.self.now.numbers.items c.args.node c.requires.so_far c.requires.within
    c.if-lead-node.false c.add.new.self.builder c.add.new.self.line.items c.add.new.self.count c.index-parent.result.now c.index-above.result.now c.in-Some.number c.in_ok-label.label
    (rw c.in-Some.is at c.in_ok-number.ensures.order)
    c.index-parent.ensures c.index-above.ensures
    (label_there (λ b. b.now) c.args.columns.now.labels.items c.args.node c.index.result.now (omega (arith, long, labelled, count, within)) c.index.ensures ∙ sym c.in_ok-label.ensures)
    (rw c.in-Some.is at c.in_ok-number.ensures.number)
    (rw c.in-Some.is at c.in_ok-number.ensures.added) c.push-2.new.self.items c.in_ok-push-2.ensures.items
