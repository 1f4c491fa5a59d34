use Rattle.std.proofs.Common.{◌≡◌, Contains, get_or, sym, ◌∙◌, subst}
use Rattle.std.proofs.lemmas.List.{get_or_default}
use Rattle.std.proofs.lemmas.List.Elements.{Contains-get_or}
use Rattle.closed_page.specs.declared.notes.NodeNews.{NodeNews}
use Rattle.closed_page.specs.Spreading.{no_news, news_at, IsNumberAt}
use Rattle.closed_page.proofs.SpreadLemmas.{of_more}
use Rattle.closed_page.proofs.spreading.numbers_of.Goals as goal

pub number_of-requires : goal.number_of-requires
number_of-requires c =
    let notes = c.args.notes.now in
    let n = c.index-notes-i.result in
    let same : n ≡ get_or notes c.loop-i.i n = c.index-notes-i.is in
    c.requires n (subst (Contains notes) (sym same) (Contains-get_or notes c.loop-i.i n c.loop-i-test.true))

pub loop-i-preserved : goal.loop-i-preserved
loop-i-preserved c =
    let nodes = c.args.labels.now.nodes in
    let notes = c.args.notes.now in
    let n = c.index-notes-i.result in
    let same : n ≡ news_at notes c.loop-i.i = c.index-notes-i.is ∙ get_or_default notes c.loop-i.i n no_news c.loop-i-test.true in
    of_more nodes notes c.loop-i.numbers.items c.push.new.self.items c.loop-i.i c.number_of.result c.loop-i.invariant
    (subst (λ (z : NodeNews). IsNumberAt nodes z.spot.parent z.spot.step c.number_of.result) same c.number_of.ensures) c.in_ok-push.ensures.items
