use Rattle.std.proofs.Common.{◌≡◌, ℕ, Option, unwrap_or, ap, arith}
use Rattle.need_table.proofs.PlainLemmas.{room_unused}
use Rattle.judge.proofs.TableNeeds.{closed_within, spent_needs}
use Rattle.judge.proofs.closing.close_by_table.Goals as goal

pub close_page-requires-clause-keeps_room : goal.close_page-requires-clause-keeps_room
close_page-requires-clause-keeps_room c = room_unused c.args.system.now c.args.sums.now.known c.args.sums.now.pairs c.args.sums.now.spent c.requires.none c.requires.unspent

pub returns-clause-few : goal.returns-clause-few
returns-clause-few c =
    let pairs : c.close_page.new.sums.pairs ≡ c.args.sums.now.pairs = ap (λ (o : Option ℕ). unwrap_or o 0) c.close_page.ensures.room in
    closed_within c.args.system.now c.args.page.now c.close_page.result c.args.sums.now.known c.close_page.new.sums.known c.args.sums.now.pairs
    c.requires.none c.close_page.ensures.told
    (omega (arith, c.close_page.ensures.keeps_room.0, pairs))

pub returns-clause-spent : goal.returns-clause-spent
returns-clause-spent c = λ is.
    let pairs : c.close_page.new.sums.pairs ≡ c.args.sums.now.pairs = ap (λ (o : Option ℕ). unwrap_or o 0) c.close_page.ensures.room in
    spent_needs c.args.system.now c.args.page.now c.close_page.result c.args.sums.now.known c.close_page.new.sums.known
    c.close_page.new.sums.pairs c.args.sums.now.pairs c.close_page.new.sums.spent pairs c.requires.none is c.close_page.ensures.within
    (c.close_page.ensures.spent c.requires.unspent) (c.close_page.ensures.spent_on c.requires.unspent) c.close_page.ensures.keeps_room.1
