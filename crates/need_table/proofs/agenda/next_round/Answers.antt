use Rattle.std.proofs.Common.{◌≡◌, length, Some, None, slice_get, refl}
use Rattle.std.proofs.lemmas.Option.{slice_get_read, slice_get_past}
use Rattle.need_table.proofs.OrderLemmas.{soonest, none_later}
use Rattle.need_table.proofs.agenda.next_round.Goals as goal

pub returns-in-Some-clause-within : goal.returns-in-Some-clause-within
returns-in-Some-clause-within c =
    let firsts = c.args.firsts.now in
    let first = c.in-Some.first.now in
    let at : slice_get firsts c.place_from.result ≡ Some first = slice_get_read firsts (length firsts) c.place_from.result first refl c.in-Some.ensures.lookup.3.0 c.in-Some.ensures.lookup.1 in
    (soonest firsts c.args.from c.place_from.result first c.requires c.place_from.ensures at).0

pub returns-in-Some-clause-least : goal.returns-in-Some-clause-least
returns-in-Some-clause-least c =
    let firsts = c.args.firsts.now in
    let first = c.in-Some.first.now in
    let at : slice_get firsts c.place_from.result ≡ Some first = slice_get_read firsts (length firsts) c.place_from.result first refl c.in-Some.ensures.lookup.3.0 c.in-Some.ensures.lookup.1 in
    (soonest firsts c.args.from c.place_from.result first c.requires c.place_from.ensures at).1

pub returns-in-None-clause-least : goal.returns-in-None-clause-least
returns-in-None-clause-least c = λ f there late.
    let firsts = c.args.firsts.now in
    let past : slice_get firsts c.place_from.result ≡ None = slice_get_past firsts c.place_from.result c.in-None.ensures.lookup.3 in
    absurd (none_later firsts c.args.from c.place_from.result c.place_from.ensures past f there late)
