use Rattle.std.proofs.Common.{◌≡◌, map, length, ap, arith}
use Rattle.pair_table.proofs.RowLemmas.{found_same, found_more, found_push}
use Rattle.need_table.specs.Tables.{pair_of}
use Rattle.need_table.proofs.PlaceLemmas.{found_alike}
use Rattle.need_table.proofs.entry_table.Table.push.Goals as goal

pub invariant_of-self : goal.invariant_of-self
invariant_of-self c = found_same c.self.inside.places c.push.new.self (map pair_of c.self.inside.entries.items) c.in_err-push.ensures.err c.self.invariant

pub invariant_of-self-in_err-push-2 : goal.invariant_of-self-in_err-push-2
invariant_of-self-in_err-push-2 c =
    found_alike c.push.new.self (map pair_of c.self.inside.entries.items) (map pair_of c.push-2.new.self.items) (ap (map pair_of) c.in_err-push-2.ensures.items)
    (found_more c.self.inside.places c.push.new.self c.hash_of-hash.result c.len.result c.in_ok-push.ensures.ok (map pair_of c.self.inside.entries.items) c.self.invariant)

pub invariant_of-self-2 : goal.invariant_of-self-2
invariant_of-self-2 c =
    let entries = c.self.inside.entries.items in
    let count : c.len.result ≡ length entries = omega (arith, c.len.ensures, c.self.inside.entries.ok.0) in
    found_push c.self.inside.places c.push.new.self c.hash_of-hash.result c.len.result c.in_ok-push.ensures.ok pair_of entries c.push-2.new.self.items c.args.entry c.in_ok-push-2.ensures.items count c.hash_of-hash.ensures c.self.invariant
