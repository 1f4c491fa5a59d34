use Rattle.std.proofs.Common.{List, map, length, sym, ap, ◌∙◌, subst}
use Rattle.pair_table.specs.declared.table.Row.{Row}
use Rattle.pair_table.specs.Rows.{pair_of, AreFound}
use Rattle.pair_table.proofs.RowLemmas.{found_same, found_more, found_push}
use Rattle.pair_table.proofs.table.PairTable.push.Goals as goal

pub invariant_of-self : goal.invariant_of-self
invariant_of-self g c = found_same c.self.inside.places c.push.new.self (map pair_of c.self.inside.rows.items) c.in_err-push.ensures.err c.self.invariant

pub invariant_of-self-in_err-push-2 : goal.invariant_of-self-in_err-push-2
invariant_of-self-in_err-push-2 g c =
    subst (λ (z : List (Row g.row.V.Denot)). AreFound c.push.new.self (map pair_of z)) (sym c.in_err-push-2.ensures.items)
    (found_more c.self.inside.places c.push.new.self c.hash_of.result c.len-place.result c.in_ok-push.ensures.ok (map pair_of c.self.inside.rows.items) c.self.invariant)

pub invariant_of-self-2 : goal.invariant_of-self-2
invariant_of-self-2 g c =
    found_push c.self.inside.places c.push.new.self c.hash_of.result c.len-place.result c.in_ok-push.ensures.ok pair_of c.self.inside.rows.items c.push-2.new.self.items _ c.in_ok-push-2.ensures.items
    (c.len-place.ensures ∙ ap (λ (z : List (Row g.row.V.Denot)). length z) (sym c.self.view_is)) c.hash_of.ensures c.self.invariant
