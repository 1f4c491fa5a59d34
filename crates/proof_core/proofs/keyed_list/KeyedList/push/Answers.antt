use Rattle.std.proofs.Common.{◌≡◌, true, false, if◌then◌else◌, is_some, length, Some, sym, ap, subst, ◌∙◌}
use Rattle.std.specs.Prelude.{is_err}
use Rattle.indexmap.specs.IndexMap.{get_by}
use Rattle.proof_core.specs.KeyedLists.{first_place, has_key, AreFirsts}
use Rattle.proof_core.proofs.KeyedLemmas.{first_new, first_known, is_none, made}
use Rattle.proof_core.proofs.keyed_list.KeyedList.push.Goals as goal

pub invariant_of-self-then-is_some : goal.invariant_of-self-then-is_some
invariant_of-self-then-is_some g c =
    let eq = g.T.Key.PartialEq.eq in
    let key = g.T.Keyed.key_of in
    let firsts = c.self.inside.firsts in
    let items = c.self.inside.items.items in
    let test = c.is_some.ensures in
    let yes_is = c.if-is_some.true in
    let found : is_some c.place_of-known.result ≡ true = cc in
    let same : first_place (has_key eq key (key c.args.item)) items ≡ first_place (has_key eq key c.key-key.result) c.args.self.now = λ j. first_place (has_key eq key (sym c.key-key.ensures j)) (c.self.view_is j) in
    let known : is_some (first_place (has_key eq key (key c.args.item)) items) ≡ true = ap is_some (same ∙ sym c.place_of-known.ensures) ∙ found in
    subst (AreFirsts eq key firsts) (sym c.in_ok-push.ensures.items) (first_known eq g.met.T.Key.Eq.laws key firsts items c.args.item c.self.invariant known)

pub invariant_of-self-else-is_err : goal.invariant_of-self-else-is_err
invariant_of-self-else-is_err g c =
    let eq = g.T.Key.PartialEq.eq in
    let key = g.T.Keyed.key_of in
    let firsts = c.self.inside.firsts in
    let items = c.self.inside.items.items in
    let test = c.is_some.ensures in
    let not_is = c.if-is_some.false in
    let absent : is_some c.place_of-known.result ≡ false = cc in
    let same : first_place (has_key eq key (key c.args.item)) items ≡ first_place (has_key eq key c.key-key.result) c.args.self.now = λ j. first_place (has_key eq key (sym c.key-key.ensures j)) (c.self.view_is j) in
    let error = c.is_err.ensures.value in
    let no_error = c.if-is_err.false in
    let ok : is_err c.insert.result ≡ false = cc in
    let updates = made c.insert.result ok c.insert.ensures.updates in
    let place : c.len-place.result ≡ length items = c.len-place.ensures ∙ ap length (sym c.self.view_is) in
    subst (AreFirsts eq key c.insert.new.self) (sym c.in_ok-push.ensures.items)
    (first_new eq g.met.T.Key.Eq.laws key firsts items c.args.item c.self.invariant c.insert.new.self (same ∙ sym c.place_of-known.ensures ∙ is_none c.place_of-known.result absent)
    (λ k. updates.0 k ∙ (λ j. if eq (c.key-key.ensures j) k then Some (place j) else get_by (eq k) firsts)))
