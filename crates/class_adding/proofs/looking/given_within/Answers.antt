use Rattle.std.proofs.Common.{[], List, ℕ, get_or, unwrap_or, sym, ap, ◌∙◌, ◌≡◌, ◌<◌, length, arith, subst}
use Rattle.std.proofs.lemmas.List.{get_or_read}
use Rattle.std.specs.List.Sorted.{IsStrictlyIncreasing}
use Rattle.tp_base.proofs.ClassLemmas.{IsStrictlyIncreasing-union_of}
use Rattle.simple_core.specs.Labels.{given_by_links}
use Rattle.rule_index.specs.Asking.{AreMet}
use Rattle.closed_page.specs.Gains.{label_in}
use Rattle.closed_page.specs.Labelled.{node_of}
use Rattle.class_adding.specs.Fresh.{set_at}
use Rattle.class_adding.proofs.FreshLemmas.{given_more}
use Rattle.class_adding.proofs.looking.given_within.Goals as goal

pub add_local-requires : goal.add_local-requires
add_local-requires c =
    let fresh = c.args.filling.now.work.fresh.items in
    let number = c.args.number in
    let long : length fresh ≡ length c.args.filling.now.labels.nodes = c.requires.working.long in
    let less : number < length fresh = omega (arith, c.requires.number, long) in
    let here : c.set-here.result.now ≡ get_or fresh number [] = c.set-here.ensures ∙ rw c.as_slice-fresh.ensures.value at (get_or_read c.as_slice-fresh.result.now number c.index-fresh-number.result (omega (arith, less, ap (λ (z : List (List ℕ)). length z) c.as_slice-fresh.ensures.value)) c.index-fresh-number.is []) in
    let own : label_in c.args.filling.now.labels.labels (node_of c.args.filling.now.labels number) ≡ c.args.own.now = ap (λ o. unwrap_or o []) c.requires.own in
    subst (λ (z : List ℕ). AreMet c.args.system.now.local z c.set-here.result.now) own
    (subst (λ (z : List ℕ). AreMet c.args.system.now.local (label_in c.args.filling.now.labels.labels (node_of c.args.filling.now.labels number)) z) (sym here) c.requires.settled.here)

pub add_above-requires : goal.add_above-requires
add_above-requires c = c.in_ok-add_local.ensures.ok.rises (subst IsStrictlyIncreasing (sym c.new-given.ensures) (λ k within. absurd (omega arith)))

pub add_each-requires : goal.add_each-requires
add_each-requires c =
    subst IsStrictlyIncreasing (sym c.in_ok-add_above.ensures)
    (IsStrictlyIncreasing-union_of c.add_local.new.next (given_by_links c.args.system.now.up (set_at c.as_slice-fresh.result.now c.parent.result))
    (c.in_ok-add_local.ensures.ok.rises (subst IsStrictlyIncreasing (sym c.new-given.ensures) (λ k within. absurd (omega arith)))))

pub returns : goal.returns
returns c =
    let nodes = c.args.filling.now.labels.nodes in
    let fresh = c.args.filling.now.work.fresh.items in
    let number = c.args.number in
    given_more c.args.system.now c.args.filling.now.labels.labels nodes fresh number c.requires.number c.requires.settled c.parent.ensures.whole c.args.own.now (ap (λ o. unwrap_or o []) c.requires.own)
    c.parent.result c.callers_of-callers.result.now c.new-given.result c.add_local.new.next c.add_above.new.next c.add_each.new.next c.new-given.ensures c.parent.ensures.above c.callers_of-callers.ensures c.in_ok-add_local.ensures.ok
    (rw c.as_slice-fresh.ensures.value at c.in_ok-add_above.ensures) (rw c.as_slice-fresh.ensures.value at c.in_ok-add_each.ensures)
