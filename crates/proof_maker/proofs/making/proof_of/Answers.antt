use Rattle.std.proofs.Common.{◌<◌, length, map, All, sym, ap, ◌∙◌, subst}
use Rattle.proof_maker.specs.Making.{IsNodeWant, AreEntries, page_item_of}
use Rattle.proof_needs.specs.Names.{named_all, names_in}
use Rattle.proof_needs.specs.Numbers.{Tours}
use Rattle.proof_maker.proofs.MakeLemmas.{page_nodes, orders_within, triples_within, ties_within, few}
use Rattle.proof_maker.proofs.making.proof_of.Goals as goal

pub orders_of-requires : goal.orders_of-requires
orders_of-requires c = record { sortable = c.requires.makeable.sortable }

pub entries_of-requires-clause-orders : goal.entries_of-requires-clause-orders
entries_of-requires-clause-orders c =
    let o = c.in_ok-orders.orders in
    let toured = subst (λ ds. Tours (names_in ds o.triples.items) (named_all ds o.page.wants.items) c.in_ok-order.order.keys) c.deref.ensures.value c.in_ok-order.ensures in
    subst (λ os. All (λ m. m < length os) c.in_ok-order.order.keys) (sym c.deref-2.ensures.value) (orders_within c.args.needs.now c.requires.makeable o c.in_ok-orders.ensures c.in_ok-order.order.keys toured)

pub entries_of-requires-clause-triples : goal.entries_of-requires-clause-triples
entries_of-requires-clause-triples c =
    let o = c.in_ok-orders.orders in
    let toured = subst (λ ds. Tours (names_in ds o.triples.items) (named_all ds o.page.wants.items) c.in_ok-order.order.keys) c.deref.ensures.value c.in_ok-order.ensures in
    triples_within c.args.needs.now c.requires.makeable o c.in_ok-orders.ensures c.in_ok-order.order.keys toured

pub entries_of-requires-clause-ties : goal.entries_of-requires-clause-ties
entries_of-requires-clause-ties c =
    let o = c.in_ok-orders.orders in
    let toured = subst (λ ds. Tours (names_in ds o.triples.items) (named_all ds o.page.wants.items) c.in_ok-order.order.keys) c.deref.ensures.value c.in_ok-order.ensures in
    ties_within c.args.needs.now c.requires.makeable o c.in_ok-orders.ensures c.in_ok-order.order.keys toured

pub entries_of-requires-clause-few : goal.entries_of-requires-clause-few
entries_of-requires-clause-few c =
    let o = c.in_ok-orders.orders in
    let toured = subst (λ ds. Tours (names_in ds o.triples.items) (named_all ds o.page.wants.items) c.in_ok-order.order.keys) c.deref.ensures.value c.in_ok-order.ensures in
    few c.args.needs.now c.requires.makeable o c.in_ok-orders.ensures c.in_ok-order.order.keys toured

pub page_items-requires-clause-nodes : goal.page_items-requires-clause-nodes
page_items-requires-clause-nodes c =
    subst (All (IsNodeWant c.args.needs.now)) (sym c.deref-3.ensures.value) (page_nodes c.args.needs.now c.requires.makeable c.in_ok-orders.orders c.in_ok-orders.ensures)

pub page_items-requires-clause-few : goal.page_items-requires-clause-few
page_items-requires-clause-few c =
    let o = c.in_ok-orders.orders in
    let toured = subst (λ ds. Tours (names_in ds o.triples.items) (named_all ds o.page.wants.items) c.in_ok-order.order.keys) c.deref.ensures.value c.in_ok-order.ensures in
    few c.args.needs.now c.requires.makeable o c.in_ok-orders.ensures c.in_ok-order.order.keys toured

pub returns : goal.returns
returns c =
    let o = c.in_ok-orders.orders in
    let order = c.in_ok-order.order.keys in
    record {
      orders = o;
      dealt = c.in_ok-orders.ensures;
      order = order;
      toured = subst (λ ds. Tours (names_in ds o.triples.items) (named_all ds o.page.wants.items) order) c.deref.ensures.value c.in_ok-order.ensures;
      entries = subst (λ os. AreEntries c.args.needs.now order c.args.system.now os (length order) c.in_ok-entries.entries) c.deref-2.ensures.value c.in_ok-entries.ensures;
      page = c.in_ok-page.ensures ∙ ap (map (page_item_of c.args.needs.now order)) c.deref-3.ensures.value;
    }
