use Rattle.std.proofs.Common.{ℕ, length, map, Vec, sym, ap, ◌∙◌, subst, arith}
use Rattle.std.specs.Global.{Global}
use Rattle.proof_needs.specs.declared.orders.Order.{Order}
use Rattle.proof_needs.specs.Names.{named_all}
use Rattle.proof_needs.specs.Numbers.{AreBelow}
use Rattle.proof_needs.proofs.NameLemmas.{same_count, tours_are, all_below, lists_below}
use Rattle.proof_needs.proofs.names.numbers_of.Goals as goal

pub order_of-requires-clause-names : goal.order_of-requires-clause-names
order_of-requires-clause-names c =
    let drafts = c.args.drafts.now in
    let orders = c.args.orders.now.triples.items in
    let lists = c.deref-3.result.now in
    let same = ap (map (λ (v : Vec ℕ Global). v.items)) c.deref-3.ensures.value ∙ c.in_ok-names.ensures ∙ ap (map (λ (o : Order). named_all drafts o.wants.items)) c.deref.ensures.value in
    let count = same_count drafts orders lists same in
    lists_below drafts (length lists) (λ i m d at is. let lt = c.requires.named i m d at is in omega (arith, count, lt)) orders lists same

pub order_of-requires-clause-roots : goal.order_of-requires-clause-roots
order_of-requires-clause-roots c =
    let drafts = c.args.drafts.now in
    let orders = c.args.orders.now.triples.items in
    let lists = c.deref-3.result.now in
    let same = ap (map (λ (v : Vec ℕ Global). v.items)) c.deref-3.ensures.value ∙ c.in_ok-names.ensures ∙ ap (map (λ (o : Order). named_all drafts o.wants.items)) c.deref.ensures.value in
    let count = same_count drafts orders lists same in
    let roots = c.deref-4.ensures.value ∙ c.in_ok-roots.ensures ∙ ap (named_all drafts) c.deref-2.ensures.value in
    subst (AreBelow (length lists)) (sym roots) (all_below drafts (length lists) (λ i m d at is. let lt = c.requires.named i m d at is in omega (arith, count, lt)) c.args.orders.now.page.wants.items)

pub returns : goal.returns
returns c =
    let drafts = c.args.drafts.now in
    let orders = c.args.orders.now.triples.items in
    let lists = c.deref-3.result.now in
    let same = ap (map (λ (v : Vec ℕ Global). v.items)) c.deref-3.ensures.value ∙ c.in_ok-names.ensures ∙ ap (map (λ (o : Order). named_all drafts o.wants.items)) c.deref.ensures.value in
    let roots = c.deref-4.ensures.value ∙ c.in_ok-roots.ensures ∙ ap (named_all drafts) c.deref-2.ensures.value in
    tours_are drafts orders lists same c.deref-4.result.now (named_all drafts c.args.orders.now.page.wants.items) c.in_ok-order.order.keys roots c.in_ok-order.ensures
