use Rattle.std.proofs.Common.{◌≡◌, ◌≤◌, ◌<◌, suc, length, take, drop, [], true, false, is_some, ◌&&◌, ◌∙◌, refl, sym, ap, subst, arith}
use Rattle.std.proofs.lemmas.List.{take_all}
use Rattle.std.proofs.lemmas.Option.{slice_get_read}
use Rattle.tp_base.proofs.Lists.{take_suc}
use Rattle.tree_sem.specs.Trees.{node_at}
use Rattle.proof_check.specs.Checks.{is_sound, are_placed, has_atom}
use Rattle.proof_check.specs.Nodes.{KnowsPage, number_in, page_gives}
use Rattle.proof_check.specs.Validity.{items_at, at_page}
use Rattle.proof_check.proofs.EntryLemmas.{drop_end}
use Rattle.proof_check.proofs.NodeLemmas.{page_gives_is, page_pushed, page_sound, placed_one, number_of, and_left, and_not}
use Rattle.proof_check.proofs.page_checks.page_holds.Goals as goal

pub returns-then-not-branch : goal.returns-then-not-branch
returns-then-not-branch c =
    let g = c.args.ground.now in
    let s = g.system.now in
    let es = g.entries.now in
    let page = g.page.now in
    let items = c.args.items.now in
    let i = c.loop-i.i-index in
    let x = c.i-item.result in
    let at = slice_get_read items (length items) i x refl c.loop-i-test.true c.i-item.is in
    let number = number_of (number_in g.nodes.now x.at) (c.requires.all i x at) in
    let sound = page_sound s es page g.nodes.now g.inside.now c.loop-i.known items i c.requires.all c.requires.below c.loop-i.invariant.knows x.at number.0 x.item number.1 in
    let is = is_sound s es (at_page page (length es) (take i items) x.at) x.item.atom x.item.reason in
    let rest = are_placed s es page (take (suc i) items) (drop (suc i) items) in
    let no : (is_some (node_at x.at page) && is) ≡ false = ap (λ b. is_some (node_at x.at page) && b) (sym sound) ∙ sym (c.in_ok-item_placed.ensures.test number.0 number.1) ∙ c.if-not-branch.true in
    sym (ap (λ b. b && has_atom c.args.target (items_at [] items)) (c.loop-i.invariant.so_far ∙ placed_one s es page items i x at ∙ and_not (is_some (node_at x.at page)) is rest no))

pub loop-i-preserved : goal.loop-i-preserved
loop-i-preserved c =
    let g = c.args.ground.now in
    let s = g.system.now in
    let es = g.entries.now in
    let page = g.page.now in
    let items = c.args.items.now in
    let i = c.loop-i.i-index in
    let x = c.i-item.result in
    let old = c.loop-i.known in
    let new = c.item_placed.new.known in
    let at = slice_get_read items (length items) i x refl c.loop-i-test.true c.i-item.is in
    let number = number_of (number_in g.nodes.now x.at) (c.requires.all i x at) in
    let sound = page_sound s es page g.nodes.now g.inside.now old items i c.requires.all c.requires.below c.loop-i.invariant.knows x.at number.0 x.item number.1 in
    let is = is_sound s es (at_page page (length es) (take i items) x.at) x.item.atom x.item.reason in
    let rest = are_placed s es page (take (suc i) items) (drop (suc i) items) in
    let yes : (is_some (node_at x.at page) && is) ≡ true = ap (λ b. is_some (node_at x.at page) && b) (sym sound) ∙ sym (c.in_ok-item_placed.ensures.test number.0 number.1) ∙ c.if-not-branch.false in
    let next : are_placed s es page [] items ≡ rest = c.loop-i.invariant.so_far ∙ placed_one s es page items i x at ∙ and_left (is_some (node_at x.at page)) is rest yes in
    let added = c.in_ok-item_placed.ensures.added number.0 number.1 c.if-not-branch.false in
    let others = c.in_ok-item_placed.ensures.others number.0 number.1 c.if-not-branch.false in
    let knows : KnowsPage g.nodes.now new (take (suc i) items) = λ v m is_number.
    subst (λ h. KnowsPage g.nodes.now new h) (sym (take_suc items i x at)) (page_pushed g.nodes.now old new number.0 (take i items) x c.loop-i.invariant.knows number.1 added others) v m is_number in
    record {
      so_far = subst (λ m. are_placed s es page [] items ≡ are_placed s es page (take m items) (drop m items)) {x = suc i} (omega arith) next;
      knows = subst (λ m. KnowsPage g.nodes.now new (take m items)) {x = suc i} (omega arith) knows;
    }

pub returns : goal.returns
returns c =
    let g = c.args.ground.now in
    let s = g.system.now in
    let es = g.entries.now in
    let page = g.page.now in
    let items = c.args.items.now in
    let i = c.loop-i.i-index in
    let past : length items ≤ i = omega (arith, c.loop-i-test.false) in
    let all : are_placed s es page [] items ≡ true = c.loop-i.invariant.so_far ∙ ap (are_placed s es page (take i items)) (drop_end items i past) in
    let root = page_gives_is g.nodes.now c.loop-i.known items i c.requires.all c.loop-i.invariant.knows [] c.args.target in
    c.node_gives.ensures
    ∙ ap (λ v. page_gives g.nodes.now c.loop-i.known v c.args.target) (c.deref.ensures.value ∙ c.new-root.ensures.items)
    ∙ root
    ∙ ap (λ z. has_atom c.args.target (items_at [] z)) (take_all i items past)
    ∙ ap (λ b. b && has_atom c.args.target (items_at [] items)) (sym all)
