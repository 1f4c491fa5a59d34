use Rattle.std.proofs.Common.{◌≡◌, ℕ, ◌+◌, ◌*◌, ◌-◌, leb, List, sym, ap, ◌∙◌, arith}
use Rattle.std.proofs.lemmas.Bool.{leb-true, le-leb}
use Rattle.std.specs.List.{sum_by}
use Rattle.tree_sem.specs.Order.{paths_of}
use Rattle.tree_sem.specs.Trees.{LabelTree, count_of}
use Rattle.jq_sem.specs.Runs.{marked_from, count_marked}
use Rattle.jq_sem.proofs.RunLemmas.{count_of-run_classes, count_of-marked_inside, count_of-marked_beside, room_is}
use Rattle.jq_sem.proofs.marked_nodes.stays_within.Goals as goal

pub returns-in-Classes : goal.returns-in-Classes
returns-in-Classes c =
    let same = count_of-run_classes c.args.action.now c.in-Classes.field-0 (marked_from c.args.marks.now 0 (paths_of c.args.tree.now)) c.args.tree.now c.in-Classes.is ∙ sym c.count-nodes.ensures.count in
    room_is (leb c.count-nodes.result c.args.most) c.count-nodes.result _ c.args.most (leb-true c.count-nodes.result c.args.most, le-leb c.count-nodes.result c.args.most) same

pub returns-in-Inside : goal.returns-in-Inside
returns-in-Inside c =
    let times = c.marked_count-times.result in
    let added = λ (n : ℕ) (tops : List LabelTree). n + times * sum_by count_of tops in
    let all : c.count-nodes.result - 0 ≡ count_of c.args.tree.now = omega (arith, c.count-nodes.ensures.count) in
    let many = c.marked_count-times.ensures.count ∙ ap (count_marked c.args.marks.now 0) all in
    let same = count_of-marked_inside c.args.action.now c.in-Inside.forest c.args.marks.now c.args.tree.now times c.in-Inside.is many
    ∙ ap (λ n. added n c.in-Inside.forest.tops) (sym c.count-nodes.ensures.count) ∙ ap (λ z. added c.count-nodes.result z) (sym c.items.ensures) in
    room_is c.has_room.result (added c.count-nodes.result c.items.result.now) _ c.args.most c.has_room.ensures same

pub returns-in-Beside : goal.returns-in-Beside
returns-in-Beside c =
    let times = c.marked_count-times-in-Beside.result in
    let added = λ (n : ℕ) (tops : List LabelTree). n + times * sum_by count_of tops in
    let many = c.marked_count-times-in-Beside.ensures.count ∙ ap (λ n. count_marked c.args.marks.now 1 (n - 1)) c.count-nodes.ensures.count in
    let same = count_of-marked_beside c.args.action.now c.in-Beside.forest c.args.marks.now c.args.tree.now times c.in-Beside.is many
    ∙ ap (λ n. added n c.in-Beside.forest.tops) (sym c.count-nodes.ensures.count) ∙ ap (λ z. added c.count-nodes.result z) (sym c.items-in-Beside.ensures) in
    room_is c.has_room-in-Beside.result (added c.count-nodes.result c.items-in-Beside.result.now) _ c.args.most c.has_room-in-Beside.ensures same
