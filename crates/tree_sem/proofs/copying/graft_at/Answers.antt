use Rattle.std.proofs.Common.{◌≡◌, [], ◌∷◌, ◌++◌, length, Some, slice_get, sym, ap, ◌∙◌, arith}
use Rattle.std.proofs.lemmas.Option.{slice_get_within}
use Rattle.tree_sem.specs.Cuts.{drop_child}
use Rattle.tree_sem.specs.Table.{kids_in, tree_in}
use Rattle.tree_sem.specs.Trees.{edit_at}
use Rattle.tree_sem.proofs.ChangeLemmas.{same_table}
use Rattle.tree_sem.proofs.CopyLemmas.{graft_table, graft_here, graft_tree, back_place, back_child, back_tree}
use Rattle.tree_sem.proofs.CutLemmas.{table_cut}
use Rattle.tree_sem.proofs.TableLemmas.{place_there}
use Rattle.tree_sem.proofs.WriteLemmas.{kids_are}
use Rattle.tree_sem.proofs.copying.graft_at.Goals as goal

pub index-requires : goal.index-requires
index-requires c = place_there c.args.slots.now c.requires.table.forest c.requires.here.0 c.args.place c.requires.here.1

pub returns-in_err-child-clause-table : goal.returns-in_err-child-clause-table
returns-in_err-child-clause-table c = same_table c.args.slots.now c.push_child.new.slots c.args.place c.in_err-child.ensures.err c.requires.table

pub copy_below-requires-clause-table : goal.copy_below-requires-clause-table
copy_below-requires-clause-table c =
    let old = c.args.slots.now in
    let source = c.args.source.now in
    let mid = c.push_child.new.slots in
    let place = c.args.place in
    let child = c.in_ok-child.child in
    let l = c.in_ok-label.label in
    let grown = c.in_ok-child.ensures.ok in
    let rises = c.in_ok-child.ensures.rises in
    let p = c.requires.here.0 in
    let at = c.requires.here.1 in
    graft_table old mid source place child l c.requires.table c.requires.source grown rises c.requires.room p at

pub copy_below-requires-clause-here : goal.copy_below-requires-clause-here
copy_below-requires-clause-here c =
    let old = c.args.slots.now in
    let source = c.args.source.now in
    let mid = c.push_child.new.slots in
    let place = c.args.place in
    let child = c.in_ok-child.child in
    let l = c.in_ok-label.label in
    let grown = c.in_ok-child.ensures.ok in
    let rises = c.in_ok-child.ensures.rises in
    let p = c.requires.here.0 in
    let at = c.requires.here.1 in
    (p ++ length (kids_in old place) ∷ [], graft_here old mid source place child l c.requires.table c.requires.source grown rises c.requires.room p at)

-- memory failed
pub cut_child-requires-clause-here : goal.cut_child-requires-clause-here
cut_child-requires-clause-here c =
    let old = c.args.slots.now in
    let source = c.args.source.now in
    let mid = c.push_child.new.slots in
    let place = c.args.place in
    let child = c.in_ok-child.child in
    let l = c.in_ok-label.label in
    let grown = c.in_ok-child.ensures.ok in
    let rises = c.in_ok-child.ensures.rises in
    let p = c.requires.here.0 in
    let at = c.requires.here.1 in
    let late = c.copy_below.new.slots in
    let here = graft_here old mid source place child l c.requires.table c.requires.source grown rises c.requires.room p at in
    let failed = c.in-Err.ensures.err (p ++ length (kids_in old place) ∷ []) here in
    place_there late c.in-Err.ensures.table.forest p place (back_place old mid source place child l c.requires.table c.requires.source grown rises c.requires.room p at late c.in-Err.ensures.stays failed.0 failed.1)

pub cut_child-requires-clause-step : goal.cut_child-requires-clause-step
cut_child-requires-clause-step c =
    let old = c.args.slots.now in
    let source = c.args.source.now in
    let mid = c.push_child.new.slots in
    let place = c.args.place in
    let child = c.in_ok-child.child in
    let l = c.in_ok-label.label in
    let grown = c.in_ok-child.ensures.ok in
    let rises = c.in_ok-child.ensures.rises in
    let p = c.requires.here.0 in
    let at = c.requires.here.1 in
    let late = c.copy_below.new.slots in
    let here = graft_here old mid source place child l c.requires.table c.requires.source grown rises c.requires.room p at in
    let failed = c.in-Err.ensures.err (p ++ length (kids_in old place) ∷ []) here in
    let many = ap length (kids_are old place c.index.result.now c.index.ensures) in
    let number : length (kids_in old place) ≡ c.len-last.result = omega (arith, many, c.index.result.now.children.ok.0, c.len-last.ensures) in
    omega (arith, number, slice_get_within (kids_in late place) (length (kids_in old place)) child (back_child old mid source place child l c.requires.table c.requires.source grown rises c.requires.room p at late c.in-Err.ensures.stays failed.0 failed.1))

pub returns-in-Err-clause-table : goal.returns-in-Err-clause-table
returns-in-Err-clause-table c =
    let old = c.args.slots.now in
    let source = c.args.source.now in
    let mid = c.push_child.new.slots in
    let place = c.args.place in
    let child = c.in_ok-child.child in
    let l = c.in_ok-label.label in
    let grown = c.in_ok-child.ensures.ok in
    let rises = c.in_ok-child.ensures.rises in
    let p = c.requires.here.0 in
    let at = c.requires.here.1 in
    let late = c.copy_below.new.slots in
    let here = graft_here old mid source place child l c.requires.table c.requires.source grown rises c.requires.room p at in
    let failed = c.in-Err.ensures.err (p ++ length (kids_in old place) ∷ []) here in
    let many = ap length (kids_are old place c.index.result.now c.index.ensures) in
    let number : length (kids_in old place) ≡ c.len-last.result = omega (arith, many, c.index.result.now.children.ok.0, c.len-last.ensures) in
    let place_at = back_place old mid source place child l c.requires.table c.requires.source grown rises c.requires.room p at late c.in-Err.ensures.stays failed.0 failed.1 in
    let child_at : slice_get (kids_in late place) c.len-last.result ≡ Some child = ap (slice_get (kids_in late place)) (sym number) ∙ back_child old mid source place child l c.requires.table c.requires.source grown rises c.requires.room p at late c.in-Err.ensures.stays failed.0 failed.1 in
    table_cut late c.cut_child.new.slots place c.len-last.result child p c.in-Err.ensures.table c.cut_child.ensures.forest place_at child_at (c.cut_child.ensures.tree p place_at) (c.cut_child.ensures.count child child_at)

pub returns-in-Err-clause-err : goal.returns-in-Err-clause-err
returns-in-Err-clause-err c =
    let old = c.args.slots.now in
    let source = c.args.source.now in
    let mid = c.push_child.new.slots in
    let place = c.args.place in
    let child = c.in_ok-child.child in
    let l = c.in_ok-label.label in
    let grown = c.in_ok-child.ensures.ok in
    let rises = c.in_ok-child.ensures.rises in
    let p = c.requires.here.0 in
    let at = c.requires.here.1 in
    let late = c.copy_below.new.slots in
    let here = graft_here old mid source place child l c.requires.table c.requires.source grown rises c.requires.room p at in
    let failed = c.in-Err.ensures.err (p ++ length (kids_in old place) ∷ []) here in
    let many = ap length (kids_are old place c.index.result.now c.index.ensures) in
    let number : length (kids_in old place) ≡ c.len-last.result = omega (arith, many, c.index.result.now.children.ok.0, c.len-last.ensures) in
    let cut = c.cut_child.ensures.tree p (back_place old mid source place child l c.requires.table c.requires.source grown rises c.requires.room p at late c.in-Err.ensures.stays failed.0 failed.1) in
    back_tree old mid source place child l c.requires.table c.requires.source grown rises c.requires.room p at late c.in-Err.ensures.stays failed.0 failed.1 c.cut_child.new.slots (cut ∙ ap (λ n. edit_at p (drop_child n) (tree_in late 0)) (sym number))

pub returns-clause-ok : goal.returns-clause-ok
returns-clause-ok c = λ p at.
    let old = c.args.slots.now in
    let source = c.args.source.now in
    let mid = c.push_child.new.slots in
    let place = c.args.place in
    let child = c.in_ok-child.child in
    let l = c.in_ok-label.label in
    let grown = c.in_ok-child.ensures.ok in
    let rises = c.in_ok-child.ensures.rises in
    graft_tree old mid source place child l c.requires.table c.requires.source grown rises c.requires.room p at c.copy_below.new.slots (tree_in source 0) (c.in_default.ensures.ok (p ++ length (kids_in old place) ∷ []) (graft_here old mid source place child l c.requires.table c.requires.source grown rises c.requires.room p at))
