use Rattle.std.proofs.Common.{List, ℕ, ◌++◌, take, sym, subst, ap, ◌∙◌, arith}
use Rattle.std.proofs.lemmas.List.{take_all}
use Rattle.tp_base.proofs.Lists.{take_next}
use Rattle.class_diagrams.specs.Arena.{tree_at}
use Rattle.row_index.specs.Rows.{row_of}
use Rattle.pushdown_sym.specs.CellMap.{trees_in}
use Rattle.saturation.specs.Waking.{seen_each, AreSeen}
use Rattle.saturation.proofs.EndsLemmas.{seen_none, seen_skipped, seen_more}
use Rattle.saturation.proofs.parents.add_seen.Goals as goal
use Rattle.saturation.proofs.parents.add_seen.Goals.{in-Some+in_ok-add_marked, in_default}

pub loop-i-init : goal.loop-i-init
loop-i-init c branches = seen_none (trees_in branches c.args.now.now) c.args.marks.now (row_of c.args.ends.now) c.args.todo.now.items

pub loop-i-preserved : goal.loop-i-preserved
loop-i-preserved c branches =
    let now = trees_in branches c.args.now.now in
    let marks = c.args.marks.now in
    let done = take c.loop-i.i c.args.atoms.now in
    let atom = c.at-atom.result in
    let ends : ℕ → List ℕ = row_of c.args.ends.now in
    let old = c.args.todo.now.items in
    subst (λ (ms : List ℕ). AreSeen now marks ms ends old c.match-of.todo.items) (sym (take_next c.args.atoms.now c.loop-i.i atom c.at-atom.ensures))
    (elim c.match-of.branch [
      | in-Some+in_ok-add_marked w ↦
          seen_more now marks done atom ends w.kinds_with.result.now old c.loop-i.todo.items c.match-of.todo.items
          (λ j some. w.kinds_with.ensures j (λ none. some (ap (tree_at branches) none)))
          (ap (λ v. v.items) w.todo-is ∙ w.in_ok-add_marked.ensures
          ∙ ap (λ (es : List ℕ). c.loop-i.todo.items ++ seen_each marks es w.kinds_with.result.now) w.in-Some.ensures.some)
          (c.loop-i.invariant branches)
      | in_default w ↦
          rw w.todo-is (seen_skipped now marks done atom ends old c.loop-i.todo.items w.in_default.ensures.none (c.loop-i.invariant branches))
    ])

pub returns : goal.returns
returns c branches =
    subst (λ (ms : List ℕ). AreSeen (trees_in branches c.args.now.now) c.args.marks.now ms (row_of c.args.ends.now) c.args.todo.now.items c.loop-i.todo.items)
    (take_all c.loop-i.i c.args.atoms.now (omega (arith, c.loop-i-test.false, c.len-i-end.ensures.count))) (c.loop-i.invariant branches)
