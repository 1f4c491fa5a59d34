use Rattle.std.proofs.Common.{None, refl, ap, ◌∙◌, arith}
use Rattle.tree_sem.specs.declared.slots.Slot.{Slot}
use Rattle.tree_sem.specs.Table.{tree_in}
use Rattle.tree_sem.specs.Trees.{count_of}
use Rattle.tree_sem.proofs.CutLemmas.{child_here, written_forest, written_loose, written_tree, written_child, written_count, written_at}
use Rattle.tree_sem.proofs.cutting.cut_child.Goals as goal

pub index_mut-slot-requires-2 : goal.index_mut-slot-requires-2
index_mut-slot-requires-2 c =
    let old = c.args.slots.now in
    let was = c.index_mut-slot.result.now in
    let first : Slot = record { label = was.label; children = c.remove-child.new.self; parent = was.parent } in
    child_here old c.args.place c.args.step c.remove-child.result was was first first c.requires.forest c.index_mut-slot.ensures.value c.requires.step c.remove-child.ensures.value refl c.remove-child.ensures.items refl

pub release-requires-clause-forest : goal.release-requires-clause-forest
release-requires-clause-forest c =
    let old = c.args.slots.now in
    let was = c.index_mut-slot.result.now in
    let first : Slot = record { label = was.label; children = c.remove-child.new.self; parent = was.parent } in
    let next = c.index_mut-slot-2.result.now in
    let second : Slot = record { label = next.label; children = next.children; parent = None } in
    written_forest old c.args.place c.args.step c.remove-child.result was next first second c.requires.forest c.index_mut-slot.ensures.value c.requires.step c.remove-child.ensures.value refl c.remove-child.ensures.items refl c.index_mut-slot-2.ensures.value refl refl refl

pub release-requires-clause-loose : goal.release-requires-clause-loose
release-requires-clause-loose c =
    let old = c.args.slots.now in
    let was = c.index_mut-slot.result.now in
    let first : Slot = record { label = was.label; children = c.remove-child.new.self; parent = was.parent } in
    let next = c.index_mut-slot-2.result.now in
    let second : Slot = record { label = next.label; children = next.children; parent = None } in
    written_loose old c.args.place c.args.step c.remove-child.result was next first second c.requires.forest c.index_mut-slot.ensures.value c.requires.step c.remove-child.ensures.value refl c.remove-child.ensures.items refl c.index_mut-slot-2.ensures.value refl refl refl

pub returns-clause-tree : goal.returns-clause-tree
returns-clause-tree c = λ p at.
    let old = c.args.slots.now in
    let was = c.index_mut-slot.result.now in
    let first : Slot = record { label = was.label; children = c.remove-child.new.self; parent = was.parent } in
    let next = c.index_mut-slot-2.result.now in
    let second : Slot = record { label = next.label; children = next.children; parent = None } in
    c.release.ensures.tree ∙ written_tree old c.args.place c.args.step c.remove-child.result was next first second c.requires.forest c.index_mut-slot.ensures.value c.requires.step c.remove-child.ensures.value refl c.remove-child.ensures.items refl c.index_mut-slot-2.ensures.value refl refl refl p at

pub returns-clause-count : goal.returns-clause-count
returns-clause-count c = λ d at.
    let old = c.args.slots.now in
    let was = c.index_mut-slot.result.now in
    let first : Slot = record { label = was.label; children = c.remove-child.new.self; parent = was.parent } in
    let next = c.index_mut-slot-2.result.now in
    let second : Slot = record { label = next.label; children = next.children; parent = None } in
    let same = ap (λ i. count_of (tree_in old i)) (written_at old c.args.place c.args.step c.remove-child.result was next first second c.requires.forest c.index_mut-slot.ensures.value c.requires.step c.remove-child.ensures.value refl c.remove-child.ensures.items refl c.index_mut-slot-2.ensures.value refl refl refl d at) in
    let child = ap count_of (written_child old c.args.place c.args.step c.remove-child.result was next first second c.requires.forest c.index_mut-slot.ensures.value c.requires.step c.remove-child.ensures.value refl c.remove-child.ensures.items refl c.index_mut-slot-2.ensures.value refl refl refl) in
    let count = written_count old c.args.place c.args.step c.remove-child.result was next first second c.requires.forest c.index_mut-slot.ensures.value c.requires.step c.remove-child.ensures.value refl c.remove-child.ensures.items refl c.index_mut-slot-2.ensures.value refl refl refl in
    omega (arith, same, child, count, c.release.ensures.count)
