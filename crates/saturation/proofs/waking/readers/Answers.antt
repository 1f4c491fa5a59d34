use Rattle.std.proofs.Common.{ℕ, Bool, ◌<◌, List, length, Contains, sym, subst}
use Rattle.std.proofs.lemmas.List.Elements.{All-contains}
use Rattle.row_index.specs.Rows.{row_of}
use Rattle.simple_core.specs.declared.rules.Spawn.{Spawn}
use Rattle.pushdown_sym.specs.CellMap.{trees_in}
use Rattle.pushdown_sym.specs.Ends.{AreEndsNoted}
use Rattle.saturation.specs.Tables.{noted_in}
use Rattle.saturation.specs.Waking.{CellName, by_makers, of_each, AreAllMarked, AreAbove, AreSeen}
use Rattle.saturation.proofs.WakingLemmas.{readers_are, readers_kept, ends_now}
use Rattle.saturation.proofs.waking.readers.Goals as goal

pub returns : goal.returns
returns c s before branches sound count reads below are_ends changed =
    let now = trees_in branches c.args.now.now in
    let r = c.args.reads.now in
    let w = c.in_ok-woken.ensures in
    let spawned : (x : Spawn) → Contains s.child x → x.kind < length s.kinds = λ x there. All-contains (λ (x : Spawn). x.kind < length s.kinds) s.child x sound.spawned there in
    let cells = c.in_ok-woken.woken.cells.items in
    let marks = c.in_ok-woken.woken.marks.items in
    let pairs = c.in_ok-pairs.pairs.items in
    let old : ℕ → List ℕ = row_of c.args.ends.now in
    let new : ℕ → List ℕ = row_of c.note_each.new.self in
    let marked = subst (λ (n : ℕ). AreAllMarked n r.looked c.args.changes.now marks) count w.marks in
    let wakes : List CellName = of_each (by_makers (noted_in r.makers) (noted_in r.by_child)) c.args.changes.now in
    let kept : (x : CellName) → Contains wakes x → Contains pairs x = λ x there. c.in_ok-pairs.ensures.kept x (subst (λ (cs : List CellName). Contains cs x) (sym w.above) there) in
    let only : (x : CellName) → Contains pairs x → Contains wakes x = λ x there. subst (λ (cs : List CellName). Contains cs x) w.above (c.in_ok-pairs.ensures.only x there) in
    let noted = subst (λ (cs : List CellName). AreEndsNoted cs old new) c.deref.ensures.value c.in_ok-note_each.ensures.ok in
    let above = subst (λ (n : ℕ). AreAbove now n pairs cells c.add_above.new.todo.items) count
    (subst (λ (cs : List CellName). AreAbove now c.args.count cs cells c.add_above.new.todo.items) c.deref-2.ensures.value (c.in_ok-add_above.ensures branches)) in
    let seen = subst (λ (ms : List Bool). AreSeen now ms r.needs new c.add_above.new.todo.items c.add_seen.new.todo.items) c.deref-3.ensures.value (c.in_ok-add_seen.ensures branches) in (
      readers_kept s now c.args.changes.now c.add_seen.new.todo.items c.in_ok-once.once.items
          (readers_are s spawned (noted_in r.by_needs) (noted_in r.by_child) (noted_in r.makers) r.needs r.looked reads before now c.args.changes.now below changed cells w.cells marks marked
          pairs kept only old new are_ends noted c.add_above.new.todo.items c.add_seen.new.todo.items above seen)
          c.in_ok-once.ensures.kept c.in_ok-once.ensures.only,
      ends_now s spawned (noted_in r.by_needs) (noted_in r.by_child) (noted_in r.makers) r.needs r.looked reads before now c.args.changes.now below changed cells w.cells marks marked
          pairs kept only old new are_ends noted c.add_above.new.todo.items c.add_seen.new.todo.items above seen,
    )
