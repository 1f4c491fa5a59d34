use Rattle.std.proofs.Common.{◌≡◌, IfOk, ap, sym, ◌∙◌, subst, arith}
use Rattle.rule_index.proofs.IndexLemmas.{seen_next, seen_past, seen_set}
use Rattle.rule_index.proofs.indexed_system.IndexedSystem.visible_of.Goals.{then-is_visible+in_ok-push, else-is_visible}
use Rattle.rule_index.proofs.indexed_system.IndexedSystem.visible_of.Goals as goal

pub loop-i-preserved : goal.loop-i-preserved
loop-i-preserved c =
    elim c.if-is_visible.branch [
      | then-is_visible+in_ok-push w ↦
          seen_next c.args.self.now c.args.label.now c.loop-i.seen.items c.if-is_visible.seen.items c.loop-i.i c.at-atom.result c.at-atom.ensures (sym c.is_visible.ensures ∙ w.if-is_visible.true) c.loop-i.invariant
          (ap (λ v. v.items) w.seen-is ∙ w.in_ok-push.ensures.items)
      | else-is_visible w ↦
          ap (λ v. v.items) w.seen-is ∙ seen_past c.args.self.now c.args.label.now c.loop-i.seen.items c.loop-i.i c.at-atom.result c.at-atom.ensures (sym c.is_visible.ensures ∙ w.if-is_visible.false) c.loop-i.invariant
    ]

pub returns : goal.returns
returns c =
    subst (λ z. IfOk c.of.result (λ s. s ≡ z)) (seen_set c.args.self.now c.args.label.now c.loop-i.seen.items c.loop-i.i c.allocator.ensures (omega (arith, c.loop-i-test.false)) c.loop-i.invariant) c.of.ensures
