use Rattle.std.proofs.Common.{sym, inl, inr, ◌∙◌}
use Rattle.std.proofs.lemmas.Bool.{both_ways}
use Rattle.tp_base.specs.Classes.{has_class}
use Rattle.tp_base.proofs.ClassLemmas.{has_class-Contains}
use Rattle.rule_index.proofs.indexed_system.IndexedSystem.is_looked_at.Goals as goal

pub returns-else-is_visible : goal.returns-else-is_visible
returns-else-is_visible c = λ quiet asks. elim asks [
  | inl seen ↦
      let visible = c.args.self.now.visible in
      both_ways (has_class c.args.atom visible) (sym c.is_visible.ensures ∙ c.if-is_visible.false) (has_class-Contains c.args.atom visible seen)
  | inr child ↦ c.spawns.ensures quiet child.0 child.1 child.2
]
