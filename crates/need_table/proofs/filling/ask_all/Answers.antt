use Rattle.std.proofs.Common.{ℕ, List, sym, subst}
use Rattle.rule_index.specs.Asking.{AreKinds}
use Rattle.need_table.proofs.filling.ask_all.Goals as goal

pub ask_kinds-requires-clause-kinds : goal.ask_kinds-requires-clause-kinds
ask_kinds-requires-clause-kinds c = subst (λ (z : List ℕ). AreKinds c.args.system.now c.args.own.now z) (sym c.deref.ensures.value) c.in_ok-kinds.ensures
