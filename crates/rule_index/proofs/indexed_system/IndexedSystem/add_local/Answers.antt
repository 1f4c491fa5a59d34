use Rattle.std.proofs.Common.{List, ap, sym, ◌∙◌, subst}
use Rattle.simple_core.specs.declared.system.System.{System}
use Rattle.simple_core.specs.declared.rules.Local.{Local}
use Rattle.rule_index.specs.Asking.{AreMet}
use Rattle.rule_index.specs.Indexes.{AreLocalsAt, AreRareAt}
use Rattle.rule_index.proofs.IndexLemmas.{found_by_each, found_by_rarest}
use Rattle.rule_index.proofs.indexed_system.IndexedSystem.add_local.Goals as goal

pub add_by_needs-requires : goal.add_by_needs-requires
add_by_needs-requires c =
    found_by_rarest c.items-rules.result.now c.self.inside.rare c.args.label.now c.args.fresh.now
    (subst (λ (z : List Local). AreRareAt z c.self.inside.rare) (sym c.items-rules.ensures) c.self.invariant.of_rare) (c.are_all_fresh.ensures c.if-are_all_fresh.true)

pub add_by_needs-requires-2 : goal.add_by_needs-requires-2
add_by_needs-requires-2 c =
    found_by_each c.items-rules.result.now c.self.inside.local c.args.label.now c.args.fresh.now
    (subst (λ (z : List Local). AreLocalsAt z c.self.inside.local) (sym c.items-rules.ensures) c.self.invariant.of_local)
    (subst (λ (z : List Local). AreMet z c.args.label.now c.args.fresh.now) (sym (c.items-rules.ensures ∙ ap (λ (s : System). s.local) c.self.view_is)) c.requires)
