use Rattle.std.proofs.Common.{length, ap, subst}
use Rattle.simple_core.specs.declared.system.System.{System}
use Rattle.rule_index.specs.Indexes.{AreLinksAt}
use Rattle.rule_index.proofs.IndexLemmas.{visible_by}
use Rattle.rule_index.proofs.indexed_system.IndexedSystem.is_visible.Goals as goal

pub returns : goal.returns
returns c =
    visible_by c.args.self.now c.self.inside.up c.args.atom (length c.of.result.now) c.atom.inside.0 c.requires (subst (λ (s : System). AreLinksAt s.up c.self.inside.up) c.self.view_is c.self.invariant.of_up) c.atom.view_is (ap length c.of.ensures)
