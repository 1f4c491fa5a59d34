use Rattle.std.proofs.Common.{List, ap, ◌∙◌, subst}
use Rattle.simple_core.specs.declared.system.System.{System}
use Rattle.simple_core.specs.declared.rules.Link.{Link}
use Rattle.rule_index.specs.Asking.{AreUnseen}
use Rattle.rule_index.proofs.indexed_system.IndexedSystem.is_seen_below.Goals as goal

pub returns : goal.returns
returns c = λ quiet. subst (λ (z : List Link). AreUnseen z c.args.label.now) (c.items.ensures ∙ ap (λ (s : System). s.up) c.self.view_is) (c.are_seen.ensures quiet)
