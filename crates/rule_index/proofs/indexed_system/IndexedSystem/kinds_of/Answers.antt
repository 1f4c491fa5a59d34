use Rattle.std.proofs.Common.{◌≡◌, ◌++◌, List, ℕ, ap, ◌∙◌, subst}
use Rattle.simple_core.specs.declared.system.System.{System}
use Rattle.simple_core.specs.declared.rules.Spawn.{Spawn}
use Rattle.rule_index.specs.Indexes.{by_label, kind_of, AreSpawnsAt}
use Rattle.rule_index.proofs.IndexLemmas.{spawned}
use Rattle.rule_index.proofs.indexed_system.IndexedSystem.kinds_of.Goals as goal

pub returns : goal.returns
returns c =
    let n = c.self.inside in
    let child : c.items.result.now ≡ c.args.self.now.child = c.items.ensures ∙ ap (λ (s : System). s.child) c.self.view_is in
    spawned c.args.self.now n.child c.args.label.now c.add_spawned.new.kinds.items (subst (λ (s : System). AreSpawnsAt s.child n.child) c.self.view_is c.self.invariant.of_child)
    (c.in_ok-add_spawned.ensures ∙ ap (λ (z : List ℕ). z ++ by_label kind_of c.items.result.now n.child (λ a. a) c.args.label.now) c.new-kinds.ensures.items
    ∙ ap (λ (z : List Spawn). by_label kind_of z n.child (λ a. a) c.args.label.now) child)
