use Rattle.std.proofs.Common.{List, map, ap, sym, ◌∙◌, subst}
use Rattle.simple_core.specs.declared.system.System.{System}
use Rattle.simple_core.specs.declared.rules.Local.{Local}
use Rattle.tp_base.specs.Classes.{union_of}
use Rattle.gathered.specs.Between.{IsBetween}
use Rattle.rule_index.specs.Asking.{AreMetBy, IsMore}
use Rattle.rule_index.specs.Indexes.{AreLocalsAt}
use Rattle.simple_core.specs.Labels.{given_by_rules}
use Rattle.rule_index.proofs.IndexLemmas.{ruled_by, between_labelled, on_err}
use Rattle.rule_index.proofs.indexed_system.IndexedSystem.add_later.Goals as goal

pub returns-clause-ok : goal.returns-clause-ok
returns-clause-ok c =
    let atoms = map (λ f. f.atom) c.args.fresh.now in
    let rules = c.items-rules.result.now in
    let same = c.items-rules.ensures ∙ ap (λ (s : System). s.local) c.self.view_is in
    subst (λ (z : List Local). IsMore c.args.label.now (given_by_rules z c.args.label.now) c.args.next.now c.add_by_firsts.new.next) same
    (ruled_by rules c.self.inside.local c.args.label.now atoms c.args.next.now c.add_by_firsts.new.next
    (subst (λ (z : List Local). AreLocalsAt z c.self.inside.local) (sym c.items-rules.ensures) c.self.invariant.of_local) (subst (λ (z : List Local). AreMetBy z c.args.label.now atoms) (sym same) c.requires.met)
    c.in_ok-add_by_firsts.ensures.ok)

pub returns-in_err-add_by_firsts-clause-err : goal.returns-in_err-add_by_firsts-clause-err
returns-in_err-add_by_firsts-clause-err c =
    let same = c.items-rules.ensures ∙ ap (λ (s : System). s.local) c.self.view_is in
    on_err _ c.from_residual.result (subst (λ (z : List Local). IsBetween c.args.next.now (union_of c.args.next.now (given_by_rules z c.args.label.now)) c.add_by_firsts.new.next) same
    (between_labelled c.items-rules.result.now c.args.label.now c.args.next.now c.add_by_firsts.new.next c.self.inside.local (map (λ f. f.atom) c.args.fresh.now) c.in_err-add_by_firsts.ensures.err))
