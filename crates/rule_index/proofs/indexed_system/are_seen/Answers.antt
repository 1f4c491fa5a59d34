use Rattle.std.proofs.Common.{◌≡◌, ℕ, List, take, Contains, arith, refl, sym, subst}
use Rattle.std.proofs.lemmas.List.{take_all}
use Rattle.tp_base.proofs.Rising.{Contains-none}
use Rattle.simple_core.specs.declared.rules.Link.{Link}
use Rattle.rule_index.specs.Asking.{AreUnseen}
use Rattle.rule_index.proofs.IndexLemmas.{quiet_more}
use Rattle.rule_index.proofs.indexed_system.are_seen.Goals as goal

pub loop-i-init : goal.loop-i-init
loop-i-init c = λ l listed there. Contains-none l.from there

pub loop-i-preserved : goal.loop-i-preserved
loop-i-preserved c = λ l listed there.
    quiet_more (λ a. (m : Link) × Contains c.args.links.now m × (m.from ≡ a)) c.args.label.now c.loop-i.i c.at.result c.at.ensures
    (λ x in_label m. c.loop-i.invariant m.0 m.1 (subst (Contains (take c.loop-i.i c.args.label.now)) (sym m.2) in_label)) (λ m. c.is_seen.ensures c.if-is_seen.false m.0 m.1 m.2) l.from there (l, listed, refl)

pub returns : goal.returns
returns c = λ none. subst (λ (z : List ℕ). AreUnseen c.args.links.now z) (take_all c.loop-i.i c.args.label.now (omega (arith, c.loop-i-test.false))) c.loop-i.invariant
