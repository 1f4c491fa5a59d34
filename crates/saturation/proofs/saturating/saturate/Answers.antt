use Rattle.std.proofs.Common.{◌≡◌, ℕ, OnOk, IsErrOf, IsOk, sym, subst}
use Rattle.simple_core.specs.declared.summaries.GainFault.TheVariants.{Spent}
use Rattle.simple_core.specs.declared.system.System.{System}
use Rattle.simple_core.specs.Systems.{IsSound}
use Rattle.pushdown_sym.specs.CellMap.{place_in}
use Rattle.saturation.specs.Budgets.{MayBeSpent, HasToBeSpent}
use Rattle.saturation.specs.Histories.{start_place}
use Rattle.saturation.specs.HistoryMap.{history_in}
use Rattle.saturation.specs.Saturation.{IsBuilt}
use Rattle.saturation.proofs.NoKinds.{none_built, none_whole}
use Rattle.saturation.proofs.saturating.saturate.Goals as goal

pub returns-then-has_no_kinds-clause-built : goal.returns-then-has_no_kinds-clause-built
returns-then-has_no_kinds-clause-built c =
    none_built c.args.system.now c.requires.sound (c.has_no_kinds.ensures c.if-has_no_kinds.true) c.args.d.now c.args.log.now c.args.cells.now
    (λ i. record { branches = c.requires.empty i; limit = c.args.d.now.limit }) c.requires.arena c.requires.log c.requires.cells

pub returns-then-has_no_kinds-clause-whole : goal.returns-then-has_no_kinds-clause-whole
returns-then-has_no_kinds-clause-whole c _ =
    none_whole c.args.system.now c.requires.sound (c.has_no_kinds.ensures c.if-has_no_kinds.true) c.args.d.now c.args.log.now c.args.cells.now
    (λ i. record { branches = c.requires.empty i; limit = c.args.d.now.limit }) c.requires.arena c.requires.log c.requires.cells

pub saturate_by-requires-clause-sound : goal.saturate_by-requires-clause-sound
saturate_by-requires-clause-sound c = subst IsSound (sym c.in_ok-equations.ensures) c.requires.sound

pub saturate_by-requires-clause-cells : goal.saturate_by-requires-clause-cells
saturate_by-requires-clause-cells c =
    subst (λ (s : System). (j a : ℕ) → place_in c.args.cells.now j a ≡ start_place s j a) (sym c.in_ok-equations.ensures) c.requires.cells

pub returns-clause-built : goal.returns-clause-built
returns-clause-built c =
    subst (λ (s : System). OnOk c.saturate_by.result (IsBuilt s c.saturate_by.new.d (history_in c.saturate_by.new.log) c.saturate_by.new.cells)) c.in_ok-equations.ensures c.saturate_by.ensures.built

pub returns-clause-spent : goal.returns-clause-spent
returns-clause-spent c = subst (λ (s : System). IsErrOf c.saturate_by.result Spent → MayBeSpent s c.args.d.now.limit) c.in_ok-equations.ensures c.saturate_by.ensures.spent

pub returns-clause-whole : goal.returns-clause-whole
returns-clause-whole c = subst (λ (s : System). IsOk c.saturate_by.result → ¬ HasToBeSpent s c.args.d.now.limit) c.in_ok-equations.ensures c.saturate_by.ensures.whole
