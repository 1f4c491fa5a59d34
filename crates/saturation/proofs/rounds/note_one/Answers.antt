use Rattle.std.proofs.Common.{ℕ, false, ◌==◌, ◌&&◌, if◌then◌else◌, [], ◌∷◌, ◌++◌, refl, sym, ap, ◌∙◌}
use Rattle.std.proofs.lemmas.Bool.{both_ways}
use Rattle.class_diagrams.specs.Arena.{tree_at}
use Rattle.pushdown_sym.specs.CellMap.{place_in}
use Rattle.saturation.specs.HistoryMap.{history_in}
use Rattle.saturation.proofs.NoteLemmas.{either_in, noted_again, noted_push}
use Rattle.saturation.proofs.rounds.note_one.Goals as goal

pub returns-in_ok-push-clause-cells : goal.returns-in_ok-push-clause-cells
returns-in_ok-push-clause-cells c j a =
    either_in c.args.d.now.branches ((c.args.change.0.0 == j) && (c.args.change.0.1 == a)) c.args.change.1 (place_in c.args.cells.now j a) (place_in c.replace.new.self j a)
    (c.in_ok-before.ensures.ok j a) c.requires.inside (c.requires.cells j a)

pub returns-in_ok-push-clause-noted : goal.returns-in_ok-push-clause-noted
returns-in_ok-push-clause-noted c s k done round tree noted =
    noted_push s c.args.d.now.branches k done c.args.change.0.0 c.args.change.0.1 c.args.change.1 tree
    (history_in c.args.log.now) (history_in c.push.new.self) (place_in c.args.cells.now) (place_in c.replace.new.self) c.requires.inside
    (λ same. both_ways false refl (c.if-not-same.ensures.same.1 (same ∙ ap (tree_at c.args.d.now.branches) (sym c.in_ok-before.ensures.before))))
    (λ i b. c.in_ok-push.ensures i b ∙ ap (λ (r : ℕ). if (c.args.change.0.0 == i) && (c.args.change.0.1 == b) then history_in c.args.log.now c.args.change.0.0 c.args.change.0.1 ++ (r, c.args.change.1) ∷ [] else history_in c.args.log.now i b) round)
    c.in_ok-before.ensures.ok noted

pub returns-else-not-same-clause-cells : goal.returns-else-not-same-clause-cells
returns-else-not-same-clause-cells c j a =
    either_in c.args.d.now.branches ((c.args.change.0.0 == j) && (c.args.change.0.1 == a)) c.args.change.1 (place_in c.args.cells.now j a) (place_in c.replace.new.self j a)
    (c.in_ok-before.ensures.ok j a) c.requires.inside (c.requires.cells j a)

pub returns-else-not-same-clause-noted : goal.returns-else-not-same-clause-noted
returns-else-not-same-clause-noted c s k done round tree noted =
    noted_again s c.args.d.now.branches k done c.args.change.0.0 c.args.change.0.1 c.args.change.1 tree
    (history_in c.args.log.now) (place_in c.args.cells.now) (place_in c.replace.new.self)
    (c.if-not-same.ensures.same.0 refl ∙ ap (tree_at c.args.d.now.branches) c.in_ok-before.ensures.before) c.in_ok-before.ensures.ok noted
