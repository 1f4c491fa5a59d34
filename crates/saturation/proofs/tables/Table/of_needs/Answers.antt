use Rattle.std.proofs.Common.{ℕ, List, [], refl, ap, subst, Contains}
use Rattle.simple_core.specs.declared.rules.Local.{Local}
use Rattle.saturation.specs.Tables.{noted_in, IsNoted}
use Rattle.saturation.proofs.TableLemmas.{has_none, has_more}
use Rattle.saturation.proofs.tables.Table.of_needs.Goals as goal

pub loop-i-init : goal.loop-i-init
loop-i-init c = has_none (λ (r : Local) b. Contains r.needs b) (λ (r : Local). r.gives) [] (noted_in c.new-table.result) refl (λ b. ap (λ (rows : List (List ℕ)). noted_in rows b) c.new-table.ensures)

pub loop-i-preserved : goal.loop-i-preserved
loop-i-preserved c =
    has_more (λ (r : Local) b. Contains r.needs b) (λ (r : Local). r.gives) c.args.rules.now c.loop-i.i c.index-rules-i.result (noted_in c.loop-i.table) (noted_in c.note_each.new.self)
    c.loop-i-test.true c.index-rules-i.is c.loop-i.invariant (subst (λ (x : Local). IsNoted (Contains x.needs) x.gives (noted_in c.loop-i.table) (noted_in c.note_each.new.self)) c.rule.view_is c.in_ok-note_each.ensures)
