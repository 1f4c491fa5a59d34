use Rattle.std.proofs.Common.{◌≡◌, ℕ, List, [], refl, ap, subst}
use Rattle.simple_core.specs.declared.rules.Spawn.{Spawn}
use Rattle.saturation.specs.Tables.{noted_in, IsNoted}
use Rattle.saturation.proofs.TableLemmas.{has_none, has_more}
use Rattle.saturation.proofs.tables.Table.of_spawns.Goals as goal

pub loop-i-init : goal.loop-i-init
loop-i-init c = has_none (λ (c : Spawn) b. c.kind ≡ b) (λ (c : Spawn). c.needs) [] (noted_in c.new-table.result) refl (λ b. ap (λ (rows : List (List ℕ)). noted_in rows b) c.new-table.ensures)

pub loop-i-preserved : goal.loop-i-preserved
loop-i-preserved c =
    has_more (λ (c : Spawn) b. c.kind ≡ b) (λ (c : Spawn). c.needs) c.args.spawns.now c.loop-i.i c.index-spawns-i.result (noted_in c.loop-i.table) (noted_in c.note.new.self)
    c.loop-i-test.true c.index-spawns-i.is c.loop-i.invariant (subst (λ (x : Spawn). IsNoted (λ b. x.kind ≡ b) x.needs (noted_in c.loop-i.table) (noted_in c.note.new.self)) c.spawn.view_is c.in_ok-note.ensures)
