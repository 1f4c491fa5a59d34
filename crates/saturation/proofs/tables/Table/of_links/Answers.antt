use Rattle.std.proofs.Common.{◌≡◌, ℕ, List, [], refl, ap, subst}
use Rattle.simple_core.specs.declared.rules.Link.{Link}
use Rattle.saturation.specs.Tables.{noted_in, IsNoted}
use Rattle.saturation.proofs.TableLemmas.{has_none, has_more}
use Rattle.saturation.proofs.tables.Table.of_links.Goals as goal

pub loop-i-init : goal.loop-i-init
loop-i-init c = has_none (λ (l : Link) b. l.from ≡ b) (λ (l : Link). l.to) [] (noted_in c.new-table.result) refl (λ b. ap (λ (rows : List (List ℕ)). noted_in rows b) c.new-table.ensures)

pub loop-i-preserved : goal.loop-i-preserved
loop-i-preserved c =
    has_more (λ (l : Link) b. l.from ≡ b) (λ (l : Link). l.to) c.args.links.now c.loop-i.i c.index-links-i.result (noted_in c.loop-i.table) (noted_in c.note.new.self)
    c.loop-i-test.true c.index-links-i.is c.loop-i.invariant (subst (λ (x : Link). IsNoted (λ b. x.from ≡ b) x.to (noted_in c.loop-i.table) (noted_in c.note.new.self)) c.link.view_is c.in_ok-note.ensures)
