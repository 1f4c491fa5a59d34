use Rattle.std.proofs.Common.{ℕ, List, refl, sym, subst}
use Rattle.pair_table.specs.declared.table.Row.{Row}
use Rattle.simple_core.specs.Rounds.{grown}
use Rattle.proof_maker.specs.declared.told.Told.{Told}
use Rattle.proof_maker.specs.Tellings.{IsTold}
use Rattle.proof_maker.specs.PlaceMemos.{IsPlaceMemo}
use Rattle.proof_maker.proofs.MemoLemmas.{pushed_rows, pushed_row}
use Rattle.proof_maker.proofs.place_memo.PlaceMemo.reach.Goals as goal

pub returns-in_ok-parent-in-None-clause-rows : goal.returns-in_ok-parent-in-None-clause-rows
returns-in_ok-parent-in-None-clause-rows g c =
    let s = g.S.Summaries.system c.args.sums.now in
    let told = c.in_ok-told-in-None.told in
    let parent = c.in_ok-parent-in-None.parent in
    pushed_rows s c.self.inside.table c.push.new.self (record { kind = c.args.kind; label = parent; value = told }) c.push.result (subst (λ (z : List (Row Told)). IsPlaceMemo s z) (sym c.self.view_is) c.requires.rows)
    (subst (λ (z : List ℕ). IsTold s (λ k. grown s k c.args.kind z) told) (sym c.in_ok-parent-in-None.ensures) c.in_ok-told-in-None.ensures) c.push.ensures.ok c.push.ensures.err

pub returns-in_ok-parent-in-None-clause-row : goal.returns-in_ok-parent-in-None-clause-row
returns-in_ok-parent-in-None-clause-row g c =
    pushed_row c.self.inside.table c.push.new.self (record { kind = c.args.kind; label = c.in_ok-parent-in-None.parent; value = c.in_ok-told-in-None.told }) c.args.kind c.args.parent.now c.push.result
    refl c.in_ok-parent-in-None.ensures c.push.ensures.ok c.push.ensures.place
