use Rattle.std.proofs.Common.{List, ℕ, Some, Contains, refl, sym, subst}
use Rattle.simple_core.specs.declared.system.System.{System}
use Rattle.simple_core.specs.Rounds.{grown, IsFirst}
use Rattle.proof_needs.specs.Spots.{triple_of}
use Rattle.proof_maker.specs.PlaceMemos.{IsPlaceMemo}
use Rattle.proof_maker.proofs.FindLemmas.{ok_further}
use Rattle.proof_maker.proofs.GlanceLemmas.{first_some, added_glance}
use Rattle.proof_maker.proofs.MemoLemmas.{row_told, row_bound}
use Rattle.proof_maker.proofs.glances.glance_added.Goals as goal

pub reach-requires-clause-known : goal.reach-requires-clause-known
reach-requires-clause-known g c =
    let key = c.args.key.now in
    subst (λ (z : List ℕ). g.S.Summaries.known c.args.world.now.sums.now (key.kind, z)) (sym c.in_ok-parent.ensures) c.requires.key.pair

pub reach-requires-clause-rows : goal.reach-requires-clause-rows
reach-requires-clause-rows g c = subst (λ (y : System). IsPlaceMemo y c.args.memo.now) (sym c.requires.ready.made) c.requires.memo

pub told-told-requires : goal.told-told-requires
told-told-requires g c = row_bound c.reach.new.self c.args.key.now.kind c.in_ok-parent.parent c.in_ok-row.row c.in_ok-row.ensures.row

pub entry-entry-requires : goal.entry-entry-requires
entry-entry-requires g c =
    let key = c.args.key.now in
    subst (λ (z : List ℕ). g.S.Summaries.known c.args.world.now.sums.now (key.kind, z)) (sym c.in_ok-parent.ensures) c.requires.key.pair

pub first-requires-clause-place : goal.first-requires-clause-place
first-requires-clause-place g c =
    let key = c.args.key.now in (
      subst (λ (z : List ℕ). g.S.Summaries.known c.args.world.now.sums.now (key.kind, z)) (sym c.in_ok-parent.ensures) c.requires.key.pair,
      c.entry-entry.ensures,
    )

pub looks_below-requires-clause-place : goal.looks_below-requires-clause-place
looks_below-requires-clause-place g c =
    let key = c.args.key.now in (
      subst (λ (z : List ℕ). g.S.Summaries.known c.args.world.now.sums.now (key.kind, z)) (sym c.in_ok-parent.ensures) c.requires.key.pair,
      c.entry-entry.ensures,
    )

pub glance_in-requires-clause-place : goal.glance_in-requires-clause-place
glance_in-requires-clause-place g c =
    let key = c.args.key.now in (
      subst (λ (z : List ℕ). g.S.Summaries.known c.args.world.now.sums.now (key.kind, z)) (sym c.in_ok-parent.ensures) c.requires.key.pair,
      c.entry-entry.ensures,
    )

pub glance_in-requires-2-clause-place : goal.glance_in-requires-2-clause-place
glance_in-requires-2-clause-place g c =
    let key = c.args.key.now in (
      subst (λ (z : List ℕ). g.S.Summaries.known c.args.world.now.sums.now (key.kind, z)) (sym c.in_ok-parent.ensures) c.requires.key.pair,
      c.entry-entry.ensures,
    )

pub glance_in-requires-2-clause-arrivals : goal.glance_in-requires-2-clause-arrivals
glance_in-requires-2-clause-arrivals g c =
    row_told c.args.world.now.system.now c.reach.new.self c.args.key.now.kind c.in_ok-parent.parent c.in_ok-row.row c.told-told.result.now
    (subst (λ (y : System). IsPlaceMemo y c.reach.new.self) c.requires.ready.made c.in_ok-row.ensures.rows) c.in_ok-row.ensures.row c.told-told.ensures

pub glance_in-requires-clause-first : goal.glance_in-requires-clause-first
glance_in-requires-clause-first g c =
    let s = c.args.world.now.system.now in
    let key = c.args.key.now in
    let labels : ℕ → List ℕ = λ k. grown s k key.kind c.in_ok-parent.parent in
    let comes = subst (λ (z : List ℕ). (k : ℕ) × Contains (grown s k key.kind z) c.args.atom) (sym c.in_ok-parent.ensures) c.requires.key.comes in
    subst (λ z. IsFirst labels c.args.atom (Some z)) (sym c.unwrap_or-round.ensures) (first_some labels c.args.atom c.first.result comes c.first.ensures.first)

pub glance_in-requires-2-clause-first : goal.glance_in-requires-2-clause-first
glance_in-requires-2-clause-first g c =
    let s = c.args.world.now.system.now in
    let key = c.args.key.now in
    let labels : ℕ → List ℕ = λ k. grown s k key.kind c.in_ok-parent.parent in
    let comes = subst (λ (z : List ℕ). (k : ℕ) × Contains (grown s k key.kind z) c.args.atom) (sym c.in_ok-parent.ensures) c.requires.key.comes in
    subst (λ z. IsFirst labels c.args.atom (Some z)) (sym c.unwrap_or-round.ensures) (first_some labels c.args.atom c.first.result comes c.first.ensures.first)

pub returns-then-not-below-clause-glance : goal.returns-then-not-below-clause-glance
returns-then-not-below-clause-glance g c =
    let key = c.args.key.now in
    ok_further c.glance_in.result _ _ c.glance_in.ensures.glance
    (λ found is. added_glance c.args.world.now.system.now c.args.world.now.page.now c.args.atom found key.kind _ _ _ (triple_of key) refl c.in_ok-parent.ensures is)

pub returns-clause-glance : goal.returns-clause-glance
returns-clause-glance g c =
    let key = c.args.key.now in
    ok_further c.glance_in-2.result _ _ c.glance_in-2.ensures.glance
    (λ found is. added_glance c.args.world.now.system.now c.args.world.now.page.now c.args.atom found key.kind _ _ _ (triple_of key) refl c.in_ok-parent.ensures is)

pub returns-in_err-row-clause-memo : goal.returns-in_err-row-clause-memo
returns-in_err-row-clause-memo g c = subst (λ (y : System). IsPlaceMemo y c.reach.new.self) c.requires.ready.made c.reach.ensures.rows

pub returns-clause-memo : goal.returns-clause-memo
returns-clause-memo g c = subst (λ (y : System). IsPlaceMemo y c.reach.new.self) c.requires.ready.made c.reach.ensures.rows
