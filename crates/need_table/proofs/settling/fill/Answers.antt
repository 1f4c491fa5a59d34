use Rattle.std.proofs.Common.{refl, ◌∙◌, arith}
use Rattle.need_table.proofs.FillLemmas.{more_twice, pairs_more}
use Rattle.need_table.proofs.ChildLemmas.{child_there, still_at, needed_same}
use Rattle.need_table.proofs.GoingLemmas.{going_start, going_pushed}
use Rattle.need_table.proofs.SettleLemmas.{settled}
use Rattle.need_table.proofs.settling.fill.Goals as goal

pub settle-requires : goal.settle-requires
settle-requires c = record {
  going = going_pushed c.args.system.now c.args.pairs c.args.table.now c.place_of.new.table c.new-agenda.result _
      (going_start c.args.system.now c.args.pairs c.args.table.now c.new-agenda.result c.requires.table c.requires.at_rest (c.new-agenda.ensures.first ∙ c.len-first.ensures))
      c.in_ok-place.ensures.table c.in_ok-place.ensures.appended refl refl c.in_ok-start.ensures.more
      (λ j from less. c.in_ok-start.ensures.started j (omega (arith, c.len-first.ensures)) (omega (arith, c.len.ensures)));
}

pub returns-in_err-settle-clause-more : goal.returns-in_err-settle-clause-more
returns-in_err-settle-clause-more c = more_twice c.args.table.now c.place_of.new.table c.settle.new.table c.in_ok-place.ensures.more c.settle.ensures.more

pub returns-clause-table : goal.returns-clause-table
returns-clause-table c =
    let step = settled c.args.system.now c.args.pairs c.settle.new.table c.rest_all.new.self c.settle.new.agenda c.in_ok-settle.ensures.going c.in_ok-settle.ensures.nothing c.rest_all.ensures in
    step.table

pub returns-clause-more : goal.returns-clause-more
returns-clause-more c =
    let step = settled c.args.system.now c.args.pairs c.settle.new.table c.rest_all.new.self c.settle.new.agenda c.in_ok-settle.ensures.going c.in_ok-settle.ensures.nothing c.rest_all.ensures in
    more_twice c.args.table.now c.settle.new.table c.rest_all.new.self (more_twice c.args.table.now c.place_of.new.table c.settle.new.table c.in_ok-place.ensures.more c.settle.ensures.more) step.more

pub returns-clause-place : goal.returns-clause-place
returns-clause-place c =
    let step = settled c.args.system.now c.args.pairs c.settle.new.table c.rest_all.new.self c.settle.new.agenda c.in_ok-settle.ensures.going c.in_ok-settle.ensures.nothing c.rest_all.ensures in
    still_at c.place_of.new.table c.rest_all.new.self c.in_ok-place.place (c.args.kind, c.args.parent.now)
    (more_twice c.place_of.new.table c.settle.new.table c.rest_all.new.self c.settle.ensures.more step.more) c.in_ok-place.ensures.place

pub returns-clause-at_rest : goal.returns-clause-at_rest
returns-clause-at_rest c =
    let step = settled c.args.system.now c.args.pairs c.settle.new.table c.rest_all.new.self c.settle.new.agenda c.in_ok-settle.ensures.going c.in_ok-settle.ensures.nothing c.rest_all.ensures in
    step.at_rest

pub returns-clause-there : goal.returns-clause-there
returns-clause-there c =
    let step = settled c.args.system.now c.args.pairs c.settle.new.table c.rest_all.new.self c.settle.new.agenda c.in_ok-settle.ensures.going c.in_ok-settle.ensures.nothing c.rest_all.ensures in
    child_there c.place_of.new.table c.rest_all.new.self c.in_ok-place.place (c.args.kind, c.args.parent.now)
    (more_twice c.place_of.new.table c.settle.new.table c.rest_all.new.self c.settle.ensures.more step.more) c.in_ok-place.ensures.place

pub returns-clause-kept : goal.returns-clause-kept
returns-clause-kept c = λ q there.
    let step = settled c.args.system.now c.args.pairs c.settle.new.table c.rest_all.new.self c.settle.new.agenda c.in_ok-settle.ensures.going c.in_ok-settle.ensures.nothing c.rest_all.ensures in
    pairs_more c.args.table.now c.rest_all.new.self (more_twice c.args.table.now c.settle.new.table c.rest_all.new.self (more_twice c.args.table.now c.place_of.new.table c.settle.new.table c.in_ok-place.ensures.more c.settle.ensures.more) step.more) q there

pub returns-clause-needed : goal.returns-clause-needed
returns-clause-needed c = λ qs all one.
    let step = settled c.args.system.now c.args.pairs c.settle.new.table c.rest_all.new.self c.settle.new.agenda c.in_ok-settle.ensures.going c.in_ok-settle.ensures.nothing c.rest_all.ensures in
    needed_same c.args.system.now qs c.settle.new.table c.rest_all.new.self step.same (c.in_ok-settle.ensures.needed qs (c.in_ok-place.ensures.needed qs all one))
