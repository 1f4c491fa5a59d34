use Rattle.std.proofs.Common.{◌≡◌, Err, refl, rules}
use Rattle.simple_core.specs.declared.summaries.GainFault.TheVariants.{Spent}
use Rattle.need_table.proofs.FillLemmas.{more_twice}
use Rattle.rule_index.proofs.IndexLemmas.{first_rest}
use Rattle.need_table.proofs.ChildLemmas.{IsAsking, kind_within, kind_asks, listed_next, asking_start, asking_more, heard_all}
use Rattle.need_table.proofs.filling.ask_kinds.Goals as goal

pub place_of-requires-clause-kind : goal.place_of-requires-clause-kind
place_of-requires-clause-kind c =
    let split = first_rest c.kinds.rest.now c.in-Some.kind.now c.in-Some.others.now c.in-Some.ensures.cases in
    let listed = listed_next c.args.kinds.now c.kinds.rest.now c.in-Some.kind.now c.in-Some.others.now split c.kinds.invariant.listed in
    kind_within c.args.system.now c.args.own.now c.args.kinds.now c.in-Some.kind.now c.requires.table.sound c.requires.kinds listed

pub returns-in_err-place-clause-more : goal.returns-in_err-place-clause-more
returns-in_err-place-clause-more c = more_twice c.args.table.now c.kinds.table c.place_of.new.table c.kinds.invariant.more c.place_of.ensures.more

pub returns-in_err-place-clause-needed : goal.returns-in_err-place-clause-needed
returns-in_err-place-clause-needed c = λ qs all each.
    let split = first_rest c.kinds.rest.now c.in-Some.kind.now c.in-Some.others.now c.in-Some.ensures.cases in
    let listed = listed_next c.args.kinds.now c.kinds.rest.now c.in-Some.kind.now c.in-Some.others.now split c.kinds.invariant.listed in
    let asks = kind_asks c.args.system.now c.args.own.now c.args.seen.now c.args.kinds.now c.in-Some.kind.now c.requires.kinds listed c.requires.seen in
    c.place_of.ensures.needed qs (c.kinds.invariant.needed qs all each) (each (c.in-Some.kind.now, c.args.seen.now) asks)

pub returns-in_err-place-clause-spent : goal.returns-in_err-place-clause-spent
returns-in_err-place-clause-spent c = λ is qs all each.
    let split = first_rest c.kinds.rest.now c.in-Some.kind.now c.in-Some.others.now c.in-Some.ensures.cases in
    let listed = listed_next c.args.kinds.now c.kinds.rest.now c.in-Some.kind.now c.in-Some.others.now split c.kinds.invariant.listed in
    let asks = kind_asks c.args.system.now c.args.own.now c.args.seen.now c.args.kinds.now c.in-Some.kind.now c.requires.kinds listed c.requires.seen in
    let spent : c.place_of.result ≡ Err Spent = search rules in
    c.place_of.ensures.spent spent qs (c.kinds.invariant.needed qs all each) (each (c.in-Some.kind.now, c.args.seen.now) asks)

pub kinds-preserved : goal.kinds-preserved
kinds-preserved c =
    let split = first_rest c.kinds.rest.now c.in-Some.kind.now c.in-Some.others.now c.in-Some.ensures.cases in
    let i = c.kinds.invariant in
    let f : IsAsking c.args.system.now c.args.pairs c.args.own.now c.args.seen.now c.args.table.now c.kinds.table c.args.kinds.now c.kinds.rest.now c.kinds.children.items
    = record { table = i.table; more = i.more; listed = i.listed; heard = i.heard; only = i.only; appended = i.appended; needed = i.needed } in
    let g = asking_more c.args.system.now c.args.pairs c.args.own.now c.args.seen.now c.args.table.now c.kinds.table c.args.kinds.now c.kinds.rest.now c.in-Some.kind.now c.in-Some.others.now
    c.place_of.new.table c.in_ok-place.place c.kinds.children.items c.push.new.self.items c.requires.kinds split f c.in_ok-push.ensures.items c.requires.seen c.in_ok-place.ensures.table c.in_ok-place.ensures.more
    c.in_ok-place.ensures.appended c.in_ok-place.ensures.place c.in_ok-place.ensures.needed in
    record { table = g.table; more = g.more; listed = g.listed; heard = g.heard; only = g.only; appended = g.appended; needed = g.needed }

pub returns-clause-heard : goal.returns-clause-heard
returns-clause-heard c =
    heard_all c.args.system.now c.args.own.now c.args.seen.now c.kinds.table c.args.kinds.now c.kinds.rest.now c.kinds.children.items c.requires.kinds c.in_default.ensures.cases c.requires.seen c.kinds.invariant.heard

pub returns-in_err-push-clause-more : goal.returns-in_err-push-clause-more
returns-in_err-push-clause-more c = more_twice c.args.table.now c.kinds.table c.place_of.new.table c.kinds.invariant.more c.in_ok-place.ensures.more

pub returns-in_err-push-clause-needed : goal.returns-in_err-push-clause-needed
returns-in_err-push-clause-needed c = λ qs all each.
    let split = first_rest c.kinds.rest.now c.in-Some.kind.now c.in-Some.others.now c.in-Some.ensures.cases in
    let listed = listed_next c.args.kinds.now c.kinds.rest.now c.in-Some.kind.now c.in-Some.others.now split c.kinds.invariant.listed in
    let asks = kind_asks c.args.system.now c.args.own.now c.args.seen.now c.args.kinds.now c.in-Some.kind.now c.requires.kinds listed c.requires.seen in
    c.in_ok-place.ensures.needed qs (c.kinds.invariant.needed qs all each) (each (c.in-Some.kind.now, c.args.seen.now) asks)

pub kinds-init : goal.kinds-init
kinds-init c =
    let g = asking_start c.args.system.now c.args.pairs c.args.own.now c.args.seen.now c.args.table.now c.args.kinds.now c.args.kinds.now c.new-children.result.items c.requires.table refl c.new-children.ensures.items in
    record { table = g.table; more = g.more; listed = g.listed; heard = g.heard; only = g.only; appended = g.appended; needed = g.needed }
