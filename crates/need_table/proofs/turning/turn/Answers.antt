use Rattle.std.proofs.Common.{◌≡◌, List, Some, Err, IsSomeAnd, slice_get, refl, sym, subst, arith, rules}
use Rattle.simple_core.specs.declared.summaries.GainFault.TheVariants.{Spent}
use Rattle.need_table.specs.declared.entries.Entry.{Entry}
use Rattle.need_table.specs.Tables.{pair_of, atoms_from, replaced}
use Rattle.need_table.specs.Agendas.{IsGoing}
use Rattle.need_table.specs.Turns.{IsAsked}
use Rattle.need_table.proofs.FillLemmas.{more_twice}
use Rattle.need_table.proofs.ChildLemmas.{needed_same}
use Rattle.need_table.proofs.GoingLemmas.{IsRaised, raised_all, appended_same, going_pushed}
use Rattle.need_table.proofs.turning.turn.Goals.{After-raise}
use Rattle.need_table.proofs.turning.turn.Goals as goal

raise : (c : After-raise) → IsRaised c.args.system.now c.args.pairs c.args.table.now c.raise.new.self c.args.agenda.now c.args.i c.args.k
raise c = raised_all c.args.system.now c.args.pairs c.args.table.now c.raise.new.self c.args.agenda.now c.args.i c.args.k c.requires.going c.requires.early c.requires.behind c.raise.ensures

pub asked_by-requires-clause-rounds : goal.asked_by-requires-clause-rounds
asked_by-requires-clause-rounds c = (raise (goal.at.asked_by-requires-clause-rounds c).After-raise).rounds

pub asked_by-requires-clause-table : goal.asked_by-requires-clause-table
asked_by-requires-clause-table c = (raise (goal.at.asked_by-requires-clause-table c).After-raise).going.table

pub returns-in_err-asked-clause-more : goal.returns-in_err-asked-clause-more
returns-in_err-asked-clause-more c = more_twice c.args.table.now c.raise.new.self c.asked_by.new.table (raise (goal.at.returns-in_err-asked-clause-more c).After-raise).more c.asked_by.ensures.more

pub returns-in_err-asked-clause-spent : goal.returns-in_err-asked-clause-spent
returns-in_err-asked-clause-spent c = λ is qs all.
    let spent : c.asked_by.result ≡ Err Spent = search rules in
    c.asked_by.ensures.spent spent qs (needed_same c.args.system.now qs c.args.table.now c.raise.new.self (raise (goal.at.returns-in_err-asked-clause-spent c).After-raise).same all)

pub step-requires-clause-going : goal.step-requires-clause-going
step-requires-clause-going c =
    let r = raise (goal.at.step-requires-clause-going c).After-raise in
    let same : c.asked_by.new.table ≡ c.raise.new.self = appended_same c.raise.new.self c.asked_by.new.table c.in_ok-asked.ensures.appended (omega (arith, c.len.ensures, c.if-len-before.true, c.len-before.ensures, r.count)) in
    (c.args.pairs, subst (λ (z : List Entry). IsGoing c.args.system.now c.args.pairs z c.args.agenda.now) (sym same) r.going)

pub returns-in_ok-step-clause-going : goal.returns-in_ok-step-clause-going
returns-in_ok-step-clause-going c =
    let r = raise (goal.at.returns-in_ok-step-clause-going c).After-raise in
    let same : c.asked_by.new.table ≡ c.raise.new.self = appended_same c.raise.new.self c.asked_by.new.table c.in_ok-asked.ensures.appended (omega (arith, c.len.ensures, c.if-len-before.true, c.len-before.ensures, r.count)) in
    c.in_ok-step.ensures.going c.args.pairs (subst (λ (z : List Entry). IsGoing c.args.system.now c.args.pairs z c.args.agenda.now) (sym same) r.going)

pub step-requires-clause-rounds : goal.step-requires-clause-rounds
step-requires-clause-rounds c =
    let r = raise (goal.at.step-requires-clause-rounds c).After-raise in
    let same : c.asked_by.new.table ≡ c.raise.new.self = appended_same c.raise.new.self c.asked_by.new.table c.in_ok-asked.ensures.appended (omega (arith, c.len.ensures, c.if-len-before.true, c.len-before.ensures, r.count)) in
    subst (λ (z : List Entry). IsSomeAnd (slice_get z c.args.i) (λ e. e.rounds ≡ Some c.args.k)) (sym same) r.rounds

pub step-requires-clause-asked : goal.step-requires-clause-asked
step-requires-clause-asked c =
    let r = raise (goal.at.step-requires-clause-asked c).After-raise in
    let a = c.in_ok-asked.asked in
    let new = c.asked_by.new.table in
    let same : new ≡ c.raise.new.self = appended_same c.raise.new.self new c.in_ok-asked.ensures.appended (omega (arith, c.len.ensures, c.if-len-before.true, c.len-before.ensures, r.count)) in
    subst (λ (z : List Entry). IsSomeAnd (slice_get z c.args.i) (λ e. IsAsked c.args.system.now new (pair_of e) c.args.k e.label (atoms_from a.place e.firsts.items) a.from (replaced a.anew e.children.items))) (sym same) c.in_ok-asked.ensures.asked

pub returns-in_err-step-clause-more : goal.returns-in_err-step-clause-more
returns-in_err-step-clause-more c =
    more_twice c.args.table.now c.asked_by.new.table c.step.new.table
    (more_twice c.args.table.now c.raise.new.self c.asked_by.new.table (raise (goal.at.returns-in_err-step-clause-more c).After-raise).more c.asked_by.ensures.more) c.step.ensures.more

pub returns-in_err-start-clause-more : goal.returns-in_err-start-clause-more
returns-in_err-start-clause-more c = more_twice c.args.table.now c.raise.new.self c.asked_by.new.table (raise (goal.at.returns-in_err-start-clause-more c).After-raise).more c.asked_by.ensures.more

pub returns-in_ok-step-clause-more : goal.returns-in_ok-step-clause-more
returns-in_ok-step-clause-more c =
    more_twice c.args.table.now c.asked_by.new.table c.step.new.table
    (more_twice c.args.table.now c.raise.new.self c.asked_by.new.table (raise (goal.at.returns-in_ok-step-clause-more c).After-raise).more c.asked_by.ensures.more) c.step.ensures.more

pub returns-in_ok-step-clause-needed : goal.returns-in_ok-step-clause-needed
returns-in_ok-step-clause-needed c = λ qs all.
    needed_same c.args.system.now qs c.asked_by.new.table c.step.new.table c.in_ok-step.ensures.same
    (c.in_ok-asked.ensures.needed qs (needed_same c.args.system.now qs c.args.table.now c.raise.new.self (raise (goal.at.returns-in_ok-step-clause-needed c).After-raise).same all))

pub returns-in_ok-start-clause-going : goal.returns-in_ok-start-clause-going
returns-in_ok-start-clause-going c =
    let r = raise (goal.at.returns-in_ok-start-clause-going c).After-raise in
    going_pushed c.args.system.now c.args.pairs c.raise.new.self c.asked_by.new.table c.args.agenda.now _ r.going c.in_ok-asked.ensures.table c.in_ok-asked.ensures.appended refl refl c.in_ok-start.ensures.more
    (λ j from less. c.in_ok-start.ensures.started j (omega (arith, c.len-before.ensures, r.count)) (omega (arith, c.len-else-len-before.ensures)))

pub returns-in_ok-start-clause-more : goal.returns-in_ok-start-clause-more
returns-in_ok-start-clause-more c = more_twice c.args.table.now c.raise.new.self c.asked_by.new.table (raise (goal.at.returns-in_ok-start-clause-more c).After-raise).more c.asked_by.ensures.more

pub returns-in_ok-start-clause-needed : goal.returns-in_ok-start-clause-needed
returns-in_ok-start-clause-needed c = λ qs all.
    c.in_ok-asked.ensures.needed qs (needed_same c.args.system.now qs c.args.table.now c.raise.new.self (raise (goal.at.returns-in_ok-start-clause-needed c).After-raise).same all)
