use Rattle.std.proofs.Common.{◌≡◌, ℕ, List, Contains, Some, slice_get, length, ap, ◌∙◌, sym, subst, arith}
use Rattle.std.proofs.lemmas.Option.{get_or_from_slice_get}
use Rattle.need_table.specs.declared.entries.Entry.{Entry}
use Rattle.need_table.specs.Tables.{replaced, AreOrdered}
use Rattle.need_table.proofs.ChildLemmas.{within_of}
use Rattle.need_table.proofs.GoingLemmas.{known}
use Rattle.need_table.proofs.StepLemmas.{listening, ordered, grown_by, round_done, round_lost, stepped}
use Rattle.need_table.proofs.gaining.step.Goals as goal

pub gained-requires-clause-known : goal.gained-requires-clause-known
gained-requires-clause-known c = known c.args.system.now c.requires.going.0 c.args.table.now c.args.agenda.now c.requires.going.1 c.args.k c.requires.early

pub gained-requires-clause-order : goal.gained-requires-clause-order
gained-requires-clause-order c = ordered c.args.system.now c.requires.going.0 c.args.table.now c.requires.going.1.table

pub entry-requires : goal.entry-requires
entry-requires c = within_of (λ e. e.rounds ≡ Some c.args.k) c.args.table.now c.args.i c.requires.rounds

pub listen_anew-requires : goal.listen_anew-requires
listen_anew-requires c = λ j child le. listening c.args.system.now c.requires.going.0 c.args.table.now c.args.agenda.now c.args.i c.args.k c.entry.result.now c.deref.result.now j c.requires.going.1 c.requires.rounds c.entry.ensures c.deref.ensures.value child le

pub note-requires-clause-place : goal.note-requires-clause-place
note-requires-clause-place c = within_of (λ e. e.rounds ≡ Some c.args.k) c.args.table.now c.args.i c.requires.rounds

pub returns-in_err-grew-clause-more : goal.returns-in_err-grew-clause-more
returns-in_err-grew-clause-more c = round_lost c.args.table.now c.note.new.self c.args.i c.args.k c.requires.rounds c.in_err-grew.ensures.err

pub tell-requires-clause-place : goal.tell-requires-clause-place
tell-requires-clause-place c =
    let step = round_done c.args.system.now c.requires.going.0 c.args.table.now c.note.new.self c.args.i c.args.k c.args.asked.place c.args.asked.from c.args.asked.anew c.gained.new.next
    c.requires.going.1.table c.requires.rounds c.requires.asked c.in_ok-gained.ensures c.in_ok-grew.ensures.ok in
    let longer = step.0.more.longer in
    let less = within_of (λ e. e.rounds ≡ Some c.args.k) c.args.table.now c.args.i c.requires.rounds in
    omega (arith, ap length c.entries.ensures)

pub tell-requires-clause-order : goal.tell-requires-clause-order
tell-requires-clause-order c =
    let step = round_done c.args.system.now c.requires.going.0 c.args.table.now c.note.new.self c.args.i c.args.k c.args.asked.place c.args.asked.from c.args.asked.anew c.gained.new.next
    c.requires.going.1.table c.requires.rounds c.requires.asked c.in_ok-gained.ensures c.in_ok-grew.ensures.ok in
    subst (λ (z : List Entry). AreOrdered z) (sym c.entries.ensures) (ordered c.args.system.now c.requires.going.0 c.note.new.self step.0.table)

pub returns-in_err-tell-clause-more : goal.returns-in_err-tell-clause-more
returns-in_err-tell-clause-more c =
    (round_done c.args.system.now c.requires.going.0 c.args.table.now c.note.new.self c.args.i c.args.k c.args.asked.place c.args.asked.from c.args.asked.anew c.gained.new.next
    c.requires.going.1.table c.requires.rounds c.requires.asked c.in_ok-gained.ensures c.in_ok-grew.ensures.ok).0.more

pub returns-clause-going : goal.returns-clause-going
returns-clause-going c = λ pairs going.
    stepped c.args.system.now pairs c.args.table.now c.note.new.self c.args.i c.args.k c.args.asked.place c.args.asked.from c.args.asked.anew c.gained.new.next
    going.table c.requires.rounds c.requires.asked c.in_ok-gained.ensures c.args.agenda.now c.tell.new.agenda c.listen_anew.new.askers going c.in_ok-grew.ensures.ok
    c.tell.ensures.first c.tell.ensures.kept c.in_ok-tell.ensures.more c.in_ok-listen_anew.ensures.more
    (λ e f at there. c.in_ok-tell.ensures.own (grown_by c.in_ok-grew.grew _ f there (λ still. c.in_ok-grew.ensures.grew still e at)))
    (λ e f at there a asks. c.in_ok-tell.ensures.askers (grown_by c.in_ok-grew.grew _ f there (λ still. c.in_ok-grew.ensures.grew still e at)) a asks)
    (λ e j at child le. c.in_ok-listen_anew.ensures.heard j (subst (λ (z : List ℕ). Contains (replaced c.args.asked.anew z) j) (sym (c.deref.ensures.value ∙ ap (λ (z : Entry). z.children.items) (c.entry.ensures ∙ get_or_from_slice_get c.args.table.now c.args.i e c.entry.result.now at))) child) le)
    (λ e j c' f at child at_j there le. c.in_ok-tell.ensures.children e j c' f (ap (λ z. slice_get z c.args.i) c.entries.ensures ∙ at) child (ap (λ z. slice_get z j) c.entries.ensures ∙ at_j) there le)

pub returns-clause-more : goal.returns-clause-more
returns-clause-more c =
    (round_done c.args.system.now c.requires.going.0 c.args.table.now c.note.new.self c.args.i c.args.k c.args.asked.place c.args.asked.from c.args.asked.anew c.gained.new.next
    c.requires.going.1.table c.requires.rounds c.requires.asked c.in_ok-gained.ensures c.in_ok-grew.ensures.ok).0.more

pub returns-clause-same : goal.returns-clause-same
returns-clause-same c =
    (round_done c.args.system.now c.requires.going.0 c.args.table.now c.note.new.self c.args.i c.args.k c.args.asked.place c.args.asked.from c.args.asked.anew c.gained.new.next
    c.requires.going.1.table c.requires.rounds c.requires.asked c.in_ok-gained.ensures c.in_ok-grew.ensures.ok).0.same

pub returns-clause-done : goal.returns-clause-done
returns-clause-done c =
    (round_done c.args.system.now c.requires.going.0 c.args.table.now c.note.new.self c.args.i c.args.k c.args.asked.place c.args.asked.from c.args.asked.anew c.gained.new.next
    c.requires.going.1.table c.requires.rounds c.requires.asked c.in_ok-gained.ensures c.in_ok-grew.ensures.ok).1
