use Rattle.std.proofs.Common.{rules, ◌≡◌, true, false, None, length, sym, refl, ◌∙◌}
use Rattle.std.proofs.lemmas.Bool.{ltb-true, ltb-false}
use Rattle.std.proofs.lemmas.Option.{slice_get_read, slice_get_past}
use Rattle.treeped_app.specs.Verdicts.{is_so_of}
use Rattle.treeped_app.proofs.VerdictLemmas.{so_by_number, so_without}
use Rattle.treeped_app.proofs.statuses.own_answer_meets.Goals as goal

pub returns-in-Some : goal.returns-in-Some
returns-in-Some c =
    let numbers = c.args.numbers.now in
    let number = c.in-Some.number.now in
    let look = c.in-Some.ensures.lookup in
    c.answer_meets.ensures
    ∙ so_by_number c.args.question c.args.answers.now numbers c.args.at number (slice_get_read numbers (length numbers) c.args.at number refl (ltb-true c.args.at (length numbers) (sym look.0)) look.1)

pub returns-in-Open : goal.returns-in-Open
returns-in-Open c =
    let numbers = c.args.numbers.now in
    let open_then : true ≡ is_so_of c.args.question None = search rules in
    open_then ∙ so_without c.args.question c.args.answers.now numbers c.args.at (slice_get_past numbers c.args.at (ltb-false c.args.at (length numbers) (sym c.in-None.ensures.lookup.0)))

pub returns-in_default : goal.returns-in_default
returns-in_default c =
    let numbers = c.args.numbers.now in
    let closed_then : false ≡ is_so_of c.args.question None = search rules in
    closed_then ∙ so_without c.args.question c.args.answers.now numbers c.args.at (slice_get_past numbers c.args.at (ltb-false c.args.at (length numbers) (sym c.in-None.ensures.lookup.0)))
