use Rattle.std.proofs.Common.{rules, ◌≡◌, ◌+◌, ◌<◌, suc, true, false, drop, length, slice_get, sym, ap, ◌∙◌, arith}
use Rattle.std.proofs.lemmas.Bool.{or_left}
use Rattle.treeped_app.specs.Verdicts.{is_so_of}
use Rattle.treeped_app.proofs.VerdictLemmas.{any_so, told_by, told_behind, next_so, or_false}
use Rattle.treeped_app.proofs.statuses.any_verdict.Goals as goal

pub returns-then-own_answer_meets : goal.returns-then-own_answer_meets
returns-then-own_answer_meets c =
    let q = c.args.question in
    let stmt = c.stmt-item.result in
    let told = told_by c.args.answers.now c.statements.left.now in
    let within : c.statements.stmt-index < length c.args.stmts.now = search rules in
    let own : is_so_of q (slice_get told (length stmt.handlers)) ≡ true = search rules in
    sym (sym c.statements.invariant ∙ next_so q c.args.stmts.now c.statements.stmt-index stmt told within c.stmt-item.is ∙ or_left _ _ own)

pub statements-preserved : goal.statements-preserved
statements-preserved c =
    let q = c.args.question in
    let stmt = c.stmt-item.result in
    let answers = c.args.answers.now in
    let left = c.statements.left.now in
    let told = told_by answers left in
    let within : c.statements.stmt-index < length c.args.stmts.now = search rules in
    let own : is_so_of q (slice_get told (length stmt.handlers)) ≡ false = search rules in
    let behind : c.behind-left.result.now ≡ drop (length stmt.handlers + 1) left = search rules in
    let later : told_by answers c.behind-left.result.now ≡ drop (length stmt.handlers + 1) told = ap (told_by answers) behind ∙ told_behind answers left (length stmt.handlers + 1) in
    let next : c.statements.stmt-index + 1 ≡ suc c.statements.stmt-index = omega arith in
    ap (any_so q (drop (c.statements.stmt-index + 1) c.args.stmts.now)) later ∙ ap (λ n. any_so q (drop n c.args.stmts.now) (drop (length stmt.handlers + 1) told)) next ∙ sym (or_false _ _ own) ∙ sym (next_so q c.args.stmts.now c.statements.stmt-index stmt told within c.stmt-item.is) ∙ c.statements.invariant
