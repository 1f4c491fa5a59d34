-- Small reports, written by the definitions.
use Rattle.std.proofs.Common.{◌≡◌, ℕ, ◌<◌, List, [], ◌∷◌, length, codes, Some, None, refl, arith}
use Rattle.std.proofs.lemmas.List.Elements.{All-head}
use Rattle.std.specs.Fmt.{digits}
use Rattle.tp_base.specs.Names.{Named}
use Rattle.tp_base.specs.declared.atoms.AtomKind.TheVariants as kind
use Rattle.tp_base.specs.declared.places.Place.{Place}
use Rattle.tree_sem.specs.declared.actions.Step.{Step}
use Rattle.sel_text.specs.Selectors.{simple, child}
use Rattle.sel_text.specs.SelectorText.{selector_text}
use Rattle.sel_text.specs.declared.faults.Skip.{Skip}
use Rattle.sel_text.specs.declared.faults.Skip.TheVariants.{Sibling, Pseudo, Attribute, Escape, Long, Bad}
use Rattle.proof_check.specs.declared.proofs.Proof.{Proof}
use Rattle.css_read.specs.Sheets.{judged, skipped, Item}
use Rattle.usage_report.specs.Answers as answers
use Rattle.usage_report.specs.Reportable.{IsReportable, AreReportable}
use Rattle.usage_report.specs.RunTraces.{RunTrace, listed, stopped}
use Rattle.usage_report.specs.Report.{report, report_with}
use Rattle.usage_report.specs.Lines.{run_text, trace_text, place_text, path_text, step_text, shown_text, count_text, head_text, broken_text, illegal_text}

-- `.a` at 1:1, and at 2:1 `.a > b`
abbrev names : List Named
names = (kind.Class, codes "a") ∷ (kind.Element, codes "b") ∷ []

abbrev text : List ℕ
text = codes ".a{}\n.a > b{}"

abbrev first : Item
first = record { from = 0; to = 2; rule = 0; outcome = judged (simple (0 ∷ [])) }

abbrev second : Item
second = record { from = 5; to = 11; rule = 1; outcome = judged (record { subject = 1 ∷ []; outer = record { join = child; atoms = 0 ∷ [] } ∷ [] }) }

-- three statements
abbrev places : List Place
places = record { line = 1; column = 9 } ∷ record { line = 2; column = 27 } ∷ record { line = 10; column = 100 } ∷ []

-- the text says nothing of a proof but its steps
abbrev no_proof : Proof
no_proof = record { entries = []; page = [] }

-- the report on both
abbrev both : answers.Answer → answers.Answer → List ℕ
both a b = report text names places (record { items = first ∷ second ∷ []; rules = [] }) (a ∷ b ∷ [])

no_items : report [] [] [] (record { items = []; rules = [] }) [] ≡ codes "treeped 2\n"
no_items = refl

unused_and_spent : both answers.unused answers.spent ≡ codes "treeped 2\n1:1 unused .a\n2:1 spent .a > b\n"
unfolding digits head_text place_text selector_text
unused_and_spent = refl

used_at_once : both (answers.used no_proof 0 (Some (record { steps = []; at = [] }))) answers.used_unshown ≡ codes "treeped 2\n1:1 used 0 .a\n  match /\n2:1 used-unshown .a > b\n"
unfolding digits head_text place_text selector_text count_text shown_text path_text step_text
used_at_once = refl

used_after_steps : both answers.unused (answers.used no_proof 2 (Some (record { steps = record { stmt = 1; at = 1 ∷ 0 ∷ [] } ∷ record { stmt = 2; at = [] } ∷ []; at = 1 ∷ 0 ∷ 12 ∷ [] })))
    ≡ codes "treeped 2\n1:1 unused .a\n2:1 used 2 .a > b\n  2 at 2:27 on /1/0\n  3 at 10:100 on /\n  match /1/0/12\n"
unfolding digits head_text place_text selector_text count_text shown_text path_text step_text
used_after_steps = refl

greatest : both (answers.used no_proof 18446744073709551615 None) (answers.used no_proof 18446744073709551614 None)
    ≡ codes "treeped 2\n1:1 used 18446744073709551615+ .a\n  not listed\n2:1 used 18446744073709551614 .a > b\n  not listed\n"
unfolding digits head_text place_text selector_text count_text shown_text
greatest = refl

-- a step that isn't legal by the calls that its statement has, and steps that weren't replayed
illegal_step : both (answers.maybe no_proof 2 (Some (record { steps = record { stmt = 0; at = 1 ∷ 0 ∷ [] } ∷ record { stmt = 1; at = [] } ∷ []; at = [] })) (Some 1)) answers.unused
    ≡ codes "treeped 2\n1:1 maybe 2 .a\n  1 at 1:9 on /1/0\n  2 at 2:27 on /\n  illegal at step 2\n2:1 unused .a > b\n"
unfolding digits head_text place_text selector_text count_text path_text step_text broken_text illegal_text
illegal_step = refl

not_replayed : both (answers.maybe no_proof 18446744073709551615 None None) answers.unused ≡ codes "treeped 2\n1:1 maybe 18446744073709551615+ .a\n  not replayed\n2:1 unused .a > b\n"
unfolding digits head_text place_text selector_text count_text broken_text
not_replayed = refl

-- an item that is skipped, on its second line, and the place of the cause
abbrev at_cause : Skip → ℕ → List ℕ
at_cause cause at = report (codes "x{}\ny{}") names places (record { items = record { from = 4; to = 5; rule = 1; outcome = skipped cause at } ∷ []; rules = [] }) (answers.skipped cause at ∷ [])

sibling : at_cause Sibling 0 ≡ codes "treeped 2\n2:1 skipped sibling at 1:1\n"
unfolding digits head_text place_text
sibling = refl

pseudo : at_cause Pseudo 2 ≡ codes "treeped 2\n2:1 skipped pseudo at 1:3\n"
unfolding digits head_text place_text
pseudo = refl

attribute : at_cause Attribute 4 ≡ codes "treeped 2\n2:1 skipped attribute at 2:1\n"
unfolding digits head_text place_text
attribute = refl

escape : at_cause Escape 5 ≡ codes "treeped 2\n2:1 skipped escape at 2:2\n"
unfolding digits head_text place_text
escape = refl

long : at_cause Long 6 ≡ codes "treeped 2\n2:1 skipped long at 2:3\n"
unfolding digits head_text place_text
long = refl

bad : at_cause Bad 7 ≡ codes "treeped 2\n2:1 skipped bad at 2:4\n"
unfolding digits head_text place_text
bad = refl

-- ---- what isn't reported

abbrev row : Item
row = record { from = 0; to = 1; rule = 0; outcome = skipped Bad 0 }

not_skipped : ¬ IsReportable places first.outcome (answers.skipped Bad 0)
not_skipped is = cc

no_selector : ¬ IsReportable places row.outcome answers.unused
no_selector is = is

another_cause : ¬ IsReportable places row.outcome (answers.skipped Long 0)
another_cause is = cc

another_offset : ¬ IsReportable places row.outcome (answers.skipped Bad 1)
another_offset is = cc

-- there are three statements
no_place : ¬ IsReportable places first.outcome (answers.used no_proof 1 (Some (record { steps = record { stmt = 3; at = [] } ∷ []; at = [] })))
no_place is = let less = All-head (λ (s : Step). s.stmt < length places) _ [] is.1 in absurd (omega (arith, less))

-- there is one step
no_such_step : ¬ IsReportable places first.outcome (answers.maybe no_proof 1 (Some (record { steps = record { stmt = 0; at = [] } ∷ []; at = [] })) (Some 1))
no_such_step is = let less = is.2 in absurd (omega (arith, less))

no_answer : ¬ AreReportable places (row ∷ []) []
no_answer is = is

no_item : ¬ AreReportable places [] (answers.skipped Bad 0 ∷ [])
no_item is = is

-- ---- whole runs

-- the report on both, the first used with its steps shown and with a trace
abbrev traced : RunTrace → List ℕ
traced r = report_with text names places (record { items = first ∷ second ∷ []; rules = [] })
    (answers.used no_proof 2 (Some (record { steps = record { stmt = 1; at = 1 ∷ 0 ∷ [] } ∷ record { stmt = 0; at = [] } ∷ []; at = [] })) ∷ answers.unused ∷ []) (Some r ∷ None ∷ [])

runs_listed : traced (listed (1 ∷ 0 ∷ []) (1 ∷ 0 ∷ 12 ∷ [])) ≡ codes "treeped 2\n1:1 used 2 .a\n  run 2 at 2:27\n  run 1 at 1:9\n  match /1/0/12\n2:1 unused .a > b\n"
unfolding digits head_text place_text selector_text count_text shown_text path_text trace_text run_text
runs_listed = refl

no_runs : traced (listed [] []) ≡ codes "treeped 2\n1:1 used 2 .a\n  match /\n2:1 unused .a > b\n"
unfolding digits head_text place_text selector_text count_text shown_text path_text trace_text run_text
no_runs = refl

runs_stop : traced (stopped 18) ≡ codes "treeped 2\n1:1 used 2 .a\n  runs stop at 18\n2:1 unused .a > b\n"
unfolding digits head_text place_text selector_text count_text shown_text path_text trace_text run_text
runs_stop = refl

-- what isn't shown stays so
not_shown : report_with text names places (record { items = first ∷ []; rules = [] }) (answers.used no_proof 2 None ∷ []) (Some (stopped 1) ∷ []) ≡ codes "treeped 2\n1:1 used 2 .a\n  not listed\n"
unfolding digits head_text place_text selector_text count_text shown_text path_text trace_text run_text
not_shown = refl
