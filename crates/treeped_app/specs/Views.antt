-- The abstraction functions of the program's types.
use Rattle.std.specs.Prelude.{[], ◌∷◌, map, option_map}
use Rattle.usage_report.specs.Answers.{spent}
use Rattle.usage_report.specs.Views.{answer_of, trace_of}
use Rattle.css_read.specs.Views.{sheet_of}
use Rattle.jq_stmts.specs.Views.{statements_of}
use Rattle.dead_script.specs.Asked.{by_number}
use Rattle.treeped_app.specs.declared.tasks.Names.{Names}
use Rattle.treeped_app.specs.declared.tasks.Source.{Source}
use Rattle.treeped_app.specs.declared.tasks.Source.TheVariants.{One, Several, Ring}
use Rattle.treeped_app.specs.declared.loading.Wanted.{Wanted}
use Rattle.treeped_app.specs.declared.reading.Texts.{Texts}
use Rattle.jq_exact.specs.Scripts.{exact_in}
use Rattle.treeped_app.specs.declared.reading.Inputs.{Inputs}
use Rattle.treeped_app.specs.declared.saying.Said.{Said}
use Rattle.treeped_app.specs.Modes as modes
use Rattle.treeped_app.specs.Tasks as tasks

abbrev pub names_of : Names → tasks.Names
names_of n = record { page = n.page.now; sheet = n.sheet.now; script = n.script.now }

abbrev pub source_of : Source → tasks.Source
source_of (One n) = tasks.one (names_of n)
source_of (Several p) = tasks.several p.first.sheet.now ((p.first.page.now, p.first.script.now) ∷ tasks.paired p.later.now)
source_of (Ring k) = tasks.ring k

abbrev pub wanted_of : Wanted → tasks.Wanted
wanted_of w = record { part = w.part; name = w.name.now }

abbrev pub texts_of : Texts → modes.Texts
texts_of x = record { page = x.page.now; sheet = x.sheet.now; script = x.script.now }

abbrev pub inputs_of : Inputs → modes.Inputs
inputs_of i = record { tree = i.page; sheet = sheet_of i.sheet; stmts = statements_of i.script.stmts.items; exact = exact_in i.script; names = i.atoms }

-- the results, with the texts from which they come
abbrev pub said_of : modes.Texts → Said → modes.Said
said_of x s = record { texts = x; inputs = inputs_of s.inputs; items = map answer_of s.items.items; others = by_number spent (map answer_of s.by_guard.items) s.numbers.items; traces = map (option_map trace_of) s.traces.items }
