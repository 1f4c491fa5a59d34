use Rattle.std.proofs.Common.{sym, subst}
use Rattle.simple_core.specs.declared.system.System.{System}
use Rattle.simple_core.specs.Knowledge.{TellsWithin}
use Rattle.simple_core.specs.Pairs.{Asked}
use Rattle.simple_core.proofs.KnowledgeLemmas.{tells_within-start}
use Rattle.class_adding.specs.Closing.{MayClose}
use Rattle.class_adding.proofs.AddedLemmas.{on_err}
use Rattle.class_adding.proofs.ClosingLemmas.{closes_rules}
use Rattle.class_adding.proofs.closing.close_page.Goals as goal

pub returns-in_err-indexed-clause-within : goal.returns-in_err-indexed-clause-within
returns-in_err-indexed-clause-within g c = on_err (TellsWithin c.args.system.now (g.S.Summaries.told c.args.sums.now) (g.S.Summaries.told c.args.sums.now) (Asked c.args.system.now c.args.page.now)) c.from_residual.result (tells_within-start c.args.system.now (g.S.Summaries.told c.args.sums.now) (Asked c.args.system.now c.args.page.now))

pub close_over-requires : goal.close_over-requires
close_over-requires g c =
    subst (λ (s : System). MayClose g.S.Summaries s c.args.sums.now) (sym c.in_ok-indexed.ensures)
    (record { sound = c.requires.sound; made = c.requires.made; lawful = c.requires.lawful; tells = c.requires.tells; keeps_room = c.requires.keeps_room })

pub returns-clause-asked : goal.returns-clause-asked
returns-clause-asked g c = (closes_rules g.S.Summaries c.args.page.now c.args.system.now c.in_ok-indexed.indexed c.close_over.result c.args.sums.now c.close_over.new.sums c.in_ok-indexed.ensures c.close_over.ensures.went).asked

pub returns-clause-told : goal.returns-clause-told
returns-clause-told g c = (closes_rules g.S.Summaries c.args.page.now c.args.system.now c.in_ok-indexed.indexed c.close_over.result c.args.sums.now c.close_over.new.sums c.in_ok-indexed.ensures c.close_over.ensures.went).told

pub returns-clause-keeps_room : goal.returns-clause-keeps_room
returns-clause-keeps_room g c = (closes_rules g.S.Summaries c.args.page.now c.args.system.now c.in_ok-indexed.indexed c.close_over.result c.args.sums.now c.close_over.new.sums c.in_ok-indexed.ensures c.close_over.ensures.went).keeps_room

pub returns-clause-spent_on : goal.returns-clause-spent_on
returns-clause-spent_on g c = (closes_rules g.S.Summaries c.args.page.now c.args.system.now c.in_ok-indexed.indexed c.close_over.result c.args.sums.now c.close_over.new.sums c.in_ok-indexed.ensures c.close_over.ensures.went).spent_on

pub returns-clause-within : goal.returns-clause-within
returns-clause-within g c =
    on_err (TellsWithin c.args.system.now (g.S.Summaries.told c.args.sums.now) (g.S.Summaries.told c.close_over.new.sums) (Asked c.args.system.now c.args.page.now)) c.close_over.result
    (closes_rules g.S.Summaries c.args.page.now c.args.system.now c.in_ok-indexed.indexed c.close_over.result c.args.sums.now c.close_over.new.sums c.in_ok-indexed.ensures c.close_over.ensures.went).within
