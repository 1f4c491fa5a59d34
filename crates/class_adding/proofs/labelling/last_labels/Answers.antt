use Rattle.std.proofs.Common.{rules}
use Rattle.simple_core.specs.Pairs.{Asked}
use Rattle.class_adding.proofs.ClosingLemmas.{closes_start, closes_went_err}
use Rattle.class_adding.proofs.GiftLemmas.{no_gifts}
use Rattle.class_adding.proofs.labelling.last_labels.Goals as goal

pub fill-requires-clause-ready : goal.fill-requires-clause-ready
fill-requires-clause-ready g c = record {
  sound = c.requires.may.sound;
  made = c.requires.may.made;
  closed = c.requires.may.lawful;
  tells = c.requires.may.tells;
  remembered = no_gifts c.args.system.now (g.S.Summaries.known c.args.sums.now) c.new-remembered.result c.new-remembered.ensures;
}

pub returns-in_err-filling-clause-went : goal.returns-in_err-filling-clause-went
returns-in_err-filling-clause-went g c = closes_start g.S.Summaries c.args.system.now (Asked c.args.system.now c.args.page.now) c.from_residual.result c.args.sums.now c.from_residual.ensures.1 c.requires.may

pub returns-in_err-sets-clause-went : goal.returns-in_err-sets-clause-went
returns-in_err-sets-clause-went g c =
    closes_start g.S.Summaries c.args.system.now (Asked c.args.system.now c.args.page.now) c.from_residual-in_err-sets.result c.args.sums.now c.from_residual-in_err-sets.ensures.1 c.requires.may

pub returns-in_err-fill-clause-went : goal.returns-in_err-fill-clause-went
returns-in_err-fill-clause-went g c =
    closes_went_err {A = Unit {0}} g.S.Summaries (Asked c.args.system.now c.args.page.now) _ _ c.in_err-fill.field-0.0 c.from_residual-in_err-fill.result _ (search rules) c.requires.may c.in_err-fill.ensures.went c.in_err-fill.ensures.spent
    c.from_residual-in_err-fill.ensures.1
