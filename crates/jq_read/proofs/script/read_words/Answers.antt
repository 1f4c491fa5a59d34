use Rattle.std.proofs.Common.{rules, map, refl, sym, ap, ◌∙◌}
use Rattle.jq_stmts.specs.SharpViews.{exacts_of}
use Rattle.jq_parts.specs.Views.{declarations_of}
use Rattle.jq_parts.specs.ScopeViews.{grown_of, stated_in}
use Rattle.jq_read.specs.States.{Context}
use Rattle.jq_read.proofs.HandlerLaws.{script_told}
use Rattle.jq_read.proofs.script.read_words.Goals as goal

pub returns-clause-reads : goal.returns-clause-reads
returns-clause-reads c =
    script_told c.args.exact c.args.text.now c.args.lists.now.words c.sequence-read.new.reading.words.words c.args.atoms.now c.sequence-read.new.reading.grown.atoms
    (grown_of c.sequence-read.new.reading.grown) (map (stated_in c.sequence-read.new.reading.reader.text.now) c.sequence-read.new.reading.statements.items) (exacts_of c.in_ok-statements.statements.items)
    (declarations_of c.sequence-read.new.reading.scope.declarations) (search rules)
    (c.in_ok-statements.ensures.gives ∙ ap (λ t. map (stated_in t) c.sequence-read.new.reading.statements.items) (sym (ap (λ (k : Context). k.text) c.in_ok-read.ensures.goes_on.kept)))
    refl
