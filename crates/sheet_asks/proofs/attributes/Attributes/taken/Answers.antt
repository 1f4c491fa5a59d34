use Rattle.std.proofs.Common.{◌∙◌, ap, map, [], unwrap_or}
use Rattle.std.specs.Str.{bytes_eq}
use Rattle.indexmap.specs.IndexMap.{insert_entry}
use Rattle.sheet_asks.specs.Asked.{values_at}
use Rattle.sheet_asks.proofs.AttributeSteps.{seen, seen_at, seen_inserted}
use Rattle.sheet_asks.proofs.attributes.Attributes.taken.Goals as goal

pub returns-clause-taken : goal.returns-clause-taken
returns-clause-taken c =
    c.unwrap_or.ensures ∙ ap (unwrap_or c.in_ok-old.old) c.new-2.ensures
    ∙ ap (λ o. unwrap_or o []) (c.in_ok-old.ensures.old ∙ seen_at (λ k. k.now) c.self.inside.sets.entries c.args.name.now)
    ∙ ap (λ all. values_at all c.args.name.now) c.self.view_is

pub returns-clause-left : goal.returns-clause-left
returns-clause-left c =
    ap (map (λ e. (e.0.now, e.1))) c.in_ok-old.ensures.entries
    ∙ seen_inserted (λ k. k.now) c.self.inside.sets.entries c.args.name c.new.result
    ∙ ap (insert_entry bytes_eq (seen (λ k. k.now) c.self.inside.sets.entries) c.args.name.now) c.new.ensures
    ∙ ap (λ all. insert_entry bytes_eq all c.args.name.now []) c.self.view_is
