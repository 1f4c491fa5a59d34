use Rattle.jq_exact.proofs.firsts.before_plain.Goals as goal

pub returns-in-Find : goal.returns-in-Find
returns-in-Find c = rw (c.in-Find.is, ← c.items.ensures) c.before_find.ensures

pub returns-in-Children : goal.returns-in-Children
returns-in-Children c = rw (c.in-Children.is, ← c.items-in-Children.ensures) c.before_children.ensures

pub returns-in-Parent : goal.returns-in-Parent
returns-in-Parent c = rw (c.in-Parent.is, ← c.items-in-Parent.ensures) c.before_parent.ensures

pub returns-in-Parents : goal.returns-in-Parents
returns-in-Parents c = rw (c.in-Parents.is, ← c.items-in-Parents.ensures) c.before_parents.ensures

pub returns-in-Filter : goal.returns-in-Filter
returns-in-Filter c = rw (c.in-Filter.is, ← c.items-in-Filter.ensures) c.before_filter.ensures

pub returns-in-Has : goal.returns-in-Has
returns-in-Has c = rw (c.in-Has.is, ← c.items-in-Has.ensures) c.before_has.ensures
