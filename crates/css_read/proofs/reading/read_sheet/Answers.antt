use Rattle.css_read.proofs.SheetOrder.{sheet_in_order, in_rules, numbered}
use Rattle.css_read.proofs.reading.read_sheet.Goals as goal

pub returns-in-Ok-clause-rules_apart : goal.returns-in-Ok-clause-rules_apart
returns-in-Ok-clause-rules_apart c = rw c.new-in-Ok-2.ensures (sheet_in_order _ _ _ _ c.in-Ok.ensures.reads).rules

pub returns-in-Ok-clause-items_apart : goal.returns-in-Ok-clause-items_apart
returns-in-Ok-clause-items_apart c = rw c.new-in-Ok.ensures (sheet_in_order _ _ _ _ c.in-Ok.ensures.reads).items.apart

pub returns-in-Ok-clause-in_rules : goal.returns-in-Ok-clause-in_rules
returns-in-Ok-clause-in_rules c = rw (c.new-in-Ok.ensures, c.new-in-Ok-2.ensures) (in_rules _ _ _ (sheet_in_order _ _ _ _ c.in-Ok.ensures.reads).items)

pub returns-in-Ok-clause-numbered : goal.returns-in-Ok-clause-numbered
returns-in-Ok-clause-numbered c = rw (c.new-in-Ok.ensures, c.new-in-Ok-2.ensures) (numbered _ _ (in_rules _ _ _ (sheet_in_order _ _ _ _ c.in-Ok.ensures.reads).items))
