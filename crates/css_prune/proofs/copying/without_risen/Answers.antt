use Rattle.std.proofs.Common.{refl}
use Rattle.css_prune.proofs.CopyLemmas.{one_copied, all_copied}
use Rattle.css_prune.proofs.copying.without_risen.Goals as goal

pub copied-init : goal.copied-init
copied-init c = record { order = c.requires; kept = rw c.in_ok-kept.ensures.items refl }

pub copied-preserved : goal.copied-preserved
copied-preserved c =
    let done = one_copied _ _ c.in-Some.range.now _ _ _ _ _ _ c.in-Some.ensures.cases.0 c.copied.invariant.order c.behind-next.ensures c.in_ok-copy.ensures c.copied.invariant.kept in
    record { order = done.1; kept = done.0 }

pub returns : goal.returns
returns c = all_copied _ _ _ _ _ _ c.in_default.ensures.cases c.in_ok-copy_rest.ensures c.copied.invariant.kept
