use Rattle.std.proofs.Common.{◌≡◌, ◌++◌, map, subst}
use Rattle.std.specs.List.{AllByRecursion}
use Rattle.jq_stmts.specs.SharpViews.{exacts_of}
use Rattle.jq_parts.specs.ScopeViews.{stated_in}
use Rattle.jq_parts.specs.Stating.{IsCounted}
use Rattle.jq_parts.proofs.StatingSteps.{placed_more}
use Rattle.jq_parts.proofs.placing.placed.Goals as goal

pub loop-statement-preserved : goal.loop-statement-preserved
loop-statement-preserved c =
    let text = c.args.text.now in
    let all = map (stated_in text) c.args.statements.items in
    let found = c.loop-statement.found.items in
    let next = c.in-Some.ensures.steps.0 in
    let before = subst (λ xs. exacts_of found ++ map (stated_in text) xs ≡ all) next c.loop-statement.invariant.all in
    let counted = subst (λ xs. AllByRecursion IsCounted (map (stated_in text) xs)) next c.loop-statement.invariant.counted in
    let placed = c.in_ok-at_place.ensures text c.place_at-place.ensures.place in
    record {
      all = rw c.in_ok-push.ensures.items (placed_more text found c.in_ok-at_place.field-0 c.in-Some.statement c.next.new.self.rest.items all placed before);
      counted = counted.1;
      here = c.place_at-place.ensures.here;
    }
