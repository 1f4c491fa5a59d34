use Rattle.std.proofs.Common.{◌≡◌, arith, List, ◌∙◌, sym, ap, subst, Some, get_or}
use Rattle.std.specs.List.{IsDistinct}
use Rattle.std.proofs.lemmas.Option.{slice_get-get_or}
use Rattle.std.proofs.lemmas.List.{nil_from_length}
use Rattle.class_diagrams.specs.References.{Reference}
use Rattle.class_diagrams.proofs.ReferenceLemmas.{ref_eq}
use Rattle.diagram_ops.specs.Walks.{with_branch}
use Rattle.diagram_ops.proofs.WalkLemmas.{walk_start, walk_end, walk_short, none_different}
use Rattle.diagram_ops.proofs.branches.branches_of.Goals as goal

pub loop-next-init : goal.loop-next-init
loop-next-init c =
    let none = nil_from_length c.new-seen.result.keys c.new-seen.ensures.len in
    walk_start c.args.d.now.branches c.args.f c.see.new.seen.keys c.requires
    (c.in_ok-see.ensures.keys ∙ ap (λ (ks : List Reference). with_branch c.args.d.now.branches ks c.args.f) none)
    (c.in_ok-see.ensures.different (subst (λ (ks : List Reference). IsDistinct ref_eq ks) (sym none) none_different))

pub loop-next-smaller : goal.loop-next-smaller
loop-next-smaller c =
    let short = walk_short c.args.d.now.branches c.args.f c.loop-next.seen.keys c.loop-next.next c.loop-next.invariant in
    omega (arith, c.loop-next-test.true, c.len.ensures.len)

pub loop-next-preserved : goal.loop-next-preserved
loop-next-preserved c =
    let at = subst (λ (ks : List Reference). c.index-as_slice-next.result ≡ get_or ks c.loop-next.next c.index-as_slice-next.result) c.as_slice.ensures.keys c.index-as_slice-next.is in
    c.in_ok-see_parts.ensures c.args.f c.loop-next.next c.loop-next.invariant
    (slice_get-get_or c.loop-next.seen.keys c.loop-next.next c.index-as_slice-next.result (omega (arith, c.loop-next-test.true, c.len.ensures.len))
    ∙ ap (λ (p : Reference). Some p) (sym at))

pub returns-clause-branches : goal.returns-clause-branches
returns-clause-branches c =
    walk_end c.args.d.now.branches c.args.f c.loop-next.seen.keys c.loop-next.next c.loop-next.invariant (omega (arith, c.loop-next-test.false, c.len.ensures.len))

pub returns-clause-few : goal.returns-clause-few
returns-clause-few c =
    let short = walk_short c.args.d.now.branches c.args.f c.loop-next.seen.keys c.loop-next.next c.loop-next.invariant in
    let limit = c.see.ensures.arena.in_limit in
    let small = c.see.ensures.arena.small in
    omega (arith, c.len.ensures.len)
