use Rattle.std.proofs.Common.{ℕ, ◌<◌, List, [], ◌∷◌, ◌++◌, true, length, get_or, slice_get, Option, unwrap_or, option_map, sym, ap, subst, ◌∙◌, arith}
use Rattle.std.proofs.lemmas.List.{take_all}
use Rattle.std.proofs.lemmas.Option.{slice_get-get_or}
use Rattle.class_diagrams.specs.References.{Reference, leaf_reference}
use Rattle.class_diagrams.proofs.ReferenceLemmas.{leaf_everywhere}
use Rattle.simple_core.specs.declared.rules.Kind.{Kind}
use Rattle.saturation.specs.Waking.{CellName}
use Rattle.saturation.specs.Starting.{labelled}
use Rattle.saturation.proofs.NameLemmas.{maps_more}
use Rattle.saturation.proofs.names.add_label.Goals as goal

pub loop-i-preserved : goal.loop-i-preserved
loop-i-preserved c =
    maps_more {X = CellName × Reference} (λ b. ((c.args.kind, b), leaf_reference true)) c.args.cells.now.items c.loop-i.cells.items c.push.new.self.items (get_or c.items-kinds.result.now c.args.kind c.index-kinds-kind.result).label c.loop-i.i c.at.result
    c.at.ensures c.loop-i.invariant
    (c.in_ok-push.ensures.items
    ∙ ap (λ (f : Reference). c.loop-i.cells.items ++ ((c.args.kind, c.at.result), f) ∷ []) (leaf_everywhere c.leaf.result true (c.leaf.ensures.inside []) (c.leaf.ensures.tree [])))

pub returns : goal.returns
returns c =
    let label = ap (λ (o : Option Kind). unwrap_or (option_map (λ (k : Kind). k.label) o) [])
    (ap (λ (ks : List Kind). slice_get ks c.args.kind) (sym c.items-kinds.ensures) ∙ slice_get-get_or c.items-kinds.result.now c.args.kind c.index-kinds-kind.result
    (subst (λ (ks : List Kind). c.args.kind < length ks) (sym c.items-kinds.ensures) c.requires)) in
    c.loop-i.invariant
    ∙ ap (λ (l : List ℕ). c.args.cells.now.items ++ labelled c.args.kind l)
    (take_all c.loop-i.i (get_or c.items-kinds.result.now c.args.kind c.index-kinds-kind.result).label (omega (arith, c.loop-i-test.false, c.len-i-end.ensures.count)) ∙ sym label)
