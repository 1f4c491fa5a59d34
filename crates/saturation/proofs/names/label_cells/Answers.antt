use Rattle.std.proofs.Common.{◌++◌, ◌∙◌, sym, ap, List}
use Rattle.class_diagrams.specs.References.{Reference}
use Rattle.simple_core.specs.Systems.{kind_label}
use Rattle.saturation.specs.Waking.{CellName}
use Rattle.saturation.specs.Starting.{labelled}
use Rattle.saturation.proofs.NameLemmas.{kinds_more}
use Rattle.saturation.proofs.names.label_cells.Goals as goal

pub loop-i-preserved : goal.loop-i-preserved
loop-i-preserved c =
    let s = c.args.system.now in
    c.in_ok-add_label.ensures
    ∙ ap (λ (cs : List (CellName × Reference)). cs ++ labelled c.loop-i.i (kind_label s c.loop-i.i)) c.loop-i.invariant
    ∙ sym (kinds_more {X = CellName × Reference} (λ i. labelled i (kind_label s i)) c.loop-i.i)
