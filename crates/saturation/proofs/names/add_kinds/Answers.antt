use Rattle.std.proofs.Common.{List, ◌++◌, ◌∙◌, sym, ap, append_assoc}
use Rattle.std.specs.List.{range_with_len}
use Rattle.saturation.specs.Waking.{CellName, named, named_each}
use Rattle.saturation.proofs.NameLemmas.{kinds_more}
use Rattle.saturation.proofs.names.add_kinds.Goals as goal

pub loop-i-preserved : goal.loop-i-preserved
loop-i-preserved c =
    let atoms = c.args.atoms.now in
    c.in_ok-add_kind.ensures
    ∙ ap (λ (cs : List CellName). cs ++ named c.loop-i.i atoms) c.loop-i.invariant
    ∙ append_assoc c.args.cells.now.items (named_each (range_with_len 0 c.loop-i.i) atoms) (named c.loop-i.i atoms)
    ∙ ap (λ (cs : List CellName). c.args.cells.now.items ++ cs) (sym (kinds_more {X = CellName} (λ kind. named kind atoms) c.loop-i.i))
