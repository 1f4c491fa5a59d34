use Rattle.std.proofs.Common.{List, sym, subst, All}
use Rattle.tp_base.proofs.Rising.{All-from_Contains}
use Rattle.class_diagrams.specs.References.{Reference}
use Rattle.class_diagrams.specs.Arena.{IsIn}
use Rattle.diagram_ops.proofs.WalkLemmas.{atoms_found}
use Rattle.diagram_ops.proofs.looks.support.Goals as goal

pub atoms_among-requires : goal.atoms_among-requires
atoms_among-requires c =
    subst (λ (ks : List Reference). All (IsIn c.args.d.now.branches) ks) (sym c.as_slice.ensures.keys)
    (All-from_Contains (IsIn c.args.d.now.branches) c.in_ok-branches.branches.keys (λ p there. (c.in_ok-branches.ensures.branches.each p there).0))

pub returns : goal.returns
returns c =
    atoms_found c.args.d.now.branches c.args.f c.in_ok-branches.branches.keys c.as_slice.result.now c.in_ok-branches.ensures.branches c.as_slice.ensures.keys
    c.atoms_among.result c.atoms_among.ensures
