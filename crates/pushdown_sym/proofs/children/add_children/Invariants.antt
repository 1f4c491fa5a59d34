use Rattle.std.proofs.Common.{take}
use Rattle.std.specs.List.{flat_map}
use Rattle.pushdown_sym.specs.Children.{terms_by}
use Rattle.pushdown_sym.proofs.AddLemmas.{IsAdding}
use Rattle.pushdown_sym.proofs.children.add_children.Given as goal

abbrev pub invariant-loop-i : goal.invariant-loop-i
invariant-loop-i l = IsAdding l.fn.d l.d l.fn.start (flat_map (terms_by l.fn.d.branches l.now l.kind) l.children)
    (flat_map (terms_by l.fn.d.branches l.now l.kind) (take l.i l.children)) l.sofar
