use Rattle.std.proofs.Common.{refl}
use Rattle.sel_text.specs.declared.selectors.Join.TheVariants.{Inside}
use Rattle.sel_text.proofs.WriteLemmas.{one_part_more}
use Rattle.sel_text.proofs.writing.write_parts.Goals as goal

pub parts-preserved : goal.parts-preserved
parts-preserved c =
    rw (c.in_ok-write_compound-2.ensures, c.in_ok-write_join.ensures)
    (one_part_more _ _ _ _ _ _ Inside _ c.index-parts-i.result c.parts.invariant c.parts-test.true c.requires refl c.index-parts-i.is)
