use Rattle.std.proofs.Common.{◌≡◌, Some, subst}
use Rattle.tp_base.specs.Names.{with_name}
use Rattle.tp_base.specs.declared.atoms.AtomKind.TheVariants as named
use Rattle.html_tokens.specs.Bytes.{lowered}
use Rattle.html_subset.proofs.NameNotes.{noted_again}
use Rattle.html_subset.proofs.name_table.NameTable.element.Goals as goal

pub returns-in-Some-clause-ok : goal.returns-in-Some-clause-ok
returns-in-Some-clause-ok c =
    subst (λ table. with_name table (named.Element, lowered c.args.name.now) ≡ Some (c.in-Some.atom, table)) c.self.view_is
    (noted_again c.self.inside.elements c.self.inside.atoms c.args.name.now c.in-Some.atom c.self.invariant c.have_one_place.ensures c.in-Some.ensures)
