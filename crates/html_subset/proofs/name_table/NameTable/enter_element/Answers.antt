use Rattle.std.proofs.Common.{◌≡◌, Some, subst, ◌∙◌}
use Rattle.tp_base.specs.Names.{with_name}
use Rattle.tp_base.specs.declared.atoms.AtomKind.TheVariants as named
use Rattle.html_tokens.specs.Bytes.{lowered}
use Rattle.html_subset.specs.Results.{IsFront}
use Rattle.html_subset.proofs.Fronts.{front_grown}
use Rattle.html_subset.proofs.NameNotes.{right_interned, right_noted}
use Rattle.html_subset.proofs.name_table.NameTable.enter_element.Goals as goal

pub invariant_of-self : goal.invariant_of-self
invariant_of-self c = right_interned c.self.inside.elements _ _ _ c.intern.result c.intern.ensures.ok c.intern.ensures.err c.self.invariant

pub invariant_of-self-in_err-put : goal.invariant_of-self-in_err-put
invariant_of-self-in_err-put c =
    let is : with_name c.self.inside.atoms (named.Element, lowered c.args.name.now) ≡ Some (c.in_ok-atom.atom, c.intern.new.self) =
    subst (λ q. with_name c.self.inside.atoms (named.Element, q) ≡ Some (c.in_ok-atom.atom, c.intern.new.self)) (c.as_slice.ensures.value ∙ c.in_ok-lower.ensures) c.in_ok-atom.ensures.ok in
    right_noted c.self.inside.elements c.put.new.self c.self.inside.atoms c.intern.new.self c.args.name.now c.in_ok-atom.atom is c.self.invariant c.put.ensures

pub invariant_of-self-2 : goal.invariant_of-self-2
invariant_of-self-2 c =
    let is : with_name c.self.inside.atoms (named.Element, lowered c.args.name.now) ≡ Some (c.in_ok-atom.atom, c.intern.new.self) =
    subst (λ q. with_name c.self.inside.atoms (named.Element, q) ≡ Some (c.in_ok-atom.atom, c.intern.new.self)) (c.as_slice.ensures.value ∙ c.in_ok-lower.ensures) c.in_ok-atom.ensures.ok in
    right_noted c.self.inside.elements c.put.new.self c.self.inside.atoms c.intern.new.self c.args.name.now c.in_ok-atom.atom is c.self.invariant c.put.ensures

pub returns-in_err-put-clause-front : goal.returns-in_err-put-clause-front
returns-in_err-put-clause-front c = subst (λ table. IsFront table c.intern.new.self) c.self.view_is (front_grown c.self.inside.atoms c.intern.new.self _ c.in_ok-atom.atom c.in_ok-atom.ensures.ok)

pub returns-clause-front : goal.returns-clause-front
returns-clause-front c = subst (λ table. IsFront table c.intern.new.self) c.self.view_is (front_grown c.self.inside.atoms c.intern.new.self _ c.in_ok-atom.atom c.in_ok-atom.ensures.ok)
