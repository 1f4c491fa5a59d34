use Rattle.std.proofs.Common.{[], unwrap_or, sym, ap, ◌∙◌}
use Rattle.class_adding.proofs.alike.are_alike.Goals as goal

pub returns : goal.returns
returns c = λ is. record {
  own = ap (λ o. unwrap_or o []) c.own.ensures ∙ c.same_atoms.ensures.0 is ∙ sym (ap (λ o. unwrap_or o []) c.own-2.ensures);
  above = c.have_one_parent.ensures c.if-not-have_one_parent.false;
  leaf = c.is_leaf.ensures c.if-not-is_leaf.false;
  other_leaf = c.is_leaf-2.ensures c.if-not-is_leaf-2.false;
}
