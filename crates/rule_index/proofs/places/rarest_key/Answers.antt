use Rattle.std.proofs.Common.{◌+◌, ap, inl, inr, refl, arith}
use Rattle.rule_index.proofs.IndexLemmas.{no_needs}
use Rattle.rule_index.proofs.places.rarest_key.Goals as goal

pub returns-then-len-eq0 : goal.returns-then-len-eq0
returns-then-len-eq0 c = inl (no_needs c.args.needs.now c.len.result c.len.ensures.count (omega (arith, c.if-len-eq0.true)), refl)

pub returns : goal.returns
returns c = inr (c.rarest-atom.result, c.rarest-atom.ensures, ap (λ z. z + 1) c.atom.view_is)
