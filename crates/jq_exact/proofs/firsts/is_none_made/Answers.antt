use Rattle.std.proofs.Common.{inl, inr, refl, sym, ◌∙◌}
use Rattle.std.proofs.lemmas.Bool.{false≢true}
use Rattle.jq_exact.proofs.firsts.is_none_made.Goals as goal

pub returns-then-has_unranked : goal.returns-then-has_unranked
returns-then-has_unranked c = (λ on. inl (c.has_unranked.ensures.0 c.if-has_unranked.true), λ h. refl)

pub returns : goal.returns
returns c = (
  λ on. inr (c.is_no_node.ensures.0 on),
  λ h. elim h [
    | inl lost ↦ absurd (false≢true (sym c.if-has_unranked.false ∙ c.has_unranked.ensures.1 lost))
    | inr none ↦ c.is_no_node.ensures.1 none
  ],
)
