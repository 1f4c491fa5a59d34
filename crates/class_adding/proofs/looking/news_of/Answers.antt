use Rattle.std.proofs.Common.{ℕ, List, sym, ◌∙◌, subst, arith}
use Rattle.class_adding.specs.Fresh.{AreNewIn}
use Rattle.class_adding.proofs.FreshLemmas.{no_atoms}
use Rattle.class_adding.proofs.looking.news_of.Goals as goal

pub returns-then-len-eq0 : goal.returns-then-len-eq0
returns-then-len-eq0 c =
    subst (λ (xs : List ℕ). AreNewIn c.args.own.now xs c.in_ok-none.none) c.in_ok-set.ensures
    (subst (λ (n : List ℕ). AreNewIn c.args.own.now c.in_ok-set.set n) (no_atoms c.in_ok-news.news (omega (arith, c.len.ensures.count, c.if-len-eq0.true)) ∙ sym (c.in_ok-none.ensures ∙ c.requires)) c.in_ok-news.ensures)

pub returns : goal.returns
returns c =
    subst (λ (xs : List ℕ). AreNewIn c.args.own.now xs c.in_ok-shared.shared) c.in_ok-set.ensures
    (subst (λ (n : List ℕ). AreNewIn c.args.own.now c.in_ok-set.set n) (sym c.in_ok-shared.ensures) c.in_ok-news.ensures)
