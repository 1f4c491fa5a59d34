use Rattle.closed_page.proofs.NoteLemmas.{joined_set}
use Rattle.closed_page.proofs.shared_set.is_joined.Goals as goal

pub returns : goal.returns
returns c = λ is.
    joined_set c.args.set.now c.args.own.now c.args.atoms.now c.len-count.ensures.rising c.len-own_count.ensures.rising
    (c.within.ensures.members.0 c.if-not-within.false) (c.within-2.ensures.members.0 c.if-not-within-2.false) (c.are_in_either.ensures is)
