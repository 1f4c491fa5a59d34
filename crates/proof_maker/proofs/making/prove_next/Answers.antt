use Rattle.std.proofs.Common.{MatchOption, subst}
use Rattle.proof_maker.specs.Needs.{UsesMore}
use Rattle.proof_maker.specs.Working.{IsDone}
use Rattle.proof_maker.proofs.MakeLemmas.{makeable, canonical_is, within_limit}
use Rattle.proof_maker.proofs.ValidLemmas.{canonical_valid}
use Rattle.proof_maker.proofs.making.prove_next.Goals as goal

pub proof_of-requires : goal.proof_of-requires
proof_of-requires g c =
    let s = c.args.ground.now.system.now in
    let page = c.args.ground.now.page.now in
    let known = g.S.Summaries.known c.args.sums.now in
    let done = subst (λ r. MatchOption r (UsesMore s page c.args.target c.args.limit) (IsDone s page known c.args.target c.args.limit)) c.in-Some.is c.in_ok-needs.ensures.needs in
    record { makeable = makeable s page known c.args.target c.args.limit c.in-Some.needs done c.ranges.limit.fits }

pub returns-in-Some-clause-canonical : goal.returns-in-Some-clause-canonical
returns-in-Some-clause-canonical g c =
    let s = c.args.ground.now.system.now in
    let page = c.args.ground.now.page.now in
    let known = g.S.Summaries.known c.args.sums.now in
    let done = subst (λ r. MatchOption r (UsesMore s page c.args.target c.args.limit) (IsDone s page known c.args.target c.args.limit)) c.in-Some.is c.in_ok-needs.ensures.needs in
    canonical_is s page known c.args.target c.args.limit c.in-Some.needs done c.in_ok-proof_of-in-Some.field-0 c.in_ok-proof_of-in-Some.ensures

pub returns-in-Some-clause-valid : goal.returns-in-Some-clause-valid
returns-in-Some-clause-valid g c =
    let s = c.args.ground.now.system.now in
    let page = c.args.ground.now.page.now in
    let known = g.S.Summaries.known c.args.sums.now in
    let done = subst (λ r. MatchOption r (UsesMore s page c.args.target c.args.limit) (IsDone s page known c.args.target c.args.limit)) c.in-Some.is c.in_ok-needs.ensures.needs in
    let is = canonical_is s page known c.args.target c.args.limit c.in-Some.needs done c.in_ok-proof_of-in-Some.field-0 c.in_ok-proof_of-in-Some.ensures in
    canonical_valid s page c.args.target c.in_ok-proof_of-in-Some.field-0 is c.requires.sound c.requires.forests

pub returns-in-Some-clause-within : goal.returns-in-Some-clause-within
returns-in-Some-clause-within g c =
    let s = c.args.ground.now.system.now in
    let page = c.args.ground.now.page.now in
    let known = g.S.Summaries.known c.args.sums.now in
    let done = subst (λ r. MatchOption r (UsesMore s page c.args.target c.args.limit) (IsDone s page known c.args.target c.args.limit)) c.in-Some.is c.in_ok-needs.ensures.needs in
    within_limit s page known c.args.target c.args.limit c.in-Some.needs done c.in_ok-proof_of-in-Some.field-0 c.in_ok-proof_of-in-Some.ensures c.ranges.limit.fits
