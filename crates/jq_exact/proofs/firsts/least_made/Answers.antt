use Rattle.std.proofs.Common.{◌≡◌, ◌+◌, ◌-◌, drop, length, sym, subst, arith}
use Rattle.std.proofs.lemmas.List.{drop_all}
use Rattle.jq_exact.specs.Firsts.{AreLeastMade}
use Rattle.jq_exact.specs.Together.{stood}
use Rattle.jq_exact.proofs.FirstLemmas.{least_before, each_leads}
use Rattle.jq_exact.proofs.firsts.least_made.Goals as goal

pub calls-init : goal.calls-init
calls-init c =
    let numbers = c.args.numbers.now in
    let least = c.in_ok-least.least in
    record {
      within = omega arith;
      made = subst (λ z. AreLeastMade c.args.tree.now (stood c.args.calls.now.sharp.now c.args.calls.now.handler c.args.calls.now.calls.now z) least.ranks least.of_none) (sym (drop_all (length numbers) numbers (omega arith))) c.in_ok-least.ensures;
    }

pub before_number-requires : goal.before_number-requires
before_number-requires c =
    let n = c.calls.left - 1 in
    let some = c.calls-test.true in
    let within = c.calls.invariant.within in
    (each_leads c.args.calls.now.sharp.now c.args.calls.now.handler c.args.calls.now.calls.now c.args.numbers.now n (omega (arith, some, within)) c.requires).0

pub calls-preserved : goal.calls-preserved
calls-preserved c =
    let n = c.calls.left - 1 in
    let some = c.calls-test.true in
    let within = c.calls.invariant.within in
    let next : c.calls.left ≡ n + 1 = omega (arith, some) in
    let least = c.calls.least in
    let before = c.in_ok-before.before in
    record {
      within = omega (arith, within);
      made =
          least_before c.args.calls.now.sharp.now c.args.calls.now.handler c.args.calls.now.calls.now c.args.tree.now c.args.numbers.now n least.ranks least.of_none before.ranks before.of_none (omega (arith, some, within)) c.requires
          (subst (λ z. AreLeastMade c.args.tree.now (stood c.args.calls.now.sharp.now c.args.calls.now.handler c.args.calls.now.calls.now (drop z c.args.numbers.now)) least.ranks least.of_none) next c.calls.invariant.made) c.in_ok-before.ensures;
    }

pub returns : goal.returns
returns c =
    let over = c.calls-test.false in
    let none : c.calls.left ≡ 0 = omega (arith, over) in
    let least = c.calls.least in
    subst (λ z. AreLeastMade c.args.tree.now (stood c.args.calls.now.sharp.now c.args.calls.now.handler c.args.calls.now.calls.now (drop z c.args.numbers.now)) least.ranks least.of_none) none c.calls.invariant.made
