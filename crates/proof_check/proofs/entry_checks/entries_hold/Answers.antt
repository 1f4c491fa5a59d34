use Rattle.std.proofs.Common.{◌≡◌, ◌<◌, ◌≤◌, length, sym, ap, ◌∙◌, suc, refl, subst, true, drop, ◌&&◌, get_or, arith}
use Rattle.std.proofs.lemmas.Option.{slice_get_read}
use Rattle.proof_check.specs.Checks.{entries_hold}
use Rattle.proof_check.specs.Firsts.{KnowsBelow}
use Rattle.proof_check.proofs.EntryLemmas.{AreRight, drop_end}
use Rattle.proof_check.proofs.RightLemmas.{below_one, empty_one, hold_one, right_one}
use Rattle.proof_check.proofs.entry_checks.entries_hold.Goals as goal

pub returns-then-not-branch-clause-test : goal.returns-then-not-branch-clause-test
returns-then-not-branch-clause-test c =
    let s = c.args.system.now in
    let es = c.args.entries.now in
    let n = c.loop-n.n in
    let x = c.index-items-n.result in
    let low : n < length es = omega (arith, c.loop-n-test.true, ap (λ xs. length xs) c.items-n-end.ensures) in
    let at = slice_get_read es (length es) n x refl low (c.index-items-n.is ∙ ap (λ xs. get_or xs n x) c.items.ensures) in
    sym (c.loop-n.invariant.so_far ∙ hold_one s es n x c.loop-n.invariant.right at
    ∙ ap (λ b. b && entries_hold s es (suc n) (drop (suc n) es)) (sym c.in_ok-entry_holds.ensures.test ∙ c.if-not-branch.true))

pub loop-n-preserved : goal.loop-n-preserved
loop-n-preserved c =
    let s = c.args.system.now in
    let es = c.args.entries.now in
    let n = c.loop-n.n in
    let x = c.index-items-n.result in
    let old = c.loop-n.known in
    let new = c.entry_holds.new.known in
    let low : n < length es = omega (arith, c.loop-n-test.true, ap (λ xs. length xs) c.items-n-end.ensures) in
    let at = slice_get_read es (length es) n x refl low (c.index-items-n.is ∙ ap (λ xs. get_or xs n x) c.items.ensures) in
    let holds = sym c.in_ok-entry_holds.ensures.test ∙ c.if-not-branch.false in
    let this = c.in_ok-entry_holds.ensures.this c.if-not-branch.false in
    let next : entries_hold s es 0 es ≡ entries_hold s es (suc n) (drop (suc n) es)
    = c.loop-n.invariant.so_far ∙ hold_one s es n x c.loop-n.invariant.right at ∙ ap (λ b. b && entries_hold s es (suc n) (drop (suc n) es)) holds in
    record {
      so_far = subst (λ m. entries_hold s es 0 es ≡ entries_hold s es m (drop m es)) {x = suc n} (omega arith) next;
      right = subst (λ m. AreRight s es m) {x = suc n} (omega arith) (right_one s es n x c.loop-n.invariant.right at holds);
      below = subst (λ m. KnowsBelow new m es) {x = suc n} (omega arith) (below_one es n old new x at c.loop-n.invariant.below this c.in_ok-entry_holds.ensures.others);
      empty = λ m past. empty_one n old new c.loop-n.invariant.empty c.in_ok-entry_holds.ensures.others m (omega (arith, past));
    }

pub returns : goal.returns
returns c =
    let s = c.args.system.now in
    let es = c.args.entries.now in
    let n = c.loop-n.n in
    let past : length es ≤ n = omega (arith, c.loop-n-test.false, ap (λ xs. length xs) c.items-n-end.ensures) in
    record {
      test = sym (c.loop-n.invariant.so_far ∙ ap (entries_hold s es n) (drop_end es n past));
      known = λ yes e entry lt at. c.loop-n.invariant.below e entry (omega (arith, lt, past)) at;
    }
