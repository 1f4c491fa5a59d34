use Rattle.std.proofs.Common.{◌≡◌, suc, length, drop, find, option_map, refl, sym, ap, subst, ◌∙◌, ◌≤◌, arith}
use Rattle.std.proofs.lemmas.Option.{slice_get_read}
use Rattle.std.specs.Option.{option_or}
use Rattle.simple_core.specs.declared.rules.Kind.{Kind}
use Rattle.proof_core.specs.Worlds.{known_in, is_under}
use Rattle.proof_check.proofs.EntryLemmas.{drop_end}
use Rattle.proof_core.proofs.WorldLemmas.{known_pushed, or_none}
use Rattle.proof_core.proofs.worlds.ChildCounts.of.Goals as goal

pub loop-kind-preserved : goal.loop-kind-preserved
loop-kind-preserved c =
    let kinds = c.args.kinds.now in
    let i = c.loop-kind.kind-index in
    let x = c.kind-item.result in
    let at = slice_get_read kinds (length kinds) i x refl c.loop-kind-test.true c.kind-item.is in
    let next = known_pushed (known_in c.loop-kind.counts) (known_in c.note.new.self) (λ j. option_map (λ (k : Kind). k.siblings) (find (is_under j) kinds)) kinds i x at c.in_ok-note.ensures c.loop-kind.invariant.known in
    record { known = λ j. subst (λ n. option_map (λ (k : Kind). k.siblings) (find (is_under j) kinds) ≡ option_or (known_in c.note.new.self j) (option_map (λ (k : Kind). k.siblings) (find (is_under j) (drop n kinds)))) {x = suc i} (omega arith) (next j) }

pub returns : goal.returns
returns c = λ j.
    let kinds = c.args.kinds.now in
    let past : length kinds ≤ c.loop-kind.kind-index = omega (arith, c.loop-kind-test.false) in
    or_none (known_in c.loop-kind.counts j) ∙ ap (λ xs. option_or (known_in c.loop-kind.counts j) (option_map (λ (k : Kind). k.siblings) (find (is_under j) xs))) (sym (drop_end kinds c.loop-kind.kind-index past)) ∙ sym (c.loop-kind.invariant.known j)
