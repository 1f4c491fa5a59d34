use Rattle.std.proofs.Common.{◌≡◌, ◌<◌, length, slice_get, Some, inl, inr, refl, sym, ap, subst, ◌∙◌, true, arith}
use Rattle.std.proofs.lemmas.Option.{slice_get_read, slice_get_within}
use Rattle.std.proofs.lemmas.Slice.Eq.{bytes_eq-Decides}
use Rattle.std.specs.List.{list_any}
use Rattle.std.specs.Str.{bytes_eq}
use Rattle.indexmap.specs.IndexSet.{insert_key}
use Rattle.proof_check.proofs.NodeLemmas.{any_position, any_kept, any_inserted}
use Rattle.proof_check.proofs.RightLemmas.{below_or_same}
use Rattle.proof_check.proofs.nodes.Nodes.of.Goals as goal

pub loop-i-preserved : goal.loop-i-preserved
loop-i-preserved c = record {
  has = λ j item lt at.
      let old = c.loop-i.paths.keys in
      let v = c.in_ok-steps_of.field-0 in
      let x = c.i-item.result in
      let here = slice_get_read c.args.items.now (length c.args.items.now) c.loop-i.i-index x refl c.loop-i-test.true c.i-item.is in
      ap (λ ks. list_any (λ k. bytes_eq item.at k.items) ks) c.in_ok-insert.ensures.keys ∙
      elim (below_or_same j c.loop-i.i-index (omega (arith, lt))) [
        | inl less ↦ any_kept (λ k. bytes_eq item.at k.items) (λ x y. bytes_eq x.items y.items) old v (c.loop-i.invariant.has j item less at)
        | inr same ↦
            let one : x ≡ item = let both : Some x ≡ Some item = sym here ∙ ap (slice_get c.args.items.now) (sym same) ∙ at in cc in
            let steps : v.items ≡ item.at = c.in_ok-steps_of.ensures ∙ ap (λ y. y.at) one in
            subst (λ w. list_any (λ k. bytes_eq w k.items) (insert_key (λ x y. bytes_eq x.items y.items) old v) ≡ true) steps
            (any_inserted (λ x y. bytes_eq x.items y.items) old v ((bytes_eq-Decides v.items v.items).1 refl))
      ];
}

pub returns : goal.returns
returns c = λ i item at.
    let low = slice_get_within c.args.items.now i item at in
    any_position (λ k. bytes_eq item.at k.items) c.loop-i.paths.keys (c.loop-i.invariant.has i item (omega (arith, low, c.loop-i-test.false)) at)
