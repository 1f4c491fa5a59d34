use Rattle.std.proofs.Common.{◌≡◌, length, inl, slice_get, refl, sym, ap, ◌∙◌, subst, arith}
use Rattle.std.specs.List.Sorted.{IsStrictlyIncreasing}
use Rattle.std.proofs.lemmas.Option.{slice_get_read}
use Rattle.tree_sem.specs.Table.{kids_in, label_in, IsGrown}
use Rattle.tree_sem.proofs.TableLemmas.{child_there}
use Rattle.tree_sem.proofs.WriteLemmas.{label_is, kids_are}
use Rattle.tree_sem.proofs.copying.copy_next.Goals as goal

pub index-requires-in-Some : goal.index-requires-in-Some
index-requires-in-Some c =
    let source = c.args.source.now in
    let from = c.args.from in
    let found = c.in-Some.ensures.lookup in
    let kids : kids_in source from ≡ c.deref.result.now = kids_are source from c.index-node.result.now c.index-node.ensures ∙ sym c.deref.ensures.value in
    let child = slice_get_read c.deref.result.now (length c.deref.result.now) c.len-done.result c.in-Some.child.now refl found.3.0 found.1 in
    child_there source c.requires.source from c.len-done.result c.in-Some.child.now (ap (λ z. slice_get z c.len-done.result) kids ∙ child)

pub returns-in_ok-copy-in-Some-clause-ok : goal.returns-in_ok-copy-in-Some-clause-ok
returns-in_ok-copy-in-Some-clause-ok c =
    let source = c.args.source.now in
    let from = c.args.from in
    let to = c.args.to in
    let old = c.args.slots.now in
    let new = c.push_child.new.slots in
    let d = c.in_ok-copy-in-Some.copy in
    let found = c.in-Some.ensures.lookup in
    let kids : kids_in source from ≡ c.deref.result.now = kids_are source from c.index-node.result.now c.index-node.ensures ∙ sym c.deref.ensures.value in
    let child = slice_get_read c.deref.result.now (length c.deref.result.now) c.len-done.result c.in-Some.child.now refl found.3.0 found.1 in
    let many = ap length (kids_are old to c.index.result.now c.index.ensures) in
    let number : length (kids_in old to) ≡ c.len-done.result = omega (arith, many, c.index.result.now.children.ok.0, c.len-done.ensures) in
    let label : c.in_ok-label-in-Some.label ≡ label_in source c.in-Some.child.now = c.in_ok-label-in-Some.ensures ∙ sym (label_is source c.in-Some.child.now c.index-in-Some.result.now c.index-in-Some.ensures) in
    inl (
      c.in-Some.child.now,
      d,
      ap (slice_get (kids_in source from)) number ∙ ap (λ z. slice_get z c.len-done.result) kids ∙ child,
      subst (IsGrown old new to d) label c.in_ok-copy-in-Some.ensures.ok,
      subst IsStrictlyIncreasing label c.in_ok-copy-in-Some.ensures.rises,
      refl,
    )
