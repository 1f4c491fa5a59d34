use Rattle.std.proofs.Common.{Some, None, sym, ◌∙◌, ap}
use Rattle.tp_base.specs.Classes.{union_of}
use Rattle.tree_sem.proofs.TableLemmas.{no_node, not_there, walked}
use Rattle.tree_sem.proofs.UnionLemmas.{united_there}
use Rattle.tree_sem.proofs.WriteLemmas.{label_is}
use Rattle.tree_sem.proofs.unions.united_label.Goals as goal

pub unreachable-requires : goal.unreachable-requires
unreachable-requires c =
    let slots = c.args.slots.now in
    let at = walked slots c.args.at.now c.len.result None c.len.ensures c.in_default.ensures.place in
    not_there _ (no_node slots c.requires.forest c.args.at.now at) c.requires.is_node

pub returns : goal.returns
returns c =
    let slots = c.args.slots.now in
    let classes = c.args.classes.now in
    let place = c.in-Some.place in
    let at = walked slots c.args.at.now c.len.result (Some place) c.len.ensures c.in-Some.ensures.place in
    let label = label_is slots place c.index.result.now c.index.ensures in
    c.in_ok-union.ensures.ok ∙ ap (λ l. union_of l classes) (c.in_ok-label.ensures ∙ sym label) ∙ sym (united_there slots c.requires.forest classes c.args.at.now place at)
