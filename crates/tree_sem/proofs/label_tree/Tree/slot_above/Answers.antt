use Rattle.std.proofs.Common.{length, take, Some, sym, ap, ◌∙◌, refl}
use Rattle.tree_sem.proofs.TableLemmas.{no_node, label_there, children_there, few_children}
use Rattle.tree_sem.proofs.WriteLemmas.{label_is, kids_are}
use Rattle.tree_sem.proofs.label_tree.Tree.slot_above.Goals as goal

pub returns-in_err-place : goal.returns-in_err-place
returns-in_err-place c =
    let slots = c.self.inside.slots in
    let none = no_node slots c.self.invariant.forest (take c.args.len c.args.at.now) c.in_err-place.ensures.place in
    rw (c.from_residual.ensures, ← c.self.view_is, none) (record { label = refl; children = refl; few = tt })

pub returns : goal.returns
returns c =
    let slots = c.self.inside.slots in
    let p = take c.args.len c.args.at.now in
    let place = c.in_ok-place.place in
    let slot = c.index.result.now in
    let at = c.in_ok-place.ensures.place in
    let kids = kids_are slots place slot c.index.ensures in
    record {
      label = rw (← c.self.view_is) (ap Some (sym (label_is slots place slot c.index.ensures)) ∙ sym (label_there slots c.self.invariant.forest p place at));
      children = rw (← c.self.view_is) (ap Some (ap length (sym kids)) ∙ sym (children_there slots c.self.invariant.forest p place at));
      few = let few = few_children slots c.self.invariant p place at in rw (sym kids) few;
    }
