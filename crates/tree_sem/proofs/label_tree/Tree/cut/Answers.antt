use Rattle.std.proofs.Common.{◌≡◌, ◌-◌, ◌<◌, length, take, get_or, Some, None, slice_get, sym, ap, ◌∙◌, arith}
use Rattle.std.proofs.lemmas.Option.{slice_get-get_or}
use Rattle.tree_sem.specs.Arena.{place_from}
use Rattle.tree_sem.specs.Table.{kids_in, tree_in}
use Rattle.tree_sem.proofs.ChangeLemmas.{tree_in_limit}
use Rattle.tree_sem.proofs.CutLemmas.{table_cut}
use Rattle.tree_sem.proofs.CutPaths.{cut_is, parent_missing, child_missing, child_cut}
use Rattle.tree_sem.proofs.TableLemmas.{no_node, node_there, kids_there}
use Rattle.tree_sem.proofs.WriteLemmas.{kids_are}
use Rattle.tree_sem.proofs.label_tree.Tree.cut.Goals as goal

-- the parent is missing
pub returns-in_default-clause-cut : goal.returns-in_default-clause-cut
returns-in_default-clause-cut c =
    let slots = c.self.inside.slots in
    let tree = tree_in slots 0 in
    let v = c.args.at.now in
    let n = c.len-levels.result in
    let number : n ≡ length v = omega (arith, c.len-levels.ensures) in
    let some : 0 < length v = omega (arith, c.len-levels.ensures) in
    let k = get_or v (length v - 1) 0 in
    let last : slice_get v (length v - 1) ≡ Some k = slice_get-get_or v (length v - 1) 0 (omega (arith, some)) in
    let none : None ≡ place_from (kids_in slots) 0 (take (length v - 1) v) = c.in_default.ensures.place ∙ ap (λ m. place_from (kids_in slots) 0 (take (m - 1) v)) number in
    let missing = parent_missing tree v k some last (no_node slots c.self.invariant.forest (take (length v - 1) v) none) in
    rw (← c.self.view_is) missing.0

pub returns-in_default-clause-test : goal.returns-in_default-clause-test
returns-in_default-clause-test c =
    let slots = c.self.inside.slots in
    let tree = tree_in slots 0 in
    let v = c.args.at.now in
    let n = c.len-levels.result in
    let number : n ≡ length v = omega (arith, c.len-levels.ensures) in
    let some : 0 < length v = omega (arith, c.len-levels.ensures) in
    let k = get_or v (length v - 1) 0 in
    let last : slice_get v (length v - 1) ≡ Some k = slice_get-get_or v (length v - 1) 0 (omega (arith, some)) in
    let none : None ≡ place_from (kids_in slots) 0 (take (length v - 1) v) = c.in_default.ensures.place ∙ ap (λ m. place_from (kids_in slots) 0 (take (m - 1) v)) number in
    let missing = parent_missing tree v k some last (no_node slots c.self.invariant.forest (take (length v - 1) v) none) in
    rw (← c.self.view_is) missing.1

-- the child is missing
pub returns-then-step-len-clause-cut : goal.returns-then-step-len-clause-cut
returns-then-step-len-clause-cut c =
    let slots = c.self.inside.slots in
    let tree = tree_in slots 0 in
    let v = c.args.at.now in
    let n = c.len-levels.result in
    let number : n ≡ length v = omega (arith, c.len-levels.ensures) in
    let some : 0 < length v = omega (arith, c.len-levels.ensures) in
    let place = c.in-Some.parent in
    let k = c.at-step.result in
    let last : slice_get v (length v - 1) ≡ Some k = ap (λ m. slice_get v (m - 1)) (sym number) ∙ c.at-step.ensures in
    let at : Some place ≡ place_from (kids_in slots) 0 (take (length v - 1) v) = c.in-Some.ensures.place ∙ ap (λ m. place_from (kids_in slots) 0 (take (m - 1) v)) number in
    let there = node_there slots c.self.invariant.forest (take (length v - 1) v) place at in
    let kids = kids_there slots c.self.invariant.forest (take (length v - 1) v) place at in
    let many = ap length (kids_are slots place c.index.result.now c.index.ensures) in
    let count : c.len.result ≡ length (kids_in slots place) = omega (arith, many, c.index.result.now.children.ok.0, c.len.ensures) in
    let missing = child_missing tree v k some last (tree_in slots place) there (omega (arith, kids, count)) in
    rw (← c.self.view_is) missing.0

pub returns-then-step-len-clause-test : goal.returns-then-step-len-clause-test
returns-then-step-len-clause-test c =
    let slots = c.self.inside.slots in
    let tree = tree_in slots 0 in
    let v = c.args.at.now in
    let n = c.len-levels.result in
    let number : n ≡ length v = omega (arith, c.len-levels.ensures) in
    let some : 0 < length v = omega (arith, c.len-levels.ensures) in
    let place = c.in-Some.parent in
    let k = c.at-step.result in
    let last : slice_get v (length v - 1) ≡ Some k = ap (λ m. slice_get v (m - 1)) (sym number) ∙ c.at-step.ensures in
    let at : Some place ≡ place_from (kids_in slots) 0 (take (length v - 1) v) = c.in-Some.ensures.place ∙ ap (λ m. place_from (kids_in slots) 0 (take (m - 1) v)) number in
    let there = node_there slots c.self.invariant.forest (take (length v - 1) v) place at in
    let kids = kids_there slots c.self.invariant.forest (take (length v - 1) v) place at in
    let many = ap length (kids_are slots place c.index.result.now c.index.ensures) in
    let count : c.len.result ≡ length (kids_in slots place) = omega (arith, many, c.index.result.now.children.ok.0, c.len.ensures) in
    let missing = child_missing tree v k some last (tree_in slots place) there (omega (arith, kids, count)) in
    rw (← c.self.view_is) missing.1

-- it is there
pub invariant_of-self : goal.invariant_of-self
invariant_of-self c =
    let slots = c.self.inside.slots in
    let tree = tree_in slots 0 in
    let v = c.args.at.now in
    let n = c.len-levels.result in
    let number : n ≡ length v = omega (arith, c.len-levels.ensures) in
    let some : 0 < length v = omega (arith, c.len-levels.ensures) in
    let place = c.in-Some.parent in
    let k = c.at-step.result in
    let last : slice_get v (length v - 1) ≡ Some k = ap (λ m. slice_get v (m - 1)) (sym number) ∙ c.at-step.ensures in
    let at : Some place ≡ place_from (kids_in slots) 0 (take (length v - 1) v) = c.in-Some.ensures.place ∙ ap (λ m. place_from (kids_in slots) 0 (take (m - 1) v)) number in
    let there = node_there slots c.self.invariant.forest (take (length v - 1) v) place at in
    let kids = kids_there slots c.self.invariant.forest (take (length v - 1) v) place at in
    let many = ap length (kids_are slots place c.index.result.now c.index.ensures) in
    let count : c.len.result ≡ length (kids_in slots place) = omega (arith, many, c.index.result.now.children.ok.0, c.len.ensures) in
    let child : slice_get (kids_in slots place) k ≡ Some (get_or (kids_in slots place) k 0) = slice_get-get_or (kids_in slots place) k 0 (omega (arith, count)) in
    table_cut slots c.cut_child.new.slots place k (get_or (kids_in slots place) k 0) (take (length v - 1) v) c.self.invariant c.cut_child.ensures.forest (sym at) child
    (c.cut_child.ensures.tree (take (length v - 1) v) (sym at)) (c.cut_child.ensures.count (get_or (kids_in slots place) k 0) child)

pub returns-clause-in_limit : goal.returns-clause-in_limit
returns-clause-in_limit c = λ done.
    let slots = c.self.inside.slots in
    let tree = tree_in slots 0 in
    let v = c.args.at.now in
    let n = c.len-levels.result in
    let number : n ≡ length v = omega (arith, c.len-levels.ensures) in
    let some : 0 < length v = omega (arith, c.len-levels.ensures) in
    let place = c.in-Some.parent in
    let k = c.at-step.result in
    let last : slice_get v (length v - 1) ≡ Some k = ap (λ m. slice_get v (m - 1)) (sym number) ∙ c.at-step.ensures in
    let at : Some place ≡ place_from (kids_in slots) 0 (take (length v - 1) v) = c.in-Some.ensures.place ∙ ap (λ m. place_from (kids_in slots) 0 (take (m - 1) v)) number in
    let there = node_there slots c.self.invariant.forest (take (length v - 1) v) place at in
    let kids = kids_there slots c.self.invariant.forest (take (length v - 1) v) place at in
    let many = ap length (kids_are slots place c.index.result.now c.index.ensures) in
    let count : c.len.result ≡ length (kids_in slots place) = omega (arith, many, c.index.result.now.children.ok.0, c.len.ensures) in
    let child : slice_get (kids_in slots place) k ≡ Some (get_or (kids_in slots place) k 0) = slice_get-get_or (kids_in slots place) k 0 (omega (arith, count)) in
    tree_in_limit c.cut_child.new.slots (table_cut slots c.cut_child.new.slots place k (get_or (kids_in slots place) k 0) (take (length v - 1) v) c.self.invariant c.cut_child.ensures.forest (sym at) child
    (c.cut_child.ensures.tree (take (length v - 1) v) (sym at)) (c.cut_child.ensures.count (get_or (kids_in slots place) k 0) child))

pub returns-clause-cut : goal.returns-clause-cut
returns-clause-cut c =
    let slots = c.self.inside.slots in
    let tree = tree_in slots 0 in
    let v = c.args.at.now in
    let n = c.len-levels.result in
    let number : n ≡ length v = omega (arith, c.len-levels.ensures) in
    let some : 0 < length v = omega (arith, c.len-levels.ensures) in
    let place = c.in-Some.parent in
    let k = c.at-step.result in
    let last : slice_get v (length v - 1) ≡ Some k = ap (λ m. slice_get v (m - 1)) (sym number) ∙ c.at-step.ensures in
    let at : Some place ≡ place_from (kids_in slots) 0 (take (length v - 1) v) = c.in-Some.ensures.place ∙ ap (λ m. place_from (kids_in slots) 0 (take (m - 1) v)) number in
    let there = node_there slots c.self.invariant.forest (take (length v - 1) v) place at in
    let kids = kids_there slots c.self.invariant.forest (take (length v - 1) v) place at in
    let many = ap length (kids_are slots place c.index.result.now c.index.ensures) in
    let count : c.len.result ≡ length (kids_in slots place) = omega (arith, many, c.index.result.now.children.ok.0, c.len.ensures) in
    rw (← c.self.view_is) (c.cut_child.ensures.tree (take (length v - 1) v) (sym at) ∙ sym (cut_is tree v k some last))

pub returns-clause-test : goal.returns-clause-test
returns-clause-test c =
    let slots = c.self.inside.slots in
    let tree = tree_in slots 0 in
    let v = c.args.at.now in
    let n = c.len-levels.result in
    let number : n ≡ length v = omega (arith, c.len-levels.ensures) in
    let some : 0 < length v = omega (arith, c.len-levels.ensures) in
    let place = c.in-Some.parent in
    let k = c.at-step.result in
    let last : slice_get v (length v - 1) ≡ Some k = ap (λ m. slice_get v (m - 1)) (sym number) ∙ c.at-step.ensures in
    let at : Some place ≡ place_from (kids_in slots) 0 (take (length v - 1) v) = c.in-Some.ensures.place ∙ ap (λ m. place_from (kids_in slots) 0 (take (m - 1) v)) number in
    let there = node_there slots c.self.invariant.forest (take (length v - 1) v) place at in
    let kids = kids_there slots c.self.invariant.forest (take (length v - 1) v) place at in
    let many = ap length (kids_are slots place c.index.result.now c.index.ensures) in
    let count : c.len.result ≡ length (kids_in slots place) = omega (arith, many, c.index.result.now.children.ok.0, c.len.ensures) in
    rw (← c.self.view_is) (child_cut tree v k some last (tree_in slots place) there (omega (arith, kids, count)))
