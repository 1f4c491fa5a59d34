use Rattle.std.proofs.Common.{◌≡◌, ◌<◌, List, ℕ, [], Option, IfSome, length, get_or, ap, ◌∙◌, arith, subst}
use Rattle.std.proofs.lemmas.List.{get_or_default}
use Rattle.closed_page.specs.Labelled.{Labelled}
use Rattle.closed_page.specs.Relabelled.{shape_of}
use Rattle.tp_base.specs.Classes.{union_of}
use Rattle.tree_sem.specs.Trees.{edit_at}
use Rattle.tree_sem.specs.Actions.{add_classes}
use Rattle.closed_page.proofs.RelabelledLemmas.{related_longer, labels_longer}
use Rattle.closed_page.proofs.GainLemmas.{grown_one, on_err}
use Rattle.closed_page.proofs.page_labels.PageLabels.add.Goals as goal

pub invariant_of-self : goal.invariant_of-self
invariant_of-self c =
    let n = c.self.inside in
    let i = c.args.number in
    let label = c.args.label.now in
    let same : n.nodes ≡ c.args.self.now.nodes = ap (λ (z : Labelled). z.nodes) c.self.view_is in
    let less : i < length n.nodes = omega (arith, c.requires, ap (λ (z : List (List ℕ)). length z) same) in
    let grown : c.in-Some.grown ≡ union_of (get_or c.deref.result.now i []) label = subst (λ (o : Option (List ℕ)). IfSome o (λ s. s ≡ union_of (get_or c.deref.result.now i []) label)) c.in-Some.is c.in_ok-grown.ensures in
    let longer : c.in-Some.grown ≡ union_of (get_or n.own.items i []) label = grown ∙ ap (λ (z : List (List ℕ)). union_of (get_or z i []) label) c.deref.ensures.value in
    (related_longer (shape_of n.nodes) n.nodes n.own.items i label c.in-Some.grown c.self.invariant.0 less longer, c.self.invariant.1)

pub returns-in-Some-clause-labels : goal.returns-in-Some-clause-labels
returns-in-Some-clause-labels c =
    let n = c.self.inside in
    let i = c.args.number in
    let label = c.args.label.now in
    let same : n.nodes ≡ c.args.self.now.nodes = ap (λ (z : Labelled). z.nodes) c.self.view_is in
    let less : i < length n.nodes = omega (arith, c.requires, ap (λ (z : List (List ℕ)). length z) same) in
    let grown : c.in-Some.grown ≡ union_of (get_or c.deref.result.now i []) label = subst (λ (o : Option (List ℕ)). IfSome o (λ s. s ≡ union_of (get_or c.deref.result.now i []) label)) c.in-Some.is c.in_ok-grown.ensures in
    let longer : c.in-Some.grown ≡ union_of (get_or n.own.items i []) label = grown ∙ ap (λ (z : List (List ℕ)). union_of (get_or z i []) label) c.deref.ensures.value in
    labels_longer (shape_of n.nodes) n.nodes n.own.items i label c.in-Some.grown c.self.invariant.0 less longer
    ∙ ap (λ (z : Labelled). edit_at (get_or z.nodes i []) (add_classes label) z.labels) c.self.view_is

pub invariant_of-self-in_err-add : goal.invariant_of-self-in_err-add
invariant_of-self-in_err-add c =
    let n = c.self.inside in
    let i = c.args.number in
    let same : n.nodes ≡ c.args.self.now.nodes = ap (λ (z : Labelled). z.nodes) c.self.view_is in
    let less : i < length n.nodes = omega (arith, c.requires, ap (λ (z : List (List ℕ)). length z) same) in
    let count = c.self.invariant.0.labels.count in
    let own = c.index_mut-own.result.now in
    let here : own ≡ get_or n.own.items i [] = c.index_mut-own.ensures.value ∙ get_or_default n.own.items i own [] (omega (arith, less, count)) in
    let more = c.add.ensures.longer.0 in
    let longer : c.add.new.self ≡ union_of (get_or n.own.items i []) more = c.add.ensures.longer.1 ∙ ap (λ z. union_of z more) here in
    (related_longer (shape_of n.nodes) n.nodes n.own.items i more c.add.new.self c.self.invariant.0 less longer, c.self.invariant.1)

pub returns-clause-labels : goal.returns-clause-labels
returns-clause-labels c =
    let n = c.self.inside in
    let i = c.args.number in
    let same : n.nodes ≡ c.args.self.now.nodes = ap (λ (z : Labelled). z.nodes) c.self.view_is in
    let less : i < length n.nodes = omega (arith, c.requires, ap (λ (z : List (List ℕ)). length z) same) in
    let count = c.self.invariant.0.labels.count in
    let own = c.index_mut-own.result.now in
    let here : own ≡ get_or n.own.items i [] = c.index_mut-own.ensures.value ∙ get_or_default n.own.items i own [] (omega (arith, less, count)) in
    let longer : c.add.new.self ≡ union_of (get_or n.own.items i []) c.args.label.now = c.in_ok-add.ensures.all ∙ ap (λ z. union_of z c.args.label.now) here in
    labels_longer (shape_of n.nodes) n.nodes n.own.items i c.args.label.now c.add.new.self c.self.invariant.0 less longer
    ∙ ap (λ (z : Labelled). edit_at (get_or z.nodes i []) (add_classes c.args.label.now) z.labels) c.self.view_is

pub invariant_of-self-2 : goal.invariant_of-self-2
invariant_of-self-2 c =
    let n = c.self.inside in
    let i = c.args.number in
    let same : n.nodes ≡ c.args.self.now.nodes = ap (λ (z : Labelled). z.nodes) c.self.view_is in
    let less : i < length n.nodes = omega (arith, c.requires, ap (λ (z : List (List ℕ)). length z) same) in
    let count = c.self.invariant.0.labels.count in
    let own = c.index_mut-own.result.now in
    let here : own ≡ get_or n.own.items i [] = c.index_mut-own.ensures.value ∙ get_or_default n.own.items i own [] (omega (arith, less, count)) in
    let more = c.add.ensures.longer.0 in
    let longer : c.add.new.self ≡ union_of (get_or n.own.items i []) more = c.add.ensures.longer.1 ∙ ap (λ z. union_of z more) here in
    (related_longer (shape_of n.nodes) n.nodes n.own.items i more c.add.new.self c.self.invariant.0 less longer, c.self.invariant.1)

pub returns-in_err-add-clause-grown : goal.returns-in_err-add-clause-grown
returns-in_err-add-clause-grown c =
    let n = c.self.inside in
    let i = c.args.number in
    let same : n.nodes ≡ c.args.self.now.nodes = ap (λ (z : Labelled). z.nodes) c.self.view_is in
    let less : i < length n.nodes = omega (arith, c.requires, ap (λ (z : List (List ℕ)). length z) same) in
    let count = c.self.invariant.0.labels.count in
    let own = c.index_mut-own.result.now in
    let here : own ≡ get_or n.own.items i [] = c.index_mut-own.ensures.value ∙ get_or_default n.own.items i own [] (omega (arith, less, count)) in
    let more = c.add.ensures.longer.0 in
    let longer : c.add.new.self ≡ union_of (get_or n.own.items i []) more = c.add.ensures.longer.1 ∙ ap (λ z. union_of z more) here in
    on_err _ c.from_residual-in_err-add.result (grown_one c.args.self.now.labels _ (record { at = get_or c.args.self.now.nodes i []; label = more })
    (labels_longer (shape_of n.nodes) n.nodes n.own.items i more c.add.new.self c.self.invariant.0 less longer
    ∙ ap (λ (z : Labelled). edit_at (get_or z.nodes i []) (add_classes more) z.labels) c.self.view_is))
