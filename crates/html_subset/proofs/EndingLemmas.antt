-- What is read, from what a builder ends with.
use Rattle.std.proofs.Common.{◌≡◌, false, List, [], Result, Ok, Err, IfOk, IfErr, refl, sym, ap, subst, ◌∙◌}
use Rattle.tp_base.specs.Names.{Named}
use Rattle.tree_sem.specs.Trees.{LabelTree}
use Rattle.tree_sem.specs.declared.forests.Forest.{Forest}
use Rattle.html_subset.specs.declared.faults.PageFault.{PageFault}
use Rattle.html_subset.specs.declared.faults.PageFault.TheVariants.{Memory}
use Rattle.html_tokens.specs.Tokens.{Token}
use Rattle.html_subset.specs.Pages.{Ending, page_of, forest_of}
use Rattle.html_subset.specs.Machine as machine
use Rattle.html_subset.specs.Machine.{Machine, labelled_tree, trees_of}
use Rattle.html_subset.specs.Results.{IsFront, Reads}
use Rattle.html_subset.proofs.Simulation.{page_same, page_kind, forest_same}

-- A machine `m` began, all was read by it, and it came to `n`. The names are taken out of that, which leaves `o`, and then what it has built.

-- names that were in the table keep their numbers
front_taken : (m : Machine) (table later names : List Named) → m.table ≡ table → IsFront m.table later → names ≡ later → IsFront table names
front_taken m table later names same front taken = rw taken (subst (λ (ns : List Named). IsFront ns later) same front)

-- ---- a page

pub page_front : (m : Machine) (table later names : List Named) → m ≡ machine.nameless_page table → IsFront m.table later → names ≡ later → IsFront table names
unfolding machine.nameless_page machine.beginning
page_front m table later names begins = front_taken m table later names (ap (λ (x : Machine). x.table) begins)

pub page_fails : (ts : List Token) (table : List Named) (m : Machine) (e : PageFault × List Named) → m ≡ machine.nameless_page table → machine.with_page ts m ≡ Err e → page_of ts table ≡ (e.1, Err e.0)
unfolding machine.page_of
page_fails ts table m e begins runs = page_same ts table ∙ rw (← begins, runs) refl

page_reads : (ts : List Token) (table : List Named) (m n : Machine) → m ≡ machine.nameless_page table → machine.with_page ts m ≡ Ok n → page_of ts table ≡ (n.table, Ok (labelled_tree n))
unfolding machine.page_of
page_reads ts table m n begins runs = page_same ts table ∙ rw (← begins, runs) refl

-- what began as a page ends as one
pub page_stays : (ts : List Token) (table : List Named) (m n o : Machine) → m ≡ machine.nameless_page table → machine.with_page ts m ≡ Ok n → o ≡ record n { table = [] } → o.forest ≡ false
page_stays ts table m n o begins runs rest = ap (λ (x : Machine). x.forest) rest ∙ page_kind ts table n (rw (← begins) runs)

pub page_finished : (r : Result LabelTree PageFault) (ts : List Token) (table : List Named) (m n o : Machine) → m ≡ machine.nameless_page table → machine.with_page ts m ≡ Ok n
    → o ≡ record n { table = [] } → IfOk r (λ t. labelled_tree o ≡ t) → IfErr r (λ e. e ≡ Memory) → Reads (λ t. t) r n.table (page_of ts table)
page_finished (Ok t) ts table m n o begins runs rest same memory =
    page_reads ts table m n begins runs ∙ ap (λ (x : LabelTree). let e : Ending LabelTree = (n.table, Ok x) in e) (ap labelled_tree (sym rest) ∙ same)
page_finished (Err e) ts table m n o begins runs rest same memory = λ known. absurd (known memory)

-- ---- markup

pub forest_front : (m : Machine) (table later names : List Named) → m ≡ machine.no_trees table → IsFront m.table later → names ≡ later → IsFront table names
unfolding machine.no_trees machine.beginning
forest_front m table later names begins = front_taken m table later names (ap (λ (x : Machine). x.table) begins)

pub forest_fails : (ts : List Token) (table : List Named) (m : Machine) (e : PageFault × List Named) → m ≡ machine.no_trees table → machine.run ts m ≡ Err e → forest_of ts table ≡ (e.1, Err e.0)
unfolding machine.forest_of
forest_fails ts table m e begins runs = forest_same ts table ∙ rw (← begins, runs) refl

forest_reads : (ts : List Token) (table : List Named) (m n : Machine) → m ≡ machine.no_trees table → machine.run ts m ≡ Ok n → forest_of ts table ≡ (n.table, Ok (trees_of n))
unfolding machine.forest_of
forest_reads ts table m n begins runs = forest_same ts table ∙ rw (← begins, runs) refl

pub forest_finished : (r : Result Forest PageFault) (ts : List Token) (table : List Named) (m n o : Machine) → m ≡ machine.no_trees table → machine.run ts m ≡ Ok n
    → o ≡ record n { table = [] } → IfOk r (λ f. trees_of o ≡ f.tops) → IfErr r (λ e. e ≡ Memory) → Reads (λ f. f.tops) r n.table (forest_of ts table)
forest_finished (Ok f) ts table m n o begins runs rest same memory =
    forest_reads ts table m n begins runs ∙ ap (λ (tops : List LabelTree). let e : Ending (List LabelTree) = (n.table, Ok tops) in e) (ap trees_of (sym rest) ∙ same)
forest_finished (Err e) ts table m n o begins runs rest same memory = λ known. absurd (known memory)
