use Rattle.std.proofs.Common.{◌≡◌, Some, subst}
use Rattle.treeped_app.specs.Tasks.{task_by, command}
use Rattle.treeped_app.specs.Views as view
use Rattle.treeped_app.proofs.runs.run_task.Goals as goal

pub returns-in-One-clause-means : goal.returns-in-One-clause-means
returns-in-One-clause-means g c = λ words task. rw c.in-One.is c.run_page.ensures.means

pub returns-in-Several-clause-means : goal.returns-in-Several-clause-means
returns-in-Several-clause-means g c = λ words task.
    let task' = subst (λ z. command words ≡ Some (task_by (view.source_of z) c.args.request.now.mode c.args.request.now.limits.now)) c.in-Several.is task in
    rw c.in-Several.is (c.run_site.ensures.means words task')

pub returns-in-Ring-clause-means : goal.returns-in-Ring-clause-means
returns-in-Ring-clause-means g c = λ words task. rw c.in-Ring.is (c.run_ring.ensures.means (g.F.Files.told c.args.files.now))

pub returns-in-Ring-clause-ends : goal.returns-in-Ring-clause-ends
returns-in-Ring-clause-ends g c = λ words task. c.run_ring.ensures.ends _ words _ (subst (λ z. command words ≡ Some (task_by (view.source_of z) c.args.request.now.mode c.args.request.now.limits.now)) c.in-Ring.is task)
