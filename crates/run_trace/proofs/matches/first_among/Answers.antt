use Rattle.std.proofs.Common.{◌↔◌, ℕ, List, subst}
use Rattle.tree_sem.specs.Trees.{LabelTree}
use Rattle.node_marks.specs.Marks.{IsMarked}
use Rattle.sel_core.specs.Selectors.{Matches}
use Rattle.sel_text.specs.Views.{selector_of}
use Rattle.jq_sem.proofs.SetLemmas.{on_ok}
use Rattle.run_trace.proofs.MatchLemmas.{first_is}
use Rattle.run_trace.proofs.matches.first_among.Goals as goal

pub returns : goal.returns
returns c =
    let s = selector_of c.args.s.now in
    let same = subst (λ (z : LabelTree). (v : List ℕ) → IsMarked z c.in_ok-marks.marks v ↔ Matches z v s) c.requires c.in_ok-marks.ensures in
    on_ok c.first_marked.result _ _ (λ o first. first_is c.args.tree.now c.in_ok-marks.marks s o same first) c.first_marked.ensures
