use Rattle.std.proofs.Common.{◌≡◌, List, ℕ, get_or, take, sym, ap, ◌∙◌, subst, arith}
use Rattle.closed_page.specs.declared.notes.NodeNews.{NodeNews}
use Rattle.closed_page.specs.Notes.{expanded}
use Rattle.closed_page.specs.Runs.{start_of, AreEnded, AreByAtomWith}
use Rattle.closed_page.proofs.RowLemmas.{rows_start, sorted_start, ended_start, run_told, run_next}
use Rattle.closed_page.proofs.first_rows.by_atoms.Goals as goal

pub notes-init : goal.notes-init
notes-init c = record {
  rows = rows_start c.new-rows.result.items c.new-rows.ensures.items;
  sorted = sorted_start c.new-rows.result.items c.new-rows.ensures.items;
  ended = λ j d le less. ended_start c.new-rows.result.items (get_or c.args.notes.now j d).spot c.new-rows.ensures.items;
}

pub put_all-requires-clause-ended : goal.put_all-requires-clause-ended
put_all-requires-clause-ended c =
    let n = c.index-notes-i.result in
    let of = c.kids_of-kids.ensures in
    let parent = of.parent n in
    let first = of.first n in
    let start : (get_or c.args.notes.now c.notes.i n).spot ≡ start_of c.kids_of-kids.result = λ k. record { parent = sym parent k; step = sym first k } in
    subst (AreEnded c.notes.rows.items) start (c.notes.invariant.ended c.notes.i n (omega arith) c.notes-test.true)

pub notes-preserved : goal.notes-preserved
notes-preserved c =
    let notes = c.args.notes.now in
    let i = c.notes.i in
    let j = c.alike_to-end.result in
    let y = c.kids_of-kids.result in
    let alike = c.alike_to-end.ensures in
    let of = c.kids_of-kids.ensures in
    let n = c.index-notes-i.result in
    let new = c.put_all.new.rows.items in
    let told = c.in_ok-put_all.ensures.rows (expanded (take i notes)) c.notes.invariant.rows in
    record {
      rows = run_told notes i j y alike of n c.index-notes-i.is new (subst (λ (z : List ℕ). AreByAtomWith (expanded (take i notes)) z y new) (c.set.ensures ∙ ap (λ (z : NodeNews). z.atoms) (sym c.index-notes-i.is)) told);
      sorted = c.in_ok-put_all.ensures.sorted;
      ended = run_next notes i j y alike of n c.requires new c.in_ok-put_all.ensures.ended;
    }
