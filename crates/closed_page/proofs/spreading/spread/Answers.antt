use Rattle.std.proofs.Common.{List, ℕ, length, ap, sym, ◌∙◌}
use Rattle.tree_sem.proofs.NodeLemmas.{length-paths_of}
use Rattle.closed_page.specs.Firsts.{placed}
use Rattle.closed_page.specs.Notes.{expanded}
use Rattle.closed_page.proofs.SpreadLemmas.{spread_all}
use Rattle.closed_page.proofs.spreading.spread.Goals as goal

pub spread_notes-requires-clause-count : goal.spread_notes-requires-clause-count
spread_notes-requires-clause-count c = c.requires.count ∙ sym (ap (λ (z : List (List ℕ)). length z) c.in_ok-labels.ensures.nodes ∙ length-paths_of c.args.page.now)

pub returns : goal.returns
returns c =
    let bare = c.in_ok-labels.labels in
    record {
      spread = spread_all c.args.page.now c.args.numbers.now c.args.folded bare c.with_notes.result (placed bare.nodes (expanded c.in_ok-notes.notes.items)) c.with_notes.ensures.labels c.with_notes.ensures.nodes c.with_notes.ensures.firsts
          c.in_ok-labels.ensures.nodes c.in_ok-labels.ensures.there c.in_ok-labels.ensures.label c.in_ok-notes.ensures.moved;
    }
