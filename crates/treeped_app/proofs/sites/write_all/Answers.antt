use Rattle.std.proofs.Common.{length, map, sym, ap, ◌∙◌}
use Rattle.std.proofs.lemmas.List.{length-map}
use Rattle.css_read.specs.Views.{item_of}
use Rattle.site_judge.specs.Sites.{Best}
use Rattle.treeped_app.specs.Modes.{is_unused}
use Rattle.treeped_app.specs.Sites.{all_places, best_answers}
use Rattle.treeped_app.proofs.BestLemmas.{best_each}
use Rattle.treeped_app.proofs.PruneLemmas.{bests_judged}
use Rattle.treeped_app.proofs.SiteLemmas.{site_reported}
use Rattle.treeped_app.proofs.sites.write_all.Goals as goal

pub unused_on_site-requires : goal.unused_on_site-requires
unused_on_site-requires g c =
    let seen = c.args.seen.now in
    let items = seen.last.sheet.items in
    record { many = ap length c.items.ensures ∙ sym (length-map items item_of) ∙ best_each (all_places seen) (map item_of items) seen.site.items c.requires.reportable }

pub write_pruned-requires-clause-count : goal.write_pruned-requires-clause-count
write_pruned-requires-clause-count g c =
    let seen = c.args.seen.now in
    let items = seen.last.sheet.items in
    ap length (c.deref.ensures.value ∙ c.in_ok-unused-in-SitePrune.ensures)
    ∙ length-map (best_answers seen.site) is_unused
    ∙ length-map seen.site.items (λ (b : Best). b.answer)
    ∙ sym (best_each (all_places seen) (map item_of items) seen.site.items c.requires.reportable)
    ∙ length-map items item_of

pub write_pruned-requires-clause-judged : goal.write_pruned-requires-clause-judged
write_pruned-requires-clause-judged g c =
    let seen = c.args.seen.now in
    rw (c.deref.ensures.value ∙ c.in_ok-unused-in-SitePrune.ensures) (bests_judged (all_places seen) (map item_of seen.last.sheet.items) seen.site.items c.requires.reportable)

pub returns-in_ok-unused-in-SitePrune-clause-err : goal.returns-in_ok-unused-in-SitePrune-clause-err
returns-in_ok-unused-in-SitePrune-clause-err g c = rw c.in-SitePrune.is (rw (c.deref.ensures.value ∙ c.in_ok-unused-in-SitePrune.ensures) at c.write_pruned.ensures.err)

pub returns-in_default : goal.returns-in_default
returns-in_default g c =
    let same = site_reported c.args.mode c.args.sheet.now c.args.seen.now c.in_default.not-SitePrune in
    record {
      ok = rw same (rw c.deref-in_default.ensures.value at c.write_site.ensures.ok);
      err = rw same (rw c.deref-in_default.ensures.value at c.write_site.ensures.err);
      write = c.write_site.ensures.write;
    }
