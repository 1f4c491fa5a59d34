use Rattle.std.proofs.Common.{length, map, sym, ap, ◌∙◌}
use Rattle.std.proofs.lemmas.List.{length-map}
use Rattle.css_read.specs.Views.{item_of}
use Rattle.treeped_app.specs.Sites.{all_places}
use Rattle.treeped_app.proofs.BestLemmas.{best_each}
use Rattle.treeped_app.proofs.sites.finished.Goals as goal

pub status_of_site-requires : goal.status_of_site-requires
status_of_site-requires g c =
    let seen = c.args.seen.now in
    let items = seen.last.sheet.items in
    record { many = ap length c.items.ensures ∙ sym (length-map items item_of) ∙ best_each (all_places seen) (map item_of items) seen.site.items c.requires.reportable }
