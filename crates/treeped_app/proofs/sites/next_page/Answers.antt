use Rattle.std.proofs.Common.{refl, sym, ap, ◌∙◌}
use Rattle.std.proofs.lemmas.List.{length-map}
use Rattle.usage_report.specs.Views.{answer_of}
use Rattle.treeped_app.specs.Views.{inputs_of}
use Rattle.treeped_app.proofs.SiteLemmas.{can_add, added_can}
use Rattle.treeped_app.proofs.sites.next_page.Goals as goal

pub add-requires-clause-one_length : goal.add-requires-clause-one_length
add-requires-clause-one_length g c = sym (length-map c.in_ok-said.said.items.items answer_of) ∙ can_add c.args.shared.now.sheet.now c.args.seen.now _ _ _ _ c.requires.kept refl c.in_ok-said.ensures.said

pub returns-clause-kept : goal.returns-clause-kept
returns-clause-kept g c =
    added_can c.args.shared.now.sheet.now c.args.seen.now c.add.new.seen _ _ _ _ c.requires.kept refl c.in_ok-said.ensures.said
    (record { site = c.in_ok-add.ensures.added.0; places = c.in_ok-add.ensures.added.1; last = ap inputs_of c.in_ok-add.ensures.last })
