use Rattle.std.proofs.Common.{◌++◌, ◌∷◌, [], List, ap, ◌∙◌}
use Rattle.closed_page.specs.declared.first_rows.Run.{Run}
use Rattle.closed_page.proofs.RunLemmas.{pushed_put}
use Rattle.closed_page.proofs.first_rows.FirstRow.put.Goals as goal

pub returns : goal.returns
returns c =
    let left = c.takes.ensures.left c.if-takes.false in
    pushed_put c.args.self.now c.push.new.self.items c.args.kids (c.in_ok-push.ensures.items ∙ ap (λ (z : List Run). z ++ c.args.kids ∷ []) (c.self.view_is ∙ left)) c.requires.ordered c.requires.ends c.requires.filled
