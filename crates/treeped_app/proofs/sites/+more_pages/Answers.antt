use Rattle.std.proofs.Common.{rules, ◌≡◌, get_or}
use Rattle.treeped_app.proofs.SiteLemmas.{more_joined}
use Rattle.treeped_app.proofs.TaskLemmas.{next_pair}
use Rattle.treeped_app.proofs.sites.+more_pages.Goals as goal

pub returns-in_ok-next_page-in-len2-up-clause-more : goal.returns-in_ok-next_page-in-len2-up-clause-more
returns-in_ok-next_page-in-len2-up-clause-more g t c =
    let page = c.as_str.result.now in
    let script = c.as_str-in-len2-up.result.now in
    let first : page ≡ get_or c.args.later.now 0 page = search rules in
    let second : script ≡ get_or c.args.later.now 1 script = search rules in
    rw (next_pair c.args.later.now page script c.in-len2-up.len_at_least first second)
    (more_joined _ _ _ _ c.in_ok-next_page-in-len2-up.ensures.same_files _ _ _ _ _ _ _ _ _ _ _ _ c.more_pages.result c.in_ok-next_page-in-len2-up.ensures.added c.more_pages.ensures.more)
