use Rattle.std.proofs.Common.{◌≤◌, length, option_map, unwrap_or, sym, ap, subst, ◌∙◌}
use Rattle.std.proofs.lemmas.Option.{slice_get_past}
use Rattle.simple_core.specs.declared.system.TheConstants.{MOST_KINDS}
use Rattle.proof_check.specs.declared.proofs.Entry.{Entry}
use Rattle.proof_check.specs.Unfolding.{forest_children}
use Rattle.proof_core.specs.Worlds.{is_under}
use Rattle.proof_core.proofs.WorldLemmas.{few_siblings}
use Rattle.proof_core.proofs.walks.base_of.Goals as goal

pub returns-in-Some-clause-few : goal.returns-in-Some-clause-few
returns-in-Some-clause-few c =
    let k = c.in-Some.entry.now.kind in
    subst (λ n. n ≤ MOST_KINDS) (sym (c.children_of.ensures ∙ ap (λ o. unwrap_or o 0) (c.args.world.now.known k))) (few_siblings c.args.world.now.system.now c.args.world.now.siblings (is_under k))

pub returns-in-None-clause-base : goal.returns-in-None-clause-base
returns-in-None-clause-base c =
    let s = c.args.world.now.system.now in
    let es = c.args.world.now.entries.now in
    let past : length es ≤ c.args.entry = rw c.items.ensures at c.in-None.ensures.lookup.3 in
    sym (ap (λ o. unwrap_or (option_map (λ (entry : Entry). forest_children s entry.kind) o) 0) (slice_get_past es c.args.entry past))
