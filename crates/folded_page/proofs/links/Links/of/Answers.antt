use Rattle.std.proofs.Common.{◌≡◌, ◌-◌, ◌+◌, ◌<◌, ◌∙◌, arith}
use Rattle.std.proofs.lemmas.List.{length-set, get_or_read}
use Rattle.node_marks.specs.Numbering.{parent_number}
use Rattle.folded_page.proofs.LinkLemmas.{first_one, next_one, links_all}
use Rattle.folded_page.proofs.links.Links.of.Goals as goal

pub nodes-preserved : goal.nodes-preserved
nodes-preserved c =
    let parents = c.args.parents.now in
    let node = c.nodes.node in
    let k = node - 1 in
    let old = c.nodes.invariant in
    let is : k + 1 ≡ node = omega arith in
    let lower : parent_number parents k < k = c.requires.above k (omega arith) (omega arith) in
    record {
      within = omega arith;
      firsts = length-set _ _ _ ∙ old.firsts;
      nexts = length-set _ _ _ ∙ old.nexts;
      count = length-set _ _ _ ∙ length-set _ _ _ ∙ old.count;
      begun = first_one parents c.nodes.first.items node k c.requires.above is (omega arith) (omega arith) old.firsts old.begun;
      behind = next_one parents c.nodes.first.items c.nodes.next.items node k c.index-before.result.now is (omega arith) old.nexts (get_or_read c.nodes.first.items _ _ (omega (arith, lower, old.firsts)) c.index-before.ensures 0) old.begun old.behind;
    }

pub returns : goal.returns
returns c = links_all c.args.parents.now c.nodes.first.items c.nodes.next.items c.nodes.node (omega arith) c.nodes.invariant.begun c.nodes.invariant.behind
