use Rattle.std.proofs.Common.{◌≡◌, length, reverse, ap, sym, ◌∙◌, arith}
use Rattle.std.proofs.lemmas.List.{length-map}
use Rattle.html_table.specs.TreeTable.{end_scope}
use Rattle.html_table.specs.Outward.{nearest, up_to_name, up_to_stop, behind_place, opened_element}
use Rattle.html_table.proofs.OutwardLemmas.{whole}
use Rattle.html_table.proofs.EndLemmas.{behind_by_place}
use Rattle.html_table.proofs.stack.OpenElements.behind_end.Goals as goal

pub returns : goal.returns
returns c = λ q place.
    let os = c.self.inside.items.items in
    let es = c.args.self.now in
    let scope = end_scope c.args.kind in
    let all : c.len.result ≡ length es = omega (arith, c.len.ensures, c.self.inside.items.ok.0, length-map os opened_element, ap length c.self.view_is) in
    let stop : c.stop_of_end-stop.result ≡ up_to_stop scope (reverse es) = c.stop_of_end-stop.ensures (reverse es) (c.nearest.ensures ∙ ap nearest (whole es c.len.result all)) in
    c.behind_place.ensures ∙ ap (λ n. behind_place n c.stop_of_end-stop.result) place ∙ ap (behind_place (up_to_name q (reverse es))) stop ∙ sym (behind_by_place q scope (reverse es))
