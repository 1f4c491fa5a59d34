use Rattle.std.proofs.Common.{◌≡◌, ◌+◌, if◌then◌else◌, length, map, reverse, refl, ap, sym, ◌∙◌, arith}
use Rattle.std.specs.Str.{bytes_eq}
use Rattle.std.proofs.lemmas.List.{length-reverse, length-map}
use Rattle.html_tokens.specs.Bytes.{lowered}
use Rattle.html_table.specs.NamePlaces.{place_in, IsNumber}
use Rattle.html_table.specs.Outward.{outward, nearest, opened_element}
use Rattle.html_table.proofs.OutwardLemmas.{whole}
use Rattle.html_table.proofs.StackLemmas.{stack_renamed, stack_more}
use Rattle.html_table.proofs.stack.OpenElements.push.Goals as goal

pub invariant_of-self : goal.invariant_of-self
invariant_of-self c =
    stack_renamed c.self.inside.names c.enter.new.self c.self.inside.items.items c.self.invariant c.enter.ensures.same c.enter.ensures.kept c.enter.ensures.fits

pub invariant_of-self-in_err-push : goal.invariant_of-self-in_err-push
invariant_of-self-in_err-push c =
    rw c.in_err-push.ensures.items (stack_renamed c.self.inside.names c.enter.new.self c.self.inside.items.items c.self.invariant c.enter.ensures.same c.enter.ensures.kept c.enter.ensures.fits)

pub invariant_of-self-2 : goal.invariant_of-self-2
invariant_of-self-2 c =
    let os = c.self.inside.items.items in
    let es = map opened_element os in
    let names = c.enter.new.self in
    let outside = c.len-outside.result in
    let many : length es ≡ length os = length-map os opened_element in
    let all : length os ≡ outside = omega (arith, c.len-outside.ensures, c.self.inside.items.ok.0) in
    let before : c.nearest.result ≡ nearest (reverse es) =
    c.nearest.ensures ∙ ap (λ xs. nearest (outward outside xs)) (sym c.self.view_is) ∙ ap nearest (whole es outside (omega (arith, many, all))) in
    let number : IsNumber names c.in_ok-name.name (lowered c.args.element.name.now) = c.in_ok-name.ensures.number in
    rw c.in_ok-push.ensures.items
    (stack_more c.self.inside.names names c.put.new.self os _ c.self.invariant
    (c.with-nearest.ensures _ (reverse es) refl (length-reverse es ∙ many ∙ all) before)
    c.enter.ensures.same c.enter.ensures.kept number c.at-hides.ensures
    (λ n is q. c.put.ensures.put n is q ∙ ap (λ m. if bytes_eq n q then m + 1 else place_in names q) (sym all))
    c.put.ensures.kept c.put.ensures.fits)
