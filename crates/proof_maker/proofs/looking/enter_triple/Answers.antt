use Rattle.std.proofs.Common.{◌≡◌, suc, length, if◌then◌else◌, inr, sym, ap, ◌∙◌}
use Rattle.std.proofs.lemmas.List.{length-map}
use Rattle.proof_needs.specs.Spots.{triple_of}
use Rattle.proof_maker.proofs.looking.enter_triple.Goals as goal

pub returns-in_ok-push : goal.returns-in_ok-push
returns-in_ok-push c =
    let old = c.args.triples.now.keys in
    let new = c.triple_number.new.triples.keys in
    let count : length new ≡ suc (length old) = c.in_ok-number.ensures.count ∙ ap (λ b. if b then suc (length old) else length old) c.if-new.true in
    record {
      at = c.in_ok-number.ensures.number;
      of_triples = c.in_ok-number.ensures.triples;
      tie_cases = inr (_, c.in_ok-push.ensures.items, c.new.ensures, c.new-then-new.ensures.items, length-map new triple_of ∙ count ∙ ap suc (sym (length-map old triple_of)));
    }
