use Rattle.std.proofs.Common.{◌≡◌, ◌==◌, ℕ, List, ◌∷◌, false, length, reverse, sym, ap, ◌∙◌, subst}
use Rattle.text_bytes.specs.Rests.{IsRest}
use Rattle.text_bytes.proofs.Rests.{of_rest, behind_first}
use Rattle.widen_sheet.proofs.BracketSteps.{goes_on}
use Rattle.widen_sheet.proofs.brackets.behind_brackets.Goals as goal

behind_rest : (text rest : List ℕ) (b : ℕ) (behind : List ℕ) → IsRest text rest → rest ≡ b ∷ behind → IsRest text behind
behind_rest text rest b behind last is = of_rest text (b ∷ behind) behind (subst (λ r. IsRest text r) is last) (behind_first b behind)

pub returns-then-is_closed-clause-rest : goal.returns-then-is_closed-clause-rest
returns-then-is_closed-clause-rest c = behind_rest c.args.text.now c.units.rest.now c.in-Some.first.now c.in-Some.behind.now c.units.invariant.rest c.in-Some.ensures.cases.0

pub units-preserved : goal.units-preserved
units-preserved c =
    let behind = behind_rest c.args.text.now c.units.rest.now c.in-Some.first.now c.in-Some.behind.now c.units.invariant.rest c.in-Some.ensures.cases.0 in
    let some : (length (reverse c.track.new.closers.items) == 0) ≡ false = ap (λ cs. length (reverse cs) == 0) (sym c.deref.ensures.value) ∙ sym c.is_closed.ensures ∙ c.if-is_closed.false in
    record {
      rest = of_rest c.args.text.now c.in-Some.behind.now c.behind_quoted-rest.result.now behind c.behind_quoted-rest.ensures.rest;
      reads = goes_on (reverse c.units.closers.items) (reverse c.track.new.closers.items) c.units.rest.now c.in-Some.behind.now c.behind_quoted-rest.result.now c.in-Some.first.now c.in-Some.ensures.cases.0 c.in_ok-track.ensures some c.behind_quoted-rest.ensures.gives c.behind_quoted-rest.ensures.rest ∙ c.units.invariant.reads;
    }
