use Rattle.std.proofs.Common.{◌≡◌, true, nat_eq, ℕ, List, ◌∷◌, drop, codes, sym, ap, ◌∙◌, subst}
use Rattle.std.specs.List.{starts_with}
use Rattle.sel_text.specs.Bytes as spec
use Rattle.text_bytes.specs.Rests.{IsRest}
use Rattle.text_bytes.proofs.Rests.{of_rest, behind_first, dropped}
use Rattle.sel_text.proofs.Gaps.{behind_comment}
use Rattle.sel_text.proofs.bytes.behind_gap.Goals as goal

pub turns-preserved : goal.turns-preserved
turns-preserved c =
    let first : ℕ = c.in-Some.first.now in
    let behind : List ℕ = c.in-Some.behind.now in
    let is : c.turns.rest.now ≡ first ∷ behind = c.in-Some.ensures.cases.0 in
    let inner : IsRest (drop 1 behind) c.behind_close-rest.result.now = subst (λ bs. IsRest bs c.behind_close-rest.result.now) c.split_at.ensures.back c.behind_close-rest.ensures.rest in
    let here : IsRest c.turns.rest.now behind = subst (λ bs. IsRest bs behind) (sym is) (behind_first first behind) in
    let rest = of_rest c.turns.rest.now behind c.behind_close-rest.result.now here (of_rest behind (drop 1 behind) c.behind_close-rest.result.now (dropped 1 behind) inner) in
    let closes : c.behind_close-rest.result.now ≡ spec.behind_close (drop 1 behind) = c.behind_close-rest.ensures.gives ∙ ap spec.behind_close c.split_at.ensures.back in
    let opens : starts_with nat_eq (first ∷ behind) (codes "/*") ≡ true = subst (λ bs. starts_with nat_eq bs (codes "/*") ≡ true) is (sym c.starts_with.ensures.value ∙ c.if-starts_with.true) in
    record {
      rest = of_rest c.args.text.now c.turns.rest.now c.behind_close-rest.result.now c.turns.invariant.rest rest;
      reads = ap (spec.behind_gap c.args.blanks 0) closes ∙ sym (behind_comment c.args.blanks first behind (sym c.is_passed.ensures ∙ c.if-is_passed.false) opens (subst (λ r. IsRest (drop 1 behind) r) closes inner))
          ∙ ap (spec.behind_gap c.args.blanks 0) (sym is) ∙ c.turns.invariant.reads;
    }
