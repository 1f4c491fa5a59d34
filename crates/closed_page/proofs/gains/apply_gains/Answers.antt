use Rattle.std.proofs.Common.{◌≡◌, ◌<◌, ℕ, List, ◌∷◌, All, length, arith, sym, ap, ◌∙◌, subst}
use Rattle.std.proofs.lemmas.List.Elements.{All-head, All-rest}
use Rattle.closed_page.specs.declared.gains.NodeGain.{NodeGain}
use Rattle.closed_page.specs.Gains.{Gain, gain_at, gains_at, with_gain, with_gains}
use Rattle.closed_page.proofs.GainLemmas.{news_next, news_at, grown_one, grown_then, on_err}
use Rattle.closed_page.proofs.gains.apply_gains.Goals as goal

pub apply-requires : goal.apply-requires
apply-requires c =
    let split : c.gains.rest.now ≡ c.in-Some.gain.now ∷ c.in-Some.others.now = c.in-Some.ensures.cases.0 in
    subst (λ (z : List (List ℕ)). c.in-Some.gain.now.number < length z) (sym c.gains.invariant.nodes)
    (All-head (λ (g : NodeGain). g.number < length c.args.labels.now.nodes) c.in-Some.gain.now c.in-Some.others.now
    (subst (λ (z : List NodeGain). All (λ (g : NodeGain). g.number < length c.args.labels.now.nodes) z) split c.gains.invariant.there))

pub gains-preserved : goal.gains-preserved
gains-preserved c =
    let nodes = c.args.labels.now.nodes in
    let gain = c.in-Some.gain.now in
    let others = gains_at nodes c.in-Some.others.now in
    let split : c.gains.rest.now ≡ gain ∷ c.in-Some.others.now = c.in-Some.ensures.cases.0 in
    let placed : gains_at nodes c.gains.rest.now ≡ gain_at nodes gain ∷ others = ap (gains_at nodes) split in
    let same = c.gains.invariant.nodes in
    let grown : c.apply.new.labels.labels ≡ with_gain c.gains.labels.labels (gain_at nodes gain) = c.in_ok-apply.ensures.labels ∙ ap (λ (z : List (List ℕ)). with_gain c.gains.labels.labels (gain_at z gain)) same in
    record {
      labels = ap (λ z. with_gains z others) grown ∙ ap (λ (z : List Gain). with_gains c.gains.labels.labels z) (sym placed) ∙ c.gains.invariant.labels;
      there = All-rest (λ (g : NodeGain). g.number < length nodes) gain c.in-Some.others.now c.gains.rest.now split c.gains.invariant.there;
      notes = let one = c.in_ok-apply.ensures.notes in let long = ap (λ (z : List NodeGain). length z) split in let so_far = c.gains.invariant.notes in omega (arith, one, long, so_far);
      few = λ before. c.in_ok-apply.ensures.few;
      nodes = c.in_ok-apply.ensures.nodes ∙ same;
      firsts = news_next c.gains.labels.labels c.apply.new.labels.labels (gain_at nodes gain) others (gains_at nodes c.gains.rest.now) c.args.round c.gains.labels.firsts c.apply.new.labels.firsts placed grown
          (news_at c.gains.labels.nodes nodes c.gains.labels.labels gain c.args.round c.gains.labels.firsts c.apply.new.labels.firsts same c.in_ok-apply.ensures.firsts) ∙ c.gains.invariant.firsts;
      grown = grown_then c.args.labels.now.labels c.gains.labels.labels c.apply.new.labels.labels c.gains.invariant.grown (grown_one c.gains.labels.labels c.apply.new.labels.labels (gain_at nodes gain) grown);
    }

pub returns-in_err-apply-clause-grown : goal.returns-in_err-apply-clause-grown
returns-in_err-apply-clause-grown c =
    on_err _ c.from_residual.result (grown_then c.args.labels.now.labels c.gains.labels.labels c.apply.new.labels.labels c.gains.invariant.grown c.in_err-apply.ensures.grown)
