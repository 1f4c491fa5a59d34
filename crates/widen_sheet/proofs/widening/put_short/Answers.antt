use Rattle.std.proofs.Common.{◌≡◌, true, false, nat_le, sym, ap, ◌∙◌}
use Rattle.sel_text.specs.declared.faults.TheConstants.{MOST_PARTS as most_parts}
use Rattle.widen_sheet.specs.Views.{wide_view}
use Rattle.widen_sheet.specs.Wide.{compounds_left, kinds}
use Rattle.widen_sheet.proofs.MarkSteps.{same_kinds}
use Rattle.widen_sheet.proofs.widening.put_short.Goals as goal

pub returns-then-is_short : goal.returns-then-is_short
returns-then-is_short c =
    let test : nat_le (compounds_left (kinds (wide_view c.args.text.now c.args.tokens.now))) most_parts ≡ true =
    ap (λ ks. nat_le (compounds_left ks) most_parts) (same_kinds c.args.text.now c.args.tokens.now) ∙ sym c.is_short.ensures ∙ c.if-is_short.true in
    rw test c.put_tokens.ensures

pub returns-else-is_short : goal.returns-else-is_short
returns-else-is_short c =
    let test : nat_le (compounds_left (kinds (wide_view c.args.text.now c.args.tokens.now))) most_parts ≡ false =
    ap (λ ks. nat_le (compounds_left ks) most_parts) (same_kinds c.args.text.now c.args.tokens.now) ∙ sym c.is_short.ensures ∙ c.if-is_short.false in
    rw test c.put.ensures
