use Rattle.std.proofs.Common.{ap, subst}
use Rattle.html_tokens.specs.Bytes.{lowered}
use Rattle.html_table.specs.NamePlaces.{IsNumber}
use Rattle.html_table.specs.Elements.{Element}
use Rattle.html_table.proofs.KnownLemmas.{fits_noted}
use Rattle.html_table.proofs.name_places.NamePlaces.enter_new.Goals as goal

pub returns-in_err-put-clause-fits : goal.returns-in_err-put-clause-fits
returns-in_err-put-clause-fits c =
    let number : IsNumber c.enter_lowered.new.self c.in_ok-number.number (lowered c.args.name.now) = subst (IsNumber c.enter_lowered.new.self c.in_ok-number.number) c.in_ok-lower.ensures c.in_ok-number.ensures.number in
    fits_noted c.enter_lowered.new.self c.put.new.self c.args.name.now _ c.enter_lowered.ensures.fits c.put.ensures (ap (λ (e : Element). e.kind) c.new-kind.ensures) c.is_raw-is_raw.ensures number

pub returns-clause-fits : goal.returns-clause-fits
returns-clause-fits c =
    let number : IsNumber c.enter_lowered.new.self c.in_ok-number.number (lowered c.args.name.now) = subst (IsNumber c.enter_lowered.new.self c.in_ok-number.number) c.in_ok-lower.ensures c.in_ok-number.ensures.number in
    fits_noted c.enter_lowered.new.self c.put.new.self c.args.name.now _ c.enter_lowered.ensures.fits c.put.ensures (ap (λ (e : Element). e.kind) c.new-kind.ensures) c.is_raw-is_raw.ensures number
