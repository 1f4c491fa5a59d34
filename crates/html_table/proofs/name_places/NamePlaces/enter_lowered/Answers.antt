use Rattle.std.proofs.Common.{length, refl, sym, ◌∙◌, arith}
use Rattle.html_table.proofs.NameLemmas.{place_inserted, own_inserted, longer_inserted}
use Rattle.html_table.proofs.KnownLemmas.{fits_kept, fits_entered}
use Rattle.html_table.proofs.name_places.NamePlaces.enter_lowered.Goals as goal

pub returns-in_err-begin-clause-same : goal.returns-in_err-begin-clause-same
returns-in_err-begin-clause-same c = λ q.
    let t = c.args.self.now in
    c.begin.ensures.same _ ∙ place_inserted (λ k. k.items) t.names.keys c.insert_full.new.self.keys c.args.name c.in_ok-number.ensures.keys t.places.items q c.requires.fits.few

pub returns-clause-same : goal.returns-clause-same
returns-clause-same c = λ q.
    let t = c.args.self.now in
    c.begin.ensures.same _ ∙ place_inserted (λ k. k.items) t.names.keys c.insert_full.new.self.keys c.args.name c.in_ok-number.ensures.keys t.places.items q c.requires.fits.few

pub returns-clause-number : goal.returns-clause-number
returns-clause-number c = record {
  is = own_inserted (λ k. k.items) c.args.self.now.names.keys c.insert_full.new.self.keys c.args.name c.in_ok-number.ensures.keys ∙ sym c.in_ok-number.ensures.index;
  within = c.in_ok-begin.ensures.begun;
}

pub returns-in_err-begin-clause-fits : goal.returns-in_err-begin-clause-fits
returns-in_err-begin-clause-fits c =
    let t = c.args.self.now in
    let longer = longer_inserted (λ k. k.items) t.names.keys c.insert_full.new.self.keys c.args.name c.in_ok-number.ensures.keys in
    fits_entered t _ c.args.name c.requires.fits c.in_ok-number.ensures.keys refl c.begin.ensures.longer
    (c.begin.ensures.few (length c.insert_full.new.self.keys) (omega (arith, c.requires.fits.few, longer)) c.in_ok-number.ensures.within)

pub returns-clause-fits : goal.returns-clause-fits
returns-clause-fits c =
    let t = c.args.self.now in
    let longer = longer_inserted (λ k. k.items) t.names.keys c.insert_full.new.self.keys c.args.name c.in_ok-number.ensures.keys in
    fits_entered t _ c.args.name c.requires.fits c.in_ok-number.ensures.keys refl c.begin.ensures.longer
    (c.begin.ensures.few (length c.insert_full.new.self.keys) (omega (arith, c.requires.fits.few, longer)) c.in_ok-number.ensures.within)

pub returns-in_err-number-clause-fits : goal.returns-in_err-number-clause-fits
returns-in_err-number-clause-fits c =
    fits_kept c.args.self.now _ c.requires.fits (λ n q is. record { is = rw (c.in_err-number.ensures.err) (is.is); within = is.within }) refl (rw (c.in_err-number.ensures.err) (c.requires.fits.few))
