use Rattle.std.proofs.Common.{refl, arith}
use Rattle.std.proofs.lemmas.List.{length-set}
use Rattle.html_table.proofs.NameLemmas.{changed}
use Rattle.html_table.proofs.KnownLemmas.{fits_kept}
use Rattle.html_table.proofs.name_places.NamePlaces.put.Goals as goal

pub returns-clause-put : goal.returns-clause-put
returns-clause-put c = λ n number q.
    let t = c.args.self.now in
    changed (λ k. k.items) t.names.keys t.places.items n c.args.number c.args.place number.is c.requires.within c.requires.fits.few q

pub returns-clause-fits : goal.returns-clause-fits
returns-clause-fits c =
    let t = c.args.self.now in
    let same = length-set t.places.items c.args.number c.args.place in
    fits_kept t _ c.requires.fits (λ n q is. record { is = is.is; within = omega (arith, is.within, same) }) refl (omega (arith, c.requires.fits.few, same))
