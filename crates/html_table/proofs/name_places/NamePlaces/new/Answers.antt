use Rattle.std.proofs.Common.{length, ap, arith}
use Rattle.html_table.proofs.name_places.NamePlaces.new.Goals as goal

pub returns-clause-fits : goal.returns-clause-fits
returns-clause-fits c = record {
  few = omega (arith, ap length c.new-2.ensures.items);
  known = λ q k noted. absurd (c.new-3.ensures q k noted);
}
