use Rattle.std.proofs.Common.{length, slice_get, Some, refl, sym, ap, ◌∙◌}
use Rattle.std.proofs.lemmas.Bool.{ltb-true}
use Rattle.std.proofs.lemmas.Option.{slice_get_read}
use Rattle.tp_base.proofs.Lists.{same_bytes}
use Rattle.html_table.proofs.name_notes.NameNotes.get.Goals as goal

pub returns-in-Some-Some : goal.returns-in-Some-Some
returns-in-Some-Some g c = record {
  place = c.place_of.result;
  note = c.in-Some-Some.note;
  there = ap (λ xs. slice_get xs c.place_of.result) (sym c.deref.ensures.value)
      ∙ slice_get_read c.deref.result.now _ c.place_of.result c.in-Some-Some.field-0.now refl (ltb-true c.place_of.result (length c.deref.result.now) (sym c.in-Some-Some.ensures.lookup.0)) c.in-Some-Some.ensures.lookup.1
      ∙ ap Some c.in-Some-Some.field-0-is;
  name = sym c.as_slice.ensures.value ∙ same_bytes c.as_slice.result.now c.args.name.now (sym c.eq.ensures ∙ c.if-eq.true);
  value = refl;
}
