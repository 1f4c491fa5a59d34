use Rattle.std.proofs.Common.{refl, inl}
use Rattle.html_table.proofs.NoteLemmas.{begun_note, put_one}
use Rattle.html_table.proofs.name_notes.NameNotes.put.Goals as goal

pub returns-in_err-begin : goal.returns-in_err-begin
returns-in_err-begin g c = λ q v noted. inl (begun_note _ _ c.begin.ensures.kept q v noted)

pub returns : goal.returns
returns g c = λ q v noted. put_one c.args.self.now _ c.begin.new.notes.items c.place_of-place.result (record { name = c.in_ok-name.name; value = c.args.value }) c.args.name.now c.begin.ensures.kept refl c.in_ok-name.ensures.items q v noted
