use Rattle.std.proofs.Common.{slice_get, sym, ap, ◌∙◌}
use Rattle.proof_core.specs.KeyedLists.{has_key}
use Rattle.proof_core.proofs.KeyedLemmas.{found_at}
use Rattle.proof_core.proofs.keyed_list.KeyedList.first.Goals as goal

pub returns-in-Some : goal.returns-in-Some
returns-in-Some g c =
    c.item_at.ensures ∙ ap (λ xs. slice_get xs c.in-Some.place) (c.deref.ensures.value ∙ c.self.view_is)
    ∙ found_at (has_key g.T.Key.PartialEq.eq g.T.Keyed.key_of c.args.key) c.args.self.now _ (sym c.in-Some.is ∙ c.place_of.ensures)

pub returns-in-None : goal.returns-in-None
returns-in-None g c = found_at (has_key g.T.Key.PartialEq.eq g.T.Keyed.key_of c.args.key) c.args.self.now _ (sym c.in-None.is ∙ c.place_of.ensures)
