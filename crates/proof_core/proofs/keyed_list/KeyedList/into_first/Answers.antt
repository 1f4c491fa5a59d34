use Rattle.std.proofs.Common.{◌<◌, length, slice_get, sym, ap, subst, ◌∙◌}
use Rattle.std.proofs.lemmas.Option.{slice_get_within}
use Rattle.proof_core.specs.KeyedLists.{has_key}
use Rattle.proof_core.proofs.KeyedLemmas.{found_at, first_there}
use Rattle.proof_core.proofs.keyed_list.KeyedList.into_first.Goals as goal

pub taken-requires : goal.taken-requires
taken-requires g c =
    let place = c.in-Some.place in
    let r = first_there (has_key g.T.Key.PartialEq.eq g.T.Keyed.key_of c.args.key) c.args.self place (sym c.in-Some.is ∙ c.place_of-first.ensures) in
    subst (λ xs. place < length xs) (sym c.self.view_is) (slice_get_within c.args.self place r.0 r.1)

pub returns-in-Some : goal.returns-in-Some
returns-in-Some g c =
    sym c.taken.ensures ∙ ap (λ xs. slice_get xs c.in-Some.place) c.self.view_is
    ∙ found_at (has_key g.T.Key.PartialEq.eq g.T.Keyed.key_of c.args.key) c.args.self _ (sym c.in-Some.is ∙ c.place_of-first.ensures)

pub returns-in-None : goal.returns-in-None
returns-in-None g c = found_at (has_key g.T.Key.PartialEq.eq g.T.Keyed.key_of c.args.key) c.args.self _ (sym c.in-None.is ∙ c.place_of-first.ensures)
