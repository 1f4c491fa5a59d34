use Rattle.std.proofs.Common.{◌≡◌, Some, sym, ap, ◌∙◌, subst}
use Rattle.tp_base.proofs.Lists.{map_at}
use Rattle.proof_needs.specs.declared.spots.TripleKey.{TripleKey}
use Rattle.proof_needs.specs.Keys.{key_eq}
use Rattle.proof_needs.specs.Sets.{IsWith}
use Rattle.proof_needs.specs.Spots.{triple_of, triples_in}
use Rattle.proof_needs.proofs.KeyLemmas.{triple_sound, triple_same}
use Rattle.proof_needs.proofs.SetLemmas.{insert_with}
use Rattle.proof_needs.proofs.spots.triple_number.Goals as goal

pub returns-clause-number : goal.returns-clause-number
returns-clause-number c =
    let is = c.in_ok-number.ensures.stored in
    let key : TripleKey = record { kind = c.args.kind; parent = c.args.parent; atom = c.args.atom } in
    map_at triple_of c.insert_full.new.self.keys c.in_ok-number.number is.0 is.1 ∙ ap Some (sym (triple_sound key is.0 is.2))

pub returns-clause-triples : goal.returns-clause-triples
returns-clause-triples c =
    let old = c.args.triples.now.keys in
    let key : TripleKey = record { kind = c.args.kind; parent = c.args.parent; atom = c.args.atom } in
    subst (λ ks. IsWith (triples_in old) (λ u. u ≡ triple_of key) (triples_in ks)) (sym c.in_ok-number.ensures.keys) (insert_with key_eq triple_of triple_sound triple_same old key)
