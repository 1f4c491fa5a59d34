-- Keys of triples: when two are equal, and the number that tells a key from others.
--     key_eq k l     they have the same kind, parent and atom
--     mixed k        the three as one number
use Rattle.std.specs.Prelude.{◌≡◌, ℕ, ◌==◌, ◌&&◌, Bool, IsTrue}
use Rattle.std.proofs.lemmas.Bool.{and_parts, eqb-true}
use Rattle.std.proofs.lemmas.Slice.Eq.{bytes_eq-Decides}
use Rattle.std.specs.Hash as fed
use Rattle.std.specs.Str.{bytes_eq}
use Rattle.pair_table.specs.Hashes.{hash_with, hash_of}
use Rattle.proof_needs.specs.declared.spots.TripleKey.{TripleKey}

abbrev pub key_eq : TripleKey → TripleKey → Bool
key_eq k l = (k.kind == l.kind) && (bytes_eq k.parent l.parent && (k.atom == l.atom))

abbrev pub mixed : TripleKey → ℕ
mixed k = hash_with (hash_of k.kind k.parent) k.atom

-- keys that are equal are mixed alike
pub mixed_alike : (k l : TripleKey) → IsTrue (key_eq k l) → fed.u64 (mixed k) ≡ fed.u64 (mixed l)
mixed_alike k l is =
    let outer = and_parts (k.kind == l.kind) (bytes_eq k.parent l.parent && (k.atom == l.atom)) is in
    let inner = and_parts (bytes_eq k.parent l.parent) (k.atom == l.atom) outer.1 in
    let kinds = eqb-true k.kind l.kind outer.0 in
    let parents = (bytes_eq-Decides k.parent l.parent).0 inner.0 in
    let atoms = eqb-true k.atom l.atom inner.1 in
    λ i. fed.u64 (hash_with (hash_of (kinds i) (parents i)) (atoms i))
