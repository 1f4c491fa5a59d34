-- A selector that is readable over a table of names has its atoms in the table.
use Rattle.std.proofs.Common.{ℕ, ◌<◌, List, [], ◌∷◌, length, inl, inr}
use Rattle.std.proofs.lemmas.List.Elements.{All-cons, All-nil}
use Rattle.std.proofs.lemmas.Option.{slice_get_within}
use Rattle.tp_base.specs.Names.{Named}
use Rattle.tp_base.specs.declared.atoms.AtomKind.TheVariants as kind
use Rattle.sel_text.specs.Readable.{IsMarked, IsPart, ArePartsOf, asked_name, IsCompound, AreCompounds, IsReadable}
use Rattle.sel_text.specs.Selectors.{Outer, Selector}
use Rattle.jq_stmts.specs.Tables.{AreAtoms, AreOutersOver, IsSelectorOver}

marked_within : (names : List Named) (a : ℕ) → IsMarked names a → a < length names
marked_within names a is = slice_get_within names a (is.sort, is.name) is.at

part_within : (names : List Named) (a : ℕ) → IsPart names a → a < length names
part_within names a is = elim is [ inl x ↦ marked_within names a x | inr x ↦ slice_get_within names a (kind.Attr, asked_name x.name x.value) x.at ]

all_parts_within : (names : List Named) (atoms : List ℕ) → ArePartsOf names atoms → AreAtoms (length names) atoms
all_parts_within names [] are = All-nil (λ a. a < length names)
all_parts_within names (a ∷ atoms) are = All-cons (λ a. a < length names) a atoms (part_within names a are.0) (all_parts_within names atoms are.1)

compound_within : (names : List Named) (atoms : List ℕ) → IsCompound names atoms → AreAtoms (length names) atoms
compound_within names [] are = All-nil (λ a. a < length names)
compound_within names (a ∷ atoms) are =
    let first : a < length names = elim are.0 [ inl is ↦ slice_get_within names a (kind.Element, is.name) is.at | inr is ↦ part_within names a is ] in
    All-cons (λ a. a < length names) a atoms first (all_parts_within names atoms are.1)

outers_within : (names : List Named) (outer : List Outer) → AreCompounds names outer → AreOutersOver (length names) outer
outers_within names [] are = tt
outers_within names (o ∷ outer) are = (compound_within names o.atoms are.0, outers_within names outer are.1)

pub readable_within : (names : List Named) (s : Selector) → IsReadable names s → IsSelectorOver (length names) s
readable_within names s is = (compound_within names s.subject is.subject, outers_within names s.outer is.outer)
