-- What is written reads as itself.
use Rattle.std.proofs.Common.{◌≡◌, inl, inr, ℕ, ◌+◌, ◌<◌, ◌≤◌, Bool, true, false, ◌==◌, ◌||◌, List, [], ◌∷◌, ◌++◌, length, Option, None, Some, Ok, slice_get, refl, sym, ap, subst, ◌∙◌, append_assoc, append-nil, arith, length-append}
use Rattle.std.proofs.lemmas.Bool.{lt-ltb}
use Rattle.std.specs.List.{flat_map}
use Rattle.tp_base.specs.Names.{Named, IsDistinct}
use Rattle.tp_base.specs.declared.atoms.AtomKind.{AtomKind}
use Rattle.tp_base.specs.declared.atoms.AtomKind.TheVariants as kind
use Rattle.tp_base.proofs.NamesLemmas.{with_name-there}
use Rattle.sel_text.specs.declared.faults.TheConstants.{MOST_PARTS}
use Rattle.sel_text.specs.declared.selectors.Compound.{Compound}
use Rattle.sel_text.specs.declared.selectors.Join.{Join}
use Rattle.sel_text.specs.declared.selectors.Join.TheVariants as code
use Rattle.sel_text.specs.Selectors as spec
use Rattle.sel_text.specs.Parts.{join_of, and_then, selector_from}
use Rattle.text_bytes.specs.Rests.{IsRest}
use Rattle.sel_text.specs.Bytes.{starts_name, begins_name, behind_gap}
use Rattle.sel_text.specs.Grammar.{Begun, whole, wanting, any_part, attribute_part, first_part, name_at, behind_child, behind_space, behind_near, join_at}
use Rattle.sel_text.specs.Machine.{Draft, empty_draft, with_word, with_join, with_part, first_step, step, finished, run}
use Rattle.sel_text.specs.Reading.{spelled, read_piece}
use Rattle.sel_text.specs.SelectorText.{attribute_text, atom_text, compound_text, join_text, outer_text, selector_text}
use Rattle.sel_text.specs.Readable.{IsName, IsType, IsMarked, IsAttribute, IsPart, ArePartsOf, IsCompound, AreCompounds, IsReadable, asked_name}
use Rattle.sel_text.proofs.AttributeText.{inside, part_text, part_longer, reads_part, asked_lowered}
use Rattle.sel_text.proofs.NameLemmas.{IsStart, IsEnd, is_start, not_byte, no_gap, name_begins, or_start, first_of_name, reads_name, behind_front, begins_more}
use Rattle.sel_text.proofs.PartLemmas.{selector_from-push}
use Rattle.sel_text.proofs.Runs.{begins, goes_on}
use Rattle.sel_text.proofs.Steps.{at_join, at_part}

begins_not : (b : ℕ) (bs : List ℕ) → starts_name b ≡ false → (b == 45) ≡ false → begins_name (b ∷ bs) ≡ false
unfolding begins_name
begins_not b [] no_start no_dash = no_start
begins_not b (c ∷ bs) no_start no_dash = rw (no_start, no_dash) refl

pub code_join : spec.Join → Join
code_join spec.child = code.Child
code_join spec.inside = code.Inside

pub join_of-code_join : (j : spec.Join) → join_of (code_join j) ≡ j
unfolding code_join
join_of-code_join spec.child = refl
join_of-code_join spec.inside = refl

abbrev alone : List ℕ → Compound
alone atoms = record { atoms = atoms }

abbrev parts_of : List spec.Outer → List Compound
parts_of [] = []
parts_of (o ∷ outer) = parts_of outer ++ alone o.atoms ∷ []

abbrev joins_of : List spec.Outer → List Join
joins_of [] = []
joins_of (o ∷ outer) = joins_of outer ++ code_join o.join ∷ []

length-parts_of : (outer : List spec.Outer) → length (parts_of outer) ≡ length outer
length-parts_of [] = refl
length-parts_of (o ∷ outer) = length-append (parts_of outer) (alone o.atoms ∷ []) ∙ omega (arith, length-parts_of outer)

length-joins_of : (outer : List spec.Outer) → length (joins_of outer) ≡ length outer
length-joins_of [] = refl
length-joins_of (o ∷ outer) = length-append (joins_of outer) (code_join o.join ∷ []) ∙ omega (arith, length-joins_of outer)

-- the parts and joins stand for the outer compounds that they are of
selector_from-parts_of : (outer : List spec.Outer) (atoms : List ℕ) → selector_from (parts_of outer ++ alone atoms ∷ []) (joins_of outer) ≡ record { subject = atoms; outer = outer }
selector_from-parts_of [] atoms = refl
selector_from-parts_of (o ∷ outer) atoms =
    let count : length (parts_of (o ∷ outer)) ≡ length (joins_of outer) + 1 = omega (arith, length-parts_of (o ∷ outer), length-joins_of outer) in
    let whole = selector_from-push (parts_of (o ∷ outer)) (joins_of outer) (alone atoms) (code_join o.join) count in
    whole ∙ ap (λ s. and_then s (code_join o.join) (alone atoms)) (selector_from-parts_of outer o.atoms)
    ∙ ap (λ (j : spec.Join). let s : spec.Selector = record { subject = atoms; outer = record { join = j; atoms = o.atoms } ∷ outer } in s) (join_of-code_join o.join)

module _ (drops : Bool) (to : ℕ) (names : List Named) (distinct : IsDistinct names) where
  abbrev pub at : List Compound → List Join → List ℕ → Bool → Draft
  at parts joins atoms started = record { names = names; parts = parts; joins = joins; atoms = atoms; started = started }

  -- ---- one part

  part_read : (parts : List Compound) (joins : List Join) (atoms : List ℕ) (started : Bool) (k : AtomKind) (name : List ℕ) (a : ℕ) (bs begun rest : List ℕ)
      → slice_get names a ≡ Some (k, name) → spelled k name ≡ name → name_at to k begun ≡ Ok (Some (k, name), rest)
      → with_part to (at parts joins atoms started) (Some (wanting k begun)) bs ≡ Ok (at parts joins (atoms ++ a ∷ []) true, rest)
  unfolding with_part with_word
  part_read parts joins atoms started k name a bs begun rest there same read = rw (read, same, with_name-there names (k, name) a distinct there) refl

  whole_read : (parts : List Compound) (joins : List Join) (atoms : List ℕ) (started : Bool) (name : List ℕ) (a : ℕ) (bs rest : List ℕ)
      → slice_get names a ≡ Some (kind.Attr, name) → spelled kind.Attr name ≡ name
      → with_part to (at parts joins atoms started) (Some (whole (Some (kind.Attr, name)) rest)) bs ≡ Ok (at parts joins (atoms ++ a ∷ []) true, rest)
  unfolding with_part with_word
  whole_read parts joins atoms started name a bs rest there same = rw (same, with_name-there names (kind.Attr, name) a distinct there) refl

  no_join : (bs : List ℕ) → IsStart bs → join_at to bs ≡ Ok (None, bs)
  unfolding join_at behind_near
  no_join [] s = absurd s
  no_join (b ∷ bs) s = rw (no_gap false (b ∷ bs) s, s.0, s.2) refl

  started_step : (parts : List Compound) (joins : List Join) (atoms bs : List ℕ) (b : Begun) → IsStart bs → 0 < length bs → any_part drops bs ≡ Some b
      → step drops to (at parts joins atoms true) bs ≡ with_part to (at parts joins atoms true) (Some b) bs
  unfolding step
  started_step parts joins atoms bs b s some is = at_part drops to (at parts joins atoms true) bs bs (no_join bs s) some ∙ rw is refl

  new_step : (parts : List Compound) (joins : List Join) (bs : List ℕ) (b : Begun) → length parts < MOST_PARTS → first_part drops bs ≡ Some b
      → step drops to (at parts joins [] false) bs ≡ with_part to (at parts joins [] false) (Some b) bs
  unfolding step first_step
  new_step parts joins bs b few is = rw (is, lt-ltb (length parts) MOST_PARTS few) refl

  -- ---- classes and ids

  later_class : (parts : List Compound) (joins : List Join) (atoms name : List ℕ) (a : ℕ) (rest : List ℕ) → slice_get names a ≡ Some (kind.Class, name) → IsName name → IsEnd rest
      → run drops to (at parts joins atoms true) 0 (46 ∷ name ++ rest) ≡ run drops to (at parts joins (atoms ++ a ∷ []) true) 0 rest
  unfolding any_part
  later_class parts joins atoms name a rest there n end =
      let one = started_step parts joins atoms (46 ∷ name ++ rest) (wanting kind.Class (name ++ rest)) (refl, refl, refl) (omega arith) refl
      ∙ part_read parts joins atoms true kind.Class name a (46 ∷ name ++ rest) (name ++ rest) rest there refl (reads_name to kind.Class name rest n end) in
      goes_on drops to (at parts joins atoms true) (at parts joins (atoms ++ a ∷ []) true) (46 ∷ name ++ rest) rest one (behind_front (46 ∷ name) rest) (omega (arith, length-append name rest))

  later_id : (parts : List Compound) (joins : List Join) (atoms name : List ℕ) (a : ℕ) (rest : List ℕ) → slice_get names a ≡ Some (kind.Ident, name) → IsName name → IsEnd rest
      → run drops to (at parts joins atoms true) 0 (35 ∷ name ++ rest) ≡ run drops to (at parts joins (atoms ++ a ∷ []) true) 0 rest
  unfolding any_part
  later_id parts joins atoms name a rest there n end =
      let one = started_step parts joins atoms (35 ∷ name ++ rest) (wanting kind.Ident (name ++ rest)) (refl, refl, refl) (omega arith) refl
      ∙ part_read parts joins atoms true kind.Ident name a (35 ∷ name ++ rest) (name ++ rest) rest there refl (reads_name to kind.Ident name rest n end) in
      goes_on drops to (at parts joins atoms true) (at parts joins (atoms ++ a ∷ []) true) (35 ∷ name ++ rest) rest one (behind_front (35 ∷ name) rest) (omega (arith, length-append name rest))

  later_marked : (parts : List Compound) (joins : List Join) (atoms : List ℕ) (a : ℕ) (m : IsMarked names a) (rest : List ℕ) → IsEnd rest
      → run drops to (at parts joins atoms true) 0 (atom_text (slice_get names a) ++ rest) ≡ run drops to (at parts joins (atoms ++ a ∷ []) true) 0 rest
  later_marked parts joins atoms a m rest end = elim m.marked [
    | inl class ↦ rw (m.at, class) (later_class parts joins atoms m.name a rest (m.at ∙ ap (λ k. Some (k, m.name)) class) m.is_name end)
    | inr id ↦ rw (m.at, id) (later_id parts joins atoms m.name a rest (m.at ∙ ap (λ k. Some (k, m.name)) id) m.is_name end)
  ]

  -- ---- the first part of a compound

  first_class : (parts : List Compound) (joins : List Join) (name : List ℕ) (a : ℕ) (rest : List ℕ) → length parts < MOST_PARTS → slice_get names a ≡ Some (kind.Class, name) → IsName name → IsEnd rest
      → run drops to (at parts joins [] false) 0 (46 ∷ name ++ rest) ≡ run drops to (at parts joins (a ∷ []) true) 0 rest
  unfolding any_part first_part
  first_class parts joins name a rest few there n end =
      let part : first_part drops (46 ∷ name ++ rest) ≡ Some (wanting kind.Class (name ++ rest)) = rw (begins_not 46 (name ++ rest) refl refl) refl in
      let one = new_step parts joins (46 ∷ name ++ rest) (wanting kind.Class (name ++ rest)) few part
      ∙ part_read parts joins [] false kind.Class name a (46 ∷ name ++ rest) (name ++ rest) rest there refl (reads_name to kind.Class name rest n end) in
      goes_on drops to (at parts joins [] false) (at parts joins (a ∷ []) true) (46 ∷ name ++ rest) rest one (behind_front (46 ∷ name) rest) (omega (arith, length-append name rest))

  first_id : (parts : List Compound) (joins : List Join) (name : List ℕ) (a : ℕ) (rest : List ℕ) → length parts < MOST_PARTS → slice_get names a ≡ Some (kind.Ident, name) → IsName name → IsEnd rest
      → run drops to (at parts joins [] false) 0 (35 ∷ name ++ rest) ≡ run drops to (at parts joins (a ∷ []) true) 0 rest
  unfolding any_part first_part
  first_id parts joins name a rest few there n end =
      let part : first_part drops (35 ∷ name ++ rest) ≡ Some (wanting kind.Ident (name ++ rest)) = rw (begins_not 35 (name ++ rest) refl refl) refl in
      let one = new_step parts joins (35 ∷ name ++ rest) (wanting kind.Ident (name ++ rest)) few part
      ∙ part_read parts joins [] false kind.Ident name a (35 ∷ name ++ rest) (name ++ rest) rest there refl (reads_name to kind.Ident name rest n end) in
      goes_on drops to (at parts joins [] false) (at parts joins (a ∷ []) true) (35 ∷ name ++ rest) rest one (behind_front (35 ∷ name) rest) (omega (arith, length-append name rest))

  type_part : (name rest : List ℕ) → begins_name name ≡ true → first_part drops (name ++ rest) ≡ Some (wanting kind.Element (name ++ rest))
  unfolding first_part begins_name
  type_part [] rest h = let no : false ≡ true = h in absurd cc
  type_part (b ∷ []) rest h = rw (not_byte is_start 42 b refl (rw h refl), begins_more (b ∷ []) rest h) refl
  type_part (b ∷ c ∷ name) rest h = rw (not_byte is_start 42 b refl (or_start (starts_name b) (b == 45) (starts_name c || c == 45) h), begins_more (b ∷ c ∷ name) rest h) refl

  first_type : (parts : List Compound) (joins : List Join) (a : ℕ) (y : IsType names a) (rest : List ℕ) → length parts < MOST_PARTS → IsEnd rest
      → run drops to (at parts joins [] false) 0 (y.name ++ rest) ≡ run drops to (at parts joins (a ∷ []) true) 0 rest
  first_type parts joins a y rest few end =
      let one = new_step parts joins (y.name ++ rest) (wanting kind.Element (y.name ++ rest)) few (type_part y.name rest (name_begins y.name y.is_name).0)
      ∙ part_read parts joins [] false kind.Element y.name a (y.name ++ rest) (y.name ++ rest) rest y.at y.lowered (reads_name to kind.Element y.name rest y.is_name end) in
      goes_on drops to (at parts joins [] false) (at parts joins (a ∷ []) true) (y.name ++ rest) rest one (behind_front y.name rest) (omega (arith, length-append y.name rest, y.is_name.some))

  first_any : (parts : List Compound) (joins : List Join) (rest : List ℕ) → length parts < MOST_PARTS
      → run drops to (at parts joins [] false) 0 (42 ∷ rest) ≡ run drops to (at parts joins [] true) 0 rest
  unfolding first_part with_part with_word
  first_any parts joins rest few =
      let one = new_step parts joins (42 ∷ rest) (whole None rest) few refl in
      goes_on drops to (at parts joins [] false) (at parts joins [] true) (42 ∷ rest) rest one (behind_front (42 ∷ []) rest) (omega arith)

  first_marked : (parts : List Compound) (joins : List Join) (a : ℕ) (m : IsMarked names a) (rest : List ℕ) → length parts < MOST_PARTS → IsEnd rest
      → run drops to (at parts joins [] false) 0 (atom_text (slice_get names a) ++ rest) ≡ run drops to (at parts joins (a ∷ []) true) 0 rest
  first_marked parts joins a m rest few end = elim m.marked [
    | inl class ↦ rw (m.at, class) (first_class parts joins m.name a rest few (m.at ∙ ap (λ k. Some (k, m.name)) class) m.is_name end)
    | inr id ↦ rw (m.at, id) (first_id parts joins m.name a rest few (m.at ∙ ap (λ k. Some (k, m.name)) id) m.is_name end)
  ]

  -- ---- attributes

  attribute_front : (m : List ℕ) (name : List ℕ) (value : Option (List ℕ)) (rest : List ℕ) → m ++ rest ≡ 91 ∷ inside name value rest → IsRest (91 ∷ inside name value rest) rest
  attribute_front m name value rest same = subst (λ bs. IsRest bs rest) same (behind_front m rest)

  later_attribute : (parts : List Compound) (joins : List Join) (atoms : List ℕ) (a : ℕ) (m : IsAttribute names a) (rest : List ℕ)
      → run drops to (at parts joins atoms true) 0 (atom_text (slice_get names a) ++ rest) ≡ run drops to (at parts joins (atoms ++ a ∷ []) true) 0 rest
  unfolding any_part
  later_attribute parts joins atoms a m rest =
      let text = asked_name m.name m.value in
      let bs = 91 ∷ inside m.name m.value rest in
      let same = part_text m.name m.value rest m.asked.is_name in
      let part : any_part drops bs ≡ Some (whole (Some (kind.Attr, text)) rest) = rw (reads_part m.name m.value rest m.asked m.quoted) refl in
      let one = started_step parts joins atoms bs (whole (Some (kind.Attr, text)) rest) (refl, refl, refl) (omega arith) part
      ∙ whole_read parts joins atoms true text a bs rest m.at (asked_lowered m.name m.value m.asked m.quoted) in
      rw (m.at, same) (goes_on drops to (at parts joins atoms true) (at parts joins (atoms ++ a ∷ []) true) bs rest one
      (attribute_front (attribute_text text) m.name m.value rest same) (part_longer m.name m.value rest))

  first_attribute : (parts : List Compound) (joins : List Join) (a : ℕ) (m : IsAttribute names a) (rest : List ℕ) → length parts < MOST_PARTS
      → run drops to (at parts joins [] false) 0 (atom_text (slice_get names a) ++ rest) ≡ run drops to (at parts joins (a ∷ []) true) 0 rest
  unfolding any_part first_part
  first_attribute parts joins a m rest few =
      let text = asked_name m.name m.value in
      let bs = 91 ∷ inside m.name m.value rest in
      let same = part_text m.name m.value rest m.asked.is_name in
      let part : first_part drops bs ≡ Some (whole (Some (kind.Attr, text)) rest) =
      rw (begins_not 91 (inside m.name m.value rest) refl refl, reads_part m.name m.value rest m.asked m.quoted) refl in
      let one = new_step parts joins bs (whole (Some (kind.Attr, text)) rest) few part
      ∙ whole_read parts joins [] false text a bs rest m.at (asked_lowered m.name m.value m.asked m.quoted) in
      rw (m.at, same) (goes_on drops to (at parts joins [] false) (at parts joins (a ∷ []) true) bs rest one
      (attribute_front (attribute_text text) m.name m.value rest same) (part_longer m.name m.value rest))

  later_any : (parts : List Compound) (joins : List Join) (atoms : List ℕ) (a : ℕ) → IsPart names a → (rest : List ℕ) → IsEnd rest
      → run drops to (at parts joins atoms true) 0 (atom_text (slice_get names a) ++ rest) ≡ run drops to (at parts joins (atoms ++ a ∷ []) true) 0 rest
  later_any parts joins atoms a m rest end = elim m [ inl x ↦ later_marked parts joins atoms a x rest end | inr x ↦ later_attribute parts joins atoms a x rest ]

  first_part_of : (parts : List Compound) (joins : List Join) (a : ℕ) → IsPart names a → (rest : List ℕ) → length parts < MOST_PARTS → IsEnd rest
      → run drops to (at parts joins [] false) 0 (atom_text (slice_get names a) ++ rest) ≡ run drops to (at parts joins (a ∷ []) true) 0 rest
  first_part_of parts joins a m rest few end = elim m [ inl x ↦ first_marked parts joins a x rest few end | inr x ↦ first_attribute parts joins a x rest few ]

  -- ---- compounds

  abbrev atoms_text : List ℕ → List ℕ
  atoms_text atoms = flat_map (λ a. atom_text (slice_get names a)) atoms

  marked_end : (a : ℕ) → IsMarked names a → (rest : List ℕ) → IsEnd (atom_text (slice_get names a) ++ rest)
  marked_end a m rest = elim m.marked [ inl class ↦ rw (m.at, class) refl | inr id ↦ rw (m.at, id) refl ]

  marked_start : (a : ℕ) → IsMarked names a → (rest : List ℕ) → IsStart (atom_text (slice_get names a) ++ rest)
  marked_start a m rest = elim m.marked [ inl class ↦ rw (m.at, class) (refl, refl, refl) | inr id ↦ rw (m.at, id) (refl, refl, refl) ]

  part_end : (a : ℕ) → IsPart names a → (rest : List ℕ) → IsEnd (atom_text (slice_get names a) ++ rest)
  part_end a m rest = elim m [
    | inl x ↦ marked_end a x rest
    | inr x ↦ rw (x.at, part_text x.name x.value rest x.asked.is_name) refl
  ]

  part_start : (a : ℕ) → IsPart names a → (rest : List ℕ) → IsStart (atom_text (slice_get names a) ++ rest)
  part_start a m rest = elim m [
    | inl x ↦ marked_start a x rest
    | inr x ↦ rw (x.at, part_text x.name x.value rest x.asked.is_name) (refl, refl, refl)
  ]

  atoms_end : (atoms : List ℕ) → ArePartsOf names atoms → (rest : List ℕ) → IsEnd rest → IsEnd (atoms_text atoms ++ rest)
  atoms_end [] m rest end = end
  atoms_end (a ∷ atoms) m rest end = rw append_assoc (part_end a m.0 (atoms_text atoms ++ rest))

  reads_atoms : (parts : List Compound) (joins : List Join) (before atoms : List ℕ) → ArePartsOf names atoms → (rest : List ℕ) → IsEnd rest
      → run drops to (at parts joins before true) 0 (atoms_text atoms ++ rest) ≡ run drops to (at parts joins (before ++ atoms) true) 0 rest
  reads_atoms parts joins before [] m rest end = rw (append-nil before) refl
  reads_atoms parts joins before (a ∷ atoms) m rest end =
      rw append_assoc (later_any parts joins before a m.0 (atoms_text atoms ++ rest) (atoms_end atoms m.1 rest end))
      ∙ reads_atoms parts joins (before ++ a ∷ []) atoms m.1 rest end
      ∙ ap (λ all. run drops to (at parts joins all true) 0 rest) (append_assoc before (a ∷ []) atoms)

  reads_compound : (parts : List Compound) (joins : List Join) (atoms : List ℕ) → IsCompound names atoms → (rest : List ℕ) → length parts < MOST_PARTS → IsEnd rest
      → run drops to (at parts joins [] false) 0 (compound_text names atoms ++ rest) ≡ run drops to (at parts joins atoms true) 0 rest
  reads_compound parts joins [] m rest few end = first_any parts joins rest few
  reads_compound parts joins (a ∷ atoms) m rest few end =
      let others = reads_atoms parts joins (a ∷ []) atoms m.1 rest end in
      let behind = atoms_end atoms m.1 rest end in
      elim m.0 [
        | inl y ↦ rw (append_assoc, y.at) (first_type parts joins a y (atoms_text atoms ++ rest) few behind) ∙ others
        | inr x ↦ rw append_assoc (first_part_of parts joins a x (atoms_text atoms ++ rest) few behind) ∙ others
      ]

  compound_start : (atoms : List ℕ) → IsCompound names atoms → (rest : List ℕ) → IsStart (compound_text names atoms ++ rest)
  compound_start [] m rest = (refl, refl, refl)
  compound_start (a ∷ atoms) m rest = elim m.0 [
    | inl y ↦ rw (append_assoc, y.at) (first_of_name y.name (atoms_text atoms ++ rest) (name_begins y.name y.is_name).0)
    | inr x ↦ rw append_assoc (part_start a x (atoms_text atoms ++ rest))
  ]

  -- ---- joins

  join_read : (j : spec.Join) (rest : List ℕ) → IsStart rest → join_at to (join_text j ++ rest) ≡ Ok (Some (code_join j), rest)
  unfolding join_at behind_near behind_space behind_child behind_gap code_join
  join_read j [] s = absurd s
  join_read spec.inside (b ∷ bs) s = rw (no_gap true (b ∷ bs) s, s.2) refl
  join_read spec.child (b ∷ bs) s = rw (no_gap true (b ∷ bs) s) refl

  join_more : (j : spec.Join) (rest : List ℕ) → length rest < length (join_text j ++ rest)
  join_more spec.inside rest = omega arith
  join_more spec.child rest = omega arith

  join_end : (j : spec.Join) (rest : List ℕ) → IsEnd (join_text j ++ rest)
  join_end spec.inside rest = refl
  join_end spec.child rest = refl

  reads_join : (parts : List Compound) (joins : List Join) (atoms : List ℕ) (j : spec.Join) (rest : List ℕ) → IsStart rest
      → run drops to (at parts joins atoms true) 0 (join_text j ++ rest) ≡ run drops to (at (parts ++ alone atoms ∷ []) (joins ++ code_join j ∷ []) [] false) 0 rest
  unfolding with_join step
  reads_join parts joins atoms j rest s =
      let one = at_join drops to (at parts joins atoms true) (join_text j ++ rest) (code_join j) rest (join_read j rest s) in
      goes_on drops to (at parts joins atoms true) (at (parts ++ alone atoms ∷ []) (joins ++ code_join j ∷ []) [] false) (join_text j ++ rest) rest one (behind_front (join_text j) rest) (join_more j rest)

  -- ---- selectors

  regroup : (o : spec.Outer) (outer : List spec.Outer) (rest : List ℕ)
      → outer_text names (o ∷ outer) ++ rest ≡ outer_text names outer ++ (compound_text names o.atoms ++ (join_text o.join ++ rest))
  regroup o outer rest = simp append_assoc

  outer_start : (outer : List spec.Outer) → AreCompounds names outer → (rest : List ℕ) → IsStart rest → IsStart (outer_text names outer ++ rest)
  outer_start [] m rest s = s
  outer_start (o ∷ outer) m rest s =
      subst IsStart (sym (regroup o outer rest)) (outer_start outer m.1 (compound_text names o.atoms ++ (join_text o.join ++ rest)) (compound_start o.atoms m.0 (join_text o.join ++ rest)))

  reads_outer : (outer : List spec.Outer) → AreCompounds names outer → length outer ≤ MOST_PARTS → (rest : List ℕ) → IsStart rest
      → run drops to (at [] [] [] false) 0 (outer_text names outer ++ rest) ≡ run drops to (at (parts_of outer) (joins_of outer) [] false) 0 rest
  reads_outer [] m few rest s = refl
  reads_outer (o ∷ outer) m few rest s =
      let behind = join_text o.join ++ rest in
      ap (run drops to (at [] [] [] false) 0) (regroup o outer rest)
      ∙ reads_outer outer m.1 (omega arith) (compound_text names o.atoms ++ behind) (compound_start o.atoms m.0 behind)
      ∙ reads_compound (parts_of outer) (joins_of outer) o.atoms m.0 behind (omega (arith, length-parts_of outer)) (join_end o.join rest)
      ∙ reads_join (parts_of outer) (joins_of outer) o.atoms o.join rest s

  reads_end : (parts : List Compound) (joins : List Join) (atoms : List ℕ) → run drops to (at parts joins atoms true) 0 [] ≡ (names, Ok (selector_from (parts ++ alone atoms ∷ []) joins))
  unfolding run finished
  reads_end parts joins atoms = refl

  -- a selector that is readable, by its text
  pub reads_back : (s : spec.Selector) → IsReadable names s → read_piece drops to (selector_text names s) names ≡ (names, Ok s)
  unfolding selector_text
  reads_back s r =
      let last : compound_text names s.subject ++ [] ≡ compound_text names s.subject = append-nil (compound_text names s.subject) in
      let start : IsStart (compound_text names s.subject) = subst IsStart last (compound_start s.subject r.subject []) in
      let few : length (parts_of s.outer) < MOST_PARTS = omega (arith, r.few, length-parts_of s.outer) in
      let subject = subst (λ bs. run drops to (at (parts_of s.outer) (joins_of s.outer) [] false) 0 bs ≡ run drops to (at (parts_of s.outer) (joins_of s.outer) s.subject true) 0 []) last
      (reads_compound (parts_of s.outer) (joins_of s.outer) s.subject r.subject [] few refl) in
      let text = outer_text names s.outer ++ compound_text names s.subject in
      let first = sym (no_gap true text (outer_start s.outer r.outer (compound_text names s.subject) start)) in
      sym (begins drops to (empty_draft names) names text text refl first)
      ∙ (reads_outer s.outer r.outer (omega (arith, r.few)) (compound_text names s.subject) start ∙ subject
      ∙ reads_end (parts_of s.outer) (joins_of s.outer) s.subject
      ∙ ap (λ (x : spec.Selector). (names, Ok x)) (selector_from-parts_of s.outer s.subject))
