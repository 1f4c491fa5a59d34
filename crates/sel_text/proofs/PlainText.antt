-- The text of a selector has no comma that parts a list, so a list of that text is that selector.
use Rattle.std.proofs.Common.{◌≡◌, ◌⊎◌, inl, inr, ℕ, ◌-◌, Bool, true, false, ◌==◌, ◌&&◌, not, List, [], ◌∷◌, ◌++◌, length, take, Ok, slice_get, slice_range, refl, sym, ap, subst, ◌∙◌, append_assoc, append-nil, arith}
use Rattle.std.specs.List.{list_all, prefix_len, flat_map}
use Rattle.std.proofs.lemmas.List.{take_all}
use Rattle.std.proofs.lemmas.Bool.{and_parts}
use Rattle.tp_base.specs.Names.{Named, IsDistinct}
use Rattle.sel_text.specs.Bytes.{in_name}
use Rattle.sel_text.specs.Selectors as spec
use Rattle.sel_text.specs.Lists.{from_comma, first_piece, more_pieces, pieces, read_pieces, read_strict_list}
use Rattle.sel_text.specs.Reading.{read_piece, read_selector}
use Rattle.sel_text.specs.Readable.{IsType, IsMarked, IsPart, ArePartsOf, IsCompound, AreCompounds, IsReadable, ReadsAs}
use Rattle.sel_text.specs.SelectorText.{atom_text, compound_text, join_text, outer_text, selector_text}
use Rattle.sel_text.proofs.AttributeText.{skips_part}
use Rattle.sel_text.proofs.ByteRuns.{all_by, all_of_run}
use Rattle.sel_text.proofs.Commas.{passes}
use Rattle.sel_text.proofs.NameLemmas.{not_byte, no_comment, name_begins}
use Rattle.sel_text.proofs.ReadBack.{reads_back}

-- a byte that is no comma, and begins no attribute part and no comment
is_plain : ℕ → Bool
is_plain b = not (b == 44) && (not (b == 91) && not (b == 47))

no_mark : (b c d : Bool) → (not b && (not c && not d)) ≡ true → (b ≡ false) × (c ≡ false) × (d ≡ false)
no_mark false false false h = (refl, refl, refl)
no_mark false false true h = let wrong : false ≡ true = h in absurd cc
no_mark false true d h = let wrong : false ≡ true = h in absurd cc
no_mark true c d h = let wrong : false ≡ true = h in absurd cc

-- such a text is passed
Passes : List ℕ → Type 0
Passes text = (rest : List ℕ) → from_comma 0 (text ++ rest) ≡ from_comma 0 rest

plain_passes : (xs : List ℕ) → list_all is_plain xs ≡ true → Passes xs
unfolding Passes is_plain
plain_passes [] h = λ rest. refl
plain_passes (b ∷ xs) h = λ rest.
    let parts = and_parts (is_plain b) (list_all is_plain xs) h in
    let first = no_mark (b == 44) (b == 91) (b == 47) parts.0 in
    passes b (xs ++ rest) first.0 first.1 (no_comment b (xs ++ rest) first.2) ∙ plain_passes xs parts.1 rest

passes_more : (xs ys : List ℕ) → Passes xs → Passes ys → Passes (xs ++ ys)
unfolding Passes
passes_more xs ys p q = λ rest. rw (append_assoc xs ys rest) (p (ys ++ rest) ∙ q rest)

in_name_plain : (b : ℕ) → in_name b ≡ true → is_plain b ≡ true
unfolding is_plain
in_name_plain b h = rw (not_byte in_name 44 b refl h, not_byte in_name 91 b refl h, not_byte in_name 47 b refl h) refl

plain_name : (name : List ℕ) → prefix_len in_name name ≡ length name → list_all is_plain name ≡ true
plain_name name h = all_by in_name is_plain in_name_plain name (all_of_run in_name name h)

module _ (names : List Named) where
  marked_passes : (a : ℕ) → IsMarked names a → Passes (atom_text (slice_get names a))
  unfolding is_plain
  marked_passes a m =
      let name = plain_name m.name (name_begins m.name m.is_name).1 in
      elim m.marked [ inl class ↦ rw (m.at, class) (plain_passes (46 ∷ m.name) name) | inr id ↦ rw (m.at, id) (plain_passes (35 ∷ m.name) name) ]

  part_passes : (a : ℕ) → IsPart names a → Passes (atom_text (slice_get names a))
  unfolding Passes
  part_passes a m = elim m [ inl x ↦ marked_passes a x | inr x ↦ λ rest. rw x.at (skips_part x.name x.value rest x.asked x.quoted) ]

  atoms_pass : (atoms : List ℕ) → ArePartsOf names atoms → Passes (flat_map (λ a. atom_text (slice_get names a)) atoms)
  unfolding Passes
  atoms_pass [] m = λ rest. refl
  atoms_pass (a ∷ atoms) m = passes_more (atom_text (slice_get names a)) (flat_map (λ b. atom_text (slice_get names b)) atoms) (part_passes a m.0) (atoms_pass atoms m.1)

  first_passes : (a : ℕ) → IsType names a ⊎ IsPart names a → Passes (atom_text (slice_get names a))
  first_passes a m = elim m [ inl y ↦ rw y.at (plain_passes y.name (plain_name y.name (name_begins y.name y.is_name).1)) | inr x ↦ part_passes a x ]

  compound_passes : (atoms : List ℕ) → IsCompound names atoms → Passes (compound_text names atoms)
  unfolding is_plain
  compound_passes [] m = plain_passes (42 ∷ []) refl
  compound_passes (a ∷ atoms) m = passes_more (atom_text (slice_get names a)) (flat_map (λ b. atom_text (slice_get names b)) atoms) (first_passes a m.0) (atoms_pass atoms m.1)

  join_passes : (j : spec.Join) → Passes (join_text j)
  unfolding is_plain
  join_passes spec.child = plain_passes (32 ∷ 62 ∷ 32 ∷ []) refl
  join_passes spec.inside = plain_passes (32 ∷ []) refl

  outer_passes : (outer : List spec.Outer) → AreCompounds names outer → Passes (outer_text names outer)
  unfolding Passes
  outer_passes [] m = λ rest. refl
  outer_passes (o ∷ outer) m =
      passes_more (outer_text names outer ++ compound_text names o.atoms) (join_text o.join)
      (passes_more (outer_text names outer) (compound_text names o.atoms) (outer_passes outer m.1) (compound_passes o.atoms m.0)) (join_passes o.join)

  selector_passes : (s : spec.Selector) → IsReadable names s → Passes (selector_text names s)
  unfolding selector_text
  selector_passes s r = passes_more (outer_text names s.outer) (compound_text names s.subject) (outer_passes s.outer r.outer) (compound_passes s.subject r.subject)

  no_comma : (text : List ℕ) → Passes text → from_comma 0 text ≡ []
  unfolding Passes from_comma
  no_comma text p = ap (from_comma 0) (sym (append-nil text)) ∙ p []

  reads_one : (text : List ℕ) (s : spec.Selector) → from_comma 0 text ≡ [] → read_piece false (length text) text names ≡ (names, Ok s) → read_strict_list text names ≡ (names, Ok (s ∷ []))
  unfolding read_strict_list pieces first_piece more_pieces read_pieces
  reads_one text s end is =
      let all : take (length text - 0) text ≡ text = take_all (length text - 0) text (omega arith) in
      let size : length text - 0 ≡ length text = omega arith in
      rw (end, all, size, is) refl

  itself : (s : spec.Selector) → IsDistinct names → IsReadable names s → ReadsAs (selector_text names s) s names
  unfolding read_selector
  itself s distinct r =
      let text = selector_text names s in
      let all : slice_range text 0 (length text) ≡ text = take_all (length text - 0) text (omega arith) in
      record {
        for_sheet = rw all (reads_back true (length text) names distinct s r);
        for_script = reads_one text s (no_comma text (selector_passes s r)) (reads_back false (length text) names distinct s r);
      }

  -- the text of a readable selector, read for a sheet or for a script
  pub reads_as : (text : List ℕ) (s : spec.Selector) → text ≡ selector_text names s → IsDistinct names → IsReadable names s → ReadsAs text s names
  reads_as text s is distinct r = subst (λ t. ReadsAs t s names) (sym is) (itself s distinct r)
