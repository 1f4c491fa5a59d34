-- Pieces of a selector's text.
use Rattle.std.proofs.Common.{◌≡◌, ℕ, ◌+◌, ◌<◌, ◌==◌, not, List, [], ◌∷◌, ◌++◌, length, get_or, take, drop, slice_get, codes, refl, sym, ap, ◌∙◌, append_assoc, append-nil, arith}
use Rattle.std.specs.List.{flat_map, prefix_len}
use Rattle.std.proofs.lemmas.Grind.{flat_map-append}
use Rattle.std.proofs.lemmas.List.{take_more, take_all, length-take-le}
use Rattle.tp_base.specs.Names.{Named}
use Rattle.sel_text.specs.declared.selectors.Compound.{Compound}
use Rattle.sel_text.specs.declared.selectors.Join.{Join}
use Rattle.sel_text.specs.Selectors as spec
use Rattle.sel_text.specs.Parts.{join_of, and_then, selector_from}
use Rattle.sel_text.specs.SelectorText.{quote_for, value_text, attribute_text, atom_text, compound_text, join_text, selector_text}
use Rattle.sel_text.proofs.PartLemmas.{selector_from-push}

pub value_written : (before : List ℕ) (b : ℕ) (value : List ℕ)
    → (((before ++ 61 ∷ []) ++ quote_for value ∷ []) ++ value) ++ quote_for value ∷ [] ≡ before ++ value_text (b ∷ value)
value_written before b value = simp append_assoc

pub attribute_written : (before text : List ℕ)
    → (((before ++ 91 ∷ []) ++ take (prefix_len (λ b. not (b == 61)) text) text) ++ value_text (drop (prefix_len (λ b. not (b == 61)) text) text)) ++ 93 ∷ [] ≡ before ++ attribute_text text
unfolding attribute_text
attribute_written before text = simp append_assoc

module _ (names : List Named) where
  abbrev pub atoms_text : List ℕ → List ℕ
  atoms_text xs = flat_map (λ a. atom_text (slice_get names a)) xs

  pub no_atoms : (xs : List ℕ) → length xs ≡ 0 → compound_text names xs ≡ codes "*"
  no_atoms [] none = refl
  no_atoms (x ∷ xs) none = absurd (omega arith)

  pub some_atoms : (xs : List ℕ) → 0 < length xs → compound_text names xs ≡ atoms_text xs
  some_atoms [] some = absurd (omega arith)
  some_atoms (x ∷ xs) some = refl

  pub one_atom_more : (xs : List ℕ) (i : ℕ) (before now : List ℕ) → i < length xs → now ≡ before ++ atoms_text (take i xs)
      → now ++ atom_text (slice_get names (get_or xs i 0)) ≡ before ++ atoms_text (take (i + 1) xs)
  one_atom_more xs i before now within is =
      rw (is, take_more xs i 0 within, flat_map-append (λ a. atom_text (slice_get names a)) (take i xs) (get_or xs i 0 ∷ [])) (simp (append_assoc, append-nil))

  -- one compound more on the right
  pub selector_text-and_then : (s : spec.Selector) (j : Join) (c : Compound)
      → selector_text names (and_then s j c) ≡ selector_text names s ++ join_text (join_of j) ++ compound_text names c.atoms
  unfolding selector_text
  selector_text-and_then s j c = simp append_assoc

  -- the text of the first compounds, i of which have a further one on their right
  abbrev pub front_text : List Compound → List Join → ℕ → List ℕ
  front_text parts joins i = selector_text names (selector_from (take (i + 1) parts) (take i joins))

  pub first_part : (parts : List Compound) (joins : List Join) (c : Compound) → length parts ≡ length joins + 1 → c ≡ get_or parts 0 c
      → front_text parts joins 0 ≡ compound_text names c.atoms
  unfolding selector_text
  first_part [] joins c same at = absurd (omega arith)
  first_part (d ∷ parts) joins c same at = rw at refl

  pub one_part_more : (parts : List Compound) (joins : List Join) (i : ℕ) (before now : List ℕ) (e j : Join) (d : Compound)
      → now ≡ before ++ front_text parts joins i → i < length joins → length parts ≡ length joins + 1 → j ≡ get_or joins i e → d ≡ get_or parts (i + 1) d
      → (now ++ join_text (join_of j)) ++ compound_text names d.atoms ≡ before ++ front_text parts joins (i + 1)
  one_part_more parts joins i before now e j d is within same at at' =
      let more : take (i + 1) joins ≡ take i joins ++ j ∷ [] = take_more joins i e within ∙ ap (λ y. take i joins ++ y ∷ []) (sym at) in
      let more' : take (i + 1 + 1) parts ≡ take (i + 1) parts ++ d ∷ [] = take_more parts (i + 1) d (omega arith) ∙ ap (λ y. take (i + 1) parts ++ y ∷ []) (sym at') in
      let left : length (take i joins) ≡ i = length-take-le i joins (omega arith) in
      let left' : length (take (i + 1) parts) ≡ i + 1 = length-take-le (i + 1) parts (omega arith) in
      let pushed = selector_from-push (take (i + 1) parts) (take i joins) d j (omega arith) in
      rw (is, more, more', pushed, selector_text-and_then (selector_from (take (i + 1) parts) (take i joins)) j d) (simp append_assoc)

  pub all_parts : (parts : List Compound) (joins : List Join) → length parts ≡ length joins + 1
      → front_text parts joins (length joins) ≡ selector_text names (selector_from parts joins)
  all_parts parts joins same = rw (take_all (length joins) joins (omega arith), take_all (length joins + 1) parts (omega arith)) refl
