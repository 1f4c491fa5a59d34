-- Selectors that are one compound alone.
use Rattle.std.proofs.Common.{◌≡◌, ℕ, ◌+◌, ◌<◌, Bool, true, false, List, [], ◌∷◌, ◌++◌, length, map, get_or, refl, sym, ap, ◌∙◌, arith, append_assoc}
use Rattle.std.specs.List.{list_all}
use Rattle.std.proofs.lemmas.List.{map-append}
use Rattle.sel_text.specs.declared.selectors.Compound.{Compound}
use Rattle.sel_text.specs.declared.selectors.Join.{Join}
use Rattle.sel_text.specs.declared.selectors.Selector as code
use Rattle.sel_text.specs.Parts.{and_then, with_parts, selector_from}
use Rattle.sel_text.specs.Selectors.{Selector, simple}
use Rattle.sel_text.specs.Views.{selector_of}
use Rattle.jq_words.specs.Brackets.{is_empty}

pub alone : (parts : List Compound) (joins : List Join) (c : Compound) → length joins ≡ 0 → 0 < length parts → c ≡ get_or parts 0 c → selector_from parts joins ≡ simple c.atoms
alone [] joins c none some is = let never : ⊥ = omega (arith, some) in absurd never
alone (p ∷ parts) [] c none some is = ap (λ (x : Compound). simple x.atoms) (sym is)
alone (p ∷ parts) (j ∷ joins) c none some is = let never : ⊥ = omega (arith, none) in absurd never

grown : (s : Selector) (joins : List Join) (parts : List Compound) → is_empty s.outer ≡ false → is_empty (with_parts s joins parts).outer ≡ false
grown s [] parts some = some
grown s (j ∷ joins) [] some = some
grown s (j ∷ joins) (c ∷ parts) some = grown (and_then s j c) joins parts refl

pub joined : (parts : List Compound) (joins : List Join) → length parts ≡ length joins + 1 → 0 < length joins → is_empty (selector_from parts joins).outer ≡ false
joined parts [] between some = let never : ⊥ = omega (arith, some) in absurd never
joined [] (j ∷ joins) between some = let never : ⊥ = omega (arith, between) in absurd never
joined (c ∷ []) (j ∷ joins) between some = let never : ⊥ = omega (arith, between) in absurd never
joined (c ∷ d ∷ parts) (j ∷ joins) between some = grown (and_then (simple c.atoms) j d) joins parts refl

abbrev are_alone : List code.Selector → Bool
are_alone ss = list_all (λ (t : Selector). is_empty t.outer) (map selector_of ss)

abbrev subjects : List code.Selector → List (List ℕ)
subjects ss = map (λ (t : Selector). t.subject) (map selector_of ss)

pub all_more : (s : code.Selector) (ss : List code.Selector) (c : Compound) → selector_of s ≡ simple c.atoms → are_alone (s ∷ ss) ≡ are_alone ss
all_more s ss c is = rw is refl

pub all_fail : (s : code.Selector) (ss : List code.Selector) → is_empty (selector_of s).outer ≡ false → are_alone (s ∷ ss) ≡ false
all_fail s ss other = rw other refl

abbrev atoms_of : List Compound → List (List ℕ)
atoms_of cs = map (λ c. c.atoms) cs

pub subjects_more : (found : List Compound) (s : code.Selector) (ss : List code.Selector) (c : Compound) → selector_of s ≡ simple c.atoms
    → atoms_of (found ++ c ∷ []) ++ subjects ss ≡ atoms_of found ++ subjects (s ∷ ss)
subjects_more found s ss c is =
    ap (λ xs. xs ++ subjects ss) (map-append (λ (k : Compound). k.atoms) found (c ∷ [])) ∙ append_assoc (atoms_of found) (c.atoms ∷ []) (subjects ss)
    ∙ ap (λ (t : Selector). atoms_of found ++ (t.subject ∷ subjects ss)) (sym is)

pub all_end : (ss : List code.Selector) → length ss ≡ 0 → are_alone ss ≡ true
all_end [] none = refl
all_end (s ∷ ss) none = let never : ⊥ = omega (arith, none) in absurd never
