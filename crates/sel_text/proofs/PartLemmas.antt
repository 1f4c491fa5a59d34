-- A selector with one more compound on its right.
use Rattle.std.proofs.Common.{◌≡◌, ◌+◌, List, [], ◌∷◌, ◌++◌, length, refl, arith}
use Rattle.sel_text.specs.declared.selectors.Compound.{Compound}
use Rattle.sel_text.specs.declared.selectors.Join.{Join}
use Rattle.sel_text.specs.Selectors as spec
use Rattle.sel_text.specs.Parts.{and_then, with_parts, selector_from}

pub with_parts-push : (s : spec.Selector) (joins : List Join) (parts : List Compound) (j : Join) (c : Compound)
    → length parts ≡ length joins → with_parts s (joins ++ j ∷ []) (parts ++ c ∷ []) ≡ and_then (with_parts s joins parts) j c
with_parts-push s [] [] j c e = refl
with_parts-push s [] (d ∷ parts) j c e = absurd (omega arith)
with_parts-push s (i ∷ joins) [] j c e = absurd (omega arith)
with_parts-push s (i ∷ joins) (d ∷ parts) j c e = with_parts-push (and_then s i d) joins parts j c (omega arith)

pub selector_from-push : (parts : List Compound) (joins : List Join) (c : Compound) (j : Join)
    → length parts ≡ length joins + 1 → selector_from (parts ++ c ∷ []) (joins ++ j ∷ []) ≡ and_then (selector_from parts joins) j c
selector_from-push [] joins c j e = absurd (omega arith)
selector_from-push (d ∷ parts) joins c j e = with_parts-push (spec.simple d.atoms) joins parts j c (omega arith)

-- the compound on the right is the one that is asked of the node itself
pub with_parts-subject : (s : spec.Selector) (joins : List Join) (parts : List Compound) (c : Compound)
    → length joins ≡ length parts + 1 → (with_parts s joins (parts ++ c ∷ [])).subject ≡ c.atoms
with_parts-subject s [] parts c e = absurd (omega arith)
with_parts-subject s (j ∷ []) [] c e = refl
with_parts-subject s (j ∷ i ∷ joins) [] c e = absurd (omega arith)
with_parts-subject s (j ∷ joins) (d ∷ parts) c e = with_parts-subject (and_then s j d) joins parts c (omega arith)

pub selector_from-subject : (parts : List Compound) (joins : List Join) (c : Compound)
    → length parts ≡ length joins → (selector_from (parts ++ c ∷ []) joins).subject ≡ c.atoms
selector_from-subject [] [] c e = refl
selector_from-subject [] (j ∷ joins) c e = absurd (omega arith)
selector_from-subject (d ∷ parts) joins c e = with_parts-subject (spec.simple d.atoms) joins parts c (omega arith)
