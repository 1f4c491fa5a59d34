-- The attributes of a tag, and the tags of a text, one after the other.
use Rattle.std.proofs.Common.{◌≡◌, ℕ, zero, suc, ◌-◌, ◌<◌, true, false, List, [], ◌∷◌, ◌++◌, length, map, drop, Some, None, refl, sym, ap, ◌∙◌, append_assoc, arith, eq-eqb}
use Rattle.std.proofs.lemmas.Bool.{ne_eqb}
use Rattle.std.proofs.lemmas.List.{append-nil, map-append}
use Rattle.text_bytes.specs.Rests.{IsRest}
use Rattle.html_tokens.specs.Bytes.{is_filler}
use Rattle.html_tokens.specs.Attributes.{attribute}
use Rattle.html_tokens.specs.Tokens.{Front, front}
use Rattle.html_tokens.specs.Views.{attribute_of}
use Rattle.code_sources.specs.declared.tags.Placed as code_placed
use Rattle.code_sources.specs.Views.{placed_of}
use Rattle.code_sources.specs.Tags.{Placed, Tag, Attributes, value_place, placed_from, tags_at, tags_from}

-- with attributes that were read before
unfoldable pub with_front : List Placed → Attributes → Attributes
with_front before read = (before ++ read.0, read.1)

-- what is left of bytes behind the first of them
pub rest_of : (b : ℕ) (bs rest : List ℕ) → IsRest (b ∷ bs) rest → length rest < length (b ∷ bs) → drop (length bs - length rest) bs ≡ rest
rest_of b bs rest last less =
    let count : length (b ∷ bs) - length rest ≡ suc (length bs - length rest) = omega arith in
    ap (λ n. drop n (b ∷ bs)) (sym count) ∙ last.last

-- ---- attributes

skips : (size n : ℕ) (bs : List ℕ) → placed_from size n bs ≡ placed_from size 0 (drop n bs)
unfolding placed_from
skips size zero bs = refl
skips size (suc n) [] = refl
skips size (suc n) (b ∷ bs) = skips size n bs

pub begins : (size : ℕ) (bs : List ℕ) → placed_from size 0 bs ≡ with_front [] (placed_from size 0 bs)
unfolding with_front
begins size bs = refl

pub closes : (before : List Placed) (size b : ℕ) (behind : List ℕ) → b ≡ 62 → with_front before (placed_from size 0 (b ∷ behind)) ≡ (before, behind)
unfolding placed_from with_front
closes before size b behind is = rw (eq-eqb b 62 is) (ap (λ (ps : List Placed). (ps, behind)) (append-nil before))

pub passes : (before : List Placed) (size b : ℕ) (behind : List ℕ) → (b ≡ 62 → ⊥) → is_filler b ≡ true → with_front before (placed_from size 0 (b ∷ behind)) ≡ with_front before (placed_from size 0 behind)
unfolding placed_from
passes before size b behind other filler = rw (ne_eqb b 62 other, filler) refl

pub adds : (before : List Placed) (p : Placed) (size b : ℕ) (behind after : List ℕ) → (b ≡ 62 → ⊥) → is_filler b ≡ false → attribute (b ∷ behind) ≡ Some (p.attribute, after)
    → p.value_at ≡ value_place size (b ∷ behind) p.attribute.name → IsRest (b ∷ behind) after → length after < length (b ∷ behind)
    → with_front before (placed_from size 0 (b ∷ behind)) ≡ with_front (before ++ p ∷ []) (placed_from size 0 after)
unfolding placed_from with_front
adds before p size b behind after other filler read at last less =
    rw (ne_eqb b 62 other, filler, read, skips size (length behind - length after) behind, rest_of b behind after last less, ← at)
    (ap (λ (ps : List Placed). (ps, (placed_from size 0 after).1)) (sym (append_assoc before (p ∷ []) (placed_from size 0 after).0)))

-- the same of what the code has
pub adds_one : (old new : List code_placed.Placed) (p : code_placed.Placed) (size b : ℕ) (rest behind after : List ℕ) → rest ≡ b ∷ behind → (b ≡ 62 → ⊥) → is_filler b ≡ false
    → attribute rest ≡ Some (attribute_of p.attribute, after) → p.value_at ≡ value_place size rest p.attribute.name.now → IsRest rest after → length after < length rest → new ≡ old ++ p ∷ []
    → with_front (map placed_of old) (placed_from size 0 rest) ≡ with_front (map placed_of new) (placed_from size 0 after)
adds_one old new p size b [] behind after is other filler read at last less more = absurd (omega arith)
adds_one old new p size b (c ∷ rest) behind after is other filler read at last less more =
    let first : c ≡ b = cc in
    rw (more, map-append placed_of old (p ∷ []))
    (adds (map placed_of old) (placed_of p) size c rest after (λ e. other (sym first ∙ e)) (rw first filler) read at last less)

pub fails : (before : List Placed) (size b : ℕ) (behind : List ℕ) → (b ≡ 62 → ⊥) → is_filler b ≡ false → attribute (b ∷ behind) ≡ None → with_front before (placed_from size 0 (b ∷ behind)) ≡ (before, [])
unfolding placed_from with_front
fails before size b behind other filler read = rw (ne_eqb b 62 other, filler, read) (ap (λ (ps : List Placed). let none : List ℕ = [] in (ps, none)) (append-nil before))

pub ends : (before : List Placed) (size : ℕ) (bs : List ℕ) → length bs ≡ 0 → with_front before (placed_from size 0 bs) ≡ (before, [])
unfolding placed_from with_front
ends before size [] none = ap (λ (ps : List Placed). let none : List ℕ = [] in (ps, none)) (append-nil before)
ends before size (b ∷ bs) none = absurd (omega arith)

-- ---- tags

tags_skip : (size n : ℕ) (bs : List ℕ) → tags_from size n bs ≡ tags_from size 0 (drop n bs)
unfolding tags_from
tags_skip size zero bs = refl
tags_skip size (suc n) [] = refl
tags_skip size (suc n) (b ∷ bs) = tags_skip size n bs

pub goes_on : (before later : List Tag) (size : ℕ) (bs : List ℕ) (f : Front) → f ≡ front (size - length bs) bs → IsRest bs f.1 → length f.1 < length bs
    → later ≡ before ++ tags_at size bs f.1
    → later ++ tags_from size 0 f.1 ≡ before ++ tags_from size 0 bs
unfolding tags_from
goes_on before later size [] f is last less more = absurd (omega arith)
goes_on before later size (b ∷ bs) f is last less more =
    rw (more, ← is, tags_skip size (length bs - length f.1) bs, rest_of b bs f.1 last less)
    (append_assoc before (tags_at size (b ∷ bs) f.1) (tags_from size 0 f.1))

pub all_found : (before all : List Tag) (size : ℕ) (bs : List ℕ) → length bs ≡ 0 → before ++ tags_from size 0 bs ≡ all → before ≡ all
unfolding tags_from
all_found before all size [] none found = sym (append-nil before) ∙ found
all_found before all size (b ∷ bs) none found = absurd (omega arith)
