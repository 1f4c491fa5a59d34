-- Tokens, one after the other.
use Rattle.std.proofs.Common.{◌≡◌, ℕ, zero, suc, ◌-◌, ◌<◌, Bool, true, false, List, [], ◌∷◌, ◌++◌, length, drop, slice_range, Option, Some, None, option_map, refl, sym, ap, ◌∙◌, arith, append_assoc, append-nil}
use Rattle.text_bytes.specs.Rests.{IsRest}
use Rattle.widen_sheet.specs.declared.tokens.Kind.{Kind}
use Rattle.widen_sheet.specs.declared.tokens.Token as code
use Rattle.widen_sheet.specs.Views.{token_of, wide_view}
use Rattle.widen_sheet.specs.Wide.{Token, Wide, before, is_combinator, token_at, wide_from}

pub skips : (wanted : Bool) (n : ℕ) (bs : List ℕ) → wide_from wanted n bs ≡ wide_from wanted 0 (drop n bs)
unfolding wide_from
skips wanted zero bs = refl
skips wanted (suc n) [] = refl
skips wanted (suc n) (b ∷ bs) = skips wanted n bs

pub with_none : (o : Option Wide) → option_map (λ (ts : Wide). [] ++ ts) o ≡ o
with_none None = refl
with_none (Some ts) = refl

-- what is read behind a token, and what from it on
one_token : (wanted : Bool) (bs rest : List ℕ) (t : Token) → token_at wanted bs ≡ Some (t, rest) → IsRest bs rest → length rest < length bs
    → wide_from wanted 0 bs ≡ option_map (λ (ts : Wide). t ∷ ts) (wide_from (is_combinator t.kind) 0 rest)
unfolding wide_from
one_token wanted [] rest t at last less = absurd (omega arith)
one_token wanted (b ∷ bs) rest t at last less =
    let step : length (b ∷ bs) - length rest ≡ suc (length bs - length rest) = omega arith in
    let same : drop (length bs - length rest) bs ≡ rest = ap (λ n. drop n (b ∷ bs)) (sym step) ∙ last.last in
    rw (at, skips (is_combinator t.kind) (length bs - length rest) bs, same) refl

moved : (found : Wide) (t : Token) (o : Option Wide) → option_map (λ (ts : Wide). (found ++ t ∷ []) ++ ts) o ≡ option_map (λ (ts : Wide). found ++ ts) (option_map (λ (ts : Wide). t ∷ ts) o)
moved found t None = refl
moved found t (Some ts) = ap Some (append_assoc found (t ∷ []) ts)

one_more : (text : List ℕ) (found : List code.Token) (t : code.Token) → wide_view text (found ++ t ∷ []) ≡ wide_view text found ++ token_of text t ∷ []
one_more text [] t = refl
one_more text (f ∷ found) t = ap (λ (w : Wide). token_of text f ∷ w) (one_more text found t)

-- the bytes of a token, as a range of the text
range_before : (text rest behind : List ℕ) → IsRest text rest → length behind < length rest → slice_range text (length text - length rest) (length text - length behind) ≡ before rest behind
range_before text rest behind last less =
    let count : (length text - length behind) - (length text - length rest) ≡ length rest - length behind = omega (arith, last.shorter, less) in
    rw (count, last.last) refl

pub goes_on : (text rest behind : List ℕ) (wanted joins : Bool) (found later : List code.Token) (k : Kind) → IsRest text rest → token_at wanted rest ≡ Some ((record { kind = k; text = before rest behind }), behind)
    → IsRest rest behind → length behind < length rest → later ≡ found ++ (record { kind = k; from = length text - length rest; to = length text - length behind }) ∷ [] → joins ≡ is_combinator k
    → option_map (λ (ts : Wide). wide_view text later ++ ts) (wide_from joins 0 behind) ≡ option_map (λ (ts : Wide). wide_view text found ++ ts) (wide_from wanted 0 rest)
goes_on text rest behind wanted joins found later k last at inner less pushed ends =
    let t : code.Token = record { kind = k; from = length text - length rest; to = length text - length behind } in
    let s : Token = record { kind = k; text = before rest behind } in
    let same : wide_view text later ≡ wide_view text found ++ s ∷ [] =
    ap (λ (ts : List code.Token). wide_view text ts) pushed ∙ one_more text found t ∙ ap (λ (bs : List ℕ). wide_view text found ++ (record { kind = k; text = bs }) ∷ []) (range_before text rest behind last less) in
    ap (λ (w : Wide). option_map (λ (ts : Wide). w ++ ts) (wide_from joins 0 behind)) same
    ∙ ap (λ (b : Bool). option_map (λ (ts : Wide). (wide_view text found ++ s ∷ []) ++ ts) (wide_from b 0 behind)) ends
    ∙ moved (wide_view text found) s (wide_from (is_combinator k) 0 behind)
    ∙ ap (λ (o : Option Wide). option_map (λ (ts : Wide). wide_view text found ++ ts) o) (sym (one_token wanted rest behind s at inner less))

pub fails : (wanted : Bool) (bs : List ℕ) (found : Wide) (all : Option Wide) → token_at wanted bs ≡ None → 0 < length bs → option_map (λ (ts : Wide). found ++ ts) (wide_from wanted 0 bs) ≡ all → all ≡ None
unfolding wide_from
fails wanted [] found all at some reads = absurd (omega arith)
fails wanted (b ∷ bs) found all at some reads = sym reads ∙ rw at refl

pub ends : (wanted : Bool) (bs : List ℕ) (found : Wide) (all : Option Wide) → wanted ≡ false → length bs ≡ 0 → option_map (λ (ts : Wide). found ++ ts) (wide_from wanted 0 bs) ≡ all → all ≡ Some found
unfolding wide_from
ends wanted [] found all not_so none reads = sym reads ∙ rw not_so (ap Some (append-nil found))
ends wanted (b ∷ bs) found all not_so none reads = absurd (omega arith)

pub ends_wanted : (wanted : Bool) (bs : List ℕ) (found : Wide) (all : Option Wide) → wanted ≡ true → length bs ≡ 0 → option_map (λ (ts : Wide). found ++ ts) (wide_from wanted 0 bs) ≡ all → all ≡ None
unfolding wide_from
ends_wanted wanted [] found all is none reads = sym reads ∙ rw is refl
ends_wanted wanted (b ∷ bs) found all is none reads = absurd (omega arith)
