-- The tokens of a text are the whole text.
use Rattle.std.proofs.Common.{◌≡◌, ℕ, zero, suc, ◌-◌, ◌<◌, ◌≤◌, ◌==◌, ◌||◌, Bool, true, false, nat_lt, if◌then◌else◌, List, [], ◌∷◌, ◌++◌, length, take, drop, Option, Some, None, IfSome, option_map, option_and_then, refl, sym, ap, ◌∙◌, subst, arith, inl, inr}
use Rattle.std.specs.List.{prefix_len}
use Rattle.std.proofs.lemmas.Bool.{cases_Bool}
use Rattle.std.proofs.lemmas.Bool.Decides.{nat_tests}
use Rattle.text_bytes.specs.Blanks.{is_blank}
use Rattle.text_bytes.specs.Rests.{IsRest}
use Rattle.text_bytes.proofs.Rests.{of_rest, behind_first, itself, dropped}
use Rattle.sel_text.specs.Bytes.{name_len, begins_with}
use Rattle.widen_sheet.specs.declared.tokens.Kind.{Kind}
use Rattle.widen_sheet.specs.declared.tokens.Kind.TheVariants.{Judged, Other, Inside, Child, Next, Later}
use Rattle.widen_sheet.specs.Wide as spec
use Rattle.widen_sheet.specs.Wide.{Front, Wide, Token, before, behind_name, behind_brackets, behind_call, behind_pseudo, behind_part, behind_blanks, combinator, behind_combinator, begins_combinator, part_before, combinator_at, token_at, wide_from, with_token, is_combinator, after_byte, behind_quoted}
use Rattle.widen_sheet.proofs.CombinatorLemmas.{is_shorter}
use Rattle.widen_sheet.proofs.SlotPieces.{words}

-- a rest, if there is one
abbrev pub Rests : List ℕ → Option (List ℕ) → Type 0
Rests bs o = IfSome o (λ r. IsRest bs r)

-- and it is shorter
abbrev pub GetsOn : List ℕ → Option (List ℕ) → Type 0
GetsOn bs o = IfSome o (λ r. IsRest bs r × length r < length bs)

one_of : (P : Option (List ℕ) → Type 0) (b : Bool) (x y : Option (List ℕ)) → P x → P y → P (if b then x else y)
one_of P true x y px py = px
one_of P false x y px py = py

deeper : (b : ℕ) (bs : List ℕ) (o : Option (List ℕ)) → Rests bs o → GetsOn (b ∷ bs) o
deeper b bs None is = tt
deeper b bs (Some r) is = (of_rest (b ∷ bs) bs r (behind_first b bs) is, omega (arith, is.shorter))

further : (all bs : List ℕ) (o : Option (List ℕ)) → IsRest all bs → Rests bs o → Rests all o
further all bs None last is = tt
further all bs (Some r) last is = of_rest all bs r last is

name_rests : (bs : List ℕ) → Rests bs (behind_name bs)
unfolding behind_name
name_rests bs = one_of (Rests bs) (nat_lt 0 (name_len bs)) (Some (drop (name_len bs) bs)) None (dropped (name_len bs) bs) tt

drop_less : (n : ℕ) (bs : List ℕ) → length (drop n bs) ≤ length bs
drop_less n bs = (dropped n bs).shorter

name_gets_on : (b : ℕ) (bs : List ℕ) → GetsOn (b ∷ bs) (behind_name (b ∷ bs))
unfolding behind_name
name_gets_on b bs = by_len (name_len (b ∷ bs))
  where
    by_len : (n : ℕ) → GetsOn (b ∷ bs) (if nat_lt 0 n then Some (drop n (b ∷ bs)) else None)
    by_len zero = tt
    by_len (suc n) = let e : nat_lt 0 (suc n) ≡ true = grind (arith, nat_tests) in rw e (dropped (suc n) (b ∷ bs), omega (arith, drop_less n bs))

pub brackets_rests : (bs closers : List ℕ) (n : ℕ) → Rests bs (behind_brackets closers n bs)
unfolding behind_brackets
brackets_rests [] closers n = tt
brackets_rests (b ∷ bs) closers (suc n) = further (b ∷ bs) bs (behind_brackets closers n bs) (behind_first b bs) (brackets_rests bs closers n)
brackets_rests (b ∷ bs) closers zero =
    one_of (Rests (b ∷ bs)) (length (after_byte b closers) == 0) (Some bs) (behind_brackets (after_byte b closers) (length bs - length (behind_quoted b bs)) bs) (behind_first b bs)
    (further (b ∷ bs) bs _ (behind_first b bs) (brackets_rests bs (after_byte b closers) (length bs - length (behind_quoted b bs))))

call_rests : (bs : List ℕ) → Rests bs (behind_call bs)
unfolding behind_call
call_rests [] = itself []
call_rests (b ∷ bs) = one_of (Rests (b ∷ bs)) (b == 40) (behind_brackets (41 ∷ []) 0 bs) (Some (b ∷ bs)) (further (b ∷ bs) bs _ (behind_first b bs) (brackets_rests bs (41 ∷ []) 0)) (itself (b ∷ bs))

colon_rest : (bs : List ℕ) → IsRest bs (if begins_with 58 bs then drop 1 bs else bs)
colon_rest bs = by_test (begins_with 58 bs)
  where
    by_test : (t : Bool) → IsRest bs (if t then drop 1 bs else bs)
    by_test true = dropped 1 bs
    by_test false = itself bs

called : (o : Option (List ℕ)) (bs : List ℕ) → Rests bs o → Rests bs (option_and_then behind_call o)
called None bs is = tt
called (Some r) bs is = further bs r (behind_call r) is (call_rests r)

pseudo_rests : (bs : List ℕ) → Rests bs (behind_pseudo bs)
unfolding behind_pseudo
pseudo_rests bs = let at = if begins_with 58 bs then drop 1 bs else bs in called (behind_name at) bs (further bs at (behind_name at) (colon_rest bs) (name_rests at))

pub part_gets_on : (bs : List ℕ) → GetsOn bs (behind_part bs)
unfolding behind_part
part_gets_on [] = tt
part_gets_on (b ∷ bs) =
    one_of (GetsOn (b ∷ bs)) (b == 46 || b == 35) (behind_name bs) _ (deeper b bs _ (name_rests bs))
    (one_of (GetsOn (b ∷ bs)) (b == 58) (behind_pseudo bs) _ (deeper b bs _ (pseudo_rests bs))
    (one_of (GetsOn (b ∷ bs)) (b == 91) (behind_brackets (93 ∷ []) 0 bs) None (deeper b bs _ (brackets_rests bs (93 ∷ []) 0)) tt))

pub first_gets_on : (bs : List ℕ) → GetsOn bs (spec.behind_first bs)
unfolding spec.behind_first
first_gets_on [] = tt
first_gets_on (b ∷ bs) =
    one_of (GetsOn (b ∷ bs)) (b == 42) (Some bs) _ (behind_first b bs, omega arith)
    (one_of (GetsOn (b ∷ bs)) (nat_lt 0 (name_len (b ∷ bs))) (behind_name (b ∷ bs)) (behind_part (b ∷ bs)) (name_gets_on b bs) (part_gets_on (b ∷ bs)))

-- ---- tokens

pub record IsWhole (bs : List ℕ) (f : Front) : Type 0 where
  pub text : f.0.text ≡ before bs f.1
  pub rest : IsRest bs f.1
  pub less : length f.1 < length bs

whole_part : (bs : List ℕ) (o : Option (List ℕ)) (f : Front) → GetsOn bs o → option_map (part_before bs) o ≡ Some f → IsWhole bs f
unfolding part_before
whole_part bs None f on is = cc
whole_part bs (Some r) f on is = let same : part_before bs r ≡ f = cc in subst (IsWhole bs) same (record { text = refl; rest = on.0; less = on.1 })

combinator_rest : (k : Kind) (bs : List ℕ) → IsRest bs (behind_combinator k bs)
unfolding behind_blanks
combinator_rest Inside bs = itself bs
combinator_rest Judged bs = of_rest bs (drop 1 bs) _ (dropped 1 bs) (dropped (prefix_len is_blank (drop 1 bs)) (drop 1 bs))
combinator_rest Other bs = of_rest bs (drop 1 bs) _ (dropped 1 bs) (dropped (prefix_len is_blank (drop 1 bs)) (drop 1 bs))
combinator_rest Child bs = of_rest bs (drop 1 bs) _ (dropped 1 bs) (dropped (prefix_len is_blank (drop 1 bs)) (drop 1 bs))
combinator_rest Next bs = of_rest bs (drop 1 bs) _ (dropped 1 bs) (dropped (prefix_len is_blank (drop 1 bs)) (drop 1 bs))
combinator_rest Later bs = of_rest bs (drop 1 bs) _ (dropped 1 bs) (dropped (prefix_len is_blank (drop 1 bs)) (drop 1 bs))

blanks_rest : (bs : List ℕ) → IsRest bs (behind_blanks bs)
unfolding behind_blanks
blanks_rest bs = dropped (prefix_len is_blank bs) bs

whole_combinator : (bs : List ℕ) (f : Front) → begins_combinator bs ≡ true → combinator_at bs ≡ f → IsWhole bs f
unfolding combinator_at
whole_combinator bs f begins is =
    let at = behind_blanks bs in
    subst (IsWhole bs) is (record { text = refl; rest = of_rest bs at (behind_combinator (combinator at) at) (blanks_rest bs) (combinator_rest (combinator at) at); less = is_shorter bs begins })

pub whole_token : (wanted : Bool) (bs : List ℕ) (f : Front) → token_at wanted bs ≡ Some f → IsWhole bs f
unfolding token_at
whole_token true bs f is = whole_part bs (spec.behind_first bs) f (first_gets_on bs) is
whole_token false bs f is = elim (cases_Bool (begins_combinator bs)) [
  | inl yes' ↦ whole_combinator bs f yes' (let e = rw yes' at is in let same : combinator_at bs ≡ f = cc in same)
  | inr other ↦ whole_part bs (behind_part bs) f (part_gets_on bs) (rw other at is)
]

-- ---- the whole text

take_drop : (n : ℕ) (bs : List ℕ) → take n bs ++ drop n bs ≡ bs
take_drop zero bs = refl
take_drop (suc n) [] = refl
take_drop (suc n) (b ∷ bs) = ap (λ (r : List ℕ). b ∷ r) (take_drop n bs)

drop_none : (n : ℕ) → drop {A = ℕ} n [] ≡ []
drop_none zero = refl
drop_none (suc n) = refl

ended : (wanted : Bool) (w : Wide) → (if wanted then None else Some []) ≡ Some w → words w ≡ []
ended true w is = cc
ended false w is = let same : [] ≡ w = cc in ap words (sym same)

one_more : (b : ℕ) (bs : List ℕ) (f : Front) (o : Option Wide) (w : Wide) → IsWhole (b ∷ bs) f → ((ts : Wide) → o ≡ Some ts → words ts ≡ drop (length bs - length f.1) bs) → option_map (λ (ts : Wide). f.0 ∷ ts) o ≡ Some w → words w ≡ b ∷ bs
one_more b bs f None w whole more is = cc
one_more b bs f (Some ts) w whole more is =
    let same : f.0 ∷ ts ≡ w = cc in
    let step : length (b ∷ bs) - length f.1 ≡ suc (length bs - length f.1) = omega (arith, whole.less) in
    let behind : drop (length bs - length f.1) bs ≡ drop (length (b ∷ bs) - length f.1) (b ∷ bs) = ap (λ n. drop n (b ∷ bs)) (sym step) in
    ap words (sym same) ∙ ap (λ (r : List ℕ). r ++ words ts) whole.text ∙ ap (λ (r : List ℕ). before (b ∷ bs) f.1 ++ r) (more ts refl ∙ behind) ∙ take_drop (length (b ∷ bs) - length f.1) (b ∷ bs)

by_token : (b : ℕ) (bs : List ℕ) (o : Option Front) (f : Front → Option Wide) (w : Wide) → ((t : Front) → o ≡ Some t → IsWhole (b ∷ bs) t) → ((t : Front) (ts : Wide) → f t ≡ Some ts → words ts ≡ drop (length bs - length t.1) bs)
    → with_token o f ≡ Some w → words w ≡ b ∷ bs
by_token b bs None f w whole more is = cc
by_token b bs (Some t) f w whole more is = one_more b bs t (f t) w (whole t refl) (more t) is

pub whole_text : (bs : List ℕ) (wanted : Bool) (n : ℕ) (w : Wide) → wide_from wanted n bs ≡ Some w → words w ≡ drop n bs
unfolding wide_from
whole_text [] wanted n w is = ended wanted w is ∙ sym (drop_none n)
whole_text (b ∷ bs) wanted (suc n) w is = whole_text bs wanted n w is
whole_text (b ∷ bs) wanted zero w is =
    by_token b bs (token_at wanted (b ∷ bs)) (λ (t : Front). wide_from (is_combinator t.0.kind) (length bs - length t.1) bs) w (whole_token wanted (b ∷ bs))
    (λ (t : Front) (ts : Wide) (e : wide_from (is_combinator t.0.kind) (length bs - length t.1) bs ≡ Some ts). whole_text bs (is_combinator t.0.kind) (length bs - length t.1) ts e) is
