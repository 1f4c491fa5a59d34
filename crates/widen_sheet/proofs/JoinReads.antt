-- How the combinators of a wide selector read, and what its tokens are.
use Rattle.std.proofs.Common.{◌≡◌, ℕ, zero, suc, ◌+◌, ◌-◌, ◌<◌, ◌==◌, ◌||◌, Bool, true, false, if◌then◌else◌, List, [], ◌∷◌, ◌++◌, length, take, drop, codes, Option, Some, None, IfSome, cond, Ok, option_map, refl, sym, ap, ◌∙◌, subst, arith, append_assoc, append-nil, take-append-drop, inl, inr}
use Rattle.std.specs.List.{list_all, prefix_len}
use Rattle.std.proofs.lemmas.Bool.{cases_Bool, and_parts, eqb-true}
use Rattle.std.proofs.lemmas.List.{append_cancel_right}
use Rattle.std.proofs.lemmas.Option.{same_Some}
use Rattle.text_bytes.specs.Blanks.{is_blank}
use Rattle.text_bytes.specs.Rests.{IsRest}
use Rattle.sel_text.specs.Bytes.{begins_with, in_name, behind_gap}
use Rattle.sel_text.specs.declared.selectors.Join.{Join}
use Rattle.sel_text.specs.declared.selectors.Join.TheVariants as code
use Rattle.sel_text.specs.Grammar.{behind_child, behind_space, behind_near, join_at}
use Rattle.sel_text.proofs.ByteRuns.{run_passes}
use Rattle.sel_text.proofs.Gaps.{stops}
use Rattle.sel_text.proofs.NameLemmas.{not_byte, IsStart, no_comment, no_gap}
use Rattle.widen_sheet.specs.declared.tokens.Kind.{Kind}
use Rattle.widen_sheet.specs.declared.tokens.Kind.TheVariants.{Judged, Other, Inside, Child, Next, Later}
use Rattle.widen_sheet.specs.Wide as spec
use Rattle.widen_sheet.specs.Wide.{Front, Wide, Token, has, before, is_judged, kind_of_part, behind_part, behind_blanks, combinator, behind_combinator, begins_combinator, part_before, combinator_at, token_at, with_token, wide_from, is_combinator}
use Rattle.widen_sheet.proofs.AttributeReads.{gap_over, calm_blanks}
use Rattle.widen_sheet.proofs.PieceLemmas.{has_later}
use Rattle.widen_sheet.proofs.QuietTexts.{QuietText, mild_quiet, mild_append, mild_bytes}
use Rattle.widen_sheet.proofs.SlotPieces.{has_left}
use Rattle.widen_sheet.proofs.TokenReads.{IsGood, Some_first, Some_later, first_part_of, later_part, is_sign}
use Rattle.widen_sheet.proofs.WholeLemmas.{IsWhole, whole_token, first_gets_on, part_gets_on}

-- ---- what may stand behind a part

abbrev pub is_behind : ℕ → Bool
is_behind b = is_sign b || (is_blank b || b == 62)

abbrev pub IsBehind : List ℕ → Type 0
IsBehind [] = Unit {0}
IsBehind (b ∷ bs) = is_behind b ≡ true

no_in_name : (b : ℕ) → is_behind b ≡ true → in_name b ≡ false
no_in_name b is = elim (cases_Bool (in_name b)) [
  | inl yes' ↦
      absurd (apart (sym is ∙ rw (
        not_byte in_name 46 b refl yes',
        not_byte in_name 35 b refl yes',
        not_byte in_name 58 b refl yes',
        not_byte in_name 91 b refl yes',
        not_byte in_name 32 b refl yes',
        not_byte in_name 9 b refl yes',
        not_byte in_name 10 b refl yes',
        not_byte in_name 12 b refl yes',
        not_byte in_name 13 b refl yes',
        not_byte in_name 62 b refl yes',
      ) refl))
  | inr other ↦ other
]
  where
    apart : true ≡ false → ⊥
    apart e = cc

pub good_behind : (rest : List ℕ) → IsBehind rest → IsGood rest
unfolding behind_gap
good_behind [] is = (refl, refl)
good_behind (b ∷ bs) is = (rw (no_in_name b is) refl, ap (begins_with 40) (stops false b bs refl (no_comment b bs (not_byte is_behind 47 b refl is))) ∙ not_byte is_behind 40 b refl is)

-- ---- combinators that stay

pub record IsJoin (text : List ℕ) (j : Join) : Type 0 where
  pub first : ℕ
  pub more : List ℕ
  pub whole : text ≡ first ∷ more
  pub is : (is_blank first || first == 62) ≡ true
  pub reads : (to : ℕ) (rest : List ℕ) → IsStart rest → join_at to (text ++ rest) ≡ Ok (Some j, rest)
  pub quiet : QuietText text

stays_near : (b : ℕ) (bs : List ℕ) → (is_blank b || b == 62) ≡ true → behind_gap false 0 (b ∷ bs) ≡ b ∷ bs
stays_near b bs is = stops false b bs refl (no_comment b bs (not_byte (λ (c : ℕ). is_blank c || c == 62) 47 b refl is))

space_read : (to : ℕ) (rest : List ℕ) → IsStart rest → behind_space to rest ≡ Ok (Some code.Inside, rest)
unfolding behind_space
space_read to [] start = absurd start
space_read to (b ∷ bs) start = rw start.2 refl

child_read : (to : ℕ) (h rest : List ℕ) → list_all is_blank h ≡ true → IsStart rest → behind_child to (h ++ rest) ≡ Ok (Some code.Child, rest)
unfolding behind_child
child_read to h [] all start = absurd start
child_read to h (b ∷ bs) all start = rw (gap_over h (b ∷ bs) all, no_gap true (b ∷ bs) start) refl

blank_near : (to b : ℕ) (bs : List ℕ) → is_blank b ≡ true → join_at to (b ∷ bs) ≡ behind_space to (behind_gap true 0 bs)
unfolding join_at behind_near
blank_near to b bs is = rw (stays_near b bs (rw is refl), is) refl

child_near : (to : ℕ) (bs : List ℕ) → join_at to (62 ∷ bs) ≡ behind_child to bs
unfolding join_at behind_near
child_near to bs = rw (stays_near 62 bs refl) refl

pub inside_is : (b : ℕ) (g : List ℕ) → is_blank b ≡ true → list_all is_blank g ≡ true → IsJoin (b ∷ g) code.Inside
inside_is b g blank all = record {
  first = b;
  more = g;
  whole = refl;
  is = rw blank refl;
  reads = λ to rest start. blank_near to b (g ++ rest) blank ∙ ap (behind_space to) (gap_over g rest all ∙ no_gap true rest start) ∙ space_read to rest start;
  quiet = mild_quiet (b ∷ g) (calm_blanks (b ∷ g) (rw blank all)).mild;
}

child_behind : (to b : ℕ) (g h rest : List ℕ) → is_blank b ≡ true → list_all is_blank g ≡ true → list_all is_blank h ≡ true → IsStart rest → join_at to (b ∷ (g ++ 62 ∷ (h ++ rest))) ≡ Ok (Some code.Child, rest)
unfolding behind_space
child_behind to b g h rest blank first second start =
    blank_near to b (g ++ 62 ∷ (h ++ rest)) blank
    ∙ ap (behind_space to) (gap_over g (62 ∷ (h ++ rest)) first ∙ stops true 62 (h ++ rest) refl (no_comment 62 (h ++ rest) refl))
    ∙ child_read to h rest second start

child_quiet : (g h : List ℕ) → list_all is_blank g ≡ true → list_all is_blank h ≡ true → QuietText (g ++ 62 ∷ h)
child_quiet g h first second = mild_quiet (g ++ 62 ∷ h) (mild_append g (62 ∷ h) (calm_blanks g first).mild (mild_append (62 ∷ []) h (mild_bytes (62 ∷ []) refl) (calm_blanks h second).mild))

pub child_is : (g h : List ℕ) → list_all is_blank g ≡ true → list_all is_blank h ≡ true → IsJoin (g ++ 62 ∷ h) code.Child
child_is [] h first second = record {
  first = 62;
  more = h;
  whole = refl;
  is = refl;
  reads = λ to rest start. child_near to (h ++ rest) ∙ child_read to h rest second start;
  quiet = child_quiet [] h refl second;
}
child_is (b ∷ g) h first second =
    let both = and_parts (is_blank b) (list_all is_blank g) first in
    record {
      first = b;
      more = g ++ 62 ∷ h;
      whole = refl;
      is = rw both.0 refl;
      reads = λ to rest start. ap (λ (x : List ℕ). join_at to (b ∷ x)) (append_assoc g (62 ∷ h) rest) ∙ child_behind to b g h rest both.0 both.1 second start;
      quiet = child_quiet (b ∷ g) h first second;
    }

-- ---- tokens

abbrev pub IsToken : Bool → Kind → List ℕ → Type 0
IsToken true Judged text = Some_first text
IsToken false Judged text = Some_later text
IsToken wanted Other text = Unit {0}
IsToken false Inside text = IsJoin text code.Inside
IsToken false Child text = IsJoin text code.Child
IsToken false Next text = Unit {0}
IsToken false Later text = Unit {0}
IsToken true k text = ⊥

abbrev pub AreTokens : Bool → Wide → Type 0
AreTokens true [] = ⊥
AreTokens false [] = Unit {0}
AreTokens wanted (t ∷ ts) = IsToken wanted t.kind t.text × AreTokens (is_combinator t.kind) ts

text_whole : (bs : List ℕ) (f : Front) → IsWhole bs f → f.0.text ++ f.1 ≡ bs
text_whole bs f is = ap (λ (x : List ℕ). x ++ f.1) is.text ∙ ap (λ (x : List ℕ). take (length bs - length f.1) bs ++ x) (sym is.rest.last) ∙ take-append-drop (length bs - length f.1) bs

judged_kind : (wanted j : Bool) (text : List ℕ) → ((j ≡ true) → IsToken wanted Judged text) → IsToken wanted (if j then Judged else Other) text
judged_kind true true text is = is refl
judged_kind false true text is = is refl
judged_kind true false text is = tt
judged_kind false false text is = tt

part_token : (wanted : Bool) (bs : List ℕ) (o : Option (List ℕ)) (f : Front) → option_map (part_before bs) o ≡ Some f → ((r : List ℕ) → o ≡ Some r → is_judged (before bs r) ≡ true → IsToken wanted Judged (before bs r)) → IsToken wanted f.0.kind f.0.text
unfolding part_before
part_token wanted bs None f is holds = absurd cc
part_token wanted bs (Some r) f is holds =
    let same : part_before bs r ≡ f = same_Some _ _ is in
    subst (λ (g : Front). IsToken wanted g.0.kind g.0.text) same (judged_kind wanted (is_judged (before bs r)) (before bs r) (holds r refl))

before_whole : (bs r : List ℕ) → IsRest bs r → before bs r ++ r ≡ bs
before_whole bs r is = ap (λ (x : List ℕ). take (length bs - length r) bs ++ x) (sym is.last) ∙ take-append-drop (length bs - length r) bs

has_before : (bs r : List ℕ) → IsRest bs r → has (codes "*/") bs ≡ false → has (codes "*/") (before bs r) ≡ false
has_before bs r is none = has_left (codes "*/") (before bs r) r (subst (λ (x : List ℕ). has (codes "*/") x ≡ false) (sym (before_whole bs r is)) none)

blanks_all : (bs : List ℕ) → list_all is_blank (take (prefix_len is_blank bs) bs) ≡ true
blanks_all bs = run_passes is_blank bs

-- a text of blanks
blanks_join : (g text : List ℕ) → list_all is_blank g ≡ true → text ≡ g → 0 < length g → IsJoin text code.Inside
blanks_join [] text all same some = absurd (omega arith)
blanks_join (b ∷ g) text all same some = let both = and_parts (is_blank b) (list_all is_blank g) all in subst (λ (x : List ℕ). IsJoin x code.Inside) (sym same) (inside_is b g both.0 both.1)

-- a combinator by what is behind its blanks
comb_token : (bs at : List ℕ) (g rest text : List ℕ) → bs ≡ g ++ at → list_all is_blank g ≡ true → ((c : ℕ) (cs : List ℕ) → at ≡ c ∷ cs → is_blank c ≡ false) → begins_combinator bs ≡ true → behind_combinator (combinator at) at ≡ rest → text ++ rest ≡ bs
    → IsToken false (combinator at) text
unfolding behind_blanks
comb_token bs [] g rest text split all stop begins behind whole =
    let same : text ≡ g = append_cancel_right text g rest (whole ∙ split ∙ ap (λ (x : List ℕ). g ++ x) behind) in
    blanks_join g text all same (some g (subst (λ (x : List ℕ). begins_combinator x ≡ true) (split ∙ append-nil g) begins))
  where
    some : (g : List ℕ) → begins_combinator g ≡ true → 0 < length g
    some [] begins = absurd cc
    some (b ∷ g) begins = omega arith
comb_token bs (c ∷ cs) g rest text split all stop begins behind whole = by (c == 62) (c == 43) (c == 126) refl refl refl behind
  where
    blanks : List ℕ
    blanks = take (prefix_len is_blank cs) cs

    child : c ≡ 62 → drop (prefix_len is_blank cs) cs ≡ rest → IsJoin text code.Child
    child byte last =
        let inner : cs ≡ blanks ++ rest = sym (take-append-drop (prefix_len is_blank cs) cs) ∙ ap (λ (x : List ℕ). blanks ++ x) last in
        let all_is : text ++ rest ≡ (g ++ 62 ∷ blanks) ++ rest = whole ∙ split ∙ ap (λ (x : ℕ). g ++ x ∷ cs) byte ∙ ap (λ (x : List ℕ). g ++ 62 ∷ x) inner ∙ sym (append_assoc g (62 ∷ blanks) rest) in
        let same : text ≡ g ++ 62 ∷ blanks = append_cancel_right text (g ++ 62 ∷ blanks) rest all_is in
        subst (λ (x : List ℕ). IsJoin x code.Child) (sym same) (child_is g blanks all (blanks_all cs))

    some : (g : List ℕ) → (c == 62) ≡ false → (c == 43) ≡ false → (c == 126) ≡ false → begins_combinator (g ++ c ∷ cs) ≡ true → 0 < length g
    some [] x y z begins = absurd (apart (rw (stop c cs refl, x, y, z) at begins))
      where
        apart : false ≡ true → ⊥
        apart e = cc
    some (b ∷ g) x y z begins = omega arith

    inside : (c == 62) ≡ false → (c == 43) ≡ false → (c == 126) ≡ false → c ∷ cs ≡ rest → IsJoin text code.Inside
    inside x y z last =
        let same : text ≡ g = append_cancel_right text g rest (whole ∙ split ∙ ap (λ (r : List ℕ). g ++ r) last) in
        blanks_join g text all same (some g x y z (subst (λ (r : List ℕ). begins_combinator r ≡ true) split begins))

    by : (p q r : Bool) → (c == 62) ≡ p → (c == 43) ≡ q → (c == 126) ≡ r → behind_combinator (if p then Child else (if q then Next else (if r then Later else Inside))) (c ∷ cs) ≡ rest → IsToken false (if p then Child else (if q then Next else (if r then Later else Inside))) text
    by true q r x y z behind = child (eqb-true c 62 x) behind
    by false true r x y z behind = tt
    by false false true x y z behind = tt
    by false false false x y z behind = inside x y z behind

run_stops : (bs : List ℕ) (c : ℕ) (cs : List ℕ) → drop (prefix_len is_blank bs) bs ≡ c ∷ cs → is_blank c ≡ false
run_stops [] c cs is = absurd cc
run_stops (b ∷ bs) c cs is = by (is_blank b) refl is (run_stops bs c cs)
  where
    one : (n : ℕ) → 1 + n ≡ suc n
    one n = omega arith

    by : (t : Bool) → is_blank b ≡ t → drop (cond t (1 + prefix_len is_blank bs) 0) (b ∷ bs) ≡ c ∷ cs → (drop (prefix_len is_blank bs) bs ≡ c ∷ cs → is_blank c ≡ false) → is_blank c ≡ false
    by true e is later = later (rw (one (prefix_len is_blank bs)) at is)
    by false e is later = let same : b ≡ c = cc in subst (λ (x : ℕ). is_blank x ≡ false) same e

comb_is : (bs : List ℕ) (f : Front) → begins_combinator bs ≡ true → combinator_at bs ≡ f → f.0.text ++ f.1 ≡ bs → IsToken false f.0.kind f.0.text
unfolding combinator_at behind_blanks
comb_is bs f begins is whole =
    let at = drop (prefix_len is_blank bs) bs in
    let kind : combinator at ≡ f.0.kind = ap (λ (g : Front). g.0.kind) is in
    let rest : behind_combinator (combinator at) at ≡ f.1 = ap (λ (g : Front). g.1) is in
    subst (λ (k : Kind). IsToken false k f.0.text) kind
    (comb_token bs at (take (prefix_len is_blank bs) bs) f.1 f.0.text (sym (take-append-drop (prefix_len is_blank bs) bs)) (blanks_all bs) (run_stops bs) begins rest whole)

token_is : (wanted : Bool) (bs : List ℕ) (f : Front) → token_at wanted bs ≡ Some f → has (codes "*/") bs ≡ false → IsToken wanted f.0.kind f.0.text
unfolding token_at
token_is true bs f is none =
    part_token true bs (spec.behind_first bs) f is (λ r first judged.
    let rests : IsRest bs r = first_rest bs r first in
    first_part_of bs r (before bs r) first (before_whole bs r rests) (has_before bs r rests none) judged)
  where
    first_rest : (bs r : List ℕ) → spec.behind_first bs ≡ Some r → IsRest bs r
    first_rest bs r first = (subst (λ (o : Option (List ℕ)). IfSome o (λ r. IsRest bs r × length r < length bs)) first (first_gets_on bs)).0
token_is false bs f is none = elim (cases_Bool (begins_combinator bs)) [
  | inl yes' ↦ comb_is bs f yes' (some_front bs f (rw yes' at is)) (text_whole bs f (whole_token false bs f is))
  | inr other ↦
      part_token false bs (behind_part bs) f (rw other at is) (λ r first judged.
      let rests : IsRest bs r = (subst (λ (o : Option (List ℕ)). IfSome o (λ r. IsRest bs r × length r < length bs)) first (part_gets_on bs)).0 in
      later_part bs r (before bs r) first (before_whole bs r rests) (has_before bs r rests none) judged)
]
  where
    some_front : (bs : List ℕ) (f : Front) → Some (combinator_at bs) ≡ Some f → combinator_at bs ≡ f
    some_front bs f is = same_Some _ _ is

ended : (wanted : Bool) (w : Wide) → (if wanted then None else Some []) ≡ Some w → AreTokens wanted w
ended true w is = cc
ended false w is = let same : [] ≡ w = cc in subst (AreTokens false) same tt

one_more : (wanted : Bool) (f : Front) (o : Option Wide) (w : Wide) → IsToken wanted f.0.kind f.0.text → ((ts : Wide) → o ≡ Some ts → AreTokens (is_combinator f.0.kind) ts) → option_map (λ (ts : Wide). f.0 ∷ ts) o ≡ Some w → AreTokens wanted w
one_more wanted f None w is more e = cc
one_more true f (Some ts) w is more e = let same : f.0 ∷ ts ≡ w = cc in subst (AreTokens true) same (is, more ts refl)
one_more false f (Some ts) w is more e = let same : f.0 ∷ ts ≡ w = cc in subst (AreTokens false) same (is, more ts refl)

by_token : (wanted : Bool) (o : Option Front) (f : Front → Option Wide) (w : Wide) → ((t : Front) → o ≡ Some t → IsToken wanted t.0.kind t.0.text) → ((t : Front) (ts : Wide) → f t ≡ Some ts → AreTokens (is_combinator t.0.kind) ts)
    → with_token o f ≡ Some w → AreTokens wanted w
by_token wanted None f w is more e = cc
by_token wanted (Some t) f w is more e = one_more wanted t (f t) w (is t refl) (more t) e

-- the tokens of a text in which no comment ends
pub tokens_are : (bs : List ℕ) (wanted : Bool) (n : ℕ) (w : Wide) → has (codes "*/") bs ≡ false → wide_from wanted n bs ≡ Some w → AreTokens wanted w
unfolding wide_from
tokens_are [] wanted n w none is = ended wanted w is
tokens_are (b ∷ bs) wanted (suc n) w none is = tokens_are bs wanted n w (has_later (codes "*/") b bs none) is
tokens_are (b ∷ bs) wanted zero w none is =
    by_token wanted (token_at wanted (b ∷ bs)) (λ (t : Front). wide_from (is_combinator t.0.kind) (length bs - length t.1) bs) w (λ t here. token_is wanted (b ∷ bs) t here none)
    (λ (t : Front) (ts : Wide) (e : wide_from (is_combinator t.0.kind) (length bs - length t.1) bs ≡ Some ts). tokens_are bs (is_combinator t.0.kind) (length bs - length t.1) ts (has_later (codes "*/") b bs none) e) is
