-- A text that is UTF-8 without some ranges, none of which begins or ends inside a character, is UTF-8.
use Rattle.std.proofs.Common.{◌≡◌, ◌⊎◌, ℕ, suc, ◌+◌, ◌-◌, ◌≤◌, ◌<◌, ◌||◌, ◌/◌, cond, nat_lt, Bool, true, false, List, [], ◌∷◌, ◌++◌, length, refl, sym, ap, ◌∙◌, subst, inl, inr, arith, length-append, append_assoc, get_or}
use Rattle.std.specs.Str.{IsUtf8, IsCharBoundary}
use Rattle.std.proofs.Math.Utf8.{encode, encodes, scalars, scalar, next}
use Rattle.std.proofs.lemmas.Bool.{and_parts}
use Rattle.std.proofs.lemmas.Bool.Decides.{nat_tests}
use Rattle.std.proofs.lemmas.Nat.{mod_below}
use Rattle.std.proofs.lemmas.Str.{IsUtf8-nil, IsUtf8-encode, IsUtf8-append}
use Rattle.css_read.specs.declared.sheets.Range.{Range}
use Rattle.css_read.specs.Pruned.{is_in, without}
use Rattle.css_read.proofs.CutLemmas.{IsCut, without_append, kept_all, cut_all, in_range, behind_range, before_range}

-- ---- the bytes of a character

-- a byte that begins none
abbrev pub IsInner : ℕ → Type 0
IsInner b = (128 ≤ b) × (b < 192)

abbrev AreInner : List ℕ → Type 0
AreInner [] = Unit {0}
AreInner (b ∷ bs) = IsInner b × AreInner bs

abbrev IsChar : List ℕ → Type 0
IsChar bs = (first : ℕ) × (more : List ℕ) × (bs ≡ first ∷ more) × AreInner more

pick : (test : Bool) (xs ys : List ℕ) → IsChar xs → IsChar ys → IsChar (cond test xs ys)
pick true xs ys first second = first
pick false xs ys first second = second

inner_next : (bits : ℕ) → IsInner (next bits)
inner_next bits = let less = mod_below bits 64 (omega arith) in (omega arith, omega (arith, less))

char_is : (c : ℕ) → IsChar (encode c)
unfolding encode
char_is c =
    pick (nat_lt c 128) _ _ (c, [], refl, tt)
    (pick (nat_lt c 2048) _ _ (192 + c / 64, next c ∷ [], refl, (inner_next c, tt))
    (pick (nat_lt c 65536) _ _ (224 + c / 4096, next (c / 64) ∷ next c ∷ [], refl, (inner_next (c / 64), (inner_next c, tt)))
    (240 + c / 262144, next (c / 4096) ∷ next (c / 64) ∷ next c ∷ [], refl, (inner_next (c / 4096), (inner_next (c / 64), (inner_next c, tt))))))

-- ---- cuts that go with whole characters

-- a byte inside a character goes where the byte before it goes
abbrev pub CutsWhole : List Range → ℕ → List ℕ → Type 0
CutsWhole rs at [] = Unit {0}
CutsWhole rs at (b ∷ bs) = (IsInner b → IsCut rs at ≡ IsCut rs (at - 1)) × CutsWhole rs (at + 1) bs

whole_front : (rs : List Range) (at : ℕ) (xs ys : List ℕ) → CutsWhole rs at (xs ++ ys) → CutsWhole rs at xs
whole_front rs at [] ys whole = tt
whole_front rs at (x ∷ xs) ys whole = (whole.0, whole_front rs (at + 1) xs ys whole.1)

pub whole_behind : (rs : List Range) (at : ℕ) (xs ys : List ℕ) → CutsWhole rs at (xs ++ ys) → CutsWhole rs (at + length xs) ys
whole_behind rs at [] ys whole = let unit : at + 0 ≡ at = omega arith in rw unit whole
whole_behind rs at (x ∷ xs) ys whole = let next : at + suc (length xs) ≡ at + 1 + length xs = omega arith in rw next (whole_behind rs (at + 1) xs ys whole.1)

-- what is inside goes as the first byte does
pub less_or : (m n : ℕ) → m ≤ n → (m ≡ n) ⊎ (m + 1 ≤ n)
less_or m n less = by (nat_lt m n) refl
  where
    over : (m n : ℕ) → nat_lt m n ≡ true → m + 1 ≤ n
    over m n is = grind (arith, nat_tests)

    under : (m n : ℕ) → nat_lt m n ≡ false → n ≤ m
    under m n is = grind (arith, nat_tests)

    by : (test : Bool) → nat_lt m n ≡ test → (m ≡ n) ⊎ (m + 1 ≤ n)
    by true is = inr (over m n is)
    by false is = inl (omega (arith, less, under m n is))

back : (n : ℕ) → n + 1 - 1 ≡ n
back n = omega arith

same_inside : (rs : List Range) (at : ℕ) (cut : Bool) (more : List ℕ) → IsCut rs at ≡ cut → AreInner more → CutsWhole rs (at + 1) more → (k : ℕ) → at ≤ k → k < at + suc (length more) → IsCut rs k ≡ cut
same_inside rs at cut [] is inner whole k from to = let same : k ≡ at = omega (arith, from, to) in ap (IsCut rs) same ∙ is
same_inside rs at cut (b ∷ more) is inner whole k from to =
    by (same_inside rs (at + 1) cut more (whole.0 inner.0 ∙ ap (IsCut rs) (back at) ∙ is) inner.1 whole.1) (less_or at k from)
  where
    by : ((j : ℕ) → at + 1 ≤ j → j < at + 1 + suc (length more) → IsCut rs j ≡ cut) → (at ≡ k) ⊎ (at + 1 ≤ k) → IsCut rs k ≡ cut
    by later (inl same) = ap (IsCut rs) (sym same) ∙ is
    by later (inr less) = later k less (omega (arith, to))

one_char : (rs : List Range) (at c : ℕ) → IsChar (encode c) → scalar c ≡ true → CutsWhole rs at (encode c) → IsUtf8 (without rs at (encode c))
one_char rs at c (first, more, is, inner) good whole = by (IsCut rs at) refl
  where
    size : length (encode c) ≡ suc (length more)
    size = ap length is

    inside : CutsWhole rs (at + 1) more
    inside = (subst (CutsWhole rs at) is whole).1

    by : (cut : Bool) → IsCut rs at ≡ cut → IsUtf8 (without rs at (encode c))
    by true cut = subst IsUtf8 (sym (cut_all rs at (encode c) (λ k from to. same_inside rs at true more cut inner inside k from (omega (arith, to, size))))) IsUtf8-nil
    by false cut = subst IsUtf8 (sym (kept_all rs at (encode c) (λ k from to. same_inside rs at false more cut inner inside k from (omega (arith, to, size))))) (IsUtf8-encode c good)

chars_left : (rs : List Range) (at : ℕ) (cs : List ℕ) → scalars cs ≡ true → CutsWhole rs at (encodes cs) → IsUtf8 (without rs at (encodes cs))
unfolding without
chars_left rs at [] good whole = IsUtf8-nil
chars_left rs at (c ∷ cs) good whole =
    let both = and_parts (scalar c) (scalars cs) good in
    subst IsUtf8 (sym (without_append rs at (encode c) (encodes cs)))
    (IsUtf8-append (without rs at (encode c)) (without rs (at + length (encode c)) (encodes cs)) (one_char rs at c (char_is c) both.0 (whole_front rs at (encode c) (encodes cs) whole))
    (chars_left rs (at + length (encode c)) cs both.1 (whole_behind rs at (encode c) (encodes cs) whole)))

-- ---- ranges that begin and end between characters

abbrev pub IsBetween : List ℕ → Range → Type 0
IsBetween text r = IsCharBoundary text r.from × IsCharBoundary text r.to

abbrev pub AreBetween : List ℕ → List Range → Type 0
AreBetween text [] = Unit {0}
AreBetween text (r ∷ rs) = IsBetween text r × AreBetween text rs

pub between_append : (text : List ℕ) (rs qs : List Range) → AreBetween text rs → AreBetween text qs → AreBetween text (rs ++ qs)
between_append text [] qs first second = second
between_append text (r ∷ rs) qs first second = (first.0, between_append text rs qs first.1 second)

not_there : (text : List ℕ) (at from : ℕ) → at < length text → IsInner (get_or text at 0) → IsCharBoundary text from → at ≡ from → ⊥
not_there text at from less inner edge same =
    let edge_at : IsCharBoundary text at = subst (IsCharBoundary text) (sym same) edge in
    let high : 192 ≤ get_or text at 0 = edge_at.1 less inner.0 in
    omega (arith, high, inner.1)

-- no end of it lies between the byte and the one before
same_in : (at : ℕ) (r : Range) → 0 < at → (at ≡ r.from → ⊥) → (at ≡ r.to → ⊥) → is_in at r ≡ is_in (at - 1) r
same_in at r some begin end = by (cases at r.from) (cases at r.to)
  where
    cases : (m n : ℕ) → (m < n) ⊎ (n ≤ m)
    cases m n = pick_one (nat_lt m n) refl
      where
        over : (m n : ℕ) → nat_lt m n ≡ true → m < n
        over m n is = grind (arith, nat_tests)

        under : (m n : ℕ) → nat_lt m n ≡ false → n ≤ m
        under m n is = grind (arith, nat_tests)

        pick_one : (test : Bool) → nat_lt m n ≡ test → (m < n) ⊎ (n ≤ m)
        pick_one true is = inl (over m n is)
        pick_one false is = inr (under m n is)

    apart : (m n : ℕ) → (m ≡ n → ⊥) → n ≤ m → n < m
    apart m n not less = strict (less_or n m less)
      where
        strict : (n ≡ m) ⊎ (n + 1 ≤ m) → n < m
        strict (inl same) = absurd (not (sym same))
        strict (inr over) = omega (arith, over)

    by : (at < r.from) ⊎ (r.from ≤ at) → (at < r.to) ⊎ (r.to ≤ at) → is_in at r ≡ is_in (at - 1) r
    by (inl before) other = before_range at r before ∙ sym (before_range (at - 1) r (omega (arith, before)))
    by (inr behind) (inl inside) = in_range at r behind inside ∙ sym (in_range (at - 1) r (omega (arith, apart at r.from begin behind)) (omega (arith, inside)))
    by (inr behind) (inr over) = behind_range at r over ∙ sym (behind_range (at - 1) r (omega (arith, apart at r.to end over)))

same_cut : (text : List ℕ) (rs : List Range) (at : ℕ) → 0 < at → at < length text → IsInner (get_or text at 0) → AreBetween text rs → IsCut rs at ≡ IsCut rs (at - 1)
same_cut text [] at some less inner between = refl
same_cut text (r ∷ rs) at some less inner between =
    let first = same_in at r some (not_there text at r.from less inner between.0.0) (not_there text at r.to less inner between.0.1) in
    let others = same_cut text rs at some less inner between.1 in
    ap (λ (x : Bool). x || IsCut rs at) first ∙ ap (λ (x : Bool). is_in (at - 1) r || x) others

pub byte_at : (pre : List ℕ) (b : ℕ) (bs : List ℕ) → get_or (pre ++ b ∷ bs) (length pre) 0 ≡ b
byte_at [] b bs = refl
byte_at (p ∷ pre) b bs = byte_at pre b bs

pub cuts_whole : (text : List ℕ) (rs : List Range) (at : ℕ) (pre bs : List ℕ) → text ≡ pre ++ bs → length pre ≡ at → AreBetween text rs → CutsWhole rs at bs
cuts_whole text rs at pre [] is before between = tt
cuts_whole text rs at pre (b ∷ bs) is before between =
    let size = ap length is ∙ length-append pre (b ∷ bs) in
    let byte : get_or text at 0 ≡ b = ap (λ (xs : List ℕ). get_or xs at 0) is ∙ ap (λ (n : ℕ). get_or (pre ++ b ∷ bs) n 0) (sym before) ∙ byte_at pre b bs in
    (λ inner. first at (subst IsInner (sym byte) inner) (omega (arith, size, before)), cuts_whole text rs (at + 1) (pre ++ b ∷ []) bs (is ∙ sym (append_assoc pre (b ∷ []) bs)) (length-append pre (b ∷ []) ∙ ap (λ n. n + 1) before) between)
  where
    first : (at : ℕ) → IsInner (get_or text at 0) → at < length text → IsCut rs at ≡ IsCut rs (at - 1)
    first at inner less = by (less_or 0 at (omega arith))
      where
        by : (0 ≡ at) ⊎ (0 + 1 ≤ at) → IsCut rs at ≡ IsCut rs (at - 1)
        by (inl none) = let same : at ≡ at - 1 = omega (arith, none) in ap (IsCut rs) same
        by (inr some) = same_cut text rs at (omega (arith, some)) less inner between

pub utf8_left : (text : List ℕ) (rs : List Range) → IsUtf8 text → AreBetween text rs → IsUtf8 (without rs 0 text)
utf8_left text rs (cs, (good, is)) between =
    subst (λ (bs : List ℕ). IsUtf8 (without rs 0 bs)) is (chars_left rs 0 cs good (subst (CutsWhole rs 0) (sym is) (cuts_whole text rs 0 [] text refl refl between)))
