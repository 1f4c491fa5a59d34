-- What stands where a rule may begin ends between two characters: it ends with ASCII, or ASCII follows, or nothing does.
use Rattle.std.proofs.Common.{◌≡◌, ◌⊎◌, ℕ, ◌+◌, ◌-◌, ◌<◌, ◌==◌, ◌&&◌, ◌||◌, nat_eq, nat_lt, Bool, true, false, if◌then◌else◌, List, [], ◌∷◌, ◌++◌, length, take, drop, codes, refl, sym, ap, ◌∙◌, subst, inl, inr, arith, length-append, append_assoc, get_or}
use Rattle.std.specs.List.{starts_with}
use Rattle.std.specs.Str.{IsUtf8, IsCharBoundary}
use Rattle.std.proofs.lemmas.Bool.{and_parts}
use Rattle.std.proofs.lemmas.Bool.Decides.{nat_tests}
use Rattle.std.proofs.lemmas.Str.{IsCharBoundary-end, IsCharBoundary-before_ascii, IsCharBoundary-after_ascii}
use Rattle.text_bytes.specs.Blanks.{is_blank}
use Rattle.text_bytes.specs.Marks.{behind_mark}
use Rattle.sel_text.specs.Bytes.{name_len, behind_close}
use Rattle.css_read.specs.declared.fronts.Front.TheVariants.{Passed, Closes, Styles}
use Rattle.css_read.specs.Holders.{Step}
use Rattle.css_read.specs.Rules.{Begun, begins, list_ends, prelude_ends, behind_block, holds_rules, at_block, at_rule, style_rule, next_front, depth_after}
use Rattle.css_read.specs.Units.{is_one, begins_comment, begins_gap, behind_unit, from_first}
use Rattle.css_read.proofs.CharLemmas.{byte_at}
use Rattle.css_read.proofs.FrontLemmas.{blank_unit, comment_unit}
use Rattle.css_read.proofs.ScanLemmas.{ends_text, found_one}
use Rattle.css_read.proofs.SpanLemmas.{Span, bytes_of, AreRead, steps_at}

-- ---- a text in two

abbrev pub EndsLow : List ℕ → Type 0
EndsLow front = (p : List ℕ) × (a : ℕ) × (a < 128) × (front ≡ p ++ a ∷ [])

abbrev pub BeginsLow : List ℕ → Type 0
BeginsLow [] = ⊥
BeginsLow (a ∷ bs) = a < 128

-- with ASCII at the seam, or nothing behind it
pub record IsPart (bs rest : List ℕ) : Type 0 where
  pub front : List ℕ
  pub whole : bs ≡ front ++ rest
  pub edge : (rest ≡ []) ⊎ (EndsLow front ⊎ BeginsLow rest)

-- an offset behind ASCII
pub after_low : (text p : List ℕ) (a : ℕ) (rest : List ℕ) (at : ℕ) → IsUtf8 text → a < 128 → text ≡ p ++ a ∷ rest → length p + 1 ≡ at → IsCharBoundary text at
after_low text p a rest at utf8 low is here =
    let sizes = ap length is ∙ length-append p (a ∷ rest) in
    let byte : get_or text (length p) 0 ≡ a = ap (λ (xs : List ℕ). get_or xs (length p) 0) is ∙ byte_at p a rest in
    subst (IsCharBoundary text) here (IsCharBoundary-after_ascii text (length p) utf8 (omega (arith, sizes)) (omega (arith, byte, low)))

-- or before ASCII
pub before_low : (text p : List ℕ) (a : ℕ) (rest : List ℕ) (at : ℕ) → a < 128 → text ≡ p ++ a ∷ rest → length p ≡ at → IsCharBoundary text at
before_low text p a rest at low is here =
    let sizes = ap length is ∙ length-append p (a ∷ rest) in
    let byte : get_or text (length p) 0 ≡ a = ap (λ (xs : List ℕ). get_or xs (length p) 0) is ∙ byte_at p a rest in
    subst (IsCharBoundary text) here (IsCharBoundary-before_ascii text (length p) (omega (arith, sizes)) (omega (arith, byte, low)))

pub edge_at : (text pre bs rest : List ℕ) (at : ℕ) → IsUtf8 text → text ≡ pre ++ bs → IsPart bs rest → at + length rest ≡ length text → IsCharBoundary text at
edge_at text pre bs rest at utf8 whole part size = by rest part.front part.whole part.edge size
  where
    by : (rest front : List ℕ) → bs ≡ front ++ rest → (rest ≡ []) ⊎ (EndsLow front ⊎ BeginsLow rest) → at + length rest ≡ length text → IsCharBoundary text at
    by rest front is (inl none) size = let end : length text ≡ at = omega (arith, size, ap length none) in subst (IsCharBoundary text) end (IsCharBoundary-end text)
    by rest front is (inr (inl (p, a, low, ends))) size =
        let all : text ≡ (pre ++ p) ++ a ∷ rest =
        whole ∙ ap (λ xs. pre ++ xs) (is ∙ ap (λ xs. xs ++ rest) ends ∙ append_assoc p (a ∷ []) rest) ∙ sym (append_assoc pre p (a ∷ rest))
        in
        let sizes = ap length all ∙ length-append (pre ++ p) (a ∷ rest) in
        after_low text (pre ++ p) a rest at utf8 low all (omega (arith, sizes, size))
    by [] front is (inr (inr low)) size = absurd low
    by (a ∷ rest) front is (inr (inr low)) size =
        let all : text ≡ (pre ++ front) ++ a ∷ rest = whole ∙ ap (λ xs. pre ++ xs) is ∙ sym (append_assoc pre front (a ∷ rest)) in
        let sizes = ap length all ∙ length-append (pre ++ front) (a ∷ rest) in
        before_low text (pre ++ front) a rest at low all (omega (arith, sizes, size))

-- ---- parts that are passed over

pub part_behind : (b : ℕ) (bs rest : List ℕ) → IsPart bs rest → IsPart (b ∷ bs) rest
part_behind b bs rest part = record { front = b ∷ part.front; whole = ap (λ xs. b ∷ xs) part.whole; edge = by part.edge }
  where
    by : (rest ≡ []) ⊎ (EndsLow part.front ⊎ BeginsLow rest) → (rest ≡ []) ⊎ (EndsLow (b ∷ part.front) ⊎ BeginsLow rest)
    by (inl none) = inl none
    by (inr (inl (p, a, low, is))) = inr (inl (b ∷ p, a, low, ap (λ xs. b ∷ xs) is))
    by (inr (inr low)) = inr (inr low)

pub part_byte : (b : ℕ) (bs : List ℕ) → b < 128 → IsPart (b ∷ bs) bs
part_byte b bs low = record { front = b ∷ []; whole = refl; edge = inr (inl ([], b, low, refl)) }

part_then : (bs front cs rest : List ℕ) → bs ≡ front ++ cs → IsPart cs rest → IsPart bs rest
part_then bs front cs rest is part = record { front = front ++ part.front; whole = is ∙ ap (λ xs. front ++ xs) part.whole ∙ sym (append_assoc front part.front rest); edge = by part.edge }
  where
    by : (rest ≡ []) ⊎ (EndsLow part.front ⊎ BeginsLow rest) → (rest ≡ []) ⊎ (EndsLow (front ++ part.front) ⊎ BeginsLow rest)
    by (inl none) = inl none
    by (inr (inl (p, a, low, is))) = inr (inl (front ++ p, a, low, ap (λ xs. front ++ xs) is ∙ sym (append_assoc front p (a ∷ []))))
    by (inr (inr low)) = inr (inr low)

slash_part : (b : ℕ) (bs : List ℕ) → starts_with nat_eq (b ∷ bs) (codes "*/") ≡ true → IsPart (b ∷ bs) (drop 1 bs)
slash_part b [] is = absurd (grind (arith, nat_tests))
slash_part b (c ∷ bs) is = let low : c < 128 = grind (arith, nat_tests) in part_behind b (c ∷ bs) bs (part_byte c bs low)

pub close_part : (bs : List ℕ) → IsPart bs (behind_close bs)
unfolding behind_mark
close_part [] = record { front = []; whole = refl; edge = inl refl }
close_part (b ∷ bs) = by (starts_with nat_eq (b ∷ bs) (codes "*/")) refl (close_part bs)
  where
    by : (test : Bool) → starts_with nat_eq (b ∷ bs) (codes "*/") ≡ test → IsPart bs (behind_mark (codes "*/") bs) → IsPart (b ∷ bs) (if test then drop 1 bs else behind_mark (codes "*/") bs)
    by true is later = slash_part b bs is
    by false is later = part_behind b bs (behind_mark (codes "*/") bs) later

comment_part : (b : ℕ) (bs : List ℕ) → begins_comment (b ∷ bs) ≡ true → IsPart (b ∷ bs) (behind_close (drop 1 bs))
comment_part b [] is = absurd (grind (arith, nat_tests))
comment_part b (c ∷ bs) is = part_behind b (c ∷ bs) (behind_close bs) (part_behind c bs (behind_close bs) (close_part bs))

pub gap_part : (b : ℕ) (bs : List ℕ) → begins_gap (b ∷ bs) ≡ true → IsPart (b ∷ bs) (behind_unit (b ∷ bs))
gap_part b bs gap = by (is_blank b) refl gap
  where
    low : is_blank b ≡ true → b < 128
    low is = grind (arith, nat_tests)

    by : (blank : Bool) → is_blank b ≡ blank → (blank || begins_comment (b ∷ bs)) ≡ true → IsPart (b ∷ bs) (behind_unit (b ∷ bs))
    by true is gap = subst (IsPart (b ∷ bs)) (sym (blank_unit b bs is)) (part_byte b bs (low is))
    by false is comment = subst (IsPart (b ∷ bs)) (sym (comment_unit b bs comment)) (comment_part b bs comment)

abbrev AreLow : List ℕ → Type 0
AreLow [] = Unit {0}
AreLow (y ∷ ys) = (y < 128) × AreLow ys

one_low : (ys : List ℕ) (c : ℕ) → AreLow ys → is_one ys c ≡ true → c < 128
one_low [] c low is = absurd cc
one_low (y ∷ ys) c low is = by (nat_eq y c) refl is (one_low ys c low.1)
  where
    same : nat_eq y c ≡ true → y ≡ c
    same is = grind (arith, nat_tests)

    by : (test : Bool) → nat_eq y c ≡ test → (test || is_one ys c) ≡ true → (is_one ys c ≡ true → c < 128) → c < 128
    by true is one later = omega (arith, same is, low.0)
    by false is one later = later one

pub first_part : (bytes bs : List ℕ) → AreLow bytes → IsPart bs (from_first bytes bs)
first_part bytes bs low = let end = ends_text bytes [] 0 bs in record { front = end.front; whole = end.whole; edge = by (from_first bytes bs) end.front refl }
  where
    by : (rest front : List ℕ) → from_first bytes bs ≡ rest → (rest ≡ []) ⊎ (EndsLow front ⊎ BeginsLow rest)
    by [] front is = inl refl
    by (c ∷ t) front is = inr (inr (one_low bytes c low (found_one bytes [] 0 bs c t is)))

pub past_first : (bytes bs : List ℕ) → AreLow bytes → IsPart bs (drop 1 (from_first bytes bs))
past_first bytes bs low = let end = ends_text bytes [] 0 bs in by (from_first bytes bs) end.front end.whole refl
  where
    by : (rest front : List ℕ) → bs ≡ front ++ rest → from_first bytes bs ≡ rest → IsPart bs (drop 1 rest)
    by [] front whole is = record { front = front; whole = whole; edge = inl refl }
    by (c ∷ t) front whole is =
        record { front = front ++ c ∷ []; whole = whole ∙ sym (append_assoc front (c ∷ []) t); edge = inr (inl (front, c, one_low bytes c low (found_one bytes [] 0 bs c t is), refl)) }

low_brace : AreLow (codes "}")
low_brace = (omega arith, tt)

low_list : (inside : Bool) → AreLow (list_ends inside)
low_list true = (omega arith, (omega arith, tt))
low_list false = (omega arith, tt)

low_prelude : (inside : Bool) → AreLow (prelude_ends inside)
low_prelude true = (omega arith, (omega arith, (omega arith, tt)))
low_prelude false = (omega arith, (omega arith, tt))

pub block_part : (bs : List ℕ) → IsPart bs (behind_block bs)
unfolding behind_block
block_part bs = past_first (codes "}") bs low_brace

-- ---- what stands where a rule may begin

choose : (test : Bool) (bs : List ℕ) (f g : Begun) → (test ≡ true → IsPart bs f.1) → IsPart bs g.1 → IsPart bs (if test then f else g).1
choose true bs f g first second = first refl
choose false bs f g first second = second

-- behind what was found, and behind a block there
block_behind : (bs cs : List ℕ) → IsPart bs cs → IsPart bs (behind_block cs)
block_behind bs cs part = part_then bs part.front cs (behind_block cs) part.whole (block_part cs)

at_block_part : (holds : Bool) (bs cs : List ℕ) → IsPart bs cs → IsPart bs (at_block holds cs).1
at_block_part true bs cs part = part
at_block_part false bs cs part = block_behind bs cs part

at_part : (inside : Bool) (bs : List ℕ) → IsPart bs (at_rule inside bs).1
unfolding at_rule
at_part inside bs =
    let end = from_first (prelude_ends inside) bs in
    let past = past_first (prelude_ends inside) bs (low_prelude inside) in
    choose (begins (codes "{") end) bs _ _ (λ is. at_block_part (holds_rules (take (name_len bs) bs)) bs (drop 1 end) past)
    (choose (begins (codes ";") end) bs (Passed, drop 1 end) (Passed, end) (λ is. past) (first_part (prelude_ends inside) bs (low_prelude inside)))

style_part : (inside : Bool) (bs : List ℕ) → IsPart bs (style_rule inside bs).1
unfolding style_rule
style_part inside bs =
    let end = from_first (list_ends inside) bs in
    choose (begins (codes "{") end) bs (Styles (length bs - length end), behind_block (drop 1 end)) (Passed, end) (λ is. block_behind bs (drop 1 end) (past_first (list_ends inside) bs (low_list inside)))
    (first_part (list_ends inside) bs (low_list inside))

pub front_part : (inside : Bool) (b : ℕ) (bs : List ℕ) → IsPart (b ∷ bs) (next_front inside (b ∷ bs)).1
unfolding next_front
front_part inside b bs =
    choose (begins_gap (b ∷ bs)) (b ∷ bs) (Passed, behind_unit (b ∷ bs)) _ (λ is. gap_part b bs is)
    (choose (inside && b == 125) (b ∷ bs) (Closes, bs) _ (λ is. part_byte b bs (low is))
    (choose (b == 64) (b ∷ bs) (at_rule inside bs) (style_rule inside (b ∷ bs)) (λ is. part_behind b bs (at_rule inside bs).1 (at_part inside bs)) (style_part inside (b ∷ bs))))
  where
    low : (inside && b == 125) ≡ true → b < 128
    low is = let brace = (and_parts inside (b == 125) is).1 in grind (arith, nat_tests)

-- ---- steps

abbrev pub AreEdges : List ℕ → List Step → Type 0
AreEdges text [] = Unit {0}
AreEdges text (s ∷ ss) = IsCharBoundary text s.from × IsCharBoundary text s.to × AreEdges text ss

pub read_part : (inside : Bool) (p rest : List ℕ) (f : Begun) → 0 < length p → next_front inside (p ++ rest) ≡ f → f.1 ≡ rest → IsPart (p ++ rest) rest
read_part inside [] rest f some reads is = absurd (omega arith)
read_part inside (b ∷ p) rest f some reads is = subst (IsPart (b ∷ p ++ rest)) (ap (λ (g : Begun). g.1) reads ∙ is) (front_part inside b (p ++ rest))

pub span_edges : (text : List ℕ) (ss : List Span) (n at : ℕ) (pre : List ℕ) → IsUtf8 text → AreRead n ss → text ≡ pre ++ bytes_of ss → length pre ≡ at → IsCharBoundary text at → AreEdges text (steps_at at ss)
span_edges text [] n at pre utf8 read whole before here = tt
span_edges text (s ∷ ss) n at pre utf8 read whole before here =
    let rest = bytes_of ss in
    let sizes = ap length whole ∙ length-append pre (s.bytes ++ rest) in
    let size = length-append s.bytes rest in
    let part = read_part (nat_lt 0 n) s.bytes rest (s.front, rest) read.0.some read.0.reads refl in
    let end = edge_at text pre (s.bytes ++ rest) rest (at + length s.bytes) utf8 whole part (omega (arith, sizes, size, before)) in
    (here, end, span_edges text ss (depth_after n s.front) (at + length s.bytes) (pre ++ s.bytes) utf8 read.1 (whole ∙ sym (append_assoc pre s.bytes rest)) (length-append pre s.bytes ∙ ap (λ k. k + length s.bytes) before) end)
