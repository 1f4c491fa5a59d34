-- A selector of a list begins and ends between two characters.
use Rattle.std.proofs.Common.{◌≡◌, ◌⊎◌, ℕ, zero, suc, ◌+◌, ◌-◌, ◌<◌, ◌==◌, ◌&&◌, nat_eq, Bool, true, false, if◌then◌else◌, List, [], ◌∷◌, ◌++◌, length, take, drop, codes, refl, sym, ap, ◌∙◌, subst, inl, inr, arith, length-append, append_assoc, append-nil}
use Rattle.std.specs.List.{starts_with}
use Rattle.std.specs.Str.{IsUtf8, IsCharBoundary}
use Rattle.std.proofs.lemmas.Bool.{and_parts}
use Rattle.std.proofs.lemmas.Bool.Decides.{nat_tests}
use Rattle.std.proofs.lemmas.List.{drop_at, take_at, length-take-le, take-append-drop, drop-drop}
use Rattle.text_bytes.specs.Blanks.{is_blank}
use Rattle.sel_text.specs.Bytes.{behind_close, behind_gap}
use Rattle.text_bytes.specs.Marks.{behind_mark}
use Rattle.css_read.specs.Pieces.{with_unit, solid_len, piece_of, from_comma, first_piece, more_pieces, pieces}
use Rattle.css_read.specs.Units.{is_one, begins_comment, begins_gap, behind_unit}
use Rattle.css_read.proofs.CharLemmas.{IsBetween, AreBetween}
use Rattle.css_read.proofs.EdgeLemmas.{EndsLow, BeginsLow, after_low, before_low}
use Rattle.css_read.proofs.FrontLemmas.{comment_unit, unit_end}
use Rattle.css_read.proofs.PieceOrder.{solid_within}
use Rattle.css_read.proofs.ScanLemmas.{found_one, ends_text}

-- ---- behind a gap

-- nothing before it, or ASCII, or nothing behind it
record IsGap (bs rest : List ℕ) : Type 0 where
  front : List ℕ
  whole : bs ≡ front ++ rest
  edge : (front ≡ []) ⊎ (EndsLow front ⊎ (rest ≡ []))

no_gap : (bs : List ℕ) → IsGap bs bs
no_gap bs = record { front = []; whole = refl; edge = inl refl }

ends_low : (front others : List ℕ) → EndsLow others → EndsLow (front ++ others)
ends_low front others (p, a, low, is) = (front ++ p, a, low, ap (λ xs. front ++ xs) is ∙ sym (append_assoc front p (a ∷ [])))

none_behind : (front rest : List ℕ) → front ++ rest ≡ [] → rest ≡ []
none_behind [] rest is = is
none_behind (b ∷ front) rest is = absurd (omega (arith, ap length is))

-- behind a unit that ends with ASCII, or with the text
gap_more : (front cs rest : List ℕ) → EndsLow front ⊎ (cs ≡ []) → IsGap cs rest → IsGap (front ++ cs) rest
gap_more front cs rest ends gap = record {
  front = front ++ gap.front;
  whole = ap (λ xs. front ++ xs) gap.whole ∙ sym (append_assoc front gap.front rest);
  edge = by ends gap.edge;
}
  where
    by : EndsLow front ⊎ (cs ≡ []) → (gap.front ≡ []) ⊎ (EndsLow gap.front ⊎ (rest ≡ [])) → (front ++ gap.front ≡ []) ⊎ (EndsLow (front ++ gap.front) ⊎ (rest ≡ []))
    by (inr none) later = inr (inr (none_behind gap.front rest (sym gap.whole ∙ none)))
    by (inl low) (inl none) = inr (inl (subst EndsLow (sym (ap (λ xs. front ++ xs) none ∙ append-nil front)) low))
    by (inl low) (inr (inl later)) = inr (inl (ends_low front gap.front later))
    by (inl low) (inr (inr none)) = inr (inr none)

blank_low : (b : ℕ) → is_blank b ≡ true → b < 128
blank_low b is = grind (arith, nat_tests)

blank_more : (b : ℕ) (bs rest : List ℕ) → is_blank b ≡ true → IsGap bs rest → IsGap (b ∷ bs) rest
blank_more b bs rest is gap = gap_more (b ∷ []) bs rest (inl ([], b, blank_low b is, refl)) gap

-- behind a comment's end, or behind the text
close_ends : (bs : List ℕ) → (front : List ℕ) × (bs ≡ front ++ behind_close bs) × (EndsLow front ⊎ (behind_close bs ≡ []))
unfolding behind_mark
close_ends [] = ([], refl, inr refl)
close_ends (b ∷ bs) = by (starts_with nat_eq (b ∷ bs) (codes "*/")) refl (close_ends bs)
  where
    star : (bs : List ℕ) → starts_with nat_eq (b ∷ bs) (codes "*/") ≡ true → (front : List ℕ) × (b ∷ bs ≡ front ++ drop 1 bs) × (EndsLow front ⊎ (drop 1 bs ≡ []))
    star [] is = absurd (grind (arith, nat_tests))
    star (c ∷ t) is = let low : c < 128 = grind (arith, nat_tests) in (b ∷ c ∷ [], refl, inl (b ∷ [], c, low, refl))

    by : (test : Bool) → starts_with nat_eq (b ∷ bs) (codes "*/") ≡ test → (front : List ℕ) × (bs ≡ front ++ behind_mark (codes "*/") bs) × (EndsLow front ⊎ (behind_mark (codes "*/") bs ≡ []))
        → (front : List ℕ) × (b ∷ bs ≡ front ++ (if test then drop 1 bs else behind_mark (codes "*/") bs)) × (EndsLow front ⊎ ((if test then drop 1 bs else behind_mark (codes "*/") bs) ≡ []))
    by true is later = star bs is
    by false is (front, whole, inl low) = (b ∷ front, ap (λ xs. b ∷ xs) whole, inl (ends_low (b ∷ []) front low))
    by false is (front, whole, inr none) = (b ∷ front, ap (λ xs. b ∷ xs) whole, inr none)

comment_more : (b : ℕ) (bs rest : List ℕ) → begins_comment (b ∷ bs) ≡ true → IsGap (behind_close (drop 1 bs)) rest → IsGap (b ∷ bs) rest
comment_more b [] rest comment gap = absurd (grind (arith, nat_tests))
comment_more b (c ∷ t) rest comment gap =
    let close = close_ends t in
    let ends : EndsLow (b ∷ c ∷ close.0) ⊎ (behind_close t ≡ []) = by close.0 (behind_close t) close.2 in
    let all : b ∷ c ∷ t ≡ (b ∷ c ∷ close.0) ++ behind_close t = ap (λ xs. b ∷ c ∷ xs) close.1 in
    subst (λ (xs : List ℕ). IsGap xs rest) (sym all) (gap_more (b ∷ c ∷ close.0) (behind_close t) rest ends gap)
  where
    by : (front rest : List ℕ) → EndsLow front ⊎ (rest ≡ []) → EndsLow (b ∷ c ∷ front) ⊎ (rest ≡ [])
    by front rest (inl low) = inl (ends_low (b ∷ c ∷ []) front low)
    by front rest (inr none) = inr none

-- what is left of a comment is passed over
left_of : (b : ℕ) (bs : List ℕ) → begins_comment (b ∷ bs) ≡ true → drop (length bs - length (behind_close (drop 1 bs))) bs ≡ behind_close (drop 1 bs)
left_of b bs comment =
    let end = unit_end b bs in
    let whole : bs ≡ end.front ++ behind_close (drop 1 bs) = end.whole ∙ ap (λ xs. end.front ++ xs) (comment_unit b bs comment) in
    let count : length end.front ≡ length bs - length (behind_close (drop 1 bs)) = omega (arith, ap length whole ∙ length-append end.front (behind_close (drop 1 bs))) in
    ap (drop (length bs - length (behind_close (drop 1 bs)))) whole ∙ drop_at end.front (behind_close (drop 1 bs)) (length bs - length (behind_close (drop 1 bs))) count

gap_is : (skip : ℕ) (bs : List ℕ) → IsGap (drop skip bs) (behind_gap true skip bs)
unfolding behind_gap
gap_is zero [] = no_gap []
gap_is (suc skip) [] = no_gap []
gap_is (suc skip) (b ∷ bs) = gap_is skip bs
gap_is zero (b ∷ bs) = by (is_blank b) (begins_comment (b ∷ bs)) refl refl (gap_is zero bs) (gap_is (length bs - length (behind_close (drop 1 bs))) bs)
  where
    left : ℕ
    left = length bs - length (behind_close (drop 1 bs))

    by : (blank comment : Bool) → is_blank b ≡ blank → begins_comment (b ∷ bs) ≡ comment → IsGap bs (behind_gap true zero bs) → IsGap (drop left bs) (behind_gap true left bs)
        → IsGap (b ∷ bs) (if blank then behind_gap true zero bs else (if comment then behind_gap true left bs else b ∷ bs))
    by true comment is begins first second = blank_more b bs (behind_gap true zero bs) is first
    by false true is begins first second = comment_more b bs (behind_gap true left bs) begins (subst (λ (xs : List ℕ). IsGap xs (behind_gap true left bs)) (left_of b bs begins) second)
    by false false is begins first second = no_gap (b ∷ bs)

-- ---- up to a gap at the end

abbrev IsLowOrNone : List ℕ → Type 0
IsLowOrNone [] = Unit {0}
IsLowOrNone (a ∷ bs) = a < 128

gap_low : (b : ℕ) (bs : List ℕ) → begins_gap (b ∷ bs) ≡ true → b < 128
gap_low b [] gap = grind (arith, nat_tests)
gap_low b (c ∷ bs) gap = grind (arith, nat_tests)

drop_more : (n m b : ℕ) (bs : List ℕ) → drop (1 + n + m) (b ∷ bs) ≡ drop m (drop n bs)
drop_more n m b bs = let next : 1 + n + m ≡ suc (n + m) = omega arith in ap (λ k. drop k (b ∷ bs)) next ∙ sym (drop-drop m n bs)

solid_low : (skip : ℕ) (bs : List ℕ) → IsLowOrNone (drop (solid_len skip bs) (drop skip bs))
unfolding solid_len
solid_low zero [] = tt
solid_low (suc skip) [] = tt
solid_low (suc skip) (b ∷ bs) = solid_low skip bs
solid_low zero (b ∷ bs) =
    let left = length bs - length (behind_unit (b ∷ bs)) in
    by left (begins_gap (b ∷ bs)) (solid_len left bs) refl (solid_low left bs)
  where
    either : (test : Bool) (left others : ℕ) → (test ≡ true → b < 128) → IsLowOrNone (drop others (drop left bs)) → IsLowOrNone (drop (if test then 0 else 1 + left + others) (b ∷ bs))
    either true left others low later = low refl
    either false left others low later = subst IsLowOrNone (sym (drop_more left others b bs)) later

    by : (left : ℕ) (gap : Bool) (others : ℕ) → begins_gap (b ∷ bs) ≡ gap → IsLowOrNone (drop others (drop left bs)) → IsLowOrNone (drop (with_unit gap (1 + left) others) (b ∷ bs))
    by left gap others is later = either (gap && others == 0) left others (λ both. gap_low b bs (is ∙ (and_parts gap (others == 0) both).0)) later

-- ---- a piece

pub piece_edges : (text pre bs post : List ℕ) (to : ℕ) → IsUtf8 text → text ≡ pre ++ (bs ++ post) → BeginsLow post → length pre + length bs ≡ to → IsCharBoundary text (length pre) → IsBetween text (piece_of to bs)
unfolding piece_of
piece_edges text pre bs post to utf8 whole low size here =
    let solid = behind_gap true 0 bs in
    let gap = gap_is 0 bs in
    let n = solid_len 0 solid in
    let kept = take n solid in
    let left = drop n solid in
    let split : solid ≡ kept ++ left = sym (take-append-drop n solid) in
    let within = solid_within 0 solid in
    let count : length kept ≡ n = length-take-le n solid (omega (arith, within)) in
    let sizes = ap length gap.whole ∙ length-append gap.front solid in
    let first : text ≡ (pre ++ gap.front) ++ (solid ++ post) = whole ∙ ap (λ xs. pre ++ xs) (ap (λ xs. xs ++ post) gap.whole ∙ append_assoc gap.front solid post) ∙ sym (append_assoc pre gap.front (solid ++ post)) in
    let from : length (pre ++ gap.front) ≡ to - length solid = length-append pre gap.front ∙ omega (arith, sizes, size) in
    let second : text ≡ ((pre ++ gap.front) ++ kept) ++ (left ++ post) =
    first ∙ ap (λ xs. (pre ++ gap.front) ++ xs) (ap (λ xs. xs ++ post) split ∙ append_assoc kept left post) ∙ sym (append_assoc (pre ++ gap.front) kept (left ++ post))
    in
    let end : length ((pre ++ gap.front) ++ kept) ≡ to - length solid + n = length-append (pre ++ gap.front) kept ∙ omega (arith, from, count) in
    (begins gap.front solid gap.whole gap.edge (to - length solid) first from, ends ((pre ++ gap.front) ++ kept) left (to - length solid + n) second end (solid_low 0 solid))
  where
    before : (p : List ℕ) (rest : List ℕ) (at : ℕ) → BeginsLow rest → text ≡ p ++ rest → length p ≡ at → IsCharBoundary text at
    before p [] at low is count = absurd low
    before p (a ∷ rest) at low is count = before_low text p a rest at low is count

    begins : (front solid : List ℕ) → bs ≡ front ++ solid → (front ≡ []) ⊎ (EndsLow front ⊎ (solid ≡ [])) → (at : ℕ) → text ≡ (pre ++ front) ++ (solid ++ post) → length (pre ++ front) ≡ at → IsCharBoundary text at
    begins front solid is (inl none) at first count = let same : length pre ≡ at = sym (ap length (ap (λ xs. pre ++ xs) none ∙ append-nil pre)) ∙ count in subst (IsCharBoundary text) same here
    begins front solid is (inr (inl (p, a, low, end))) at first count =
        let all : text ≡ (pre ++ p) ++ a ∷ (solid ++ post) =
        first ∙ ap (λ xs. xs ++ (solid ++ post)) (ap (λ xs. pre ++ xs) end ∙ sym (append_assoc pre p (a ∷ []))) ∙ append_assoc (pre ++ p) (a ∷ []) (solid ++ post)
        in
        let sizes = length-append pre front ∙ ap (λ k. length pre + k) (ap length end ∙ length-append p (a ∷ [])) in
        after_low text (pre ++ p) a (solid ++ post) at utf8 low all (omega (arith, length-append pre p, sizes, count))
    begins front solid is (inr (inr none)) at first count = before (pre ++ front) post at low (first ∙ ap (λ xs. (pre ++ front) ++ (xs ++ post)) none) count

    ends : (p left : List ℕ) (at : ℕ) → text ≡ p ++ (left ++ post) → length p ≡ at → IsLowOrNone left → IsCharBoundary text at
    ends p [] at is count kind = before p post at low is count
    ends p (a ∷ left) at is count kind = before_low text p a (left ++ post) at kind is count

-- ---- those of a list, which a `{` follows

low_rest : (rest post : List ℕ) → (rest ≡ []) ⊎ BeginsLow rest → BeginsLow post → BeginsLow (rest ++ post)
low_rest rest post (inl none) low = subst (λ (xs : List ℕ). BeginsLow (xs ++ post)) (sym none) low
low_rest [] post (inr begins) low = absurd begins
low_rest (a ∷ rest) post (inr begins) low = begins

comma_low : (bs : List ℕ) → (from_comma bs ≡ []) ⊎ BeginsLow (from_comma bs)
comma_low bs = by (from_comma bs) refl
  where
    low : (c : ℕ) → is_one (codes ",") c ≡ true → c < 128
    low c is = grind (arith, nat_tests)

    by : (rest : List ℕ) → from_comma bs ≡ rest → (rest ≡ []) ⊎ BeginsLow rest
    by [] is = inl refl
    by (c ∷ t) is = inr (low c (found_one (codes ",") [] 0 bs c t is))

-- the one before the next comma
first_edges : (text pre bs post : List ℕ) (to : ℕ) → IsUtf8 text → text ≡ pre ++ (bs ++ post) → BeginsLow post → length pre + length bs ≡ to → IsCharBoundary text (length pre) → IsBetween text (first_piece to bs)
unfolding first_piece
first_edges text pre bs post to utf8 whole low size here =
    let rest = from_comma bs in
    let end = ends_text (codes ",") [] 0 bs in
    let sizes = ap length end.whole ∙ length-append end.front rest in
    let count : length end.front ≡ length bs - length rest = omega (arith, sizes) in
    let piece : take (length bs - length rest) bs ≡ end.front = ap (take (length bs - length rest)) end.whole ∙ take_at end.front rest (length bs - length rest) count in
    let all : text ≡ pre ++ (end.front ++ (rest ++ post)) = whole ∙ ap (λ xs. pre ++ xs) (ap (λ xs. xs ++ post) end.whole ∙ append_assoc end.front rest post) in
    subst (λ (xs : List ℕ). IsBetween text (piece_of (to - length rest) xs)) (sym piece)
    (piece_edges text pre end.front (rest ++ post) (to - length rest) utf8 all (low_rest rest post (comma_low bs) low) (omega (arith, sizes, size)) here)

more_edges : (text post : List ℕ) (to skip : ℕ) (bs pre : List ℕ) → IsUtf8 text → BeginsLow post → text ≡ pre ++ (drop skip bs ++ post) → length pre + length (drop skip bs) ≡ to → (drop skip bs ≡ []) ⊎ BeginsLow (drop skip bs)
    → AreBetween text (more_pieces to skip bs)
unfolding more_pieces
more_edges text post to skip [] pre utf8 low whole size begins = tt
more_edges text post to (suc skip) (b ∷ bs) pre utf8 low whole size begins = more_edges text post to skip bs pre utf8 low whole size begins
more_edges text post to zero (b ∷ bs) pre utf8 low whole size begins =
    let rest = from_comma bs in
    let end = ends_text (codes ",") [] 0 bs in
    let sizes = ap length end.whole ∙ length-append end.front rest in
    let count : length end.front ≡ length bs - length rest = omega (arith, sizes) in
    let left : drop (length bs - length rest) bs ≡ rest = ap (drop (length bs - length rest)) end.whole ∙ drop_at end.front rest (length bs - length rest) count in
    let before : length (pre ++ b ∷ []) ≡ length pre + 1 = length-append pre (b ∷ []) in
    let all : text ≡ (pre ++ b ∷ []) ++ (bs ++ post) = whole ∙ sym (append_assoc pre (b ∷ []) (bs ++ post)) in
    let behind : text ≡ ((pre ++ b ∷ []) ++ end.front) ++ (drop (length bs - length rest) bs ++ post) =
    all ∙ ap (λ xs. (pre ++ b ∷ []) ++ xs) (ap (λ xs. xs ++ post) (end.whole ∙ ap (λ xs. end.front ++ xs) (sym left)) ∙ append_assoc end.front (drop (length bs - length rest) bs) post)
    ∙ sym (append_assoc (pre ++ b ∷ []) end.front (drop (length bs - length rest) bs ++ post))
    in
    let here : IsCharBoundary text (length (pre ++ b ∷ [])) = after_low text pre b (bs ++ post) (length (pre ++ b ∷ [])) utf8 (is_low begins) whole (sym before) in
    let later_size : length ((pre ++ b ∷ []) ++ end.front) + length (drop (length bs - length rest) bs) ≡ to =
    omega (arith, length-append (pre ++ b ∷ []) end.front, before, ap length left, sizes, size)
    in (
      first_edges text (pre ++ b ∷ []) bs post to utf8 all low (omega (arith, before, size)) here,
      more_edges text post to (length bs - length rest) bs ((pre ++ b ∷ []) ++ end.front) utf8 low behind later_size (subst (λ (xs : List ℕ). (xs ≡ []) ⊎ BeginsLow xs) (sym left) (comma_low bs)),
    )
  where
    is_low : (b ∷ bs ≡ []) ⊎ (b < 128) → b < 128
    is_low (inl none) = absurd (omega (arith, ap length none))
    is_low (inr low) = low

pub pieces_edges : (text pre bs post : List ℕ) (to : ℕ) → IsUtf8 text → text ≡ pre ++ (bs ++ post) → BeginsLow post → length pre + length bs ≡ to → IsCharBoundary text (length pre) → AreBetween text (pieces to bs)
unfolding pieces
pieces_edges text pre bs post to utf8 whole low size here =
    let rest = from_comma bs in
    let end = ends_text (codes ",") [] 0 bs in
    let sizes = ap length end.whole ∙ length-append end.front rest in
    let all : text ≡ (pre ++ end.front) ++ (rest ++ post) = whole ∙ ap (λ xs. pre ++ xs) (ap (λ xs. xs ++ post) end.whole ∙ append_assoc end.front rest post) ∙ sym (append_assoc pre end.front (rest ++ post)) in
    (first_edges text pre bs post to utf8 whole low size here, more_edges text post to 0 rest (pre ++ end.front) utf8 low all (omega (arith, length-append pre end.front, sizes, size)) (comma_low bs))
