-- A list of selectors that stands elsewhere has its selectors at the same places, seen from its end, and each has the same bytes.
use Rattle.std.proofs.Common.{◌≡◌, ℕ, true, zero, suc, ◌+◌, ◌-◌, ◌≤◌, List, [], ◌∷◌, ◌++◌, length, take, drop, map, slice_range, codes, refl, sym, ap, ◌∙◌, subst, arith, length-append, append_assoc, take-append-drop}
use Rattle.std.proofs.lemmas.List.{length-take, length-take-le, length-drop, take-append-le, drop-append-le}
use Rattle.css_read.specs.declared.sheets.Range.{Range}
use Rattle.css_read.specs.Order.{AreApart, range_of}
use Rattle.css_read.specs.Pieces.{piece_of, from_comma, first_piece, more_pieces, pieces}
use Rattle.css_read.specs.Sheets.{Item}
use Rattle.css_read.proofs.CutLemmas.{size_of}
use Rattle.css_read.proofs.FlagLemmas.{place_is}
use Rattle.css_read.proofs.Lengths.{no_longer, gap_no_longer}
use Rattle.css_read.proofs.PartLemmas.{comma, joined, place_at, places}
use Rattle.css_read.proofs.PieceOrder.{pieces_apart, in_order}
use Rattle.css_read.proofs.RelistLemmas.{text_of, joined_size}
use Rattle.css_read.proofs.RulePlans.{part_text, slice_at}
use Rattle.css_read.proofs.ThinLemmas.{lead, solid}
use Rattle.css_read.proofs.UnitLemmas.{Chunk, flat, flat-append}

-- ---- places before two ends

-- as far from one end as from the other
pub record IsShifted (to later : ℕ) (p q : Range) : Type 0 where
  pub from : p.from + later ≡ q.from + to
  pub end : p.to + later ≡ q.to + to

abbrev pub AreShifted : ℕ → ℕ → List Range → List Range → Type 0
AreShifted to later [] [] = Unit {0}
AreShifted to later (p ∷ ps) (q ∷ qs) = IsShifted to later p q × AreShifted to later ps qs
AreShifted to later ps qs = ⊥

piece_shifted : (to later : ℕ) (bs : List ℕ) → length bs ≤ to → length bs ≤ later → IsShifted to later (piece_of to bs) (piece_of later bs)
unfolding piece_of
piece_shifted to later bs within within_later = let few = gap_no_longer true 0 bs in record { from = omega arith; end = omega arith }

nearer : (to later n : ℕ) (p q : Range) → n ≤ to → n ≤ later → IsShifted (to - n) (later - n) p q → IsShifted to later p q
nearer to later n p q within within_later is = record { from = omega (arith, is.from); end = omega (arith, is.end) }

first_shifted : (to later : ℕ) (bs : List ℕ) → length bs ≤ to → length bs ≤ later → IsShifted to later (first_piece to bs) (first_piece later bs)
unfolding first_piece
first_shifted to later bs within within_later =
    let rest = from_comma bs in
    let few = no_longer (codes ",") [] 0 bs in
    let count = length-take (length bs - length rest) bs in
    nearer to later (length rest) _ _ (omega arith) (omega arith) (piece_shifted (to - length rest) (later - length rest) (take (length bs - length rest) bs) (omega arith) (omega arith))

more_shifted : (to later skip : ℕ) (bs : List ℕ) → length bs ≤ to → length bs ≤ later → AreShifted to later (more_pieces to skip bs) (more_pieces later skip bs)
unfolding more_pieces
more_shifted to later skip [] within within_later = tt
more_shifted to later (suc skip) (b ∷ bs) within within_later = more_shifted to later skip bs (omega arith) (omega arith)
more_shifted to later zero (b ∷ bs) within within_later =
    (first_shifted to later bs (omega arith) (omega arith), more_shifted to later (length bs - length (from_comma bs)) bs (omega arith) (omega arith))

pub pieces_shifted : (to later : ℕ) (bs : List ℕ) → length bs ≤ to → length bs ≤ later → AreShifted to later (pieces to bs) (pieces later bs)
unfolding pieces
pieces_shifted to later bs within within_later =
    let few = no_longer (codes ",") [] 0 bs in
    (first_shifted to later bs within within_later, more_shifted to later 0 (from_comma bs) (omega arith) (omega arith))

-- ---- the bytes there

-- a selector of a text, and a place of another text that has its bytes
pub record HasBytes (text other : List ℕ) (i : Item) (r : Range) : Type 0 where
  pub size : ℕ
  pub same : slice_range text i.from i.to ≡ slice_range other r.from r.to
  pub count : length (slice_range text i.from i.to) ≡ size
  pub first : i.from + size ≡ i.to
  pub second : r.from + size ≡ r.to

abbrev pub HaveBytes : List ℕ → List ℕ → List Item → List Range → Type 0
HaveBytes text other [] [] = Unit {0}
HaveBytes text other (i ∷ is) (r ∷ rs) = HasBytes text other i r × HaveBytes text other is rs
HaveBytes text other is rs = ⊥

-- a place within a list that begins at an offset
slice_in : (pre list rest : List ℕ) (at from to : ℕ) → length pre ≡ at → at ≤ from → from ≤ to → to ≤ at + length list → slice_range (pre ++ (list ++ rest)) from to ≡ take (to - from) (drop (from - at) list)
slice_in pre list rest at from to before low order high =
    let left = length-drop (from - at) list in
    ap (take (to - from)) (drop_in pre (list ++ rest) at from before low ∙ drop-append-le (from - at) list rest (omega arith)) ∙ take-append-le (to - from) (drop (from - at) list) rest (omega arith)
  where
    drop_in : (pre xs : List ℕ) (at from : ℕ) → length pre ≡ at → at ≤ from → drop from (pre ++ xs) ≡ drop (from - at) xs
    drop_in [] xs at from before low = let same : from - at ≡ from = omega arith in rw same refl
    drop_in (b ∷ pre) xs zero from before low = absurd (omega arith)
    drop_in (b ∷ pre) xs (suc at) zero before low = absurd (omega arith)
    drop_in (b ∷ pre) xs (suc at) (suc from) before low = let same : suc from - suc at ≡ from - at = omega arith in rw same (drop_in pre xs at from (omega arith) (omega arith))

-- a list in two texts
record StandsTwice (text other list : List ℕ) (at later : ℕ) : Type 0 where
  pre : List ℕ
  rest : List ℕ
  second : List ℕ
  last : List ℕ
  first_is : text ≡ pre ++ (list ++ rest)
  second_is : other ≡ second ++ (list ++ last)
  before : length pre ≡ at
  before_later : length second ≡ later

one_place : (text other list : List ℕ) (at later : ℕ) (i : Item) (p q : Range) → StandsTwice text other list at later → range_of i ≡ p → IsShifted (at + length list) (later + length list) p q → at ≤ p.from → p.from ≤ p.to → p.to ≤ at + length list → HasBytes text other i q
one_place text other list at later i p q twice is shifted low order high =
    let from : i.from ≡ p.from = ap (λ (r : Range). r.from) is in
    let to : i.to ≡ p.to = ap (λ (r : Range). r.to) is in
    let off : q.from - later ≡ p.from - at = omega (arith, shifted.from) in
    let size : q.to - q.from ≡ p.to - p.from = omega (arith, shifted.from, shifted.end) in
    let first : slice_range text p.from p.to ≡ take (p.to - p.from) (drop (p.from - at) list) = ap (λ bs. slice_range bs p.from p.to) twice.first_is ∙ slice_in twice.pre list twice.rest at p.from p.to twice.before low order high in
    let second : slice_range other q.from q.to ≡ take (p.to - p.from) (drop (p.from - at) list) =
    ap (λ bs. slice_range bs q.from q.to) twice.second_is
    ∙ slice_in twice.second list twice.last later q.from q.to twice.before_later (omega (arith, shifted.from)) (omega (arith, shifted.from, shifted.end)) (omega (arith, shifted.end))
    ∙ rw (off, size) refl
    in
    let left = length-drop (p.from - at) list in
    let same : slice_range text i.from i.to ≡ slice_range text p.from p.to = rw (from, to) refl in
    record {
      size = p.to - p.from;
      same = same ∙ first ∙ sym second;
      count = ap length (same ∙ first) ∙ length-take-le (p.to - p.from) (drop (p.from - at) list) (omega arith);
      first = omega arith;
      second = omega (arith, shifted.from, shifted.end);
    }

all_places : (text other list : List ℕ) (at later low : ℕ) (own : List Item) (ps qs : List Range) → StandsTwice text other list at later → at ≤ low → map range_of own ≡ ps → AreShifted (at + length list) (later + length list) ps qs → AreApart low (at + length list) ps → HaveBytes text other own qs
all_places text other list at later low [] [] [] twice less is shifted apart = tt
all_places text other list at later low [] (p ∷ ps) qs twice less is shifted apart = absurd (some is)
  where
    some : [] ≡ p ∷ ps → ⊥
    some same = cc
all_places text other list at later low [] [] (q ∷ qs) twice less is shifted apart = absurd shifted
all_places text other list at later low (i ∷ own) [] qs twice less is shifted apart = absurd (some is)
  where
    some : range_of i ∷ map range_of own ≡ [] → ⊥
    some same = cc
all_places text other list at later low (i ∷ own) (p ∷ ps) [] twice less is shifted apart = absurd shifted
all_places text other list at later low (i ∷ own) (p ∷ ps) (q ∷ qs) twice less is shifted apart =
    let high = in_order p.to (at + length list) ps apart.2 in (
      one_place text other list at later i p q twice (first_same _ _ _ _ is) shifted.0 (omega (arith, apart.0)) apart.1 high,
      all_places text other list at later p.to own ps qs twice (omega (arith, apart.0, apart.1)) (others_same _ _ _ _ is) shifted.1 apart.2,
    )
  where
    first_same : (a b : Range) (xs ys : List Range) → a ∷ xs ≡ b ∷ ys → a ≡ b
    first_same a b xs ys same = cc

    others_same : (a b : Range) (xs ys : List Range) → a ∷ xs ≡ b ∷ ys → xs ≡ ys
    others_same a b xs ys same = cc

-- A list that stands in two texts has selectors of the same bytes in both.
pub same_list : (text other : List ℕ) (pre second bytes rest last : List ℕ) (at later len : ℕ) (own : List Item) → text ≡ pre ++ (bytes ++ rest) → other ≡ second ++ (bytes ++ last) → length pre ≡ at → length second ≡ later → len ≤ length bytes
    → map range_of own ≡ pieces (at + len) (slice_range text at (at + len)) → HaveBytes text other own (pieces (later + len) (slice_range other later (later + len)))
same_list text other pre second bytes rest last at later len own whole whole_later before before_later few owned =
    let list = take len bytes in
    let behind = drop len bytes in
    let size : length list ≡ len = length-take-le len bytes few in
    let split : (z : List ℕ) → bytes ++ z ≡ list ++ (behind ++ z) = λ z. ap (λ bs. bs ++ z) (sym (take-append-drop len bytes)) ∙ append_assoc list behind z in
    let first_is : text ≡ pre ++ (list ++ (behind ++ rest)) = whole ∙ ap (λ bs. pre ++ bs) (split rest) in
    let second_is : other ≡ second ++ (list ++ (behind ++ last)) = whole_later ∙ ap (λ bs. second ++ bs) (split last) in
    let first : slice_range text at (at + len) ≡ list = ap (λ bs. slice_range bs at (at + len)) first_is ∙ slice_at pre list (behind ++ rest) at (at + len) before (ap (λ n. at + n) size) in
    let next : slice_range other later (later + len) ≡ list = ap (λ bs. slice_range bs later (later + len)) second_is ∙ slice_at second list (behind ++ last) later (later + len) before_later (ap (λ n. later + n) size) in
    let places_are : map range_of own ≡ pieces (at + length list) list = owned ∙ ap (pieces (at + len)) first ∙ ap (λ n. pieces (at + n) list) (sym size) in
    let places_later : pieces (later + len) (slice_range other later (later + len)) ≡ pieces (later + length list) list = ap (pieces (later + len)) next ∙ ap (λ n. pieces (later + n) list) (sym size) in
    let twice : StandsTwice text other list at later = record { pre = pre; rest = behind ++ rest; second = second; last = behind ++ last; first_is = first_is; second_is = second_is; before = before; before_later = before_later } in
    subst (HaveBytes text other own) (sym places_later)
    (all_places text other list at later at own (pieces (at + length list) list) (pieces (later + length list) list) twice (omega arith) places_are (pieces_shifted (at + length list) (later + length list) list (omega arith) (omega arith)) (pieces_apart at (at + length list) list (omega arith)))

-- ---- a list of parts

-- a selector stands in its text
pub record IsWithin (text : List ℕ) (i : Item) : Type 0 where
  pub size : ℕ
  pub count : length (slice_range text i.from i.to) ≡ size
  pub end : i.from + size ≡ i.to

abbrev pub AreWithin : List ℕ → List Item → Type 0
AreWithin text [] = Unit {0}
AreWithin text (i ∷ items) = IsWithin text i × AreWithin text items

within_by : (text : List ℕ) (low to : ℕ) (own : List Item) (ps : List Range) → map range_of own ≡ ps → AreApart low to ps → to ≤ length text → AreWithin text own
within_by text low to [] ps is apart high = tt
within_by text low to (i ∷ own) [] is apart high = absurd (some is)
  where
    some : range_of i ∷ map range_of own ≡ [] → ⊥
    some same = cc
within_by text low to (i ∷ own) (p ∷ ps) is apart high =
    let from : i.from ≡ p.from = ap (λ (r : Range). r.from) (first_same _ _ _ _ is) in
    let end : i.to ≡ p.to = ap (λ (r : Range). r.to) (first_same _ _ _ _ is) in
    let before = in_order p.to to ps apart.2 in
    let left = length-drop i.from text in (
      record { size = i.to - i.from; count = length-take-le (i.to - i.from) (drop i.from text) (omega (arith, apart.1)); end = omega (arith, apart.1) },
      within_by text p.to to own ps (others_same _ _ _ _ is) apart.2 high,
    )
  where
    first_same : (a b : Range) (xs ys : List Range) → a ∷ xs ≡ b ∷ ys → a ≡ b
    first_same a b xs ys same = cc

    others_same : (a b : Range) (xs ys : List Range) → a ∷ xs ≡ b ∷ ys → xs ≡ ys
    others_same a b xs ys same = cc

-- the selectors of a list
pub own_within : (text list : List ℕ) (to : ℕ) (own : List Item) → map range_of own ≡ pieces to list → length list ≤ to → to ≤ length text → AreWithin text own
own_within text list to own owned few high = within_by text 0 to own (pieces to list) owned (pieces_apart 0 to list (omega arith)) high

abbrev pub item_text : List ℕ → Item → List ℕ
item_text text i = slice_range text i.from i.to

one_part : (text : List ℕ) (pre z : List ℕ) (at : ℕ) (p : List Chunk) (i : Item) → length pre ≡ at → item_text text i ≡ text_of p → IsWithin text i → HasBytes text (pre ++ (flat p ++ z)) i (place_at (at + size_of p) p)
one_part text pre z at p i before is within =
    let place = place_is at p in
    let part : slice_range (pre ++ (flat p ++ z)) (at + size_of (lead p)) (at + size_of (lead p) + size_of (solid p)) ≡ flat (solid p) = part_text pre z at p before in
    let size : size_of (solid p) ≡ within.size = sym (ap length is) ∙ within.count in
    let has : HasBytes text (pre ++ (flat p ++ z)) i (record { from = at + size_of (lead p); to = at + size_of (lead p) + size_of (solid p) }) =
    record { size = within.size; same = is ∙ sym part; count = within.count; first = within.end; second = ap (λ n. at + size_of (lead p) + n) (sym size) }
    in
    subst (HasBytes text (pre ++ (flat p ++ z)) i) (sym place) has

-- Selectors whose texts are those of the parts have their bytes at the places of the parts.
pub parts_have : (text pre z : List ℕ) (at : ℕ) (p : List Chunk) (ps : List (List Chunk)) (own : List Item) → length pre ≡ at → map (item_text text) own ≡ map text_of (p ∷ ps) → AreWithin text own
    → HaveBytes text (pre ++ (flat (joined p ps) ++ z)) own (places (at + size_of (joined p ps)) p ps)
parts_have text pre z at p ps [] before is within = absurd (some is)
  where
    some : [] ≡ text_of p ∷ map text_of ps → ⊥
    some same = cc
parts_have text pre z at p [] (i ∷ own) before is within = by own (others_same _ _ _ _ is) within.1
  where
    first_same : (a b : List ℕ) (xs ys : List (List ℕ)) → a ∷ xs ≡ b ∷ ys → a ≡ b
    first_same a b xs ys same = cc

    others_same : (a b : List ℕ) (xs ys : List (List ℕ)) → a ∷ xs ≡ b ∷ ys → xs ≡ ys
    others_same a b xs ys same = cc

    by : (own : List Item) → map (item_text text) own ≡ [] → AreWithin text own → HaveBytes text (pre ++ (flat p ++ z)) (i ∷ own) (place_at (at + size_of p) p ∷ [])
    by [] none later = (one_part text pre z at p i before (first_same _ _ _ _ is) within.0, tt)
    by (j ∷ own) none later = absurd (some none)
      where
        some : item_text text j ∷ map (item_text text) own ≡ [] → ⊥
        some same = cc
parts_have text pre z at p (q ∷ qs) (i ∷ own) before is within =
    let inner = flat (joined q qs) in
    let list : flat (joined p (q ∷ qs)) ++ z ≡ flat p ++ (44 ∷ inner ++ z) = ap (λ bs. bs ++ z) (flat-append p (comma ∷ joined q qs)) ∙ append_assoc (flat p) (44 ∷ inner) z in
    let pre2 = (pre ++ flat p) ++ 44 ∷ [] in
    let size : length pre2 ≡ at + size_of p + 1 = length-append (pre ++ flat p) (44 ∷ []) ∙ ap (λ n. n + 1) (length-append pre (flat p) ∙ ap (λ n. n + size_of p) before) in
    let text_is : pre ++ (flat p ++ (44 ∷ inner ++ z)) ≡ pre2 ++ (inner ++ z) = sym (append_assoc pre (flat p) (44 ∷ inner ++ z)) ∙ sym (append_assoc (pre ++ flat p) (44 ∷ []) (inner ++ z)) in
    let all = joined_size p q qs in
    let first_end : at + size_of (joined p (q ∷ qs)) - suc (size_of (joined q qs)) ≡ at + size_of p = omega arith in
    let last_end : at + size_of p + 1 + size_of (joined q qs) ≡ at + size_of (joined p (q ∷ qs)) = omega arith in
    let first : HasBytes text (pre ++ (flat p ++ (44 ∷ inner ++ z))) i (place_at (at + size_of p) p) = one_part text pre (44 ∷ inner ++ z) at p i before (first_same _ _ _ _ is) within.0 in
    let later : HaveBytes text (pre2 ++ (inner ++ z)) own (places (at + size_of p + 1 + size_of (joined q qs)) q qs) = parts_have text pre2 z (at + size_of p + 1) q qs own size (others_same _ _ _ _ is) within.1 in
    let others : HaveBytes text (pre ++ (flat p ++ (44 ∷ inner ++ z))) own (places (at + size_of (joined p (q ∷ qs))) q qs) =
    subst (λ (n : ℕ). HaveBytes text (pre ++ (flat p ++ (44 ∷ inner ++ z))) own (places n q qs)) last_end (subst (λ (bs : List ℕ). HaveBytes text bs own (places (at + size_of p + 1 + size_of (joined q qs)) q qs)) (sym text_is) later)
    in
    subst (λ (bs : List ℕ). HaveBytes text (pre ++ bs) (i ∷ own) (places (at + size_of (joined p (q ∷ qs))) p (q ∷ qs))) (sym list)
    (subst (λ (n : ℕ). HasBytes text (pre ++ (flat p ++ (44 ∷ inner ++ z))) i (place_at n p)) (sym first_end) first, others)
  where
    first_same : (a b : List ℕ) (xs ys : List (List ℕ)) → a ∷ xs ≡ b ∷ ys → a ≡ b
    first_same a b xs ys same = cc

    others_same : (a b : List ℕ) (xs ys : List (List ℕ)) → a ∷ xs ≡ b ∷ ys → xs ≡ ys
    others_same a b xs ys same = cc
