-- The text of a list in which other selectors stand, and the places of these.
use Rattle.std.proofs.Common.{◌≡◌, ℕ, suc, ◌+◌, ◌-◌, ◌≤◌, List, [], ◌∷◌, ◌++◌, length, take, drop, map, slice_range, refl, sym, ap, ◌∙◌, subst, arith, length-append, append_assoc}
use Rattle.std.proofs.Math.Seq.{take-add}
use Rattle.std.proofs.lemmas.List.{drop-drop}
use Rattle.std.proofs.lemmas.List.Folds.{drop_split}
use Rattle.css_read.specs.declared.sheets.Range.{Range}
use Rattle.css_read.specs.Order.{AreApart, range_of}
use Rattle.css_read.specs.Sheets.{Item}
use Rattle.css_read.proofs.CutLemmas.{size_of, part_size}
use Rattle.css_read.proofs.FlagLemmas.{place_is}
use Rattle.css_read.proofs.ItemLemmas.{AreOf}
use Rattle.css_read.proofs.PartLemmas.{comma, joined, place_at, places}
use Rattle.css_read.proofs.PieceOrder.{from_earlier}
use Rattle.css_read.proofs.RelistLemmas.{text_of, joined_size}
use Rattle.css_read.proofs.RulePlans.{slice_at, part_text}
use Rattle.css_read.proofs.ThinLemmas.{lead, solid, trail, lead_gaps, end_gaps, split, left_solid}
use Rattle.css_read.proofs.UnitLemmas.{Chunk, flat, flat-append, strip}
use Rattle.widen_sheet.proofs.ChangedRules.{Change, stays, becomes, IsChange, AreChanges, changed_part, changed_parts, changed_list}
use Rattle.widen_sheet.proofs.SheetPieces.{IsPieces}

-- ---- selectors and their new texts

abbrev pub text_after : Change → List ℕ → List ℕ
text_after stays bs = bs
text_after (becomes cs) bs = flat cs

pub record HasChange (new : Item → List ℕ) (text : List ℕ) (i : Item) : Type 0 where
  pub change : Change
  pub is : IsChange change
  pub text_is : new i ≡ text_after change (slice_range text i.from i.to)
  pub pieces : IsPieces (new i) (slice_range text i.from i.to)

-- from an offset on, with the new texts of some selectors
abbrev pub replaced : (Item → List ℕ) → List ℕ → ℕ → List Item → List ℕ
replaced new text at [] = drop at text
replaced new text at (i ∷ items) = slice_range text at i.from ++ (new i ++ replaced new text i.to items)

abbrev pub changes : {new : Item → List ℕ} {text : List ℕ} → ((i : Item) → HasChange new text i) → List Item → List Change
changes ch [] = []
changes ch (i ∷ items) = (ch i).change ∷ changes ch items

pub changes_are : {new : Item → List ℕ} {text : List ℕ} (ch : (i : Item) → HasChange new text i) (items : List Item) → AreChanges (changes ch items)
changes_are ch [] = tt
changes_are ch (i ∷ items) = ((ch i).is, changes_are ch items)

-- ---- the texts of parts

pub part_flat : (p : List Chunk) → flat p ≡ flat (lead p) ++ (flat (solid p) ++ flat (trail p))
part_flat p = ap flat (sym (split p)) ∙ flat-append (lead p) (solid p ++ trail p) ∙ ap (λ bs. flat (lead p) ++ bs) (flat-append (solid p) (trail p))

pub changed_flat : (x : Change) (p : List Chunk) → IsChange x → flat (changed_part x p) ≡ flat (lead p) ++ (text_after x (flat (solid p)) ++ flat (trail p))
changed_flat stays p is = part_flat p
changed_flat (becomes cs) p is =
    flat-append (lead p) (solid cs ++ trail p) ∙ ap (λ bs. flat (lead p) ++ bs) (flat-append (solid cs) (trail p) ∙ ap (λ (ds : List Chunk). flat ds ++ flat (trail p)) is.bare)

pub changed_text : (x : Change) (p : List Chunk) → IsChange x → text_of (changed_part x p) ≡ text_after x (text_of p)
changed_text stays p is = refl
changed_text (becomes cs) p is = ap flat (left_solid (lead p) cs (trail p) (lead_gaps p) (end_gaps (strip p)) ∙ is.bare)

-- ---- from one offset on, or from a later one

slice_split : (text : List ℕ) (at mid to : ℕ) → at ≤ mid → mid ≤ to → slice_range text at to ≡ slice_range text at mid ++ slice_range text mid to
slice_split text at mid to first second =
    let count : to - at ≡ (mid - at) + (to - mid) = omega (arith, first, second) in
    let place : at + (mid - at) ≡ mid = omega (arith, first) in
    ap (λ n. take n (drop at text)) count ∙ take-add (mid - at) (to - mid) (drop at text) ∙ ap (λ bs. take (mid - at) (drop at text) ++ take (to - mid) bs) (drop-drop (mid - at) at text ∙ ap (λ n. drop n text) place)

pub move_on : (new : Item → List ℕ) (text : List ℕ) (at mid : ℕ) (items : List Item) → at ≤ mid → AreApart mid (length text) (map range_of items) → replaced new text at items ≡ slice_range text at mid ++ replaced new text mid items
move_on new text at mid [] less apart = drop_split text at mid less
move_on new text at mid (i ∷ items) less apart =
    ap (λ bs. bs ++ (new i ++ replaced new text i.to items)) (slice_split text at mid i.from less apart.0) ∙ append_assoc (slice_range text at mid) (slice_range text mid i.from) (new i ++ replaced new text i.to items)

-- ---- one part

-- a place, as its two ends
pub record IsAt (i : Item) (low high : ℕ) : Type 0 where
  pub from : i.from ≡ low
  pub to : i.to ≡ high

pub is_at : (at : ℕ) (p : List Chunk) (i : Item) → range_of i ≡ place_at (at + size_of p) p → IsAt i (at + size_of (lead p)) (at + size_of (lead p) + size_of (solid p))
is_at at p i is = let all = is ∙ place_is at p in record { from = ap (λ (r : Range). r.from) all; to = ap (λ (r : Range). r.to) all }

-- the bytes of a part where it stands
pub record StandsAt (text : List ℕ) (at : ℕ) (p : List Chunk) : Type 0 where
  pub before : slice_range text at (at + size_of (lead p)) ≡ flat (lead p)
  pub own : slice_range text (at + size_of (lead p)) (at + size_of (lead p) + size_of (solid p)) ≡ flat (solid p)
  pub behind : slice_range text (at + size_of (lead p) + size_of (solid p)) (at + size_of p) ≡ flat (trail p)

pub stands_at : (text pre z : List ℕ) (at : ℕ) (p : List Chunk) → text ≡ pre ++ (flat p ++ z) → length pre ≡ at → StandsAt text at p
stands_at text pre z at p whole before =
    let parts : flat p ++ z ≡ flat (lead p) ++ (flat (solid p) ++ (flat (trail p) ++ z)) =
    ap (λ bs. bs ++ z) (part_flat p) ∙ append_assoc (flat (lead p)) (flat (solid p) ++ flat (trail p)) z ∙ ap (λ bs. flat (lead p) ++ bs) (append_assoc (flat (solid p)) (flat (trail p)) z)
    in
    let front = pre ++ flat (lead p) in
    let all : pre ++ (flat p ++ z) ≡ (front ++ flat (solid p)) ++ (flat (trail p) ++ z) =
    ap (λ bs. pre ++ bs) parts ∙ sym (append_assoc pre (flat (lead p)) (flat (solid p) ++ (flat (trail p) ++ z))) ∙ sym (append_assoc front (flat (solid p)) (flat (trail p) ++ z))
    in
    let size : length (front ++ flat (solid p)) ≡ at + size_of (lead p) + size_of (solid p) =
    length-append front (flat (solid p)) ∙ ap (λ n. n + size_of (solid p)) (length-append pre (flat (lead p)) ∙ ap (λ n. n + size_of (lead p)) before)
    in
    let sizes = part_size p in
    record {
      before = ap (λ bs. slice_range bs at (at + size_of (lead p))) (whole ∙ ap (λ bs. pre ++ bs) parts) ∙ slice_at pre (flat (lead p)) (flat (solid p) ++ (flat (trail p) ++ z)) at (at + size_of (lead p)) before refl;
      own = ap (λ bs. slice_range bs (at + size_of (lead p)) (at + size_of (lead p) + size_of (solid p))) whole ∙ part_text pre z at p before;
      behind = ap (λ bs. slice_range bs (at + size_of (lead p) + size_of (solid p)) (at + size_of p)) (whole ∙ all)
          ∙ slice_at (front ++ flat (solid p)) (flat (trail p)) z (at + size_of (lead p) + size_of (solid p)) (at + size_of p) size (omega arith);
    }

part_replaced : (new : Item → List ℕ) (text : List ℕ) (at : ℕ) (p : List Chunk) (i : Item) (more : List Item) (c : HasChange new text i) → StandsAt text at p → range_of i ≡ place_at (at + size_of p) p
    → AreApart (at + size_of p) (length text) (map range_of more) → replaced new text at (i ∷ more) ≡ flat (changed_part c.change p) ++ replaced new text (at + size_of p) more
part_replaced new text at p i more c stands is apart =
    let place = is_at at p i is in
    let sizes = part_size p in
    let rest = replaced new text (at + size_of p) more in
    let first : slice_range text at i.from ≡ flat (lead p) = ap (λ n. slice_range text at n) place.from ∙ stands.before in
    let old : slice_range text i.from i.to ≡ flat (solid p) = rw (place.from, place.to) stands.own in
    let own : new i ≡ text_after c.change (flat (solid p)) = c.text_is ∙ ap (text_after c.change) old in
    let last : replaced new text i.to more ≡ flat (trail p) ++ rest =
    ap (λ n. replaced new text n more) place.to ∙ move_on new text (at + size_of (lead p) + size_of (solid p)) (at + size_of p) more (omega arith) apart ∙ ap (λ bs. bs ++ rest) stands.behind
    in
    let whole : flat (changed_part c.change p) ++ rest ≡ flat (lead p) ++ (text_after c.change (flat (solid p)) ++ (flat (trail p) ++ rest)) =
    ap (λ bs. bs ++ rest) (changed_flat c.change p c.is) ∙ append_assoc (flat (lead p)) (text_after c.change (flat (solid p)) ++ flat (trail p)) rest
    ∙ ap (λ bs. flat (lead p) ++ bs) (append_assoc (text_after c.change (flat (solid p))) (flat (trail p)) rest)
    in
    ap (λ bs. bs ++ (new i ++ replaced new text i.to more)) first ∙ ap (λ bs. flat (lead p) ++ (bs ++ replaced new text i.to more)) own ∙ ap (λ bs. flat (lead p) ++ (text_after c.change (flat (solid p)) ++ bs)) last ∙ sym whole

-- ---- a list

pub places_apart : (at : ℕ) (p : List Chunk) (ps : List (List Chunk)) → AreApart at (at + size_of (joined p ps)) (places (at + size_of (joined p ps)) p ps)
places_apart at p [] =
    let sizes = part_size p in
    subst (λ (r : Range). AreApart at (at + size_of p) (r ∷ [])) (sym (place_is at p)) (omega arith, omega arith, omega arith)
places_apart at p (q ∷ qs) =
    let sizes = part_size p in
    let all = joined_size p q qs in
    let next = at + size_of p + 1 in
    let first_end : at + size_of (joined p (q ∷ qs)) - suc (size_of (joined q qs)) ≡ at + size_of p = omega arith in
    let last_end : next + size_of (joined q qs) ≡ at + size_of (joined p (q ∷ qs)) = omega arith in
    let later : AreApart next (at + size_of (joined p (q ∷ qs))) (places (at + size_of (joined p (q ∷ qs))) q qs) = subst (λ (n : ℕ). AreApart next n (places n q qs)) last_end (places_apart next q qs) in
    subst (λ (r : Range). AreApart at (at + size_of (joined p (q ∷ qs))) (r ∷ places (at + size_of (joined p (q ∷ qs))) q qs)) (sym (ap (λ n. place_at n p) first_end ∙ place_is at p))
    (omega arith, omega arith, from_earlier (at + size_of (lead p) + size_of (solid p)) next (at + size_of (joined p (q ∷ qs))) (places (at + size_of (joined p (q ∷ qs))) q qs) (omega arith) later)

-- what is known of the selectors of a list, and of those behind it
pub record AreListed (text : List ℕ) (at : ℕ) (p : List Chunk) (ps : List (List Chunk)) (own others : List Item) : Type 0 where
  pub pre : List ℕ
  pub z : List ℕ
  pub whole : text ≡ pre ++ (flat (joined p ps) ++ z)
  pub before : length pre ≡ at
  pub places_are : map range_of own ≡ places (at + size_of (joined p ps)) p ps
  pub apart : AreApart (at + size_of (joined p ps)) (length text) (map range_of others)

pub heads_same : (a b : Range) (xs ys : List Range) → a ∷ xs ≡ b ∷ ys → a ≡ b
heads_same a b xs ys same = cc

pub tails_same : (a b : Range) (xs ys : List Range) → a ∷ xs ≡ b ∷ ys → xs ≡ ys
tails_same a b xs ys same = cc

pub none_is : (a : Range) (xs : List Range) → [] ≡ a ∷ xs → ⊥
none_is a xs same = cc

pub some_is : (a : Range) (xs : List Range) → a ∷ xs ≡ [] → ⊥
some_is a xs same = cc

map-append : (own others : List Item) → map range_of (own ++ others) ≡ map range_of own ++ map range_of others
map-append [] others = refl
map-append (i ∷ own) others = ap (λ (rs : List Range). range_of i ∷ rs) (map-append own others)

pub listed_next : (text : List ℕ) (at : ℕ) (p q : List Chunk) (qs : List (List Chunk)) (i : Item) (own others : List Item) → AreListed text at p (q ∷ qs) (i ∷ own) others → AreListed text (at + size_of p + 1) q qs own others
listed_next text at p q qs i own others is =
    let inner = flat (joined q qs) in
    let all = joined_size p q qs in
    let last_end : at + size_of (joined p (q ∷ qs)) ≡ at + size_of p + 1 + size_of (joined q qs) = omega arith in
    record {
      pre = (is.pre ++ flat p) ++ 44 ∷ [];
      z = is.z;
      whole = is.whole ∙ ap (λ bs. is.pre ++ (bs ++ is.z)) (flat-append p (comma ∷ joined q qs)) ∙ ap (λ bs. is.pre ++ bs) (append_assoc (flat p) (44 ∷ inner) is.z) ∙ sym (append_assoc is.pre (flat p) (44 ∷ inner ++ is.z))
          ∙ sym (append_assoc (is.pre ++ flat p) (44 ∷ []) (inner ++ is.z));
      before = length-append (is.pre ++ flat p) (44 ∷ []) ∙ ap (λ n. n + 1) (length-append is.pre (flat p) ∙ ap (λ n. n + size_of p) is.before);
      places_are = tails_same _ _ _ _ is.places_are ∙ ap (λ n. places n q qs) last_end;
      apart = subst (λ (n : ℕ). AreApart n (length text) (map range_of others)) last_end is.apart;
    }

pub list_replaced : (new : Item → List ℕ) (text : List ℕ) (ch : (i : Item) → HasChange new text i) (at : ℕ) (p : List Chunk) (ps : List (List Chunk)) (own others : List Item) → AreListed text at p ps own others
    → replaced new text at (own ++ others) ≡ flat (changed_list (changes ch own) p ps) ++ replaced new text (at + size_of (joined p ps)) others
list_replaced new text ch at p [] [] others is = absurd (none_is _ _ is.places_are)
list_replaced new text ch at p (q ∷ qs) [] others is = absurd (none_is _ _ is.places_are)
list_replaced new text ch at p [] (i ∷ j ∷ own) others is = absurd (some_is _ _ (tails_same _ _ _ _ is.places_are))
list_replaced new text ch at p [] (i ∷ []) others is = part_replaced new text at p i others (ch i) (stands_at text is.pre is.z at p is.whole is.before) (heads_same _ _ _ _ is.places_are) is.apart
list_replaced new text ch at p (q ∷ qs) (i ∷ own) others is =
    let inner = flat (joined q qs) in
    let next = at + size_of p + 1 in
    let all = joined_size p q qs in
    let last_end : next + size_of (joined q qs) ≡ at + size_of (joined p (q ∷ qs)) = omega arith in
    let first_end : at + size_of (joined p (q ∷ qs)) - suc (size_of (joined q qs)) ≡ at + size_of p = omega arith in
    let later = listed_next text at p q qs i own others is in
    let list : flat (joined p (q ∷ qs)) ++ is.z ≡ flat p ++ (44 ∷ inner ++ is.z) = ap (λ bs. bs ++ is.z) (flat-append p (comma ∷ joined q qs)) ∙ append_assoc (flat p) (44 ∷ inner) is.z in
    let whole : text ≡ is.pre ++ (flat p ++ (44 ∷ inner ++ is.z)) = is.whole ∙ ap (λ bs. is.pre ++ bs) list in
    let one : slice_range text (at + size_of p) next ≡ 44 ∷ [] =
    ap (λ bs. slice_range bs (at + size_of p) next) (whole ∙ sym (append_assoc is.pre (flat p) (44 ∷ inner ++ is.z)))
    ∙ slice_at (is.pre ++ flat p) (44 ∷ []) (inner ++ is.z) (at + size_of p) next (length-append is.pre (flat p) ∙ ap (λ n. n + size_of p) is.before) refl
    in
    let apart : AreApart next (length text) (map range_of (own ++ others)) =
    subst (λ (rs : List Range). AreApart next (length text) rs) (sym (map-append own others))
    (Rattle.css_read.proofs.PieceOrder.joined next (next + size_of (joined q qs)) (length text) (map range_of own) (map range_of others) (subst (AreApart next (next + size_of (joined q qs))) (sym later.places_are) (places_apart next q qs)) later.apart)
    in
    let place : range_of i ≡ place_at (at + size_of p) p = heads_same _ _ _ _ is.places_are ∙ ap (λ n. place_at n p) first_end in
    let earlier : AreApart (at + size_of p) (length text) (map range_of (own ++ others)) = from_earlier (at + size_of p) next (length text) (map range_of (own ++ others)) (omega arith) apart in
    let rest = replaced new text (at + size_of (joined p (q ∷ qs))) others in
    let behind : replaced new text (at + size_of p) (own ++ others) ≡ 44 ∷ (flat (changed_list (changes ch own) q qs) ++ rest) =
    move_on new text (at + size_of p) next (own ++ others) (omega arith) apart
    ∙ ap (λ bs. bs ++ replaced new text next (own ++ others)) one
    ∙ ap (λ bs. 44 ∷ bs) (list_replaced new text ch next q qs own others later ∙ ap (λ n. flat (changed_list (changes ch own) q qs) ++ replaced new text n others) last_end)
    in
    part_replaced new text at p i (own ++ others) (ch i) (stands_at text is.pre (44 ∷ inner ++ is.z) at p whole is.before) place earlier
    ∙ ap (λ bs. flat (changed_part (ch i).change p) ++ bs) behind
    ∙ sym (ap (λ bs. bs ++ rest) (flat-append (changed_part (ch i).change p) (comma ∷ changed_list (changes ch own) q qs)) ∙ append_assoc (flat (changed_part (ch i).change p)) (44 ∷ flat (changed_list (changes ch own) q qs)) rest)

-- ---- the selectors of the list that it becomes

-- the same rule's number, and the new bytes
pub record IsPair (new : Item → List ℕ) (other : List ℕ) (i j : Item) : Type 0 where
  pub rule : i.rule ≡ j.rule
  pub bytes : slice_range other j.from j.to ≡ new i
  pub size : j.from + length (new i) ≡ j.to

abbrev pub ArePairs : (Item → List ℕ) → List ℕ → List Item → List Item → Type 0
ArePairs new other [] [] = Unit {0}
ArePairs new other (i ∷ is) (j ∷ js) = IsPair new other i j × ArePairs new other is js
ArePairs new other is js = ⊥

pub pairs_append : (new : Item → List ℕ) (other : List ℕ) (is js more others : List Item) → ArePairs new other is js → ArePairs new other more others → ArePairs new other (is ++ more) (js ++ others)
pairs_append new other [] [] more others first later = later
pairs_append new other [] (j ∷ js) more others first later = absurd first
pairs_append new other (i ∷ is) [] more others first later = absurd first
pairs_append new other (i ∷ is) (j ∷ js) more others first later = (first.0, pairs_append new other is js more others first.1 later)

-- each selector's new text is that of its part
abbrev pub HaveTexts : (Item → List ℕ) → List Item → List (List Chunk) → Type 0
HaveTexts new [] [] = Unit {0}
HaveTexts new (i ∷ own) (p ∷ ps) = (new i ≡ text_of p) × HaveTexts new own ps
HaveTexts new own ps = ⊥

pub texts_changed : (new : Item → List ℕ) (text : List ℕ) (ch : (i : Item) → HasChange new text i) (at : ℕ) (p : List Chunk) (ps : List (List Chunk)) (own others : List Item) → AreListed text at p ps own others
    → HaveTexts new own (changed_parts (changes ch own) (p ∷ ps))
texts_changed new text ch at p [] [] others is = absurd (none_is _ _ is.places_are)
texts_changed new text ch at p (q ∷ qs) [] others is = absurd (none_is _ _ is.places_are)
texts_changed new text ch at p [] (i ∷ j ∷ own) others is = absurd (some_is _ _ (tails_same _ _ _ _ is.places_are))
texts_changed new text ch at p [] (i ∷ []) others is =
    let place = is_at at p i (heads_same _ _ _ _ is.places_are) in
    let old : slice_range text i.from i.to ≡ text_of p = rw (place.from, place.to) (stands_at text is.pre is.z at p is.whole is.before).own in
    ((ch i).text_is ∙ ap (text_after (ch i).change) old ∙ sym (changed_text (ch i).change p (ch i).is), tt)
texts_changed new text ch at p (q ∷ qs) (i ∷ own) others is =
    let inner = flat (joined q qs) in
    let all = joined_size p q qs in
    let first_end : at + size_of (joined p (q ∷ qs)) - suc (size_of (joined q qs)) ≡ at + size_of p = omega arith in
    let list : flat (joined p (q ∷ qs)) ++ is.z ≡ flat p ++ (44 ∷ inner ++ is.z) = ap (λ bs. bs ++ is.z) (flat-append p (comma ∷ joined q qs)) ∙ append_assoc (flat p) (44 ∷ inner) is.z in
    let place = is_at at p i (heads_same _ _ _ _ is.places_are ∙ ap (λ n. place_at n p) first_end) in
    let old : slice_range text i.from i.to ≡ text_of p = rw (place.from, place.to) (stands_at text is.pre (44 ∷ inner ++ is.z) at p (is.whole ∙ ap (λ bs. is.pre ++ bs) list) is.before).own in
    ((ch i).text_is ∙ ap (text_after (ch i).change) old ∙ sym (changed_text (ch i).change p (ch i).is), texts_changed new text ch (at + size_of p + 1) q qs own others (listed_next text at p q qs i own others is))

one_pair : (new : Item → List ℕ) (other pre z : List ℕ) (at k : ℕ) (p : List Chunk) (i j : Item) → other ≡ pre ++ (flat p ++ z) → length pre ≡ at → range_of j ≡ place_at (at + size_of p) p → i.rule ≡ k → j.rule ≡ k → new i ≡ text_of p → IsPair new other i j
one_pair new other pre z at k p i j whole before is first second text =
    let place = is_at at p j is in
    let size : length (new i) ≡ size_of (solid p) = ap length text in
    record {
      rule = first ∙ sym second;
      bytes = rw (place.from, place.to) (stands_at other pre z at p whole before).own ∙ sym text;
      size = omega (arith, place.from, place.to, size);
    }

pub list_pairs : (new : Item → List ℕ) (other : List ℕ) (at k : ℕ) (p : List Chunk) (ps : List (List Chunk)) (own js others : List Item) → HaveTexts new own (p ∷ ps) → AreListed other at p ps js others → AreOf k own → AreOf k js → ArePairs new other own js
list_pairs new other at k p ps [] js others texts is first second = absurd texts
list_pairs new other at k p [] own [] others texts is first second = absurd (none_is _ _ is.places_are)
list_pairs new other at k p (q ∷ qs) own [] others texts is first second = absurd (none_is _ _ is.places_are)
list_pairs new other at k p [] (i ∷ g ∷ own) js others texts is first second = absurd texts.1
list_pairs new other at k p [] own (j ∷ h ∷ js) others texts is first second = absurd (some_is _ _ (tails_same _ _ _ _ is.places_are))
list_pairs new other at k p [] (i ∷ []) (j ∷ []) others texts is first second = (one_pair new other is.pre is.z at k p i j is.whole is.before (heads_same _ _ _ _ is.places_are) first.0 second.0 texts.0, tt)
list_pairs new other at k p (q ∷ qs) (i ∷ own) (j ∷ js) others texts is first second =
    let inner = flat (joined q qs) in
    let all = joined_size p q qs in
    let first_end : at + size_of (joined p (q ∷ qs)) - suc (size_of (joined q qs)) ≡ at + size_of p = omega arith in
    let list : flat (joined p (q ∷ qs)) ++ is.z ≡ flat p ++ (44 ∷ inner ++ is.z) = ap (λ bs. bs ++ is.z) (flat-append p (comma ∷ joined q qs)) ∙ append_assoc (flat p) (44 ∷ inner) is.z in (
      one_pair new other is.pre (44 ∷ inner ++ is.z) at k p i j (is.whole ∙ ap (λ bs. is.pre ++ bs) list) is.before (heads_same _ _ _ _ is.places_are ∙ ap (λ n. place_at n p) first_end) first.0 second.0 texts.0,
      list_pairs new other (at + size_of p + 1) k q qs own js others texts.1 (listed_next other at p q qs j js others is) first.1 second.1,
    )
