-- A sheet in which other selectors stand, and the sheet, in the same pieces: where selectors and what holds rules begin and end.
use Rattle.std.proofs.Common.{◌≡◌, ℕ, suc, ◌+◌, ◌-◌, ◌<◌, false, List, [], ◌∷◌, ◌++◌, length, slice_range, refl, sym, ap, ◌∙◌, subst, arith, append_assoc}
use Rattle.css_read.specs.declared.fronts.Front.{Front}
use Rattle.css_read.specs.Order.{range_of}
use Rattle.css_read.specs.Sheets.{Item}
use Rattle.css_read.proofs.CutLemmas.{size_of}
use Rattle.css_read.proofs.ItemLemmas.{AreOf}
use Rattle.css_read.proofs.ListLemmas.{BeginsList}
use Rattle.css_read.proofs.PartLemmas.{comma, joined, place_at}
use Rattle.css_read.proofs.RelistLemmas.{joined_size}
use Rattle.css_read.proofs.SpanLemmas.{Span, bytes_of, steps_at}
use Rattle.css_read.proofs.ThinLemmas.{lead, solid, trail, AreGaps, lead_gaps}
use Rattle.css_read.proofs.UnitLemmas.{Chunk, flat, flat-append, is_gap}
use Rattle.widen_sheet.proofs.ChangedRules.{Change, stays, becomes, IsChange, changed_part, changed_parts, changed_list, first_change, other_changes}
use Rattle.widen_sheet.proofs.ChangedTexts.{HasChange, text_after, changes, part_flat, changed_flat, changed_text, is_at, StandsAt, stands_at, AreListed, heads_same, none_is, some_is, tails_same, listed_next}
use Rattle.widen_sheet.proofs.PieceCuts.{Meets, meets_start, meets_front, meets_behind}
use Rattle.widen_sheet.proofs.PieceLemmas.{Piece, out_of, text_of, AreWhole}
use Rattle.widen_sheet.proofs.SheetPieces.{IsPieces, plain, out_both, text_both, whole_both}
use Rattle.widen_sheet.proofs.TwinCuts.{IsSameKind, AreTwinSteps, steps_to, AreTwinItems, items_append, items_to}

-- ---- a text in pieces, with the selectors in it

pub record IsTwinList (a c : ℕ) (out text : List ℕ) (js is : List Item) : Type 0 where
  pub parts : List Piece
  pub spelt : out_of parts ≡ out
  pub stands : text_of parts ≡ text
  pub whole : AreWhole parts
  pub items : AreTwinItems (Meets a c parts) js is

pub twin_plain : (a c : ℕ) (bs : List ℕ) → IsTwinList a c bs bs [] []
twin_plain a c bs = let is = plain bs in record { parts = is.parts; spelt = is.spelt; stands = is.stands; whole = is.whole; items = tt }

behind : (a c : ℕ) (ps qs : List Piece) (out text : List ℕ) → out_of ps ≡ out → text_of ps ≡ text → (e f : ℕ) → Meets (a + length out) (c + length text) qs e f → Meets a c (ps ++ qs) e f
behind a c ps qs out text spelt stands e f meets =
    meets_behind a c ps qs e f (subst (λ (n : ℕ). Meets n (c + length (text_of ps)) qs e f) (ap (λ (bs : List ℕ). a + length bs) (sym spelt)) (subst (λ (n : ℕ). Meets (a + length out) n qs e f) (ap (λ (bs : List ℕ). c + length bs) (sym stands)) meets))

pub twin_both : (a c : ℕ) (out text later rest : List ℕ) (js is others more : List Item) → IsTwinList a c out text js is → IsTwinList (a + length out) (c + length text) later rest others more → IsTwinList a c (out ++ later) (text ++ rest) (js ++ others) (is ++ more)
twin_both a c out text later rest js is others more x y = record {
  parts = x.parts ++ y.parts;
  spelt = out_both x.parts y.parts ∙ ap (λ (r : List ℕ). r ++ out_of y.parts) x.spelt ∙ ap (λ (r : List ℕ). out ++ r) y.spelt;
  stands = text_both x.parts y.parts ∙ ap (λ (r : List ℕ). r ++ text_of y.parts) x.stands ∙ ap (λ (r : List ℕ). text ++ r) y.stands;
  whole = whole_both x.parts y.parts x.whole y.whole;
  items = items_append (Meets a c (x.parts ++ y.parts)) js is others more (items_to (Meets a c x.parts) (Meets a c (x.parts ++ y.parts)) js is (λ e f meets. meets_front a c x.parts y.parts e f meets) x.items)
      (items_to (Meets (a + length out) (c + length text) y.parts) (Meets a c (x.parts ++ y.parts)) others more (behind a c x.parts y.parts out text x.spelt x.stands) y.items);
}

-- a selector before a gap
twin_own : (a c : ℕ) (new old last : List ℕ) (j i : Item) → IsPieces new old → j.from ≡ a → j.to ≡ a + length new → i.from ≡ c → i.to ≡ c + length old → j.rule ≡ i.rule → IsTwinList a c (new ++ last) (old ++ last) (j ∷ []) (i ∷ [])
twin_own a c new old last j i is from to from_text to_text rule =
    let gap = plain last in
    record {
      parts = is.parts ++ gap.parts;
      spelt = out_both is.parts gap.parts ∙ ap (λ (r : List ℕ). r ++ out_of gap.parts) is.spelt ∙ ap (λ (r : List ℕ). new ++ r) gap.spelt;
      stands = text_both is.parts gap.parts ∙ ap (λ (r : List ℕ). r ++ text_of gap.parts) is.stands ∙ ap (λ (r : List ℕ). old ++ r) gap.stands;
      whole = whole_both is.parts gap.parts is.whole gap.whole;
      items = (
        record {
          from = meets_start a c (is.parts ++ gap.parts) j.from i.from (sym from) (sym from_text);
          to = behind a c is.parts gap.parts new old is.spelt is.stands j.to i.to (meets_start (a + length new) (c + length old) gap.parts j.to i.to (sym to) (sym to_text));
          rule = rule;
        },
        tt,
      );
    }

-- and between two gaps
twin_between : (a c : ℕ) (front last new old : List ℕ) (j i : Item) → IsPieces new old → j.from ≡ a + length front → j.to ≡ a + length front + length new → i.from ≡ c + length front → i.to ≡ c + length front + length old → j.rule ≡ i.rule
    → IsTwinList a c (front ++ (new ++ last)) (front ++ (old ++ last)) (j ∷ []) (i ∷ [])
twin_between a c front last new old j i is from to from_text to_text rule =
    twin_both a c front front (new ++ last) (old ++ last) [] [] (j ∷ []) (i ∷ []) (twin_plain a c front) (twin_own (a + length front) (c + length front) new old last j i is from to from_text to_text rule)

-- ---- a part

lead_left : (gaps : List Chunk) (d : Chunk) (ds : List Chunk) → AreGaps gaps → is_gap d ≡ false → lead (gaps ++ d ∷ ds) ≡ gaps
lead_left [] d ds are none = rw none refl
lead_left (g ∷ gaps) d ds are none = rw are.0 (ap (λ (cs : List Chunk). g ∷ cs) (lead_left gaps d ds are.1 none))

quiet_lead : (gaps cs behind : List Chunk) → AreGaps gaps → 0 < length cs → BeginsList cs → lead (gaps ++ (cs ++ behind)) ≡ gaps
quiet_lead gaps [] behind are some begins = absurd (omega (arith, some))
quiet_lead gaps (c ∷ cs) behind are some begins = lead_left gaps c (cs ++ behind) are begins.0

lead_changed : (x : Change) (p : List Chunk) → IsChange x → lead (changed_part x p) ≡ lead p
lead_changed stays p is = refl
lead_changed (becomes cs) p is = ap (λ (ds : List Chunk). lead (lead p ++ (ds ++ trail p))) is.bare ∙ quiet_lead (lead p) cs (trail p) (lead_gaps p) is.some is.begins

part_twin : (new : Item → List ℕ) (text : List ℕ) (a c : ℕ) (p : List Chunk) (i j : Item) (h : HasChange new text i) → StandsAt text c p → range_of i ≡ place_at (c + size_of p) p → range_of j ≡ place_at (a + size_of (changed_part h.change p)) (changed_part h.change p) → j.rule ≡ i.rule
    → IsTwinList a c (flat (changed_part h.change p)) (flat p) (j ∷ []) (i ∷ [])
part_twin new text a c p i j h stands is there rule =
    let q = changed_part h.change p in
    let place = is_at c p i is in
    let other = is_at a q j there in
    let old : slice_range text i.from i.to ≡ flat (solid p) = rw (place.from, place.to) stands.own in
    let own : new i ≡ flat (solid q) = h.text_is ∙ ap (text_after h.change) old ∙ sym (changed_text h.change p h.is) in
    let before : size_of (lead q) ≡ size_of (lead p) = ap size_of (lead_changed h.change p h.is) in
    let out : flat (lead p) ++ (new i ++ flat (trail p)) ≡ flat q = ap (λ (bs : List ℕ). flat (lead p) ++ (bs ++ flat (trail p))) (h.text_is ∙ ap (text_after h.change) old) ∙ sym (changed_flat h.change p h.is) in
    let whole : flat (lead p) ++ (slice_range text i.from i.to ++ flat (trail p)) ≡ flat p = ap (λ (bs : List ℕ). flat (lead p) ++ (bs ++ flat (trail p))) old ∙ sym (part_flat p) in
    let here = twin_between a c (flat (lead p)) (flat (trail p)) (new i) (slice_range text i.from i.to) j i h.pieces (omega (arith, other.from, before)) (omega (arith, other.to, before, ap length own)) place.from (omega (arith, place.to, ap length old)) rule in
    subst (λ (bs : List ℕ). IsTwinList a c bs (flat p) (j ∷ []) (i ∷ [])) out (subst (λ (bs : List ℕ). IsTwinList a c (flat (lead p) ++ (new i ++ flat (trail p))) bs (j ∷ []) (i ∷ [])) whole here)

-- ---- a list

pub twin_list : (new : Item → List ℕ) (text other : List ℕ) (ch : (i : Item) → HasChange new text i) (a c k : ℕ) (p : List Chunk) (ps : List (List Chunk)) (own js others : List Item) → AreListed text c p ps own others
    → AreListed other a (changed_part (first_change (changes ch own)) p) (changed_parts (other_changes (changes ch own)) ps) js [] → AreOf k own → AreOf k js → IsTwinList a c (flat (changed_list (changes ch own) p ps)) (flat (joined p ps)) js own
twin_list new text other ch a c k p [] [] js others is there first second = absurd (none_is _ _ is.places_are)
twin_list new text other ch a c k p (q ∷ qs) [] js others is there first second = absurd (none_is _ _ is.places_are)
twin_list new text other ch a c k p [] (i ∷ g ∷ own) js others is there first second = absurd (some_is _ _ (tails_same _ _ _ _ is.places_are))
twin_list new text other ch a c k p [] (i ∷ []) [] others is there first second = absurd (none_is _ _ there.places_are)
twin_list new text other ch a c k p [] (i ∷ []) (j ∷ h ∷ js) others is there first second = absurd (some_is _ _ (tails_same _ _ _ _ there.places_are))
twin_list new text other ch a c k p (q ∷ qs) (i ∷ own) [] others is there first second = absurd (none_is _ _ there.places_are)
twin_list new text other ch a c k p [] (i ∷ []) (j ∷ []) others is there first second =
    part_twin new text a c p i j (ch i) (stands_at text is.pre is.z c p is.whole is.before) (heads_same _ _ _ _ is.places_are) (heads_same _ _ _ _ there.places_are) (second.0 ∙ sym first.0)
twin_list new text other ch a c k p (q ∷ qs) (i ∷ own) (j ∷ js) others is there first second =
    let xs = changes ch own in
    let p2 = changed_part (ch i).change p in
    let q2 = changed_part (first_change xs) q in
    let qs2 = changed_parts (other_changes xs) qs in
    let inner = flat (joined q qs) in
    let list : flat (joined p (q ∷ qs)) ++ is.z ≡ flat p ++ (44 ∷ inner ++ is.z) = ap (λ bs. bs ++ is.z) (flat-append p (comma ∷ joined q qs)) ∙ append_assoc (flat p) (44 ∷ inner) is.z in
    let stands = stands_at text is.pre (44 ∷ inner ++ is.z) c p (is.whole ∙ ap (λ bs. is.pre ++ bs) list) is.before in
    let place : range_of i ≡ place_at (c + size_of p) p = heads_same _ _ _ _ is.places_are ∙ ap (λ n. place_at n p) (first_end c p q qs) in
    let place2 : range_of j ≡ place_at (a + size_of p2) p2 = heads_same _ _ _ _ there.places_are ∙ ap (λ n. place_at n p2) (first_end a p2 q2 qs2) in
    let here = part_twin new text a c p i j (ch i) stands place place2 (second.0 ∙ sym first.0) in
    let later = twin_list new text other ch (a + size_of p2 + 1) (c + size_of p + 1) k q qs own js others (listed_next text c p q qs i own others is) (listed_next other a p2 q2 qs2 j js [] there) first.1 second.1 in
    let tail = twin_both (a + size_of p2) (c + size_of p) (44 ∷ []) (44 ∷ []) (flat (joined q2 qs2)) inner [] [] js own (twin_plain (a + size_of p2) (c + size_of p) (44 ∷ [])) later in
    let all = twin_both a c (flat p2) (flat p) (44 ∷ flat (joined q2 qs2)) (44 ∷ inner) (j ∷ []) (i ∷ []) js own here tail in
    subst (λ (bs : List ℕ). IsTwinList a c bs (flat (joined p (q ∷ qs))) (j ∷ js) (i ∷ own)) (sym (flat-append p2 (comma ∷ joined q2 qs2)))
    (subst (λ (bs : List ℕ). IsTwinList a c (flat p2 ++ 44 ∷ flat (joined q2 qs2)) bs (j ∷ js) (i ∷ own)) (sym (flat-append p (comma ∷ joined q qs))) all)
  where
    first_end : (at : ℕ) (p q : List Chunk) (qs : List (List Chunk)) → at + size_of (joined p (q ∷ qs)) - suc (size_of (joined q qs)) ≡ at + size_of p
    first_end at p q qs = let all = joined_size p q qs in omega arith

-- ---- spans

pub record IsTwinSheet (a c : ℕ) (left ss : List Span) (js is : List Item) : Type 0 where
  pub parts : List Piece
  pub spelt : out_of parts ≡ bytes_of left
  pub stands : text_of parts ≡ bytes_of ss
  pub whole : AreWhole parts
  pub items : AreTwinItems (Meets a c parts) js is
  pub steps : AreTwinSteps (Meets a c parts) (steps_at a left) (steps_at c ss)

pub twin_none : (a c : ℕ) → IsTwinSheet a c [] [] [] []
twin_none a c = record { parts = []; spelt = refl; stands = refl; whole = tt; items = tt; steps = tt }

pub twin_span : (a c : ℕ) (f g : Front) (out text : List ℕ) (left ss : List Span) (js is others more : List Item) → IsSameKind f g → IsTwinList a c out text js is → IsTwinSheet (a + length out) (c + length text) left ss others more
    → IsTwinSheet a c ((record { front = f; bytes = out }) ∷ left) ((record { front = g; bytes = text }) ∷ ss) (js ++ others) (is ++ more)
unfolding twin_both
twin_span a c f g out text left ss js is others more kind x y =
    let list = twin_both a c out text (bytes_of left) (bytes_of ss) js is others more x (record { parts = y.parts; spelt = y.spelt; stands = y.stands; whole = y.whole; items = y.items }) in
    let next = behind a c x.parts y.parts out text x.spelt x.stands in
    record {
      parts = x.parts ++ y.parts;
      spelt = list.spelt;
      stands = list.stands;
      whole = list.whole;
      items = list.items;
      steps = (
        kind,
        meets_start a c (x.parts ++ y.parts) a c refl refl,
        next (a + length out) (c + length text) (meets_start (a + length out) (c + length text) y.parts (a + length out) (c + length text) refl refl),
        steps_to (Meets (a + length out) (c + length text) y.parts) (Meets a c (x.parts ++ y.parts)) (steps_at (a + length out) left) (steps_at (c + length text) ss) next y.steps,
      );
    }
