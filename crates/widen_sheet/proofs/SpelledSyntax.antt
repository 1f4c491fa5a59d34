-- The syntax of a selector with its marks is that of what stays.
use Rattle.std.proofs.Common.{◌≡◌, ℕ, ◌+◌, ◌<◌, ◌≤◌, ◌==◌, ◌||◌, not, Bool, true, false, if◌then◌else◌, List, [], ◌∷◌, ◌++◌, codes, Option, Some, None, refl, sym, ap, ◌∙◌, subst, arith, append_assoc, append-nil, inl, inr}
use Rattle.std.proofs.lemmas.Bool.{cases_Bool}
use Rattle.text_bytes.specs.Blanks.{is_blank}
use Rattle.sel_text.specs.declared.faults.TheConstants.{MOST_PARTS}
use Rattle.sel_text.specs.declared.selectors.Join.{Join}
use Rattle.sel_text.specs.declared.selectors.Join.TheVariants as code
use Rattle.sel_text.specs.Syntax.{part, joined, Syntax, with_item, nothing, syntax_from}
use Rattle.sel_text.proofs.NameLemmas.{IsStart}
use Rattle.widen_sheet.specs.declared.marks.Mark.{Mark}
use Rattle.widen_sheet.specs.declared.marks.Mark.TheVariants as mark
use Rattle.widen_sheet.specs.declared.tokens.Kind.{Kind}
use Rattle.widen_sheet.specs.declared.tokens.Kind.TheVariants.{Judged, Other, Inside, Child, Next, Later}
use Rattle.widen_sheet.specs.Wide.{Wide, Slot, has, letter, opening, closing, goes, kinds, run_behind, mark_of, slots_from, between, spelled_from, spelled, joints, compounds_left}
use Rattle.widen_sheet.proofs.JoinReads.{is_behind, IsBehind, good_behind, inside_is, child_is, IsToken, AreTokens}
use Rattle.widen_sheet.proofs.PieceLemmas.{has_right}
use Rattle.widen_sheet.proofs.SlotPieces.{words, has_left}
use Rattle.widen_sheet.proofs.SpelledReads.{first_token, later_token, join_token, mark_read, kept}
use Rattle.widen_sheet.proofs.TokenReads.{is_sign}

pub wrong : {A : Type 0} → true ≡ false → A
wrong e = absurd cc

-- ---- what the text begins with

abbrev pub NextIs : Bool → List ℕ → Type 0
NextIs true rest = IsStart rest
NextIs false rest = IsBehind rest

sign_behind : (b : ℕ) → is_sign b ≡ true → is_behind b ≡ true
sign_behind b is = rw is refl

join_behind : (b : ℕ) → (is_blank b || b == 62) ≡ true → is_behind b ≡ true
join_behind b is = rw is (or_true (is_sign b))
  where
    or_true : (x : Bool) → (x || true) ≡ true
    or_true true = refl
    or_true false = refl

later_next : (sign : ℕ) (more text rest : List ℕ) → text ≡ sign ∷ more → is_behind sign ≡ true → IsBehind (text ++ rest)
later_next sign more text rest whole is = subst (λ (x : List ℕ). IsBehind (x ++ rest)) (sym whole) is

open_next : (wanted : Bool) (n : Mark) (rest : List ℕ) → NextIs wanted (opening n ++ rest)
open_next true n rest = (refl, refl, refl)
open_next false n rest = refl

front_by : (wanted : Bool) (k : Kind) (text : List ℕ) (run : Mark) (g : Bool) (ss : List Slot) → IsToken wanted k text → NextIs wanted (between None (mark_of run k g) ++ (text ++ spelled_from (mark_of run k g) ss))
front_by wanted Judged text run true ss is = open_next wanted run (text ++ spelled_from (Some run) ss)
front_by true Judged text run false ss is = is.1.start (spelled_from None ss)
front_by false Judged text run false ss is = later_next is.1.sign is.1.more text (spelled_from None ss) is.1.whole (sign_behind is.1.sign is.1.is)
front_by wanted Other text run true ss is = open_next wanted run (text ++ spelled_from (Some run) ss)
front_by wanted Other text run false ss is = open_next wanted mark.Part (text ++ spelled_from (Some mark.Part) ss)
front_by true Inside text run g ss is = absurd is
front_by true Child text run g ss is = absurd is
front_by true Next text run g ss is = absurd is
front_by true Later text run g ss is = absurd is
front_by false Inside text run true ss is = open_next false mark.Inside (text ++ spelled_from (Some mark.Inside) ss)
front_by false Inside text run false ss is = later_next is.first is.more text (spelled_from None ss) is.whole (join_behind is.first is.is)
front_by false Child text run true ss is = open_next false mark.Child (text ++ spelled_from (Some mark.Child) ss)
front_by false Child text run false ss is = later_next is.first is.more text (spelled_from None ss) is.whole (join_behind is.first is.is)
front_by false Next text run g ss is = open_next false run (text ++ spelled_from (Some run) ss)
front_by false Later text run g ss is = open_next false run (text ++ spelled_from (Some run) ss)

pub front_ok : (wanted : Bool) (ts : Wide) (run : Mark) → AreTokens wanted ts → NextIs wanted (spelled_from None (slots_from run ts))
front_ok true [] run are = absurd are
front_ok false [] run are = tt
front_ok true (t ∷ ts) run are = front_by true t.kind t.text run (goes (kinds ts)) (slots_from (run_behind t.kind run) ts) are.0
front_ok false (t ∷ ts) run are = front_by false t.kind t.text run (goes (kinds ts)) (slots_from (run_behind t.kind run) ts) are.0

-- ---- claims

abbrev pub IsRun : Mark → Type 0
IsRun mark.Part = ⊥
IsRun mark.Inside = Unit {0}
IsRun mark.Child = Unit {0}

abbrev run_join : Mark → Join
run_join mark.Child = code.Child
run_join m = code.Inside

-- before a token that is in no mark
abbrev NoneOf : ℕ → Wide → Type 0
NoneOf to ts =
    (run : Mark) (wanted : Bool) (are : AreTokens wanted ts) (n : ℕ) → has (codes "*/") (words ts) ≡ false → goes (kinds ts) ≡ false → n + joints (kinds ts) < MOST_PARTS
    → syntax_from true to n (not wanted) 0 (spelled_from None (slots_from run ts)) ≡ kept wanted ts are

-- in a mark of parts
abbrev PartOf : ℕ → Wide → Type 0
PartOf to ts =
    (run : Mark) (own : List ℕ) (are : AreTokens false ts) (n : ℕ) (begun : Bool) → has (codes "*/") (own ++ words ts) ≡ false → goes (kinds ts) ≡ false → n + joints (kinds ts) < MOST_PARTS
    → syntax_from true to n begun 0 (opening mark.Part ++ (own ++ spelled_from (Some mark.Part) (slots_from run ts))) ≡ kept false ts are

-- in a mark of compounds
abbrev RunOf : ℕ → Wide → Type 0
RunOf to ts =
    (m : Mark) → IsRun m → (own : List ℕ) (wanted : Bool) (are : AreTokens wanted ts) (n : ℕ) (begun : Bool) → has (codes "*/") (own ++ words ts) ≡ false → (wanted ≡ false → goes (kinds ts) ≡ true) → n + 1 + joints (kinds ts) < MOST_PARTS
    → syntax_from true to n begun 0 (opening m ++ (own ++ spelled_from (Some m) (slots_from m ts))) ≡ with_item (joined (run_join m)) (kept wanted ts are)

record AllOf (to : ℕ) (ts : Wide) : Type 0 where
  none : NoneOf to ts
  part : PartOf to ts
  run : RunOf to ts

-- ---- marks that end

abbrev pub IsApart : Mark → Option Mark → Type 0
IsApart m None = Unit {0}
IsApart m (Some n) = (letter m == letter n) ≡ false

closed_by : (m : Mark) (mk : Option Mark) (z : List ℕ) → IsApart m mk → between (Some m) mk ++ z ≡ closing m ++ (between None mk ++ z)
closed_by m None z apart = refl
closed_by m (Some n) z apart = rw apart (append_assoc (closing m) (opening n) z)

part_close : (to n : ℕ) (begun : Bool) (own y : List ℕ) → has (codes "*/") own ≡ false → IsBehind y → n < MOST_PARTS → syntax_from true to n begun 0 (opening mark.Part ++ (own ++ (closing mark.Part ++ y))) ≡ syntax_from true to n true 0 y
part_close to n begun own y none behind less = mark_read to n begun mark.Part own y none (good_behind y behind) less

run_close : (to n : ℕ) (begun : Bool) (m : Mark) (own y : List ℕ) → IsRun m → has (codes "*/") own ≡ false → IsStart y → n < MOST_PARTS
    → syntax_from true to n begun 0 (opening m ++ (own ++ (closing m ++ y))) ≡ with_item (joined (run_join m)) (syntax_from true to (n + 1) false 0 y)
run_close to n begun mark.Part own y is none start less = absurd is
run_close to n begun mark.Inside own y is none start less = mark_read to n begun mark.Inside own y none (good_behind (32 ∷ y) refl) less ∙ join_token to n (32 ∷ []) y code.Inside (inside_is 32 [] refl refl) start
run_close to n begun mark.Child own y is none start less = mark_read to n begun mark.Child own y none (good_behind (62 ∷ y) refl) less ∙ join_token to n (62 ∷ []) y code.Child (child_is [] [] refl refl) start

same_mark : (m : Mark) → (letter m == letter m) ≡ true
same_mark mark.Part = refl
same_mark mark.Inside = refl
same_mark mark.Child = refl

pub run_apart : (m : Mark) → IsRun m → (letter m == 112) ≡ false
run_apart mark.Part is = absurd is
run_apart mark.Inside is = refl
run_apart mark.Child is = refl

-- a mark that goes on over a text
pub goes_on : (m : Mark) (own x z : List ℕ) → opening m ++ (own ++ (between (Some m) (Some m) ++ (x ++ z))) ≡ opening m ++ ((own ++ x) ++ z)
goes_on m own x z = rw (same_mark m) (ap (λ (y : List ℕ). opening m ++ y) (sym (append_assoc own x z)))

pub closes_at : (m : Mark) (own z : List ℕ) (mk : Option Mark) → IsApart m mk → opening m ++ (own ++ (between (Some m) mk ++ z)) ≡ opening m ++ (own ++ (closing m ++ (between None mk ++ z)))
closes_at m own z mk apart = ap (λ (y : List ℕ). opening m ++ (own ++ y)) (closed_by m mk z apart)

pub still : (own x y : List ℕ) → has (codes "*/") (own ++ (x ++ y)) ≡ false → has (codes "*/") ((own ++ x) ++ y) ≡ false
still own x y none = ap (has (codes "*/")) (append_assoc own x y) ∙ none

-- ---- one token

none_by : (to : ℕ) (k : Kind) (x : List ℕ) (ts : Wide) → AllOf to ts → NoneOf to ((record { kind = k; text = x }) ∷ ts)
none_by to Judged x ts all run true are n none stays few =
    rw stays (first_token to n x (spelled_from None (slots_from run ts)) are.0.0 are.0.1 (good_behind (spelled_from None (slots_from run ts)) (front_ok false ts run are.1)) (omega arith)
    ∙ ap (with_item (part are.0.0)) (all.none run false are.1 n (has_right (codes "*/") x (words ts) none) stays (omega arith)))
none_by to Judged x ts all run false are n none stays few =
    rw stays (later_token to n x (spelled_from None (slots_from run ts)) are.0.0 are.0.1 (good_behind (spelled_from None (slots_from run ts)) (front_ok false ts run are.1))
    ∙ ap (with_item (part are.0.0)) (all.none run false are.1 n (has_right (codes "*/") x (words ts) none) stays (omega arith)))
none_by to Other x ts all run true are n none stays few = rw stays (all.part run x are.1 n false none stays (omega arith))
none_by to Other x ts all run false are n none stays few = rw stays (all.part run x are.1 n true none stays (omega arith))
none_by to Inside x ts all run true are n none stays few = absurd are.0
none_by to Child x ts all run true are n none stays few = absurd are.0
none_by to Next x ts all run true are n none stays few = absurd are.0
none_by to Later x ts all run true are n none stays few = absurd are.0
none_by to Next x ts all run false are n none stays few = wrong stays
none_by to Later x ts all run false are n none stays few = wrong stays
none_by to Inside x ts all run false are n none stays few = elim (cases_Bool (goes (kinds ts))) [
  | inl e ↦ rw e (all.run mark.Inside tt x true are.1 n true none (λ w. wrong w) (omega arith))
  | inr e ↦
      rw e (join_token to n x (spelled_from None (slots_from mark.Inside ts)) code.Inside are.0 (front_ok true ts mark.Inside are.1)
      ∙ ap (with_item (joined code.Inside)) (all.none mark.Inside true are.1 (n + 1) (has_right (codes "*/") x (words ts) none) e (omega arith)))
]
none_by to Child x ts all run false are n none stays few = elim (cases_Bool (goes (kinds ts))) [
  | inl e ↦ rw e (all.run mark.Child tt x true are.1 n true none (λ w. wrong w) (omega arith))
  | inr e ↦
      rw e (join_token to n x (spelled_from None (slots_from mark.Child ts)) code.Child are.0 (front_ok true ts mark.Child are.1)
      ∙ ap (with_item (joined code.Child)) (all.none mark.Child true are.1 (n + 1) (has_right (codes "*/") x (words ts) none) e (omega arith)))
]

-- the mark of parts ends before the token
part_ends : (to : ℕ) (k : Kind) (x : List ℕ) (ts : Wide) → NoneOf to ((record { kind = k; text = x }) ∷ ts) → (run : Mark) → IsApart mark.Part (mark_of run k (goes (kinds ts))) → (own : List ℕ) (are : AreTokens false ((record { kind = k; text = x }) ∷ ts)) (n : ℕ) (begun : Bool)
    → has (codes "*/") (own ++ (x ++ words ts)) ≡ false → goes (k ∷ kinds ts) ≡ false → n + joints (k ∷ kinds ts) < MOST_PARTS
    → syntax_from true to n begun 0 (opening mark.Part ++ (own ++ spelled_from (Some mark.Part) (slots_from run ((record { kind = k; text = x }) ∷ ts)))) ≡ kept false ((record { kind = k; text = x }) ∷ ts) are
part_ends to k x ts here run apart own are n begun none stays few =
    ap (syntax_from true to n begun 0) (closes_at mark.Part own _ (mark_of run k (goes (kinds ts))) apart)
    ∙ part_close to n begun own (spelled_from None (slots_from run ((record { kind = k; text = x }) ∷ ts))) (has_left (codes "*/") own (x ++ words ts) none) (front_ok false ((record { kind = k; text = x }) ∷ ts) run are) (omega arith)
    ∙ here run false are n (has_right (codes "*/") own (x ++ words ts) none) stays few

part_by : (to : ℕ) (k : Kind) (x : List ℕ) (ts : Wide) → AllOf to ts → NoneOf to ((record { kind = k; text = x }) ∷ ts) → PartOf to ((record { kind = k; text = x }) ∷ ts)
part_by to Judged x ts all here run own are n begun none stays few = part_ends to Judged x ts here run (rw stays tt) own are n begun none stays few
part_by to Other x ts all here run own are n begun none stays few = rw stays (ap (syntax_from true to n begun 0) (goes_on mark.Part own x (spelled_from (Some mark.Part) (slots_from run ts))) ∙ all.part run (own ++ x) are.1 n begun (still own x (words ts) none) stays (omega arith))
part_by to Inside x ts all here run own are n begun none stays few = part_ends to Inside x ts here run (by (goes (kinds ts))) own are n begun none stays few
  where
    by : (g : Bool) → IsApart mark.Part (mark_of run Inside g)
    by true = refl
    by false = tt
part_by to Child x ts all here run own are n begun none stays few = part_ends to Child x ts here run (by (goes (kinds ts))) own are n begun none stays few
  where
    by : (g : Bool) → IsApart mark.Part (mark_of run Child g)
    by true = refl
    by false = tt
part_by to Next x ts all here run own are n begun none stays few = wrong stays
part_by to Later x ts all here run own are n begun none stays few = wrong stays

-- the mark of compounds ends before the token
run_ends : (to : ℕ) (k : Kind) (x : List ℕ) (ts : Wide) → NoneOf to ((record { kind = k; text = x }) ∷ ts) → (m : Mark) → IsRun m → IsApart m (mark_of m k (goes (kinds ts))) → (own : List ℕ) (are : AreTokens true ((record { kind = k; text = x }) ∷ ts)) (n : ℕ) (begun : Bool)
    → has (codes "*/") (own ++ (x ++ words ts)) ≡ false → goes (k ∷ kinds ts) ≡ false → n + 1 + joints (k ∷ kinds ts) < MOST_PARTS
    → syntax_from true to n begun 0 (opening m ++ (own ++ spelled_from (Some m) (slots_from m ((record { kind = k; text = x }) ∷ ts)))) ≡ with_item (joined (run_join m)) (kept true ((record { kind = k; text = x }) ∷ ts) are)
run_ends to k x ts here m is apart own are n begun none stays few =
    ap (syntax_from true to n begun 0) (closes_at m own _ (mark_of m k (goes (kinds ts))) apart)
    ∙ run_close to n begun m own (spelled_from None (slots_from m ((record { kind = k; text = x }) ∷ ts))) is (has_left (codes "*/") own (x ++ words ts) none) (front_ok true ((record { kind = k; text = x }) ∷ ts) m are) (omega arith)
    ∙ ap (with_item (joined (run_join m))) (here m true are (n + 1) (has_right (codes "*/") own (x ++ words ts) none) stays few)

run_by : (to : ℕ) (k : Kind) (x : List ℕ) (ts : Wide) → AllOf to ts → NoneOf to ((record { kind = k; text = x }) ∷ ts) → RunOf to ((record { kind = k; text = x }) ∷ ts)
run_by to Judged x ts all here m is own true are n begun none gone few = elim (cases_Bool (goes (kinds ts))) [
  | inl e ↦ rw e (ap (syntax_from true to n begun 0) (goes_on m own x (spelled_from (Some m) (slots_from m ts))) ∙ all.run m is (own ++ x) false are.1 n begun (still own x (words ts) none) (λ w. e) (omega arith))
  | inr e ↦ run_ends to Judged x ts here m is (rw e tt) own are n begun none e few
]
run_by to Judged x ts all here m is own false are n begun none gone few =
    let e = gone refl in
    rw e (ap (syntax_from true to n begun 0) (goes_on m own x (spelled_from (Some m) (slots_from m ts))) ∙ all.run m is (own ++ x) false are.1 n begun (still own x (words ts) none) (λ w. e) (omega arith))
run_by to Other x ts all here m is own true are n begun none gone few = elim (cases_Bool (goes (kinds ts))) [
  | inl e ↦ rw e (ap (syntax_from true to n begun 0) (goes_on m own x (spelled_from (Some m) (slots_from m ts))) ∙ all.run m is (own ++ x) false are.1 n begun (still own x (words ts) none) (λ w. e) (omega arith))
  | inr e ↦ run_ends to Other x ts here m is (rw e (run_apart m is)) own are n begun none e few
]
run_by to Other x ts all here m is own false are n begun none gone few =
    let e = gone refl in
    rw e (ap (syntax_from true to n begun 0) (goes_on m own x (spelled_from (Some m) (slots_from m ts))) ∙ all.run m is (own ++ x) false are.1 n begun (still own x (words ts) none) (λ w. e) (omega arith))
run_by to Inside x ts all here m is own true are n begun none gone few = absurd are.0
run_by to Child x ts all here m is own true are n begun none gone few = absurd are.0
run_by to Next x ts all here m is own true are n begun none gone few = absurd are.0
run_by to Later x ts all here m is own true are n begun none gone few = absurd are.0
run_by to Inside x ts all here m is own false are n begun none gone few = wrong (sym (gone refl))
run_by to Child x ts all here m is own false are n begun none gone few = wrong (sym (gone refl))
run_by to Next x ts all here m is own false are n begun none gone few =
    ap (syntax_from true to n begun 0) (goes_on m own x (spelled_from (Some m) (slots_from m ts))) ∙ all.run m is (own ++ x) true are.1 n begun (still own x (words ts) none) (λ w. wrong w) (omega arith)
run_by to Later x ts all here m is own false are n begun none gone few =
    ap (syntax_from true to n begun 0) (goes_on m own x (spelled_from (Some m) (slots_from m ts))) ∙ all.run m is (own ++ x) true are.1 n begun (still own x (words ts) none) (λ w. wrong w) (omega arith)

pub at_end : (to n : ℕ) → syntax_from true to n true 0 [] ≡ nothing None
unfolding syntax_from
at_end to n = refl

none_end : (to : ℕ) → NoneOf to []
none_end to run true are n none stays few = absurd are
none_end to run false are n none stays few = at_end to n

part_end : (to : ℕ) → PartOf to []
part_end to run own are n begun none stays few =
    ap (λ (y : List ℕ). syntax_from true to n begun 0 (opening mark.Part ++ (own ++ y))) (sym (append-nil (closing mark.Part)))
    ∙ part_close to n begun own [] (ap (has (codes "*/")) (sym (append-nil own)) ∙ none) tt (omega arith)
    ∙ at_end to n

run_end : (to : ℕ) → RunOf to []
run_end to m is own true are n begun none gone few = absurd are
run_end to m is own false are n begun none gone few = wrong (sym (gone refl))

all_of : (to : ℕ) (ts : Wide) → AllOf to ts
all_of to [] = record { none = none_end to; part = part_end to; run = run_end to }
all_of to (t ∷ ts) =
    let later = all_of to ts in
    let here = none_by to t.kind t.text ts later in
    record { none = here; part = part_by to t.kind t.text ts later here; run = run_by to t.kind t.text ts later here }

-- ---- the whole

-- a compound before those that stay, where some go at the beginning
abbrev pub whole_kept : Bool → Syntax → Syntax
whole_kept gone s = if gone then with_item (joined code.Inside) s else s

begins_run : (to : ℕ) (k : Kind) (x : List ℕ) (ts : Wide) (are : AreTokens true ((record { kind = k; text = x }) ∷ ts)) → has (codes "*/") (x ++ words ts) ≡ false → goes (k ∷ kinds ts) ≡ true → 1 + joints (k ∷ kinds ts) < MOST_PARTS
    → syntax_from true to 0 false 0 (spelled ((record { kind = k; text = x }) ∷ ts)) ≡ with_item (joined code.Inside) (kept true ((record { kind = k; text = x }) ∷ ts) are)
begins_run to Judged x ts are none gone few = rw gone ((all_of to ts).run mark.Inside tt x false are.1 0 false none (λ w. gone) (omega arith))
begins_run to Other x ts are none gone few = rw gone ((all_of to ts).run mark.Inside tt x false are.1 0 false none (λ w. gone) (omega arith))
begins_run to Inside x ts are none gone few = absurd are.0
begins_run to Child x ts are none gone few = absurd are.0
begins_run to Next x ts are none gone few = absurd are.0
begins_run to Later x ts are none gone few = absurd are.0

pub spelled_syntax : (to : ℕ) (w : Wide) (are : AreTokens true w) → has (codes "*/") (words w) ≡ false → compounds_left (kinds w) ≤ MOST_PARTS → syntax_from true to 0 false 0 (spelled w) ≡ whole_kept (goes (kinds w)) (kept true w are)
spelled_syntax to [] are none few = absurd are
spelled_syntax to (t ∷ ts) are none few = elim (cases_Bool (goes (kinds (t ∷ ts)))) [
  | inl e ↦ let less : 2 + joints (kinds (t ∷ ts)) ≤ MOST_PARTS = rw e at few in begins_run to t.kind t.text ts are none e (omega arith) ∙ sym (ap (λ (g : Bool). whole_kept g (kept true (t ∷ ts) are)) e)
  | inr e ↦ let less : 1 + joints (kinds (t ∷ ts)) ≤ MOST_PARTS = rw e at few in (all_of to (t ∷ ts)).none mark.Inside true are 0 none e (omega arith) ∙ sym (ap (λ (g : Bool). whole_kept g (kept true (t ∷ ts) are)) e)
]
