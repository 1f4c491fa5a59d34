-- A selector with its marks is passed over by itself wherever it stands, and begins and ends with no gap.
use Rattle.std.proofs.Common.{◌≡◌, ℕ, ◌<◌, Bool, true, false, List, [], ◌∷◌, ◌++◌, length, codes, Some, None, refl, sym, ap, ◌∙◌, subst, arith, append-nil, inl, inr}
use Rattle.std.proofs.lemmas.Bool.{cases_Bool}
use Rattle.css_read.proofs.UnitLemmas.{Chunk, flat, strip, solids}
use Rattle.css_read.proofs.ListLemmas.{BeginsList}
use Rattle.widen_sheet.specs.declared.marks.Mark.{Mark}
use Rattle.widen_sheet.specs.declared.marks.Mark.TheVariants as mark
use Rattle.widen_sheet.specs.declared.tokens.Kind.{Kind}
use Rattle.widen_sheet.specs.declared.tokens.Kind.TheVariants.{Judged, Other, Inside, Child, Next, Later}
use Rattle.widen_sheet.specs.Wide.{Wide, has, opening, closing, goes, kinds, mark_of, slots_from, between, spelled_from, spelled}
use Rattle.widen_sheet.proofs.ChangedRules.{IsQuiet}
use Rattle.widen_sheet.proofs.JoinReads.{AreTokens}
use Rattle.widen_sheet.proofs.PieceLemmas.{has_right}
use Rattle.widen_sheet.proofs.QuietTexts.{TailText, part_then, front_then, join_then, nothing_behind, whole_mark, mark_is, mark_front, mark_solid}
use Rattle.widen_sheet.proofs.SlotPieces.{words, has_left}
use Rattle.widen_sheet.proofs.SpelledSyntax.{IsRun, IsApart, closes_at, goes_on, still, run_apart, wrong}

-- ---- claims

abbrev NoneOf : Wide → Type 0
NoneOf ts = (run : Mark) (wanted : Bool) (are : AreTokens wanted ts) → has (codes "*/") (words ts) ≡ false → goes (kinds ts) ≡ false → TailText wanted (spelled_from None (slots_from run ts))

abbrev PartOf : Wide → Type 0
PartOf ts = (run : Mark) (own : List ℕ) (are : AreTokens false ts) (first : Bool) → has (codes "*/") (own ++ words ts) ≡ false → goes (kinds ts) ≡ false → TailText first (opening mark.Part ++ (own ++ spelled_from (Some mark.Part) (slots_from run ts)))

abbrev RunOf : Wide → Type 0
RunOf ts =
    (m : Mark) → IsRun m → (own : List ℕ) (wanted : Bool) (are : AreTokens wanted ts) (first : Bool) → has (codes "*/") (own ++ words ts) ≡ false → (wanted ≡ false → goes (kinds ts) ≡ true)
    → TailText first (opening m ++ (own ++ spelled_from (Some m) (slots_from m ts)))

record AllOf (ts : Wide) : Type 0 where
  none : NoneOf ts
  part : PartOf ts
  run : RunOf ts

-- ---- marks that end

part_close : (first : Bool) (own y : List ℕ) → has (codes "*/") own ≡ false → TailText false y → TailText first (opening mark.Part ++ (own ++ (closing mark.Part ++ y)))
part_close first own y none later = subst (TailText first) (sym (mark_is mark.Part own y)) (part_then first (whole_mark mark.Part own) y (mark_front mark.Part own none) (mark_solid own none) later)

run_close : (first : Bool) (m : Mark) (own y : List ℕ) → has (codes "*/") own ≡ false → TailText true y → TailText first (opening m ++ (own ++ (closing m ++ y)))
run_close first m own y none later = subst (TailText first) (sym (mark_is m own y)) (front_then first (whole_mark m own) y (mark_front m own none) later)

-- ---- one token

none_by : (k : Kind) (x : List ℕ) (ts : Wide) → AllOf ts → NoneOf ((record { kind = k; text = x }) ∷ ts)
none_by Judged x ts all run true are none stays =
    rw stays (part_then true x (spelled_from None (slots_from run ts)) are.0.1.solid.front are.0.1.solid.ends (all.none run false are.1 (has_right (codes "*/") x (words ts) none) stays))
none_by Judged x ts all run false are none stays =
    rw stays (part_then false x (spelled_from None (slots_from run ts)) are.0.1.solid.front are.0.1.solid.ends (all.none run false are.1 (has_right (codes "*/") x (words ts) none) stays))
none_by Other x ts all run true are none stays = rw stays (all.part run x are.1 true none stays)
none_by Other x ts all run false are none stays = rw stays (all.part run x are.1 false none stays)
none_by Inside x ts all run true are none stays = absurd are.0
none_by Child x ts all run true are none stays = absurd are.0
none_by Next x ts all run true are none stays = absurd are.0
none_by Later x ts all run true are none stays = absurd are.0
none_by Next x ts all run false are none stays = wrong stays
none_by Later x ts all run false are none stays = wrong stays
none_by Inside x ts all run false are none stays = elim (cases_Bool (goes (kinds ts))) [
  | inl e ↦ rw e (all.run mark.Inside tt x true are.1 false none (λ w. wrong w))
  | inr e ↦ rw e (join_then x (spelled_from None (slots_from mark.Inside ts)) are.0.quiet (all.none mark.Inside true are.1 (has_right (codes "*/") x (words ts) none) e))
]
none_by Child x ts all run false are none stays = elim (cases_Bool (goes (kinds ts))) [
  | inl e ↦ rw e (all.run mark.Child tt x true are.1 false none (λ w. wrong w))
  | inr e ↦ rw e (join_then x (spelled_from None (slots_from mark.Child ts)) are.0.quiet (all.none mark.Child true are.1 (has_right (codes "*/") x (words ts) none) e))
]

part_ends : (k : Kind) (x : List ℕ) (ts : Wide) → NoneOf ((record { kind = k; text = x }) ∷ ts) → (run : Mark) → IsApart mark.Part (mark_of run k (goes (kinds ts))) → (own : List ℕ) (are : AreTokens false ((record { kind = k; text = x }) ∷ ts)) (first : Bool)
    → has (codes "*/") (own ++ (x ++ words ts)) ≡ false → goes (k ∷ kinds ts) ≡ false → TailText first (opening mark.Part ++ (own ++ spelled_from (Some mark.Part) (slots_from run ((record { kind = k; text = x }) ∷ ts))))
part_ends k x ts here run apart own are first none stays =
    subst (TailText first) (sym (closes_at mark.Part own _ (mark_of run k (goes (kinds ts))) apart))
    (part_close first own (spelled_from None (slots_from run ((record { kind = k; text = x }) ∷ ts))) (has_left (codes "*/") own (x ++ words ts) none) (here run false are (has_right (codes "*/") own (x ++ words ts) none) stays))

part_by : (k : Kind) (x : List ℕ) (ts : Wide) → AllOf ts → NoneOf ((record { kind = k; text = x }) ∷ ts) → PartOf ((record { kind = k; text = x }) ∷ ts)
part_by Judged x ts all here run own are first none stays = part_ends Judged x ts here run (rw stays tt) own are first none stays
part_by Other x ts all here run own are first none stays = rw stays (subst (TailText first) (sym (goes_on mark.Part own x (spelled_from (Some mark.Part) (slots_from run ts)))) (all.part run (own ++ x) are.1 first (still own x (words ts) none) stays))
part_by Inside x ts all here run own are first none stays = part_ends Inside x ts here run (by (goes (kinds ts))) own are first none stays
  where
    by : (g : Bool) → IsApart mark.Part (mark_of run Inside g)
    by true = refl
    by false = tt
part_by Child x ts all here run own are first none stays = part_ends Child x ts here run (by (goes (kinds ts))) own are first none stays
  where
    by : (g : Bool) → IsApart mark.Part (mark_of run Child g)
    by true = refl
    by false = tt
part_by Next x ts all here run own are first none stays = wrong stays
part_by Later x ts all here run own are first none stays = wrong stays

run_ends : (k : Kind) (x : List ℕ) (ts : Wide) → NoneOf ((record { kind = k; text = x }) ∷ ts) → (m : Mark) → IsApart m (mark_of m k (goes (kinds ts))) → (own : List ℕ) (are : AreTokens true ((record { kind = k; text = x }) ∷ ts)) (first : Bool)
    → has (codes "*/") (own ++ (x ++ words ts)) ≡ false → goes (k ∷ kinds ts) ≡ false → TailText first (opening m ++ (own ++ spelled_from (Some m) (slots_from m ((record { kind = k; text = x }) ∷ ts))))
run_ends k x ts here m apart own are first none stays =
    subst (TailText first) (sym (closes_at m own _ (mark_of m k (goes (kinds ts))) apart))
    (run_close first m own (spelled_from None (slots_from m ((record { kind = k; text = x }) ∷ ts))) (has_left (codes "*/") own (x ++ words ts) none) (here m true are (has_right (codes "*/") own (x ++ words ts) none) stays))

-- the mark goes on over the token
run_more : (x : List ℕ) (ts : Wide) (m : Mark) (own : List ℕ) (first : Bool) → TailText first (opening m ++ ((own ++ x) ++ spelled_from (Some m) (slots_from m ts))) → TailText first (opening m ++ (own ++ (between (Some m) (Some m) ++ (x ++ spelled_from (Some m) (slots_from m ts)))))
run_more x ts m own first later = subst (TailText first) (sym (goes_on m own x (spelled_from (Some m) (slots_from m ts)))) later

run_by : (k : Kind) (x : List ℕ) (ts : Wide) → AllOf ts → NoneOf ((record { kind = k; text = x }) ∷ ts) → RunOf ((record { kind = k; text = x }) ∷ ts)
run_by Judged x ts all here m is own true are first none gone = elim (cases_Bool (goes (kinds ts))) [
  | inl e ↦ rw e (run_more x ts m own first (all.run m is (own ++ x) false are.1 first (still own x (words ts) none) (λ w. e)))
  | inr e ↦ run_ends Judged x ts here m (rw e tt) own are first none e
]
run_by Judged x ts all here m is own false are first none gone = let e = gone refl in rw e (run_more x ts m own first (all.run m is (own ++ x) false are.1 first (still own x (words ts) none) (λ w. e)))
run_by Other x ts all here m is own true are first none gone = elim (cases_Bool (goes (kinds ts))) [
  | inl e ↦ rw e (run_more x ts m own first (all.run m is (own ++ x) false are.1 first (still own x (words ts) none) (λ w. e)))
  | inr e ↦ run_ends Other x ts here m (rw e (run_apart m is)) own are first none e
]
run_by Other x ts all here m is own false are first none gone = let e = gone refl in rw e (run_more x ts m own first (all.run m is (own ++ x) false are.1 first (still own x (words ts) none) (λ w. e)))
run_by Inside x ts all here m is own true are first none gone = absurd are.0
run_by Child x ts all here m is own true are first none gone = absurd are.0
run_by Next x ts all here m is own true are first none gone = absurd are.0
run_by Later x ts all here m is own true are first none gone = absurd are.0
run_by Inside x ts all here m is own false are first none gone = wrong (sym (gone refl))
run_by Child x ts all here m is own false are first none gone = wrong (sym (gone refl))
run_by Next x ts all here m is own false are first none gone = run_more x ts m own first (all.run m is (own ++ x) true are.1 first (still own x (words ts) none) (λ w. wrong w))
run_by Later x ts all here m is own false are first none gone = run_more x ts m own first (all.run m is (own ++ x) true are.1 first (still own x (words ts) none) (λ w. wrong w))

none_end : NoneOf []
none_end run true are none stays = absurd are
none_end run false are none stays = nothing_behind

part_end : PartOf []
part_end run own are first none stays =
    subst (λ (y : List ℕ). TailText first (opening mark.Part ++ (own ++ y))) (append-nil (closing mark.Part)) (part_close first own [] (ap (has (codes "*/")) (sym (append-nil own)) ∙ none) nothing_behind)

run_end : RunOf []
run_end m is own true are first none gone = absurd are
run_end m is own false are first none gone = wrong (sym (gone refl))

all_of : (ts : Wide) → AllOf ts
all_of [] = record { none = none_end; part = part_end; run = run_end }
all_of (t ∷ ts) = let later = all_of ts in let here = none_by t.kind t.text ts later in record { none = here; part = part_by t.kind t.text ts later here; run = run_by t.kind t.text ts later here }

begins_run : (k : Kind) (x : List ℕ) (ts : Wide) (are : AreTokens true ((record { kind = k; text = x }) ∷ ts)) → has (codes "*/") (x ++ words ts) ≡ false → goes (k ∷ kinds ts) ≡ true → TailText true (spelled ((record { kind = k; text = x }) ∷ ts))
begins_run Judged x ts are none gone = rw gone ((all_of ts).run mark.Inside tt x false are.1 true none (λ w. gone))
begins_run Other x ts are none gone = rw gone ((all_of ts).run mark.Inside tt x false are.1 true none (λ w. gone))
begins_run Inside x ts are none gone = absurd are.0
begins_run Child x ts are none gone = absurd are.0
begins_run Next x ts are none gone = absurd are.0
begins_run Later x ts are none gone = absurd are.0

pub spelled_tail : (w : Wide) → AreTokens true w → has (codes "*/") (words w) ≡ false → TailText true (spelled w)
spelled_tail [] are none = absurd are
spelled_tail (t ∷ ts) are none = elim (cases_Bool (goes (kinds (t ∷ ts)))) [
  | inl e ↦ begins_run t.kind t.text ts are none e
  | inr e ↦ (all_of (t ∷ ts)).none mark.Inside true are none e
]

strip_begun : (cs : List Chunk) → 0 < length cs → BeginsList cs → strip cs ≡ cs
strip_begun [] some begins = absurd (omega arith)
strip_begun (c ∷ cs) some begins = rw begins.0 refl

-- chunks that it is, and that may stand for a selector
pub spelled_quiet : (w : Wide) → AreTokens true w → has (codes "*/") (words w) ≡ false → (cs : List Chunk) × (spelled w ≡ flat cs) × IsQuiet cs
spelled_quiet w are none =
    let tail = spelled_tail w are none in
    let begins = tail.begins refl in (
      tail.quiet.chunks,
      sym tail.quiet.flat_is,
      record {
        some = begins.0;
        units = tail.quiet.units;
        part = tail.quiet.part;
        bare = ap solids (strip_begun tail.quiet.chunks begins.0 begins.1) ∙ tail.ends;
        begins = begins.1;
      },
    )
