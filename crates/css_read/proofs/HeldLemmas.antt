-- Each rule, and each at-rule whose block holds rules, stands in the block of the one that is innermost open there.
use Rattle.std.proofs.Common.{◌≡◌, ℕ, zero, suc, ◌+◌, ◌-◌, ◌≤◌, ◌<◌, Bool, true, false, if◌then◌else◌, List, [], ◌∷◌, ◌++◌, length, get_or, slice_get, Option, Some, IfSome, IsSomeAnd, refl, sym, ap, ◌∙◌, subst, arith, length-append, append_assoc, append-nil}
use Rattle.std.proofs.lemmas.Option.{slice_get-get_or, slice_get_within}
use Rattle.std.proofs.Math.ListN.{get_or-append}
use Rattle.tp_base.proofs.Truths.{suc_not_zero}
use Rattle.text_bytes.specs.OrderMark.{behind_order_mark}
use Rattle.css_read.specs.declared.fronts.Front.{Front}
use Rattle.css_read.specs.declared.fronts.Front.TheVariants.{Passed, Opens, Closes, Styles}
use Rattle.css_read.specs.declared.holders.Holder.{Holder}
use Rattle.css_read.specs.Held.{IsInBlock, AreHeld, AreNestedFrom, AreNested}
use Rattle.css_read.specs.Holders.{Step, ends_block, in_block, last_end, innermost, holder_of, holders_from, holders_of, owners_from, owners_of, steps_of}
use Rattle.css_read.specs.Rules.{Rule, depth_after, rules_of}
use Rattle.css_read.proofs.PrunedLemmas.{spans_of, mark_size, steps_are, rules_steps}
use Rattle.css_read.proofs.SpanLemmas.{Span, AreRead, steps_at, rules_in, spans_read}

-- ---- lists

last_there : (pre : List Holder) (h : Holder) (d : Holder) → get_or (pre ++ h ∷ []) (length pre) d ≡ h
last_there [] h d = refl
last_there (p ∷ pre) h d = last_there pre h d

last_got : (pre : List Holder) (h : Holder) → slice_get (pre ++ h ∷ []) (length pre) ≡ Some h
last_got pre h = slice_get-get_or (pre ++ h ∷ []) (length pre) h (omega (arith, length-append pre (h ∷ []))) ∙ ap (λ (k : Holder). Some k) (last_there pre h h)

some_same : (h k : Holder) → Some h ≡ Some k → h ≡ k
some_same h k is = cc

still_got : (pre more : List Holder) (n : ℕ) (h : Holder) → slice_get pre n ≡ Some h → slice_get (pre ++ more) n ≡ Some h
still_got pre more n h is =
    let less = slice_get_within pre n h is in
    let here : get_or pre n h ≡ h = some_same (get_or pre n h) h (sym (slice_get-get_or pre n h less) ∙ is) in
    slice_get-get_or (pre ++ more) n h (omega (arith, length-append pre more, less)) ∙ ap (λ (k : Holder). Some k) (get_or-append pre more h n less ∙ here)

-- ---- where blocks end

-- a span's steps
abbrev first_step : Front → ℕ → List ℕ → Step
first_step f at bytes = record { front = f; from = at; to = at + length bytes }

pub end_after : (at n : ℕ) (ss : List Span) → at ≤ last_end at (in_block n (steps_at at ss))
unfolding in_block
end_after at n [] = omega arith
end_after at n (s ∷ ss) = by (ends_block n s.front) (end_after (at + length s.bytes) (depth_after n s.front) ss)
  where
    by : (test : Bool) → at + length s.bytes ≤ last_end (at + length s.bytes) (in_block (depth_after n s.front) (steps_at (at + length s.bytes) ss))
        → at ≤ last_end (at + length s.bytes) (if test then [] else in_block (depth_after n s.front) (steps_at (at + length s.bytes) ss))
    by true later = omega arith
    by false later = omega (arith, later)

-- a block ends no later than the one round it
end_outer : (at n : ℕ) (ss : List Span) → last_end at (in_block n (steps_at at ss)) ≤ last_end at (in_block (suc n) (steps_at at ss))
unfolding in_block
end_outer at n [] = omega arith
end_outer at n (s ∷ ss) = by s.front n (λ m. end_outer (at + length s.bytes) m ss)
  where
    to : ℕ
    to = at + length s.bytes

    later : List Step
    later = steps_at to ss

    one_more : (n : ℕ) → suc n + 1 ≡ suc (n + 1)
    one_more n = omega arith

    one_less : (n : ℕ) → suc n - 1 ≡ n
    one_less n = omega arith

    by : (f : Front) (n : ℕ) → ((m : ℕ) → last_end to (in_block m later) ≤ last_end to (in_block (suc m) later))
        → last_end to (if ends_block n f then [] else in_block (depth_after n f) later) ≤ last_end to (if ends_block (suc n) f then [] else in_block (depth_after (suc n) f) later)
    by Passed n outer = outer n
    by (Styles len) n outer = outer n
    by Opens n outer = subst (λ (m : ℕ). last_end to (in_block (n + 1) later) ≤ last_end to (in_block m later)) (sym (one_more n)) (outer (n + 1))
    by Closes zero outer = end_after to (suc zero - 1) ss
    by Closes (suc n) outer = rw (suc_not_zero n, suc_not_zero (suc n), one_less n, one_less (suc n)) (outer n)

-- ---- those that are open at an offset

record IsOpenAt (pre : List Holder) (at n : ℕ) (ss : List Step) (k : ℕ) : Type 0 where
  holder : Holder
  there : slice_get pre k ≡ Some holder
  begun : holder.brace < at
  ends : holder.to ≡ last_end at (in_block n ss)

-- the innermost first, in whose block n others are open
abbrev AreRound : List Holder → ℕ → ℕ → List Step → List ℕ → Type 0
AreRound pre at n ss [] = Unit {0}
AreRound pre at n ss (k ∷ outer) = IsOpenAt pre at n ss k × AreRound pre at (suc n) ss outer

-- over a step that doesn't end their blocks
round_later : (pre more : List Holder) (at : ℕ) (f : Front) (bytes : List ℕ) (ss : List Span) (p q : ℕ → ℕ) → ((i : ℕ) → p (suc i) ≡ suc (p i)) → ((i : ℕ) → q (suc i) ≡ suc (q i)) → ((i : ℕ) → ends_block (p i) f ≡ false)
    → ((i : ℕ) → depth_after (p i) f ≡ q i) → (i : ℕ) (outer : List ℕ) → AreRound pre at (p i) (first_step f at bytes ∷ steps_at (at + length bytes) ss) outer
    → AreRound (pre ++ more) (at + length bytes) (q i) (steps_at (at + length bytes) ss) outer
unfolding in_block
round_later pre more at f bytes ss p q up rise stays depth i [] round = tt
round_later pre more at f bytes ss p q up rise stays depth i (k ∷ outer) round =
    let to = at + length bytes in
    let later = steps_at to ss in
    let same : last_end to (if ends_block (p i) f then [] else in_block (depth_after (p i) f) later) ≡ last_end to (in_block (q i) later) = rw (stays i, depth i) refl in (
      record { holder = round.0.holder; there = still_got pre more k round.0.holder round.0.there; begun = omega (arith, round.0.begun); ends = round.0.ends ∙ same },
      subst (λ (n : ℕ). AreRound (pre ++ more) to n later outer) (rise i)
          (round_later pre more at f bytes ss p q up rise stays depth (suc i) outer (subst (λ (n : ℕ). AreRound pre at n (first_step f at bytes ∷ later) outer) (sym (up i)) round.1)),
    )

-- what stands at an offset, up to another in the innermost block
in_innermost : (all pre more : List Holder) (at n to : ℕ) (ss : List Step) (outer : List ℕ) → all ≡ pre ++ more → AreRound pre at n ss outer → to ≤ last_end at (in_block n ss) → IsInBlock all (innermost outer) at to
in_innermost all pre more at n to ss [] whole round within = tt
in_innermost all pre more at n to ss (k ∷ outer) whole round within =
    let there : slice_get all k ≡ Some round.0.holder = ap (λ (hs : List Holder). slice_get hs k) whole ∙ still_got pre more k round.0.holder round.0.there in
    subst (λ (o : Option Holder). IsSomeAnd o (λ h. (h.brace < at) × (to ≤ h.to))) (sym there) (round.0.begun, omega (arith, round.0.ends, within))

smaller : (pre : List Holder) (at n : ℕ) (ss : List Step) (outer : List ℕ) → AreRound pre at n ss outer → IfSome (innermost outer) (λ m. m < length pre)
smaller pre at n ss [] round = tt
smaller pre at n ss (k ∷ outer) round = slice_get_within pre k round.0.holder round.0.there

-- ---- all steps

record AreIn (all : List Holder) (n : ℕ) (hs : List Holder) (rules : List Rule) (owners : List (Option ℕ)) : Type 0 where
  held : AreHeld all rules owners
  nested : AreNestedFrom all n hs

abbrev Says : List ℕ → List Holder → List ℕ → List Step → Type 0
Says text pre outer ss = (all : List Holder) → all ≡ pre ++ holders_from text (length pre) outer ss → AreIn all (length pre) (holders_from text (length pre) outer ss) (rules_in ss) (owners_from (length pre) outer ss)

held_step : (text : List ℕ) (f : Front) (bytes : List ℕ) (ss : List Span) (at : ℕ) (pre : List Holder) (outer : List ℕ) → 0 < length bytes → AreRound pre at 0 (first_step f at bytes ∷ steps_at (at + length bytes) ss) outer
    → ((pre : List Holder) (outer : List ℕ) → AreRound pre (at + length bytes) 0 (steps_at (at + length bytes) ss) outer → Says text pre outer (steps_at (at + length bytes) ss))
    → Says text pre outer (first_step f at bytes ∷ steps_at (at + length bytes) ss)
unfolding holders_from holder_of owners_from in_block
held_step text Passed bytes ss at pre outer some round later all whole =
    let next = round_later pre [] at Passed bytes ss (λ i. i) (λ i. i) (λ i. refl) (λ i. refl) (λ i. refl) (λ i. refl) 0 outer round in
    later pre outer (subst (λ (hs : List Holder). AreRound hs (at + length bytes) 0 (steps_at (at + length bytes) ss) outer) (append-nil pre) next) all whole
held_step text (Styles len) bytes ss at pre outer some round later all whole =
    let to = at + length bytes in
    let next = round_later pre [] at (Styles len) bytes ss (λ i. i) (λ i. i) (λ i. refl) (λ i. refl) (λ i. refl) (λ i. refl) 0 outer round in
    let is = later pre outer (subst (λ (hs : List Holder). AreRound hs to 0 (steps_at to ss) outer) (append-nil pre) next) all whole in
    record { held = (in_innermost all pre (holders_from text (length pre) outer (steps_at to ss)) at 0 to (first_step (Styles len) at bytes ∷ steps_at to ss) outer whole round (end_after to 0 ss), is.held); nested = is.nested }
held_step text Closes bytes ss at pre [] some round later all whole = later pre [] tt all whole
held_step text Closes bytes ss at pre (k ∷ outer) some round later all whole =
    let to = at + length bytes in
    let next = round_later pre [] at Closes bytes ss suc (λ i. i) (λ i. refl) (λ i. refl) suc_not_zero one_less 0 outer round.1 in
    later pre outer (subst (λ (hs : List Holder). AreRound hs to 0 (steps_at to ss) outer) (append-nil pre) next) all whole
  where
    one_less : (n : ℕ) → suc n - 1 ≡ n
    one_less n = omega arith
held_step text Opens bytes ss at pre outer some round later all whole =
    let to = at + length bytes in
    let steps = steps_at to ss in
    let s = first_step Opens at bytes in
    let h = holder_of text outer s steps in
    let size : length (pre ++ h ∷ []) ≡ length pre + 1 = length-append pre (h ∷ []) in
    let own : IsOpenAt (pre ++ h ∷ []) to 0 steps (length pre) = record { holder = h; there = last_got pre h; begun = omega (arith, some); ends = refl } in
    let next : AreRound (pre ++ h ∷ []) to 1 steps outer = round_later pre (h ∷ []) at Opens bytes ss (λ i. i) suc (λ i. refl) (λ i. refl) (λ i. refl) one_more 0 outer round in
    let all_is : all ≡ (pre ++ h ∷ []) ++ holders_from text (length (pre ++ h ∷ [])) (length pre ∷ outer) steps =
    whole ∙ sym (append_assoc pre (h ∷ []) (holders_from text (length pre + 1) (length pre ∷ outer) steps)) ∙ ap (λ (n : ℕ). (pre ++ h ∷ []) ++ holders_from text n (length pre ∷ outer) steps) (sym size)
    in
    let is = later (pre ++ h ∷ []) (length pre ∷ outer) (own, next) all all_is in
    let moved : AreIn all (length pre + 1) (holders_from text (length pre + 1) (length pre ∷ outer) steps) (rules_in steps) (owners_from (length pre + 1) (length pre ∷ outer) steps) =
    subst (λ (n : ℕ). AreIn all n (holders_from text n (length pre ∷ outer) steps) (rules_in steps) (owners_from n (length pre ∷ outer) steps)) size is
    in
    record {
      held = moved.held;
      nested = (
        smaller pre at 0 (s ∷ steps) outer round,
        in_innermost all pre (h ∷ holders_from text (length pre + 1) (length pre ∷ outer) steps) at 0 h.to (s ∷ steps) outer whole round (end_outer to 0 ss),
        moved.nested,
      );
    }
  where
    one_more : (n : ℕ) → n + 1 ≡ suc n
    one_more n = omega arith

held_from : (text : List ℕ) (ss : List Span) (d at : ℕ) (pre : List Holder) (outer : List ℕ) → AreRead d ss → AreRound pre at 0 (steps_at at ss) outer → Says text pre outer (steps_at at ss)
unfolding holders_from owners_from
held_from text [] d at pre outer read round = λ all whole. record { held = tt; nested = tt }
held_from text (s ∷ ss) d at pre outer read round =
    held_step text s.front s.bytes ss at pre outer read.0.some round (λ pre outer round. held_from text ss (depth_after d s.front) (at + length s.bytes) pre outer read.1 round)

text_held : (text : List ℕ) → AreIn (holders_of text) 0 (holders_of text) (rules_of text) (owners_of text)
unfolding holders_of owners_of
text_held text =
    let ss = spans_of text in
    let at = mark_size text in
    let spans = spans_read 0 0 (behind_order_mark text) in
    let is = held_from text ss 0 at [] [] spans.read tt (holders_from text 0 [] (steps_at at ss)) refl in
    subst (λ (rules : List Rule). AreIn (holders_from text 0 [] (steps_of text)) 0 (holders_from text 0 [] (steps_of text)) rules (owners_from 0 [] (steps_of text))) (sym (rules_steps text))
    (subst (λ (steps : List Step). AreIn (holders_from text 0 [] steps) 0 (holders_from text 0 [] steps) (rules_in (steps_at at ss)) (owners_from 0 [] steps)) (sym (steps_are text)) is)

pub rules_held : (text : List ℕ) → AreHeld (holders_of text) (rules_of text) (owners_of text)
rules_held text = (text_held text).held

pub holders_nested : (text : List ℕ) → AreNested (holders_of text)
holders_nested text = (text_held text).nested
