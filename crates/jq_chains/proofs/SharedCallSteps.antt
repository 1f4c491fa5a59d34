-- Shared calls: one more, how many stand, whether one is of `parents`, and their copies.
use Rattle.std.proofs.Common.{◌≡◌, ℕ, zero, suc, ◌-◌, not, Bool, true, false, ◌||◌, List, [], ◌∷◌, ◌++◌, length, map, reverse, refl, sym, ap, ◌∙◌, nat_lt, arith, append_assoc}
use Rattle.std.proofs.lemmas.Bool.Decides.{nat_tests}
use Rattle.std.proofs.lemmas.List.{map-append, reverse-append}
use Rattle.tp_base.proofs.Truths.{or_false}
use Rattle.jq_stmts.specs.Statements.{Root, Call, matched, back, set_before, stands}
use Rattle.jq_stmts.specs.Sharp.{ExactCall, ExactChain, wide_call}
use Rattle.jq_stmts.specs.Views.{call_of}
use Rattle.jq_stmts.proofs.BackLemmas.{without_last, back_more, call_more}
use Rattle.jq_stmts.proofs.SharpLemmas.{wide-with_kind}
use Rattle.jq_words.specs.Brackets.{is_empty}
use Rattle.jq_chains.specs.declared.marked_calls.MarkedCall.{MarkedCall}
use Rattle.jq_chains.specs.MarkedCalls.{marked_of, judged_of}
use Rattle.jq_chains.specs.SharedCalls.{and_standing, is_parents, has_parents}

abbrev chain : Root → List ExactCall → ExactChain
chain root calls = record { root = root; calls = calls }

pub one_more : (root : Root) (cs all : List MarkedCall) (c : MarkedCall) → all ≡ cs ++ c ∷ []
    → chain root (map marked_of all) ≡ chain root (map marked_of cs ++ marked_of c ∷ [])
one_more root cs all c is = ap (chain root) (ap (map marked_of) is ∙ map-append marked_of cs (c ∷ []))

-- what is judged doesn't ask for the marks
pub judged : (cs : List MarkedCall) → map wide_call (map marked_of cs) ≡ map judged_of cs
judged [] = refl
judged (c ∷ cs) =
    let first = wide-with_kind (call_of c.call) c.kind in
    let rest = judged cs in
    λ j. first j ∷ rest j

-- ---- how many stand

one_less : (root : Root) (calls : List Call) → length (without_last root calls).1 ≡ length calls - 1
one_less root [] = refl
one_less root (c ∷ calls) = omega arith

stand_more : (root : Root) (cs : List Call) (c : Call) → length (stands root (cs ++ c ∷ [])).1 ≡ and_standing (length (stands root cs).1) c
stand_more root cs back = ap (λ (s : Root × List Call). length s.1) (back_more root cs) ∙ one_less (stands root cs).0 (stands root cs).1
stand_more root cs c = ap (λ (s : Root × List Call). length s.1) (call_more root cs c (λ is. cc)) ∙ omega arith

-- the calls that stand don't depend on the root
any_root : (root other : Root) (n : ℕ) (cs : List Call) → (set_before n root cs).1 ≡ (set_before n other cs).1
any_root root other n (back ∷ cs) = any_root root other (suc n) cs
any_root root other (suc n) (c ∷ cs) = any_root root other n cs
any_root root other (suc n) [] = refl
any_root root other zero (c ∷ cs) = ap (λ calls. c ∷ calls) (any_root root other zero cs)
any_root root other zero [] = refl

abbrev count : List MarkedCall → ℕ
count cs = length (stands (matched []) (map judged_of cs)).1

pub one_standing : (n m : ℕ) (cs : List MarkedCall) (c : MarkedCall) → n ≡ length (stands (matched []) (map judged_of cs)).1 → m ≡ and_standing n (call_of c.call)
    → m ≡ length (stands (matched []) (map judged_of (cs ++ c ∷ []))).1
one_standing n m cs c is more =
    more ∙ ap (λ k. and_standing k (judged_of c)) is ∙ sym (stand_more (matched []) (map judged_of cs) (judged_of c))
    ∙ ap (λ xs. length (stands (matched []) xs).1) (sym (map-append judged_of cs (c ∷ [])))

any_left : (cs : List Call) → not (is_empty cs) ≡ nat_lt 0 (length cs)
any_left [] = refl
any_left (c ∷ cs) = grind (arith, nat_tests)

-- those that stand, by what is judged
counted : (n : ℕ) (root : Root) (cs : List MarkedCall) → n ≡ count cs → n ≡ length (stands root (map wide_call (map marked_of cs))).1
counted n root cs is =
    is ∙ ap length (any_root (matched []) root zero (reverse (map judged_of cs))) ∙ ap (λ xs. length (stands root xs).1) (sym (judged cs))

pub any_standing : (b : Bool) (n : ℕ) (root : Root) (cs : List MarkedCall) → n ≡ length (stands (matched []) (map judged_of cs)).1 → b ≡ nat_lt 0 n
    → not (is_empty (stands root (map wide_call (map marked_of cs))).1) ≡ b
any_standing b n root cs is some = any_left (stands root (map wide_call (map marked_of cs))).1 ∙ ap (nat_lt 0) (sym (counted n root cs is)) ∙ sym some

-- ---- whether one is of `parents`

or_last : (a b c : Bool) → (a || (b || c)) ≡ ((a || b) || c)
or_last true b c = refl
or_last false b c = refl

more_parents : (cs : List Call) (c : Call) → has_parents (cs ++ c ∷ []) ≡ (has_parents cs || is_parents c)
more_parents [] c = or_false (is_parents c)
more_parents (d ∷ cs) c = ap (λ b. is_parents d || b) (more_parents cs c) ∙ or_last (is_parents d) (has_parents cs) (is_parents c)

pub one_of_parents : (before now : Bool) (cs : List MarkedCall) (c : MarkedCall) → before ≡ has_parents (map judged_of cs) → now ≡ (before || is_parents (call_of c.call))
    → now ≡ has_parents (map judged_of (cs ++ c ∷ []))
one_of_parents before now cs c is more =
    more ∙ ap (λ b. b || is_parents (judged_of c)) is ∙ sym (more_parents (map judged_of cs) (judged_of c)) ∙ ap has_parents (sym (map-append judged_of cs (c ∷ [])))

pub some_parents : (b : Bool) (cs : List MarkedCall) → b ≡ has_parents (map judged_of cs) → has_parents (map wide_call (map marked_of cs)) ≡ b
some_parents b cs is = ap has_parents (judged cs) ∙ sym is

-- ---- copies, from the last call on

-- all calls are those that are left, and behind them those that were copied
abbrev pub AreLeft : List MarkedCall → List MarkedCall → List MarkedCall → Type 0
AreLeft all left copies = map marked_of left ++ map marked_of (reverse copies) ≡ map marked_of all

pub one_copied : (all left copies : List MarkedCall) (c d : MarkedCall) → marked_of d ≡ marked_of c → AreLeft all (left ++ c ∷ []) copies → AreLeft all left (copies ++ d ∷ [])
one_copied all left copies c d same before =
    ap (λ xs. map marked_of left ++ map marked_of xs) (reverse-append copies (d ∷ []))
    ∙ ap (λ x. map marked_of left ++ x ∷ map marked_of (reverse copies)) same
    ∙ sym (append_assoc (map marked_of left) (marked_of c ∷ []) (map marked_of (reverse copies)))
    ∙ ap (λ xs. xs ++ map marked_of (reverse copies)) (sym (map-append marked_of left (c ∷ [])))
    ∙ before
