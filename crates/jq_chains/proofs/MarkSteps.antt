-- Marks that are taken off, one by one, are told again by their places.
use Rattle.std.proofs.Common.{◌≡◌, ℕ, zero, suc, ◌+◌, ◌<◌, ◌≤◌, ◌==◌, Bool, true, false, if◌then◌else◌, List, [], ◌∷◌, ◌++◌, length, map, Option, Some, None, refl, sym, ap, ◌∙◌, arith, append_assoc}
use Rattle.std.proofs.lemmas.List.{map-append, append-nil, length-map}
use Rattle.std.proofs.lemmas.List.Sums.{sum-map, sum_by-cons}
use Rattle.std.specs.Option.{option_or}
use Rattle.tp_base.specs.declared.places.Place.{Place}
use Rattle.tp_base.proofs.Truths.{and_false, same_number, other_number}
use Rattle.tp_base.proofs.Lists.{length-push}
use Rattle.tree_sem.specs.declared.actions.Action.{Action}
use Rattle.jq_stmts.specs.declared.chains.Call as code
use Rattle.jq_stmts.specs.declared.chains.Chain as code_chain
use Rattle.jq_stmts.specs.declared.sharp.Sharp.{Sharp}
use Rattle.jq_stmts.specs.declared.sharp.SharpKind.{SharpKind}
use Rattle.jq_stmts.specs.Views.{call_of, chain_of}
use Rattle.jq_stmts.specs.Sharp.{ExactChain, ExactStatement}
use Rattle.jq_stmts.specs.SharpViews.{is_same, is_at, kind_at, with_kind, exact_calls, exact_chain, exact_handlers}
use Rattle.jq_chains.specs.declared.marked_calls.MarkedCall.{MarkedCall}
use Rattle.jq_chains.specs.declared.marked_calls.MarkedChain.{MarkedChain}
use Rattle.jq_chains.specs.MarkedCalls.{marked_of, judged_of, marked_chain_of, calls_in}
use Rattle.jq_chains.specs.Marks.{mark_of, marks_of, handlers_marks, statement_marks, judged_chain}

-- ---- what is kept of the sets of calls, by their places

kind_in : List MarkedCall → ℕ → Option SharpKind
kind_in [] i = None
kind_in (c ∷ calls) zero = c.kind
kind_in (c ∷ calls) (suc i) = kind_in calls i

-- of the marks of two lists the first one at a place counts
kind_at-append : (a b : List Sharp) (h : Option ℕ) (i : ℕ) → kind_at (a ++ b) h i ≡ option_or (kind_at a h i) (kind_at b h i)
kind_at-append [] b h i = refl
kind_at-append (s ∷ a) b h i =
    elim (is_at s h i) as (λ t. (if t then Some s.kind else kind_at (a ++ b) h i) ≡ option_or (if t then Some s.kind else kind_at a h i) (kind_at b h i)) [
      | true ↦ refl
      | false ↦ kind_at-append a b h i
    ]

or_none : {A : Type 0} (o : Option A) → option_or o None ≡ o
or_none None = refl
or_none (Some x) = refl

is_same-itself : (h : Option ℕ) → is_same h h ≡ true
is_same-itself None = refl
is_same-itself (Some n) = same_number n

-- a mark tells nothing of another chain, nor of another call
mark_apart : (g h : Option ℕ) (i j : ℕ) (kind : Option SharpKind) → is_same g h ≡ false → kind_at (mark_of g i kind) h j ≡ None
mark_apart g h i j None other = refl
mark_apart g h i j (Some k) other = rw (other, and_false (i == j)) refl

mark_other : (h : Option ℕ) (i j : ℕ) (kind : Option SharpKind) → (i == j) ≡ false → kind_at (mark_of h i kind) h j ≡ None
mark_other h i j None other = refl
mark_other h i j (Some k) other = rw other refl

mark_there : (h : Option ℕ) (i : ℕ) (kind : Option SharpKind) → kind_at (mark_of h i kind) h i ≡ kind
mark_there h i None = refl
mark_there h i (Some k) = rw (same_number i, is_same-itself h) refl

both_none : {A : Type 0} (a b : Option A) → a ≡ None → b ≡ None → option_or a b ≡ None
both_none a b first rest = rw (first, rest) refl

marks_apart : (g h : Option ℕ) (i j : ℕ) (calls : List MarkedCall) → is_same g h ≡ false → kind_at (marks_of g i calls) h j ≡ None
marks_apart g h i j [] other = refl
marks_apart g h i j (c ∷ calls) other =
    kind_at-append (mark_of g i c.kind) (marks_of g (suc i) calls) h j
    ∙ both_none _ _ (mark_apart g h i j c.kind other) (marks_apart g h (suc i) j calls other)

-- calls from the i-th on tell nothing of those before
marks_before : (h : Option ℕ) (i j : ℕ) (calls : List MarkedCall) → j < i → kind_at (marks_of h i calls) h j ≡ None
marks_before h i j [] before = refl
marks_before h i j (c ∷ calls) before =
    kind_at-append (mark_of h i c.kind) (marks_of h (suc i) calls) h j
    ∙ both_none _ _ (mark_other h i j c.kind (other_number i j (λ is. omega (arith, before, is)))) (marks_before h (suc i) j calls (omega (arith, before)))

marks_there : (h : Option ℕ) (i n : ℕ) (calls : List MarkedCall) → kind_at (marks_of h i calls) h (i + n) ≡ kind_in calls n
unfolding kind_in
marks_there h i n [] = refl
marks_there h i zero (c ∷ calls) =
    let place : i + 0 ≡ i = omega arith in
    rw place
    (kind_at-append (mark_of h i c.kind) (marks_of h (suc i) calls) h i
    ∙ ap (λ o. option_or o (kind_at (marks_of h (suc i) calls) h i)) (mark_there h i c.kind)
    ∙ ap (option_or c.kind) (marks_before h (suc i) i calls (omega arith))
    ∙ or_none c.kind)
marks_there h i (suc n) (c ∷ calls) =
    let place : i + suc n ≡ suc i + n = omega arith in
    let other : (i == i + suc n) ≡ false = other_number i (i + suc n) (λ is. omega (arith, is)) in
    kind_at-append (mark_of h i c.kind) (marks_of h (suc i) calls) h (i + suc n)
    ∙ ap (λ o. option_or o (kind_at (marks_of h (suc i) calls) h (i + suc n))) (mark_other h i (i + suc n) c.kind other)
    ∙ ap (kind_at (marks_of h (suc i) calls) h) place
    ∙ marks_there h (suc i) n calls

marks_kept : (h : Option ℕ) (j : ℕ) (calls : List MarkedCall) → kind_at (marks_of h 0 calls) h j ≡ kind_in calls j
marks_kept h j calls = let place : j ≡ 0 + j = omega arith in ap (kind_at (marks_of h 0 calls) h) place ∙ marks_there h 0 j calls

-- ---- marked calls are told again

abbrev AreKept : List Sharp → Option ℕ → List MarkedCall → Type 0
AreKept sharp h calls = (j : ℕ) → kind_at sharp h j ≡ kind_in calls j

told_from : (sharp : List Sharp) (h : Option ℕ) (i : ℕ) (calls : List MarkedCall) → ((n : ℕ) → kind_at sharp h (i + n) ≡ kind_in calls n)
    → exact_calls sharp h i (map judged_of calls) ≡ map marked_of calls
unfolding kind_in
told_from sharp h i [] kept = refl
told_from sharp h i (c ∷ calls) kept =
    let at : i + 0 ≡ i = omega arith in
    let here : kind_at sharp h i ≡ c.kind = ap (kind_at sharp h) (sym at) ∙ kept 0 in
    let first = ap (with_kind (call_of c.call)) here in
    let rest = told_from sharp h (suc i) calls (λ n. let place : suc i + n ≡ i + suc n = omega arith in ap (kind_at sharp h) place ∙ kept (suc n)) in
    λ j. first j ∷ rest j

told : (sharp : List Sharp) (h : Option ℕ) (c : MarkedChain) → AreKept sharp h c.calls.items → exact_chain sharp h (judged_chain c) ≡ marked_chain_of c
told sharp h c kept =
    let calls = told_from sharp h 0 c.calls.items (λ n. let place : 0 + n ≡ n = omega arith in ap (kind_at sharp h) place ∙ kept n) in
    λ j. record { root = (judged_chain c).root; calls = calls j }

-- marks that tell nothing of the handlers from the i-th on
abbrev AreBefore : List Sharp → ℕ → Type 0
AreBefore sharp i = (h j : ℕ) → i ≤ h → kind_at sharp (Some h) j ≡ None

handlers_before : (i h j : ℕ) (chains : List MarkedChain) → h < i → kind_at (handlers_marks i chains) (Some h) j ≡ None
handlers_before i h j [] before = refl
handlers_before i h j (c ∷ chains) before =
    let other : (i == h) ≡ false = other_number i h (λ is. omega (arith, before, is)) in
    kind_at-append (marks_of (Some i) 0 c.calls.items) (handlers_marks (suc i) chains) (Some h) j
    ∙ both_none _ _ (marks_apart (Some i) (Some h) 0 j c.calls.items other) (handlers_before (suc i) h j chains (omega (arith, before)))

handlers_own : (i j : ℕ) (chains : List MarkedChain) → kind_at (handlers_marks i chains) None j ≡ None
handlers_own i j [] = refl
handlers_own i j (c ∷ chains) =
    kind_at-append (marks_of (Some i) 0 c.calls.items) (handlers_marks (suc i) chains) None j
    ∙ both_none _ _ (marks_apart (Some i) None 0 j c.calls.items refl) (handlers_own (suc i) j chains)

first_kept : (before : List Sharp) (i : ℕ) (c : MarkedChain) (chains : List MarkedChain) → AreBefore before i
    → AreKept (before ++ handlers_marks i (c ∷ chains)) (Some i) c.calls.items
first_kept before i c chains none j =
    kind_at-append before (handlers_marks i (c ∷ chains)) (Some i) j
    ∙ ap (λ o. option_or o (kind_at (handlers_marks i (c ∷ chains)) (Some i) j)) (none i j (omega arith))
    ∙ kind_at-append (marks_of (Some i) 0 c.calls.items) (handlers_marks (suc i) chains) (Some i) j
    ∙ ap (option_or (kind_at (marks_of (Some i) 0 c.calls.items) (Some i) j)) (handlers_before (suc i) i j chains (omega arith))
    ∙ or_none _
    ∙ marks_kept (Some i) j c.calls.items

one_before : (before : List Sharp) (i : ℕ) (c : MarkedChain) → AreBefore before i → AreBefore (before ++ marks_of (Some i) 0 c.calls.items) (suc i)
one_before before i c none h j later =
    let other : (i == h) ≡ false = other_number i h (λ is. omega (arith, later, is)) in
    kind_at-append before (marks_of (Some i) 0 c.calls.items) (Some h) j
    ∙ both_none _ _ (none h j (omega (arith, later))) (marks_apart (Some i) (Some h) 0 j c.calls.items other)

handlers_told : (before : List Sharp) (i : ℕ) (chains : List MarkedChain) → AreBefore before i
    → exact_handlers (before ++ handlers_marks i chains) i (map judged_chain chains) ≡ map marked_chain_of chains
handlers_told before i [] none = refl
handlers_told before i (c ∷ chains) none =
    let all = before ++ handlers_marks i (c ∷ chains) in
    let first = told all (Some i) c (first_kept before i c chains none) in
    let same : all ≡ (before ++ marks_of (Some i) 0 c.calls.items) ++ handlers_marks (suc i) chains =
    sym (append_assoc before (marks_of (Some i) 0 c.calls.items) (handlers_marks (suc i) chains)) in
    let rest = ap (λ s. exact_handlers s (suc i) (map judged_chain chains)) same ∙ handlers_told (before ++ marks_of (Some i) 0 c.calls.items) (suc i) chains (one_before before i c none) in
    λ j. first j ∷ rest j

-- ---- the marks of a statement tell its calls again

pub own_told : (handlers : List MarkedChain) (c : MarkedChain) → exact_chain (statement_marks handlers c) None (judged_chain c) ≡ marked_chain_of c
own_told handlers c =
    told (statement_marks handlers c) None c (λ j.
    kind_at-append (marks_of None 0 c.calls.items) (handlers_marks 0 handlers) None j
    ∙ ap (option_or (kind_at (marks_of None 0 c.calls.items) None j)) (handlers_own 0 j handlers)
    ∙ or_none _
    ∙ marks_kept None j c.calls.items)

pub all_told : (handlers : List MarkedChain) (c : MarkedChain) → exact_handlers (statement_marks handlers c) 0 (map judged_chain handlers) ≡ map marked_chain_of handlers
all_told handlers c = handlers_told (marks_of None 0 c.calls.items) 0 handlers (λ h j later. marks_apart None (Some h) 0 j c.calls.items refl)

-- a statement of these chains
abbrev statement : List ExactChain → ExactChain → Action → Place → ExactStatement
statement handlers chain action place = record { handlers = handlers; chain = chain; action = action; place = place }

-- the same of chains that were parted
pub told_at : (place at : Place) (action : Action) (handlers : List MarkedChain) (c : MarkedChain) (chains : List code_chain.Chain) (own : code_chain.Chain) (sharp : List Sharp)
    → map chain_of chains ≡ map judged_chain handlers → chain_of own ≡ judged_chain c → sharp ≡ statement_marks handlers c → place ≡ at
    → statement (exact_handlers sharp 0 (map chain_of chains)) (exact_chain sharp None (chain_of own)) action place ≡ statement (map marked_chain_of handlers) (marked_chain_of c) action at
told_at place at action handlers c chains own sharp all one marks here =
    let judged = ap (λ s. exact_handlers s 0 (map chain_of chains)) marks ∙ ap (exact_handlers (statement_marks handlers c) 0) all ∙ all_told handlers c in
    let last = ap (λ s. exact_chain s None (chain_of own)) marks ∙ ap (exact_chain (statement_marks handlers c) None) one ∙ own_told handlers c in
    λ j. statement (judged j) (last j) action (here j)

-- ---- what is left to be counted

calls_first : (c : MarkedChain) (left : List MarkedChain) → calls_in (map marked_chain_of (c ∷ left)) ≡ length c.calls.items + calls_in (map marked_chain_of left)
calls_first c left =
    let count : ExactChain → ℕ = λ d. length d.calls in
    sum-map count (map marked_chain_of (c ∷ left)) ∙ sum_by-cons count (marked_chain_of c) (map marked_chain_of left)
    ∙ ap (λ n. length (map marked_of c.calls.items) + n) (sym (sum-map count (map marked_chain_of left)))
    ∙ ap (λ n. n + calls_in (map marked_chain_of left)) (length-map c.calls.items marked_of)

pub first_short : (n : ℕ) (c : MarkedChain) (left : List MarkedChain) → calls_in (map marked_chain_of (c ∷ left)) ≤ n → length c.calls.items ≤ n
first_short n c left short = omega (arith, calls_first c left, short)

pub others_short : (n : ℕ) (c : MarkedChain) (left : List MarkedChain) → calls_in (map marked_chain_of (c ∷ left)) ≤ n → calls_in (map marked_chain_of left) ≤ n
others_short n c left short = omega (arith, calls_first c left, short)

-- ---- one more in the code

-- what was judged, and what is left
abbrev pub Judged : List code.Call → List MarkedCall → List MarkedCall → Type 0
Judged judged left all = map call_of judged ++ map judged_of left ≡ map judged_of all

abbrev pub Marked : List Sharp → Option ℕ → ℕ → List MarkedCall → List Sharp → List MarkedCall → Type 0
Marked marks h i left old all = marks ++ marks_of h i left ≡ old ++ marks_of h 0 all

pub one_parted : (marks new old : List Sharp) (h : Option ℕ) (judged : List code.Call) (d : code.Call) (c : MarkedCall) (left all : List MarkedCall)
    → Marked marks h (length judged) (c ∷ left) old all → new ≡ marks ++ mark_of h (length judged) c.kind → Marked new h (length (judged ++ d ∷ [])) left old all
one_parted marks new old h judged d c left all before is =
    rw (is, length-push judged d) (append_assoc marks (mark_of h (length judged) c.kind) (marks_of h (suc (length judged)) left) ∙ before)

pub one_judged : (judged : List code.Call) (c : MarkedCall) (left all : List MarkedCall) → Judged judged (c ∷ left) all → Judged (judged ++ c.call ∷ []) left all
one_judged judged c left all before =
    rw (map-append call_of judged (c.call ∷ [])) (append_assoc (map call_of judged) (judged_of c ∷ []) (map judged_of left) ∙ before)

pub none_marked : (marks old : List Sharp) (h : Option ℕ) (i : ℕ) (all : List MarkedCall) → Marked marks h i [] old all → marks ≡ old ++ marks_of h 0 all
none_marked marks old h i all before = sym (append-nil marks) ∙ before

pub none_judged : (judged : List code.Call) (all : List MarkedCall) → Judged judged [] all → map call_of judged ≡ map judged_of all
none_judged judged all before = sym (append-nil (map call_of judged)) ∙ before

abbrev pub JudgedChains : List code_chain.Chain → List MarkedChain → List MarkedChain → Type 0
JudgedChains judged left all = map chain_of judged ++ map judged_chain left ≡ map judged_chain all

abbrev pub MarkedChains : List Sharp → ℕ → List MarkedChain → List Sharp → List MarkedChain → Type 0
MarkedChains marks i left old all = marks ++ handlers_marks i left ≡ old ++ handlers_marks 0 all

pub handler_parted : (marks new old : List Sharp) (judged : List code_chain.Chain) (d : code_chain.Chain) (i : ℕ) (c : MarkedChain) (left all : List MarkedChain)
    → i ≡ length judged → MarkedChains marks (length judged) (c ∷ left) old all → new ≡ marks ++ marks_of (Some i) 0 c.calls.items
    → MarkedChains new (length (judged ++ d ∷ [])) left old all
handler_parted marks new old judged d i c left all here before is =
    rw (is, here, length-push judged d)
    (append_assoc marks (marks_of (Some (length judged)) 0 c.calls.items) (handlers_marks (suc (length judged)) left) ∙ before)

pub handler_judged : (judged : List code_chain.Chain) (d : code_chain.Chain) (c : MarkedChain) (left all : List MarkedChain) → chain_of d ≡ judged_chain c
    → JudgedChains judged (c ∷ left) all → JudgedChains (judged ++ d ∷ []) left all
handler_judged judged d c left all is before =
    rw (map-append chain_of judged (d ∷ []), is) (append_assoc (map chain_of judged) (judged_chain c ∷ []) (map judged_chain left) ∙ before)

pub no_handler_marked : (marks old : List Sharp) (i : ℕ) (all : List MarkedChain) → MarkedChains marks i [] old all → marks ≡ old ++ handlers_marks 0 all
no_handler_marked marks old i all before = sym (append-nil marks) ∙ before

pub no_handler_judged : (judged : List code_chain.Chain) (all : List MarkedChain) → JudgedChains judged [] all → map chain_of judged ≡ map judged_chain all
no_handler_judged judged all before = sym (append-nil (map chain_of judged)) ∙ before
