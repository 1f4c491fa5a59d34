-- Reading tokens one after the other, as a loop does.
use Rattle.std.proofs.Common.{◌≡◌, ℕ, zero, suc, ◌-◌, ◌+◌, ◌≤◌, ◌<◌, Bool, List, [], ◌∷◌, ◌++◌, length, take, drop, Option, Some, None, Ok, Err, refl, sym, ap, ◌∙◌, append_assoc, arith}
use Rattle.std.specs.List.{All}
use Rattle.std.proofs.lemmas.List.{append-nil}
use Rattle.std.proofs.lemmas.List.Elements.{All-cons, All-nil}
use Rattle.js_scan.specs.declared.token.ScanFault.{ScanFault}
use Rattle.js_scan.specs.declared.token.Token.{Token}
use Rattle.js_scan.specs.declared.token.TokenKind.{TokenKind}
use Rattle.js_scan.specs.Texts.{Outcome, ◌>>=◌}
use Rattle.js_scan.specs.Tokens.{front, divides_next, tokens_of, tokens_from, InOrder}

abbrev pub with_tokens : List Token → Outcome (List Token) → Outcome (List Token)
with_tokens before r = r >>= λ ts. Ok (before ++ ts)

-- the bytes that are left of a token are passed over
pub tokens_skip : (size : ℕ) (divides : Bool) (n : ℕ) (bs : List ℕ) → tokens_from size divides n bs ≡ tokens_from size divides 0 (drop n bs)
unfolding tokens_from
tokens_skip size divides zero bs = refl
tokens_skip size divides (suc n) [] = refl
tokens_skip size divides (suc n) (b ∷ bs) = tokens_skip size divides n bs

regroup : (before ts : List Token) (r : Outcome (List Token)) → with_tokens before (r >>= λ us. Ok (ts ++ us)) ≡ with_tokens (before ++ ts) r
regroup before ts (Ok us) = ap (λ (all : List Token). Ok all) (simp append_assoc)
regroup before ts (Err e) = refl

-- ---- what a loop knows at each turn: `before` was read, and `rest` is left

pub goes_on : (size : ℕ) (divides : Bool) (at len : ℕ) (rest : List ℕ) (before : List Token) (total : Outcome (List Token)) (kind : Option TokenKind)
    → with_tokens before (tokens_from size divides 0 rest) ≡ total → front divides rest at ≡ Ok (kind, len) → at ≡ size - length rest → 0 < length rest → 1 ≤ len
    → with_tokens (before ++ tokens_of kind at (at + len)) (tokens_from size (divides_next kind (take len rest) divides) 0 (drop len rest)) ≡ total
unfolding tokens_from
goes_on size divides at len [] before total kind so_far read here lt low = absurd (omega arith)
goes_on size divides at zero (b ∷ bs) before total kind so_far read here lt low = absurd (omega arith)
goes_on size divides at (suc len) (b ∷ bs) before total kind so_far read here lt low =
    let less : suc len - 1 ≡ len = omega arith in
    let next = divides_next kind (take (suc len) (b ∷ bs)) divides in
    let one : tokens_from size divides 0 (b ∷ bs) ≡ (tokens_from size next 0 (drop len bs) >>= λ us. Ok (tokens_of kind at (at + suc len) ++ us)) = rw (← here, read, less, tokens_skip size next len bs) refl in
    sym (regroup before (tokens_of kind at (at + suc len)) (tokens_from size next 0 (drop len bs))) ∙ ap (with_tokens before) (sym one) ∙ so_far

pub fails : (size : ℕ) (divides : Bool) (at : ℕ) (rest : List ℕ) (before : List Token) (total : Outcome (List Token)) (e : ScanFault)
    → with_tokens before (tokens_from size divides 0 rest) ≡ total → front divides rest at ≡ Err e → at ≡ size - length rest → 0 < length rest → total ≡ Err e
unfolding tokens_from
fails size divides at [] before total e so_far read here lt = absurd (omega arith)
fails size divides at (b ∷ bs) before total e so_far read here lt = sym so_far ∙ rw (← here, read) refl

pub ends : (size : ℕ) (divides : Bool) (rest : List ℕ) (before : List Token) (total : Outcome (List Token)) → with_tokens before (tokens_from size divides 0 rest) ≡ total → length rest ≡ 0 → total ≡ Ok before
unfolding tokens_from
ends size divides [] before total so_far none = sym so_far ∙ ap (λ (us : List Token). Ok us) (append-nil before)
ends size divides (b ∷ bs) before total so_far none = absurd (omega arith)

pub begins : (r : Outcome (List Token)) → with_tokens [] r ≡ r
begins (Ok ts) = refl
begins (Err e) = refl

-- ---- the order of the spans

InOrder-more : (low mid high : ℕ) (ts : List Token) → InOrder low mid ts → mid ≤ high → InOrder low high ts
InOrder-more low mid high [] ordered le = omega arith
InOrder-more low mid high (t ∷ ts) ordered le = (ordered.0, ordered.1, InOrder-more t.to mid high ts ordered.2 le)

InOrder-push : (low mid end : ℕ) (ts : List Token) (t : Token) → InOrder low mid ts → mid ≤ t.from → t.from < t.to → t.to ≡ end → InOrder low end (ts ++ t ∷ [])
InOrder-push low mid end [] t ordered le lt same = (omega arith, lt, omega arith)
InOrder-push low mid end (u ∷ us) t ordered le lt same = (ordered.0, ordered.1, InOrder-push u.to mid end us t ordered.2 le lt same)

pub stays_in_order : (low mid end : ℕ) (ts : List Token) (kind : Option TokenKind) → InOrder low mid ts → mid < end → InOrder low end (ts ++ tokens_of kind mid end)
stays_in_order low mid end ts None ordered lt = rw append-nil (InOrder-more low mid end ts ordered (omega arith))
stays_in_order low mid end ts (Some kind) ordered lt = InOrder-push low mid end ts (record { kind = kind; from = mid; to = end }) ordered (omega arith) lt refl

-- ---- for callers: each span lies in the file

pub in_order_bounds : (low high : ℕ) (ts : List Token) → InOrder low high ts → low ≤ high
in_order_bounds low high [] ordered = ordered
in_order_bounds low high (t ∷ ts) ordered = let later = in_order_bounds t.to high ts ordered.2 in omega (arith, ordered.0, ordered.1, later)

pub spans_within : (low high : ℕ) (ts : List Token) → InOrder low high ts → All (λ t. (t.from < t.to) × (t.to ≤ high)) ts
spans_within low high [] ordered = All-nil (λ t. (t.from < t.to) × (t.to ≤ high))
spans_within low high (t ∷ ts) ordered =
    All-cons (λ t. (t.from < t.to) × (t.to ≤ high)) t ts (ordered.1, in_order_bounds t.to high ts ordered.2) (spans_within t.to high ts ordered.2)
