-- The block of each rule and the heads of the at-rules round it are bytes of spans. Where some of these are left out, the others keep theirs.
use Rattle.std.proofs.Common.{◌≡◌, ℕ, zero, suc, ◌+◌, ◌-◌, ◌<◌, Bool, true, false, List, [], ◌∷◌, ◌++◌, length, take, drop, slice_range, get_or, refl, sym, ap, ◌∙◌, subst, arith, length-append, append_assoc, append-nil}
use Rattle.std.proofs.lemmas.List.{drop_at, take_at, drop-drop, take-append-le, get_or_append_left, get_or_at}
use Rattle.css_read.specs.declared.fronts.Front.{Front}
use Rattle.css_read.specs.declared.fronts.Front.TheVariants.{Passed, Opens, Closes, Styles}
use Rattle.css_read.specs.declared.holders.Holder.{Holder}
use Rattle.css_read.specs.Effects.{heads_at, heads_from, Scope, scopes_from, scopes_of, number_left}
use Rattle.css_read.specs.Holders.{Step, innermost, steps_of, holder_of, holders_from, holders_of, owners_from, owners_of}
use Rattle.css_read.specs.Pruned.{Flagged}
use Rattle.css_read.specs.Rules.{Rule, rules_of}
use Rattle.css_read.proofs.GoneRules.{gone_by}
use Rattle.css_read.proofs.PartLemmas.{joined}
use Rattle.css_read.proofs.PlanLemmas.{Plan, keep, drop_rule, drop_block, relist, fates_of, IsPlan, ArePlans}
use Rattle.css_read.proofs.PrunedLemmas.{AreByFlags}
use Rattle.css_read.proofs.RelistLemmas.{HasTexts}
use Rattle.css_read.proofs.SpanLemmas.{Span, bytes_of, IsStyle, IsRuleBehind, left_of, steps_at, rules_in}
use Rattle.css_read.proofs.UnitLemmas.{flat}

-- ---- with what is open as a stack, of which each has its own head and those round it

abbrev pub top_heads : List (List (List ℕ)) → List (List ℕ)
top_heads [] = []
top_heads (h ∷ hs) = h

abbrev pub stack_after : List (List (List ℕ)) → List ℕ → Front → List (List (List ℕ))
stack_after stack bytes Opens = (top_heads stack ++ take (length bytes - 1) bytes ∷ []) ∷ stack
stack_after stack bytes Closes = drop 1 stack
stack_after stack bytes f = stack

abbrev pub scope_at : List (List (List ℕ)) → List ℕ → Front → List Scope
scope_at stack bytes (Styles len) = (drop len bytes, top_heads stack) ∷ []
scope_at stack bytes f = []

abbrev pub scopes_in : List (List (List ℕ)) → List Span → List Scope
scopes_in stack [] = []
scopes_in stack (s ∷ ss) = scope_at stack s.bytes s.front ++ scopes_in (stack_after stack s.bytes s.front) ss

-- ---- a text of these spans

-- of the blocks that are open the heads are found
abbrev AreFound : List (List (List ℕ)) → List ℕ → List (List (List ℕ)) → Type 0
AreFound found [] [] = Unit {0}
AreFound found (n ∷ outer) (h ∷ stack) = (n < length found) × (get_or found n [] ≡ h) × AreFound found outer stack
AreFound found outer stack = ⊥

found_more : (found more : List (List (List ℕ))) (outer : List ℕ) (stack : List (List (List ℕ))) → AreFound found outer stack → AreFound (found ++ more) outer stack
found_more found more [] [] are = tt
found_more found more [] (h ∷ stack) are = absurd are
found_more found more (n ∷ outer) [] are = absurd are
found_more found more (n ∷ outer) (h ∷ stack) are = (omega (arith, are.0, length-append found more), get_or_append_left found more [] n are.0 ∙ are.1, found_more found more outer stack are.2)

found_close : (found : List (List (List ℕ))) (outer : List ℕ) (stack : List (List (List ℕ))) → AreFound found outer stack → AreFound found (drop 1 outer) (drop 1 stack)
found_close found [] [] are = tt
found_close found [] (h ∷ stack) are = absurd are
found_close found (n ∷ outer) [] are = absurd are
found_close found (n ∷ outer) (h ∷ stack) are = are.2

top_found : (found : List (List (List ℕ))) (outer : List ℕ) (stack : List (List (List ℕ))) → AreFound found outer stack → heads_at found (innermost outer) ≡ top_heads stack
top_found found [] [] are = refl
top_found found [] (h ∷ stack) are = absurd are
top_found found (n ∷ outer) [] are = absurd are
top_found found (n ∷ outer) (h ∷ stack) are = are.1

-- those that are found stay at their places
record Goes (found all : List (List (List ℕ))) : Type 0 where
  more : List (List (List ℕ))
  whole : all ≡ found ++ more

heads_go : (text : List ℕ) (found : List (List (List ℕ))) (hs : List Holder) → Goes found (heads_from text found hs)
heads_go text found [] = record { more = []; whole = sym (append-nil found) }
heads_go text found (h ∷ hs) =
    let next = (heads_at found h.inside ++ slice_range text h.from h.brace ∷ []) ∷ [] in
    let later = heads_go text (found ++ next) hs in
    record { more = next ++ later.more; whole = later.whole ∙ append_assoc found next later.more }

-- ---- the bytes of a span

-- a text that ends with spans, from an offset on
pub record Stands (text : List ℕ) (at : ℕ) (ss : List Span) : Type 0 where
  pub pre : List ℕ
  pub whole : text ≡ pre ++ bytes_of ss
  pub before : length pre ≡ at

pub stands_next : (text : List ℕ) (at : ℕ) (s : Span) (ss : List Span) → Stands text at (s ∷ ss) → Stands text (at + length s.bytes) ss
stands_next text at s ss is = record {
  pre = is.pre ++ s.bytes;
  whole = is.whole ∙ sym (append_assoc is.pre s.bytes (bytes_of ss));
  before = length-append is.pre s.bytes ∙ ap (λ n. n + length s.bytes) is.before;
}

pub drop_over : (pre xs : List ℕ) (at len : ℕ) → length pre ≡ at → drop (at + len) (pre ++ xs) ≡ drop len xs
drop_over pre xs at len before = sym (drop-drop len at (pre ++ xs)) ∙ ap (drop len) (drop_at pre xs at before)

cut_behind : (bytes rest : List ℕ) (len : ℕ) → take (length bytes - len) (drop len (bytes ++ rest)) ≡ drop len bytes
cut_behind [] rest zero = refl
cut_behind [] rest (suc len) = let none : 0 - suc len ≡ 0 = omega arith in rw none refl
cut_behind (b ∷ bs) rest zero = let all : suc (length bs) - 0 ≡ suc (length bs) = omega arith in rw all (take_at (b ∷ bs) rest (suc (length bs)) refl)
cut_behind (b ∷ bs) rest (suc len) = let same : suc (length bs) - suc len ≡ length bs - len = omega arith in rw same (cut_behind bs rest len)

-- behind the first bytes of a span
slice_behind : (text : List ℕ) (at len : ℕ) (s : Span) (ss : List Span) → Stands text at (s ∷ ss) → slice_range text (at + len) (at + length s.bytes) ≡ drop len s.bytes
slice_behind text at len s ss is =
    let size : at + length s.bytes - (at + len) ≡ length s.bytes - len = omega arith in
    ap (λ bs. slice_range bs (at + len) (at + length s.bytes)) is.whole ∙ rw (size, drop_over is.pre (s.bytes ++ bytes_of ss) at len is.before) (cut_behind s.bytes (bytes_of ss) len)

-- all but the last byte of a span
slice_front : (text : List ℕ) (at : ℕ) (s : Span) (ss : List Span) → Stands text at (s ∷ ss) → slice_range text at (at + length s.bytes - 1) ≡ take (length s.bytes - 1) s.bytes
slice_front text at s ss is =
    let size : at + length s.bytes - 1 - at ≡ length s.bytes - 1 = omega arith in
    ap (λ bs. slice_range bs at (at + length s.bytes - 1)) is.whole ∙ rw (size, drop_at is.pre (s.bytes ++ bytes_of ss) at is.before) (take-append-le (length s.bytes - 1) s.bytes (bytes_of ss) (omega arith))

-- ---- a text of these spans

abbrev ScopesFrom : List ℕ → List (List (List ℕ)) → ℕ → List Span → Type 0
ScopesFrom text heads at ss =
    (hn : ℕ) (outer : List ℕ) (stack found : List (List (List ℕ))) → length found ≡ hn → AreFound found outer stack → heads ≡ heads_from text found (holders_from text hn outer (steps_at at ss))
    → scopes_from text heads (rules_in (steps_at at ss)) (owners_from hn outer (steps_at at ss)) ≡ scopes_in stack ss

scope_same : (a c : List ℕ) (b d : List (List ℕ)) (xs ys : List Scope) → a ≡ c → b ≡ d → xs ≡ ys → ◌≡◌ {A = List Scope} ((a, b) ∷ xs) ((c, d) ∷ ys)
scope_same a c b d xs ys first second later = rw (first, second, later) refl

scope_step : (text : List ℕ) (heads : List (List (List ℕ))) (at : ℕ) (f : Front) (bytes : List ℕ) (ss : List Span) → Stands text at ((record { front = f; bytes = bytes }) ∷ ss) → ScopesFrom text heads (at + length bytes) ss
    → ScopesFrom text heads at ((record { front = f; bytes = bytes }) ∷ ss)
unfolding owners_from holders_from holder_of
scope_step text heads at Passed bytes ss is later hn outer stack found size are whole = later hn outer stack found size are whole
scope_step text heads at Closes bytes ss is later hn outer stack found size are whole = later hn (drop 1 outer) (drop 1 stack) found size (found_close found outer stack are) whole
scope_step text heads at (Styles len) bytes ss is later hn outer stack found size are whole =
    let all = heads_go text found (holders_from text hn outer (steps_at (at + length bytes) ss)) in
    let known : AreFound heads outer stack = subst (λ (hs : List (List (List ℕ))). AreFound hs outer stack) (sym (whole ∙ all.whole)) (found_more found all.more outer stack are) in
    scope_same _ _ _ _ _ _ (slice_behind text at len (record { front = Styles len; bytes = bytes }) ss is) (top_found heads outer stack known) (later hn outer stack found size are whole)
scope_step text heads at Opens bytes ss is later hn outer stack found size are whole =
    let head = take (length bytes - 1) bytes in
    let own : List (List ℕ) = heads_at found (innermost outer) ++ slice_range text at (at + length bytes - 1) ∷ [] in
    let same : own ≡ top_heads stack ++ head ∷ [] = rw (top_found found outer stack are, slice_front text at (record { front = Opens; bytes = bytes }) ss is) refl in
    let next : AreFound (found ++ own ∷ []) (hn ∷ outer) ((top_heads stack ++ head ∷ []) ∷ stack) = (omega (arith, length-append found (own ∷ [])), get_or_at found own [] [] hn size ∙ same, found_more found (own ∷ []) outer stack are) in
    later (hn + 1) (hn ∷ outer) ((top_heads stack ++ head ∷ []) ∷ stack) (found ++ own ∷ []) (length-append found (own ∷ []) ∙ ap (λ n. n + 1) size) next whole

scopes_by : (text : List ℕ) (heads : List (List (List ℕ))) (ss : List Span) (at : ℕ) → Stands text at ss → ScopesFrom text heads at ss
unfolding owners_from
scopes_by text heads [] at is hn outer stack found size are whole = refl
scopes_by text heads (s ∷ ss) at is hn outer stack found size are whole =
    scope_step text heads at s.front s.bytes ss is (scopes_by text heads ss (at + length s.bytes) (stands_next text at s ss is)) hn outer stack found size are whole

-- The scopes of a text are those of its spans.
pub scopes_are : (text : List ℕ) (at : ℕ) (ss : List Span) → Stands text at ss → steps_of text ≡ steps_at at ss → rules_of text ≡ rules_in (steps_at at ss) → scopes_of text ≡ scopes_in [] ss
unfolding scopes_of holders_of owners_of
scopes_are text at ss is steps rules =
    ap (λ (st : List Step). scopes_from text (heads_from text [] (holders_from text 0 [] st)) (rules_of text) (owners_from 0 [] st)) steps
    ∙ ap (λ (rs : List Rule). scopes_from text (heads_from text [] (holders_from text 0 [] (steps_at at ss))) rs (owners_from 0 [] (steps_at at ss))) rules
    ∙ scopes_by text (heads_from text [] (holders_from text 0 [] (steps_at at ss))) ss at is 0 [] [] [] refl tt refl

-- ---- without some spans

-- those that don't go
abbrev pub left_in : List Bool → List Scope → List Scope
left_in (true ∷ gone) (x ∷ xs) = left_in gone xs
left_in (false ∷ gone) (x ∷ xs) = x ∷ left_in gone xs
left_in gone xs = []

passed_scope : (stack : List (List (List ℕ))) (bytes : List ℕ) (f : Front) (rest : List Span) → f ≡ Passed → scope_at stack bytes f ++ scopes_in (stack_after stack bytes f) rest ≡ scopes_in stack rest
passed_scope stack bytes f rest is = rw is refl

style_scope : (stack : List (List (List ℕ))) (bytes : List ℕ) (f : Front) (rest : List Span) → IsStyle f → scope_at stack bytes f ++ scopes_in (stack_after stack bytes f) rest ≡ scope_at stack bytes f ++ scopes_in stack rest
style_scope stack bytes (Styles len) rest is = refl
style_scope stack bytes Passed rest is = absurd is
style_scope stack bytes Opens rest is = absurd is
style_scope stack bytes Closes rest is = absurd is

-- white space and comments before a rule have none
behind_scopes : (gaps : List Span) (rule : Span) (left : List Span) (stack : List (List (List ℕ))) → IsRuleBehind (gaps ++ rule ∷ []) → scopes_in stack ((gaps ++ rule ∷ []) ++ left) ≡ scope_at stack rule.bytes rule.front ++ scopes_in stack left
behind_scopes [] rule left stack is = style_scope stack rule.bytes rule.front left is
behind_scopes (g ∷ []) rule left stack is = passed_scope stack g.bytes g.front (rule ∷ left) is.0 ∙ style_scope stack rule.bytes rule.front left is.1
behind_scopes (g ∷ h ∷ gaps) rule left stack is = passed_scope stack g.bytes g.front ((h ∷ gaps ++ rule ∷ []) ++ left) is.0 ∙ behind_scopes (h ∷ gaps) rule left stack is.1

-- a rule with another list has the same block
relist_scopes : (stack : List (List (List ℕ))) (len : ℕ) (bytes : List ℕ) (ts left : List Span) (texts : List (List ℕ)) → IsRuleBehind ts → HasTexts (record { front = Styles len; bytes = bytes }) ts texts
    → scopes_in stack (ts ++ left) ≡ (drop len bytes, top_heads stack) ∷ scopes_in stack left
relist_scopes stack len bytes ts left texts behind has =
    let list = flat (joined has.first has.others) in
    let rule : Span = record { front = Styles (length list); bytes = list ++ 123 ∷ has.block } in
    let size : length has.list ≡ len = sym (styles_same len (length has.list) has.size) in
    let old : drop len bytes ≡ 123 ∷ has.block = ap (drop len) has.old ∙ drop_at has.list (123 ∷ has.block) len size in
    let new : drop (length list) (list ++ 123 ∷ has.block) ≡ 123 ∷ has.block = drop_at list (123 ∷ has.block) (length list) refl in
    ap (λ (us : List Span). scopes_in stack (us ++ left)) has.whole
    ∙ behind_scopes has.gaps rule left stack (subst IsRuleBehind has.whole behind)
    ∙ scope_same _ _ _ _ _ _ (new ∙ sym old) refl refl
  where
    styles_same : (a b : ℕ) → Styles a ≡ Styles b → a ≡ b
    styles_same a b same = cc

abbrev LeftFrom : List ℕ → List Flagged → ℕ → List Plan → List Span → Type 0
LeftFrom text fs at ps ss =
    (k m : ℕ) (up stack : List (List (List ℕ))) → length up ≡ m → AreByFlags text fs k at ps ss → scopes_in stack (left_of (fates_of m ps ss) ss) ≡ left_in (gone_by m ps ss) (scopes_in (up ++ stack) ss)

-- where no block goes
top_left : (text : List ℕ) (fs : List Flagged) (at : ℕ) (p : Plan) (f : Front) (bytes : List ℕ) (ps : List Plan) (ss : List Span) → IsPlan at (at + length bytes) (record { front = f; bytes = bytes }) p → LeftFrom text fs (at + length bytes) ps ss
    → (k : ℕ) (stack : List (List (List ℕ))) → AreByFlags text fs k at (p ∷ ps) ((record { front = f; bytes = bytes }) ∷ ss)
    → scopes_in stack (left_of (fates_of 0 (p ∷ ps) ((record { front = f; bytes = bytes }) ∷ ss)) ((record { front = f; bytes = bytes }) ∷ ss)) ≡ left_in (gone_by 0 (p ∷ ps) ((record { front = f; bytes = bytes }) ∷ ss)) (scopes_in stack ((record { front = f; bytes = bytes }) ∷ ss))
top_left text fs at keep Passed bytes ps ss is later k stack flags = later k 0 [] stack refl flags.1
top_left text fs at keep Closes bytes ps ss is later k stack flags = later k 0 [] (drop 1 stack) refl flags.1
top_left text fs at keep Opens bytes ps ss is later k stack flags = later k 0 [] ((top_heads stack ++ take (length bytes - 1) bytes ∷ []) ∷ stack) refl flags.1
top_left text fs at keep (Styles len) bytes ps ss is later k stack flags = scope_same _ _ _ _ _ _ refl refl (later (k + 1) 0 [] stack refl flags.1)
top_left text fs at drop_rule (Styles len) bytes ps ss is later k stack flags = later (k + 1) 0 [] stack refl flags.1
top_left text fs at drop_rule Passed bytes ps ss is later k stack flags = absurd is
top_left text fs at drop_rule Closes bytes ps ss is later k stack flags = absurd is
top_left text fs at drop_rule Opens bytes ps ss is later k stack flags = absurd is
top_left text fs at drop_block Opens bytes ps ss is later k stack flags = later k 1 ((top_heads stack ++ take (length bytes - 1) bytes ∷ []) ∷ []) stack refl flags.1
top_left text fs at drop_block Passed bytes ps ss is later k stack flags = absurd is
top_left text fs at drop_block Closes bytes ps ss is later k stack flags = absurd is
top_left text fs at drop_block (Styles len) bytes ps ss is later k stack flags = absurd is
top_left text fs at (relist rs ts) (Styles len) bytes ps ss is later k stack flags =
    relist_scopes stack len bytes ts (left_of (fates_of 0 ps ss) ss) _ flags.0.1 flags.0.2 ∙ scope_same _ _ _ _ _ _ refl refl (later (k + 1) 0 [] stack refl flags.1)
top_left text fs at (relist rs ts) Passed bytes ps ss is later k stack flags = absurd is.0
top_left text fs at (relist rs ts) Closes bytes ps ss is later k stack flags = absurd is.0
top_left text fs at (relist rs ts) Opens bytes ps ss is later k stack flags = absurd is.0

-- in a block that goes
going_left : (text : List ℕ) (fs : List Flagged) (at : ℕ) (p : Plan) (f : Front) (bytes : List ℕ) (ps : List Plan) (ss : List Span) → LeftFrom text fs (at + length bytes) ps ss
    → (k m : ℕ) (u : List (List ℕ)) (up stack : List (List (List ℕ))) → length (u ∷ up) ≡ suc m → AreByFlags text fs k at (p ∷ ps) ((record { front = f; bytes = bytes }) ∷ ss)
    → scopes_in stack (left_of (fates_of (suc m) (p ∷ ps) ((record { front = f; bytes = bytes }) ∷ ss)) ((record { front = f; bytes = bytes }) ∷ ss))
    ≡ left_in (gone_by (suc m) (p ∷ ps) ((record { front = f; bytes = bytes }) ∷ ss)) (scopes_in (u ∷ up ++ stack) ((record { front = f; bytes = bytes }) ∷ ss))
going_left text fs at p Passed bytes ps ss later k m u up stack size flags = later k (suc m) (u ∷ up) stack size flags.1
going_left text fs at p Closes bytes ps ss later k m u up stack size flags = later k m up stack (omega arith) flags.1
going_left text fs at p Opens bytes ps ss later k m u up stack size flags = later k (suc (suc m)) ((u ++ take (length bytes - 1) bytes ∷ []) ∷ u ∷ up) stack (ap (λ n. suc n) size) flags.1
going_left text fs at p (Styles len) bytes ps ss later k m u up stack size flags = later (k + 1) (suc m) (u ∷ up) stack size flags.1

pub scopes_left : (text : List ℕ) (fs : List Flagged) (ss : List Span) (at : ℕ) (ps : List Plan) → ArePlans at ps ss → LeftFrom text fs at ps ss
scopes_left text fs [] at [] are k m up stack size flags = refl
scopes_left text fs [] at (p ∷ ps) are k m up stack size flags = absurd are
scopes_left text fs (s ∷ ss) at [] are k m up stack size flags = absurd are
scopes_left text fs (s ∷ ss) at (p ∷ ps) are k zero [] stack size flags = top_left text fs at p s.front s.bytes ps ss are.0 (scopes_left text fs ss (at + length s.bytes) ps are.1) k stack flags
scopes_left text fs (s ∷ ss) at (p ∷ ps) are k zero (u ∷ up) stack size flags = absurd (omega arith)
scopes_left text fs (s ∷ ss) at (p ∷ ps) are k (suc m) [] stack size flags = absurd (omega arith)
scopes_left text fs (s ∷ ss) at (p ∷ ps) are k (suc m) (u ∷ up) stack size flags = going_left text fs at p s.front s.bytes ps ss (scopes_left text fs ss (at + length s.bytes) ps are.1) k m u up stack size flags

-- ---- by the numbers of rules

none_more : (n : ℕ) → 0 + n ≡ n
none_more n = omega arith

one_more : (n : ℕ) → 1 + n ≡ suc n
one_more n = omega arith

-- a rule that stays has its scope
pub scope_left : (gone : List Bool) (xs : List Scope) (k : ℕ) → get_or gone k true ≡ false → get_or (left_in gone xs) (number_left gone k) ([], []) ≡ get_or xs k ([], [])
scope_left [] xs k stays = absurd (wrong stays)
  where
    wrong : true ≡ false → ⊥
    wrong same = cc
scope_left (true ∷ gone) [] zero stays = refl
scope_left (false ∷ gone) [] zero stays = refl
scope_left (true ∷ gone) [] (suc k) stays = refl
scope_left (false ∷ gone) [] (suc k) stays = refl
scope_left (true ∷ gone) (x ∷ xs) zero stays = absurd (wrong stays)
  where
    wrong : true ≡ false → ⊥
    wrong same = cc
scope_left (false ∷ gone) (x ∷ xs) zero stays = refl
scope_left (true ∷ gone) (x ∷ xs) (suc k) stays = ap (λ n. get_or (left_in gone xs) n ([], [])) (none_more (number_left gone k)) ∙ scope_left gone xs k stays
scope_left (false ∷ gone) (x ∷ xs) (suc k) stays = ap (λ n. get_or (x ∷ left_in gone xs) n ([], [])) (one_more (number_left gone k)) ∙ scope_left gone xs k stays
