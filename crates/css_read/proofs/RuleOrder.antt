-- The rules of a text stand in order and apart.
use Rattle.std.proofs.Common.{◌≡◌, ℕ, zero, suc, ◌+◌, ◌-◌, ◌≤◌, ◌<◌, ◌==◌, ◌&&◌, Bool, true, false, if◌then◌else◌, nat_lt, List, [], ◌∷◌, ◌++◌, length, take, drop, codes, refl, arith, length-drop}
use Rattle.std.proofs.lemmas.Bool.{false≢true}
use Rattle.text_bytes.specs.OrderMark.{behind_order_mark}
use Rattle.sel_text.specs.Bytes.{name_len}
use Rattle.css_read.specs.declared.fronts.Front.TheVariants.{Passed, Opens, Closes, Styles}
use Rattle.css_read.specs.Units.{behind_unit, begins_gap, from_first}
use Rattle.css_read.specs.Rules.{Begun, begins, list_ends, prelude_ends, behind_block, holds_rules, at_block, at_rule, style_rule, next_front, depth_after, Rule, rules_at, rules_from, rules_of}
use Rattle.css_read.proofs.Lengths.{no_longer, unit_no_longer, block_no_longer, mark_no_longer}

-- in order between two offsets, each with its `{` before its end
abbrev pub AreRulesApart : ℕ → ℕ → List Rule → Type 0
AreRulesApart from to [] = from ≤ to
AreRulesApart from to (r ∷ rs) = (from ≤ r.from) × (r.from ≤ r.brace) × (r.brace < r.to) × AreRulesApart r.to to rs

from_earlier : (at from to : ℕ) (rs : List Rule) → at ≤ from → AreRulesApart from to rs → AreRulesApart at to rs
from_earlier at from to [] less apart = omega arith
from_earlier at from to (r ∷ rs) less apart = (omega (arith, less, apart.0), apart.1, apart.2, apart.3)

-- ---- what a text of n bytes begins with

-- a list has its `{` behind it
abbrev IsWithin : ℕ → Begun → Type 0
IsWithin n (Styles len, rest) = len + length rest < n
IsWithin n (Passed, rest) = length rest ≤ n
IsWithin n (Opens, rest) = length rest ≤ n
IsWithin n (Closes, rest) = length rest ≤ n

no_more : (n : ℕ) (f : Begun) → IsWithin n f → length f.1 ≤ n
no_more n (Styles len, rest) within = omega arith
no_more n (Passed, rest) within = within
no_more n (Opens, rest) within = within
no_more n (Closes, rest) within = within

choose : (test : Bool) (n : ℕ) (f g : Begun) → (test ≡ true → IsWithin n f) → IsWithin n g → IsWithin n (if test then f else g)
choose true n f g first second = first refl
choose false n f g first second = second

brace_is_one : (bs : List ℕ) → begins (codes "{") bs ≡ true → 0 < length bs
brace_is_one [] here = absurd (false≢true here)
brace_is_one (b ∷ bs) here = omega arith

block_within : (holds : Bool) (n : ℕ) (bs : List ℕ) → length bs ≤ n → IsWithin n (at_block holds bs)
block_within true n bs within = within
block_within false n bs within = let block = block_no_longer bs in omega arith

at_rule_within : (inside : Bool) (n : ℕ) (bs : List ℕ) → length bs ≤ n → IsWithin n (at_rule inside bs)
unfolding at_rule
at_rule_within inside n bs within =
    let end = from_first (prelude_ends inside) bs in
    let shorter = no_longer (prelude_ends inside) [] 0 bs in
    let dropped = length-drop 1 end in
    choose (begins (codes "{") end) n _ _ (λ _. block_within (holds_rules (take (name_len bs) bs)) n (drop 1 end) (omega arith))
    (choose (begins (codes ";") end) n (Passed, drop 1 end) (Passed, end) (λ _. omega arith) (omega arith))

style_within : (inside : Bool) (bs : List ℕ) → IsWithin (length bs) (style_rule inside bs)
unfolding style_rule
style_within inside bs =
    let end = from_first (list_ends inside) bs in
    let shorter = no_longer (list_ends inside) [] 0 bs in
    let dropped = length-drop 1 end in
    let block = block_no_longer (drop 1 end) in
    choose (begins (codes "{") end) (length bs) (Styles (length bs - length end), behind_block (drop 1 end)) (Passed, end) (λ here. let some = brace_is_one end here in omega arith) shorter

front_within : (inside : Bool) (b : ℕ) (bs : List ℕ) → IsWithin (length (b ∷ bs)) (next_front inside (b ∷ bs))
unfolding next_front
front_within inside b bs =
    let n = length (b ∷ bs) in
    choose (begins_gap (b ∷ bs)) n (Passed, behind_unit (b ∷ bs)) _ (λ _. unit_no_longer (b ∷ bs))
    (choose (inside && b == 125) n (Closes, bs) _ (λ _. omega arith) (choose (b == 64) n (at_rule inside bs) (style_rule inside (b ∷ bs)) (λ _. at_rule_within inside n bs (omega arith)) (style_within inside (b ∷ bs))))

-- ---- rules

-- what stands n bytes before the end, and the rules behind it
one_more : (size from n : ℕ) (f : Begun) (others : List Rule) → from + n ≤ size → IsWithin n f → AreRulesApart (size - length f.1) size others → AreRulesApart from size (rules_at f.0 (size - n) (size - length f.1) ++ others)
one_more size from n (Styles len, rest) others here within behind = (omega arith, omega arith, omega arith, behind)
one_more size from n (Passed, rest) others here within behind = from_earlier from (size - length rest) size others (omega arith) behind
one_more size from n (Opens, rest) others here within behind = from_earlier from (size - length rest) size others (omega arith) behind
one_more size from n (Closes, rest) others here within behind = from_earlier from (size - length rest) size others (omega arith) behind

apart_from : (size from depth skip : ℕ) (bs : List ℕ) → length bs ≤ size → from + (length bs - skip) ≤ size → AreRulesApart from size (rules_from size depth skip bs)
unfolding rules_from
apart_from size from depth skip [] within here = omega arith
apart_from size from depth (suc skip) (b ∷ bs) within here = apart_from size from depth skip bs (omega arith) (omega arith)
apart_from size from depth zero (b ∷ bs) within here =
    let f = next_front (nat_lt 0 depth) (b ∷ bs) in
    let is = front_within (nat_lt 0 depth) b bs in
    let shorter = no_more (length (b ∷ bs)) f is in
    one_more size from (length (b ∷ bs)) f _ (omega arith) is (apart_from size (size - length f.1) (depth_after depth f.0) (length bs - length f.1) bs (omega arith) (omega arith))

pub rules_apart : (text : List ℕ) → AreRulesApart 0 (length text) (rules_of text)
unfolding rules_of
rules_apart text = let shorter = mark_no_longer text in apart_from (length text) 0 0 0 (behind_order_mark text) shorter (omega arith)
