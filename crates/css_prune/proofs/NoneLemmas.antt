-- Where no rule goes no holder does, and a text without an `@` has no holders.
use Rattle.std.proofs.Common.{◌≡◌, ℕ, zero, suc, ◌+◌, ◌-◌, ◌==◌, ◌&&◌, ◌||◌, not, nat_eq, nat_lt, Bool, true, false, if◌then◌else◌, List, [], ◌∷◌, ◌++◌, length, drop, codes, Option, refl, sym, ◌∙◌, arith}
use Rattle.std.specs.List.{list_any, starts_with}
use Rattle.std.proofs.lemmas.Bool.{eqb-true}
use Rattle.std.proofs.lemmas.List.{append-nil}
use Rattle.std.proofs.lemmas.List.Folds.{list_any-append}
use Rattle.text_bytes.specs.OrderMark.{behind_order_mark}
use Rattle.css_read.specs.declared.holders.Holder.{Holder}
use Rattle.css_read.specs.declared.sheets.Range.{Range}
use Rattle.css_read.specs.Holders.{steps_from, steps_of, holders_from, holders_of, owners_of, begins_block, open_after}
use Rattle.css_read.specs.Pruned.{is_owner, held_by, insides, all_of_some, gone_holders, gone_ranges, wholes}
use Rattle.css_read.specs.Rules.{next_front, style_rule, begins, list_ends, depth_after}
use Rattle.css_read.specs.Units.{begins_gap, from_first}
use Rattle.css_prune.specs.Parts.{from_byte}
use Rattle.css_prune.proofs.PartLemmas.{by_test}

-- ---- where no rule goes

some_none : (gs : List Bool) → list_any (λ g. g) gs ≡ false → all_of_some gs ≡ false
some_none [] none = refl
some_none (true ∷ gs) none = cc
some_none (false ∷ gs) none = refl

held_none : (n : ℕ) (owners : List (Option ℕ)) (gs : List Bool) → list_any (λ g. g) gs ≡ false → list_any (λ g. g) (held_by n owners gs) ≡ false
held_none n [] gs none = refl
held_none n (o ∷ owners) [] none = refl
held_none n (o ∷ owners) (true ∷ gs) none = cc
held_none n (o ∷ owners) (false ∷ gs) none = by_test (is_owner n o) (λ is. rw is (held_none n owners gs none)) (λ other. rw other (held_none n owners gs none))

not_all : (a b : Bool) → (a && b && false || false) ≡ false
not_all true true = refl
not_all true false = refl
not_all false b = refl

none_gone : (owners : List (Option ℕ)) (rules : List Bool) (n : ℕ) (hs : List Holder) → list_any (λ g. g) rules ≡ false → list_any (λ g. g) (gone_holders owners rules n hs) ≡ false
unfolding gone_holders
none_gone owners rules n [] none = refl
none_gone owners rules n (h ∷ hs) none =
    let later = gone_holders owners rules (n + 1) hs in
    let none_later = none_gone owners rules (n + 1) hs none in
    let held : list_any (λ g. g) (held_by n owners rules ++ held_by n (insides hs) later) ≡ false =
    list_any-append (λ g. g) (held_by n owners rules) (held_by n (insides hs) later) ∙ rw (held_none n owners rules none, held_none n (insides hs) later none_later) refl in
    rw (some_none (held_by n owners rules ++ held_by n (insides hs) later) held, none_later) (not_all h.loose h.bare)

no_ranges : (rs : List Range) (gs : List Bool) → list_any (λ g. g) gs ≡ false → gone_ranges rs gs ≡ []
no_ranges [] gs none = refl
no_ranges (r ∷ rs) [] none = refl
no_ranges (r ∷ rs) (true ∷ gs) none = cc
no_ranges (r ∷ rs) (false ∷ gs) none = no_ranges rs gs none

-- ---- without an `@`

behind_one : (b : ℕ) (bs : List ℕ) → from_byte 64 (b ∷ bs) ≡ [] → from_byte 64 bs ≡ []
behind_one b bs none = by_test (b == 64) (λ is. absurd (wrong (rw is at none))) (λ other. rw other at none)
  where
    wrong : b ∷ bs ≡ [] → ⊥
    wrong same = cc

behind_some : (n : ℕ) (bs : List ℕ) → from_byte 64 bs ≡ [] → from_byte 64 (drop n bs) ≡ []
behind_some zero bs none = none
behind_some (suc n) [] none = refl
behind_some (suc n) (b ∷ bs) none = behind_some n bs (behind_one b bs none)

not_at : (b : ℕ) (bs : List ℕ) → from_byte 64 (b ∷ bs) ≡ [] → (b == 64) ≡ false
not_at b bs none = by_test (b == 64) (λ is. absurd (wrong (rw is at none))) (λ other. other)
  where
    wrong : b ∷ bs ≡ [] → ⊥
    wrong same = cc

style_begins_none : (inside : Bool) (bs : List ℕ) → begins_block (style_rule inside bs).0 ≡ false
unfolding style_rule
style_begins_none inside bs = by_test (begins (codes "{") (from_first (list_ends inside) bs)) (λ is. rw is refl) (λ is. rw is refl)

front_begins_none : (inside : Bool) (bs : List ℕ) → from_byte 64 bs ≡ [] → begins_block (next_front inside bs).0 ≡ false
unfolding next_front
front_begins_none inside [] none = refl
front_begins_none inside (b ∷ bs) none =
    rw (not_at b bs none)
    (by_test (begins_gap (b ∷ bs))
    (λ gap. rw gap refl)
    (λ solid. rw solid (by_test (inside && b == 125) (λ ends. rw ends refl) (λ other. rw other (style_begins_none inside (b ∷ bs))))))

none_from : (text : List ℕ) (size depth skip n : ℕ) (outer bs : List ℕ) → from_byte 64 bs ≡ [] → holders_from text n outer (steps_from size depth skip bs) ≡ []
unfolding holders_from steps_from
none_from text size depth skip n outer [] none = refl
none_from text size depth (suc skip) n outer (b ∷ bs) none = none_from text size depth skip n outer bs (behind_one b bs none)
none_from text size depth zero n outer (b ∷ bs) none =
    let begun = next_front (nat_lt 0 depth) (b ∷ bs) in
    rw (front_begins_none (nat_lt 0 depth) (b ∷ bs) none)
    (none_from text size (depth_after depth begun.0) (length bs - length begun.1) n (open_after n outer begun.0) bs (behind_one b bs none))

no_holders : (text : List ℕ) → from_byte 64 text ≡ [] → holders_of text ≡ []
unfolding holders_of steps_of behind_order_mark
no_holders text none = by (starts_with nat_eq text (0xEF ∷ 0xBB ∷ 0xBF ∷ []))
  where
    by : (mark : Bool) → holders_from text 0 [] (steps_from (length text) 0 0 (if mark then drop 3 text else text)) ≡ []
    by true = none_from text (length text) 0 0 0 [] (drop 3 text) (behind_some 3 text none)
    by false = none_from text (length text) 0 0 0 [] text none

-- ---- so no holder goes

empty : (xs : List ℕ) → (length xs == 0) ≡ true → xs ≡ []
empty [] is = refl
empty (x ∷ xs) is = let none = eqb-true (suc (length xs)) 0 is in absurd (omega arith)

pub none_goes : (text : List ℕ) (rules : List Bool) (old : List Range) → (not (list_any (λ g. g) rules) || length (from_byte 64 text) == 0) ≡ true
    → old ≡ old ++ gone_ranges (wholes (holders_of text)) (gone_holders (owners_of text) rules 0 (holders_of text))
none_goes text rules old is =
    let none : gone_ranges (wholes (holders_of text)) (gone_holders (owners_of text) rules 0 (holders_of text)) ≡ [] =
    by_test (list_any (λ g. g) rules)
    (λ some. let none : holders_of text ≡ [] = no_holders text (empty (from_byte 64 text) (rw some at is)) in rw none refl)
    (λ none. no_ranges (wholes (holders_of text)) (gone_holders (owners_of text) rules 0 (holders_of text)) (none_gone (owners_of text) rules 0 (holders_of text) none)) in
    rw none (sym (append-nil old))
