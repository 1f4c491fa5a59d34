-- An at-rule that goes takes with it what stands in its block: the at-rules there go, and the rules.
use Rattle.std.proofs.Common.{◌≡◌, ◌⊎◌, ℕ, zero, suc, ◌+◌, ◌≤◌, ◌<◌, ◌==◌, ◌&&◌, nat_lt, Bool, true, false, if◌then◌else◌, List, [], ◌∷◌, ◌++◌, length, get_or, Option, Some, None, refl, sym, ap, ◌∙◌, inl, inr, arith, length-append}
use Rattle.std.specs.List.{list_all}
use Rattle.std.proofs.lemmas.Bool.{and_parts, and_right}
use Rattle.std.proofs.lemmas.Bool.Decides.{nat_tests}
use Rattle.tp_base.proofs.Truths.{not_both, same_number}
use Rattle.css_read.specs.declared.holders.Holder.{Holder}
use Rattle.css_read.specs.Pruned.{is_owner, held_by, insides, all_of_some, gone_holders}

-- ---- what is held

abbrev are_all : List Bool → Bool
are_all gone = list_all (λ x. x) gone

all_some : (xs : List Bool) → all_of_some xs ≡ true → are_all xs ≡ true
all_some [] is = refl
all_some (x ∷ xs) is = is

all_parts : (xs ys : List Bool) → are_all (xs ++ ys) ≡ true → (are_all xs ≡ true) × (are_all ys ≡ true)
all_parts [] ys all = (refl, all)
all_parts (x ∷ xs) ys all =
    let both = and_parts x (are_all (xs ++ ys)) all in
    let later = all_parts xs ys both.1 in
    (rw both.0 later.0, later.1)

-- what has an owner goes where all go that the owner has
held_goes : (n : ℕ) (before : List (Option ℕ)) (after : List (Option ℕ)) (gone : List Bool) → length before < length gone → are_all (held_by n (before ++ Some n ∷ after) gone) ≡ true → get_or gone (length before) false ≡ true
held_goes n [] after [] less all = absurd (omega (arith, less))
held_goes n [] after (g ∷ gone) less all = here g (same_number n) all
  where
    here : (g : Bool) → (n == n) ≡ true → are_all (if n == n then g ∷ held_by n after gone else held_by n after gone) ≡ true → g ≡ true
    here g same all = let first : are_all (g ∷ held_by n after gone) ≡ true = rw same at all in (and_parts g (are_all (held_by n after gone)) first).0
held_goes n (o ∷ before) after [] less all = absurd (omega (arith, less))
held_goes n (o ∷ before) after (g ∷ gone) less all = held_goes n before after gone (omega (arith, less)) (behind (is_owner n o) all)
  where
    behind : (test : Bool) → are_all (if test then g ∷ held_by n (before ++ Some n ∷ after) gone else held_by n (before ++ Some n ∷ after) gone) ≡ true → are_all (held_by n (before ++ Some n ∷ after) gone) ≡ true
    behind true all = (and_parts g (are_all (held_by n (before ++ Some n ∷ after) gone)) all).1
    behind false all = all

-- ---- at-rules

length-gone : (owners : List (Option ℕ)) (rules : List Bool) (n : ℕ) (hs : List Holder) → length (gone_holders owners rules n hs) ≡ length hs
unfolding gone_holders
length-gone owners rules n [] = refl
length-gone owners rules n (h ∷ hs) = ap suc (length-gone owners rules (n + 1) hs)

insides-append : (hs ks : List Holder) → insides (hs ++ ks) ≡ insides hs ++ insides ks
insides-append [] ks = refl
insides-append (h ∷ hs) ks = ap (λ (os : List (Option ℕ)). h.inside ∷ os) (insides-append hs ks)

length-insides : (hs : List Holder) → length (insides hs) ≡ length hs
length-insides [] = refl
length-insides (h ∷ hs) = ap suc (length-insides hs)

-- the first of some at-rules, with all that it has
first_goes : (owners : List (Option ℕ)) (rules : List Bool) (n : ℕ) (h : Holder) (hs : List Holder) → get_or (gone_holders owners rules n (h ∷ hs)) 0 false ≡ true
    → (are_all (held_by n owners rules) ≡ true) × (are_all (held_by n (insides hs) (gone_holders owners rules (n + 1) hs)) ≡ true)
unfolding gone_holders
first_goes owners rules n h hs gone =
    let later = gone_holders owners rules (n + 1) hs in
    let all = (and_parts (h.loose && h.bare) (all_of_some (held_by n owners rules ++ held_by n (insides hs) later)) gone).1 in
    all_parts (held_by n owners rules) (held_by n (insides hs) later) (all_some (held_by n owners rules ++ held_by n (insides hs) later) all)

-- of those from a number on: one that stands in the block of another that goes
pub holder_goes : (owners : List (Option ℕ)) (rules : List Bool) (n : ℕ) (before : List Holder) (h : Holder) (after : List Holder) (i : ℕ) → i < length before → h.inside ≡ Some (n + i)
    → get_or (gone_holders owners rules n (before ++ h ∷ after)) i false ≡ true → get_or (gone_holders owners rules n (before ++ h ∷ after)) (length before) false ≡ true
unfolding gone_holders
holder_goes owners rules n [] h after i less inside gone = absurd (omega (arith, less))
holder_goes owners rules n (k ∷ before) h after zero less inside gone =
    let hs = before ++ h ∷ after in
    let unit : n + 0 ≡ n = omega arith in
    let list : insides hs ≡ insides before ++ Some n ∷ insides after = insides-append before (h ∷ after) ∙ ap (λ (o : Option ℕ). insides before ++ o ∷ insides after) (inside ∙ ap (λ (m : ℕ). Some m) unit) in
    let all = (first_goes owners rules n k hs gone).1 in
    let within : length (insides before) < length (gone_holders owners rules (n + 1) hs) = omega (arith, length-insides before, length-gone owners rules (n + 1) hs, length-append before (h ∷ after)) in
    ap (λ (m : ℕ). get_or (gone_holders owners rules (n + 1) hs) m false) (sym (length-insides before))
    ∙ held_goes n (insides before) (insides after) (gone_holders owners rules (n + 1) hs) within (ap (λ (os : List (Option ℕ)). are_all (held_by n os (gone_holders owners rules (n + 1) hs))) (sym list) ∙ all)
holder_goes owners rules n (k ∷ before) h after (suc i) less inside gone =
    let next : n + suc i ≡ n + 1 + i = omega arith in
    holder_goes owners rules (n + 1) before h after i (omega (arith, less)) (inside ∙ ap (λ (m : ℕ). Some m) next) gone

-- a rule in the block of one that goes
pub rule_goes : (owners before after : List (Option ℕ)) (rules : List Bool) (n : ℕ) (hs : List Holder) (i : ℕ) → owners ≡ before ++ Some (n + i) ∷ after → length before < length rules
    → get_or (gone_holders owners rules n hs) i false ≡ true → get_or rules (length before) false ≡ true
unfolding gone_holders
rule_goes owners before after rules n [] i is less gone = absurd cc
rule_goes owners before after rules n (h ∷ hs) zero is less gone =
    let unit : n + 0 ≡ n = omega arith in
    let list : owners ≡ before ++ Some n ∷ after = is ∙ ap (λ (m : ℕ). before ++ Some m ∷ after) unit in
    held_goes n before after rules less (ap (λ (os : List (Option ℕ)). are_all (held_by n os rules)) (sym list) ∙ (first_goes owners rules n h hs gone).0)
rule_goes owners before after rules n (h ∷ hs) (suc i) is less gone =
    let next : n + suc i ≡ n + 1 + i = omega arith in
    rule_goes owners before after rules (n + 1) hs i (is ∙ ap (λ (m : ℕ). before ++ Some m ∷ after) next) less gone

-- ---- what has no rule doesn't go

less_or : (m n : ℕ) → (m ≤ n) ⊎ (n < m)
less_or m n = by (nat_lt n m) refl
  where
    over : (m n : ℕ) → nat_lt n m ≡ true → n < m
    over m n is = grind (arith, nat_tests)

    under : (m n : ℕ) → nat_lt n m ≡ false → m ≤ n
    under m n is = grind (arith, nat_tests)

    by : (test : Bool) → nat_lt n m ≡ test → (m ≤ n) ⊎ (n < m)
    by true is = inr (over m n is)
    by false is = inl (under m n is)

-- it stands in no block, or in that of one with such a number or a greater one
abbrev pub IsFrom : ℕ → Option ℕ → Type 0
IsFrom least None = Unit {0}
IsFrom least (Some m) = least ≤ m

abbrev pub OwnersFrom : ℕ → List (Option ℕ) → Type 0
OwnersFrom least [] = Unit {0}
OwnersFrom least (o ∷ os) = IsFrom least o × OwnersFrom least os

-- those with such a number or a greater one stand in the block of none with a smaller number
abbrev pub StandApart : ℕ → ℕ → List Holder → Type 0
StandApart least n [] = Unit {0}
StandApart least n (h ∷ hs) = (least ≤ n → IsFrom least h.inside) × StandApart least (n + 1) hs

none_owned : (least n : ℕ) (owners : List (Option ℕ)) (rules : List Bool) → n < least → OwnersFrom least owners → held_by n owners rules ≡ []
none_owned least n [] rules less from = refl
none_owned least n (o ∷ owners) [] less from = refl
none_owned least n (o ∷ owners) (g ∷ rules) less from = by o from.0 (none_owned least n owners rules less from.1)
  where
    other : (m n : ℕ) → n < m → (m == n) ≡ false
    other m n less = grind (arith, nat_tests)

    by : (o : Option ℕ) → IsFrom least o → held_by n owners rules ≡ [] → (if is_owner n o then g ∷ held_by n owners rules else held_by n owners rules) ≡ []
    by None is later = later
    by (Some m) is later = rw (other m n (omega (arith, less, is))) later

-- of each: it doesn't go, or stands apart
abbrev AreDead : ℕ → List Holder → List Bool → Type 0
AreDead least (h ∷ hs) (g ∷ gone) = ((g ≡ false) ⊎ IsFrom least h.inside) × AreDead least hs gone
AreDead least hs gone = Unit {0}

abbrev NoneGoes : List Bool → Type 0
NoneGoes [] = Unit {0}
NoneGoes (g ∷ gone) = (g ≡ false) × NoneGoes gone

none_held : (least n : ℕ) (hs : List Holder) (gone : List Bool) → n < least → AreDead least hs gone → NoneGoes (held_by n (insides hs) gone)
none_held least n [] gone less dead = tt
none_held least n (h ∷ hs) [] less dead = tt
none_held least n (h ∷ hs) (g ∷ gone) less dead = by h.inside dead.0 (none_held least n hs gone less dead.1)
  where
    other : (m n : ℕ) → n < m → (m == n) ≡ false
    other m n less = grind (arith, nat_tests)

    pick : (test : Bool) → g ≡ false → NoneGoes (held_by n (insides hs) gone) → NoneGoes (if test then g ∷ held_by n (insides hs) gone else held_by n (insides hs) gone)
    pick true is later = (is, later)
    pick false is later = later

    by : (o : Option ℕ) → (g ≡ false) ⊎ IsFrom least o → NoneGoes (held_by n (insides hs) gone) → NoneGoes (if is_owner n o then g ∷ held_by n (insides hs) gone else held_by n (insides hs) gone)
    by o (inl is) later = pick (is_owner n o) is later
    by None (inr is) later = later
    by (Some m) (inr is) later = rw (other m n (omega (arith, less, is))) later

none_all : (xs : List Bool) → NoneGoes xs → all_of_some xs ≡ false
none_all [] none = refl
none_all (x ∷ xs) none = rw none.0 refl

dead_from : (owners : List (Option ℕ)) (rules : List Bool) (least n : ℕ) (hs : List Holder) → OwnersFrom least owners → StandApart least n hs → AreDead least hs (gone_holders owners rules n hs)
unfolding gone_holders
dead_from owners rules least n [] from apart = tt
dead_from owners rules least n (h ∷ hs) from apart = let later = dead_from owners rules least (n + 1) hs from apart.1 in (by (less_or least n) later, later)
  where
    by : (least ≤ n) ⊎ (n < least) → AreDead least hs (gone_holders owners rules (n + 1) hs) → (((h.loose && h.bare && all_of_some (held_by n owners rules ++ held_by n (insides hs) (gone_holders owners rules (n + 1) hs))) ≡ false)) ⊎ IsFrom least h.inside
    by (inl over) later = inr (apart.0 over)
    by (inr under) later =
        let none : held_by n owners rules ++ held_by n (insides hs) (gone_holders owners rules (n + 1) hs) ≡ held_by n (insides hs) (gone_holders owners rules (n + 1) hs) =
        ap (λ (xs : List Bool). xs ++ held_by n (insides hs) (gone_holders owners rules (n + 1) hs)) (none_owned least n owners rules under from)
        in
        inl (and_right (h.loose && h.bare) _ (ap all_of_some none ∙ none_all (held_by n (insides hs) (gone_holders owners rules (n + 1) hs)) (none_held least n hs (gone_holders owners rules (n + 1) hs) under later)))

-- the first of all
pub first_stays : (owners : List (Option ℕ)) (rules : List Bool) (least : ℕ) (h : Holder) (hs : List Holder) → 0 < least → OwnersFrom least owners → StandApart least 1 hs → get_or (gone_holders owners rules 0 (h ∷ hs)) 0 false ≡ true → ⊥
unfolding gone_holders
first_stays owners rules least h hs some from apart gone =
    let later = gone_holders owners rules 1 hs in
    let none : held_by 0 owners rules ++ held_by 0 (insides hs) later ≡ held_by 0 (insides hs) later = ap (λ (xs : List Bool). xs ++ held_by 0 (insides hs) later) (none_owned least 0 owners rules some from) in
    let dead = dead_from owners rules least 1 hs from apart in
    not_both (h.loose && h.bare && all_of_some (held_by 0 owners rules ++ held_by 0 (insides hs) later)) gone
    (and_right (h.loose && h.bare) _ (ap all_of_some none ∙ none_all (held_by 0 (insides hs) later) (none_held least 0 hs later some dead)))
