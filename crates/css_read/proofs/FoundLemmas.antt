-- The innermost of the at-rules that are open, by its number.
use Rattle.std.proofs.Common.{◌≡◌, ℕ, zero, suc, ◌+◌, ◌-◌, ◌<◌, ◌==◌, not, nat_lt, Bool, false, List, [], ◌∷◌, ◌++◌, All, length, reverse, set, get_or, slice_get, Option, Some, None, refl, sym, ap, ◌∙◌, arith}
use Rattle.std.proofs.lemmas.Bool.Decides.{nat_tests}
use Rattle.std.proofs.lemmas.List.{reverse-append, length-reverse}
use Rattle.std.proofs.lemmas.List.Elements.{All-get_or, All-append, All-from_get_or}
use Rattle.std.proofs.lemmas.Option.{slice_get-get_or, slice_get_past}
use Rattle.css_read.specs.declared.holders.Holder.{Holder}
use Rattle.css_read.specs.FoundHolders.{Found, changed, innermost_changed, not_bare, ended_at, passed_over, closed}
use Rattle.css_read.specs.Holders.{innermost}

front_innermost : (xs ys : List ℕ) → 0 < length xs → innermost (xs ++ ys) ≡ innermost xs
front_innermost [] ys some = absurd (omega arith)
front_innermost (x ∷ xs) ys some = refl

last_or : (os : List ℕ) (d : ℕ) → 0 < length os → Some (get_or os (length os - 1) d) ≡ innermost (reverse os)
last_or [] d some = absurd (omega arith)
last_or (a ∷ []) d some = refl
last_or (a ∷ b ∷ os) d some =
    let count : length (a ∷ b ∷ os) - 1 ≡ suc (length (b ∷ os) - 1) = omega arith in
    let later : 0 < length (reverse (b ∷ os)) = omega (arith, length-reverse (b ∷ os)) in
    ap (λ (n : ℕ). Some (get_or (a ∷ b ∷ os) n d)) count ∙ last_or (b ∷ os) d (omega arith) ∙ sym (ap innermost (reverse-append (a ∷ []) (b ∷ os)) ∙ front_innermost (reverse (b ∷ os)) (a ∷ []) later)

pub last_is : (os : List ℕ) → slice_get os (length os - 1) ≡ innermost (reverse os)
last_is [] = slice_get_past [] 0 (omega arith)
last_is (a ∷ os) = slice_get-get_or (a ∷ os) (length (a ∷ os) - 1) a (omega arith) ∙ last_or (a ∷ os) a (omega arith)

some_same : (n m : ℕ) → Some n ≡ Some m → n ≡ m
some_same n m is = cc

pub innermost_within : (bound : ℕ) (os : List ℕ) (n : ℕ) → All (λ k. k < bound) os → Some n ≡ innermost (reverse os) → n < bound
innermost_within bound [] n all is = absurd cc
innermost_within bound (a ∷ os) n all is =
    let at = length (a ∷ os) - 1 in
    let same : n ≡ get_or (a ∷ os) at a = some_same n (get_or (a ∷ os) at a) (is ∙ sym (last_or (a ∷ os) a (omega arith))) in
    let less = All-get_or (λ k. k < bound) (a ∷ os) at a (omega arith) all in
    omega (arith, same, less)

pub none_innermost : (f : Holder → Holder) (outer : List ℕ) (hs : List Holder) → None ≡ innermost outer → innermost_changed f outer hs ≡ hs
none_innermost f [] hs is = refl
none_innermost f (n ∷ outer) hs is = absurd cc

pub changed_at : (f : Holder → Holder) (n : ℕ) (hs : List Holder) (d : Holder) → n < length hs → set hs n (f (get_or hs n d)) ≡ changed f n hs
changed_at f n [] d less = absurd (omega arith)
changed_at f zero (h ∷ hs) d less = refl
changed_at f (suc n) (h ∷ hs) d less = ap (λ (ks : List Holder). h ∷ ks) (changed_at f n hs d (omega arith))

pub at_innermost : (f : Holder → Holder) (outer : List ℕ) (hs : List Holder) (n : ℕ) → Some n ≡ innermost outer → changed f n hs ≡ innermost_changed f outer hs
at_innermost f [] hs n is = absurd cc
at_innermost f (k ∷ outer) hs n is = let same : n ≡ k = cc in ap (λ (m : ℕ). changed f m hs) same

pub inside_is : (os : List ℕ) → not (length os == 0) ≡ nat_lt 0 (length (reverse os))
inside_is [] = refl
inside_is (o ∷ os) = let count = length-reverse (o ∷ os) in grind (arith, nat_tests)

pub pushed : (os : List ℕ) (o : ℕ) → reverse (os ++ o ∷ []) ≡ o ∷ reverse os
pushed os o = reverse-append os (o ∷ [])

pub popped : (all os : List ℕ) (o : ℕ) → all ≡ os ++ o ∷ [] → reverse all ≡ o ∷ reverse os
popped all os o is = ap reverse is ∙ pushed os o

pub below_more : (bound : ℕ) (os : List ℕ) → All (λ k. k < bound) os → All (λ k. k < bound + 1) (os ++ bound ∷ [])
below_more bound os all = All-append (λ k. k < bound + 1) os (bound ∷ []) (λ k d inside. omega (arith, all k d inside)) (All-from_get_or (λ k. k < bound + 1) (bound ∷ []) 0 one)
  where
    one : (i : ℕ) → i < 1 → get_or (bound ∷ []) i 0 < bound + 1
    one zero less = omega arith
    one (suc i) less = absurd (omega (arith, less))

-- ---- what becomes of what was found

changed_by : (f : Holder → Holder) (n : ℕ) (hs : List Holder) (h : Holder) → n < length hs → h ≡ get_or hs n h → set hs n (f h) ≡ changed f n hs
changed_by f n hs h less is = ap (λ (k : Holder). set hs n (f k)) is ∙ changed_at f n hs h less

pub passed_is : (gap : Bool) (hs : List Holder) (owners : List (Option ℕ)) (os : List ℕ) (n : ℕ) (h : Holder) → gap ≡ false → Some n ≡ innermost (reverse os) → All (λ k. k < length hs) os → h ≡ get_or hs n h
    → ◌≡◌ {A = Found} (record { holders = set hs n (not_bare h); owners = owners; opened = reverse os }) (passed_over gap (record { holders = hs; owners = owners; opened = reverse os }))
passed_is gap hs owners os n h is top within there =
    rw is (ap (λ (ks : List Holder). record { holders = ks; owners = owners; opened = reverse os }) (changed_by not_bare n hs h (innermost_within (length hs) os n within top) there ∙ at_innermost not_bare (reverse os) hs n top))

pub closed_is : (to : ℕ) (hs : List Holder) (owners : List (Option ℕ)) (all os : List ℕ) (n : ℕ) (h : Holder) → all ≡ os ++ n ∷ [] → All (λ k. k < length hs) all → h ≡ get_or hs n h
    → ◌≡◌ {A = Found} (record { holders = set hs n (ended_at to h); owners = owners; opened = reverse os }) (closed to (record { holders = hs; owners = owners; opened = reverse all }))
closed_is to hs owners all os n h is within there =
    let last : reverse all ≡ n ∷ reverse os = popped all os n is in
    let top : Some n ≡ innermost (reverse all) = sym (ap innermost last) in
    rw last (ap (λ (ks : List Holder). record { holders = ks; owners = owners; opened = reverse os }) (changed_by (ended_at to) n hs h (innermost_within (length hs) all n within top) there))
