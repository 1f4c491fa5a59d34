-- Elements that are left open, one after the other, and the tags of the open ones.
use Rattle.std.proofs.Common.{◌≡◌, ℕ, zero, suc, ◌+◌, ◌-◌, ◌<◌, ◌≤◌, nat_lt, Bool, true, List, [], ◌∷◌, ◌++◌, length, length-append, drop, drop-cons, get_or, replicate, Option, Some, None, refl, sym, ap, ◌∙◌, append_assoc, arith, add-one}
use Rattle.std.specs.List.{slice_get}
use Rattle.std.proofs.lemmas.Bool.{ltb-true}
use Rattle.std.proofs.lemmas.List.{append-nil, drop_all}
use Rattle.std.proofs.lemmas.Option.{none-some}
use Rattle.html_table.specs.Elements.{Element}
use Rattle.premise_finds.specs.declared.findings.Finding.{Finding}
use Rattle.page_finds.specs.declared.left.Opened.{Opened}
use Rattle.page_finds.specs.Trees.{found_left_at, found_left, left_from}

at_some : {X : Type 0} (xs : List X) (i : ℕ) (x : X) → slice_get xs i ≡ Some x → drop i xs ≡ x ∷ drop (suc i) xs
at_some [] i x none = absurd (none-some x none)
at_some (y ∷ xs) zero x is = cc
at_some (y ∷ xs) (suc i) x is = at_some xs i x is

pub tag_at : (os : List Opened) (i : ℕ) (o : Opened) → true ≡ nat_lt i (length os) → o ≡ get_or os i o → drop i os ≡ o ∷ drop (suc i) os
tag_at os i o less is = drop-cons os i o (ltb-true i (length os) (sym less)) ∙ ap (λ x. x ∷ drop (suc i) os) (sym is)

pub left_here : (before mid : List Finding) (by_end : Bool) (i : ℕ) (es : List Element) (os : List Opened) (e : Element) (o : Opened) → slice_get es i ≡ Some e → drop i os ≡ o ∷ drop (suc i) os
    → mid ≡ before ++ found_left_at by_end e o → mid ++ left_from by_end (i + 1) es os ≡ before ++ left_from by_end i es os
unfolding found_left
left_here before mid by_end i es os e o here there more =
    rw (more, at_some es i e here, there, add-one) (append_assoc before (found_left_at by_end e o) (found_left by_end (drop (suc i) es) (drop (suc i) os)))

none_left : (by_end : Bool) (es : List Element) → found_left by_end es [] ≡ []
unfolding found_left
none_left by_end [] = refl
none_left by_end (e ∷ es) = refl

pub no_tag : (before : List Finding) (by_end : Bool) (i : ℕ) (es : List Element) (os : List Opened) → length os ≤ i → before ++ left_from by_end i es os ≡ before
no_tag before by_end i es os past = rw (drop_all i os past, none_left by_end (drop i es)) (append-nil before)

pub no_element : (before : List Finding) (by_end : Bool) (i : ℕ) (es : List Element) (os : List Opened) → length es ≤ i → before ++ left_from by_end i es os ≡ before
unfolding found_left
no_element before by_end i es os past = rw (drop_all i es past) (append-nil before)

-- ---- the tags of the open elements

pub one_tag : (tags : List Opened) (tag : Opened) (count : ℕ) → length tags < count → (tags ++ tag ∷ []) ++ replicate (count - length (tags ++ tag ∷ [])) tag ≡ tags ++ replicate (count - length tags) tag
one_tag tags tag count less =
    let long : length (tags ++ tag ∷ []) ≡ suc (length tags) = length-append tags (tag ∷ []) ∙ add-one (length tags) in
    let more : count - length tags ≡ suc (count - suc (length tags)) = omega arith in
    rw (long, more) (append_assoc tags (tag ∷ []) (replicate (count - suc (length tags)) tag))

pub all_tags : (tags : List Opened) (tag : Opened) (count : ℕ) → count ≤ length tags → tags ++ replicate (count - length tags) tag ≡ tags
all_tags tags tag count most = let none : count - length tags ≡ 0 = omega arith in rw none (append-nil tags)
