-- What bytes written one after another come to, and when a count rose over several calls.
use Rattle.std.proofs.Common.{◌≡◌, ℕ, ◌+◌, ◌<◌, ◌≤◌, inl, inr, List, [], ◌++◌, take, drop, length, Option, None, Some, option_map, refl, ap, subst, sym, ◌∙◌, append_assoc, length-append, arith, Result, Ok, Err, OnErr}
use Rattle.std.proofs.lemmas.List.{append-nil, take-append-drop}
use Rattle.std.proofs.Math.Seq.{take-append_seam, take-append-add}
use Rattle.tp_io.specs.Sinks.{Adds, AddsPrefix, Rose}

-- nothing was written
pub adds_nothing : (old : Option (List ℕ)) → Adds old old []
adds_nothing None = refl
adds_nothing (Some xs) = ap Some (sym (append-nil xs))

-- one write after another
pub adds_more : (old mid new : Option (List ℕ)) (xs ys : List ℕ) → Adds old mid xs → Adds mid new ys → Adds old new (xs ++ ys)
adds_more None mid new xs ys first second = second ∙ ap (option_map (λ w. w ++ ys)) first
adds_more (Some w) mid new xs ys first second =
    second ∙ ap (option_map (λ v. v ++ ys)) first ∙ ap Some (append_assoc w xs ys)

-- a write that was cut off, after a whole one
pub adds_prefix_more : (old mid new : Option (List ℕ)) (xs ys : List ℕ) → Adds old mid xs → AddsPrefix mid new ys → AddsPrefix old new (xs ++ ys)
adds_prefix_more old mid new xs ys first second =
    (length xs + second.0, rw (take-append-add xs ys second.0) (adds_more old mid new xs (take second.0 ys) first second.1))

-- what is written of a text's beginning is written of the text
pub adds_prefix_of : (old new : Option (List ℕ)) (xs ys : List ℕ) → Adds old new xs → AddsPrefix old new (xs ++ ys)
adds_prefix_of old new xs ys whole = (length xs, rw (take-append_seam xs ys) whole)

-- a count that rose in the second of two calls, or in the first, rose in both
pub rose_later : (old mid new : ℕ) → old ≤ mid → Rose mid new → Rose old new
rose_later old mid new first (inl more) = inl (omega arith)
rose_later old mid new first (inr most) = inr most

pub rose_before : (old mid new : ℕ) → Rose old mid → mid ≤ new → Rose old new
rose_before old mid new (inl more) second = inl (omega arith)
rose_before old mid new (inr most) second = inr (omega arith)

-- part of the piece is out, and then a prefix of the rest
pub cut_off : (old mid new : Option (List ℕ)) (part rest piece : List ℕ) → part ++ rest ≡ piece → Adds old mid part → AddsPrefix mid new rest → AddsPrefix old new piece
cut_off old mid new part rest piece parts first second =
    let P : List ℕ → Type 0 = λ xs. AddsPrefix old new xs in
    subst P parts (adds_prefix_more old mid new part rest first second)

-- the part that is out is longer by what a put took of the rest
pub goes_on : (part rest piece : List ℕ) (count : ℕ) → part ++ rest ≡ piece → (part ++ take count rest) ++ drop count rest ≡ piece
goes_on part rest piece count parts = rw (append_assoc, take-append-drop count rest) parts

-- nothing of it is out
pub none_out : (old new : Option (List ℕ)) (piece : List ℕ) → new ≡ old → AddsPrefix old new piece
none_out old new piece same = (0, same ∙ adds_nothing old)

-- where some of the piece is left, it isn't empty
pub some_left : (part rest piece : List ℕ) → part ++ rest ≡ piece → 0 < length rest → piece ≡ [] → ⊥
some_left part rest piece parts left empty =
    omega (arith, length-append part rest, ap length parts, ap length empty)

pub on_err : {T E : Type 0} (r : Result T E) (P : Type 0) → P → OnErr r P
on_err (Ok x) P p = tt
on_err (Err e) P p = p
