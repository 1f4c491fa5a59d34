-- Selectors of a list, one after the other.
use Rattle.std.proofs.Common.{◌≡◌, ℕ, zero, suc, ◌-◌, List, [], ◌∷◌, ◌++◌, length, drop, Ok, Err, refl, arith, append-nil, append_assoc}
use Rattle.tp_base.specs.Names.{Named}
use Rattle.text_bytes.specs.Rests.{IsRest}
use Rattle.sel_text.specs.declared.faults.SelFault.{SelFault}
use Rattle.sel_text.specs.Selectors.{Selector}
use Rattle.sel_text.specs.Reading.{Ending, then_read}
use Rattle.sel_text.specs.Lists.{from_comma, first_piece, more_pieces, pieces, read_one, read_pieces, read_strict_list}

abbrev and_others : List Selector → Ending (List Selector) → Ending (List Selector)
and_others found e = then_read e (λ last others. (last, Ok (found ++ others)))

-- the selectors that were found, and one behind each comma
unfoldable pub more : ℕ → List Selector → List Named → List ℕ → Ending (List Selector)
more size found names bs = and_others found (read_pieces (more_pieces size 0 bs) names)

skips : (size n : ℕ) (bs : List ℕ) → more_pieces size n bs ≡ more_pieces size 0 (drop n bs)
unfolding more_pieces
skips size zero bs = refl
skips size (suc n) [] = refl
skips size (suc n) (b ∷ bs) = skips size n bs

one_found : (found : List Selector) (s : Selector) (e : Ending (List Selector)) → and_others found (then_read e (λ last others. (last, Ok (s ∷ others)))) ≡ and_others (found ++ s ∷ []) e
one_found found s (names, Ok others) = rw (append_assoc found (s ∷ []) others) refl
one_found found s (names, Err e) = refl

pub goes_on : (size : ℕ) (found : List Selector) (names later : List Named) (b : ℕ) (bs rest : List ℕ) (s : Selector)
    → read_one (first_piece size bs) names ≡ (later, Ok s) → rest ≡ from_comma 0 bs → IsRest bs rest
    → more size found names (b ∷ bs) ≡ more size (found ++ s ∷ []) later rest
unfolding more more_pieces read_pieces
goes_on size found names later b bs rest s is at last =
    rw (is, ← at, skips size (length bs - length rest) bs, last.last) (one_found found s (read_pieces (more_pieces size 0 rest) later))

pub fails : (size : ℕ) (found : List Selector) (names later : List Named) (b : ℕ) (bs : List ℕ) (e : SelFault)
    → read_one (first_piece size bs) names ≡ (later, Err e) → more size found names (b ∷ bs) ≡ (later, Err e)
unfolding more more_pieces read_pieces
fails size found names later b bs e is = rw is refl

pub ends : (size : ℕ) (found : List Selector) (names : List Named) (bs : List ℕ) → length bs ≡ 0 → more size found names bs ≡ (names, Ok found)
unfolding more more_pieces read_pieces
ends size found names [] none = rw (append-nil found) refl
ends size found names (b ∷ bs) none = absurd (omega arith)

pub begins : (text rest : List ℕ) (names later : List Named) (s : Selector)
    → read_one (first_piece (length text) text) names ≡ (later, Ok s) → rest ≡ from_comma 0 text → read_strict_list text names ≡ more (length text) (s ∷ []) later rest
unfolding read_strict_list pieces read_pieces more
begins text rest names later s is at = rw (is, at) refl

pub first_fails : (text : List ℕ) (names later : List Named) (e : SelFault) → read_one (first_piece (length text) text) names ≡ (later, Err e) → read_strict_list text names ≡ (later, Err e)
unfolding read_strict_list pieces read_pieces
first_fails text names later e is = rw is refl
