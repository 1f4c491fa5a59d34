-- No raw element is one that holds nothing.
use Rattle.std.proofs.Common.{◌≡◌, ℕ, Bool, true, false, if◌then◌else◌, List, [], ◌∷◌, refl, sym, ap, ◌∙◌}
use Rattle.std.specs.Str.{bytes_eq}
use Rattle.tp_base.proofs.Lists.{same_bytes}
use Rattle.html_tokens.specs.Names.{is_among, raw_names, is_raw}
use Rattle.html_tokens.specs.Words.{words_from}
use Rattle.html_table.specs.declared.elements.Kind.{Kind}
use Rattle.html_table.specs.Elements.{named_kinds, kind_of, is_void}

abbrev NoneVoid : List (List ℕ) → Type 0
NoneVoid [] = Unit {0}
NoneVoid (n ∷ ns) = (is_void (kind_of n) ≡ false) × NoneVoid ns

other_name : (n q : List ℕ) (rest : Bool) → is_void (kind_of n) ≡ false → is_void (kind_of q) ≡ true → (b : Bool) → bytes_eq n q ≡ b → rest ≡ false → (if b then true else rest) ≡ false
other_name n q rest opens void true same none =
    let one : n ≡ q = same_bytes n q same in
    let wrong : true ≡ false = sym void ∙ ap (λ x. is_void (kind_of x)) (sym one) ∙ opens in
    absurd cc
other_name n q rest opens void false other none = none

not_among : (names : List (List ℕ)) (q : List ℕ) → NoneVoid names → is_void (kind_of q) ≡ true → is_among names q ≡ false
not_among [] q none void = refl
not_among (n ∷ ns) q none void = other_name n q (is_among ns q) none.0 void (bytes_eq n q) refl (not_among ns q none.1 void)

raw_not_void : NoneVoid raw_names
unfolding kind_of named_kinds words_from
raw_not_void = (refl, (refl, (refl, (refl, (refl, (refl, (refl, (refl, (refl, tt)))))))))

pub void_not_raw : (q : List ℕ) (k : Kind) → k ≡ kind_of q → is_void k ≡ true → false ≡ is_raw q
unfolding is_raw
void_not_raw q k is void = sym (not_among raw_names q raw_not_void (ap is_void (sym is) ∙ void))
