-- Guards that are asked for, and a compound below another, of which no guard is made.
use Rattle.std.proofs.Common.{◌≡◌, ℕ, ◌+◌, ◌<◌, List, [], ◌∷◌, ◌++◌, length, map, take, Result, Ok, Err, IfOk, refl, sym, ap, ◌∙◌, subst, append_assoc}
use Rattle.std.specs.Prelude.{get_or}
use Rattle.std.proofs.lemmas.List.{map-append, take_more}
use Rattle.sel_text.specs.Selectors.{Join, child as to_parent, inside}
use Rattle.sel_text.specs.declared.selectors.Compound.{Compound}
use Rattle.sel_text.specs.declared.selectors.Join as code
use Rattle.sel_text.specs.Parts.{join_of, selector_from}
use Rattle.guard_sem.specs.Guards.{Guard, always, no_guards, guards_of, both}
use Rattle.guard_sem.specs.OfSelectors.{of_compound, of_join, of_selector}
use Rattle.guard_simplify.specs.declared.asked.Asked.{Asked}
use Rattle.guard_simplify.specs.declared.keys.Key.{Key}
use Rattle.guard_simplify.specs.declared.keys.Shape.{Shape}
use Rattle.guard_simplify.specs.declared.keys.Shape.TheVariants.{All}
use Rattle.guard_simplify.specs.Asked.{asked_of}
use Rattle.guard_simplify.specs.Numbered.{shape_of, IsEntered, IsNumbered, AreNumbered}
use Rattle.guard_simplify.proofs.NumberedLemmas.{numbered_push, number_parent, number_ancestor, number_all}

module _ (n : ℕ) where
  number_join : (old mid new : List Key) (j : Join) (g : Guard) (a b : ℕ) → IsNumbered n old mid g a → IsEntered n mid new (shape_of (of_join j always)) (a ∷ []) b → IsNumbered n old new (of_join j g) b
  number_join old mid new to_parent g a b part enter = number_parent n old mid new g a b part enter
  number_join old mid new inside g a b part enter = number_ancestor n old mid new g a b part enter

  number_pair : (old first second third new : List Key) (g h : Guard) (j : Join) (a b c d : ℕ) → IsNumbered n old first g a → IsNumbered n first second h b → IsEntered n second third (shape_of (of_join j always)) (b ∷ []) c
      → IsEntered n third new All (a ∷ c ∷ []) d → IsNumbered n old new (both g (of_join j h)) d
  number_pair old first second third new g h j a b c d own over up last =
      let none : AreNumbered n old old no_guards [] = λ fs table o. (table, refl, tt) in
      let one = numbered_push n old old first [] [] g a none own in
      let two = numbered_push n old first third (g ∷ []) (a ∷ []) (of_join j h) c one (number_join first second third j h b c over up) in
      number_all n old third new (guards_of (g ∷ of_join j h ∷ [])) (a ∷ c ∷ []) d two last

  pub ok_pair : {E : Type 0} (old first second third new : List Key) (g h : Guard) (j : Join) (a b c : ℕ) (shape : Shape) (r : Result ℕ E)
      → IsNumbered n old first g a → IsNumbered n first second h b → shape ≡ shape_of (of_join j always) → IsEntered n second third shape (b ∷ []) c
      → IfOk r (λ d. IsEntered n third new All (a ∷ c ∷ []) d) → IfOk r (λ d. IsNumbered n old new (both g (of_join j h)) d)
  ok_pair old first second third new g h j a b c shape (Ok d) own over kind up last =
      number_pair old first second third new g h j a b c d own over (subst (λ z. IsEntered n second third z (b ∷ []) c) kind up) last
  ok_pair old first second third new g h j a b c shape (Err e) own over kind up last = tt

-- the guard of a selector of two compounds
pub pair_guard : (parts : List Compound) (joins : List code.Join) (above part : Compound) (j : code.Join) → parts ≡ above ∷ part ∷ [] → joins ≡ j ∷ []
    → both (of_compound part.atoms) (of_join (join_of j) (of_compound above.atoms)) ≡ of_selector (selector_from parts joins)
pair_guard parts joins above part j compounds between =
    subst (λ z. both (of_compound part.atoms) (of_join (join_of j) (of_compound above.atoms)) ≡ of_selector (selector_from z joins)) (sym compounds)
    (subst (λ z. both (of_compound part.atoms) (of_join (join_of j) (of_compound above.atoms)) ≡ of_selector (selector_from (above ∷ part ∷ []) z)) (sym between) refl)

-- one more guard
pub asked_numbered : (n : ℕ) (old mid new : List Key) (guards : List Asked) (i : ℕ) (x : Asked) (numbers pushed : List ℕ) (a : ℕ) → AreNumbered n old mid (guards_of (map asked_of (take i guards))) numbers → IsNumbered n mid new (asked_of x) a
    → x ≡ get_or guards i x → i < length guards → pushed ≡ numbers ++ a ∷ [] → AreNumbered n old new (guards_of (map asked_of (take (i + 1) guards))) pushed
asked_numbered n old mid new guards i x numbers pushed a listed one at less last =
    let next : take (i + 1) guards ≡ take i guards ++ x ∷ [] = take_more guards i x less ∙ ap (λ z. take i guards ++ z ∷ []) (sym at) in
    let whole : map asked_of (take (i + 1) guards) ≡ map asked_of (take i guards) ++ asked_of x ∷ [] = ap (map asked_of) next ∙ map-append asked_of (take i guards) (x ∷ []) in
    let grown = numbered_push n old mid new (map asked_of (take i guards)) numbers (asked_of x) a listed one in
    subst (λ z. AreNumbered n old new (guards_of z) pushed) (sym whole) (subst (λ z. AreNumbered n old new (guards_of (map asked_of (take i guards) ++ asked_of x ∷ [])) z) (sym last) grown)

-- one guard more that is asked for, behind those of a front
pub asked_pushed : (front guards : List Guard) (i : ℕ) (g : Guard) (old new : List Asked) (x : Asked) → map asked_of old ≡ front ++ take i guards → new ≡ old ++ x ∷ [] → asked_of x ≡ g → g ≡ get_or guards i g → i < length guards
    → map asked_of new ≡ front ++ take (i + 1) guards
asked_pushed front guards i g old new x before last is at less =
    let next : take (i + 1) guards ≡ take i guards ++ g ∷ [] = take_more guards i g less ∙ ap (λ z. take i guards ++ z ∷ []) (sym at) in
    ap (map asked_of) last ∙ map-append asked_of old (x ∷ [])
    ∙ ap (λ z. z ++ asked_of x ∷ []) before ∙ append_assoc front (take i guards) (asked_of x ∷ [])
    ∙ ap (λ z. front ++ (take i guards ++ z ∷ [])) is ∙ ap (λ z. front ++ z) (sym next)
