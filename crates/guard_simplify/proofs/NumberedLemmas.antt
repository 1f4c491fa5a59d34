-- Numbering formulas by their keys: what one step and what lists of steps give.
use Rattle.std.proofs.Common.{rules, ◌≡◌, ℕ, suc, ◌+◌, Bool, true, false, not, List, [], ◌∷◌, ◌++◌, length, map, Contains, Result, Ok, Err, IfOk, refl, sym, ap, ◌∙◌, subst, inl, inr, arith, append_assoc, append-nil}
use Rattle.std.specs.List.{list_any, position_or_len}
use Rattle.std.specs.Str.{bytes_eq}
use Rattle.std.specs.Cmp.Derive.{both_true}
use Rattle.std.proofs.lemmas.Bool.{cases_Bool, and_parts, false_from_ne_true}
use Rattle.std.proofs.lemmas.Slice.Eq.{bytes_eq-Decides}
use Rattle.std.proofs.lemmas.List.{map-append}
use Rattle.std.proofs.lemmas.List.Elements.{Contains-push_cases}
use Rattle.indexmap.specs.IndexSet.{insert_key}
use denote.Enum.Bare.{sameb, same_true, true_same}
use Rattle.guard_sem.specs.Guards.{Guard, always, atom, all, any, parent, ancestor, child, descendant, somewhere, at_or_below, Guards, guards_of, parts, same_guard}
use Rattle.guard_sem.proofs.SameGuards.{same_guard-sound, same_guard-itself}
use Rattle.guard_simplify.specs.contracts.keys.KeyPartialEq as its
use Rattle.guard_simplify.specs.declared.keys.Key.{Key}
use Rattle.guard_simplify.specs.declared.keys.Shape.TheVariants.{Always, All, Any, Parent, Ancestor, Child, Descendant, Somewhere}
use Rattle.guard_simplify.specs.contracts.keys.Shape.{the_type}
use Rattle.guard_simplify.specs.Auxiliaries.{formulas_of, formulas_in}
use Rattle.guard_simplify.specs.Law.{IsOver, AreOver}
use Rattle.guard_simplify.specs.Firsts.{is_among, with_new, place_of}
use Rattle.guard_simplify.specs.Keys.{atom_in, HasNumber, HaveNumbers, PartsHaveNumbers}
use Rattle.guard_simplify.specs.Numbered.{Kept, stored, shape_of, parts_of, kept_of, IsFormula, IsTable, IsEntered, IsNumbered, IsNumberedAtOrBelow, AreNumbered, with_all}
use Rattle.guard_simplify.proofs.Keyed.{one_number, one_list, still, parts_still, number_still, numbers_still, still_all}
use Rattle.guard_simplify.proofs.Numbering.{place_new}
use Rattle.guard_simplify.proofs.NumberLemmas.{with_new-there, Contains-among, Contains-folded_list}
use Rattle.tp_base.proofs.Rising.{Contains-here, Contains-behind}

-- the derived `==`
abbrev pub key_eq : Key → Key → Bool
key_eq = its.TheImpl.eq-value.it

pub key_eq-sound : (k l : Key) → key_eq k l ≡ true → stored k ≡ stored l
key_eq-sound k l h =
    let parts = and_parts (sameb the_type k.shape l.shape) (bytes_eq k.parts.items l.parts.items) h in
    let shape = same_true the_type (search rules) k.shape l.shape parts.0 in
    let numbers = (bytes_eq-Decides k.parts.items l.parts.items).0 parts.1 in
    λ i. (shape i, numbers i)

pub key_eq-complete : (k l : Key) → stored k ≡ stored l → key_eq k l ≡ true
key_eq-complete k l e =
    both_true (true_same the_type k.shape l.shape (ap (λ (x : Kept). x.0) e)) ((bytes_eq-Decides k.parts.items l.parts.items).1 (ap (λ (x : Kept). x.1) e))

-- the place of what isn't there
pub place_absent : {X : Type 0} (same : X → X → Bool) (xs : List X) (x : X) → is_among same x xs ≡ false → place_of same x xs ≡ length xs
place_absent same [] x none = refl
place_absent same (y ∷ xs) x none = elim (cases_Bool (same x y)) [
  | inl here ↦ let none' = rw here at none in absurd (cc)
  | inr other ↦ rw other (ap suc (place_absent same xs x (rw other at none)))
]

module _ (n : ℕ) (fs : List Guard) where
  abbrev at : Guard → ℕ
  at g = atom_in n fs g

  one_part : (g h : Guard) → HasNumber n fs g → HasNumber n fs h → map at (g ∷ []) ≡ map at (h ∷ []) → g ≡ h
  one_part g h k k' same = let one : at g ≡ at h = cc in one_number n fs g h k k' one

  -- formulas with one key are one formula
  one_kept : (g h : Guard) → PartsHaveNumbers n fs g → PartsHaveNumbers n fs h → IsFormula g → IsFormula h → shape_of g ≡ shape_of h → map at (parts_of g) ≡ map at (parts_of h) → g ≡ h
  one_kept (atom a) h k k' f f' shape same = absurd (f a refl)
  one_kept g (atom a) k k' f f' shape same = absurd (f' a refl)
  one_kept always always k k' f f' shape same = refl
  one_kept (all gs) (all hs) k k' f f' shape same = ap all (one_list n fs gs hs k k' same)
  one_kept (any gs) (any hs) k k' f f' shape same = ap any (one_list n fs gs hs k k' same)
  one_kept (parent g) (parent h) k k' f f' shape same = ap parent (one_part g h k k' same)
  one_kept (ancestor g) (ancestor h) k k' f f' shape same = ap ancestor (one_part g h k k' same)
  one_kept (child g) (child h) k k' f f' shape same = ap child (one_part g h k k' same)
  one_kept (descendant g) (descendant h) k k' f f' shape same = ap descendant (one_part g h k k' same)
  one_kept (somewhere g) (somewhere h) k k' f f' shape same = ap somewhere (one_part g h k k' same)
  one_kept g h k k' f f' shape same = cc

  module _ (g : Guard) (k : Key) (numbered : PartsHaveNumbers n fs g) (formula : IsFormula g) (is : stored k ≡ kept_of at g) where
    same_test : (f : Guard) (l : Key) → PartsHaveNumbers n fs f → IsFormula f → stored l ≡ kept_of at f → key_eq k l ≡ same_guard g f
    same_test f l numbered' formula' is' = elim (cases_Bool (key_eq k l)) [
      | inl yes' ↦
          let keys : kept_of at g ≡ kept_of at f = sym is ∙ key_eq-sound k l yes' ∙ is' in
          let one = one_kept g f numbered numbered' formula formula' (ap (λ (x : Kept). x.0) keys) (ap (λ (x : Kept). x.1) keys) in
          yes' ∙ sym (same_guard-itself g) ∙ ap (same_guard g) one
      | inr no' ↦ no' ∙ sym (false_from_ne_true (same_guard g f) (λ same.
          let one : g ≡ f = same_guard-sound g f same in
          let yes' : key_eq k l ≡ true = key_eq-complete k l (is ∙ ap (kept_of at) one ∙ sym is') in
          absurd (cc)))
    ]

    -- the searches of the keys and of the formulas
    search_any : (fs' : List Guard) (ks : List Key) → ((f : Guard) → Contains fs' f → PartsHaveNumbers n fs f) → ((f : Guard) → Contains fs' f → IsFormula f) → map stored ks ≡ map (kept_of at) fs'
        → (list_any (key_eq k) ks ≡ is_among same_guard g fs') × (position_or_len (key_eq k) ks ≡ place_of same_guard g fs')
    search_any [] [] closed formulas are = (refl, refl)
    search_any [] (l ∷ ks) closed formulas are = cc
    search_any (f ∷ fs') [] closed formulas are = cc
    search_any (f ∷ fs') (l ∷ ks) closed formulas are =
        let first : stored l ≡ kept_of at f = cc in
        let later : map stored ks ≡ map (kept_of at) fs' = cc in
        let test = same_test f l (closed f (Contains-here f f fs' refl)) (formulas f (Contains-here f f fs' refl)) first in
        let rest = search_any fs' ks (λ x there. closed x (Contains-behind x f fs' there)) (λ x there. formulas x (Contains-behind x f fs' there)) later in
        elim (cases_Bool (same_guard g f)) [
          | inl yes' ↦ (rw (test, yes') refl, rw (test, yes') refl)
          | inr no' ↦ let place = rest.1 in (rw (test, no') rest.0, rw (test, no') (omega (arith, place)))
        ]

-- more formulas leave the keys
kept_still : (n : ℕ) (fs more : List Guard) (f : Guard) → PartsHaveNumbers n fs f → kept_of (atom_in n (fs ++ more)) f ≡ kept_of (atom_in n fs) f
kept_still n fs more always h = refl
kept_still n fs more (atom a) h = refl
kept_still n fs more (all gs) h = let same = numbers_still n fs more gs h in λ i. (shape_of (all gs), same i)
kept_still n fs more (any gs) h = let same = numbers_still n fs more gs h in λ i. (shape_of (any gs), same i)
kept_still n fs more (parent g) h = let same = number_still n fs more g h in λ i. (shape_of (parent g), same i ∷ [])
kept_still n fs more (ancestor g) h = let same = number_still n fs more g h in λ i. (shape_of (ancestor g), same i ∷ [])
kept_still n fs more (child g) h = let same = number_still n fs more g h in λ i. (shape_of (child g), same i ∷ [])
kept_still n fs more (descendant g) h = let same = number_still n fs more g h in λ i. (shape_of (descendant g), same i ∷ [])
kept_still n fs more (somewhere g) h = let same = number_still n fs more g h in λ i. (shape_of (somewhere g), same i ∷ [])

all_kept_still : (n : ℕ) (fs more gs : List Guard) → ((f : Guard) → Contains gs f → PartsHaveNumbers n fs f) → map (kept_of (atom_in n (fs ++ more))) gs ≡ map (kept_of (atom_in n fs)) gs
all_kept_still n fs more [] closed = refl
all_kept_still n fs more (g ∷ gs) closed =
    let first = kept_still n fs more g (closed g (Contains-here g g gs refl)) in
    let rest = all_kept_still n fs more gs (λ f is. closed f (Contains-behind f g gs is)) in
    λ i. first i ∷ rest i

-- one formula more
table_push : (n : ℕ) (fs : List Guard) (ks : List Key) (g : Guard) (k : Key) → IsTable n fs ks → PartsHaveNumbers n fs g → IsFormula g → stored k ≡ kept_of (atom_in n fs) g → IsTable n (fs ++ g ∷ []) (ks ++ k ∷ [])
table_push n fs ks g k table numbered formula is = record {
  closed = λ f there. elim (Contains-push_cases fs g f there) [
    | inl old ↦ parts_still n fs (g ∷ []) f (table.closed f old)
    | inr new ↦ subst (PartsHaveNumbers n (fs ++ g ∷ [])) new (parts_still n fs (g ∷ []) g numbered)
  ];
  formulas = λ f there. elim (Contains-push_cases fs g f there) [
    | inl old ↦ table.formulas f old
    | inr new ↦ subst IsFormula new formula
  ];
  are =
      map-append stored ks (k ∷ [])
      ∙ ap (λ z. z ++ stored k ∷ []) (table.are ∙ sym (all_kept_still n fs (g ∷ []) fs table.closed))
      ∙ ap (λ z. map (kept_of (atom_in n (fs ++ g ∷ []))) fs ++ z ∷ []) (is ∙ sym (kept_still n fs (g ∷ []) g numbered))
      ∙ sym (map-append (kept_of (atom_in n (fs ++ g ∷ []))) fs (g ∷ []));
}

position_last : (p : Key → Bool) (ks : List Key) → list_any p ks ≡ false → position_or_len p ks ≡ length ks
position_last p [] none = refl
position_last p (k ∷ ks) none = elim (cases_Bool (p k)) [
  | inl yes' ↦ let on : list_any p (k ∷ ks) ≡ true = rw yes' refl in cc
  | inr no' ↦
      let rest = position_last p ks (rw no' at none) in
      rw no' (omega (arith, rest))
]

not_on : (b : Bool) → true ≡ not b → b ≡ false
not_on true on = cc
not_on false on = refl

-- a new key goes last
pub goes_last : (k : Key) (ks : List Key) (is_new : Bool) → is_new ≡ not (list_any (key_eq k) ks) → is_new ≡ true → position_or_len (key_eq k) ks ≡ length ks
goes_last k ks is_new is on = position_last (key_eq k) ks (not_on (list_any (key_eq k) ks) (sym on ∙ is))

pub entered : (n : ℕ) (ks : List Key) (k : Key) (place : ℕ) → place ≡ position_or_len (key_eq k) ks → IsEntered n ks (insert_key key_eq ks k) k.shape k.parts.items (n + place)
entered n ks k place at fs g table numbered formula shape numbers =
    let is : stored k ≡ kept_of (atom_in n fs) g = λ i. (shape i, numbers i) in
    let found = search_any n fs g k numbered formula is fs ks table.closed table.formulas table.are in
    elim (cases_Bool (is_among same_guard g fs)) [
      | inl yes' ↦ (
        rw (found.0, yes') table,
        rw yes' (ap (λ z. n + z) (at ∙ found.1)),
        with_new-there same_guard same_guard-sound same_guard-itself fs g,
      )
      | inr no' ↦ (
        rw (found.0, no') (table_push n fs ks g k table numbered formula is),
        rw no' (ap (λ z. n + z) (at ∙ found.1 ∙ place_absent same_guard fs g no' ∙ sym (place_new same_guard same_guard-sound same_guard-itself fs g no'))),
        with_new-there same_guard same_guard-sound same_guard-itself fs g,
      )
    ]

-- lists of formulas that come one after another
pub with_all-append : (fs xs ys : List Guard) → with_all fs (xs ++ ys) ≡ with_all (with_all fs xs) ys
with_all-append fs [] ys = refl
with_all-append fs (x ∷ xs) ys = with_all-append (with_new same_guard fs x) xs ys

pub grown : (fs xs : List Guard) → (more : List Guard) × (with_all fs xs ≡ fs ++ more)
grown fs [] = ([], sym (append-nil fs))
grown fs (x ∷ xs) = elim (cases_Bool (is_among same_guard x fs)) [
  | inl yes' ↦ let rest = grown fs xs in (rest.0, ap (λ z. with_all z xs) (rw yes' refl) ∙ rest.1)
  | inr no' ↦ let rest = grown (fs ++ x ∷ []) xs in (x ∷ rest.0, ap (λ z. with_all z xs) (rw no' refl) ∙ rest.1 ∙ append_assoc fs (x ∷ []) rest.0)
]

module _ (n : ℕ) (old mid new : List Key) where
  pub number_always : (a : ℕ) → IsEntered n old new Always [] a → IsNumbered n old new always a
  number_always a enter fs table over = enter fs always table tt (λ b e. cc) refl refl

  module _ (g : Guard) (a b : ℕ) (part : IsNumbered n old mid g a) where
    over_one : (f : Guard) (fs : List Guard) → formulas_of f ≡ formulas_of g ++ f ∷ [] → atom_in n (with_new same_guard (with_all fs (formulas_of g)) f) f ≡ n + place_of same_guard f (with_new same_guard (with_all fs (formulas_of g)) f)
        → (Contains (with_new same_guard (with_all fs (formulas_of g)) f) f → HasNumber n (with_new same_guard (with_all fs (formulas_of g)) f) f)
        → IsTable n (with_new same_guard (with_all fs (formulas_of g)) f) new × (b ≡ n + place_of same_guard f (with_new same_guard (with_all fs (formulas_of g)) f)) × Contains (with_new same_guard (with_all fs (formulas_of g)) f) f
        → IsTable n (with_all fs (formulas_of f)) new × (b ≡ atom_in n (with_all fs (formulas_of f)) f) × HasNumber n (with_all fs (formulas_of f)) f
    over_one f fs order place has is =
        subst (λ z. IsTable n z new × (b ≡ atom_in n z f) × HasNumber n z f) (sym (ap (with_all fs) order ∙ with_all-append fs (formulas_of g) (f ∷ []))) (is.0, is.1 ∙ sym place, has is.2)

    pub number_parent : IsEntered n mid new Parent (a ∷ []) b → IsNumbered n old new (parent g) b
    number_parent enter fs table over = let inner = part fs table over in over_one (parent g) fs refl refl (λ z. z) (enter (with_all fs (formulas_of g)) (parent g) inner.0 inner.2 (λ c e. cc) refl (ap (λ z. z ∷ []) inner.1))

    pub number_ancestor : IsEntered n mid new Ancestor (a ∷ []) b → IsNumbered n old new (ancestor g) b
    number_ancestor enter fs table over = let inner = part fs table over in over_one (ancestor g) fs refl refl (λ z. z) (enter (with_all fs (formulas_of g)) (ancestor g) inner.0 inner.2 (λ c e. cc) refl (ap (λ z. z ∷ []) inner.1))

    pub number_child : IsEntered n mid new Child (a ∷ []) b → IsNumbered n old new (child g) b
    number_child enter fs table over = let inner = part fs table over in over_one (child g) fs refl refl (λ z. z) (enter (with_all fs (formulas_of g)) (child g) inner.0 inner.2 (λ c e. cc) refl (ap (λ z. z ∷ []) inner.1))

    pub number_descendant : IsEntered n mid new Descendant (a ∷ []) b → IsNumbered n old new (descendant g) b
    number_descendant enter fs table over = let inner = part fs table over in over_one (descendant g) fs refl refl (λ z. z) (enter (with_all fs (formulas_of g)) (descendant g) inner.0 inner.2 (λ c e. cc) refl (ap (λ z. z ∷ []) inner.1))

    pub number_somewhere : IsEntered n mid new Somewhere (a ∷ []) b → IsNumbered n old new (somewhere g) b
    number_somewhere enter fs table over = let inner = part fs table over in over_one (somewhere g) fs refl refl (λ z. z) (enter (with_all fs (formulas_of g)) (somewhere g) inner.0 inner.2 (λ c e. cc) refl (ap (λ z. z ∷ []) inner.1))

  module _ (gs : Guards) (numbers : List ℕ) (b : ℕ) (listed : AreNumbered n old mid gs numbers) where
    pub number_all : IsEntered n mid new All numbers b → IsNumbered n old new (all gs) b
    number_all enter fs table over =
        let inner = listed fs table over in
        subst (λ z. IsTable n z new × (b ≡ atom_in n z (all gs)) × HasNumber n z (all gs)) (sym (with_all-append fs (formulas_in gs) (all gs ∷ [])))
        (enter (with_all fs (formulas_in gs)) (all gs) inner.0 inner.2 (λ c e. cc) refl inner.1)

    pub number_any : IsEntered n mid new Any numbers b → IsNumbered n old new (any gs) b
    number_any enter fs table over =
        let inner = listed fs table over in
        subst (λ z. IsTable n z new × (b ≡ atom_in n z (any gs)) × HasNumber n z (any gs)) (sym (with_all-append fs (formulas_in gs) (any gs ∷ [])))
        (enter (with_all fs (formulas_in gs)) (any gs) inner.0 inner.2 (λ c e. cc) refl inner.1)

-- formulas that are there already
pub with_all-there : (fs xs : List Guard) → ((x : Guard) → Contains xs x → Contains fs x) → with_all fs xs ≡ fs
with_all-there fs [] there = refl
with_all-there fs (x ∷ xs) there =
    ap (λ z. with_all z xs) (rw (Contains-among same_guard same_guard-sound same_guard-itself x fs (there x (Contains-here x x xs refl))) refl) ∙ with_all-there fs xs (λ y is. there y (Contains-behind y x xs is))

with_all-again : (fs xs : List Guard) → with_all (with_all fs xs) xs ≡ with_all fs xs
with_all-again fs xs = with_all-there (with_all fs xs) xs (λ x is. Contains-folded_list same_guard same_guard-sound same_guard-itself xs fs x is)

-- a guard at a node or below it
module _ (n : ℕ) (old mid new : List Key) where
  enter_at_or_below : (a b c : ℕ) → IsEntered n old mid Descendant (a ∷ []) b → IsEntered n mid new Any (a ∷ b ∷ []) c → IsNumberedAtOrBelow n old new a c
  enter_at_or_below a b c first second fs g table has is =
      let X = with_new same_guard fs (descendant g) in
      let below = first fs (descendant g) table has (λ d e. cc) refl (ap (λ z. z ∷ []) is) in
      let more = grown fs (descendant g ∷ []) in
      let kept : HasNumber n X g = subst (λ z. HasNumber n z g) (sym more.1) (still n fs more.0 g has) in
      let same : atom_in n X g ≡ atom_in n fs g = ap (λ z. atom_in n z g) more.1 ∙ number_still n fs more.0 g has in
      let list : a ∷ b ∷ [] ≡ map (atom_in n X) (g ∷ descendant g ∷ []) = ap (λ z. z ∷ b ∷ []) (is ∙ sym same) ∙ ap (λ z. atom_in n X g ∷ z ∷ []) below.1 in
      second X (at_or_below g) below.0 (kept, (below.2, tt)) (λ d e. cc) refl list

  pub entered_at_or_below : {E : Type 0} (a b : ℕ) (r : Result ℕ E) → IsEntered n old mid Descendant (a ∷ []) b → IfOk r (λ c. IsEntered n mid new Any (a ∷ b ∷ []) c) → IfOk r (λ c. IsNumberedAtOrBelow n old new a c)
  entered_at_or_below a b (Ok c) first second = enter_at_or_below a b c first second
  entered_at_or_below a b (Err e) first second = tt

  pub number_at_or_below : (g : Guard) (a b : ℕ) → IsNumbered n old mid g a → IsNumberedAtOrBelow n mid new a b → IsNumbered n old new (at_or_below g) b
  number_at_or_below g a b part enter fs table over =
      let X = with_all fs (formulas_of g) in
      let inner = part fs table over.0 in
      let order : with_all fs (formulas_of (at_or_below g)) ≡ with_all X (descendant g ∷ at_or_below g ∷ []) =
      with_all-append fs (formulas_of g ++ ((formulas_of g ++ descendant g ∷ []) ++ [])) (at_or_below g ∷ [])
      ∙ ap (λ z. with_new same_guard z (at_or_below g))
      (with_all-append fs (formulas_of g) ((formulas_of g ++ descendant g ∷ []) ++ [])
      ∙ ap (with_all X) (append-nil (formulas_of g ++ descendant g ∷ []))
      ∙ with_all-append X (formulas_of g) (descendant g ∷ [])
      ∙ ap (λ z. with_new same_guard z (descendant g)) (with_all-again fs (formulas_of g))) in
      subst (λ z. IsTable n z new × (b ≡ atom_in n z (at_or_below g)) × HasNumber n z (at_or_below g)) (sym order) (enter X g inner.0 inner.2 inner.1)

-- lists of guards
formulas_in-push : (gs : List Guard) (g : Guard) → formulas_in (guards_of (gs ++ g ∷ [])) ≡ formulas_in (guards_of gs) ++ formulas_of g
formulas_in-push [] g = append-nil (formulas_of g)
formulas_in-push (h ∷ gs) g = ap (λ z. formulas_of h ++ z) (formulas_in-push gs g) ∙ sym (append_assoc (formulas_of h) (formulas_in (guards_of gs)) (formulas_of g))

pub parts-guards_of : (gs : List Guard) → parts (guards_of gs) ≡ gs
parts-guards_of [] = refl
parts-guards_of (g ∷ gs) = ap (λ z. g ∷ z) (parts-guards_of gs)

AreOver-push : (n : ℕ) (gs : List Guard) (g : Guard) → AreOver n (guards_of (gs ++ g ∷ [])) → AreOver n (guards_of gs) × IsOver n g
AreOver-push n [] g over = (tt, over.0)
AreOver-push n (h ∷ gs) g over = let rest = AreOver-push n gs g over.1 in ((over.0, rest.0), rest.1)

HaveNumbers-push : (n : ℕ) (fs gs : List Guard) (g : Guard) → HaveNumbers n fs (guards_of gs) → HasNumber n fs g → HaveNumbers n fs (guards_of (gs ++ g ∷ []))
HaveNumbers-push n fs [] g h here = (here, tt)
HaveNumbers-push n fs (x ∷ gs) g h here = (h.0, HaveNumbers-push n fs gs g h.1 here)

pub numbered_push : (n : ℕ) (old mid new : List Key) (gs : List Guard) (numbers : List ℕ) (g : Guard) (a : ℕ) → AreNumbered n old mid (guards_of gs) numbers → IsNumbered n mid new g a → AreNumbered n old new (guards_of (gs ++ g ∷ [])) (numbers ++ a ∷ [])
numbered_push n old mid new gs numbers g a listed one fs table over =
    let overs = AreOver-push n gs g over in
    let before = listed fs table overs.0 in
    let X = with_all fs (formulas_in (guards_of gs)) in
    let after = one X before.0 overs.1 in
    let Y = with_all X (formulas_of g) in
    let more = grown X (formulas_of g) in
    let have : HaveNumbers n Y (guards_of gs) = subst (λ z. HaveNumbers n z (guards_of gs)) (sym more.1) (still_all n X more.0 (guards_of gs) before.2) in
    let same : map (atom_in n Y) (parts (guards_of gs)) ≡ map (atom_in n X) (parts (guards_of gs)) = ap (λ z. map (atom_in n z) (parts (guards_of gs))) more.1 ∙ numbers_still n X more.0 (guards_of gs) before.2 in
    let list : numbers ++ a ∷ [] ≡ map (atom_in n Y) (gs ++ g ∷ []) =
    ap (λ z. z ++ a ∷ []) (before.1 ∙ sym same ∙ ap (map (atom_in n Y)) (parts-guards_of gs))
    ∙ ap (λ z. map (atom_in n Y) gs ++ z ∷ []) after.1
    ∙ sym (map-append (atom_in n Y) gs (g ∷ [])) in
    subst (λ z. IsTable n z new × (numbers ++ a ∷ [] ≡ map (atom_in n z) (parts (guards_of (gs ++ g ∷ [])))) × HaveNumbers n z (guards_of (gs ++ g ∷ []))) (sym (ap (with_all fs) (formulas_in-push gs g) ∙ with_all-append fs (formulas_in (guards_of gs)) (formulas_of g)))
    (after.0, list ∙ ap (map (atom_in n Y)) (sym (parts-guards_of (gs ++ g ∷ []))), HaveNumbers-push n Y gs g have after.2)

-- what the last call answers, where it answers
module _ {E : Type 0} (n : ℕ) (old mid new : List Key) (g : Guard) where
  pub ok_parent : (h h' : Guard) (a : ℕ) (r : Result ℕ E) → g ≡ parent h → h' ≡ h → IsNumbered n old mid h' a → IfOk r (λ b. IsEntered n mid new Parent (a ∷ []) b) → IfOk r (λ b. IsNumbered n old new g b)
  ok_parent h h' a (Ok b) is same part last = subst (λ z. IsNumbered n old new z b) (sym is) (number_parent n old mid new h a b (subst (λ z. IsNumbered n old mid z a) same part) last)
  ok_parent h h' a (Err e) is same part last = tt

  pub ok_ancestor : (h h' : Guard) (a : ℕ) (r : Result ℕ E) → g ≡ ancestor h → h' ≡ h → IsNumbered n old mid h' a → IfOk r (λ b. IsEntered n mid new Ancestor (a ∷ []) b) → IfOk r (λ b. IsNumbered n old new g b)
  ok_ancestor h h' a (Ok b) is same part last = subst (λ z. IsNumbered n old new z b) (sym is) (number_ancestor n old mid new h a b (subst (λ z. IsNumbered n old mid z a) same part) last)
  ok_ancestor h h' a (Err e) is same part last = tt

  pub ok_child : (h h' : Guard) (a : ℕ) (r : Result ℕ E) → g ≡ child h → h' ≡ h → IsNumbered n old mid h' a → IfOk r (λ b. IsEntered n mid new Child (a ∷ []) b) → IfOk r (λ b. IsNumbered n old new g b)
  ok_child h h' a (Ok b) is same part last = subst (λ z. IsNumbered n old new z b) (sym is) (number_child n old mid new h a b (subst (λ z. IsNumbered n old mid z a) same part) last)
  ok_child h h' a (Err e) is same part last = tt

  pub ok_descendant : (h h' : Guard) (a : ℕ) (r : Result ℕ E) → g ≡ descendant h → h' ≡ h → IsNumbered n old mid h' a → IfOk r (λ b. IsEntered n mid new Descendant (a ∷ []) b) → IfOk r (λ b. IsNumbered n old new g b)
  ok_descendant h h' a (Ok b) is same part last = subst (λ z. IsNumbered n old new z b) (sym is) (number_descendant n old mid new h a b (subst (λ z. IsNumbered n old mid z a) same part) last)
  ok_descendant h h' a (Err e) is same part last = tt

  pub ok_somewhere : (h h' : Guard) (a : ℕ) (r : Result ℕ E) → g ≡ somewhere h → h' ≡ h → IsNumbered n old mid h' a → IfOk r (λ b. IsEntered n mid new Somewhere (a ∷ []) b) → IfOk r (λ b. IsNumbered n old new g b)
  ok_somewhere h h' a (Ok b) is same part last = subst (λ z. IsNumbered n old new z b) (sym is) (number_somewhere n old mid new h a b (subst (λ z. IsNumbered n old mid z a) same part) last)
  ok_somewhere h h' a (Err e) is same part last = tt

  pub ok_at_or_below : (h h' : Guard) (a : ℕ) (r : Result ℕ E) → g ≡ at_or_below h → h' ≡ h → IsNumbered n old mid h' a → IfOk r (λ b. IsNumberedAtOrBelow n mid new a b) → IfOk r (λ b. IsNumbered n old new g b)
  ok_at_or_below h h' a (Ok b) is same part last = subst (λ z. IsNumbered n old new z b) (sym is) (number_at_or_below n old mid new h a b (subst (λ z. IsNumbered n old mid z a) same part) last)
  ok_at_or_below h h' a (Err e) is same part last = tt

  pub ok_all : (gs gs' : List Guard) (numbers : List ℕ) (r : Result ℕ E) → g ≡ all (guards_of gs) → gs' ≡ gs → AreNumbered n old mid (guards_of gs') numbers → IfOk r (λ b. IsEntered n mid new All numbers b) → IfOk r (λ b. IsNumbered n old new g b)
  ok_all gs gs' numbers (Ok b) is same listed last = subst (λ z. IsNumbered n old new z b) (sym is) (number_all n old mid new (guards_of gs) numbers b (subst (λ z. AreNumbered n old mid (guards_of z) numbers) same listed) last)
  ok_all gs gs' numbers (Err e) is same listed last = tt

  pub ok_any : (gs gs' : List Guard) (numbers : List ℕ) (r : Result ℕ E) → g ≡ any (guards_of gs) → gs' ≡ gs → AreNumbered n old mid (guards_of gs') numbers → IfOk r (λ b. IsEntered n mid new Any numbers b) → IfOk r (λ b. IsNumbered n old new g b)
  ok_any gs gs' numbers (Ok b) is same listed last = subst (λ z. IsNumbered n old new z b) (sym is) (number_any n old mid new (guards_of gs) numbers b (subst (λ z. AreNumbered n old mid (guards_of z) numbers) same listed) last)
  ok_any gs gs' numbers (Err e) is same listed last = tt
