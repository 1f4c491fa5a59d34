-- The first way that stands, list by list.
--     found_here, found_next, found_none    a search along a list
--     range_next                            a search along the numbers
--     local_found, up_found, down_left      the first of all ways
--     real_found, spawn_found, none_found   the first of those by one link
--     each_here, each_next, each_end        the first of those by the links of a list
use Rattle.std.proofs.Common.{◌≡◌, ℕ, suc, ◌+◌, ◌<◌, ◌≤◌, ◌==◌, Bool, true, false, cond, List, [], ◌∷◌, ◌++◌, length, drop, map, find, get_or, slice_get, Option, Some, None, is_some, option_map, unwrap_or, Result, Ok, Err, IfOk, inl, inr, refl, sym, ap, ◌∙◌, subst, arith}
use Rattle.std.specs.List.{flat_map, range_with_len}
use Rattle.std.proofs.lemmas.Bool.{cases_lt}
use Rattle.std.proofs.lemmas.Option.{slice_get-get_or}
use Rattle.tp_base.proofs.Lists.{drop_at}
use Rattle.simple_core.specs.declared.rules.Link.{Link}
use Rattle.simple_core.specs.declared.rules.Local as rule
use Rattle.simple_core.specs.declared.summaries.Summaries.{Ghosts}
use Rattle.proof_check.proofs.EntryLemmas.{drop_end}
use Rattle.proof_maker.specs.declared.worlds.Place.{Place}
use Rattle.proof_maker.specs.declared.worlds.World.{World}
use Rattle.proof_needs.specs.Choices.{Choice, by_local, by_up, by_real, by_spawn, from_down, ways_down, ways}
use Rattle.simple_core.specs.Givers.{places_from}
use Rattle.simple_core.specs.Givers.{places_in}
use Rattle.proof_maker.specs.Worlds.{setting_of, path_of, IsReady, stands_at, real_has, spawn_has}

pub ok_further : {X E : Type 0} (r : Result X E) (P Q : X → Type 0) → IfOk r P → ((x : X) → P x → Q x) → IfOk r Q
ok_further (Ok x) P Q h further = further x h
ok_further (Err e) P Q h further = tt

module _ {X : Type 0} (p : X → Bool) where
  find_first : (xs ys : List X) (x : X) → Some x ≡ find p xs → Some x ≡ find p (xs ++ ys)
  find_first [] ys x at = cc
  find_first (z ∷ xs) ys x at = elim (p z) as (λ b. Some x ≡ cond b (Some z) (find p xs) → Some x ≡ cond b (Some z) (find p (xs ++ ys))) [
    | true ↦ λ e. e
    | false ↦ λ e. find_first xs ys x e
  ] at

  find_last : (xs ys : List X) → None ≡ find p xs → find p (xs ++ ys) ≡ find p ys
  find_last [] ys none = refl
  find_last (z ∷ xs) ys none = elim (p z) as (λ b. None ≡ cond b (Some z) (find p xs) → cond b (Some z) (find p (xs ++ ys)) ≡ find p ys) [
    | true ↦ λ e. cc
    | false ↦ λ e. find_last xs ys e
  ] none

  pub found_here : (xs : List X) (i : ℕ) (d : X) → i < length xs → p (get_or xs i d) ≡ true → find p xs ≡ find p (drop i xs) → Some (get_or xs i d) ≡ find p xs
  found_here xs i d less pass from =
      let x = get_or xs i d in
      sym (from ∙ ap (find p) (drop_at xs i x (slice_get-get_or xs i d less)) ∙ ap (λ b. cond b (Some x) (find p (drop (suc i) xs))) pass)

  pub found_next : (xs : List X) (i : ℕ) (d : X) → i < length xs → p (get_or xs i d) ≡ false → find p xs ≡ find p (drop i xs) → find p xs ≡ find p (drop (i + 1) xs)
  found_next xs i d less fail from =
      let x = get_or xs i d in
      let next : suc i ≡ i + 1 = omega arith in
      from ∙ ap (find p) (drop_at xs i x (slice_get-get_or xs i d less)) ∙ ap (λ b. cond b (Some x) (find p (drop (suc i) xs))) fail ∙ ap (λ n. find p (drop n xs)) next

  pub found_none : (xs : List X) (i : ℕ) → length xs ≤ i → find p xs ≡ find p (drop i xs) → None ≡ find p xs
  found_none xs i past from = sym (from ∙ ap (find p) (drop_end xs i past))

find_map : {X Y : Type 0} (p : Y → Bool) (f : X → Y) (xs : List X) → find p (map f xs) ≡ option_map f (find (λ x. p (f x)) xs)
find_map p f [] = refl
find_map p f (x ∷ xs) = elim (p (f x)) as (λ b. cond b (Some (f x)) (find p (map f xs)) ≡ option_map f (cond b (Some x) (find (λ y. p (f y)) xs))) [
  | true ↦ refl
  | false ↦ find_map p f xs
]

-- ### numbers

module _ (p : ℕ → Bool) where
  pub range_next : (i : ℕ) → ((k : ℕ) → k < i → p k ≡ false) → p i ≡ false → (k : ℕ) → k < i + 1 → p k ≡ false
  range_next i before here k less = elim (cases_lt k i) [
    | inl earlier ↦ before k earlier
    | inr later ↦ let same : k ≡ i = omega (arith, less, later) in ap p same ∙ here
  ]

-- ### all ways to an atom

module _ {X : Type 0} (S : Ghosts X) (world : World X) (ready : IsReady S world) (place : Place) (a k : ℕ) where
  abbrev passes : Choice → Bool
  passes = stands_at world place k

  abbrev locals : List ℕ
  locals = places_from (λ (r : rule.Local). r.gives == a) 0 world.system.now.local

  abbrev ups : List ℕ
  ups = places_from (λ (r : Link). r.to == a) 0 world.system.now.up

  abbrev downs : List ℕ
  downs = places_from (λ (r : Link). r.to == a) 0 world.system.now.down

  abbrev downward : ℕ → List Choice
  downward = ways_down world.system.now (setting_of world.system.now world.page.now place) (path_of place)

  abbrev all_ways : List Choice
  all_ways = ways world.system.now (setting_of world.system.now world.page.now place) (path_of place) a

  no_local : (rules : List ℕ) → rules ≡ places_in world.rules.now.locals a → None ≡ find (λ l. passes (by_local l)) rules → None ≡ find passes (map by_local locals)
  no_local rules are none = ap (option_map by_local) (none ∙ ap (find (λ l. passes (by_local l))) (are ∙ ready.rules.locals a)) ∙ sym (find_map passes by_local locals)

  no_up : (links : List ℕ) → links ≡ places_in world.rules.now.ups a → None ≡ find (λ l. passes (by_up l)) links → None ≡ find passes (map by_up ups)
  no_up links are none = ap (option_map by_up) (none ∙ ap (find (λ l. passes (by_up l))) (are ∙ ready.rules.ups a)) ∙ sym (find_map passes by_up ups)

  pub local_found : (rules : List ℕ) (l : ℕ) → rules ≡ places_in world.rules.now.locals a → Some l ≡ find (λ l. passes (by_local l)) rules → Some (by_local l) ≡ find passes all_ways
  local_found rules l are at =
      find_first passes (map by_local locals ++ map by_up ups) (flat_map downward downs) (by_local l)
      (find_first passes (map by_local locals) (map by_up ups) (by_local l)
      (ap (option_map by_local) (at ∙ ap (find (λ l. passes (by_local l))) (are ∙ ready.rules.locals a)) ∙ sym (find_map passes by_local locals)))

  pub up_found : (rules links : List ℕ) (l : ℕ) → rules ≡ places_in world.rules.now.locals a → links ≡ places_in world.rules.now.ups a → None ≡ find (λ l. passes (by_local l)) rules
      → Some l ≡ find (λ l. passes (by_up l)) links → Some (by_up l) ≡ find passes all_ways
  up_found rules links l are are' none at =
      find_first passes (map by_local locals ++ map by_up ups) (flat_map downward downs) (by_up l)
      (ap (option_map by_up) (at ∙ ap (find (λ l. passes (by_up l))) (are' ∙ ready.rules.ups a)) ∙ sym (find_map passes by_up ups)
      ∙ sym (find_last passes (map by_local locals) (map by_up ups) (no_local rules are none)))

  pub down_left : (rules links rest : List ℕ) (o : Option Choice) → rules ≡ places_in world.rules.now.locals a → links ≡ places_in world.rules.now.ups a → rest ≡ places_in world.rules.now.downs a
      → None ≡ find (λ l. passes (by_local l)) rules → None ≡ find (λ l. passes (by_up l)) links → o ≡ find passes (flat_map downward rest) → o ≡ find passes all_ways
  down_left rules links rest o are are' are'' none none' is =
      let ls = map by_local locals in
      let us = map by_up ups in
      is ∙ ap (λ (ns : List ℕ). find passes (flat_map downward ns)) (are'' ∙ ready.rules.downs a)
      ∙ sym (find_last passes (ls ++ us) (flat_map downward downs) (no_up links are' none' ∙ sym (find_last passes ls us (no_local rules are none))))

-- ### the ways by one link

pub link_from : (links down : List Link) (l from : ℕ) → links ≡ down → from ≡ unwrap_or (option_map (λ (r : Link). r.from) (slice_get links l)) 0 → from ≡ unwrap_or (option_map (λ (r : Link). r.from) (slice_get down l)) 0
link_from links down l from same is = is ∙ ap (λ ls. unwrap_or (option_map (λ (r : Link). r.from) (slice_get ls l)) 0) same

module _ {X : Type 0} (world : World X) (place : Place) (k l from : ℕ) (is : from ≡ from_down world.system.now l) where
  abbrev below : List Choice
  below = ways_down world.system.now (setting_of world.system.now world.page.now place) (path_of place) l

  abbrev reals : List ℕ
  reals = range_with_len 0 ((setting_of world.system.now world.page.now place).reals (path_of place))

  abbrev spawns : List ℕ
  spawns = range_with_len 0 (length world.system.now.child)

  module _ (o : Option ℕ) (real : o ≡ find (real_has world place k from) reals) where
    no_real : o ≡ None → None ≡ find (stands_at world place k) (map (by_real l) reals)
    no_real none =
        ap (option_map (by_real l)) (sym none ∙ subst (λ f. o ≡ find (real_has world place k f) reals) is real) ∙ sym (find_map (stands_at world place k) (by_real l) reals)

    pub real_found : (n : ℕ) → o ≡ Some n → Some (by_real l n) ≡ find (stands_at world place k) below
    real_found n at =
        find_first (stands_at world place k) (map (by_real l) reals) (map (by_spawn l) spawns) (by_real l n)
        (ap (option_map (by_real l)) (sym at ∙ subst (λ f. o ≡ find (real_has world place k f) reals) is real) ∙ sym (find_map (stands_at world place k) (by_real l) reals))

    pub spawn_found : (c : ℕ) → o ≡ None → Some c ≡ find (spawn_has world place k from) spawns → Some (by_spawn l c) ≡ find (stands_at world place k) below
    spawn_found c none at =
        ap (option_map (by_spawn l)) (subst (λ f. Some c ≡ find (spawn_has world place k f) spawns) is at) ∙ sym (find_map (stands_at world place k) (by_spawn l) spawns)
        ∙ sym (find_last (stands_at world place k) (map (by_real l) reals) (map (by_spawn l) spawns) (no_real none))

    pub none_found : o ≡ None → None ≡ find (spawn_has world place k from) spawns → None ≡ find (stands_at world place k) below
    none_found none none' =
        ap (option_map (by_spawn l)) (subst (λ f. None ≡ find (spawn_has world place k f) spawns) is none') ∙ sym (find_map (stands_at world place k) (by_spawn l) spawns)
        ∙ sym (find_last (stands_at world place k) (map (by_real l) reals) (map (by_spawn l) spawns) (no_real none))

-- ### the ways by the links of a list

module _ {X Y : Type 0} (p : X → Bool) (f : ℕ → List X) (g : Y → X) (links : List ℕ) where
  from_drop : (i d : ℕ) → i < length links → flat_map f (drop i links) ≡ f (get_or links i d) ++ flat_map f (drop (suc i) links)
  from_drop i d less = ap (flat_map f) (drop_at links i (get_or links i d) (slice_get-get_or links i d less))

  pub each_here : (i d : ℕ) (o : Option Y) → i < length links → is_some o ≡ true → option_map g o ≡ find p (f (get_or links i d)) → find p (flat_map f links) ≡ find p (flat_map f (drop i links))
      → option_map g o ≡ find p (flat_map f links)
  each_here i d None less there is from = cc
  each_here i d (Some y) less there is from =
      find_first p (f (get_or links i d)) (flat_map f (drop (suc i) links)) (g y) is ∙ sym (ap (find p) (from_drop i d less)) ∙ sym from

  pub each_next : (i d : ℕ) (o : Option Y) → i < length links → is_some o ≡ false → option_map g o ≡ find p (f (get_or links i d)) → find p (flat_map f links) ≡ find p (flat_map f (drop i links))
      → find p (flat_map f links) ≡ find p (flat_map f (drop (i + 1) links))
  each_next i d (Some y) less there is from = cc
  each_next i d None less there is from =
      let next : suc i ≡ i + 1 = omega arith in
      from ∙ ap (find p) (from_drop i d less) ∙ find_last p (f (get_or links i d)) (flat_map f (drop (suc i) links)) is ∙ ap (λ n. find p (flat_map f (drop n links))) next

  pub each_end : (i : ℕ) → length links ≤ i → find p (flat_map f links) ≡ find p (flat_map f (drop i links)) → None ≡ find p (flat_map f links)
  each_end i past from = sym (from ∙ ap (λ ns. find p (flat_map f ns)) (drop_end links i past))
