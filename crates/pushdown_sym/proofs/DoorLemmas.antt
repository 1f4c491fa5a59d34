-- The children by the spawn rules that a kind may use.
use Rattle.std.proofs.Common.{◌≡◌, ℕ, Bool, true, false, ◌||◌, ◌==◌, List, [], ◌∷◌, ◌++◌, fold, filter, slice_get, Some, None, option_map, unwrap_or, refl, sym, ap, ◌∙◌, inl, inr, append-nil}
use Rattle.std.specs.List.{flat_map, list_any}
use Rattle.std.proofs.lemmas.Bool.{cases_Bool}
use Rattle.std.proofs.lemmas.List.Elements.{filter-append}
use Rattle.simple_core.specs.declared.rules.Link.{Link}
use Rattle.simple_core.specs.declared.rules.Spawn.{Spawn}
use Rattle.simple_core.specs.declared.system.System.{System}
use Rattle.simple_core.specs.Givers.{places_from}
use Rattle.pushdown_sym.specs.declared.gathering.Child.{Child}
use Rattle.pushdown_sym.specs.CellMap.{Entries, may_have}
use Rattle.pushdown_sym.specs.Givers.{of_place, AreDoors}
use Rattle.pushdown_sym.specs.Children.{child_by, stands, standing_by, standing_each, standing_at, standing_of, same_child, with_child, different, beneath, DoServe}
use Rattle.pushdown_sym.proofs.DifferentLemmas.{same_child-true, firsts, fold_is}
use Rattle.pushdown_sym.proofs.GiverLemmas.{filtered_places}
use Rattle.pushdown_sym.proofs.PlaceLemmas.{enough_places}
use Rattle.pushdown_sym.proofs.StandingLemmas.{filter-flat_map, standing_are}

-- ### different children, and those of them that pass

module _ (passes : Child → Bool) where
  -- one that passes is among some where it is among those of them that pass
  any-passing : (c : Child) → passes c ≡ true → (seen : List Child) → list_any (same_child c) (filter passes seen) ≡ list_any (same_child c) seen
  any-passing c pass [] = refl
  any-passing c pass (d ∷ seen) = elim (cases_Bool (passes d)) [
    | inl here ↦ rw here (ap (λ b. same_child c d || b) (any-passing c pass seen))
    | inr fails ↦ elim (cases_Bool (same_child c d)) [
      | inl same ↦ let wrong : true ≡ false = sym pass ∙ ap passes (same_child-true c d same) ∙ fails in cc
      | inr other ↦ rw (fails, other) (any-passing c pass seen)
    ]
  ]

  firsts-filter : (seen cs : List Child) → filter passes (firsts seen cs) ≡ firsts (filter passes seen) (filter passes cs)
  firsts-filter seen [] = refl
  firsts-filter seen (c ∷ cs) = elim (cases_Bool (passes c)) [
    | inl pass ↦
        let more : filter passes (seen ++ c ∷ []) ≡ filter passes seen ++ c ∷ [] = filter-append passes seen (c ∷ []) ∙ rw pass refl in
        elim (cases_Bool (list_any (same_child c) seen)) [
          | inl there ↦ rw (pass, any-passing c pass seen, there) (firsts-filter seen cs)
          | inr new ↦ rw (pass, any-passing c pass seen, new) (rw pass (ap (λ ds. c ∷ ds) (firsts-filter (seen ++ c ∷ []) cs ∙ ap (λ ds. firsts ds (filter passes cs)) more)))
        ]
    | inr fails ↦
        let more : filter passes (seen ++ c ∷ []) ≡ filter passes seen ++ [] = filter-append passes seen (c ∷ []) ∙ rw fails refl in
        elim (cases_Bool (list_any (same_child c) seen)) [
          | inl there ↦ rw (fails, there) (firsts-filter seen cs)
          | inr new ↦ rw (fails, new) (rw fails (firsts-filter (seen ++ c ∷ []) cs ∙ ap (λ ds. firsts ds (filter passes cs)) (more ∙ append-nil (filter passes seen))))
        ]
  ]

  different-filter : (cs : List Child) → filter passes (different cs) ≡ different (filter passes cs)
  different-filter cs = ap (filter passes) (fold_is [] cs) ∙ firsts-filter [] cs ∙ sym (fold_is [] (filter passes cs))

-- ### what a link looks at

filter-of_place : {X Y : Type 0} (p : Y → Bool) (f : X → List Y) (xs : List X) (i : ℕ) → filter p (of_place f xs i) ≡ of_place (λ x. filter p (f x)) xs i
filter-of_place p f xs i = elim (slice_get xs i) as (λ o. filter p (unwrap_or (option_map f o) []) ≡ unwrap_or (option_map (λ x. filter p (f x)) o) []) [
  | None ↦ refl
  | Some x ↦ refl
]

module _ (cells : Entries) (j : ℕ) where
  abbrev passes_for : Child → Bool
  passes_for c = may_have cells j c.needs

  abbrev beneath_by : Link → Spawn → List Child
  beneath_by l c = beneath cells j (standing_by cells l c)

  none_beneath : (l : Link) (c : Spawn) → may_have cells j c.needs ≡ false → beneath_by l c ≡ []
  none_beneath l c fails = elim (cases_Bool (stands (child_by cells l c))) [
    | inl stand ↦ rw (stand, fails) refl
    | inr none ↦ rw none refl
  ]

  link_through : (l : Link) (spawns : List Spawn) (doors : List ℕ) → AreDoors spawns cells j doors
      → beneath cells j (standing_at cells spawns doors l) ≡ beneath cells j (standing_each cells spawns l)
  link_through l spawns doors are =
      filter-flat_map passes_for (of_place (standing_by cells l) spawns) (of_place (beneath_by l) spawns) (filter-of_place passes_for (standing_by cells l) spawns) doors
      ∙ enough_places (beneath_by l) (λ (c : Spawn). may_have cells j c.needs) (none_beneath l) spawns doors are.rising are.whole
      ∙ sym (filter-flat_map passes_for (standing_by cells l) (beneath_by l) (λ c. refl) spawns)

  all_through : (ls : List Link) (spawns : List Spawn) (doors : List ℕ) → AreDoors spawns cells j doors
      → beneath cells j (flat_map (standing_at cells spawns doors) ls) ≡ beneath cells j (flat_map (standing_each cells spawns) ls)
  all_through ls spawns doors are =
      filter-flat_map passes_for (standing_at cells spawns doors) (λ l. beneath cells j (standing_each cells spawns l)) (λ l. link_through l spawns doors are) ls
      ∙ sym (filter-flat_map passes_for (standing_each cells spawns) (λ l. beneath cells j (standing_each cells spawns l)) (λ l. refl) ls)

  -- what the links at the places look at by the rules that the kind may use serves for its cell
  pub through_serve : (s : System) (a : ℕ) (links : List Link) (spawns : List Spawn) (places doors : List ℕ) (children : List Child) → links ≡ s.down → spawns ≡ s.child
      → places ≡ places_from (λ (l : Link). l.to == a) 0 s.down → AreDoors s.child cells j doors
      → children ≡ fold with_child [] (flat_map (of_place (standing_at cells spawns doors) links) places) → DoServe s cells j a children
  through_serve s a links spawns places doors children links_are spawns_are places_are are children_are =
      let ls = filter (λ (l : Link). l.to == a) s.down in
      ap (beneath cells j)
      (children_are
      ∙ (λ n. fold with_child [] (flat_map (of_place (standing_at cells (spawns_are n) doors) (links_are n)) (places_are n)))
      ∙ ap different (filtered_places (standing_at cells s.child doors) (λ (l : Link). l.to == a) s.down))
      ∙ different-filter passes_for (flat_map (standing_at cells s.child doors) ls)
      ∙ ap different (all_through ls s.child doors are ∙ ap (beneath cells j) (standing_are s cells a))
      ∙ sym (different-filter passes_for (standing_of s cells a))
