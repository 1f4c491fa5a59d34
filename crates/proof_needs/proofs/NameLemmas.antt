-- What the items of each triple name, as lists of numbers.
use Rattle.std.proofs.Common.{◌≡◌, ℕ, ◌+◌, ◌<◌, List, [], ◌∷◌, ◌++◌, length, map, drop, get_or, All, Option, Some, None, option_map, option_and_then, option_to_list, unwrap_or, slice_get, Vec, refl, sym, ap, ◌∙◌, subst, add-one, drop-cons}
use Rattle.std.specs.Global.{Global}
use Rattle.std.proofs.lemmas.List.{length-map, append_assoc}
use Rattle.std.proofs.lemmas.List.Elements.{All-append, All-nil, All-cons, All-head, All-tail}
use Rattle.std.proofs.lemmas.Option.{slice_get-map}
use Rattle.proof_needs.specs.declared.needs.Draft.{Draft}
use Rattle.proof_needs.specs.declared.orders.Order.{Order}
use Rattle.proof_needs.specs.Names.{named_at, named_all, names_in}
use Rattle.proof_needs.specs.Numbers.{Tours, names_at, AreBelow}

module _ (drafts : List Draft) where
  -- one want more
  pub named_next : (wants : List ℕ) (i w d : ℕ) (named : List ℕ) → i < length wants → w ≡ get_or wants i d → named ++ named_all drafts (drop i wants) ≡ named_all drafts wants → (named ++ named_at drafts w) ++ named_all drafts (drop (i + 1) wants) ≡ named_all drafts wants
  named_next wants i w d named lt is whole =
      let step : drop i wants ≡ w ∷ drop (i + 1) wants = at_drop wants i d lt ∙ ap (λ x. x ∷ drop (i + 1) wants) (sym is) in
      append_assoc named (named_at drafts w) (named_all drafts (drop (i + 1) wants)) ∙ ap (λ l. named ++ named_all drafts l) (sym step) ∙ whole
    where
      at_drop : (xs : List ℕ) (i d : ℕ) → i < length xs → drop i xs ≡ get_or xs i d ∷ drop (i + 1) xs
      at_drop xs i d lt = rw (add-one, drop-cons xs i d) refl

  -- one order more
  pub each_next : (orders : List Order) (i : ℕ) (o : Order) (lists : List (List ℕ)) (named : List ℕ) → i < length orders → o ≡ get_or orders i o → named ≡ named_all drafts o.wants.items
      → lists ++ map (λ (o : Order). named_all drafts o.wants.items) (drop i orders) ≡ map (λ (o : Order). named_all drafts o.wants.items) orders
      → (lists ++ named ∷ []) ++ map (λ (o : Order). named_all drafts o.wants.items) (drop (i + 1) orders) ≡ map (λ (o : Order). named_all drafts o.wants.items) orders
  each_next orders i o lists named lt is all whole =
      let f = λ (o : Order). named_all drafts o.wants.items in
      let step : drop i orders ≡ o ∷ drop (i + 1) orders = at_drop orders i o lt ∙ ap (λ x. x ∷ drop (i + 1) orders) (sym is) in
      append_assoc lists (named ∷ []) (map f (drop (i + 1) orders)) ∙ ap (λ n. lists ++ n ∷ map f (drop (i + 1) orders)) all ∙ ap (λ l. lists ++ map f l) (sym step) ∙ whole
    where
      at_drop : (xs : List Order) (i : ℕ) (d : Order) → i < length xs → drop i xs ≡ get_or xs i d ∷ drop (i + 1) xs
      at_drop xs i d lt = rw (add-one, drop-cons xs i d) refl

  module _ (orders : List Order) (lists : List (Vec ℕ Global)) (same : map (λ (v : Vec ℕ Global). v.items) lists ≡ map (λ (o : Order). named_all drafts o.wants.items) orders) where
    -- each number names what its items name
    names_are : (t : ℕ) → names_at lists t ≡ names_in drafts orders t
    names_are t =
        ap (λ o. unwrap_or o []) (sym (slice_get-map (λ (v : Vec ℕ Global). v.items) lists t) ∙ ap (λ l. slice_get l t) same ∙ slice_get-map (λ (o : Order). named_all drafts o.wants.items) orders t)
        ∙ by (slice_get orders t)
      where
        by : (o : Option Order) → unwrap_or (option_map (λ (o : Order). named_all drafts o.wants.items) o) [] ≡ named_all drafts (unwrap_or (option_map (λ (o : Order). o.wants.items) o) [])
        by None = refl
        by (Some o) = refl

    pub same_count : length lists ≡ length orders
    same_count = sym (length-map lists (λ (v : Vec ℕ Global). v.items)) ∙ ap length same ∙ length-map orders (λ (o : Order). named_all drafts o.wants.items)

    pub tours_are : (roots roots' order : List ℕ) → roots ≡ roots' → Tours (names_at lists) roots order → Tours (names_in drafts orders) roots' order
    tours_are roots roots' order is tours =
        let names : names_at lists ≡ names_in drafts orders = (λ k t. names_are t k) in
        subst (λ f. Tours f roots' order) names (subst (λ r. Tours (names_at lists) r order) is tours)

  module _ (n : ℕ) (named : (i m : ℕ) (d : Draft) → slice_get drafts i ≡ Some d → d.triple ≡ Some m → m < n) where
    at_below : (i : ℕ) → AreBelow n (named_at drafts i)
    at_below i = by (slice_get drafts i) refl
      where
        only : (o : Option ℕ) → ((m : ℕ) → o ≡ Some m → m < n) → AreBelow n (option_to_list o)
        only None less = All-nil (λ t. t < n)
        only (Some m) less = All-cons (λ t. t < n) m [] (less m refl) (All-nil (λ t. t < n))

        by : (o : Option Draft) → slice_get drafts i ≡ o → AreBelow n (option_to_list (option_and_then (λ (d : Draft). d.triple) o))
        by None at = All-nil (λ t. t < n)
        by (Some d) at = only d.triple (λ m is. named i m d at is)

    pub all_below : (wants : List ℕ) → AreBelow n (named_all drafts wants)
    all_below [] = All-nil (λ t. t < n)
    all_below (i ∷ wants) = All-append (λ t. t < n) (named_at drafts i) (named_all drafts wants) (at_below i) (all_below wants)

    pub lists_below : (orders : List Order) (lists : List (Vec ℕ Global)) → map (λ (v : Vec ℕ Global). v.items) lists ≡ map (λ (o : Order). named_all drafts o.wants.items) orders → All (λ (v : Vec ℕ Global). AreBelow n v.items) lists
    lists_below orders lists same = back lists (subst (All (AreBelow n)) (sym same) (each orders))
      where
        each : (os : List Order) → All (AreBelow n) (map (λ (o : Order). named_all drafts o.wants.items) os)
        each [] = All-nil (AreBelow n)
        each (o ∷ os) = All-cons (AreBelow n) (named_all drafts o.wants.items) (map (λ (o : Order). named_all drafts o.wants.items) os) (all_below o.wants.items) (each os)

        back : (vs : List (Vec ℕ Global)) → All (AreBelow n) (map (λ (v : Vec ℕ Global). v.items) vs) → All (λ (v : Vec ℕ Global). AreBelow n v.items) vs
        back [] all = All-nil (λ (v : Vec ℕ Global). AreBelow n v.items)
        back (v ∷ vs) all = All-cons (λ (v : Vec ℕ Global). AreBelow n v.items) v vs (All-head (AreBelow n) v.items (map (λ (v : Vec ℕ Global). v.items) vs) all) (back vs (All-tail (AreBelow n) v.items (map (λ (v : Vec ℕ Global). v.items) vs) all))
