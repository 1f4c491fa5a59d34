-- The selectors of one rule after the other, where they stand by their rules.
use Rattle.std.proofs.Common.{◌≡◌, ℕ, suc, ◌+◌, ◌<◌, ◌≤◌, ◌==◌, ◌&&◌, not, Bool, true, false, if◌then◌else◌, List, [], ◌∷◌, ◌++◌, length, take, drop, map, refl, sym, ap, subst, inl, inr, ◌∙◌, arith, add-one, append_assoc}
use Rattle.std.specs.List.{list_all}
use Rattle.std.proofs.lemmas.Bool.{eqb-true, eqb-false, ne_eqb, cases_Bool}
use Rattle.std.proofs.lemmas.List.{length-take, length-drop, length_push, take-map, drop-map, append-nil}
use Rattle.css_read.specs.declared.sheets.Range.{Range}
use Rattle.css_read.specs.declared.sheets.SheetItem.{SheetItem}
use Rattle.css_read.specs.Pruned.{Flagged, with_flags, of_rule, gone_rules, lists_cuts, list_cuts}
use Rattle.css_read.specs.Sheets.{Item}
use Rattle.css_read.specs.Views.{item_of}
use Rattle.css_prune.specs.Flags.{flagged, is_fixed_by}
use Rattle.css_prune.specs.Groups.{leading, AreInOrder}
use Rattle.css_prune.proofs.ListLemmas.{all_flags, fixed_alone}

-- ---- the selectors of a rule are the first ones

none_of : (k from : ℕ) (is : List Item) (gs : List Bool) → AreInOrder from is → k < from → of_rule k (with_flags is gs) ≡ []
none_of k from [] gs order less = refl
none_of k from (i ∷ is) [] order less = refl
none_of k from (i ∷ is) (g ∷ gs) order less = rw (ne_eqb i.rule k (λ e. omega (arith, order.0))) (none_of k i.rule is gs order.1 (omega (arith, order.0)))

at_first : {P : Type 0} (k : ℕ) (i : Item) → ((i.rule == k) ≡ true → P) → ((i.rule == k) ≡ false → P) → P
at_first {P} k i same other = elim (cases_Bool (i.rule == k)) [ inl e ↦ same e | inr e ↦ other e ]

same_order : (k : ℕ) (i : Item) (is : List Item) → (i.rule == k) ≡ true → AreInOrder i.rule is → AreInOrder k is
same_order k i is same order = subst (λ n. AreInOrder n is) (eqb-true i.rule k same) order

above : (k : ℕ) (i : Item) → k ≤ i.rule → (i.rule == k) ≡ false → k < i.rule
above k i less other = let apart = eqb-false i.rule k other in omega arith

pub first_ones : (k : ℕ) (is : List Item) (gs : List Bool) → AreInOrder k is → of_rule k (with_flags is gs) ≡ with_flags (take (leading k is) is) (take (leading k is) gs)
first_ones k [] gs order = refl
first_ones k (i ∷ is) [] order = at_first k i (λ same. rw same refl) (λ other. rw other refl)
first_ones k (i ∷ is) (g ∷ gs) order =
    at_first k i
    (λ same. rw same (ap (λ fs. (i, g) ∷ fs) (first_ones k is gs (same_order k i is same order.1))))
    (λ other. rw other (none_of k i.rule is gs order.1 (above k i order.0 other)))

no_flags : (is : List Item) → with_flags is [] ≡ []
no_flags [] = refl
no_flags (i ∷ is) = refl

pub others : (k j : ℕ) (is : List Item) (gs : List Bool) → k < j → of_rule j (with_flags is gs) ≡ of_rule j (with_flags (drop (leading k is) is) (drop (leading k is) gs))
others k j [] gs less = refl
others k j (i ∷ is) [] less = at_first k i (λ same. rw (same, no_flags (drop (leading k is) is)) refl) (λ other. rw other refl)
others k j (i ∷ is) (g ∷ gs) less =
    at_first k i
    (λ same. let number = eqb-true i.rule k same in rw (same, ne_eqb i.rule j (λ e. omega arith)) (others k j is gs less))
    (λ other. rw other refl)

pub later_order : (k : ℕ) (is : List Item) → AreInOrder k is → AreInOrder (suc k) (drop (leading k is) is)
later_order k [] order = tt
later_order k (i ∷ is) order =
    at_first k i
    (λ same. rw same (later_order k is (same_order k i is same order.1)))
    (λ other. rw other (above k i order.0 other, order.1))

-- ---- one rule and those behind it

gone_later : (text : List ℕ) (k : ℕ) (rs : List Range) (fs gs : List Flagged) → ((j : ℕ) → k ≤ j → of_rule j fs ≡ of_rule j gs) → gone_rules text k rs fs ≡ gone_rules text k rs gs
unfolding gone_rules
gone_later text k [] fs gs same = refl
gone_later text k (r ∷ rs) fs gs same = rw (same k (omega arith), gone_later text (k + 1) rs fs gs (λ j less. same j (omega arith))) refl

cuts_later : (text : List ℕ) (k : ℕ) (rs : List Range) (fs gs : List Flagged) → ((j : ℕ) → k ≤ j → of_rule j fs ≡ of_rule j gs) → lists_cuts text k rs fs ≡ lists_cuts text k rs gs
unfolding lists_cuts
cuts_later text k [] fs gs same = refl
cuts_later text k (r ∷ rs) fs gs same = rw (same k (omega arith), cuts_later text (k + 1) rs fs gs (λ j less. same j (omega arith))) refl

as_many : (n : ℕ) (is : List Item) (gs : List Bool) → length gs ≡ length is → length (take n gs) ≡ length (take n is)
as_many n is gs count = length-take n gs ∙ rw count (sym (length-take n is))

left_over : (n : ℕ) (is : List Item) (gs : List Bool) → length gs ≡ length is → length (drop n gs) ≡ length (drop n is)
left_over n is gs count = length-drop n gs ∙ rw count (sym (length-drop n is))

gone_first : (text : List ℕ) (k : ℕ) (r : Range) (rs : List Range) (is : List Item) (gs : List Bool) → AreInOrder k is → length gs ≡ length is → let n = leading k is in
    gone_rules text k (r ∷ rs) (with_flags is gs) ≡ (list_all (λ g. g) (take n gs) && not (is_fixed_by text k r (take n is))) ∷ gone_rules text (k + 1) rs (with_flags (drop n is) (drop n gs))
unfolding gone_rules
gone_first text k r rs is gs order count =
    let n = leading k is in
    let few = as_many n is gs count in
    rw (
      gone_later text (k + 1) rs (with_flags is gs) (with_flags (drop n is) (drop n gs)) (λ j less. others k j is gs (omega arith)),
      first_ones k is gs order,
      all_flags (take n is) (take n gs) few,
      fixed_alone text k r (take n is) (take n gs) few,
    )
    refl

cuts_first : (text : List ℕ) (k : ℕ) (r : Range) (rs : List Range) (is : List Item) (gs : List Bool) → AreInOrder k is → length gs ≡ length is → let n = leading k is in
    lists_cuts text k (r ∷ rs) (with_flags is gs)
    ≡ (if is_fixed_by text k r (take n is) then [] else list_cuts (with_flags (take n is) (take n gs))) ++ lists_cuts text (k + 1) rs (with_flags (drop n is) (drop n gs))
unfolding lists_cuts
cuts_first text k r rs is gs order count =
    let n = leading k is in
    rw (
      cuts_later text (k + 1) rs (with_flags is gs) (with_flags (drop n is) (drop n gs)) (λ j less. others k j is gs (omega arith)),
      first_ones k is gs order,
      fixed_alone text k r (take n is) (take n gs) (as_many n is gs count),
    )
    refl

-- ---- what becomes of the rules, one after the other

-- what is found, finished by the rules that are left, is what is found of all
pub record AreFates (text : List ℕ) (all_gone : List Bool) (all_cuts : List Range) (rules : List Range) (is : List Item) (gs : List Bool) (gone : List Bool) (cuts : List Range) : Type 0 where
  pub count : length gs ≡ length is
  pub order : AreInOrder (length gone) is
  pub gone_rest : gone ++ gone_rules text (length gone) rules (with_flags is gs) ≡ all_gone
  pub cuts_rest : cuts ++ lists_cuts text (length gone) rules (with_flags is gs) ≡ all_cuts

next_fate : (text : List ℕ) (all_gone : List Bool) (all_cuts : List Range) (r : Range) (rs : List Range) (is : List Item) (gs : List Bool) (gone : List Bool) (cuts : List Range)
    → AreFates text all_gone all_cuts (r ∷ rs) is gs gone cuts → let n = leading (length gone) is in
    AreFates text all_gone all_cuts rs (drop n is) (drop n gs)
    (gone ++ (list_all (λ g. g) (take n gs) && not (is_fixed_by text (length gone) r (take n is))) ∷ [])
    (cuts ++ (if is_fixed_by text (length gone) r (take n is) then [] else list_cuts (with_flags (take n is) (take n gs))))
next_fate text all_gone all_cuts r rs is gs gone cuts fates =
    let k = length gone in
    let n = leading k is in
    let first = list_all (λ g. g) (take n gs) && not (is_fixed_by text k r (take n is)) in
    let list = if is_fixed_by text k r (take n is) then [] else list_cuts (with_flags (take n is) (take n gs)) in
    let number : length (gone ++ first ∷ []) ≡ suc k = length_push gone first ∙ add-one k in
    let fs = with_flags (drop n is) (drop n gs) in
    record {
      count = left_over n is gs fates.count;
      order = rw number (later_order k is fates.order);
      gone_rest = rw (number, ← add-one k, append_assoc gone (first ∷ []) (gone_rules text (k + 1) rs fs), ← gone_first text k r rs is gs fates.order fates.count) fates.gone_rest;
      cuts_rest = rw (number, ← add-one k, append_assoc cuts list (lists_cuts text (k + 1) rs fs), ← cuts_first text k r rs is gs fates.order fates.count) fates.cuts_rest;
    }

-- the same for lists of the code
pub fate_told : (text : List ℕ) (all_gone : List Bool) (all_cuts : List Range) (r : Range) (rs : List Range) (items : List SheetItem) (gs : List Bool) (gone : List Bool) (cuts : List Range)
    (rules : List Range) (list later : List SheetItem) (flags later_flags : List Bool) (k n : ℕ) (new_gone : List Bool) (new_cuts : List Range)
    → AreFates text all_gone all_cuts rules (map item_of items) gs gone cuts → rules ≡ r ∷ rs → n ≡ leading k (map item_of items) → k ≡ length gone
    → list ≡ take n items → later ≡ drop n items → flags ≡ take n gs → later_flags ≡ drop n gs
    → new_gone ≡ gone ++ (list_all (λ g. g) flags && not (is_fixed_by text (length gone) r (map item_of list))) ∷ []
    → new_cuts ≡ cuts ++ (if is_fixed_by text (length gone) r (map item_of list) then [] else list_cuts (flagged list flags))
    → AreFates text all_gone all_cuts rs (map item_of later) later_flags new_gone new_cuts
fate_told text all_gone all_cuts r rs items gs gone cuts rules list later flags later_flags k n new_gone new_cuts fates first number rule is_list is_later is_flags is_later_flags is_gone is_cuts =
    let before = rw first at fates in
    rw (is_gone, is_cuts, is_list, is_later, is_flags, is_later_flags, ← take-map item_of n items, ← drop-map item_of n items, number, rule) (next_fate text all_gone all_cuts r rs (map item_of items) gs gone cuts before)

pub all_fates : (text : List ℕ) (all_gone : List Bool) (all_cuts : List Range) (rules : List Range) (is : List Item) (gs : List Bool) (gone : List Bool) (cuts : List Range)
    → AreFates text all_gone all_cuts rules is gs gone cuts → length rules ≡ 0 → (gone ≡ all_gone) × (cuts ≡ all_cuts)
unfolding gone_rules lists_cuts
all_fates text all_gone all_cuts (r ∷ rs) is gs gone cuts fates none = absurd (omega arith)
all_fates text all_gone all_cuts [] is gs gone cuts fates none = (sym (append-nil gone) ∙ fates.gone_rest, sym (append-nil cuts) ∙ fates.cuts_rest)
