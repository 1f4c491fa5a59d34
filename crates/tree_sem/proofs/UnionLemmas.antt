-- Classes that are added to labels one after another, of which some may have them already.
use Rattle.std.proofs.Common.{◌≡◌, ◌⊎◌, ℕ, zero, suc, ◌<◌, ◌≤◌, List, [], ◌∷◌, length, map, drop, get_or, Contains, Option, Some, None, unwrap_or, refl, sym, ap, ◌∙◌, subst, inl, inr, arith, length-drop}
use Rattle.std.proofs.lemmas.Bool.{cases_eq}
use Rattle.std.proofs.lemmas.List.{length-map}
use Rattle.std.specs.List.Sorted.{IsStrictlyIncreasing}
use Rattle.tp_base.specs.Classes.{union_of}
use Rattle.tp_base.proofs.Rising.{All-from_Contains}
use Rattle.tp_base.proofs.ClassLemmas.{IsStrictlyIncreasing-union_of, union_of-keeps_right, union_of-within}
use Rattle.slab.specs.Slab.{Slab}
use Rattle.tree_sem.specs.declared.slots.Slot.{Slot}
use Rattle.tree_sem.specs.Table.{kids_in, label_in, parent_in, tree_in, united, IsForest, IsTable, IsChanged}
use Rattle.tree_sem.specs.Arena.{place_from}
use Rattle.tree_sem.specs.Trees.{edit_at}
use Rattle.tree_sem.specs.Nodes.{IsNode}
use Rattle.tree_sem.specs.Actions.{add_classes}
use Rattle.tree_sem.proofs.TableLemmas.{label_there, no_node, not_there}
use Rattle.tree_sem.proofs.ChangeLemmas.{label_stays, kids_stay, relabelled_tree, table_relabelled}

pub union_twice : (xs ys : List ℕ) → IsStrictlyIncreasing xs → union_of (union_of xs ys) ys ≡ union_of xs ys
union_twice xs ys up = union_of-within (union_of xs ys) ys (IsStrictlyIncreasing-union_of xs ys up) (All-from_Contains (Contains (union_of xs ys)) ys (λ a is. union_of-keeps_right xs ys a is))

-- the same nodes, where some labels have the classes too
pub record IsUniting (old new : Slab Slot) (classes : List ℕ) : Type 0 where
  pub children : (i : ℕ) → kids_in new i ≡ kids_in old i
  pub labels : (i : ℕ) → (label_in new i ≡ label_in old i) ⊎ (label_in new i ≡ union_of (label_in old i) classes)

pub uniting_itself : (slots : Slab Slot) (classes : List ℕ) → IsUniting slots slots classes
uniting_itself slots classes = record { children = λ i. refl; labels = λ i. inl refl }

module _ (old mid new : Slab Slot) (classes : List ℕ) (place : ℕ) (table : IsTable old) (soFar : IsUniting old mid classes) where
  -- whether or not the label has the classes
  pub united_same : union_of (label_in mid place) classes ≡ union_of (label_in old place) classes
  united_same = elim (soFar.labels place) [
    | inl same ↦ ap (λ l. union_of l classes) same
    | inr done ↦ ap (λ l. union_of l classes) done ∙ union_twice (label_in old place) classes (table.forest.rising place)
  ]

  pub uniting_more : IsChanged mid new place (union_of (label_in old place) classes) (kids_in mid place) (parent_in mid place) → IsUniting old new classes
  uniting_more change = record {
    children = λ i. elim (cases_eq i place) [
      | inl same ↦ ap (kids_in new) same ∙ change.children ∙ ap (kids_in mid) (sym same) ∙ soFar.children i
      | inr other ↦ kids_stay mid new i (change.others i other) ∙ soFar.children i
    ];
    labels = λ i. elim (cases_eq i place) [
      | inl same ↦ inr (ap (label_in new) same ∙ change.label ∙ ap (λ j. union_of (label_in old j) classes) (sym same))
      | inr other ↦ elim (soFar.labels i) [ inl same ↦ inl (label_stays mid new i (change.others i other) ∙ same) | inr done ↦ inr (label_stays mid new i (change.others i other) ∙ done) ]
    ];
  }

-- the label at a path, united
pub united_there : (slots : Slab Slot) → IsForest slots → (classes p : List ℕ) (j : ℕ) → Some j ≡ place_from (kids_in slots) 0 p → united slots classes p ≡ union_of (label_in slots j) classes
united_there slots forest classes p j at = ap (λ o. union_of (unwrap_or o []) classes) (label_there slots forest p j at)

-- a node that is there has a place
pub placed : (slots : Slab Slot) → IsForest slots → (p : List ℕ) → IsNode (tree_in slots 0) p → (j : ℕ) × (Some j ≡ place_from (kids_in slots) 0 p)
placed slots forest p is = by (place_from (kids_in slots) 0 p) refl
  where
    by : (o : Option ℕ) → o ≡ place_from (kids_in slots) 0 p → (j : ℕ) × (Some j ≡ place_from (kids_in slots) 0 p)
    by None e = absurd (not_there _ (no_node slots forest p e) is)
    by (Some j) e = (j, e)

-- the next of some values that are left
pub next_left : {X Y : Type 0} (f : X → Y) (xs : List X) (n : ℕ) (d : X) (y : Y) (rest : List Y) → y ∷ rest ≡ drop n (map f xs) → (n < length xs) × (y ≡ f (get_or xs n d)) × (rest ≡ drop (suc n) (map f xs))
next_left f [] zero d y rest is = cc
next_left f [] (suc n) d y rest is = cc
next_left f (x ∷ xs) zero d y rest is = (omega arith, cc, cc)
next_left f (x ∷ xs) (suc n) d y rest is = let found = next_left f xs n d y rest is in (omega (arith, found.0), found.1, found.2)

pub none_left : {X Y : Type 0} (f : X → Y) (xs : List X) (n : ℕ) (rest : List Y) → rest ≡ drop n (map f xs) → length rest ≡ 0 → length xs ≤ n
none_left f xs n rest is none = let count : length (drop n (map f xs)) ≡ 0 = ap length (sym is) ∙ none in omega (arith, count, length-drop n (map f xs), length-map xs f)

-- One label more: the next node of the paths gets the label that was made for it.
module _ (old mid new : Slab Slot) (classes p label : List ℕ) (table : IsTable old) (mid_table : IsTable mid) (soFar : IsUniting old mid classes) (is : IsNode (tree_in old 0) p) (made : label ≡ united old classes p)
    (write : (place : ℕ) → Some place ≡ place_from (kids_in mid) 0 p → IsChanged mid new place label (kids_in mid place) (parent_in mid place)) where
  abbrev j : ℕ
  j = (placed old table.forest p is).0

  at_old : Some j ≡ place_from (kids_in old) 0 p
  at_old = (placed old table.forest p is).1

  at_mid : Some j ≡ place_from (kids_in mid) 0 p
  at_mid = let kids : kids_in mid ≡ kids_in old = λ x i. soFar.children i x in rw kids at_old

  label_made : label ≡ union_of (label_in old j) classes
  label_made = made ∙ united_there old table.forest classes p j at_old

  change : IsChanged mid new j (union_of (label_in mid j) classes) (kids_in mid j) (parent_in mid j)
  change = subst (λ l. IsChanged mid new j l (kids_in mid j) (parent_in mid j)) (label_made ∙ sym (united_same old mid new classes j table soFar)) (write j at_mid)

  rises : IsStrictlyIncreasing (union_of (label_in mid j) classes)
  rises = IsStrictlyIncreasing-union_of (label_in mid j) classes (mid_table.forest.rising j)

  pub next_tree : tree_in new 0 ≡ edit_at p (add_classes classes) (tree_in mid 0)
  next_tree = relabelled_tree mid new j (union_of (label_in mid j) classes) mid_table.forest change rises (λ l. union_of l classes) refl p (sym at_mid)

  pub next_table : IsTable new
  next_table = table_relabelled mid new j (union_of (label_in mid j) classes) mid_table change rises (λ l. union_of l classes) refl p (sym at_mid)

  pub next_uniting : IsUniting old new classes
  next_uniting = uniting_more old mid new classes j table soFar (subst (λ l. IsChanged mid new j l (kids_in mid j) (parent_in mid j)) label_made (write j at_mid))
