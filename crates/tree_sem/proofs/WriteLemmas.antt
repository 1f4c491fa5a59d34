-- What writes to the table of slots do.
use Rattle.std.proofs.Common.{◌≡◌, ◌≢◌, ℕ, ◌+◌, List, [], ◌∷◌, ◌++◌, Option, Some, None, IsSome, is_some, cond, option_map, option_and_then, unwrap_or, refl, sym, ap, ◌∙◌, subst, arith}
use Rattle.std.proofs.lemmas.List.Sums.{sum_by-set}
use Rattle.slab.specs.Slab.{Slab, get, ContainsKey, slab_len, with_value, Updates}
use Rattle.slab.proofs.SlabLemmas.{ContainsKey-within, Updates-with_value}
use Rattle.tree_sem.specs.declared.slots.Slot.{Slot}
use Rattle.tree_sem.specs.Table.{kids_in, label_in, parent_in, IsChanged, IsGrown}
use Rattle.tree_sem.proofs.RowLemmas.{there}

-- what the table says of a slot that was read
module _ (slots : Slab Slot) (i : ℕ) (s : Slot) (at : get slots i ≡ Some s) where
  pub label_is : label_in slots i ≡ s.label
  label_is = ap (λ o. unwrap_or (option_map (λ (z : Slot). z.label) o) []) at

  pub kids_are : kids_in slots i ≡ s.children.items
  kids_are = ap (λ o. unwrap_or (option_map (λ (z : Slot). z.children.items) o) []) at

  pub parent_is : parent_in slots i ≡ s.parent
  parent_is = ap (λ o. option_and_then (λ (z : Slot). z.parent) o) at

  pub is_there : ContainsKey slots i
  is_there = subst (λ o. IsSome o) (sym at) refl

-- a write at a slot that is there keeps the count
abbrev counted : Option Slot → ℕ
counted o = cond (is_some o) 1 0

pub len-with_value : (slots : Slab Slot) (place : ℕ) (s : Slot) → ContainsKey slots place → slab_len (with_value slots place s) ≡ slab_len slots
len-with_value slots place s here =
    let was = there (get slots place) here in
    let one : counted (get slots place) ≡ counted (Some was.0) = ap counted was.1 in
    omega (arith, one, sum_by-set counted slots.slots place (Some s) None (ContainsKey-within slots place here))

-- a slot with another label, other children or another parent
pub changed_by_write : (old : Slab Slot) (place : ℕ) (s : Slot) (l cs : List ℕ) (above : Option ℕ) → ContainsKey old place → s.label ≡ l → s.children.items ≡ cs → s.parent ≡ above
    → IsChanged old (with_value old place s) place l cs above
changed_by_write old place s l cs above here label children parent =
    let writes = Updates-with_value old place s here in
    let new = with_value old place s in
    record {
      count = len-with_value old place s here;
      here = is_there new place s writes.changed;
      label = label_is new place s writes.changed ∙ label;
      children = kids_are new place s writes.changed ∙ children;
      parent = parent_is new place s writes.changed ∙ parent;
      others = writes.others;
    }

-- what was put back at a place stays there while another slot is taken
pub back_there : (old mid : Slab Slot) (place child : ℕ) (was first node : Slot) → get old place ≡ Some was → get (with_value old place first) child ≡ None → Updates (with_value old place first) mid child (Some node)
    → get mid place ≡ Some first
back_there old mid place child was first node at free inserts =
    let one = Updates-with_value old place first (is_there old place was at) in
    inserts.others place (λ same. let never : Some first ≡ None = sym one.changed ∙ ap (get (with_value old place first)) same ∙ free in cc) ∙ one.changed

-- one node more: its parent's list gets room, then it its slot, and then the list its number
pub grown_by_writes : (old mid : Slab Slot) (place child : ℕ) (was first node again last : Slot) (l : List ℕ) → get old place ≡ Some was → first.label ≡ was.label → first.children.items ≡ was.children.items
    → first.parent ≡ was.parent → get (with_value old place first) child ≡ None → Updates (with_value old place first) mid child (Some node) → slab_len mid ≡ slab_len (with_value old place first) + 1
    → node.label ≡ l → node.children.items ≡ [] → node.parent ≡ Some place → get mid place ≡ Some again → last.label ≡ again.label → last.children.items ≡ again.children.items ++ child ∷ []
    → last.parent ≡ again.parent → IsGrown old (with_value mid place last) place child l
grown_by_writes old mid place child was first node again last l at first_label first_kids first_parent free inserts count label bare up reads last_label last_kids last_parent =
    let here = is_there old place was at in
    let one = Updates-with_value old place first here in
    let apart : child ≢ place = λ same. let never : Some first ≡ None = sym one.changed ∙ ap (get (with_value old place first)) (sym same) ∙ free in cc in
    let mid_place = back_there old mid place child was first node at free inserts in
    let both : Some again ≡ Some first = sym reads ∙ mid_place in
    let same : again ≡ first = cc in
    let two = Updates-with_value mid place last (is_there mid place again reads) in
    let new = with_value mid place last in
    let new_child : get new child ≡ Some node = two.others child apart ∙ inserts.changed in
    record {
      count = len-with_value mid place last (is_there mid place again reads) ∙ count ∙ ap (λ n. n + 1) (len-with_value old place first here);
      fresh = sym (one.others child apart) ∙ free;
      new_label = label_is new child node new_child ∙ label;
      new_children = kids_are new child node new_child ∙ bare;
      new_parent = parent_is new child node new_child ∙ up;
      here = is_there new place last two.changed;
      label = label_is new place last two.changed ∙ last_label ∙ ap (λ (z : Slot). z.label) same ∙ first_label ∙ sym (label_is old place was at);
      children = kids_are new place last two.changed ∙ last_kids ∙ ap (λ z. z ++ child ∷ []) (ap (λ (z : Slot). z.children.items) same ∙ first_kids ∙ sym (kids_are old place was at));
      parent = parent_is new place last two.changed ∙ last_parent ∙ ap (λ (z : Slot). z.parent) same ∙ first_parent ∙ sym (parent_is old place was at);
      others = λ i not_child not_place. two.others i not_place ∙ inserts.others i not_child ∙ one.others i not_place;
    }
