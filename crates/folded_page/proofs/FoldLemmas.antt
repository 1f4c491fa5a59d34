-- The folded tree with one node of the page more, and when the last one is in it.
use Rattle.std.proofs.Common.{◌≡◌, ◌≢◌, ℕ, zero, suc, ◌+◌, ◌<◌, ◌≤◌, if◌then◌else◌, List, [], ◌∷◌, ◌++◌, length, get_or, Some, refl, sym, ap, ◌∙◌, subst, inl, inr, arith, length-append}
use Rattle.std.proofs.lemmas.Bool.{cases_lt, eq-eqb, ne_eqb}
use Rattle.std.proofs.lemmas.List.{get_or_append_left, get_or_push}
use Rattle.tree_sem.specs.Trees.{LabelTree, leaf, count_of, label_at}
use Rattle.tree_sem.specs.Nodes.{IsNode}
use Rattle.tree_sem.proofs.PathLemmas.{same_parent}
use Rattle.node_marks.specs.Marks.{path_at}
use Rattle.node_marks.specs.Numbering.{parent_number, IsNumbering}
use Rattle.node_marks.proofs.NumberLemmas.{node_there, number_there, one_number}
use Rattle.folded_page.specs.Folding.{image_at, IsFolded}
use Rattle.folded_page.specs.Leads.{lead_of, own_count, AreLeads, HasChildLed}
use Rattle.folded_page.specs.Built.{IsAddedLast, AreFoldable, IsFoldedTo}
use Rattle.folded_page.proofs.LastLemmas.{count_more, path_kept, path_more}

push_length : (xs : List ℕ) (x : ℕ) → length (xs ++ x ∷ []) ≡ suc (length xs)
push_length xs x = let long = length-append xs (x ∷ []) in omega (arith, long)

-- one node more is its own lead, or isn't
pub own_more : (leads : List ℕ) (m : ℕ) → lead_of leads m ≡ m → own_count leads (suc m) ≡ suc (own_count leads m)
own_more leads m itself = let one = ap (λ b. own_count leads m + (if b then 1 else 0)) (eq-eqb (lead_of leads m) m itself) in omega (arith, one)

pub own_same : (leads : List ℕ) (m : ℕ) → lead_of leads m ≢ m → own_count leads (suc m) ≡ own_count leads m
own_same leads m other = let none = ap (λ b. own_count leads m + (if b then 1 else 0)) (ne_eqb (lead_of leads m) m other) in omega (arith, none)

-- the root alone
pub folded_first : (parents leads : List ℕ) (labels : List (List ℕ)) → AreFoldable parents leads labels → IsFoldedTo parents leads labels (leaf (get_or labels 0 [])) (0 ∷ [])
folded_first parents leads labels are = record {
  within = λ i lt. let first : i ≡ 0 = omega (arith, lt) in subst (λ k. get_or (0 ∷ []) k 0 < 1) (sym first) (omega arith);
  few = let early = are.are_leads.early 0 are.some in sym (own_more leads 0 (omega (arith, early)));
  root = refl;
  led = λ i lt.
      let first : i ≡ 0 = omega (arith, lt) in
      let early = are.are_leads.early 0 are.some in
      let same : lead_of leads i ≡ i = ap (lead_of leads) first ∙ omega (arith, early, first) in
      ap (λ k. get_or (0 ∷ []) k 0) same;
  label = λ i lt.
      let first : i ≡ 0 = omega (arith, lt) in
      subst (λ k. label_at (image_at (leaf (get_or labels 0 [])) (0 ∷ []) k) (leaf (get_or labels 0 [])) ≡ Some (get_or labels k [])) (sym first) refl;
  above = λ i some lt itself. absurd (omega (arith, some, lt));
  image = λ k lt.
      let first : 0 ≡ k = omega (arith, lt) in
      let early = are.are_leads.early 0 are.some in
      (0, omega arith, omega (arith, early), first);
  once = λ c d lt lt' one other same. omega (arith, lt, lt');
}

module _ (parents leads : List ℕ) (labels : List (List ℕ)) (are : AreFoldable parents leads labels) (u : LabelTree) (numbers : List ℕ) (so : IsFoldedTo parents leads labels u numbers) (less : length numbers < length parents) where
  early : (i : ℕ) → i < suc (length numbers) → lead_of leads i ≤ i
  early i lt = are.are_leads.early i (omega (arith, lt, less))

  -- a node with another one for its lead
  module _ (led : lead_of leads (length numbers) < length numbers) where
    pub folded_same : (numbers' : List ℕ) → numbers' ≡ numbers ++ get_or numbers (lead_of leads (length numbers)) 0 ∷ [] → IsFoldedTo parents leads labels u numbers'
    folded_same numbers' is =
        let x = get_or numbers (lead_of leads (length numbers)) 0 in
        let count : length numbers' ≡ suc (length numbers) = ap length is ∙ push_length numbers x in
        let old : (i : ℕ) → i < length numbers → get_or numbers' i 0 ≡ get_or numbers i 0 = λ i lt. ap (λ xs. get_or xs i 0) is ∙ get_or_append_left numbers (x ∷ []) 0 i lt in
        let last : (i : ℕ) → i ≡ length numbers → get_or numbers' i 0 ≡ get_or numbers (lead_of leads (length numbers)) 0 = λ i at. ap (λ xs. get_or xs i 0) is ∙ get_or_push numbers x 0 i (sym at) in
        record {
          within = λ i lt. elim (cases_lt i (length numbers)) [
            | inl before ↦ subst (λ k. k < count_of u) (sym (old i before)) (so.within i before)
            | inr behind ↦ subst (λ k. k < count_of u) (sym (last i (omega (arith, behind, lt, count)))) (so.within (lead_of leads (length numbers)) led)
          ];
          few = so.few ∙ sym (own_same leads (length numbers) (λ itself. omega (arith, itself, led))) ∙ sym (ap (own_count leads) count);
          root = old 0 (omega (arith, led)) ∙ so.root;
          led = λ i lt. elim (cases_lt i (length numbers)) [
            | inl before ↦
                let low = early i (omega (arith, before)) in
                old (lead_of leads i) (omega (arith, low, before)) ∙ so.led i before ∙ sym (old i before)
            | inr behind ↦
                let at : i ≡ length numbers = omega (arith, behind, lt, count) in
                ap (λ k. get_or numbers' (lead_of leads k) 0) at ∙ old (lead_of leads (length numbers)) led ∙ sym (last i at)
          ];
          label = λ i lt. elim (cases_lt i (length numbers)) [
            | inl before ↦ subst (λ k. label_at (path_at u k) u ≡ Some (get_or labels i [])) (sym (old i before)) (so.label i before)
            | inr behind ↦
                let at : i ≡ length numbers = omega (arith, behind, lt, count) in
                ap (λ k. label_at (path_at u k) u) (last i at) ∙ so.label (lead_of leads (length numbers)) led ∙ ap Some (are.are_leads.label (length numbers) less ∙ ap (λ k. get_or labels k []) (sym at))
          ];
          above = λ i some lt itself. elim (cases_lt i (length numbers)) [
            | inl before ↦
                let smaller = are.smaller i some (omega (arith, before, less)) in
                let up = so.above i some before itself in
                (up.0, ap (path_at u) (old i before) ∙ up.1 ∙ ap (λ k. path_at u k ++ up.0 ∷ []) (sym (old (parent_number parents i) (omega (arith, smaller, before)))))
            | inr behind ↦
                let at : i ≡ length numbers = omega (arith, behind, lt, count) in
                let itself' : lead_of leads (length numbers) ≡ length numbers = subst (λ k. lead_of leads k ≡ k) at itself in
                absurd (omega (arith, itself', led))
          ];
          image = λ k lt. let c = so.image k lt in let low = c.1 in (c.0, omega (arith, low, count), c.2, old c.0 c.1 ∙ c.3);
          once = λ c d lt lt' itself itself' same. elim (cases_lt c (length numbers)) [
            | inl before ↦ elim (cases_lt d (length numbers)) [
              | inl before' ↦ so.once c d before before' itself itself' (sym (old c before) ∙ same ∙ old d before')
              | inr behind' ↦
                  let at : d ≡ length numbers = omega (arith, behind', lt', count) in
                  let its : lead_of leads (length numbers) ≡ length numbers = subst (λ k. lead_of leads k ≡ k) at itself' in
                  absurd (omega (arith, its, led))
            ]
            | inr behind ↦
                let at : c ≡ length numbers = omega (arith, behind, lt, count) in
                let its : lead_of leads (length numbers) ≡ length numbers = subst (λ k. lead_of leads k ≡ k) at itself in
                absurd (omega (arith, its, led))
          ];
        }

  -- a node that is its own lead
  module _ (first : length numbers ≤ lead_of leads (length numbers)) (some : 0 < length numbers) where
    its_own : lead_of leads (length numbers) ≡ length numbers
    its_own = let low = early (length numbers) (omega arith) in omega (arith, low, first)

    pub folded_more : (u' : LabelTree) → IsAddedLast u u' (path_at u (get_or numbers (parent_number parents (length numbers)) 0)) (get_or labels (length numbers) [])
        → (numbers' : List ℕ) → numbers' ≡ numbers ++ count_of u ∷ [] → IsFoldedTo parents leads labels u' numbers'
    folded_more u' added numbers' is =
        let w = path_at u (get_or numbers (parent_number parents (length numbers)) 0) ++ added.step ∷ [] in
        let count : length numbers' ≡ suc (length numbers) = ap length is ∙ push_length numbers (count_of u) in
        let old : (i : ℕ) → i < length numbers → get_or numbers' i 0 ≡ get_or numbers i 0 = λ i lt. ap (λ xs. get_or xs i 0) is ∙ get_or_append_left numbers (count_of u ∷ []) 0 i lt in
        let last : (i : ℕ) → i ≡ length numbers → get_or numbers' i 0 ≡ count_of u = λ i at. ap (λ xs. get_or xs i 0) is ∙ get_or_push numbers (count_of u) 0 i (sym at) in
        let nodes : count_of u' ≡ suc (count_of u) = count_more u u' w added.paths in
        let kept : (i : ℕ) → i < length numbers → image_at u' numbers' i ≡ image_at u numbers i = λ i lt. ap (path_at u') (old i lt) ∙ path_kept u u' w added.paths (get_or numbers i 0) (so.within i lt) in
        let made : (i : ℕ) → i ≡ length numbers → image_at u' numbers' i ≡ w = λ i at. ap (path_at u') (last i at) ∙ path_more u u' w added.paths in
        record {
          within = λ i lt. elim (cases_lt i (length numbers)) [
            | inl before ↦ let low = so.within i before in let same = old i before in omega (arith, low, same, nodes)
            | inr behind ↦ let same = last i (omega (arith, behind, lt, count)) in omega (arith, same, nodes)
          ];
          few = nodes ∙ ap suc so.few ∙ sym (own_more leads (length numbers) its_own) ∙ sym (ap (own_count leads) count);
          root = old 0 some ∙ so.root;
          led = λ i lt. elim (cases_lt i (length numbers)) [
            | inl before ↦
                let low = early i (omega (arith, before)) in
                old (lead_of leads i) (omega (arith, low, before)) ∙ so.led i before ∙ sym (old i before)
            | inr behind ↦
                let at : i ≡ length numbers = omega (arith, behind, lt, count) in
                ap (λ k. get_or numbers' k 0) (ap (lead_of leads) at ∙ its_own ∙ sym at)
          ];
          label = λ i lt. elim (cases_lt i (length numbers)) [
            | inl before ↦ ap (λ v. label_at v u') (kept i before) ∙ added.kept (image_at u numbers i) (node_there u (get_or numbers i 0) (so.within i before)) ∙ so.label i before
            | inr behind ↦
                let at : i ≡ length numbers = omega (arith, behind, lt, count) in
                ap (λ v. label_at v u') (made i at) ∙ added.label ∙ ap (λ k. Some (get_or labels k [])) (sym at)
          ];
          above = λ i some' lt itself. elim (cases_lt i (length numbers)) [
            | inl before ↦
                let smaller = are.smaller i some' (omega (arith, before, less)) in
                let up = so.above i some' before itself in
                (up.0, kept i before ∙ up.1 ∙ ap (λ v. v ++ up.0 ∷ []) (sym (kept (parent_number parents i) (omega (arith, smaller, before)))))
            | inr behind ↦
                let at : i ≡ length numbers = omega (arith, behind, lt, count) in
                let smaller = are.smaller i some' (omega (arith, at, less)) in
                (added.step, made i at ∙ ap (λ v. v ++ added.step ∷ []) (sym (kept (parent_number parents i) (omega (arith, smaller, at)) ∙ ap (λ k. image_at u numbers (parent_number parents k)) at)))
          ];
          image = λ k lt. elim (cases_lt k (count_of u)) [
            | inl before ↦ let c = so.image k before in let low = c.1 in (c.0, omega (arith, low, count), c.2, old c.0 c.1 ∙ c.3)
            | inr behind ↦ (length numbers, omega (arith, count), its_own, last (length numbers) refl ∙ omega (arith, behind, lt, nodes))
          ];
          once = λ c d lt lt' itself itself' same. elim (cases_lt c (length numbers)) [
            | inl before ↦ elim (cases_lt d (length numbers)) [
              | inl before' ↦ so.once c d before before' itself itself' (sym (old c before) ∙ same ∙ old d before')
              | inr behind' ↦
                  let low = so.within c before in
                  let here = old c before in
                  let there = last d (omega (arith, behind', lt', count)) in
                  absurd (omega (arith, low, here, there, same))
            ]
            | inr behind ↦ elim (cases_lt d (length numbers)) [
              | inl before' ↦
                  let low = so.within d before' in
                  let here = old d before' in
                  let there = last c (omega (arith, behind, lt, count)) in
                  absurd (omega (arith, low, here, there, same))
              | inr behind' ↦ omega (arith, behind, behind', lt, lt', count)
            ]
          ];
        }

-- the number of a node with a parent
not_root : (t : LabelTree) (i : ℕ) (v : List ℕ) (k : ℕ) → path_at t i ≡ v ++ k ∷ [] → 0 < i
not_root t zero v k at = let long = ap length at in let long' = length-append v (k ∷ []) in absurd (omega (arith, long, long'))
not_root t (suc i) v k at = omega arith

-- the whole page
module _ (t u : LabelTree) (parents steps leads numbers : List ℕ) (labels : List (List ℕ)) (numbered : IsNumbering t parents steps labels) (are : AreLeads parents labels leads) (so : IsFoldedTo parents leads labels u numbers) (whole : length numbers ≡ length parents) where
  count : length numbers ≡ count_of t
  count = whole ∙ numbered.parents_count

  within : (i : ℕ) → i < count_of t → i < length numbers
  within i lt = let same = count in omega (arith, same, lt)

  page : (i : ℕ) → i < count_of t → i < length parents
  page i lt = let same = numbered.parents_count in omega (arith, same, lt)

  -- the parent of a node, by its path
  parent_is : (i p n : ℕ) → i < count_of t → p < count_of t → path_at t i ≡ path_at t p ++ n ∷ [] → (0 < i) × (parent_number parents i ≡ p)
  parent_is i p n lt lt' at =
      let some = not_root t i (path_at t p) n at in
      let smaller = numbered.smaller i some (page i lt) in
      (some, one_number t (parent_number parents i) p (omega (arith, smaller, lt)) lt' (same_parent (path_at t (parent_number parents i)) (path_at t p) (get_or steps i 0) n (sym (numbered.above i some lt) ∙ at)))

  -- a node has the image of its lead
  image_led : (i : ℕ) → i < count_of t → image_at u numbers (lead_of leads i) ≡ image_at u numbers i
  image_led i lt = ap (path_at u) (so.led i (within i lt))

  above : (i p n : ℕ) → i < count_of t → p < count_of t → path_at t i ≡ path_at t p ++ n ∷ [] → (m : ℕ) × (image_at u numbers i ≡ image_at u numbers p ++ m ∷ [])
  above i p n lt lt' at =
      let parent = parent_is i p n lt lt' at in
      let low = are.early i (page i lt) in
      let some = are.proper i parent.0 (page i lt) in
      let up = so.above (lead_of leads i) some (within (lead_of leads i) (omega (arith, low, lt))) (are.itself i (page i lt)) in
      (up.0, sym (image_led i lt) ∙ up.1 ∙ ap (λ v. v ++ up.0 ∷ []) (ap (image_at u numbers) (are.above i parent.0 (page i lt) ∙ ap (lead_of leads) parent.1) ∙ image_led p lt'))

  -- a node whose image is below another one isn't the root
  not_first : (i m c : ℕ) → image_at u numbers c ≡ image_at u numbers i ++ m ∷ [] → 0 < c
  not_first i m zero at =
      let none : [] ≡ image_at u numbers i ++ m ∷ [] = sym (ap (path_at u) so.root) ∙ at in
      let long = ap length none in
      let long' = length-append (image_at u numbers i) (m ∷ []) in
      absurd (omega (arith, long, long'))
  not_first i m (suc c) at = omega arith

  -- a lead whose image is below that of a node is below the node's lead
  lead_below : (i m c : ℕ) → i < count_of t → 0 < c → c < count_of t → lead_of leads c ≡ c → image_at u numbers c ≡ image_at u numbers i ++ m ∷ [] → parent_number parents c ≡ lead_of leads i
  lead_below i m c lt some lt' itself at =
      let up = so.above c some (within c lt') itself in
      let smaller = numbered.smaller c some (page c lt') in
      let p_in : parent_number parents c < count_of t = omega (arith, smaller, lt') in
      let low = are.early i (page i lt) in
      let l_in : lead_of leads i < count_of t = omega (arith, low, lt) in
      let same : image_at u numbers (parent_number parents c) ≡ image_at u numbers (lead_of leads i) = same_parent (image_at u numbers (parent_number parents c)) (image_at u numbers i) up.0 m (sym up.1 ∙ at) ∙ sym (image_led i lt) in
      let number = one_number u (get_or numbers (parent_number parents c) 0) (get_or numbers (lead_of leads i) 0) (so.within (parent_number parents c) (within (parent_number parents c) p_in)) (so.within (lead_of leads i) (within (lead_of leads i) l_in)) same in
      let led : lead_of leads (parent_number parents c) ≡ parent_number parents c = sym (are.above c some (page c lt')) ∙ ap (parent_number parents) itself in
      so.once (parent_number parents c) (lead_of leads i) (within (parent_number parents c) p_in) (within (lead_of leads i) l_in) led (are.itself i (page i lt)) number

  -- and stands for a child of the node
  child_led : (i m c : ℕ) → HasChildLed parents leads i c → image_at u numbers c ≡ image_at u numbers i ++ m ∷ [] → (d : ℕ) × (n : ℕ) × (d < count_of t) × (path_at t d ≡ path_at t i ++ n ∷ []) × (image_at u numbers d ≡ image_at u numbers i ++ m ∷ [])
  child_led i m c has at =
      let child_in = has.within in
      let nodes = numbered.parents_count in
      let in_page : has.child < count_of t = omega (arith, child_in, nodes) in
      let place = numbered.above has.child has.some in_page in
      let path : path_at t has.child ≡ path_at t i ++ get_or steps has.child 0 ∷ [] = subst (λ k. path_at t has.child ≡ path_at t k ++ get_or steps has.child 0 ∷ []) has.below place in
      let led : image_at u numbers c ≡ image_at u numbers has.child = subst (λ k. image_at u numbers k ≡ image_at u numbers has.child) has.led (image_led has.child in_page) in
      (has.child, get_or steps has.child 0, in_page, path, sym led ∙ at)

  below : (i m : ℕ) → i < count_of t → IsNode u (image_at u numbers i ++ m ∷ []) → (c : ℕ) × (n : ℕ) × (c < count_of t) × (path_at t c ≡ path_at t i ++ n ∷ []) × (image_at u numbers c ≡ image_at u numbers i ++ m ∷ [])
  below i m lt node = by_number (number_there u (image_at u numbers i ++ m ∷ []) node)
    where
      by_lead : (c : ℕ) → c < length numbers → lead_of leads c ≡ c → image_at u numbers c ≡ image_at u numbers i ++ m ∷ []
          → (c : ℕ) × (n : ℕ) × (c < count_of t) × (path_at t c ≡ path_at t i ++ n ∷ []) × (image_at u numbers c ≡ image_at u numbers i ++ m ∷ [])
      by_lead c c_in itself at =
          let same = count in
          let lt' : c < count_of t = omega (arith, c_in, same) in
          let some = not_first i m c at in
          child_led i m c (are.below i c (page i lt) some (page c lt') itself (lead_below i m c lt some lt' itself at)) at

      by_number : (k : ℕ) × (k < count_of u) × (path_at u k ≡ image_at u numbers i ++ m ∷ []) → (c : ℕ) × (n : ℕ) × (c < count_of t) × (path_at t c ≡ path_at t i ++ n ∷ []) × (image_at u numbers c ≡ image_at u numbers i ++ m ∷ [])
      by_number found = let made = so.image found.0 found.1 in by_lead made.0 made.1 made.2 (ap (path_at u) made.3 ∙ found.2)

  pub folded_whole : IsFolded t u numbers
  folded_whole = record {
    count = count;
    within = λ i lt. so.within i (within i lt);
    root = so.root;
    label = λ i lt. so.label i (within i lt) ∙ sym (numbered.label i lt);
    above = above;
    below = below;
  }
