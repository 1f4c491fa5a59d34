-- One node of the page more, as the code enters it.
use Rattle.std.proofs.Common.{◌≡◌, ℕ, ◌+◌, ◌/◌, ◌<◌, ◌≤◌, List, [], ◌∷◌, ◌++◌, length, map, get_or, Option, Some, None, Result, Ok, Err, IfOk, IfSome, sym, ap, ◌∙◌, subst, arith, length-append}
use Rattle.std.proofs.lemmas.List.{get_or_read, get_or-map}
use Rattle.tree_sem.specs.Trees.{leaf, count_of}
use Rattle.tree_sem.specs.Growing.{GrowingTree}
use Rattle.node_marks.specs.Marks.{path_at}
use Rattle.node_marks.specs.Numbering.{parent_number}
use Rattle.folded_page.specs.Leads.{lead_of, own_count, AreLeads}
use Rattle.folded_page.specs.Built.{IsAddedLast, IsInOrder, AreFoldable, IsFolding}
use Rattle.folded_page.proofs.FoldLemmas.{folded_first, folded_same, folded_more}

-- the label of a number
pub label_there : {X : Type 0} (f : X → List ℕ) (xs : List X) (i : ℕ) (x : X) → i < length xs → x ≡ get_or xs i x → get_or (map f xs) i [] ≡ f x
label_there f xs i x within at = get_or-map f xs i x [] within ∙ ap f (sym at)

module _ (parents leads : List ℕ) (labels : List (List ℕ)) (are : AreFoldable parents leads labels) where
  pub entered_first : (g : GrowingTree) (line : List ℕ) (n : ℕ) (numbers : List ℕ) → IsInOrder g line n → g.tree ≡ leaf (get_or labels 0 []) → numbers ≡ 0 ∷ [] → IsFolding parents leads labels g line n numbers 1
  entered_first g line n numbers order tree is = record {
    so_far = rw (tree, is) (folded_first parents leads labels are);
    order = order;
    long = ap length is;
    some = omega arith;
  }

  module _ (g : GrowingTree) (line : List ℕ) (n : ℕ) (numbers : List ℕ) (m : ℕ) (folding : IsFolding parents leads labels g line n numbers m) (within : m < length leads) where
    less : length numbers < length parents
    less = let long = folding.long in let count = are.are_leads.count in omega (arith, long, count, within)

    pub entered_same : lead_of leads m < m → (x : ℕ) → x ≡ get_or numbers (lead_of leads m) x → (numbers' : List ℕ) → numbers' ≡ numbers ++ x ∷ [] → IsFolding parents leads labels g line n numbers' (m + 1)
    entered_same led x at numbers' is =
        let long = folding.long in
        let same : length numbers ≡ m = long in
        let low : lead_of leads (length numbers) < length numbers = subst (λ k. lead_of leads k < k) (sym long) led in
        let number : get_or numbers (lead_of leads (length numbers)) 0 ≡ x = ap (λ k. get_or numbers (lead_of leads k) 0) long ∙ sym (get_or_read numbers (lead_of leads m) x (omega (arith, led, long)) at 0) in
        let pushed = length-append numbers (x ∷ []) in
        let long' = ap length is in
        record {
          so_far = folded_same parents leads labels are g.tree numbers folding.so_far less low numbers' (is ∙ ap (λ z. numbers ++ z ∷ []) (sym number));
          order = folding.order;
          long = omega (arith, long', pushed, same);
          some = omega arith;
        }

    pub entered_more : m ≤ lead_of leads m → (g' : GrowingTree) (line' : List ℕ) (n' p x k : ℕ) (l : List ℕ) → IsInOrder g' line' n' → p ≡ get_or parents m p → x ≡ get_or numbers p x → get_or labels m [] ≡ l
        → k ≡ count_of g.tree → IsAddedLast g.tree g'.tree (path_at g.tree x) l → (numbers' : List ℕ) → numbers' ≡ numbers ++ k ∷ [] → IsFolding parents leads labels g' line' n' numbers' (m + 1)
    entered_more first g' line' n' p x k l order up at label new added numbers' is =
        let long = folding.long in
        let same : length numbers ≡ m = long in
        let some : 0 < m = folding.some in
        let first' : length numbers ≤ lead_of leads (length numbers) = subst (λ j. j ≤ lead_of leads j) (sym long) first in
        let page : m < length parents = omega (arith, less, same) in
        let parent : get_or parents m 0 ≡ p = sym (get_or_read parents m p page up 0) in
        let low = are.smaller m some page in
        let number : get_or numbers (parent_number parents (length numbers)) 0 ≡ x = ap (λ j. get_or numbers (parent_number parents j) 0) long ∙ ap (λ j. get_or numbers j 0) parent ∙ sym (get_or_read numbers p x (omega (arith, low, parent, same)) at 0) in
        let label' : get_or labels (length numbers) [] ≡ l = ap (λ j. get_or labels j []) long ∙ label in
        let pushed = length-append numbers (k ∷ []) in
        let long' = ap length is in
        record {
          so_far = folded_more parents leads labels are g.tree numbers folding.so_far less first' (omega (arith, some, same)) g'.tree
              (subst (λ z. IsAddedLast g.tree g'.tree (path_at g.tree (get_or numbers (parent_number parents (length numbers)) 0)) z) (sym label') (subst (λ z. IsAddedLast g.tree g'.tree (path_at g.tree z) l) (sym number) added))
              numbers' (is ∙ ap (λ z. numbers ++ z ∷ []) new);
          order = order;
          long = omega (arith, long', pushed, same);
          some = omega arith;
        }

-- what holds of a value of which two things hold
pub both_further : {X E : Type 0} (r : Result (Option X) E) (P Q S : X → Type 0) → IfOk r (λ o. IfSome o P) → IfOk r (λ o. IfSome o Q) → ((x : X) → P x → Q x → S x) → IfOk r (λ o. IfSome o S)
both_further (Ok (Some x)) P Q S p q further = further x p q
both_further (Ok None) P Q S p q further = tt
both_further (Err e) P Q S p q further = tt

-- leads, where the lists are known by equations
pub same_leads : (parents parents' leads leads' : List ℕ) (labels labels' : List (List ℕ)) → parents ≡ parents' → labels ≡ labels' → leads' ≡ leads → AreLeads parents labels leads → AreLeads parents' labels' leads'
same_leads parents parents' leads leads' labels labels' is_parents is_labels is_leads are =
    subst (λ (ps : List ℕ). AreLeads ps labels' leads') is_parents (subst (λ (ls : List (List ℕ)). AreLeads parents ls leads') is_labels (subst (λ (ls : List ℕ). AreLeads parents labels ls) (sym is_leads) are))

-- where few nodes are their own leads, few are left
pub few_led : (leads : List ℕ) (left count own n : ℕ) → left ≡ own_count leads (length leads) → own ≡ own_count leads (length leads) → n ≡ length leads → length leads ≡ count → own ≤ n / 2 → left + left ≤ count
few_led leads left count own n left_is own_is n_is count_is few = omega arith
