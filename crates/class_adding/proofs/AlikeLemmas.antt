-- Nodes that are alike stay so from round to round, and what was found at one of them is so at the other.
use Rattle.std.proofs.Common.{◌≡◌, ℕ, zero, suc, ◌<◌, ◌≤◌, Bool, false, List, [], ◌∷◌, ◌++◌, map, length, get_or, Option, Some, None, IsSome, IfSome, IsTrue, option_map, unwrap_or, All, Contains, refl, sym, ap, ◌∙◌, inl, inr, arith, subst}
use Rattle.std.specs.List.{range_with_len}
use Rattle.std.proofs.lemmas.Bool.{cases_order}
use Rattle.std.proofs.lemmas.List.{length_push, get_or_append_left, get_or_default, get_or_past, get_or_push}
use Rattle.std.proofs.lemmas.List.Elements.{Contains-get_or}
use Rattle.tp_base.proofs.Rising.{Contains-none}
use Rattle.tree_sem.specs.Trees.{LabelTree, node_at, children_at}
use Rattle.tree_sem.specs.Order.{paths_of}
use Rattle.tree_sem.specs.Paths.{parent_of}
use Rattle.tree_sem.proofs.NodeLemmas.{Contains-paths_of}
use Rattle.tree_sem.proofs.PathLemmas.{parent_of-child}
use Rattle.simple_core.specs.declared.system.System.{System}
use Rattle.simple_core.specs.Labels.{labels_below, next_label}
use Rattle.simple_core.specs.Rounds.{grown}
use Rattle.simple_core.specs.Pairs.{Pair}
use Rattle.simple_core.proofs.Members.{Contains-range}
use Rattle.simple_core.proofs.PageRest.{counted_child}
use Rattle.closed_page.specs.Gains.{label_in}
use Rattle.closed_page.specs.Labelled.{IsAbove, AreKids}
use Rattle.closed_page.specs.Gains.{Gain}
use Rattle.class_adding.specs.declared.looking.Look.{Look}
use Rattle.class_adding.specs.Alike.{IsLeaf, IsAlike, AreAlike}
use Rattle.class_adding.specs.Filling.{above_in, real_in, label_next, IsAfter}
use Rattle.class_adding.specs.Fresh.{IsAsleep}
use Rattle.class_adding.specs.Looks.{IsLookAt, AreLooks, IsTakenOver}
use Rattle.class_adding.proofs.PageLookLemmas.{label_next-round}

-- ---- nodes next to each other

parent_is : (p v : List ℕ) (n : ℕ) → v ≡ p ++ n ∷ [] → parent_of v ≡ Some p
parent_is p v n is = ap parent_of is ∙ parent_of-child p n

pub one_parent : (nodes : List (List ℕ)) (v w : List ℕ) (o p : Option ℕ) → IsAbove nodes v o → IsAbove nodes w p → IsSome o → o ≡ p → parent_of v ≡ parent_of w
one_parent nodes v w None p first second some same = cc
one_parent nodes v w (Some i) p first second some same =
    let here : IsAbove nodes w (Some i) = subst (IsAbove nodes w) (sym same) second in
    parent_is (get_or nodes i []) v first.1 first.2 ∙ sym (parent_is (get_or nodes i []) w here.1 here.2)

none_in : {X : Type 0} (xs : List X) (x : X) → length xs ≡ 0 → Contains xs x → ⊥
none_in [] x none there = Contains-none x there
none_in (y ∷ xs) x none there = absurd (omega arith)

pub no_children : (u : LabelTree) (nodes : List (List ℕ)) (i : ℕ) (row : List ℕ) → AreKids nodes i row → ((v : List ℕ) → IsSome (node_at v u) → Contains nodes v) → length row ≡ 0 → IsLeaf u (get_or nodes i [])
no_children u nodes i row kids there none = empty (unwrap_or (children_at (get_or nodes i []) u) 0) refl
  where
    empty : (n : ℕ) → unwrap_or (children_at (get_or nodes i []) u) 0 ≡ n → IsLeaf u (get_or nodes i [])
    empty zero is = is
    empty (suc m) is =
        let v = get_or nodes i [] in
        let node : IsSome (node_at (v ++ 0 ∷ []) u) = counted_child v u 0 (Contains-range (unwrap_or (children_at v u) 0) 0 (omega (arith, is))) in
        let place = there (v ++ 0 ∷ []) node in
        let at : get_or nodes place.0 [] ≡ v ++ 0 ∷ [] = get_or_default nodes place.0 [] (v ++ 0 ∷ []) place.1 ∙ place.2 in
        absurd (none_in row place.0 none (kids.whole place.0 0 place.1 at))

-- ---- rounds

alone : (u : LabelTree) (v : List ℕ) → IsLeaf u v → real_in u v ≡ []
alone u v leaf = ap (λ n. map (λ m. label_in u (v ++ m ∷ [])) (range_with_len 0 n)) leaf

next_alike : (s : System) (f : ℕ → List ℕ → List ℕ) (u : LabelTree) (v w : List ℕ) → IsAlike u v w → label_next s f u v ≡ label_next s f u w
next_alike s f u v w is =
    let above : above_in u v ≡ above_in u w = ap (λ o. unwrap_or (option_map (label_in u) o) []) is.above in
    ap (λ z. next_label s z (label_in u v) (real_in u v ++ labels_below s f (label_in u v))) above
    ∙ ap (λ z. next_label s (above_in u w) z (real_in u v ++ labels_below s f z)) is.own
    ∙ ap (λ z. next_label s (above_in u w) (label_in u w) (z ++ labels_below s f (label_in u w))) (alone u v is.leaf ∙ sym (alone u w is.other_leaf))

-- nodes that are alike are so after one more round
alike_next : (s : System) (t u u' : LabelTree) (k : ℕ) (v w : List ℕ) → IsAfter s t k u → IsAfter s t (suc k) u' → IsSome (node_at v t) → IsSome (node_at w t) → IsAlike u v w → IsAlike u' v w
alike_next s t u u' k v w after after' first second is = record {
  own =
      after'.labels v first ∙ sym (label_next-round s t k u after v first) ∙ next_alike s (grown s k) u v w is ∙ label_next-round s t k u after w second ∙ sym (after'.labels w second);
  above = is.above;
  leaf = same v ∙ is.leaf;
  other_leaf = same w ∙ is.other_leaf;
}
  where
    same : (x : List ℕ) → unwrap_or (children_at x u') 0 ≡ unwrap_or (children_at x u) 0
    same x = ap (λ o. unwrap_or o 0) (after'.children x ∙ sym (after.children x))

pub all_alike_next : (s : System) (t u u' : LabelTree) (k : ℕ) (nodes : List (List ℕ)) (alike alike' : List Bool) → nodes ≡ paths_of t → IsAfter s t k u → IsAfter s t (suc k) u' → alike' ≡ alike → AreAlike u nodes alike → AreAlike u' nodes alike'
all_alike_next s t u u' k nodes alike alike' all after after' same are i j next less mark =
    alike_next s t u u' k (get_or nodes i []) (get_or nodes j []) after after' (node i (omega arith)) (node j less) (are i j next less (subst (λ (z : List Bool). IsTrue (get_or z j false)) same mark))
  where
    node : (n : ℕ) → n < length nodes → IsSome (node_at (get_or nodes n []) t)
    node n less = (Contains-paths_of t (get_or nodes n [])).0 (subst (λ (z : List (List ℕ)). Contains z (get_or nodes n [])) all (Contains-get_or nodes n [] less))

-- ---- marks

unmarked : (alike : List Bool) (j : ℕ) (A : Type 0) → length alike ≤ j → IsTrue (get_or alike j false) → A
unmarked alike j A past mark = let none : get_or alike j false ≡ false = get_or_past alike j false past in cc

pub marks_none : (u : LabelTree) (nodes : List (List ℕ)) (alike : List Bool) → alike ≡ [] → AreAlike u nodes alike
marks_none u nodes alike none i j next less mark = unmarked alike j (IsAlike u (get_or nodes i []) (get_or nodes j [])) (omega (arith, ap length none)) mark

pub marks_more : (u : LabelTree) (nodes : List (List ℕ)) (alike alike' : List Bool) (n : ℕ) (mark : Bool) → length alike ≡ n → alike' ≡ alike ++ mark ∷ []
    → (IsTrue mark → (i : ℕ) → n ≡ suc i → IsAlike u (get_or nodes i []) (get_or nodes n [])) → AreAlike u nodes alike → AreAlike u nodes alike'
marks_more u nodes alike alike' n mark long is here before i j next less marked = elim (cases_order j n) [
  | inl same ↦
      let last : get_or alike' n false ≡ mark = ap (λ z. get_or z n false) is ∙ get_or_push alike mark false n long in
      let now : IsTrue mark = sym last ∙ ap (λ z. get_or alike' z false) (sym same) ∙ marked in
      subst (λ z. IsAlike u (get_or nodes i []) (get_or nodes z [])) (sym same) (here now i (sym same ∙ next))
  | inr other ↦ elim other [
    | inl early ↦ before i j next less (sym (ap (λ z. get_or z j false) is ∙ get_or_append_left alike (mark ∷ []) false j (omega (arith, early, long))) ∙ marked)
    | inr past ↦ unmarked alike' j (IsAlike u (get_or nodes i []) (get_or nodes j [])) (omega (arith, past, long, ap length is, length_push alike mark)) marked
  ]
]

-- ---- looks

-- the look, where one is taken over
pub taken_over : (u : LabelTree) (nodes : List (List ℕ)) (looks : List Look) (number : ℕ) (o : Option Look) (l : Look) → o ≡ Some l → IfSome o (IsTakenOver u nodes looks number) → IsTakenOver u nodes looks number l
taken_over u nodes looks number o l is there = subst (λ (z : Option Look). IfSome z (IsTakenOver u nodes looks number)) is there

pub again : (s : System) (u : LabelTree) (k : ℕ) (known : Pair → Type 0) (gains : List Gain) (nodes : List (List ℕ)) (looks : List Look) (number : ℕ) (l : Look) → AreLooks s u k known gains nodes looks → IsTakenOver u nodes looks number l
    → IsLookAt s u k known nodes number l
again s u k known gains nodes looks number l are t = subst (IsLookAt s u k known nodes number) (sym t.moved) (record {
  here = refl;
  is_news = record {
    right = λ a h. subst (λ (z : List ℕ). Contains z a) next (tells.is_news.right a h);
    whole = λ a h. elim (tells.is_news.whole a (subst (λ (z : List ℕ). Contains z a) (sym next) h)) [
      | inl old ↦ inl (subst (λ (z : List ℕ). Contains z a) t.alike.own old)
      | inr new ↦ inr new
    ];
  };
  same = tells.same;
  above = tells.above;
  below = tells.below;
  other = subst (λ (z : List ℕ). IsTrue t.before.grew → All (Contains z) t.before.news → ⊥) t.alike.own tells.other;
  asleep = subst (λ (z : List ℕ). IsAsleep s k known z t.before.wake) t.alike.own tells.asleep;
})
  where
    v : List ℕ
    v = get_or nodes t.before.number []

    w : List ℕ
    w = get_or nodes number []

    tells : IsLookAt s u k known nodes t.before.number t.before
    tells = (are t.before t.there).tells

    next : label_next s (grown s k) u v ≡ label_next s (grown s k) u w
    next = next_alike s (grown s k) u v w t.alike
