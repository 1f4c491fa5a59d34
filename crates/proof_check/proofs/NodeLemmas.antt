-- The numbers of nodes, and what a table knows of them.
use Rattle.std.proofs.Common.{Vec, Global, ◌≡◌, ℕ, zero, suc, ◌+◌, ◌<◌, Bool, true, false, not, cond, is_some, option_and_then, if◌then◌else◌, ◌==◌, ◌&&◌, ◌||◌, List, [], ◌∷◌, ◌++◌, take, drop, map, filter, length, get_or, position, Option, Some, None, option_map, unwrap_or, slice_get, refl, sym, ap, subst, ◌∙◌, arith}
use Rattle.std.proofs.lemmas.Bool.{lt-ltb}
use Rattle.std.proofs.lemmas.Slice.Eq.{bytes_eq-Decides}
use Rattle.std.proofs.lemmas.List.Folds.{list_any-append}
use Rattle.std.proofs.lemmas.List.Quantifiers.{position-Some}
use Rattle.std.specs.List.{list_any, position_or_len}
use Rattle.std.specs.Str.{bytes_eq}
use Rattle.indexmap.specs.IndexSet.{insert_key}
use Rattle.tp_base.specs.Classes.{has_class}
use Rattle.tp_base.proofs.Lists.{take_suc, drop_at}
use Rattle.tp_base.proofs.Truths.{other_number}
use Rattle.tree_sem.specs.Trees.{LabelTree, node_at}
use Rattle.tree_sem.specs.Paths.{parent_of}
use Rattle.simple_core.specs.declared.system.System.{System}
use Rattle.proof_check.specs.declared.firsts.Firsts.{Firsts}
use Rattle.proof_check.specs.NodePaths.{NodePaths}
use Rattle.proof_check.specs.declared.proofs.ProofItem.{ProofItem}
use Rattle.proof_check.specs.declared.proofs.PageItem.{PageItem}
use Rattle.proof_check.specs.declared.proofs.Entry.{Entry}
use Rattle.proof_check.specs.Checks.{is_down, is_sound, are_placed}
use Rattle.proof_check.specs.Firsts.{first_down, first_in, KnowsOf, KnowsBelow, sound_by}
use Rattle.proof_check.specs.Nodes.{number_in, HasAll, page_gives, KnowsPage, near_at_page}
use Rattle.proof_check.specs.Validity.{atoms_of, items_at, at_page}
use Rattle.proof_check.proofs.EntryLemmas.{knows_pushed, keeps_pushed}
use Rattle.proof_check.proofs.FirstLemmas.{first_has, IsNear, sound_same}
use Rattle.proof_check.proofs.ItemLemmas.{items_at-append}

any_first : {X : Type 0} (p : X → Bool) (xs : List X) → list_any p xs ≡ true → position_or_len p xs < length xs
any_first p [] any = cc
any_first p (x ∷ xs) any = elim (p x) as (λ b. (b || list_any p xs) ≡ true → cond (not b) (1 + position_or_len p xs) 0 < suc (length xs)) [
  | true ↦ λ h. omega arith
  | false ↦ λ h. omega (arith, any_first p xs h)
] any

pub any_position : {X : Type 0} (p : X → Bool) (xs : List X) → list_any p xs ≡ true → is_some (position p xs) ≡ true
any_position p xs any = rw (lt-ltb (position_or_len p xs) (length xs) (any_first p xs any)) refl

-- an insert keeps what is there, and adds the key
pub any_kept : {X : Type 0} (p : X → Bool) (eq : X → X → Bool) (xs : List X) (x : X) → list_any p xs ≡ true → list_any p (insert_key eq xs x) ≡ true
any_kept p eq xs x any = elim (list_any (eq x) xs) as (λ b. list_any p (if b then xs else xs ++ x ∷ []) ≡ true) [
  | true ↦ any
  | false ↦ list_any-append p xs (x ∷ []) ∙ ap (λ b. b || list_any p (x ∷ [])) any
]

pub any_inserted : {X : Type 0} (eq : X → X → Bool) (xs : List X) (x : X) → eq x x ≡ true → list_any (eq x) (insert_key eq xs x) ≡ true
any_inserted eq xs x itself = elim (list_any (eq x) xs) as (λ b. list_any (eq x) xs ≡ b → list_any (eq x) (if b then xs else xs ++ x ∷ []) ≡ true) [
  | true ↦ λ e. e
  | false ↦ λ e. list_any-append (eq x) xs (x ∷ []) ∙ ap (λ b. b || list_any (eq x) (x ∷ [])) e ∙ ap (λ b. b || false) itself
] refl

-- a number is of one node
pub same_node : (nodes : NodePaths) (v w : List ℕ) (n : ℕ) → number_in nodes v ≡ Some n → number_in nodes w ≡ Some n → v ≡ w
same_node nodes v w n first second = by nodes first second
  where
    by : (ks : List (Vec ℕ Global)) → position (λ k. bytes_eq v k.items) ks ≡ Some n → position (λ k. bytes_eq w k.items) ks ≡ Some n → v ≡ w
    by [] a b = cc
    by (k ∷ ks) a b =
        let p = position-Some (λ x. bytes_eq v x.items) (k ∷ ks) n k a in
        let q = position-Some (λ x. bytes_eq w x.items) (k ∷ ks) n k b in
        (bytes_eq-Decides v (get_or (k ∷ ks) n k).items).0 p.1 ∙ sym ((bytes_eq-Decides w (get_or (k ∷ ks) n k).items).0 q.1)

-- a node with no number has no items
pub nothing_at : (nodes : NodePaths) (v : List ℕ) → number_in nodes v ≡ None → (items : List PageItem) (i : ℕ) → HasAll nodes items → items_at v (take i items) ≡ []
nothing_at nodes v none items zero all = refl
nothing_at nodes v none [] (suc i) all = refl
nothing_at nodes v none (x ∷ items) (suc i) all =
    elim (bytes_eq x.at v) as (λ b. bytes_eq x.at v ≡ b → map (λ (y : PageItem). y.item) (if b then x ∷ filter (λ (y : PageItem). bytes_eq y.at v) (take i items) else filter (λ (y : PageItem). bytes_eq y.at v) (take i items)) ≡ []) [
      | true ↦ λ e. let same = (bytes_eq-Decides x.at v).0 e in
          let some : is_some (number_in nodes v) ≡ true = ap (λ u. is_some (number_in nodes u)) (sym same) ∙ all 0 x refl in
          let never : is_some {T = ℕ} None ≡ true = ap is_some (sym none) ∙ some in cc
      | false ↦ λ e. nothing_at nodes v none items i (λ j y at. all (suc j) y at)
    ] refl

pub page_gives_is : (nodes : NodePaths) (known : Firsts) (items : List PageItem) (i : ℕ) → HasAll nodes items → KnowsPage nodes known (take i items)
    → (v : List ℕ) (a : ℕ) → page_gives nodes known v a ≡ has_class a (atoms_of (items_at v (take i items)))
page_gives_is nodes known items i all knows v a =
    elim (number_in nodes v) as (λ o. number_in nodes v ≡ o → is_some (option_and_then (λ n. first_in known n a) o) ≡ has_class a (atoms_of (items_at v (take i items)))) [
      | None ↦ λ none. ap (λ z. has_class a (atoms_of z)) (sym (nothing_at nodes v none items i all))
      | Some n ↦ λ at. ap is_some (knows v n at a) ∙ first_has (items_at v (take i items)) a
    ] refl

pub page_pushed : (nodes : NodePaths) (old new : Firsts) (n : ℕ) (here : List PageItem) (x : PageItem) → KnowsPage nodes old here → number_in nodes x.at ≡ Some n
    → first_in new n x.item.atom ≡ Some (unwrap_or (first_in old n x.item.atom) (is_down x.item.reason))
    → ((m a : ℕ) → (n == m && x.item.atom == a) ≡ false → first_in new m a ≡ first_in old m a) → KnowsPage nodes new (here ++ x ∷ [])
page_pushed nodes old new n here x knows at added others v m number =
    subst (λ l. KnowsOf new m l) (sym (items_at-append v here (x ∷ [])))
    (elim (bytes_eq x.at v) as (λ b. bytes_eq x.at v ≡ b → KnowsOf new m (items_at v here ++ map (λ (y : PageItem). y.item) (if b then x ∷ [] else []))) [
      | true ↦ λ e.
          let same = (bytes_eq-Decides x.at v).0 e in
          let one : n ≡ m = let both : Some n ≡ Some m = sym at ∙ ap (number_in nodes) same ∙ number in cc in
          subst (λ k. KnowsOf new k (items_at v here ++ x.item ∷ [])) one
          (knows_pushed old new n (items_at v here) x.item (subst (λ k. KnowsOf old k (items_at v here)) (sym one) (knows v m number)) added others)
      | false ↦ λ e.
          let apart : n ≡ m → ⊥ = λ s. let same = same_node nodes x.at v m (at ∙ ap Some s) number in
          let never : true ≡ false = sym ((bytes_eq-Decides x.at v).1 same) ∙ e in cc in
          λ a. keeps_pushed old new n x.item others m a (other_number n m apart) ∙ knows v m number a ∙ ap (λ l. first_down l a) (sym (append_none (items_at v here)))
    ] refl)
  where
    append_none : {X : Type 0} (xs : List X) → xs ++ [] ≡ xs
    append_none [] = refl
    append_none (y ∷ xs) = ap (λ l. y ∷ l) (append_none xs)

module _ (system : System) (entries : List Entry) (page : LabelTree) (nodes : NodePaths) (inside known : Firsts) (items : List PageItem) (i : ℕ)
    (all : HasAll nodes items) (below : KnowsBelow inside (length entries) entries) (knows : KnowsPage nodes known (take i items)) where
  page_near : (v : List ℕ) (node : ℕ) → number_in nodes v ≡ Some node → IsNear entries (near_at_page page nodes inside known (length entries) v node) (at_page page (length entries) (take i items) v)
  page_near v node at = record {
    label = refl;
    kind = refl;
    lower = refl;
    here = knows v node at;
    above = λ a. elim (parent_of v) as (λ o. unwrap_or (option_map (λ p. page_gives nodes known p a) o) false ≡ has_class a (unwrap_or (option_map (λ p. atoms_of (items_at p (take i items))) o) [])) [
      | None ↦ refl
      | Some p ↦ page_gives_is nodes known items i all knows p a
    ];
    child = λ k a. page_gives_is nodes known items i all knows (v ++ k ∷ []) a;
    gives = λ e a other lt is. ap is_some (below e other lt is a) ∙ first_has other.items a;
  }

  pub page_sound : (v : List ℕ) (node : ℕ) (x : ProofItem) → number_in nodes v ≡ Some node
      → sound_by system entries (near_at_page page nodes inside known (length entries) v node) x.atom x.reason ≡ is_sound system entries (at_page page (length entries) (take i items) v) x.atom x.reason
  page_sound v node x at = sound_same system entries (near_at_page page nodes inside known (length entries) v node) (at_page page (length entries) (take i items) v) (page_near v node at) x.atom x.reason

-- the items from the number i on
pub placed_one : (system : System) (entries : List Entry) (page : LabelTree) (items : List PageItem) (i : ℕ) (x : PageItem) → slice_get items i ≡ Some x
    → are_placed system entries page (take i items) (drop i items)
    ≡ (is_some (node_at x.at page) && (is_sound system entries (at_page page (length entries) (take i items) x.at) x.item.atom x.item.reason
    && are_placed system entries page (take (suc i) items) (drop (suc i) items)))
placed_one system entries page items i x at =
    ap (are_placed system entries page (take i items)) (drop_at items i x at)
    ∙ ap (λ (h : List PageItem). is_some (node_at x.at page) && (is_sound system entries (at_page page (length entries) (take i items) x.at) x.item.atom x.item.reason
    && are_placed system entries page h (drop (suc i) items))) (sym (take_suc items i x at))

pub number_of : (o : Option ℕ) → is_some o ≡ true → (n : ℕ) × (o ≡ Some n)
number_of None is = cc
number_of (Some n) is = (n, refl)

pub and_left : (a b rest : Bool) → (a && b) ≡ true → (a && (b && rest)) ≡ rest
and_left true true rest h = refl
and_left true false rest h = cc
and_left false b rest h = cc

pub and_not : (a b rest : Bool) → (a && b) ≡ false → (a && (b && rest)) ≡ false
and_not true true rest h = cc
and_not true false rest h = refl
and_not false b rest h = refl
