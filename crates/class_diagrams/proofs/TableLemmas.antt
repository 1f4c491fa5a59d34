-- Stored branches against the trees that they stand for.
use Rattle.std.proofs.Common.{◌≡◌, ℕ, zero, suc, ◌+◌, ◌<◌, ◌≤◌, ◌^◌, Bool, true, false, ◌&&◌, eqb, List, [], ◌∷◌, ◌++◌, length, slice_get, get_or, Some, Ok, Err, position, refl, sym, ap, subst, ◌∙◌, arith, inl, inr, ◌⊎◌, length-append, add-zero}
use Rattle.std.specs.List.{list_any}
use Rattle.std.proofs.lemmas.Bool.{both_ways, cases_Bool, cases_lt, and_parts, eqb-true, eq-eqb}
use Rattle.std.proofs.lemmas.Option.{slice_get_within, slice_get-get_or, get_or_from_slice_get}
use Rattle.std.proofs.lemmas.List.{get_or_append_left}
use Rattle.std.proofs.lemmas.List.Folds.{list_any_at, Any-from_list_any}
use Rattle.std.proofs.lemmas.List.Elements.{All-push}
use Rattle.std.proofs.lemmas.List.Quantifiers.{position-Some}
use Rattle.std.proofs.Math.Seq.{get_or-append_seam}
use Rattle.indexmap.specs.IndexSet.{insert_key}
use Rattle.class_diagrams.specs.declared.table.BranchNode.{BranchNode}
use Rattle.limits.specs.declared.budgets.TheConstants.{MOST_BRANCHES}
use Rattle.class_diagrams.specs.declared.refs.Target.{Target}
use Rattle.class_diagrams.specs.declared.refs.Target.TheVariants.{Leaf, Branch}
use Rattle.class_diagrams.specs.contracts.table.BranchNodePartialEq as its
use Rattle.class_diagrams.specs.contracts.refs.RefPartialEq as refs
use Rattle.class_diagrams.specs.Trees.{Tree, leaf, branch, same_tree, has_tree, with_tree, with_branches, IsOrdered}
use Rattle.class_diagrams.specs.Numbers.{number_of}
use Rattle.class_diagrams.specs.Arena.{StartsWith, Holds, tree_at, IsIn, AreSame, IsArena}
use Rattle.class_diagrams.specs.Table.{tree_by, trees_behind, trees_of, arena_of, IsBefore, IsTable}
use Rattle.class_diagrams.proofs.TreeLemmas.{same_tree-true}
use Rattle.class_diagrams.specs.declared.faults.DiagramFault.TheVariants.{Full, Memory}
use Rattle.class_diagrams.specs.Answers.{Gives}
use Rattle.class_diagrams.proofs.ArenaLemmas.{tree_at-further, has_tree-at, Holds-tree_at, with_branches-parts, gives_held, gives_no_memory, gives_full}
use Rattle.class_diagrams.proofs.BranchLemmas.{StartsWith-with_tree, StartsWith-itself, StartsWith-further, with_tree-held, with_tree-new, IsClosed-with_tree}

-- ### the derived `==`

abbrev pub ref_eq : Target → Target → Bool
ref_eq = refs.TheImpl.eq-value.it

number_of-same : (p q : Target) → number_of p ≡ number_of q → p ≡ q
number_of-same (Leaf true) (Leaf true) h = refl
number_of-same (Leaf true) (Leaf false) h = absurd (omega arith)
number_of-same (Leaf false) (Leaf true) h = absurd (omega arith)
number_of-same (Leaf false) (Leaf false) h = refl
number_of-same (Leaf true) (Branch k) h = absurd (omega arith)
number_of-same (Leaf false) (Branch k) h = absurd (omega arith)
number_of-same (Branch k) (Leaf true) h = absurd (omega arith)
number_of-same (Branch k) (Leaf false) h = absurd (omega arith)
number_of-same (Branch j) (Branch k) h = ap (λ n. Branch n) (omega arith)

pub ref_eq-true : (p q : Target) → ref_eq p q ≡ true → p ≡ q
ref_eq-true p q h = let same : eqb (number_of p) (number_of q) ≡ true = h in number_of-same p q (eqb-true (number_of p) (number_of q) same)

pub ref_eq-refl : (p : Target) → ref_eq p p ≡ true
ref_eq-refl p = let same : eqb (number_of p) (number_of p) ≡ true = eq-eqb (number_of p) (number_of p) refl in same

abbrev pub node_eq : BranchNode → BranchNode → Bool
node_eq = its.TheImpl.eq-value.it

pub node_eq-true : (a b : BranchNode) → node_eq a b ≡ true → a ≡ b
node_eq-true a b h =
    let both : (eqb a.atom b.atom && (ref_eq a.low b.low && ref_eq a.high b.high)) ≡ true = h in
    let outer = and_parts (eqb a.atom b.atom) (ref_eq a.low b.low && ref_eq a.high b.high) both in
    let inner = and_parts (ref_eq a.low b.low) (ref_eq a.high b.high) outer.1 in
    let atoms = eqb-true a.atom b.atom outer.0 in
    let lows = ref_eq-true a.low b.low inner.0 in
    let highs = ref_eq-true a.high b.high inner.1 in
    λ i. record { atom = atoms i; low = lows i; high = highs i }

pub node_eq-refl : (a : BranchNode) → node_eq a a ≡ true
node_eq-refl a =
    let both : (eqb a.atom a.atom && (ref_eq a.low a.low && ref_eq a.high a.high)) ≡ true = rw (eq-eqb a.atom a.atom refl, ref_eq-refl a.low, ref_eq-refl a.high) refl in
    both

-- ### the trees of stored branches

pub trees_behind-push : (before : List Tree) (bs : List BranchNode) (b : BranchNode)
    → trees_behind before (bs ++ b ∷ []) ≡ trees_behind before bs ++ tree_by (trees_behind before bs) b ∷ []
trees_behind-push before [] b = refl
trees_behind-push before (x ∷ bs) b = trees_behind-push (before ++ tree_by before x ∷ []) bs b

StartsWith-trees_behind : (before : List Tree) (bs : List BranchNode) → StartsWith before (trees_behind before bs)
StartsWith-trees_behind before [] = StartsWith-itself before
StartsWith-trees_behind before (b ∷ bs) =
    StartsWith-further before (before ++ tree_by before b ∷ []) _ (tree_by before b ∷ [], refl) (StartsWith-trees_behind (before ++ tree_by before b ∷ []) bs)

length-trees_behind : (before : List Tree) (bs : List BranchNode) → length (trees_behind before bs) ≡ length before + length bs
length-trees_behind before [] = sym (add-zero (length before))
length-trees_behind before (b ∷ bs) =
    let rest = length-trees_behind (before ++ tree_by before b ∷ []) bs in
    omega (arith, length-append before (tree_by before b ∷ []))

pub length-trees_of : (bs : List BranchNode) → length (trees_of bs) ≡ length bs
length-trees_of bs = let all = length-trees_behind [] bs in omega arith

IsIn-before : (ts : List Tree) (n : ℕ) (p : Target) → n ≤ length ts → IsBefore n p → IsIn ts p
IsIn-before ts n (Leaf v) few before = tt
IsIn-before ts n (Branch k) few before = omega arith

tree_by-further : (ts us : List Tree) (b : BranchNode) → StartsWith ts us → IsIn ts b.low → IsIn ts b.high → tree_by us b ≡ tree_by ts b
tree_by-further ts us b first low high = rw (tree_at-further ts us b.low first low, tree_at-further ts us b.high first high) refl

-- the tree of a number is that of its stored branch
tree_behind : (before : List Tree) (bs : List BranchNode) (k : ℕ) (b : BranchNode) (d : Tree)
    → slice_get bs k ≡ Some b → IsBefore (length before + k) b.low → IsBefore (length before + k) b.high
    → get_or (trees_behind before bs) (length before + k) d ≡ tree_by (trees_behind before bs) b
tree_behind before [] k b d at low high = cc
tree_behind before (x ∷ bs) zero b d at low high =
    let same : x ≡ b = cc in
    let all = StartsWith-trees_behind (before ++ tree_by before x ∷ []) bs in
    let first = StartsWith-further before (before ++ tree_by before x ∷ []) _ (tree_by before x ∷ [], refl) all in
    let low_in : IsIn before b.low = IsIn-before before (length before + 0) b.low (omega arith) low in
    let high_in : IsIn before b.high = IsIn-before before (length before + 0) b.high (omega arith) high in
    let here : get_or (before ++ tree_by before x ∷ []) (length before) d ≡ tree_by before x = get_or-append_seam before (tree_by before x) [] d in
    let kept : get_or (trees_behind before (x ∷ bs)) (length before) d ≡ get_or (before ++ tree_by before x ∷ []) (length before) d =
    rw all.1 (get_or_append_left (before ++ tree_by before x ∷ []) all.0 d (length before) (omega (arith, length-append before (tree_by before x ∷ [])))) in
    rw add-zero (kept ∙ here ∙ ap (tree_by before) same ∙ sym (tree_by-further before _ b first low_in high_in))
tree_behind before (x ∷ bs) (suc k) b d at low high =
    let longer : length (before ++ tree_by before x ∷ []) + k ≡ length before + suc k = omega (arith, length-append before (tree_by before x ∷ [])) in
    subst (λ n. get_or (trees_behind before (x ∷ bs)) n d ≡ tree_by (trees_behind before (x ∷ bs)) b) longer
    (tree_behind (before ++ tree_by before x ∷ []) bs k b d at
    (subst (λ n. IsBefore n b.low) (sym longer) low)
    (subst (λ n. IsBefore n b.high) (sym longer) high))

pub tree_decoded : (bs : List BranchNode) (limit k : ℕ) (b : BranchNode) (d : Tree) → IsTable bs limit → slice_get bs k ≡ Some b
    → get_or (trees_of bs) k d ≡ tree_by (trees_of bs) b
tree_decoded bs limit k b d table at =
    let parts = table.before k b at in
    let zeroed : 0 + k ≡ k = omega arith in
    subst (λ n. get_or (trees_of bs) n d ≡ tree_by (trees_of bs) b) zeroed
    (tree_behind [] bs k b d at (subst (λ n. IsBefore n b.low) (sym zeroed) parts.0) (subst (λ n. IsBefore n b.high) (sym zeroed) parts.1))

pub parts_within : (bs : List BranchNode) (limit k : ℕ) (b : BranchNode) → IsTable bs limit → slice_get bs k ≡ Some b → IsIn (trees_of bs) b.low × IsIn (trees_of bs) b.high
parts_within bs limit k b table at =
    let parts = table.before k b at in
    let within = slice_get_within bs k b at in
    let count = length-trees_of bs in
    (IsIn-before (trees_of bs) k b.low (omega arith) parts.0, IsIn-before (trees_of bs) k b.high (omega arith) parts.1)

pub branch_there : (bs : List BranchNode) (limit : ℕ) (p : Target) (k : ℕ) (b : BranchNode) → IsTable bs limit → Branch k ≡ p → Some b ≡ slice_get bs k
    → tree_at (trees_of bs) p ≡ tree_by (trees_of bs) b
branch_there bs limit p k b table at there = subst (λ q. tree_at (trees_of bs) q ≡ tree_by (trees_of bs) b) at (tree_decoded bs limit k b (leaf false) table (sym there))

pub number_within : (bs : List BranchNode) (p : Target) (k : ℕ) → Branch k ≡ p → IsIn (trees_of bs) p → k < length bs
number_within bs p k at within =
    let here : k < length (trees_of bs) = subst (λ q. IsIn (trees_of bs) q) (sym at) within in
    let count = length-trees_of bs in
    omega arith

-- ### what is held

held_node : (bs : List BranchNode) (limit : ℕ) (b : BranchNode) → IsTable bs limit → list_any (node_eq b) bs ≡ true → has_tree (tree_by (trees_of bs) b) (trees_of bs) ≡ true
held_node bs limit b table found =
    let any = Any-from_list_any (node_eq b) bs found in
    let same : b ≡ any.1 = node_eq-true b any.1 any.4 in
    let at : slice_get bs any.0 ≡ Some b = slice_get-get_or bs any.0 any.1 any.2 ∙ ap (λ x. Some x) (any.3 ∙ sym same) in
    let count = length-trees_of bs in
    has_tree-at (tree_by (trees_of bs) b) (trees_of bs) any.0 (leaf false) (omega (arith, any.2)) (tree_decoded bs limit any.0 b (leaf false) table at)

absent_node : (bs : List BranchNode) (limit : ℕ) (b : BranchNode) → IsTable bs limit → IsIn (trees_of bs) b.low → IsIn (trees_of bs) b.high
    → has_tree (tree_by (trees_of bs) b) (trees_of bs) ≡ true → list_any (node_eq b) bs ≡ true
absent_node bs limit b table low high found =
    let any = Any-from_list_any (same_tree (tree_by (trees_of bs) b)) (trees_of bs) found in
    let same : tree_by (trees_of bs) b ≡ any.1 = same_tree-true (tree_by (trees_of bs) b) any.1 any.4 in
    let count = length-trees_of bs in
    let within : any.0 < length bs = omega (arith, any.2) in
    let there : BranchNode = get_or bs any.0 b in
    let at : slice_get bs any.0 ≡ Some there = slice_get-get_or bs any.0 b within in
    let decoded : tree_by (trees_of bs) b ≡ tree_by (trees_of bs) there = same ∙ sym any.3 ∙ tree_decoded bs limit any.0 there any.1 table at in
    let parts = parts_within bs limit any.0 there table at in
    let atoms : b.atom ≡ there.atom = cc in
    let low_trees : tree_at (trees_of bs) b.low ≡ tree_at (trees_of bs) there.low = cc in
    let high_trees : tree_at (trees_of bs) b.high ≡ tree_at (trees_of bs) there.high = cc in
    let lows = table.arena.same b.low there.low low parts.0 low_trees in
    let highs = table.arena.same b.high there.high high parts.1 high_trees in
    let whole : b ≡ there = λ i. record { atom = atoms i; low = lows i; high = highs i } in
    list_any_at (node_eq b) bs any.0 b within (subst (λ x. node_eq b x ≡ true) whole (node_eq-refl b))

-- ### a branch more

target_cases : (ts : List Tree) (t : Tree) (p : Target) → IsIn (ts ++ t ∷ []) p → IsIn ts p ⊎ (p ≡ Branch (length ts))
target_cases ts t (Leaf v) within = inl tt
target_cases ts t (Branch k) within = elim (cases_lt k (length ts)) [
  | inl before ↦ inl before
  | inr past ↦ inr (ap (λ n. Branch n) (omega (arith, length-append ts (t ∷ []))))
]

tree_at-last : (ts : List Tree) (t : Tree) → tree_at (ts ++ t ∷ []) (Branch (length ts)) ≡ t
tree_at-last ts t = get_or-append_seam ts t [] (leaf false)

not_last : (ts : List Tree) (a : ℕ) (l h : Tree) (p : Target) → has_tree (branch a l h) ts ≡ false → IsIn ts p
    → tree_at (ts ++ branch a l h ∷ []) p ≡ tree_at (ts ++ branch a l h ∷ []) (Branch (length ts)) → ⊥
not_last ts a l h p new within at =
    let tree : tree_at ts p ≡ branch a l h =
    sym (tree_at-further ts (ts ++ branch a l h ∷ []) p (branch a l h ∷ [], refl) within) ∙ at ∙ tree_at-last ts (branch a l h) in
    both_ways (has_tree (branch a l h) ts) new (subst (λ t. Holds ts t) tree (Holds-tree_at ts p within))

-- the tree that is new goes last
AreSame-push : (ts : List Tree) (a : ℕ) (l h : Tree) → AreSame ts → has_tree (branch a l h) ts ≡ false → AreSame (ts ++ branch a l h ∷ [])
AreSame-push ts a l h same new p q p_in q_in at = elim (target_cases ts (branch a l h) p p_in) [
  | inl p_old ↦ elim (target_cases ts (branch a l h) q q_in) [
    | inl q_old ↦ same p q p_old q_old
        (sym (tree_at-further ts (ts ++ branch a l h ∷ []) p (branch a l h ∷ [], refl) p_old) ∙ at ∙ tree_at-further ts (ts ++ branch a l h ∷ []) q (branch a l h ∷ [], refl) q_old)
    | inr q_last ↦ absurd (not_last ts a l h p new p_old (at ∙ ap (tree_at (ts ++ branch a l h ∷ [])) q_last))
  ]
  | inr p_last ↦ elim (target_cases ts (branch a l h) q q_in) [
    | inl q_old ↦ absurd (not_last ts a l h q new q_old (sym at ∙ ap (tree_at (ts ++ branch a l h ∷ [])) p_last))
    | inr q_last ↦ p_last ∙ sym q_last
  ]
]

before_of_in : (ts : List Tree) (n : ℕ) (p : Target) → length ts ≡ n → IsIn ts p → IsBefore n p
before_of_in ts n (Leaf v) count within = tt
before_of_in ts n (Branch k) count within = omega arith

before-push : (bs : List BranchNode) (b : BranchNode) → ((k : ℕ) (x : BranchNode) → slice_get bs k ≡ Some x → IsBefore k x.low × IsBefore k x.high)
    → IsBefore (length bs) b.low → IsBefore (length bs) b.high
    → (k : ℕ) (x : BranchNode) → slice_get (bs ++ b ∷ []) k ≡ Some x → IsBefore k x.low × IsBefore k x.high
before-push bs b old low high k x at = elim (cases_lt k (length bs)) [
  | inl before ↦
      let kept : slice_get bs k ≡ slice_get (bs ++ b ∷ []) k = slice_get-get_or bs k x before ∙ ap (λ z. Some z) (sym (get_or_append_left bs (b ∷ []) x k before)) ∙ sym (slice_get-get_or (bs ++ b ∷ []) k x (slice_get_within (bs ++ b ∷ []) k x at)) in
      old k x (kept ∙ at)
  | inr past ↦
      let within = slice_get_within (bs ++ b ∷ []) k x at in
      let last : k ≡ length bs = omega (arith, length-append bs (b ∷ [])) in
      let there : get_or (bs ++ b ∷ []) k x ≡ x = get_or_from_slice_get (bs ++ b ∷ []) k x x at in
      let same : b ≡ x = sym (get_or-append_seam bs b [] x) ∙ ap (λ n. get_or (bs ++ b ∷ []) n x) (sym last) ∙ there in (
        subst (λ n. IsBefore n x.low) (sym last) (subst (λ y. IsBefore (length bs) y.low) same low),
        subst (λ n. IsBefore n x.high) (sym last) (subst (λ y. IsBefore (length bs) y.high) same high),
      )
]

table-push : (bs : List BranchNode) (limit : ℕ) (b : BranchNode) → IsTable bs limit → IsIn (trees_of bs) b.low → IsIn (trees_of bs) b.high
    → IsOrdered (tree_by (trees_of bs) b) → has_tree (tree_by (trees_of bs) b) (trees_of bs) ≡ false → length (trees_of bs) < limit → IsTable (bs ++ b ∷ []) limit
table-push bs limit b table low high ordered new room =
    let count = length-trees_of bs in
    let more : trees_of (bs ++ b ∷ []) ≡ trees_of bs ++ tree_by (trees_of bs) b ∷ [] = trees_behind-push [] bs b in
    let arena : IsArena (record { branches = trees_of bs ++ tree_by (trees_of bs) b ∷ []; limit = limit }) = record {
      same = AreSame-push (trees_of bs) b.atom (tree_at (trees_of bs) b.low) (tree_at (trees_of bs) b.high) table.arena.same new;
      ordered = All-push IsOrdered (trees_of bs) (tree_by (trees_of bs) b) table.arena.ordered ordered;
      closed = rw (with_tree-new (tree_by (trees_of bs) b) (trees_of bs) new) at
          (IsClosed-with_tree b.atom (tree_at (trees_of bs) b.low) (tree_at (trees_of bs) b.high) (trees_of bs) table.arena.closed (Holds-tree_at (trees_of bs) b.low low) (Holds-tree_at (trees_of bs) b.high high));
      in_limit = omega (arith, length-append (trees_of bs) (tree_by (trees_of bs) b ∷ []));
      small = table.arena.small;
    } in
    record {
      before = before-push bs b table.before (before_of_in (trees_of bs) (length bs) b.low count low) (before_of_in (trees_of bs) (length bs) b.high count high);
      arena = rw more arena;
    }

new_tree : (bs : List BranchNode) (limit : ℕ) (b : BranchNode) → IsTable bs limit → IsIn (trees_of bs) b.low → IsIn (trees_of bs) b.high
    → list_any (node_eq b) bs ≡ false → has_tree (tree_by (trees_of bs) b) (trees_of bs) ≡ false
new_tree bs limit b table low high none = elim (cases_Bool (has_tree (tree_by (trees_of bs) b) (trees_of bs))) [
  | inl there ↦ absurd (both_ways (list_any (node_eq b) bs) none (absent_node bs limit b table low high there))
  | inr absent ↦ absent
]

-- what an insert does to the trees
pub record IsInserted (bs more : List BranchNode) (limit : ℕ) (t : Tree) : Type 0 where
  pub table : IsTable more limit
  pub trees : trees_of more ≡ with_tree t (trees_of bs)

pub inserted : (bs : List BranchNode) (limit : ℕ) (b : BranchNode) → IsTable bs limit → IsIn (trees_of bs) b.low → IsIn (trees_of bs) b.high
    → IsOrdered (tree_by (trees_of bs) b) → length (trees_of bs) < limit → IsInserted bs (insert_key node_eq bs b) limit (tree_by (trees_of bs) b)
inserted bs limit b table low high ordered room = elim (cases_Bool (list_any (node_eq b) bs)) [
  | inl found ↦ rw found (record { table = table; trees = sym (with_tree-held (tree_by (trees_of bs) b) (trees_of bs) (held_node bs limit b table found)) })
  | inr none ↦
      let new = new_tree bs limit b table low high none in
      rw none (record {
        table = table-push bs limit b table low high ordered new room;
        trees = trees_behind-push [] bs b ∙ sym (with_tree-new (tree_by (trees_of bs) b) (trees_of bs) new);
      })
]

-- ### answers

-- where the insert found or put the key
pub stored_at : (bs more : List BranchNode) (b : BranchNode) (k : ℕ) → more ≡ insert_key node_eq bs b
    → (x : BranchNode) × (slice_get more k ≡ Some x) × (node_eq b x ≡ true) → slice_get (insert_key node_eq bs b) k ≡ Some b
stored_at bs more b k keys (x, at, equal) =
    let same : b ≡ x = node_eq-true b x equal in
    ap (λ ks. slice_get ks k) (sym keys) ∙ at ∙ ap (λ y. Some y) (sym same)

-- numbers fit
pub number_fits : (bs : List BranchNode) (limit k : ℕ) → IsTable bs limit → k < length bs → k < 2 ^ 32
number_fits bs limit k table within = let count = length-trees_of bs in omega (arith, table.arena.in_limit, table.arena.small)

pub number_small : (bs : List BranchNode) (limit k : ℕ) → IsTable bs limit → k < length bs → k ≤ MOST_BRANCHES
number_small bs limit k table within = let count = length-trees_of bs in omega (arith, table.arena.in_limit, table.arena.small)

pub unchanged : (bs more : List BranchNode) (limit : ℕ) (t : Tree) → IsTable bs limit → more ≡ bs → Gives (arena_of bs limit) (arena_of more limit) t (Err Memory)
unchanged bs more limit t table same = rw same (gives_no_memory (arena_of bs limit) t table.arena)

pub gives_inserted : (bs : List BranchNode) (limit : ℕ) (b : BranchNode) (k : ℕ) → IsTable bs limit → IsIn (trees_of bs) b.low → IsIn (trees_of bs) b.high
    → IsOrdered (tree_by (trees_of bs) b) → length (trees_of bs) < limit → slice_get (insert_key node_eq bs b) k ≡ Some b
    → Gives (arena_of bs limit) (arena_of (insert_key node_eq bs b) limit) (tree_by (trees_of bs) b) (Ok (Branch k))
gives_inserted bs limit b k table low high ordered room at =
    let more = inserted bs limit b table low high ordered room in
    let whole = with_branches-parts (trees_of bs) b.atom (tree_at (trees_of bs) b.low) (tree_at (trees_of bs) b.high) table.arena.closed (Holds-tree_at (trees_of bs) b.low low) (Holds-tree_at (trees_of bs) b.high high) in
    let first : StartsWith (trees_of bs) (trees_of (insert_key node_eq bs b)) = rw more.trees (StartsWith-with_tree (tree_by (trees_of bs) b) (trees_of bs)) in
    let within = slice_get_within (insert_key node_eq bs b) k b at in
    let count = length-trees_of (insert_key node_eq bs b) in
    let here = tree_decoded (insert_key node_eq bs b) limit k b (leaf false) more.table at in
    let kept = tree_by-further (trees_of bs) (trees_of (insert_key node_eq bs b)) b first low high in
    let branches : trees_of (insert_key node_eq bs b) ≡ with_branches (trees_of bs) (tree_by (trees_of bs) b) = more.trees ∙ sym whole in
    record {
      answer = (omega arith, here ∙ kept, branches);
      stays = first;
      only = subst (λ ts. StartsWith (trees_of (insert_key node_eq bs b)) ts) branches (StartsWith-itself (trees_of (insert_key node_eq bs b)));
      limit = refl;
      arena = more.table.arena;
    }

-- a stored branch
pub gives_found : (bs : List BranchNode) (limit : ℕ) (b : BranchNode) (k : ℕ) → IsTable bs limit → IsIn (trees_of bs) b.low → IsIn (trees_of bs) b.high
    → position (node_eq b) bs ≡ Some k → Gives (arena_of bs limit) (arena_of bs limit) (tree_by (trees_of bs) b) (Ok (Branch k))
gives_found bs limit b k table low high at =
    let first = position-Some (node_eq b) bs k b at in
    let same : b ≡ get_or bs k b = node_eq-true b (get_or bs k b) first.1 in
    let there : slice_get bs k ≡ Some b = slice_get-get_or bs k b first.0 ∙ ap (λ x. Some x) (sym same) in
    let count = length-trees_of bs in
    let within : IsIn (trees_of bs) (Branch k) = omega (arith, first.0) in
    subst (λ t. Gives (arena_of bs limit) (arena_of bs limit) t (Ok (Branch k))) (tree_decoded bs limit k b (leaf false) table there)
    (gives_held (arena_of bs limit) (Branch k) table.arena within)

pub gives_none : (bs : List BranchNode) (limit : ℕ) (b : BranchNode) → IsTable bs limit → IsIn (trees_of bs) b.low → IsIn (trees_of bs) b.high
    → list_any (node_eq b) bs ≡ false → limit ≤ length (trees_of bs) → Gives (arena_of bs limit) (arena_of bs limit) (tree_by (trees_of bs) b) (Err Full)
gives_none bs limit b table low high none past =
    gives_full (arena_of bs limit) b.atom (tree_at (trees_of bs) b.low) (tree_at (trees_of bs) b.high) table.arena
    (Holds-tree_at (trees_of bs) b.low low) (Holds-tree_at (trees_of bs) b.high high) (new_tree bs limit b table low high none) past
