-- First nodes for all marked nodes at once.
use Rattle.std.proofs.Common.{◌≡◌, ◌⊎◌, ◌↔◌, ℕ, suc, ◌+◌, ◌<◌, ◌≤◌, nat_lt, min, Bool, true, false, ◌||◌, IsTrue, List, [], ◌∷◌, ◌++◌, length, take, drop, map, get_or, Option, Some, None, IsNone, refl, sym, ap, ◌∙◌, subst, inl, inr, arith, append_assoc}
use Rattle.std.proofs.lemmas.Bool.{cases_lt, or_cases, and_parts, and_from, false≢true, ltb-true, ltb-false, or_parts}
use Rattle.std.proofs.lemmas.List.{drop_more, take-append-drop}
use Rattle.tree_sem.specs.Trees.{LabelTree, count_of}
use Rattle.tree_sem.specs.Nodes.{IsNode}
use Rattle.node_marks.specs.Marks.{path_at, mark, IsMarked, IsSetOf}
use Rattle.node_marks.specs.Ranks.{rank, IsUnder, AreRanked, IsEarly, IsReached, IsLeastRank}
use Rattle.sel_text.specs.Selectors.{Selector}
use Rattle.jq_stmts.specs.declared.chains.Call as code
use Rattle.jq_stmts.specs.declared.sharp.Sharp.{Sharp}
use Rattle.jq_sem.specs.Statements.{MatchesOne}
use Rattle.jq_stmts.specs.Statements.{find, children, parent, parents, filter, has, around, near, add, back}
use Rattle.jq_stmts.specs.Sharp.{ExactCall, plain, closest, siblings, first}
use Rattle.jq_stmts.specs.Views.{call_of}
use Rattle.jq_stmts.specs.SharpViews.{kind_at, with_kind, exact_calls}
use Rattle.node_marks.proofs.NumberLemmas.{node_there, marked_at}
use Rattle.node_marks.proofs.RankSets.{ranked_at, first_of}
use Rattle.jq_sem.proofs.SelectionLemmas.{FitsOne-node, MayFit-node, made_node}
use Rattle.jq_sem.proofs.TogetherLemmas.{made_larger}
use Rattle.jq_exact.specs.Exact.{IsMadeExactly, MadeExactly}
use Rattle.jq_exact.specs.Firsts.{leads_back, adds, is_parted, are_parted, parted_or_first, nowhere, IsBefore, AreBefore, AreLeastMade, FromNodesOrNone, IsFirstMade, IsNoneMade}
use Rattle.jq_exact.specs.Standing.{last_first}
use Rattle.jq_exact.specs.Together.{is_first, asks_first, numbered, stood, FromNodes}
use Rattle.jq_exact.proofs.NumberLemmas.{stood_next, number_there, number_past}
use Rattle.jq_exact.proofs.TogetherLemmas.{is_made_same, both_ways, made_same}

-- ---- node by node

-- a call that adds, of some selectors
pub added_by : (c : ExactCall) → adds c ≡ true → (ss : List Selector) × (c ≡ plain (add ss))
added_by (plain (add ss)) is = (ss, refl)
added_by (plain (find cs)) is = cc
added_by (plain (children cs)) is = cc
added_by (plain (parent cs)) is = cc
added_by (plain (parents cs)) is = cc
added_by (plain (filter cs)) is = cc
added_by (plain (has cs)) is = cc
added_by (plain (around cs)) is = cc
added_by (plain (near cs)) is = cc
added_by (plain back) is = cc
added_by (closest cs) is = cc
added_by (siblings cs) is = cc
added_by first is = cc

module _ (t : LabelTree) where
  by_node : (S : List ℕ → Type 0) (c : ExactCall) → leads_back c ≡ true → (v : List ℕ) → IsMadeExactly t S c v → (y : List ℕ) × S y × IsMadeExactly t (λ z. z ≡ y) c v
  by_node S (plain (find cs)) lead v m = (take m.1 v, m.3, (m.0, m.1, m.2, refl))
  by_node S (plain (children cs)) lead v m = (m.2, m.4, (m.0, m.1, m.2, m.3, refl))
  by_node S (plain (parent cs)) lead v m = (v ++ m.1 ∷ [], m.2, (m.0, m.1, refl))
  by_node S (plain (parents cs)) lead v m = (v ++ m.1 ∷ m.2, m.3, (m.0, m.1, m.2, refl))
  by_node S (plain (filter cs)) lead v m = (v, m.1, (m.0, refl))
  by_node S (plain (has cs)) lead v m = (v, m.0, (refl, m.1, m.2, m.3))
  by_node S (plain (around cs)) lead v m = cc
  by_node S (plain (near cs)) lead v m = cc
  by_node S (plain (add ss)) lead v m = cc
  by_node S (plain back) lead v m = cc
  by_node S (closest cs) lead v m = (v ++ m.1, m.2, (m.0, m.1, refl, m.3))
  by_node S (siblings cs) lead v m = let o = m.1 in (o.1 ++ o.3 ∷ [], o.5, (m.0, (o.0, o.1, o.2, o.3, o.4, refl)))
  by_node S first lead v m = cc

  pub none_by : (c : ExactCall) → leads_back c ≡ true → (v : List ℕ) → IsMadeExactly t nowhere c v → ⊥
  none_by c lead v m = (by_node nowhere c lead v m).1

  -- what was there, or what is added to each set
  added : (S N : List ℕ → Type 0) (c : ExactCall) → adds c ≡ true → (v : List ℕ) → IsMadeExactly t S c v → S v ⊎ IsMadeExactly t N c v
  added S N c is v m =
      let a = added_by c is in
      let parts : S v ⊎ MatchesOne t a.0 v = subst (λ (z : ExactCall). IsMadeExactly t S z v) a.1 m in
      elim parts [
        | inl was ↦ inl was
        | inr new ↦ let more : N v ⊎ MatchesOne t a.0 v = inr new in inr (subst (λ (z : ExactCall). IsMadeExactly t N z v) (sym a.1) more)
      ]

  kept : (S : List ℕ → Type 0) (c : ExactCall) → adds c ≡ true → (v : List ℕ) → S v → IsMadeExactly t S c v
  kept S c is v was =
      let a = added_by c is in
      let more : S v ⊎ MatchesOne t a.0 v = inl was in
      subst (λ (z : ExactCall). IsMadeExactly t S z v) (sym a.1) more

  larger : (S L : List ℕ → Type 0) → ((w : List ℕ) → S w → L w) → (c : ExactCall) → is_parted c ≡ true → (v : List ℕ) → IsMadeExactly t S c v → IsMadeExactly t L c v
  larger S L le (plain c) lead v m = made_larger t S L le c v m
  larger S L le (closest cs) lead v m = (m.0, m.1, le (v ++ m.1) m.2, m.3)
  larger S L le (siblings cs) lead v m = let o = m.1 in (m.0, (o.0, o.1, o.2, o.3, o.4, le (o.1 ++ o.3 ∷ []) o.5))
  larger S L le first lead v m = cc

  -- of one node of a set
  of_node : (S : List ℕ → Type 0) (y : List ℕ) → S y → (c : ExactCall) → is_parted c ≡ true → (v : List ℕ) → IsMadeExactly t (λ z. z ≡ y) c v → IsMadeExactly t S c v
  of_node S y here c lead v m = larger (λ z. z ≡ y) S (λ w same. subst S (sym same) here) c lead v m

  -- what calls make of a set is what they make of no node, and of its nodes, one by one
  pub parts_from : (T : List ℕ → Type 0) (calls : List ExactCall) → are_parted calls ≡ true → (v : List ℕ) → MadeExactly t T calls v → MadeExactly t nowhere calls v ⊎ ((x : List ℕ) × T x × MadeExactly t (λ z. z ≡ x) calls v)
  parts_from T [] lead v m = inr (v, m, refl)
  parts_from T (c ∷ earlier) lead v m =
      let both = and_parts (is_parted c) (are_parted earlier) lead in
      elim (or_cases (leads_back c) (adds c) both.0) [
        | inl back' ↦
            let last = by_node (MadeExactly t T earlier) c back' v m in
            elim (parts_from T earlier both.1 last.0 last.1) [
              | inl none ↦ inl (of_node (MadeExactly t nowhere earlier) last.0 none c both.0 v last.2)
              | inr rest ↦ inr (rest.0, rest.1, of_node (MadeExactly t (λ z. z ≡ rest.0) earlier) last.0 rest.2 c both.0 v last.2)
            ]
        | inr more ↦ elim (added (MadeExactly t T earlier) (MadeExactly t nowhere earlier) c more v m) [
          | inl was ↦ elim (parts_from T earlier both.1 v was) [
            | inl none ↦ inl (kept (MadeExactly t nowhere earlier) c more v none)
            | inr rest ↦ inr (rest.0, rest.1, kept (MadeExactly t (λ z. z ≡ rest.0) earlier) c more v rest.2)
          ]
          | inr new ↦ inl new
        ]
      ]

  pub made_more : (S L : List ℕ → Type 0) → ((w : List ℕ) → S w → L w) → (calls : List ExactCall) → are_parted calls ≡ true → (v : List ℕ) → MadeExactly t S calls v → MadeExactly t L calls v
  made_more S L le [] lead v m = le v m
  made_more S L le (c ∷ earlier) lead v m =
      let both = and_parts (is_parted c) (are_parted earlier) lead in
      larger (MadeExactly t S earlier) (MadeExactly t L earlier) (made_more S L le earlier both.1) c both.0 v m

  pub made_behind : (S : List ℕ → Type 0) (later earlier : List ExactCall) (v : List ℕ) → MadeExactly t S (later ++ earlier) v ↔ MadeExactly t (MadeExactly t S earlier) later v
  made_behind S [] earlier v = (λ m. m, λ m. m)
  made_behind S (c ∷ later) earlier v =
      let A : List ℕ → Type 0 = MadeExactly t S (later ++ earlier) in
      let B : List ℕ → Type 0 = MadeExactly t (MadeExactly t S earlier) later in
      let same = made_behind S later earlier in
      (λ m. is_made_same t A B same c v m, λ m. is_made_same t B A (λ w. both_ways (same w)) c v m)

-- calls that are parted, or ask for a first node, and don't ask, are parted
pub no_first_parted : (calls : List ExactCall) → parted_or_first calls ≡ true → asks_first calls ≡ false → are_parted calls ≡ true
no_first_parted [] some none = refl
no_first_parted (c ∷ calls) some none =
    let both = and_parts (is_parted c || is_first c) (parted_or_first calls) some in
    let off = or_parts (is_first c) (asks_first calls) none in
    and_from (is_parted c) (are_parted calls) (one (is_parted c) (is_first c) both.0 off.0) (no_first_parted calls both.1 off.1)
  where
    one : (a b : Bool) → (a || b) ≡ true → b ≡ false → a ≡ true
    one true b e off = refl
    one false b e off = absurd (false≢true (sym off ∙ e))

-- what calls make of nodes are nodes
pub made_nodes : (t : LabelTree) (S : List ℕ → Type 0) → ((v : List ℕ) → S v → IsNode t v) → (calls : List ExactCall) (v : List ℕ) → MadeExactly t S calls v → IsNode t v
made_nodes t S node [] v m = node v m
made_nodes t S node (plain c ∷ earlier) v m = made_node t (MadeExactly t S earlier) (made_nodes t S node earlier) c v m
made_nodes t S node (closest cs ∷ earlier) v m = FitsOne-node t v cs m.0
made_nodes t S node (siblings cs ∷ earlier) v m = MayFit-node t v cs m.0
made_nodes t S node (first ∷ earlier) v m = made_nodes t S node earlier v m.0

-- ---- the least number is that of the first node

module _ (t : LabelTree) (S : List ℕ → Type 0) (node : (v : List ℕ) → S v → IsNode t v) (block : List ExactCall) (r : ℕ) (is : (k : ℕ) → k ≤ count_of t → (r < k) ↔ ((v : List ℕ) × MadeExactly t S block v × IsEarly t k v)) where
  abbrev made : List ℕ → Type 0
  made v = MadeExactly t S block v

  abbrev first_made : List ℕ → Type 0
  first_made v = MadeExactly t S (first ∷ block) v

  least : (j : ℕ) → j < count_of t → made (path_at t j) → r ≤ j
  least j less m = let low = (is (suc j) (omega (arith, less))).1 (path_at t j, m, (j, less, refl, omega arith)) in omega (arith, low)

  there : r < count_of t → made (path_at t r)
  there within =
      let h = (is (suc r) (omega (arith, within))).0 (omega arith) in
      let early = h.2 in
      let j = early.0 in
      let m : made (path_at t j) = subst made (sym early.2) h.1 in
      let low = least j early.1 m in
      let high = early.3 in
      let same : j ≡ r = omega (arith, low, high) in
      subst (λ z. made (path_at t z)) same m

  one : (v : List ℕ) → first_made v ↔ ((r < count_of t) × (path_at t r ≡ v))
  one = first_of t made (made_nodes t S node block) r least there

  -- the first node is alone, or there is none
  alone : r < count_of t → (w : List ℕ) → first_made w ↔ (w ≡ path_at t r)
  alone within w = (λ m. sym ((one w).0 m).1, λ same. (one w).1 (within, sym same))

  none_first : count_of t ≤ r → (w : List ℕ) → first_made w ↔ nowhere w
  none_first past w = (λ m. let less = ((one w).0 m).0 in absurd (omega (arith, less, past)), λ no'. absurd no')

  pub behind_first : (later : List ExactCall) (v : List ℕ) → MadeExactly t S (later ++ first ∷ block) v
      ↔ (((r < count_of t) × MadeExactly t (λ z. z ≡ path_at t r) later v) ⊎ ((count_of t ≤ r) × MadeExactly t nowhere later v))
  behind_first later v = (
    λ m.
        let m' = (made_behind t S later (first ∷ block) v).0 m in
        elim (cases_lt r (count_of t)) [
          | inl within ↦ inl (within, (made_same t first_made (λ z. z ≡ path_at t r) (alone within) later v).0 m')
          | inr past ↦ inr (past, (made_same t first_made nowhere (none_first past) later v).0 m')
        ],
    λ h. (made_behind t S later (first ∷ block) v).1 (elim h [
      | inl some ↦ (made_same t first_made (λ z. z ≡ path_at t r) (alone some.0) later v).1 some.1
      | inr none ↦ (made_same t first_made nowhere (none_first none.0) later v).1 none.1
    ]),
  )

-- ---- one first node for all

-- there is a set: that of a marked node, or the empty one
abbrev pub HasSet : LabelTree → List Bool → Bool → Type 0
HasSet t marks none = ((i : ℕ) × (i < count_of t) × (mark marks i ≡ true)) ⊎ (none ≡ true)

module _ (t : LabelTree) (marks made : List Bool) (none none' : Bool) (ranks : List ℕ) (r : ℕ) (later block : List ExactCall) (is : AreLeastMade t block ranks r) (firsts : IsSetOf t made (IsFirstMade t ranks r marks none))
    (left : (none' ≡ true) ↔ IsNoneMade t ranks r marks none) where
  abbrev number : ℕ → ℕ
  number i = rank ranks (count_of t) i

  abbrev From : (List ℕ → Type 0) → List ExactCall → List ℕ → Type 0
  From S calls v = MadeExactly t S calls v

  least_at : (i : ℕ) → i < count_of t → (k : ℕ) → k ≤ count_of t → (number i < k) ↔ ((v : List ℕ) × MadeExactly t (λ z. z ≡ path_at t i) block v × IsEarly t k v)
  least_at i lt k low =
      let h = ranked_at t ranks (λ k w. IsNode t w × (v : List ℕ) × MadeExactly t (λ z. z ≡ w) block v × IsEarly t k v) is.nodes i lt k low in
      (λ less. let g = h.0 less in (g.1, g.2, g.3), λ g. h.1 (node_there t i lt, g.0, g.1, g.2))

  of_one : (i : ℕ) → i < count_of t → (v : List ℕ) → MadeExactly t (λ z. z ≡ path_at t i) (later ++ first ∷ block) v
      ↔ (((number i < count_of t) × MadeExactly t (λ z. z ≡ path_at t (number i)) later v) ⊎ ((count_of t ≤ number i) × MadeExactly t nowhere later v))
  of_one i lt = behind_first t (λ z. z ≡ path_at t i) (λ w same. subst (IsNode t) (sym same) (node_there t i lt)) block (number i) (least_at i lt) later

  of_nothing : (v : List ℕ) → MadeExactly t nowhere (later ++ first ∷ block) v ↔ (((r < count_of t) × MadeExactly t (λ z. z ≡ path_at t r) later v) ⊎ ((count_of t ≤ r) × MadeExactly t nowhere later v))
  of_nothing = behind_first t nowhere (λ w no'. absurd no') block r is.none later

  reached : (i : ℕ) → i < count_of t → mark marks i ≡ true → number i < count_of t → mark made (number i) ≡ true
  reached i lt on within = marked_at t made (number i) within ((firsts (path_at t (number i))).1 (inl (i, lt, (i, lt, refl, on), within, refl)))

  reached_of_none : none ≡ true → r < count_of t → mark made r ≡ true
  reached_of_none on within = marked_at t made r within ((firsts (path_at t r)).1 (inr (on, within, refl)))

  lost : (i : ℕ) → i < count_of t → mark marks i ≡ true → count_of t ≤ number i → none' ≡ true
  lost i lt on past = left.1 (inl (i, lt, (i, lt, refl, on), past))

  forth : (v : List ℕ) → FromNodesOrNone t marks none (later ++ first ∷ block) v → FromNodesOrNone t made none' later v
  forth v from = elim from [
    | inl f ↦ elim ((of_one f.0 f.1 v).0 f.3) [
      | inl some ↦ inl (number f.0, some.0, reached f.0 f.1 f.2 some.0, some.1)
      | inr gone ↦ inr (lost f.0 f.1 f.2 gone.0, gone.1)
    ]
    | inr g ↦ elim ((of_nothing v).0 g.1) [
      | inl some ↦ inl (r, some.0, reached_of_none g.0 some.0, some.1)
      | inr gone ↦ inr (left.1 (inr (g.0, gone.0)), gone.1)
    ]
  ]

  back_from : (v : List ℕ) → FromNodesOrNone t made none' later v → FromNodesOrNone t marks none (later ++ first ∷ block) v
  back_from v from = elim from [
    | inl f ↦ elim ((firsts (path_at t f.0)).0 (f.0, f.1, refl, f.2)) [
      | inl h ↦
          let m : MadeExactly t (λ z. z ≡ path_at t (number h.0)) later v = subst (λ (p : List ℕ). MadeExactly t (λ z. z ≡ p) later v) (sym h.4) f.3 in
          inl (h.0, h.1, marked_at t marks h.0 h.1 h.2, (of_one h.0 h.1 v).1 (inl (h.3, m)))
      | inr h ↦
          let m : MadeExactly t (λ z. z ≡ path_at t r) later v = subst (λ (p : List ℕ). MadeExactly t (λ z. z ≡ p) later v) (sym h.2) f.3 in
          inr (h.0, (of_nothing v).1 (inl (h.1, m)))
    ]
    | inr g ↦ elim (left.0 g.0) [
      | inl h ↦ inl (h.0, h.1, marked_at t marks h.0 h.1 h.2, (of_one h.0 h.1 v).1 (inr (h.3, g.1)))
      | inr h ↦ inr (h.0, (of_nothing v).1 (inr (h.1, g.1)))
    ]
  ]

  pub one_first : (v : List ℕ) → FromNodesOrNone t marks none (later ++ first ∷ block) v ↔ FromNodesOrNone t made none' later v
  one_first v = (forth v, back_from v)

  pub set_left : HasSet t marks none → HasSet t made none'
  set_left some = elim some [
    | inl h ↦ elim (cases_lt (number h.0) (count_of t)) [
      | inl within ↦ inl (number h.0, within, reached h.0 h.1 h.2 within)
      | inr past ↦ inr (lost h.0 h.1 h.2 past)
    ]
    | inr on ↦ elim (cases_lt r (count_of t)) [
      | inl within ↦ inl (r, within, reached_of_none on within)
      | inr past ↦ inr (left.1 (inr (on, past)))
    ]
  ]

-- behind the last first node they go on as one set
pub as_one : (t : LabelTree) (marks : List Bool) (none : Bool) (m : List Bool) (calls : List ExactCall) → are_parted calls ≡ true → HasSet t marks none → ((v : List ℕ) → IsMarked t m v ↔ MadeExactly t (IsMarked t marks) calls v)
    → (v : List ℕ) → IsMarked t m v ↔ FromNodesOrNone t marks none calls v
as_one t marks none m calls lead some made v = (
  λ on. elim (parts_from t (IsMarked t marks) calls lead v ((made v).0 on)) [
    | inl empty ↦ elim some [
      | inl h ↦ inl (h.0, h.1, h.2, made_more t nowhere (λ w. w ≡ path_at t h.0) (λ w no'. absurd no') calls lead v empty)
      | inr none_is ↦ inr (none_is, empty)
    ]
    | inr parts ↦ let x = parts.1 in inl (x.0, x.1, x.3, subst (λ z. MadeExactly t (λ w. w ≡ z) calls v) (sym x.2) parts.2)
  ],
  λ from. (made v).1 (elim from [
    | inl f ↦ made_more t (λ w. w ≡ path_at t f.0) (IsMarked t marks) (λ w same. (f.0, f.1, sym same, f.2)) calls lead v f.3
    | inr g ↦ made_more t nowhere (IsMarked t marks) (λ w no'. absurd no') calls lead v g.1
  ]),
)

-- ---- the calls of numbers

last_first-append : (all : List ExactCall) (numbers : List ℕ) (others : List ExactCall) → last_first all numbers others ≡ last_first all numbers [] ++ others
last_first-append all [] others = refl
last_first-append all (n ∷ numbers) others =
    last_first-append all numbers (get_or all n (plain back) ∷ others)
    ∙ sym (append_assoc (last_first all numbers []) (get_or all n (plain back) ∷ []) others)
    ∙ ap (λ z. z ++ others) (sym (last_first-append all numbers (get_or all n (plain back) ∷ [])))

module _ (sharp : List Sharp) (h : Option ℕ) (calls : List code.Call) where
  -- the call of a number before others
  pub stood_front : (n : ℕ) (numbers : List ℕ) → stood sharp h calls (n ∷ numbers) ≡ stood sharp h calls numbers ++ numbered sharp h calls n ∷ []
  stood_front n numbers = last_first-append (exact_calls sharp h 0 (map call_of calls)) numbers (numbered sharp h calls n ∷ [])

  pub stood_parts : (before : List ℕ) (n : ℕ) (later : List ℕ) → stood sharp h calls (before ++ n ∷ later) ≡ stood sharp h calls later ++ numbered sharp h calls n ∷ stood sharp h calls before
  stood_parts [] n later = stood_front n later
  stood_parts (m ∷ before) n later =
      stood_front m (before ++ n ∷ later)
      ∙ ap (λ z. z ++ numbered sharp h calls m ∷ []) (stood_parts before n later)
      ∙ append_assoc (stood sharp h calls later) (numbered sharp h calls n ∷ stood sharp h calls before) (numbered sharp h calls m ∷ [])
      ∙ ap (λ z. stood sharp h calls later ++ numbered sharp h calls n ∷ z) (sym (stood_front m before))

-- ---- calls before others, back from the last one

module _ (t : LabelTree) where
  -- no calls
  pub least_none : (own : List ℕ) (past : ℕ) → AreRanked t own (IsEarly t) → past ≡ count_of t → AreLeastMade t [] own past
  least_none own past is same = record {
    nodes = λ k low w. (
      λ on. let early = (is k low w).0 on in (subst (IsNode t) early.2 (node_there t early.0 early.1), w, refl, early),
      λ h. (is k low w).1 (subst (IsEarly t k) h.2 h.3),
    );
    none = λ k low. (λ less. absurd (omega (arith, less, same, low)), λ h. absurd h.1);
  }

  -- one call before them
  module _ (c : ExactCall) (calls : List ExactCall) (ranks : List ℕ) (of_none : ℕ) (lead : are_parted calls ≡ true) (is : AreLeastMade t calls ranks of_none) (k : ℕ) (low : k ≤ count_of t) where
    one_more : (S : List ℕ → Type 0) → ((v : List ℕ) → S v → IsNode t v) → ((v : List ℕ) × MadeExactly t S (calls ++ c ∷ []) v × IsEarly t k v) ↔ (((x : List ℕ) × IsMadeExactly t S c x × IsUnder t k ranks x) ⊎ (of_none < k))
    one_more S node = (
      λ h. elim (parts_from t (IsMadeExactly t S c) calls lead h.0 ((made_behind t S calls (c ∷ []) h.0).0 h.1)) [
        | inl empty ↦ inr ((is.none k low).1 (h.0, empty, h.2))
        | inr parts ↦
            let x = parts.0 in
            let here : IsNode t x = made_nodes t S node (c ∷ []) x parts.1 in
            inl (x, parts.1, (is.nodes k low x).1 (here, h.0, parts.2, h.2))
      ],
      λ h. elim h [
        | inl some ↦
            let g = (is.nodes k low some.0).0 some.2 in
            let m = made_more t (λ z. z ≡ some.0) (IsMadeExactly t S c) (λ y same. subst (IsMadeExactly t S c) (sym same) some.1) calls lead g.1 g.2 in
            (g.1, (made_behind t S calls (c ∷ []) g.1).1 m, g.3)
        | inr less ↦
            let g = (is.none k low).0 less in
            let m = made_more t nowhere (IsMadeExactly t S c) (λ y no'. absurd no') calls lead g.0 g.1 in
            (g.0, (made_behind t S calls (c ∷ []) g.0).1 m, g.2)
      ],
    )

  pub least_more : (c : ExactCall) (calls : List ExactCall) (ranks : List ℕ) (of_none : ℕ) (made : List ℕ) (less : ℕ) → are_parted calls ≡ true → AreLeastMade t calls ranks of_none → AreBefore t c ranks of_none made less → AreLeastMade t (calls ++ c ∷ []) made less
  least_more c calls ranks of_none made less lead is before = record {
    nodes = λ k low w. (
      λ on.
          let h = (before.nodes k low w).0 on in
          let g = (one_more c calls ranks of_none lead is k low (λ z. z ≡ w) (λ y same. subst (IsNode t) (sym same) h.0)).1 h.1 in
          (h.0, g.0, g.1, g.2),
      λ g. (before.nodes k low w).1 (g.0, (one_more c calls ranks of_none lead is k low (λ z. z ≡ w) (λ y same. subst (IsNode t) (sym same) g.0)).0 (g.1, g.2, g.3)),
    );
    none = λ k low.
        let both = one_more c calls ranks of_none lead is k low nowhere (λ y no'. absurd no') in
        (λ l. both.1 ((before.none k low).0 l), λ h. (before.none k low).1 (both.0 h));
  }

  -- a call that leads back, of which nothing comes of no node
  pub before_back : (c : ExactCall) (ranks : List ℕ) (of_none : ℕ) (made all : List ℕ) → leads_back c ≡ true → IsBefore t c ranks made → AreRanked t all (λ k v. IsNode t v × (IsUnder t k made v ⊎ (of_none < k))) → AreBefore t c ranks of_none all of_none
  before_back c ranks of_none made all lead before stop = record {
    nodes = λ k low w. (
      λ on.
          let h = (stop k low w).0 on in (
            h.0,
            elim h.1 [
              | inl under' ↦ let g = (before k low w).0 under' in inl (g.1, g.2, g.3)
              | inr less ↦ inr less
            ],
          ),
      λ h. (stop k low w).1 (
        h.0,
        elim h.1 [
          | inl g ↦ inl ((before k low w).1 (h.0, g.0, g.1, g.2))
          | inr less ↦ inr less
        ],
      ),
    );
    none = λ k low. (λ less. inr less, λ h. elim h [ inl g ↦ absurd (none_by t c lead g.0 g.1) | inr less ↦ less ]);
  }

  -- a call that adds
  pub before_add : (ss : List Selector) (matched : List Bool) (ranks added all : List ℕ) (of_none l less : ℕ) → ((v : List ℕ) → IsMarked t matched v ↔ MatchesOne t ss v) → AreRanked t added (λ k v. IsMarked t matched v × IsUnder t k ranks v)
      → IsLeastRank t added l → less ≡ min l of_none → AreRanked t all (λ k v. IsNode t v × (IsUnder t k ranks v ⊎ (less < k))) → AreBefore t (plain (add ss)) ranks of_none all less
  before_add ss matched ranks added all of_none l less matches are least is stop = record {
    nodes = λ k low w. (
      λ on.
          let h = (stop k low w).0 on in (
            h.0,
            elim h.1 [
              | inl here ↦ let own : (w ≡ w) ⊎ MatchesOne t ss w = inl refl in inl (w, own, here)
              | inr low' ↦ elim (from_less k low low') [
                | inl g ↦ let new : (g.0 ≡ w) ⊎ MatchesOne t ss g.0 = inr g.1 in inl (g.0, new, g.2)
                | inr none ↦ inr none
              ]
            ],
          ),
      λ h. (stop k low w).1 (
        h.0,
        elim h.1 [
          | inl g ↦
              let parts : (g.0 ≡ w) ⊎ MatchesOne t ss g.0 = g.1 in
              elim parts [
                | inl same ↦ inl (subst (IsUnder t k ranks) same g.2)
                | inr new ↦ inr (to_less k low (inl (g.0, new, g.2)))
              ]
          | inr none ↦ inr (to_less k low (inr none))
        ],
      ),
    );
    none = λ k low. (
      λ low'. elim (from_less k low low') [
        | inl g ↦ let new : ⊥ ⊎ MatchesOne t ss g.0 = inr g.1 in inl (g.0, new, g.2)
        | inr none ↦ inr none
      ],
      λ h. elim h [
        | inl g ↦
            let parts : ⊥ ⊎ MatchesOne t ss g.0 = g.1 in
            elim parts [
              | inl no' ↦ absurd no'
              | inr new ↦ to_less k low (inl (g.0, new, g.2))
            ]
        | inr none ↦ to_less k low (inr none)
      ],
    );
  }
    where
      lesser : (k : ℕ) → l < k → less < k
      lesser k low = omega (arith, is, low)

      lesser_none : (k : ℕ) → of_none < k → less < k
      lesser_none k low = omega (arith, is, low)

      from_less : (k : ℕ) → k ≤ count_of t → less < k → ((x : List ℕ) × MatchesOne t ss x × IsUnder t k ranks x) ⊎ (of_none < k)
      from_less k low lt = elim (cases_lt of_none k) [
        | inl none ↦ inr none
        | inr past ↦
            let low' : l < k = omega (arith, is, lt, past) in
            let g = (least k low).0 low' in
            let both = (are k low g.0).0 g.1 in
            inl (g.0, (matches g.0).0 both.0, both.1)
      ]

      to_less : (k : ℕ) → k ≤ count_of t → (((x : List ℕ) × MatchesOne t ss x × IsUnder t k ranks x) ⊎ (of_none < k)) → less < k
      to_less k low h = elim h [
        | inl g ↦ lesser k ((least k low).1 (g.0, (are k low g.0).1 ((matches g.0).1 g.1, g.2)))
        | inr none ↦ lesser_none k none
      ]

-- ---- the loops over numbers

parted_append : (xs ys : List ExactCall) → are_parted (xs ++ ys) ≡ true → (are_parted xs ≡ true) × (are_parted ys ≡ true)
parted_append [] ys lead = (refl, lead)
parted_append (c ∷ xs) ys lead =
    let both = and_parts (is_parted c) (are_parted (xs ++ ys)) lead in
    let rest = parted_append xs ys both.1 in
    (and_from (is_parted c) (are_parted xs) both.0 rest.0, rest.1)

some_append : (xs ys : List ExactCall) → parted_or_first (xs ++ ys) ≡ true → (parted_or_first xs ≡ true) × (parted_or_first ys ≡ true)
some_append [] ys some = (refl, some)
some_append (c ∷ xs) ys some =
    let both = and_parts (is_parted c || is_first c) (parted_or_first (xs ++ ys)) some in
    let rest = some_append xs ys both.1 in
    (and_from (is_parted c || is_first c) (parted_or_first xs) both.0 rest.0, rest.1)

module _ (sharp : List Sharp) (h : Option ℕ) (calls : List code.Call) where
  abbrev call_at : ℕ → ExactCall
  call_at n = numbered sharp h calls n

  pub there_is : (n : ℕ) (c : code.Call) → true ≡ nat_lt n (length calls) → c ≡ get_or calls n c → numbered sharp h calls n ≡ with_kind (call_of c) (kind_at sharp h n)
  there_is n c there is = number_there sharp h calls n c (ltb-true n (length calls) (sym there)) is

  pub past_is : (n : ℕ) → false ≡ nat_lt n (length calls) → numbered sharp h calls n ≡ plain back
  past_is n past = number_past sharp h calls n (ltb-false n (length calls) (sym past))

  -- what isn't there leads nowhere
  pub not_past : (n : ℕ) → false ≡ nat_lt n (length calls) → is_parted (numbered sharp h calls n) ≡ true → ⊥
  not_past n past lead = false≢true (sym (ap is_parted (past_is n past)) ∙ lead)

  -- one number more that leads back, or asks
  pub some_more : (numbers : List ℕ) (i : ℕ) → i < length numbers → parted_or_first (numbered sharp h calls (get_or numbers i 0) ∷ []) ≡ true → parted_or_first (stood sharp h calls (take i numbers)) ≡ true → parted_or_first (stood sharp h calls (take (i + 1) numbers)) ≡ true
  some_more numbers i lt one before =
      let c = call_at (get_or numbers i 0) in
      ap parted_or_first (stood_next sharp h calls numbers i lt) ∙ and_from (is_parted c || is_first c) (parted_or_first (stood sharp h calls (take i numbers))) (and_parts (is_parted c || is_first c) true one).0 before

  pub none_more : (numbers : List ℕ) (i : ℕ) → i < length numbers → is_first (numbered sharp h calls (get_or numbers i 0)) ≡ false → asks_first (stood sharp h calls (take i numbers)) ≡ false → asks_first (stood sharp h calls (take (i + 1) numbers)) ≡ false
  none_more numbers i lt one before = ap asks_first (stood_next sharp h calls numbers i lt) ∙ ap (λ b. b || asks_first (stood sharp h calls (take i numbers))) one ∙ before

  whole : (numbers : List ℕ) (n : ℕ) → n < length numbers → stood sharp h calls numbers ≡ stood sharp h calls (drop (n + 1) numbers) ++ call_at (get_or numbers n 0) ∷ stood sharp h calls (take n numbers)
  whole numbers n lt =
      ap (stood sharp h calls) (sym (take-append-drop n numbers) ∙ ap (λ z. take n numbers ++ z) (drop_more numbers n 0 lt))
      ∙ stood_parts sharp h calls (take n numbers) (get_or numbers n 0) (drop (n + 1) numbers)

  -- all calls lead back, so does each of them, and those behind it
  pub each_leads : (numbers : List ℕ) (n : ℕ) → n < length numbers → are_parted (stood sharp h calls numbers) ≡ true → (is_parted (numbered sharp h calls (get_or numbers n 0)) ≡ true) × (are_parted (stood sharp h calls (drop (n + 1) numbers)) ≡ true)
  each_leads numbers n lt lead =
      let c = call_at (get_or numbers n 0) in
      let parts = parted_append (stood sharp h calls (drop (n + 1) numbers)) (c ∷ stood sharp h calls (take n numbers)) (sym (ap are_parted (whole numbers n lt)) ∙ lead) in
      ((and_parts (is_parted c) (are_parted (stood sharp h calls (take n numbers))) parts.1).0, parts.0)

  -- one call before them
  pub least_before : (t : LabelTree) (numbers : List ℕ) (n : ℕ) (ranks : List ℕ) (of_none : ℕ) (made : List ℕ) (less : ℕ) → n < length numbers → are_parted (stood sharp h calls numbers) ≡ true
      → AreLeastMade t (stood sharp h calls (drop (n + 1) numbers)) ranks of_none → AreBefore t (numbered sharp h calls (get_or numbers n 0)) ranks of_none made less → AreLeastMade t (stood sharp h calls (drop n numbers)) made less
  least_before t numbers n ranks of_none made less lt lead is before =
      let c = call_at (get_or numbers n 0) in
      let rest = drop (n + 1) numbers in
      subst (λ z. AreLeastMade t z made less) (sym (ap (stood sharp h calls) (drop_more numbers n 0 lt) ∙ stood_front sharp h calls (get_or numbers n 0) rest))
      (least_more t c (stood sharp h calls rest) ranks of_none made less (each_leads numbers n lt lead).1 is before)

  -- the block before a first node, what asks for it, and what is behind
  pub at_first : (rest : List ℕ) (p : ℕ) → p < length rest → numbered sharp h calls (get_or rest p 0) ≡ first → stood sharp h calls rest ≡ stood sharp h calls (drop (p + 1) rest) ++ first ∷ stood sharp h calls (take p rest)
  at_first rest p lt is = whole rest p lt ∙ ap (λ z. stood sharp h calls (drop (p + 1) rest) ++ z ∷ stood sharp h calls (take p rest)) is

  pub some_parts : (rest : List ℕ) (p : ℕ) → p < length rest → numbered sharp h calls (get_or rest p 0) ≡ first → parted_or_first (stood sharp h calls rest) ≡ true → (parted_or_first (stood sharp h calls (drop (p + 1) rest)) ≡ true) × (parted_or_first (stood sharp h calls (take p rest)) ≡ true)
  some_parts rest p lt is some =
      let parts = some_append (stood sharp h calls (drop (p + 1) rest)) (first ∷ stood sharp h calls (take p rest)) (sym (ap parted_or_first (at_first rest p lt is)) ∙ some) in
      (parts.0, (and_parts true (parted_or_first (stood sharp h calls (take p rest))) parts.1).1)

  -- one first node more
  pub block_leads : (rest : List ℕ) (p : ℕ) → p < length rest → numbered sharp h calls (get_or rest p 0) ≡ first → parted_or_first (stood sharp h calls rest) ≡ true → asks_first (stood sharp h calls (take p rest)) ≡ false → are_parted (stood sharp h calls (take p rest)) ≡ true
  block_leads rest p lt is some none = no_first_parted (stood sharp h calls (take p rest)) (some_parts rest p lt is some).1 none

  module _ (t : LabelTree) (marks made : List Bool) (none none' : Bool) (rest : List ℕ) (p : ℕ) (ranks : List ℕ) (r : ℕ) (lt : p < length rest) (is : numbered sharp h calls (get_or rest p 0) ≡ first)
      (least : AreLeastMade t (stood sharp h calls (take p rest)) ranks r) (firsts : IsSetOf t made (IsFirstMade t ranks r marks none)) (left : (none' ≡ true) ↔ IsNoneMade t ranks r marks none) where
    pub firsts_more : (named : List Bool) (numbers : List ℕ) → ((v : List ℕ) → FromNodes t named (stood sharp h calls numbers) (count_of t) v ↔ FromNodesOrNone t marks none (stood sharp h calls rest) v)
        → (v : List ℕ) → FromNodes t named (stood sharp h calls numbers) (count_of t) v ↔ FromNodesOrNone t made none' (stood sharp h calls (drop (p + 1) rest)) v
    firsts_more named numbers before v =
        let later = stood sharp h calls (drop (p + 1) rest) in
        let block = stood sharp h calls (take p rest) in
        let one = one_first t marks made none none' ranks r later block least firsts left v in
        let before' = subst (λ z. FromNodes t named (stood sharp h calls numbers) (count_of t) v ↔ FromNodesOrNone t marks none z v) (at_first rest p lt is) (before v) in
        (λ f. one.0 (before'.0 f), λ f. before'.1 (one.1 f))

    pub set_more : HasSet t marks none → HasSet t made none'
    set_more some = set_left t marks made none none' ranks r [] (stood sharp h calls (take p rest)) least firsts left some

pub none_left : (o : Option ℕ) → ((p : ℕ) → o ≡ Some p → ⊥) → IsNone o
none_left None no' = refl
none_left (Some p) no' = absurd (no' p refl)

-- at first there is no empty set
pub firsts_begin : (t : LabelTree) (named marks : List Bool) (calls : List ExactCall) → marks ≡ named → (v : List ℕ) → FromNodes t named calls (count_of t) v ↔ FromNodesOrNone t marks false calls v
firsts_begin t named marks calls same v =
    subst (λ (z : List Bool). FromNodes t named calls (count_of t) v ↔ FromNodesOrNone t z false calls v) (sym same) (λ f. inl f, λ h. elim h [ inl f ↦ f | inr g ↦ absurd (false≢true g.0) ])

pub set_begin : (t : LabelTree) (named marks : List Bool) → marks ≡ named → ((w : List ℕ) × IsMarked t named w) → HasSet t marks false
set_begin t named marks same some = subst (λ z. HasSet t z false) (sym same) (let on = some.1 in inl (on.0, on.1, on.3))

pub firsts_done : (t : LabelTree) (named marks : List Bool) (none : Bool) (m : List Bool) (all left : List ExactCall) → parted_or_first left ≡ true → asks_first left ≡ false → HasSet t marks none
    → ((v : List ℕ) → FromNodes t named all (count_of t) v ↔ FromNodesOrNone t marks none left v) → ((v : List ℕ) → IsMarked t m v ↔ MadeExactly t (IsMarked t marks) left v) → (v : List ℕ) → IsMarked t m v ↔ FromNodes t named all (count_of t) v
firsts_done t named marks none m all left parted asks some before made v =
    let one = as_one t marks none m left (no_first_parted left parted asks) some made v in
    (λ on. (before v).1 (one.0 on), λ f. one.1 ((before v).0 f))

-- the first node of what is made of no node, too
pub with_none : (t : LabelTree) (ranks : List ℕ) (r : ℕ) (marks reached one m : List Bool) (none : Bool) → ((none ≡ true) × (r < count_of t)) → IsSetOf t reached (IsReached t ranks (IsMarked t marks)) → IsSetOf t one (λ v. v ≡ path_at t r)
    → IsSetOf t m (λ v. IsMarked t reached v ⊎ IsMarked t one v) → IsSetOf t m (IsFirstMade t ranks r marks none)
with_none t ranks r marks reached one m none some are alone either v = (
  λ on. elim ((either v).0 on) [ inl old ↦ inl ((are v).0 old) | inr new ↦ inr (some.0, some.1, sym ((alone v).0 new)) ],
  λ h. (either v).1 (elim h [ inl old ↦ inl ((are v).1 old) | inr new ↦ inr ((alone v).1 (sym new.2)) ]),
)

pub without_none : (t : LabelTree) (ranks : List ℕ) (r : ℕ) (marks reached : List Bool) (none b : Bool) → b ≡ false → (IsTrue b ↔ ((none ≡ true) × (r < count_of t))) → IsSetOf t reached (IsReached t ranks (IsMarked t marks)) → IsSetOf t reached (IsFirstMade t ranks r marks none)
without_none t ranks r marks reached none b off test are v = (
  λ on. inl ((are v).0 on),
  λ h. elim h [ inl old ↦ (are v).1 old | inr new ↦ absurd (false≢true (sym off ∙ test.1 (new.0, new.1))) ],
)
