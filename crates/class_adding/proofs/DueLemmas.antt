-- Which nodes the next round looks at.
use Rattle.std.proofs.Common.{◌≡◌, ◌⊎◌, ℕ, ◌<◌, List, [], ◌∷◌, ◌++◌, length, get_or, Option, None, IsTrue, Contains, sym, ap, ◌∙◌, inl, inr, arith, subst}
use Rattle.std.proofs.lemmas.Bool.{cases_order}
use Rattle.std.proofs.lemmas.List.{get_or_append_left, get_or_push, get_or_past, length_push}
use Rattle.std.proofs.lemmas.List.Elements.{Contains-append_left, Contains-append_right, Contains-append_cases}
use Rattle.tp_base.proofs.Rising.{Contains-none}
use Rattle.closed_page.specs.Labelled.{IsParentIn}
use Rattle.closed_page.proofs.CallLemmas.{pushed, pushed_kept, pushed_there}
use Rattle.class_adding.specs.declared.looking.Look.{Look}
use Rattle.class_adding.specs.Work.{AreNumbers, AreKidsIn, IsNear}

pub from_none : (old new row : List ℕ) (i : ℕ) → old ≡ [] → new ≡ old ++ row → Contains new i → Contains row i
from_none old new row i none is there = elim (Contains-append_cases old row i (subst (λ (z : List ℕ). Contains z i) is there)) [
  | inl before ↦ absurd (Contains-none i (subst (λ (z : List ℕ). Contains z i) none before))
  | inr here ↦ here
]

-- ---- a node's parent and children

pub near_more : (nodes : List (List ℕ)) (l : Look) (old new : List ℕ) → ((i : ℕ) → Contains old i → Contains new i) → IsNear nodes l old → IsNear nodes l new
near_more nodes l old new kept f = record {
  itself = kept l.number f.itself;
  above = λ seen p n less at. kept p (f.above seen p n less at);
  below = λ seen d n less at. kept d (f.below seen d n less at);
}

module _ (nodes : List (List ℕ)) (l : Look) (old one two three row : List ℕ) (first : one ≡ old ++ l.number ∷ []) (last : three ≡ two ++ row) where
  pub near_now : ((i : ℕ) → Contains one i → Contains two i) → (IsTrue l.seen_above → IsParentIn nodes l.number two) → (IsTrue l.seen_below → AreKidsIn nodes l.number row) → IsNear nodes l three
  near_now kept parent kids =
      let on : (i : ℕ) → Contains two i → Contains three i = λ i there. subst (λ (z : List ℕ). Contains z i) (sym last) (Contains-append_left two row i there) in
      record {
        itself = on l.number (kept l.number (pushed_there old one l.number first));
        above = λ seen p n less at. on p (parent seen p n less at);
        below = λ seen d n less at. subst (λ (z : List ℕ). Contains z d) (sym last) (Contains-append_right two row d (kids seen d n less at));
      }

  pub near_within : l.number < length nodes → ((i : ℕ) → Contains two i → Contains one i ⊎ (i < length nodes)) → AreNumbers nodes row → (i : ℕ) → Contains three i → Contains old i ⊎ (i < length nodes)
  near_within less within kids i there = elim (Contains-append_cases two row i (subst (λ (z : List ℕ). Contains z i) last there)) [
    | inr kid ↦ inr (kids i kid)
    | inl rest ↦ elim (within i rest) [
      | inr in_nodes ↦ inr in_nodes
      | inl early ↦ elim (pushed old one l.number i first early) [ inl before ↦ inl before | inr same ↦ inr (subst (λ z. z < length nodes) (sym same) less) ]
    ]
  ]

  pub near_kept : ((i : ℕ) → Contains one i → Contains two i) → (i : ℕ) → Contains old i → Contains three i
  near_kept kept i there = subst (λ (z : List ℕ). Contains z i) (sym last) (Contains-append_left two row i (kept i (pushed_kept old one l.number i first there)))

-- ---- no round for any node

pub none_more : {X : Type 0} (old new : List (Option X)) (i : ℕ) → new ≡ old ++ None ∷ [] → length old ≡ i → ((j : ℕ) → get_or old j None ≡ None) → (j : ℕ) → get_or new j None ≡ None
none_more {X} old new i is long f j =
    let none : Option X = None in
    let last : get_or (old ++ None ∷ []) i None ≡ None = get_or_push old None None i long in
    ap (λ (z : List (Option X)). get_or z j None) is ∙ elim (cases_order j i) [
      | inl same ↦ ap (λ n. get_or (old ++ None ∷ []) n None) same ∙ last
      | inr (inl less) ↦ get_or_append_left old (None ∷ []) None j (omega (arith, less, long)) ∙ f j
      | inr (inr more) ↦ get_or_past (old ++ None ∷ []) j None (omega (arith, more, long, length_push old none))
    ]
