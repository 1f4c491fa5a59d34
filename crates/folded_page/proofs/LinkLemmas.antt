-- One node more, from the last one to the first.
use Rattle.std.proofs.Common.{◌≡◌, ◌≢◌, ℕ, ◌+◌, ◌<◌, ◌≤◌, List, length, set, get_or, sym, ap, ◌∙◌, inl, inr, arith}
use Rattle.std.proofs.lemmas.Bool.{cases_eq}
use Rattle.std.proofs.lemmas.List.{get_or-set_same, get_or-set_other}
use Rattle.node_marks.specs.Numbering.{parent_number, AreAbove}
use Rattle.folded_page.specs.Links.{IsFirst, IsNext, AreFirst, AreNext, AreLinks}

module _ (parents : List ℕ) where
  abbrev up : ℕ → ℕ
  up i = parent_number parents i

  pub first_one : (first : List ℕ) (node k : ℕ) → AreAbove parents → k + 1 ≡ node → 0 < k → k < length parents → length first ≡ length parents → AreFirst parents first node → AreFirst parents (set first (up k) k) k
  first_one first node k above is some within long begun d low less =
      let higher : up k < k = above k some within in
      elim (cases_eq (up d) (up k)) [
        | inl same ↦
            let at : get_or (set first (up k) k) (up d) 0 ≡ k = ap (λ p. get_or (set first (up k) k) p 0) same ∙ get_or-set_same first (up k) k 0 (omega (arith, higher, within, long)) in
            record { behind = omega (arith, at, same, higher); low = omega (arith, at); high = omega (arith, at, low) }
        | inr differ ↦
            let apart : d ≢ k = λ same. differ (ap up same) in
            let old : IsFirst first node (up d) d = begun d (omega (arith, low, is, apart)) less in
            let at : get_or (set first (up k) k) (up d) 0 ≡ get_or first (up d) 0 = get_or-set_other first (up k) (up d) k 0 differ in
            let behind : up d < get_or first (up d) 0 = old.behind in
            let lower : node ≤ get_or first (up d) 0 = old.low in
            let high : get_or first (up d) 0 ≤ d = old.high in
            record { behind = omega (arith, at, behind); low = omega (arith, at, lower, is); high = omega (arith, at, high) }
      ]

  pub next_one : (first next : List ℕ) (node k before : ℕ) → k + 1 ≡ node → k < length parents → length next ≡ length parents → before ≡ get_or first (up k) 0 → AreFirst parents first node → AreNext parents next node → AreNext parents (set next k before) k
  next_one first next node k before is within long is_before begun behind c d low less there beside = elim (cases_eq c k) [
    | inl same ↦
        let at : get_or (set next k before) c 0 ≡ before = ap (λ p. get_or (set next k before) p 0) same ∙ get_or-set_same next k before 0 (omega (arith, within, long)) in
        let old : IsFirst first node (up d) d = begun d (omega (arith, less, same, is)) there in
        let to : before ≡ get_or first (up d) 0 = is_before ∙ ap (λ p. get_or first p 0) (sym (beside ∙ ap up same)) in
        let lower : node ≤ get_or first (up d) 0 = old.low in
        let high : get_or first (up d) 0 ≤ d = old.high in
        record { behind = omega (arith, at, to, lower, is, same); high = omega (arith, at, to, high) }
    | inr differ ↦
        let old : IsNext next c d = behind c d (omega (arith, low, is, differ)) less there beside in
        let at : get_or (set next k before) c 0 ≡ get_or next c 0 = get_or-set_other next k c before 0 differ in
        let later : c < get_or next c 0 = old.behind in
        let high : get_or next c 0 ≤ d = old.high in
        record { behind = omega (arith, at, later); high = omega (arith, at, high) }
  ]

  -- the root alone is left, or nothing
  pub links_all : (first next : List ℕ) (node : ℕ) → node ≤ 1 → AreFirst parents first node → AreNext parents next node → AreLinks parents first next
  links_all first next node end begun behind = record {
    begun = λ d low less.
        let old : IsFirst first node (up d) d = begun d (omega (arith, low, end)) less in
        record { behind = old.behind; low = omega (arith, old.behind); high = old.high };
    behind = λ c d low. behind c d (omega (arith, low, end));
  }
