-- From one child to the next one.
use Rattle.std.proofs.Common.{◌≡◌, ℕ, ◌<◌, ◌≤◌, List, length, get_or, sym, ap, ◌∙◌, inl, inr, arith}
use Rattle.std.proofs.lemmas.Bool.{cases_eq, cases_lt}
use Rattle.node_marks.specs.Numbering.{parent_number, AreAbove}
use Rattle.folded_page.specs.Leads.{lead_of, HasChildLed}
use Rattle.folded_page.specs.Links.{IsFirst, IsNext, AreLinks}
use Rattle.folded_page.specs.Checks.{IsPair}

module _ (parents leads : List ℕ) where
  -- each child of the node's lead up to the last one stands for a child of the node, and no other one stands before the next
  pub record AreMatchedTo (i last other : ℕ) : Type 0 where
    pub matched : (c : ℕ) → c < length parents → c ≤ last → 0 < c → parent_number parents c ≡ lead_of leads i → HasChildLed parents leads i (lead_of leads c)
    pub onward : (c : ℕ) → c < length parents → last < c → parent_number parents c ≡ lead_of leads i → (last < other) × (other ≤ c)

  pub matched_first : (first next : List ℕ) (i last other : ℕ) → AreAbove parents → AreLinks parents first next → last ≡ lead_of leads i → other ≡ get_or first last 0 → AreMatchedTo i last other
  matched_first first next i last other up links is_last is_other = record {
    matched = λ c within low some beside. let higher : parent_number parents c < c = up c some within in absurd (omega (arith, higher, low, is_last, beside));
    onward = λ c within high beside.
        let is : IsFirst first 1 (parent_number parents c) c = links.begun c (omega (arith, high)) within in
        let same : parent_number parents c ≡ last = beside ∙ sym is_last in
        let far : get_or first last 0 ≤ c = omega (arith, is.high, ap (λ p. get_or first p 0) same) in
        let near : last < get_or first last 0 = omega (arith, is.behind, same, ap (λ p. get_or first p 0) same) in
        (omega (arith, near, is_other), omega (arith, far, is_other));
  }

  pub matched_next : (first next : List ℕ) (i own last other behind : ℕ) → AreLinks parents first next → IsPair parents leads i own other → last < other → behind ≡ get_or next other 0 → AreMatchedTo i last other → AreMatchedTo i other behind
  matched_next first next i own last other behind links pair up is before = record {
    matched = λ c within low some beside. elim (cases_eq c other) [
      | inl same ↦ record { child = own; some = pair.some; within = pair.within; below = pair.below; led = pair.led ∙ ap (lead_of leads) (sym same) }
      | inr differ ↦ elim (cases_lt last c) [
        | inl later ↦ let far : other ≤ c = (before.onward c within later beside).1 in absurd (omega (arith, far, low, differ))
        | inr earlier ↦ before.matched c within earlier some beside
      ]
    ];
    onward = λ c within high beside.
        let next_is : IsNext next other c = links.behind other c (omega (arith, up)) high within (beside ∙ sym pair.beside) in
        let near : other < get_or next other 0 = next_is.behind in
        let far : get_or next other 0 ≤ c = next_is.high in
        (omega (arith, near, is), omega (arith, far, is));
  }
