-- Numbers of names, and a place by each number.
use Rattle.std.proofs.Common.{◌≡◌, ℕ, ◌+◌, ◌<◌, ◌≤◌, Bool, true, false, cond, eqb, not, if◌then◌else◌, List, [], ◌∷◌, ◌++◌, length, get_or, set, refl, sym, ap, ◌∙◌, subst, arith, length-append}
use Rattle.std.specs.List.{list_any, position_or_len}
use Rattle.std.specs.Str.{bytes_eq}
use Rattle.std.proofs.lemmas.Bool.{eqb-true}
use Rattle.std.proofs.lemmas.List.{get_or-set_same, get_or-set_other, get_or_past}
use Rattle.std.proofs.lemmas.List.Folds.{position_or_len_push}
use Rattle.std.proofs.lemmas.Slice.Eq.{bytes_eq-Decides}
use Rattle.indexmap.specs.IndexSet.{insert_key}

pub itself : (q : List ℕ) → bytes_eq q q ≡ true
itself q = (bytes_eq-Decides q q).1 refl

-- keys that show the bytes of a name
module _ {K : Type 0} (shown : K → List ℕ) where
  abbrev number : List K → List ℕ → ℕ
  number ks q = position_or_len (λ k. bytes_eq q (shown k)) ks

  number_first : (k : K) (ks : List K) (q : List ℕ) → number (k ∷ ks) q ≡ cond (bytes_eq q (shown k)) 0 (1 + number ks q)
  number_first k ks q = by (bytes_eq q (shown k))
    where
      by : (b : Bool) → cond (not b) (1 + number ks q) 0 ≡ cond b 0 (1 + number ks q)
      by true = refl
      by false = refl

  same_name : (ks : List K) (n q : List ℕ) → number ks q ≡ number ks n → number ks n < length ks → n ≡ q
  same_name [] n q e less = absurd (omega arith)
  same_name (k ∷ ks) n q e less = by (bytes_eq n (shown k)) (bytes_eq q (shown k)) refl refl (same_name ks n q)
    where
      by : (a b : Bool) → bytes_eq n (shown k) ≡ a → bytes_eq q (shown k) ≡ b → (number ks q ≡ number ks n → number ks n < length ks → n ≡ q) → n ≡ q
      by true true f g further = (bytes_eq-Decides n (shown k)).0 f ∙ sym ((bytes_eq-Decides q (shown k)).0 g)
      by true false f g further =
          let at_n : number (k ∷ ks) n ≡ 0 = number_first k ks n ∙ ap (λ x. cond x 0 (1 + number ks n)) f in
          let at_q : number (k ∷ ks) q ≡ 1 + number ks q = number_first k ks q ∙ ap (λ x. cond x 0 (1 + number ks q)) g in
          absurd (omega arith)
      by false true f g further =
          let at_n : number (k ∷ ks) n ≡ 1 + number ks n = number_first k ks n ∙ ap (λ x. cond x 0 (1 + number ks n)) f in
          let at_q : number (k ∷ ks) q ≡ 0 = number_first k ks q ∙ ap (λ x. cond x 0 (1 + number ks q)) g in
          absurd (omega arith)
      by false false f g further =
          let at_n : number (k ∷ ks) n ≡ 1 + number ks n = number_first k ks n ∙ ap (λ x. cond x 0 (1 + number ks n)) f in
          let at_q : number (k ∷ ks) q ≡ 1 + number ks q = number_first k ks q ∙ ap (λ x. cond x 0 (1 + number ks q)) g in
          further (omega arith) (omega arith)

  -- a place is changed
  pub changed : (ks : List K) (ps : List ℕ) (n : List ℕ) (j w : ℕ) → number ks n ≡ j → j < length ps → length ps ≤ length ks
      → (q : List ℕ) → get_or (set ps j w) (number ks q) 0 ≡ (if bytes_eq n q then w else get_or ps (number ks q) 0)
  changed ks ps n j w is less fits q = by (bytes_eq n q) refl
    where
      by : (b : Bool) → bytes_eq n q ≡ b → get_or (set ps j w) (number ks q) 0 ≡ (if b then w else get_or ps (number ks q) 0)
      by true e =
          let at : number ks q ≡ j = ap (number ks) (sym ((bytes_eq-Decides n q).0 e)) ∙ is in
          ap (λ i. get_or (set ps j w) i 0) at ∙ get_or-set_same ps j w 0 less
      by false e = get_or-set_other ps j (number ks q) w 0 (λ at.
          let same : n ≡ q = same_name ks n q (at ∙ sym is) (omega (arith, is)) in
          let never : true ≡ false = sym ((bytes_eq-Decides n q).1 same) ∙ e in
          cc)

  -- ---- one name more

  at_push : (ks : List K) (k : K) (q : List ℕ) → number (ks ++ k ∷ []) q ≡ cond (eqb (number ks q) (length ks)) (length ks + cond (bytes_eq q (shown k)) 0 1) (number ks q)
  at_push ks k q = position_or_len_push (λ x. bytes_eq q (shown x)) ks k

  place_pushed : (ks : List K) (k : K) (ps : List ℕ) (q : List ℕ) → length ps ≤ length ks → get_or ps (number (ks ++ k ∷ []) q) 0 ≡ get_or ps (number ks q) 0
  place_pushed ks k ps q fits = ap (λ i. get_or ps i 0) (at_push ks k q) ∙ by (eqb (number ks q) (length ks)) refl
    where
      by : (b : Bool) → eqb (number ks q) (length ks) ≡ b → get_or ps (cond b (length ks + cond (bytes_eq q (shown k)) 0 1) (number ks q)) 0 ≡ get_or ps (number ks q) 0
      by true e =
          let past : number ks q ≡ length ks = eqb-true (number ks q) (length ks) e in
          get_or_past ps (length ks + cond (bytes_eq q (shown k)) 0 1) 0 (omega arith) ∙ sym (get_or_past ps (number ks q) 0 (omega (arith, past)))
      by false e = refl

  kept_pushed : (ks : List K) (k : K) (q : List ℕ) → number ks q < length ks → number (ks ++ k ∷ []) q ≡ number ks q
  kept_pushed ks k q less = at_push ks k q ∙ by (eqb (number ks q) (length ks)) refl
    where
      by : (b : Bool) → eqb (number ks q) (length ks) ≡ b → cond b (length ks + cond (bytes_eq q (shown k)) 0 1) (number ks q) ≡ number ks q
      by true e = let past : number ks q ≡ length ks = eqb-true (number ks q) (length ks) e in absurd (omega arith)
      by false e = refl

  own_pushed : (ks : List K) (k : K) → number (ks ++ k ∷ []) (shown k) ≡ number ks (shown k)
  own_pushed ks k = at_push ks k (shown k) ∙ by (eqb (number ks (shown k)) (length ks)) refl
    where
      by : (b : Bool) → eqb (number ks (shown k)) (length ks) ≡ b → cond b (length ks + cond (bytes_eq (shown k) (shown k)) 0 1) (number ks (shown k)) ≡ number ks (shown k)
      by true e = let past : number ks (shown k) ≡ length ks = eqb-true (number ks (shown k)) (length ks) e in rw (itself (shown k), past) (omega arith)
      by false e = refl

  abbrev with_key : List K → K → List K
  with_key ks k = insert_key (λ x y. bytes_eq (shown x) (shown y)) ks k

  module _ (ks new : List K) (k : K) (is : new ≡ with_key ks k) where
    pub place_inserted : (ps : List ℕ) (q : List ℕ) → length ps ≤ length ks → get_or ps (number new q) 0 ≡ get_or ps (number ks q) 0
    place_inserted ps q fits = ap (λ x. get_or ps (number x q) 0) is ∙ by (list_any (λ x. bytes_eq (shown k) (shown x)) ks)
      where
        by : (b : Bool) → get_or ps (number (if b then ks else ks ++ k ∷ []) q) 0 ≡ get_or ps (number ks q) 0
        by true = refl
        by false = place_pushed ks k ps q fits

    pub kept_inserted : (q : List ℕ) → number ks q < length ks → number new q ≡ number ks q
    kept_inserted q less = ap (λ x. number x q) is ∙ by (list_any (λ x. bytes_eq (shown k) (shown x)) ks)
      where
        by : (b : Bool) → number (if b then ks else ks ++ k ∷ []) q ≡ number ks q
        by true = refl
        by false = kept_pushed ks k q less

    pub own_inserted : number new (shown k) ≡ number ks (shown k)
    own_inserted = ap (λ x. number x (shown k)) is ∙ by (list_any (λ x. bytes_eq (shown k) (shown x)) ks)
      where
        by : (b : Bool) → number (if b then ks else ks ++ k ∷ []) (shown k) ≡ number ks (shown k)
        by true = refl
        by false = own_pushed ks k

    pub longer_inserted : length ks ≤ length new
    longer_inserted = subst (λ x. length ks ≤ length x) (sym is) (by (list_any (λ x. bytes_eq (shown k) (shown x)) ks))
      where
        by : (b : Bool) → length ks ≤ length (if b then ks else ks ++ k ∷ [])
        by true = omega arith
        by false = omega (arith, length-append ks (k ∷ []))
