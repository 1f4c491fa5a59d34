-- Look-ups by a name.
use Rattle.std.proofs.Common.{◌≡◌, ℕ, Bool, true, false, if◌then◌else◌, cond, List, [], ◌∷◌, Option, Some, None, unwrap_or, Result, Ok, Err, OnOk, OnErr, IsSome, refl, sym, ap, ◌∙◌}
use Rattle.std.proofs.lemmas.Slice.Eq.{bytes_eq-Decides}
use Rattle.std.specs.Map.{lookup}
use Rattle.std.specs.Str.{bytes_eq}
use Rattle.indexmap.specs.IndexMap.{insert_entry}
use Rattle.tp_base.proofs.Lists.{bytes_eq-sym}

both : {X : Type 0} (b : Bool) (x y z : X) → cond b x z ≡ (if b then x else cond b y z)
both true x y z = refl
both false x y z = refl

apart : {X : Type 0} (a b : Bool) (x y z : X) → (a ≡ true → b ≡ true → ⊥) → cond b y (if a then x else z) ≡ (if a then x else cond b y z)
apart true true x y z never = absurd (never refl refl)
apart true false x y z never = refl
apart false b x y z never = refl

unwrapped : (b : Bool) (w : Option ℕ) (r : Option (Option ℕ)) → unwrap_or (if b then Some w else r) None ≡ (if b then w else unwrap_or r None)
unwrapped true w r = refl
unwrapped false w r = refl

-- keys that show the bytes of a name
module _ {K : Type 0} (shown : K → List ℕ) where
  lookup-inserted : (es : List (K × Option ℕ)) (k : K) (w : Option ℕ) (q : List ℕ)
      → lookup (λ x. bytes_eq q (shown x)) (insert_entry (λ x y. bytes_eq (shown x) (shown y)) es k w) ≡ (if bytes_eq (shown k) q then Some w else lookup (λ x. bytes_eq q (shown x)) es)
  lookup-inserted [] k w q = ap (λ b. cond b (Some w) None) (bytes_eq-sym q (shown k))
  lookup-inserted (e ∷ es) k w q =
      elim (bytes_eq (shown k) (shown e.0)) as (λ b. bytes_eq (shown k) (shown e.0) ≡ b
      → lookup (λ x. bytes_eq q (shown x)) (if b then (e.0, w) ∷ es else e ∷ insert_entry (λ x y. bytes_eq (shown x) (shown y)) es k w)
      ≡ (if bytes_eq (shown k) q then Some w else cond (bytes_eq q (shown e.0)) (Some e.1) (lookup (λ x. bytes_eq q (shown x)) es))) [
        | true ↦ λ h.
            let same = (bytes_eq-Decides (shown k) (shown e.0)).0 h in
            let turn : bytes_eq q (shown e.0) ≡ bytes_eq (shown k) q = ap (bytes_eq q) (sym same) ∙ bytes_eq-sym q (shown k) in
            ap (λ b. cond b (Some w) (lookup (λ x. bytes_eq q (shown x)) es)) turn
            ∙ both (bytes_eq (shown k) q) (Some w) (Some e.1) (lookup (λ x. bytes_eq q (shown x)) es)
            ∙ ap (λ b. if bytes_eq (shown k) q then Some w else cond b (Some e.1) (lookup (λ x. bytes_eq q (shown x)) es)) (sym turn)
        | false ↦ λ h.
            ap (cond (bytes_eq q (shown e.0)) (Some e.1)) (lookup-inserted es k w q)
            ∙ apart (bytes_eq (shown k) q) (bytes_eq q (shown e.0)) (Some w) (Some e.1) (lookup (λ x. bytes_eq q (shown x)) es)
            (λ a b. let same = (bytes_eq-Decides (shown k) q).0 a ∙ (bytes_eq-Decides q (shown e.0)).0 b in
            let never : true ≡ false = sym ((bytes_eq-Decides (shown k) (shown e.0)).1 same) ∙ h in cc)
      ] refl

  -- the place of one name is changed
  pub put : (es new : List (K × Option ℕ)) (k : K) (w : Option ℕ) → new ≡ insert_entry (λ x y. bytes_eq (shown x) (shown y)) es k w
      → (q : List ℕ) → unwrap_or (lookup (λ x. bytes_eq q (shown x)) new) None ≡ (if bytes_eq (shown k) q then w else unwrap_or (lookup (λ x. bytes_eq q (shown x)) es) None)
  put es new k w is q =
      ap (λ xs. unwrap_or (lookup (λ x. bytes_eq q (shown x)) xs) None) is ∙ ap (λ r. unwrap_or r None) (lookup-inserted es k w q)
      ∙ unwrapped (bytes_eq (shown k) q) w (lookup (λ x. bytes_eq q (shown x)) es)

  -- the same where the name has a place, so that no memory is wanted
  pub put_known : {X E : Type 0} (r : Result X E) (es new : List (K × Option ℕ)) (k : K) (w : Option ℕ)
      → OnOk r (new ≡ insert_entry (λ x y. bytes_eq (shown x) (shown y)) es k w) → OnErr r (lookup (λ x. bytes_eq (shown k) (shown x)) es ≡ None)
      → IsSome (unwrap_or (lookup (λ x. bytes_eq (shown k) (shown x)) es) None)
      → (q : List ℕ) → unwrap_or (lookup (λ x. bytes_eq q (shown x)) new) None ≡ (if bytes_eq (shown k) q then w else unwrap_or (lookup (λ x. bytes_eq q (shown x)) es) None)
  put_known (Ok x) es new k w is absent some q = put es new k w is q
  put_known (Err e) es new k w is absent some q = let never = rw absent at some in cc
