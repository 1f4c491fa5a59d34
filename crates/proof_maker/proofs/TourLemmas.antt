-- A walk that enters before it numbers is one in post-order, where names fall in rank.
use Rattle.std.proofs.Common.{◌≡◌, ◌⊎◌, ℕ, ◌<◌, List, [], ◌∷◌, ◌++◌, if◌then◌else◌, Contains, inl, inr, sym, ap, subst, arith}
use Rattle.std.proofs.lemmas.List.Elements.{Contains-append_left, Contains-push, Contains-push_cases}
use Rattle.tp_base.proofs.Lists.{first_there, next_there}
use Rattle.proof_maker.specs.Numbering.{Post}
use Rattle.proof_maker.specs.Numbering as post
use Rattle.proof_needs.specs.Numbers.{Walk, entering, numbering, Tour, done, known, new, nothing_entered, Tours}
use Rattle.proof_needs.proofs.NumberLemmas.{not_any}

module _ (names : ℕ → List ℕ) (rank : ℕ → ℕ) (falls : (k f : ℕ) → Contains (names k) f → rank f < rank k) where
  -- what was entered and has no number ranks above all that is walked to
  record IsAbove (ts : List ℕ) (w : Walk) : Type 0 where
    inside : (x : ℕ) → Contains w.order x → Contains w.entered x
    above : (x : ℕ) → Contains w.entered x → Contains w.order x ⊎ ((t : ℕ) → Contains ts t → rank t < rank x)

  record IsToured (ts : List ℕ) (w out : Walk) : Type 0 where
    walked : Post names w.order ts out.order
    inside : (x : ℕ) → Contains out.order x → Contains out.entered x
    entered : (x : ℕ) → Contains w.entered x → Contains out.entered x
    order : (x : ℕ) → Contains w.order x → Contains out.order x
    only : (x : ℕ) → Contains out.entered x → Contains out.order x ⊎ Contains w.entered x
    fresh : (x : ℕ) → Contains out.order x → Contains w.order x ⊎ (¬ Contains w.entered x)

  toured : (ts : List ℕ) (w out : Walk) → Tour names ts w out → IsAbove ts w → IsToured ts w out
  toured ts w out (done v) at = record { walked = post.done w.order; inside = at.inside; entered = λ x is. is; order = λ x is. is; only = λ x is. inr is; fresh = λ x is. inl is }
  toured ts w out (known t rest v o there tour) at =
      let numbered : Contains w.order t = elim (at.above t there) [ inl is ↦ is | inr all ↦ let never = all t (first_there t rest) in absurd (omega arith) ] in
      let r = toured rest w out tour (record { inside = at.inside; above = λ x is. elim (at.above x is) [ inl o' ↦ inl o' | inr all ↦ inr (λ s in'. all s (next_there t rest s in')) ] }) in
      record { walked = post.known w.order t rest out.order numbered r.walked; inside = r.inside; entered = r.entered; order = r.order; only = r.only; fresh = r.fresh }
  toured ts w out (new t rest v mid o fresh' first tour) at =
      let inner = toured (names t) (entering t w) mid first (record {
        inside = λ x is. Contains-append_left w.entered (t ∷ []) x (at.inside x is);
        above = λ x is. elim (Contains-push_cases w.entered t x is) [
          | inl old ↦ elim (at.above x old) [ inl o' ↦ inl o' | inr all ↦ inr (λ f in'. let a = falls t f in' in let b = all t (first_there t rest) in omega arith) ]
          | inr same ↦ inr (λ f in'. subst (λ z. rank f < rank z) same (falls t f in'))
        ];
      }) in
      let apart : Contains mid.order t → ⊥ = λ is. elim (inner.fresh t is) [ inl old ↦ fresh' (at.inside t old) | inr never ↦ never (Contains-push w.entered t) ] in
      let put : (numbering t mid).order ≡ mid.order ++ t ∷ [] = ap (λ b. if b then mid.order else mid.order ++ t ∷ []) (not_any mid.order t apart) in
      let keeps : (x : ℕ) → Contains mid.order x → Contains (numbering t mid).order x = λ x is. subst (λ l. Contains l x) (sym put) (Contains-append_left mid.order (t ∷ []) x is) in
      let last : Contains (numbering t mid).order t = subst (λ l. Contains l t) (sym put) (Contains-push mid.order t) in
      let outer = toured rest (numbering t mid) out tour (record {
        inside = λ x is. elim (Contains-push_cases mid.order t x (subst (λ l. Contains l x) put is)) [ inl old ↦ inner.inside x old | inr same ↦ inner.entered x (subst (Contains (w.entered ++ t ∷ [])) same (Contains-push w.entered t)) ];
        above = λ x is. elim (inner.only x is) [
          | inl o' ↦ inl (keeps x o')
          | inr there ↦ elim (Contains-push_cases w.entered t x there) [
            | inl old ↦ elim (at.above x old) [ inl o' ↦ inl (keeps x (inner.order x o')) | inr all ↦ inr (λ s in'. all s (next_there t rest s in')) ]
            | inr same ↦ inl (subst (Contains (numbering t mid).order) same last)
          ]
        ];
      }) in
      record {
        walked = post.new w.order t rest mid.order out.order (λ is. fresh' (at.inside t is)) inner.walked apart (subst (λ l. Post names l rest out.order) put outer.walked);
        inside = outer.inside;
        entered = λ x is. outer.entered x (inner.entered x (Contains-append_left w.entered (t ∷ []) x is));
        order = λ x is. outer.order x (keeps x (inner.order x is));
        only = λ x is. elim (outer.only x is) [
          | inl o' ↦ inl o'
          | inr there ↦ elim (inner.only x there) [
            | inl o' ↦ inl (outer.order x (keeps x o'))
            | inr there' ↦ elim (Contains-push_cases w.entered t x there') [ inl old ↦ inr old | inr same ↦ inl (outer.order x (subst (Contains (numbering t mid).order) same last)) ]
          ]
        ];
        fresh = λ x is. elim (outer.fresh x is) [
          | inl mid' ↦ elim (Contains-push_cases mid.order t x (subst (λ l. Contains l x) put mid')) [
            | inl old ↦ elim (inner.fresh x old) [ inl o' ↦ inl o' | inr never ↦ inr (λ e. never (Contains-append_left w.entered (t ∷ []) x e)) ]
            | inr same ↦ inr (λ e. fresh' (subst (Contains w.entered) (sym same) e))
          ]
          | inr never ↦ inr (λ e. never (inner.entered x (Contains-append_left w.entered (t ∷ []) x e)))
        ];
      }

  pub tour_post : (roots order : List ℕ) → Tours names roots order → Post names [] roots order
  tour_post roots order tours =
      let none : (x : ℕ) → Contains [] x → ⊥ = λ x is. never is in
      let r = toured roots nothing_entered (record { entered = tours.0; order = order }) tours.1 (record { inside = λ x is. absurd (none x is); above = λ x is. absurd (none x is) }) in
      r.walked
    where
      never : {x : ℕ} → Contains [] x → ⊥
      never (k, within, at) = omega arith
