-- The counts of added children.
use Rattle.std.proofs.Common.{Vec, Global, ◌≡◌, ◌≤◌, ℕ, ◌+◌, ◌*◌, Bool, true, false, cond, if◌then◌else◌, List, [], ◌∷◌, length, Some, None, unwrap_or, refl, sym, ap, subst, ◌∙◌}
use Rattle.std.proofs.lemmas.Slice.Eq.{bytes_eq-Decides}
use Rattle.std.specs.Map.{lookup}
use Rattle.std.specs.Prelude.{Result, Ok, Err, OnOk, OnErr}
use Rattle.std.specs.Str.{bytes_eq}
use Rattle.indexmap.specs.IndexMap.{insert_entry}
use Rattle.tp_base.proofs.Lists.{bytes_eq-sym}
use Rattle.tree_sem.specs.declared.actions.Step.{Step}
use Rattle.simple_core.specs.declared.system.TheConstants.{MOST_KINDS}
use Rattle.proof_check.specs.Unfolding.{Progress, with_children}
use Rattle.proof_core.specs.AddedChildren.{IsFew, progress_in}
use Rattle.proof_core.specs.Trails.{grown_at}

lookup-inserted : (es : List (Vec ℕ Global × ℕ)) (k : Vec ℕ Global) (w : ℕ) (q : List ℕ)
    → lookup (λ x. bytes_eq q x.items) (insert_entry (λ x y. bytes_eq x.items y.items) es k w) ≡ (if bytes_eq k.items q then Some w else lookup (λ x. bytes_eq q x.items) es)
lookup-inserted [] k w q = ap (λ b. cond b (Some w) None) (bytes_eq-sym q k.items)
lookup-inserted (e ∷ es) k w q =
    elim (bytes_eq k.items e.0.items) as (λ b. bytes_eq k.items e.0.items ≡ b
    → lookup (λ (x : Vec ℕ Global). bytes_eq q x.items) (if b then (e.0, w) ∷ es else e ∷ insert_entry (λ x y. bytes_eq x.items y.items) es k w)
    ≡ (if bytes_eq k.items q then Some w else cond (bytes_eq q e.0.items) (Some e.1) (lookup (λ x. bytes_eq q x.items) es))) [
      | true ↦ λ h.
          let same = (bytes_eq-Decides k.items e.0.items).0 h in
          let turn : bytes_eq q e.0.items ≡ bytes_eq k.items q = ap (bytes_eq q) (sym same) ∙ bytes_eq-sym q k.items in
          ap (λ b. cond b (Some w) (lookup (λ (x : Vec ℕ Global). bytes_eq q x.items) es)) turn
          ∙ both (bytes_eq k.items q) (Some w) (Some e.1) (lookup (λ (x : Vec ℕ Global). bytes_eq q x.items) es)
          ∙ ap (λ b. if bytes_eq k.items q then Some w else cond b (Some e.1) (lookup (λ (x : Vec ℕ Global). bytes_eq q x.items) es)) (sym turn)
      | false ↦ λ h.
          ap (cond (bytes_eq q e.0.items) (Some e.1)) (lookup-inserted es k w q)
          ∙ apart (bytes_eq k.items q) (bytes_eq q e.0.items) (Some w) (Some e.1) (lookup (λ (x : Vec ℕ Global). bytes_eq q x.items) es)
          (λ a b. let same = (bytes_eq-Decides k.items q).0 a ∙ (bytes_eq-Decides q e.0.items).0 b in
          let never : true ≡ false = sym ((bytes_eq-Decides k.items e.0.items).1 same) ∙ h in cc)
    ] refl
  where
    both : {X : Type 0} (b : Bool) (x y z : X) → cond b x z ≡ (if b then x else cond b y z)
    both true x y z = refl
    both false x y z = refl

    apart : {X : Type 0} (a b : Bool) (x y z : X) → (a ≡ true → b ≡ true → ⊥) → cond b y (if a then x else z) ≡ (if a then x else cond b y z)
    apart true true x y z never = absurd (never refl refl)
    apart true false x y z never = refl
    apart false b x y z never = refl

-- the counts, with n children more at the key
counts-inserted : (es : List (Vec ℕ Global × ℕ)) (k : Vec ℕ Global) (w n : ℕ) → w ≡ unwrap_or (lookup (λ x. bytes_eq k.items x.items) es) 0 + n → (q : List ℕ)
    → unwrap_or (lookup (λ x. bytes_eq q x.items) (insert_entry (λ x y. bytes_eq x.items y.items) es k w)) 0 ≡ with_children k.items n (λ p. unwrap_or (lookup (λ x. bytes_eq p x.items) es) 0) q
counts-inserted es k w n sum q =
    ap (λ o. unwrap_or o 0) (lookup-inserted es k w q)
    ∙ elim (bytes_eq k.items q) as (λ b. bytes_eq k.items q ≡ b → unwrap_or (if b then Some w else lookup (λ (x : Vec ℕ Global). bytes_eq q x.items) es) 0
    ≡ (if b then unwrap_or (lookup (λ (x : Vec ℕ Global). bytes_eq q x.items) es) 0 + n else unwrap_or (lookup (λ (x : Vec ℕ Global). bytes_eq q x.items) es) 0)) [
      | true ↦ λ e. sum ∙ ap (λ p. unwrap_or (lookup (λ (x : Vec ℕ Global). bytes_eq p x.items) es) 0 + n) ((bytes_eq-Decides k.items q).0 e)
      | false ↦ λ e. refl
    ] refl

pub progress_grows : (steps : List Step) (es new : List (Vec ℕ Global × ℕ)) (k : Vec ℕ Global) (w n : ℕ) → new ≡ insert_entry (λ x y. bytes_eq x.items y.items) es k w
    → w ≡ (progress_in steps es).added k.items + n → progress_in steps new ≡ grown_at k.items n (progress_in steps es)
progress_grows steps es new k w n is sum = ap (progress_in steps) is ∙ (λ j. record { steps = steps; added = λ q. counts-inserted es k w n sum q j })

-- the children stay few
pub few_grows : (v : List ℕ) (n : ℕ) (done : Progress) → IsFew done → done.added v + n ≤ MOST_KINDS * length done.steps → IsFew (grown_at v n done)
few_grows v n done few room q =
    elim (bytes_eq v q) as (λ b. bytes_eq v q ≡ b → (if b then done.added q + n else done.added q) ≤ MOST_KINDS * length done.steps) [
      | true ↦ λ e. subst (λ w. done.added w + n ≤ MOST_KINDS * length done.steps) ((bytes_eq-Decides v q).0 e) room
      | false ↦ λ e. few q
    ] refl

pub few_inserted : {T E : Type 0} (r : Result T E) (steps : List Step) (es new : List (Vec ℕ Global × ℕ)) (k : Vec ℕ Global) (w n : ℕ) → OnOk r (new ≡ insert_entry (λ x y. bytes_eq x.items y.items) es k w) → OnErr r (new ≡ es)
    → w ≡ (progress_in steps es).added k.items + n → IsFew (progress_in steps es) → (progress_in steps es).added k.items + n ≤ MOST_KINDS * length steps → IsFew (progress_in steps new)
few_inserted (Ok x) steps es new k w n is same sum few room = subst IsFew (sym (progress_grows steps es new k w n is sum)) (few_grows k.items n (progress_in steps es) few room)
few_inserted (Err e) steps es new k w n is same sum few room = subst (λ xs. IsFew (progress_in steps xs)) (sym same) few
