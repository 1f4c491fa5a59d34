-- The items of an entry against a table of known atoms, one after another.
use Rattle.std.proofs.Common.{◌≡◌, ℕ, zero, suc, ◌<◌, Bool, true, false, is_some, if◌then◌else◌, ◌==◌, ◌&&◌, List, [], ◌∷◌, ◌++◌, ◌≤◌, min, length, take, drop, Option, Some, None, unwrap_or, slice_get, refl, sym, ap, subst, ◌∙◌, arith}
use Rattle.std.proofs.lemmas.Bool.Decides.{Decides-eqb}
use Rattle.tp_base.proofs.Truths.{and_false, other_number}
use Rattle.tp_base.proofs.Lists.{take_suc, drop_at}
use Rattle.simple_core.specs.declared.system.System.{System}
use Rattle.proof_check.specs.declared.firsts.Firsts.{Firsts}
use Rattle.proof_check.specs.declared.proofs.ProofItem.{ProofItem}
use Rattle.proof_check.specs.declared.proofs.Entry.{Entry}
use Rattle.proof_check.specs.Checks.{is_down, is_sound, are_sound}
use Rattle.proof_check.specs.Firsts.{first_down, first_in, KnowsOf, KnowsBelow, KeepsBut, near_in_entry, sound_by}
use Rattle.proof_check.specs.Validity.{MOST_STEPS, Place, AreSound, in_entry}
use Rattle.proof_check.specs.Unfolding.{entry_count}
use Rattle.proof_check.proofs.FirstLemmas.{first_has, first_push, IsNear, sound_same}

pub kept_below : (entries : List Entry) (n : ℕ) (old new : Firsts) → KnowsBelow old n entries → KeepsBut n old new → KnowsBelow new n entries
kept_below entries n old new knows keeps e entry lt at a = keeps e a (other_number n e (λ s. omega (arith, lt, s))) ∙ knows e entry lt at a

-- an item more at the node
pub knows_pushed : (old new : Firsts) (n : ℕ) (here : List ProofItem) (x : ProofItem) → KnowsOf old n here
    → first_in new n x.atom ≡ Some (unwrap_or (first_in old n x.atom) (is_down x.reason))
    → ((m a : ℕ) → (n == m && x.atom == a) ≡ false → first_in new m a ≡ first_in old m a) → KnowsOf new n (here ++ x ∷ [])
knows_pushed old new n here x knows added others a =
    elim (x.atom == a) as (λ b. (x.atom == a) ≡ b → first_in new n a ≡ first_down (here ++ x ∷ []) a) [
      | true ↦ λ e.
          let same : x.atom ≡ a = (Decides-eqb x.atom a).0 e in
          subst (λ z. first_in new n z ≡ Some (unwrap_or (first_in old n z) (is_down x.reason))) same added
          ∙ ap (λ o. Some (unwrap_or o (is_down x.reason))) (knows a)
          ∙ taken (first_down here a)
          ∙ ap (λ b. if is_some (first_down here a) then first_down here a else if b then Some (is_down x.reason) else None) (sym e)
          ∙ sym (first_push here x a)
      | false ↦ λ e.
          others n a (ap (λ b. n == n && b) e ∙ and_false (n == n)) ∙ knows a ∙ left (first_down here a)
          ∙ ap (λ b. if is_some (first_down here a) then first_down here a else if b then Some (is_down x.reason) else None) (sym e)
          ∙ sym (first_push here x a)
    ] refl
  where
    taken : (o : Option Bool) → Some (unwrap_or o (is_down x.reason)) ≡ (if is_some o then o else if true then Some (is_down x.reason) else None)
    taken None = refl
    taken (Some d) = refl

    left : (o : Option Bool) → o ≡ (if is_some o then o else if false then Some (is_down x.reason) else None)
    left None = refl
    left (Some d) = refl

pub keeps_pushed : (old new : Firsts) (n : ℕ) (x : ProofItem) → ((m a : ℕ) → (n == m && x.atom == a) ≡ false → first_in new m a ≡ first_in old m a) → KeepsBut n old new
keeps_pushed old new n x others m a apart = others m a (ap (λ b. b && x.atom == a) apart)

pub keeps_both : (a b c : Firsts) (n : ℕ) → KeepsBut n a b → KeepsBut n b c → KeepsBut n a c
keeps_both a b c n first second m x apart = second m x apart ∙ first m x apart

module _ (system : System) (entries : List Entry) where
  -- in an entry, after some of its items
  abbrev pub after_items : ℕ → Entry → List ProofItem → Place
  after_items n entry here = record (in_entry system n entry) { here = here }

  pub entry_near : (known : Firsts) (n : ℕ) (entry : Entry) (here : List ProofItem) → KnowsBelow known n entries → KnowsOf known n here
      → IsNear entries (near_in_entry system known n entry) (after_items n entry here)
  entry_near known n entry here below knows = record {
    label = refl;
    kind = refl;
    lower = refl;
    here = knows;
    above = λ a. refl;
    child = λ k a. refl;
    gives = λ e a other lt at. ap is_some (below e other lt at a) ∙ first_has other.items a;
  }

  pub item_sound : (known : Firsts) (n : ℕ) (entry : Entry) (here : List ProofItem) (x : ProofItem) → KnowsBelow known n entries → KnowsOf known n here
      → sound_by system entries (near_in_entry system known n entry) x.atom x.reason ≡ is_sound system entries (after_items n entry here) x.atom x.reason
  item_sound known n entry here x below knows = sound_same system entries (near_in_entry system known n entry) (after_items n entry here) (entry_near known n entry here below knows) x.atom x.reason

  -- the items from the number i on
  pub sound_one : (n : ℕ) (entry : Entry) (items : List ProofItem) (i : ℕ) (x : ProofItem) → slice_get items i ≡ Some x
      → are_sound system entries (after_items n entry (take i items)) (drop i items)
      ≡ (is_sound system entries (after_items n entry (take i items)) x.atom x.reason && are_sound system entries (after_items n entry (take (suc i) items)) (drop (suc i) items))
  sound_one n entry items i x at =
      ap (are_sound system entries (after_items n entry (take i items))) (drop_at items i x at)
      ∙ ap (λ (h : List ProofItem). is_sound system entries (after_items n entry (take i items)) x.atom x.reason && are_sound system entries (after_items n entry h) (drop (suc i) items)) (sym (take_suc items i x at))

pub drop_end : {X : Type 0} (xs : List X) (n : ℕ) → length xs ≤ n → drop n xs ≡ []
drop_end [] zero past = refl
drop_end [] (suc n) past = refl
drop_end (x ∷ xs) zero past = absurd (omega arith)
drop_end (x ∷ xs) (suc n) past = drop_end xs n (omega arith)

module _ (system : System) (entries : List Entry) where
  -- the entries below n hold
  abbrev pub AreRight : ℕ → Type 0
  AreRight n = (e : ℕ) (entry : Entry) → e < n → slice_get entries e ≡ Some entry
      → AreSound system entries (in_entry system e entry) entry.items × (entry.steps ≡ min (entry_count system entries (suc e) e) MOST_STEPS)
