-- One iteration of an entry.
--     given_at s entries from to j             what the entry at j gives to one that asks it, by atoms of these rounds
--     given_above s k parent                   what the label of the parent gives in the round after k, that isn't there already
--     IsAsked s entries q k own fresh from children   what the pair q asks in the round k, and what is new in it
--     IsGained s q k own given                 what q gets in the round after k, and some of what it has
use Rattle.std.specs.Prelude.{◌≡◌, ◌↔◌, ◌⊎◌, ℕ, zero, suc, List, [], Some, Contains, slice_get, option_map, unwrap_or}
use Rattle.std.specs.List.Sorted.{IsStrictlyIncreasing}
use Rattle.simple_core.specs.declared.system.System.{System}
use Rattle.simple_core.specs.Labels.{set_of, given_by_links}
use Rattle.simple_core.specs.Rounds.{IsFirst}
use Rattle.simple_core.specs.Pairs.{Pair, Asks}
use Rattle.need_table.specs.declared.entries.Entry.{Entry}
use Rattle.need_table.specs.Tables.{labels, atoms_within, IsHeard, IsAskedAt}

abbrev pub given_at : System → List Entry → ℕ → ℕ → ℕ → List ℕ
given_at s entries from to j = unwrap_or (option_map (λ (e : Entry). given_by_links s.down (set_of (atoms_within from to e.firsts.items))) (slice_get entries j)) []

abbrev pub given_above : System → ℕ → List ℕ → List ℕ
given_above s zero parent = given_by_links s.up parent
given_above s (suc k) parent = []

-- all that was asked counts, or what is new alone, where the same was asked in the round before
abbrev pub IsSince : System → Pair → ℕ → ℕ → Type 0
IsSince s q k from = (from ≡ 0) ⊎ ((m : ℕ) × (k ≡ suc m) × (from ≡ k) × ((r : Pair) → Asks s (labels s q k) r → Asks s (labels s q m) r))

pub record IsAsked (s : System) (entries : List Entry) (q : Pair) (k : ℕ) (own fresh : List ℕ) (from : ℕ) (children : List ℕ) : Type 0 where
  pub label : own ≡ labels s q k
  pub new : (a : ℕ) → Contains fresh a ↔ IsFirst (labels s q) a (Some k)
  pub since : IsSince s q k from
  pub heard : (r : Pair) → Asks s own r → IsHeard entries children r
  pub only : (j : ℕ) → Contains children j → IsAskedAt s entries own j

pub record IsGained (s : System) (q : Pair) (k : ℕ) (own given : List ℕ) : Type 0 where
  pub rises : IsStrictlyIncreasing given
  pub right : (a : ℕ) → Contains given a → Contains (labels s q (suc k)) a
  pub whole : (a : ℕ) → Contains (labels s q (suc k)) a → Contains own a ⊎ Contains given a
