-- The kinds of a sound system ask only for one another, below what is visible.
use Rattle.std.proofs.Common.{ℕ, ◌<◌, Bool, List, [], ◌∷◌, map, length, Contains, All, refl, subst, sym, inl, inr}
use Rattle.std.specs.List.{filter}
use Rattle.std.proofs.lemmas.List.Elements.{All-contains}
use Rattle.simple_core.specs.declared.rules.Spawn.{Spawn}
use Rattle.simple_core.specs.declared.system.System.{System}
use Rattle.simple_core.specs.Systems.{IsSound}
use Rattle.simple_core.specs.Rounds.{grown}
use Rattle.simple_core.specs.Knowledge.{KeepsAsking}
use Rattle.tp_base.proofs.ClassLemmas.{Contains-cut_to}
use Rattle.tp_base.proofs.Rising.{Contains-cons, Contains-none, Contains-here, Contains-behind, All-from_Contains}
use Rattle.std.proofs.lemmas.Bool.{cases_Bool}

listed : (q : Spawn → Bool) (cs : List Spawn) (n j : ℕ) → ((c : Spawn) → Contains cs c → c.kind < n) → Contains (map (λ (c : Spawn). c.kind) (filter q cs)) j → j < n
listed q [] n j each there = absurd (Contains-none j there)
listed q (c ∷ cs) n j each there = elim (cases_Bool (q c)) [
  | inr fails ↦ listed q cs n j (λ d within. each d (Contains-behind d c cs within)) (rw fails at there)
  | inl passes ↦
      let among : Contains (c.kind ∷ map (λ (c : Spawn). c.kind) (filter q cs)) j = rw passes at there in
      elim ((Contains-cons j c.kind (map (λ (c : Spawn). c.kind) (filter q cs))).0 among) [
        | inl here ↦ subst (λ i. i < n) (sym here) (each c (Contains-here c c cs refl))
        | inr behind ↦ listed q cs n j (λ d within. each d (Contains-behind d c cs within)) behind
      ]
]

pub keeps_asking : (s : System) → IsSound s → KeepsAsking s (λ q. (q.0 < length s.kinds) × All (Contains s.visible) q.1)
keeps_asking s sound q r k known asks = (
  listed _ s.child (length s.kinds) r.0 (λ c there. All-contains (λ (c : Spawn). c.kind < length s.kinds) s.child c sound.spawned there) asks.0,
  All-from_Contains (Contains s.visible) r.1 (λ a there. ((Contains-cut_to s.visible (grown s k q.0 q.1) a).0 (subst (λ xs. Contains xs a) asks.1 there)).0),
)
