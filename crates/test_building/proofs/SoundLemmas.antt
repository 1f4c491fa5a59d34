-- Checks of lists, element by element.
use Rattle.std.proofs.Common.{◌≡◌, ℕ, ◌+◌, ◌<◌, ◌≤◌, List, [], ◌∷◌, map, take, length, get_or, Some, slice_get, All, IfSome, sym, ◌∙◌, inl, inr, arith, subst}
use Rattle.std.proofs.lemmas.Bool.{cases_lt}
use Rattle.std.proofs.lemmas.List.{take_all}
use Rattle.std.proofs.lemmas.List.Elements.{All-more, All-contains, All-weaker}
use Rattle.tp_base.proofs.Rising.{Contains-cons, All-from_Contains}
use Rattle.std.proofs.lemmas.Option.{get_or_from_slice_get}
use Rattle.tp_base.specs.Classes.{union_of}
use Rattle.simple_core.specs.declared.rules.Kind.{Kind}
use Rattle.simple_core.specs.declared.rules.Local.{Local}
use Rattle.simple_core.specs.declared.rules.Spawn.{Spawn}
use Rattle.simple_core.specs.declared.system.System.{System}
use Rattle.simple_core.specs.declared.system.TheConstants.{MOST_KINDS}
use Rattle.simple_core.specs.Systems.{IsAtom, IsSound}

pub atoms_more : (xs : List ℕ) (i a : ℕ) → i < length xs → slice_get xs i ≡ Some a → IsAtom a → All IsAtom (take i xs) → All IsAtom (take (i + 1) xs)
atoms_more xs i a within is here so_far = All-more IsAtom xs i a within so_far (subst IsAtom (sym (get_or_from_slice_get xs i a a is)) here)

pub atoms_all : (xs : List ℕ) (i : ℕ) → length xs ≤ i → All IsAtom (take i xs) → All IsAtom xs
atoms_all xs i le so_far = subst (λ (z : List ℕ). All IsAtom z) (take_all i xs le) so_far

-- an atom before others
pub atoms_cons : (a : ℕ) (xs : List ℕ) → IsAtom a → All IsAtom xs → All IsAtom (a ∷ xs)
atoms_cons a xs here rest = All-from_Contains IsAtom (a ∷ xs) (λ x there. elim ((Contains-cons x a xs).0 there) [
  | inl same ↦ subst IsAtom (sym same) here
  | inr behind ↦ All-contains IsAtom xs x rest behind
])

pub above_more : (kinds : List Kind) (i : ℕ) (kind : Kind) → kind ≡ get_or kinds i kind → IfSome kind.above (λ m. m < i)
    → ((j : ℕ) (k : Kind) → j < i → slice_get kinds j ≡ Some k → IfSome k.above (λ m. m < j))
    → (j : ℕ) (k : Kind) → j < i + 1 → slice_get kinds j ≡ Some k → IfSome k.above (λ m. m < j)
above_more kinds i kind is here so_far j k less at = elim (cases_lt j i) [
  | inl before ↦ so_far j k before at
  | inr late ↦
      let last : i ≡ j = omega arith in
      let same : kind ≡ k = is ∙ get_or_from_slice_get kinds i k kind (subst (λ z. slice_get kinds z ≡ Some k) (sym last) at) in
      subst (λ z. IfSome k.above (λ m. m < z)) last (subst (λ (z : Kind). IfSome z.above (λ m. m < i)) same here)
]

pub sound_by : (s : System) (count : ℕ) → count ≡ length s.kinds → count ≤ MOST_KINDS → s.visible ≡ union_of [] (map (λ l. l.from) s.up)
    → All (λ c. (c.kind < count) × IsAtom c.needs) s.child → ((i : ℕ) (k : Kind) → slice_get s.kinds i ≡ Some k → IfSome k.above (λ j. j < i))
    → All (λ k. ((k.number < k.siblings) × (k.siblings ≤ MOST_KINDS)) × All IsAtom k.label) s.kinds → All (λ r. IsAtom r.gives × All IsAtom r.needs) s.local
    → All (λ l. IsAtom l.from × IsAtom l.to) s.up → All (λ l. IsAtom l.from × IsAtom l.to) s.down → IsSound s
sound_by s count is few seen spawns above kinds locals up down = record {
  spawned = All-weaker (λ (c : Spawn). (c.kind < count) × IsAtom c.needs) (λ (c : Spawn). c.kind < length s.kinds) (λ c both. subst (λ n. c.kind < n) is both.0) s.child spawns;
  few_kinds = subst (λ n. n ≤ MOST_KINDS) is few;
  above = above;
  siblings = All-weaker (λ (k : Kind). ((k.number < k.siblings) × (k.siblings ≤ MOST_KINDS)) × All IsAtom k.label) (λ (k : Kind). (k.number < k.siblings) × (k.siblings ≤ MOST_KINDS)) (λ k both. both.0) s.kinds kinds;
  visible = seen;
  local_atoms = All-weaker (λ (r : Local). IsAtom r.gives × All IsAtom r.needs) (λ (r : Local). All IsAtom (r.gives ∷ r.needs)) (λ r both. atoms_cons r.gives r.needs both.0 both.1) s.local locals;
  up_atoms = up;
  down_atoms = down;
  child_atoms = All-weaker (λ (c : Spawn). (c.kind < count) × IsAtom c.needs) (λ (c : Spawn). IsAtom c.needs) (λ c both. both.1) s.child spawns;
  kind_atoms = All-weaker (λ (k : Kind). ((k.number < k.siblings) × (k.siblings ≤ MOST_KINDS)) × All IsAtom k.label) (λ (k : Kind). All IsAtom k.label) (λ k both. both.1) s.kinds kinds;
}
