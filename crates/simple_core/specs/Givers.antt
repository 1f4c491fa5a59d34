-- Indexes of rules by the atom that they give, with places in a list of rules.
use Rattle.std.specs.Prelude.{◌≡◌, ℕ, suc, Bool, ◌==◌, if◌then◌else◌, List, [], ◌∷◌}
use Rattle.row_index.specs.Rows.{row_of}
use Rattle.simple_core.specs.declared.rules.Local.{Local}
use Rattle.simple_core.specs.declared.rules.Link.{Link}
use Rattle.simple_core.specs.declared.system.System.{System}
use Rattle.simple_core.specs.declared.givers.AllGivers.{AllGivers}

-- the places of the members that pass the test, in a list whose first place is k
abbrev pub places_from : {X : Type 0} → (X → Bool) → ℕ → List X → List ℕ
places_from passes k [] = []
places_from passes k (x ∷ xs) = if passes x then k ∷ places_from passes (suc k) xs else places_from passes (suc k) xs

-- the row of an atom
abbrev pub places_in : List (List ℕ) → ℕ → List ℕ
places_in = row_of

-- the row of each atom has exactly the places of the rules that give it
abbrev pub AreGivers : {X : Type 0} → (X → ℕ) → List X → List (List ℕ) → Type 0
AreGivers gives rules rows = (a : ℕ) → places_in rows a ≡ places_from (λ r. gives r == a) 0 rules

-- the same for a system's local rules, its links from a parent, and its links from a child
pub record AreAllGivers (s : System) (givers : AllGivers) : Type 0 where
  pub locals : AreGivers (λ (r : Local). r.gives) s.local givers.locals
  pub ups : AreGivers (λ (l : Link). l.to) s.up givers.ups
  pub downs : AreGivers (λ (l : Link). l.to) s.down givers.downs
