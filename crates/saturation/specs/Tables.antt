-- Tables of numbers, and what a system's rules put into them.
--     noted_in rows a        the numbers that are noted for the number a
--     IsNoted keys n f g     g is f with n noted for each of the keys
--     HasAll keys n xs f     f has exactly the number `n x` for each key of each x in the list
--     AreReads s ..          the tables of the rules of s, by what the rules look at
--     AreReadsOf s reads     the same for the tables of the code
use Rattle.std.specs.Prelude.{◌≡◌, ℕ, List, Contains, ◌⊎◌}
use Rattle.row_index.specs.Rows.{row_of}
use Rattle.simple_core.specs.declared.rules.Local.{Local}
use Rattle.simple_core.specs.declared.rules.Link.{Link}
use Rattle.simple_core.specs.declared.rules.Spawn.{Spawn}
use Rattle.simple_core.specs.declared.system.System.{System}
use Rattle.saturation.specs.declared.reads.Reads.{Reads}

abbrev pub noted_in : List (List ℕ) → ℕ → List ℕ
noted_in = row_of

pub record IsNoted (keys : ℕ → Type 0) (number : ℕ) (old new : ℕ → List ℕ) : Type 0 where
  pub kept : (b a : ℕ) → Contains (old b) a → Contains (new b) a
  pub noted : (b : ℕ) → keys b → Contains (new b) number
  pub only : (b a : ℕ) → Contains (new b) a → Contains (old b) a ⊎ (keys b × (a ≡ number))

pub record HasAll {X : Type 0} (keys : X → ℕ → Type 0) (number : X → ℕ) (xs : List X) (f : ℕ → List ℕ) : Type 0 where
  pub whole : (x : X) → Contains xs x → (b : ℕ) → keys x b → Contains (f b) (number x)
  pub only : (b a : ℕ) → Contains (f b) a → (x : X) × Contains xs x × keys x b × (a ≡ number x)

abbrev pub OfNeeds : List Local → (ℕ → List ℕ) → Type 0
OfNeeds rules f = HasAll (λ r b. Contains r.needs b) (λ r. r.gives) rules f

abbrev pub OfLinks : List Link → (ℕ → List ℕ) → Type 0
OfLinks links f = HasAll (λ l b. l.from ≡ b) (λ l. l.to) links f

abbrev pub OfSpawns : List Spawn → (ℕ → List ℕ) → Type 0
OfSpawns spawns f = HasAll (λ c b. c.kind ≡ b) (λ c. c.needs) spawns f

-- `by_needs` has what local rules give by their needs, `by_child` what links give from a child, `makers` the atoms that make each kind. `needed` are
-- the atoms that make children, and `looked` these and the visible ones.
pub record AreReads (s : System) (by_needs by_child makers : ℕ → List ℕ) (needed looked : List ℕ) : Type 0 where
  pub needs : OfNeeds s.local by_needs
  pub child : OfLinks s.down by_child
  pub spawns : OfSpawns s.child makers
  pub all_needed : (c : Spawn) → Contains s.child c → Contains needed c.needs
  pub making : (c : Spawn) → Contains s.child c → Contains looked c.needs
  pub visible : (b : ℕ) → Contains s.visible b → Contains looked b

-- the same for the tables of the code
abbrev pub AreReadsOf : System → Reads → Type 0
AreReadsOf s r = AreReads s (noted_in r.by_needs) (noted_in r.by_child) (noted_in r.makers) r.needs r.looked
