-- Lists without repeats that grow at their ends.
--     AreDistinct xs      no element stands twice in xs
--     IsMore old new      each element of the old list stands in the new one at the same index
--     IsWith old P new    the new list has the elements of the old one, those with P, and no others
--     IsWithSome          the new list has the elements of the old one, some of those with P, and no others
use Rattle.std.specs.Prelude.{◌≡◌, ◌⊎◌, ℕ, List, Contains, Some, slice_get}

abbrev pub AreDistinct : {X : Type 0} → List X → Type 0
AreDistinct {X} xs = (i j : ℕ) (x : X) → slice_get xs i ≡ Some x → slice_get xs j ≡ Some x → i ≡ j

abbrev pub IsMore : {X : Type 0} → List X → List X → Type 0
IsMore {X} old new = (i : ℕ) (x : X) → slice_get old i ≡ Some x → slice_get new i ≡ Some x

pub record IsWith {X : Type 0} (old : List X) (P : X → Type 0) (new : List X) : Type 0 where
  pub more : IsMore old new
  pub within : (x : X) → Contains new x → Contains old x ⊎ P x
  pub all : (x : X) → P x → Contains new x
  pub distinct : AreDistinct old → AreDistinct new

pub record IsWithSome {X : Type 0} (old : List X) (P : X → Type 0) (new : List X) : Type 0 where
  pub more : IsMore old new
  pub within : (x : X) → Contains new x → Contains old x ⊎ P x
  pub distinct : AreDistinct old → AreDistinct new
