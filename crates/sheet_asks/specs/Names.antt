-- Names, each once.
use Rattle.std.specs.Prelude.{ℕ, if◌then◌else◌, List, [], ◌∷◌, ◌++◌, fold}
pub use Rattle.text_bytes.specs.Attributes.{is_among}

-- a name that is new goes last
abbrev pub with_name : List (List ℕ) → List ℕ → List (List ℕ)
with_name names name = if is_among names name then names else names ++ name ∷ []

-- the names, and those of the others that are new
abbrev pub with_all : List (List ℕ) → List (List ℕ) → List (List ℕ)
with_all names others = fold with_name names others

-- each name once, in the order of first places
abbrev pub once : List (List ℕ) → List (List ℕ)
once names = with_all [] names
