-- The index of the last declaration of each name.
--     last_in       the index of the last declaration of a name
--     IsIndexed     a table has the index of the last declaration of each name, and each entry that of the one it hides
use Rattle.std.specs.Prelude.{◌≡◌, ⊤, ℕ, suc, if◌then◌else◌, List, [], ◌∷◌, ◌++◌, map, bytes_eq, Option, Some, None}
use Rattle.std.specs.Option.{option_or}
use Rattle.jq_parts.specs.declared.entries.Entry.{Entry}

-- the last index of the name q in a list of names, of which the first has the index n
abbrev pub last_in : ℕ → List ℕ → List (List ℕ) → Option ℕ
last_in n q [] = None
last_in n q (m ∷ ms) = option_or (last_in (suc n) q ms) (if bytes_eq m q then Some n else None)

abbrev pub name_of : Entry → List ℕ
name_of e = e.declaration.name.now

abbrev pub names_in : List Entry → List (List ℕ)
names_in es = map name_of es

-- each entry hides the last one of its name before it; the names `before` stand before all entries
abbrev pub HideThose : List (List ℕ) → List Entry → Type 0
HideThose before [] = ⊤
HideThose before (e ∷ es) = (e.hides ≡ last_in 0 (name_of e) before) × HideThose (before ++ name_of e ∷ []) es

pub record IsIndexed (es : List Entry) (places : List ℕ → Option ℕ) : Type 0 where
  pub last : (q : List ℕ) → places q ≡ last_in 0 q (names_in es)
  pub hidden : HideThose [] es
