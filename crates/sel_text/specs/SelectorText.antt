-- The text of a selector.
use Rattle.std.specs.Prelude.{ℕ, ◌==◌, not, if◌then◌else◌, List, [], ◌∷◌, ◌++◌, take, drop, codes, Option, Some, None, slice_get}
use Rattle.std.specs.List.{flat_map, list_any, prefix_len}
use Rattle.tp_base.specs.Names.{Named}
use Rattle.tp_base.specs.declared.atoms.AtomKind.TheVariants as kind
use Rattle.sel_text.specs.Selectors.{Join, child, inside, Outer, Selector}

-- a value in quotes, which are `'` where it has `"`
abbrev pub quote_for : List ℕ → ℕ
quote_for value = if list_any (λ b. b == 34) value then 39 else 34

-- what is behind an attribute's name, from `=` on: the value in quotes
abbrev pub value_text : List ℕ → List ℕ
value_text [] = []
value_text (b ∷ value) = codes "=" ++ (quote_for value ∷ value) ++ quote_for value ∷ []

-- `[name]`, or `[name="value"]`: the value is behind the first `=` of the atom's name
unfoldable pub attribute_text : List ℕ → List ℕ
attribute_text text = let n = prefix_len (λ b. not (b == 61)) text in codes "[" ++ (take n text ++ value_text (drop n text)) ++ codes "]"

-- `.name`, `#name`, an attribute part, or the name alone
abbrev pub atom_text : Option Named → List ℕ
atom_text None = []
atom_text (Some (kind.Class, name)) = codes "." ++ name
atom_text (Some (kind.Ident, name)) = codes "#" ++ name
atom_text (Some (kind.Attr, name)) = attribute_text name
atom_text (Some (k, name)) = name

-- a compound, whose atoms stand in the table of names
abbrev pub compound_text : List Named → List ℕ → List ℕ
compound_text names [] = codes "*"
compound_text names (a ∷ others) = flat_map (λ b. atom_text (slice_get names b)) (a ∷ others)

abbrev pub join_text : Join → List ℕ
join_text child = codes " > "
join_text inside = codes " "

-- the outer compounds, each with the join on its right
abbrev pub outer_text : List Named → List Outer → List ℕ
outer_text names [] = []
outer_text names (o ∷ outer) = outer_text names outer ++ compound_text names o.atoms ++ join_text o.join

unfoldable pub selector_text : List Named → Selector → List ℕ
selector_text names s = outer_text names s.outer ++ compound_text names s.subject
