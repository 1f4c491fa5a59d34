-- Reading a selector: first what its text is by the grammar, and then its names, which are entered into the table from left to right.
--     atoms_of         the atoms of the names of a compound
--     compounds_of     the compounds with their atoms
--     read_piece       a selector between white space and comments
--     read_selector    the same between two offsets, for a sheet
use Rattle.std.specs.Prelude.{ℕ, slice_range, Bool, true, List, [], ◌∷◌, map, Option, Some, None, Ok, Err}
use Rattle.std.specs.Char.{to_ascii_lowercase}
use Rattle.tp_base.specs.Names.{Named, with_name}
use Rattle.tp_base.specs.declared.atoms.AtomKind.{AtomKind}
use Rattle.tp_base.specs.declared.atoms.AtomKind.TheVariants as kind
use Rattle.sel_text.specs.declared.faults.SelFault.{SelFault}
use Rattle.sel_text.specs.declared.faults.SelFault.TheVariants.{TooManyAtoms}
use Rattle.sel_text.specs.declared.selectors.Compound.{Compound}
use Rattle.sel_text.specs.declared.selectors.Join.{Join}
use Rattle.sel_text.specs.Selectors.{Selector}
use Rattle.sel_text.specs.Parts.{selector_from}
use Rattle.sel_text.specs.Grammar.{Outcome, Word}
use Rattle.sel_text.specs.Syntax.{Syntax, syntax_of}

-- the names in the table at the end, and what is read
abbrev pub Ending : Type 0 → Type 0
Ending A = List Named × Outcome A

abbrev pub then_read : {A B : Type 0} → Ending A → (List Named → A → Ending B) → Ending B
then_read (names, Ok x) f = f names x
then_read (names, Err e) f = (names, Err e)

-- ---- names

-- the names of types are lowered, and those of attributes with their values
abbrev pub spelled : AtomKind → List ℕ → List ℕ
spelled kind.Element name = map to_ascii_lowercase name
spelled kind.Attr name = map to_ascii_lowercase name
spelled k name = name

-- a word, as it stands in the table
abbrev pub table_name : Word → Named
table_name (k, name) = (k, spelled k name)

-- an atom and the table with it, or no room for it in the table
abbrev pub placed : List Named → Option (ℕ × List Named) → Ending ℕ
placed names None = (names, Err TooManyAtoms)
placed names (Some e) = (e.1, Ok e.0)

abbrev pub atom_of : List Named → Word → Ending ℕ
atom_of names w = placed names (with_name names (table_name w))

unfoldable pub atoms_of : List Named → List Word → Ending (List ℕ)
atoms_of names [] = (names, Ok [])
atoms_of names (w ∷ words) = then_read (atom_of names w) (λ later a. then_read (atoms_of later words) (λ last atoms. (last, Ok (a ∷ atoms))))

unfoldable pub compounds_of : List Named → List (List Word) → Ending (List Compound)
compounds_of names [] = (names, Ok [])
compounds_of names (c ∷ cs) =
    then_read (atoms_of names c) (λ later atoms. then_read (compounds_of later cs) (λ last compounds. (last, Ok ((record { atoms = atoms }) ∷ compounds))))

-- ---- selectors

-- the selector, where the grammar wasn't left
abbrev pub selector_or : Option SelFault → List Compound → List Join → Outcome Selector
selector_or None compounds joins = Ok (selector_from compounds joins)
selector_or (Some e) compounds joins = Err e

unfoldable pub read_syntax : Syntax → List Named → Ending Selector
read_syntax s names = then_read (compounds_of names (s.names ∷ s.others)) (λ later compounds. (later, selector_or s.fault compounds s.joins))

-- a selector, with white space and comments round it
unfoldable pub read_piece : Bool → ℕ → List ℕ → List Named → Ending Selector
read_piece drops to text names = read_syntax (syntax_of drops to text) names

-- the judged form of the selector between two offsets
unfoldable pub read_selector : List ℕ → ℕ → ℕ → List Named → Ending Selector
read_selector text from to names = read_piece true to (slice_range text from to) names
