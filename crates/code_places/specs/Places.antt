-- What stands at a token.
use Rattle.std.specs.Prelude.{ℕ, ◌+◌, ◌-◌, ◌==◌, ◌&&◌, ◌||◌, Bool, false, if◌then◌else◌, List, [], ◌∷◌, get_or, Option, Some, None, codes}
use Rattle.text_bytes.specs.Attributes.{is_among}
use Rattle.code_scan.specs.declared.token.Token.{Token}
use Rattle.code_scan.specs.declared.token.TokenKind.{TokenKind}
use Rattle.code_scan.specs.declared.token.TokenKind.TheVariants as kind
use Rattle.code_scan.specs.Spellings.{spelling}
use Rattle.code_tokens.specs.declared.code.Code.{Code}
use Rattle.code_places.specs.declared.brackets.Brackets.{Brackets}
use Rattle.code_places.specs.declared.place.Place.{Place}
use Rattle.code_places.specs.declared.place.Place.TheVariants.{Member, Name, Declared, Key, Word, Index, Text, Other}
use Rattle.code_places.specs.Patterns.{is_index}
use Rattle.code_places.specs.Uses.{use_at}
use Rattle.code_places.specs.Words.{tokens_at, begins, begins_name, begins_dot, is_number}

-- ---- names

-- words of the language, which are no names unless they stand behind a dot or before a `:`
abbrev pub reserved : List (List ℕ)
reserved =
    codes "break" ∷ codes "case" ∷ codes "catch" ∷ codes "class" ∷ codes "const" ∷ codes "continue" ∷ codes "debugger" ∷ codes "default"
    ∷ codes "delete" ∷ codes "do" ∷ codes "else" ∷ codes "export" ∷ codes "extends" ∷ codes "finally" ∷ codes "for" ∷ codes "function"
    ∷ codes "if" ∷ codes "in" ∷ codes "instanceof" ∷ codes "new" ∷ codes "return" ∷ codes "switch" ∷ codes "throw" ∷ codes "try"
    ∷ codes "typeof" ∷ codes "var" ∷ codes "void" ∷ codes "while" ∷ codes "with" ∷ codes "yield" ∷ codes "await" ∷ codes "let" ∷ []

-- the name of a function or of a class is behind these
abbrev pub declaring : List (List ℕ)
declaring = codes "function" ∷ codes "class" ∷ []

abbrev pub generator : List (List ℕ)
generator = codes "function" ∷ []

-- whether the name of a number is that of a function or of a class that is written there
unfoldable pub is_declared : List ℕ → Code → ℕ → Bool
is_declared text code at =
    begins_name text declaring (tokens_at code (at - 1))
    || begins text (codes "*") (tokens_at code (at - 1)) && begins_name text generator (tokens_at code (at - 2))

-- a name that isn't behind a dot
unfoldable pub name_at : List ℕ → Code → Brackets → ℕ → List ℕ → Place
name_at text code b at spelling =
    if begins text (codes ":") (tokens_at code (at + 1)) then Key
    else if is_among reserved spelling then Word
    else if is_declared text code at then Declared
    else Name (use_at text code b at at)

unfoldable pub any_name_at : List ℕ → Code → Brackets → ℕ → List ℕ → Place
any_name_at text code b at spelling =
    if begins_dot text (tokens_at code (at - 1)) then Member (use_at text code b at at) else name_at text code b at spelling

-- ---- members that are computed

unfoldable pub begins_number : List Token → Bool
begins_number [] = false
begins_number (t ∷ ts) = is_number t.kind

-- An element by its number is nothing.
abbrev pub index_to : List ℕ → Code → Brackets → ℕ → Option ℕ → Place
index_to text code b at None = Other
index_to text code b at (Some to) =
    if begins_number (tokens_at code (at + 1)) && to == at + 2 then Other else Index (use_at text code b at to)

unfoldable pub mark_at : List ℕ → Code → Brackets → ℕ → Place
mark_at text code b at = if is_index text code at then index_to text code b at (get_or code.others at None) else Other

-- ---- places

unfoldable pub text_at : List ℕ → Code → ℕ → Place
text_at text code at = if begins text (codes ":") (tokens_at code (at + 1)) then Key else Text

abbrev pub kind_at : List ℕ → Code → Brackets → ℕ → TokenKind → List ℕ → Place
kind_at text code b at kind.Name spelling = any_name_at text code b at spelling
kind_at text code b at (kind.Member name) spelling = Member (use_at text code b at at)
kind_at text code b at (kind.Text letters) spelling = text_at text code at
kind_at text code b at kind.Mark spelling = mark_at text code b at
kind_at text code b at other spelling = Other

unfoldable pub place_in : List ℕ → Code → Brackets → ℕ → List Token → Place
place_in text code b at [] = Other
place_in text code b at (t ∷ ts) = kind_at text code b at t.kind (spelling text t)

-- what stands at the token of a number
abbrev pub place_at : List ℕ → Code → Brackets → ℕ → Place
place_at text code b at = place_in text code b at (tokens_at code at)
