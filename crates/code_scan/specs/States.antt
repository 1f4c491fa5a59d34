-- What a token asks of those before it: whether a slash divides, whether a line ended, which brackets are open.
use Rattle.std.specs.Prelude.{ℕ, ◌||◌, Bool, true, false, if◌then◌else◌, List, [], ◌∷◌, drop, Option, Some, None, codes, bytes_eq}
use Rattle.text_bytes.specs.Attributes.{is_among}
use Rattle.code_scan.specs.declared.state.Before.{Before}
use Rattle.code_scan.specs.declared.state.Before.TheVariants.{Operator, Dot, Value, Keyword, Head, Block}
use Rattle.code_scan.specs.declared.brackets.Bracket.{Bracket}
use Rattle.code_scan.specs.declared.brackets.Bracket.TheVariants.{Round, Heading, Square, Curly, Hole}
use Rattle.code_scan.specs.declared.token.TokenKind.{TokenKind}
use Rattle.code_scan.specs.declared.token.TokenKind.TheVariants.{Name, Mark}
use Rattle.code_scan.specs.declared.token.Piece.{Piece}
use Rattle.code_scan.specs.declared.token.Piece.TheVariants.{Passed, One, Opened, Shut, Reopened}

-- behind these a slash begins a regular expression
abbrev pub openers : List (List ℕ)
openers = codes "return" ∷ codes "typeof" ∷ []

-- the bracket behind these holds a condition, or what is counted through
abbrev pub headings : List (List ℕ)
headings = codes "if" ∷ codes "while" ∷ codes "for" ∷ codes "with" ∷ codes "await" ∷ []

-- behind these a slash most likely begins a regular expression
abbrev pub keywords : List (List ℕ)
keywords =
    codes "case" ∷ codes "in" ∷ codes "of" ∷ codes "else" ∷ codes "do" ∷ codes "void" ∷ codes "new" ∷ codes "delete" ∷ codes "throw"
    ∷ codes "instanceof" ∷ codes "yield" ∷ codes "default" ∷ codes "extends" ∷ codes "break" ∷ codes "continue" ∷ codes "debugger" ∷ []

abbrev pub behind_word : List ℕ → Before
behind_word spelling =
    if is_among openers spelling then Operator
    else if is_among headings spelling then Head
    else if is_among keywords spelling then Keyword
    else Value

-- a Name behind a dot is no keyword
unfoldable pub behind_name : Before → List ℕ → Before
behind_name Dot spelling = Value
behind_name before spelling = behind_word spelling

-- whether the innermost open bracket is that of a condition
unfoldable pub is_heading : List Bracket → Bool
is_heading (Heading ∷ os) = true
is_heading os = false

abbrev pub behind_round : Bool → Before
behind_round heading = if heading then Keyword else Value

abbrev pub is_dot : List ℕ → Bool
is_dot spelling = bytes_eq spelling (codes ".") || bytes_eq spelling (codes "?.")

-- `++` and `--`
abbrev pub is_step : List ℕ → Bool
is_step spelling = bytes_eq spelling (codes "++") || bytes_eq spelling (codes "--")

unfoldable pub behind_mark : List Bracket → List ℕ → Before
behind_mark os spelling =
    if bytes_eq spelling (codes ")") then behind_round (is_heading os)
    else if bytes_eq spelling (codes "]") || is_step spelling then Value
    else if bytes_eq spelling (codes "}") then Block
    else if is_dot spelling then Dot
    else Operator

-- what stands before what comes behind a token
unfoldable pub behind_token : Before → List Bracket → TokenKind → List ℕ → Before
behind_token before os Name spelling = behind_name before spelling
behind_token before os Mark spelling = behind_mark os spelling
behind_token before os kind spelling = Value

-- the bracket that a mark opens
abbrev pub round_behind : Before → Bracket
round_behind Head = Heading
round_behind before = Round

unfoldable pub opened_by : Before → List ℕ → Option Bracket
opened_by before spelling =
    if bytes_eq spelling (codes "(") then Some (round_behind before)
    else if bytes_eq spelling (codes "[") then Some Square
    else if bytes_eq spelling (codes "{") then Some Curly
    else None

-- whether a mark closes a bracket
abbrev pub closes : List ℕ → Bracket → Bool
closes spelling Round = bytes_eq spelling (codes ")")
closes spelling Heading = bytes_eq spelling (codes ")")
closes spelling Square = bytes_eq spelling (codes "]")
closes spelling Curly = bytes_eq spelling (codes "}")
closes spelling Hole = false

-- whether a mark closes the innermost open bracket; the brackets stand from the innermost outward
unfoldable pub closes_innermost : List ℕ → List Bracket → Bool
closes_innermost spelling [] = false
closes_innermost spelling (o ∷ os) = closes spelling o

abbrev pub pushed : Option Bracket → List Bracket → List Bracket
pushed None os = os
pushed (Some o) os = o ∷ os

-- the brackets that are open behind a mark; one that closes another bracket than the innermost closes none
unfoldable pub open_behind : Before → List Bracket → List ℕ → List Bracket
open_behind before os spelling = if closes_innermost spelling os then drop 1 os else pushed (opened_by before spelling) os

abbrev pub is_mark : TokenKind → Bool
is_mark Mark = true
is_mark kind = false

-- whether a `}` ends a hole of a template
unfoldable pub is_in_hole : List Bracket → Bool
is_in_hole [] = false
is_in_hole (Hole ∷ os) = true
is_in_hole (o ∷ os) = false

pub record State : Type 0 where
  pub before : Before
  -- whether no token stands before on the line
  pub new_line : Bool
  pub brackets : List Bracket

-- at the beginning
abbrev pub start : State
start = record { before = Operator; new_line = true; brackets = [] }

abbrev pub behind : Before → List Bracket → State
behind before os = record { before = before; new_line = false; brackets = os }

abbrev pub after_token : State → TokenKind → List ℕ → State
after_token s kind spelling =
    behind (behind_token s.before s.brackets kind spelling) (if is_mark kind then open_behind s.before s.brackets spelling else s.brackets)

-- behind what stands at a place
unfoldable pub after : State → Piece → List ℕ → State
after s (Passed broken) spelling = record { before = s.before; new_line = s.new_line || broken; brackets = s.brackets }
after s (One kind) spelling = after_token s kind spelling
after s (Opened letters) spelling = behind Operator (Hole ∷ s.brackets)
after s (Shut letters) spelling = behind Value (drop 1 s.brackets)
after s (Reopened letters) spelling = behind Operator s.brackets
