-- Behind the same tokens a slash of the subset divides only where it may divide in all code, and no template is open.
use Rattle.std.proofs.Common.{◌≡◌, ℕ, ◌||◌, not, Bool, true, false, if◌then◌else◌, List, [], ◌∷◌, drop, Option, Some, None, refl, sym, subst, arith, codes}
use Rattle.std.specs.Str.{bytes_eq}
use Rattle.tp_base.proofs.Lists.{bytes_eq-sym}
use Rattle.text_bytes.specs.Attributes.{is_among}
use Rattle.js_scan.specs.declared.token.TokenKind as script_kind
use Rattle.js_scan.specs.Tokens.{divides_next}
use Rattle.code_scan.specs.declared.brackets.Bracket.{Bracket}
use Rattle.code_scan.specs.declared.brackets.Bracket.TheVariants.{Round, Heading, Square, Curly, Hole}
use Rattle.code_scan.specs.declared.state.Before.{Before}
use Rattle.code_scan.specs.declared.state.Before.TheVariants.{Operator, Dot, Value, Keyword, Head, Block}
use Rattle.code_scan.specs.declared.token.Piece.{Piece}
use Rattle.code_scan.specs.declared.token.Piece.TheVariants.{Passed, One, Opened, Shut, Reopened}
use Rattle.code_scan.specs.declared.token.TokenKind.{TokenKind}
use Rattle.code_scan.specs.SameTokens.{kind_as}
use Rattle.code_scan.specs.States.{State, headings, keywords, behind_word, behind_name, behind_mark, is_heading, is_dot, is_step, behind_round, behind_token, round_behind, opened_by, closes_innermost, pushed, open_behind, is_in_hole, after}

abbrev pub is_dividing : Before → Bool
is_dividing Operator = false
is_dividing Dot = false
is_dividing before = true

abbrev is_hole : Bracket → Bool
is_hole Hole = true
is_hole o = false

abbrev pub has_hole : List Bracket → Bool
has_hole [] = false
has_hole (o ∷ os) = is_hole o || has_hole os

pub no_hole_here : (os : List Bracket) → has_hole os ≡ false → is_in_hole os ≡ false
unfolding is_in_hole
no_hole_here [] none = refl
no_hole_here (Round ∷ os) none = refl
no_hole_here (Heading ∷ os) none = refl
no_hole_here (Square ∷ os) none = refl
no_hole_here (Curly ∷ os) none = refl
no_hole_here (Hole ∷ os) none = absurd (grind (arith, none))

-- ---- brackets

or_right : (a b : Bool) → (a || b) ≡ false → b ≡ false
or_right true b none = absurd (grind (arith, none))
or_right false b none = none

no_hole_left : (os : List Bracket) → has_hole os ≡ false → has_hole (drop 1 os) ≡ false
no_hole_left [] none = refl
no_hole_left (o ∷ os) none = or_right (is_hole o) (has_hole os) none

round_no_hole : (before : Before) → is_hole (round_behind before) ≡ false
round_no_hole Operator = refl
round_no_hole Dot = refl
round_no_hole Value = refl
round_no_hole Keyword = refl
round_no_hole Head = refl
round_no_hole Block = refl

no_hole_more : (round square curly : Bool) (before : Before) (os : List Bracket) → has_hole os ≡ false
    → has_hole (pushed (if round then Some (round_behind before) else if square then Some Square else if curly then Some Curly else None) os) ≡ false
no_hole_more true square curly before os none = rw (round_no_hole before) none
no_hole_more false true curly before os none = none
no_hole_more false false true before os none = none
no_hole_more false false false before os none = none

no_hole_mark : (before : Before) (os : List Bracket) (spelling : List ℕ) → has_hole os ≡ false → has_hole (open_behind before os spelling) ≡ false
unfolding open_behind opened_by
no_hole_mark before os spelling none =
    by (closes_innermost spelling os) (drop 1 os) (pushed (opened_by before spelling) os) (no_hole_left os none) (no_hole_more (bytes_eq spelling (codes "(")) (bytes_eq spelling (codes "[")) (bytes_eq spelling (codes "{")) before os none)
  where
    by : (test : Bool) (closed more : List Bracket) → has_hole closed ≡ false → has_hole more ≡ false → has_hole (if test then closed else more) ≡ false
    by true closed more first second = first
    by false closed more first second = second

-- ---- slashes

later_word : (heading keyword : Bool) → is_dividing (if heading then Head else if keyword then Keyword else Value) ≡ true
later_word true keyword = refl
later_word false true = refl
later_word false false = refl

by_opener : (a b heading keyword : Bool) → not (a || b) ≡ true → is_dividing (if (if a then true else if b then true else false) then Operator else if heading then Head else if keyword then Keyword else Value) ≡ true
by_opener true b heading keyword divides = absurd (grind (arith, divides))
by_opener false true heading keyword divides = absurd (grind (arith, divides))
by_opener false false heading keyword divides = later_word heading keyword

word_divides : (spelling : List ℕ) → not (bytes_eq spelling (codes "return") || bytes_eq spelling (codes "typeof")) ≡ true → is_dividing (behind_word spelling) ≡ true
word_divides spelling divides =
    rw (bytes_eq-sym (codes "return") spelling, bytes_eq-sym (codes "typeof") spelling)
    (by_opener (bytes_eq spelling (codes "return")) (bytes_eq spelling (codes "typeof")) (is_among headings spelling) (is_among keywords spelling) divides)

name_divides : (before : Before) (spelling : List ℕ) → not (bytes_eq spelling (codes "return") || bytes_eq spelling (codes "typeof")) ≡ true → is_dividing (behind_name before spelling) ≡ true
unfolding behind_name
name_divides Operator spelling divides = word_divides spelling divides
name_divides Dot spelling divides = refl
name_divides Value spelling divides = word_divides spelling divides
name_divides Keyword spelling divides = word_divides spelling divides
name_divides Head spelling divides = word_divides spelling divides
name_divides Block spelling divides = word_divides spelling divides

round_divides : (heading : Bool) → is_dividing (behind_round heading) ≡ true
round_divides true = refl
round_divides false = refl

by_mark : (round square step curly dot heading : Bool) → (round || square || curly) ≡ true
    → is_dividing (if round then behind_round heading else if (square || step) then Value else if curly then Block else if dot then Dot else Operator) ≡ true
by_mark true square step curly dot heading divides = round_divides heading
by_mark false true step curly dot heading divides = refl
by_mark false false true curly dot heading divides = refl
by_mark false false false true dot heading divides = refl
by_mark false false false false dot heading divides = absurd (grind (arith, divides))

mark_divides : (os : List Bracket) (spelling : List ℕ) → (bytes_eq spelling (codes ")") || bytes_eq spelling (codes "]") || bytes_eq spelling (codes "}")) ≡ true → is_dividing (behind_mark os spelling) ≡ true
unfolding behind_mark
mark_divides os spelling divides =
    by_mark (bytes_eq spelling (codes ")")) (bytes_eq spelling (codes "]")) (is_step spelling) (bytes_eq spelling (codes "}")) (is_dot spelling) (is_heading os) divides

-- ---- what goes on

-- the state goes with what the scanner of the subset knows
pub record GoesWith (s : State) (divides : Bool) : Type 0 where
  pub slash : divides ≡ true → is_dividing s.before ≡ true
  pub no_hole : has_hole s.brackets ≡ false

-- what stands at a place is the token that the subset has, or none
abbrev pub IsPiece : Piece → Option script_kind.TokenKind → Type 0
IsPiece (Passed broken) None = Unit {0}
IsPiece (One kind) (Some k) = kind ≡ kind_as k
IsPiece piece w = ⊥

one_goes : (s : State) (divides : Bool) (k : script_kind.TokenKind) (spelling : List ℕ) → GoesWith s divides → GoesWith (after s (One (kind_as k)) spelling) (divides_next (Some k) spelling divides)
unfolding after behind_token divides_next
one_goes s divides script_kind.TheVariants.Name spelling goes = record { slash = name_divides s.before spelling; no_hole = goes.no_hole }
one_goes s divides script_kind.TheVariants.Number spelling goes = record { slash = λ _. refl; no_hole = goes.no_hole }
one_goes s divides (script_kind.TheVariants.Text letters) spelling goes = record { slash = λ _. refl; no_hole = goes.no_hole }
one_goes s divides script_kind.TheVariants.Mark spelling goes = record { slash = mark_divides s.brackets spelling; no_hole = no_hole_mark s.before s.brackets spelling goes.no_hole }

pub goes_with : (s : State) (divides : Bool) (piece : Piece) (w : Option script_kind.TokenKind) (spelling : List ℕ) → IsPiece piece w → GoesWith s divides → GoesWith (after s piece spelling) (divides_next w spelling divides)
unfolding after divides_next
goes_with s divides (Passed broken) None spelling is goes = record { slash = goes.slash; no_hole = goes.no_hole }
goes_with s divides (Passed broken) (Some k) spelling is goes = absurd is
goes_with s divides (One kind) None spelling is goes = absurd is
goes_with s divides (One kind) (Some k) spelling is goes =
    subst (λ (x : TokenKind). GoesWith (after s (One x) spelling) (divides_next (Some k) spelling divides)) (sym is) (one_goes s divides k spelling goes)
goes_with s divides (Opened letters) None spelling is goes = absurd is
goes_with s divides (Opened letters) (Some k) spelling is goes = absurd is
goes_with s divides (Shut letters) None spelling is goes = absurd is
goes_with s divides (Shut letters) (Some k) spelling is goes = absurd is
goes_with s divides (Reopened letters) None spelling is goes = absurd is
goes_with s divides (Reopened letters) (Some k) spelling is goes = absurd is
