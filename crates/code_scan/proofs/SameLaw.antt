-- The tokens of a plain text of the subset are those of code.
use Rattle.std.proofs.Common.{◌≡◌, ℕ, zero, suc, ◌-◌, ◌+◌, ◌==◌, Bool, true, false, if◌then◌else◌, List, [], ◌∷◌, ◌++◌, length, take, drop, map, Option, Some, None, Ok, Err, refl, sym, ap, subst, ◌∙◌, arith}
use Rattle.std.specs.Str.Lossy.{utf8_valid_len}
use Rattle.std.proofs.lemmas.Bool.{and_parts}
use Rattle.std.proofs.lemmas.List.{map-append}
use Rattle.text_bytes.specs.OrderMark.{behind_order_mark}
use Rattle.js_scan.specs.declared.token.ScanFault.{ScanFault}
use Rattle.js_scan.specs.declared.token.ScanFault.TheVariants.{NotUtf8}
use Rattle.js_scan.specs.declared.token.Token as script_token
use Rattle.js_scan.specs.declared.token.TokenKind as script_kind
use Rattle.js_scan.specs.Texts.{Outcome}
use Rattle.js_scan.specs.Tokens as script_tokens
use Rattle.js_scan.proofs.Spelling.{bind_ok}
use Rattle.code_scan.specs.declared.token.Front.{Front}
use Rattle.code_scan.specs.declared.token.Piece.{Piece}
use Rattle.code_scan.specs.declared.token.Token.{Token}
use Rattle.code_scan.specs.declared.token.Piece.TheVariants.{Passed, One, Opened, Shut, Reopened}
use Rattle.code_scan.specs.declared.token.TokenKind.{TokenKind}
use Rattle.code_scan.specs.Fronts.{front}
use Rattle.code_scan.specs.Names.{begins_letter}
use Rattle.code_scan.specs.SameTokens.{has_plain_lines, is_plain_byte, is_plain_front, are_plain_fronts, is_plain_text, Spot, spot_of, spot_as, ReadsTheSame}
use Rattle.code_scan.specs.States.{State, start, after}
use Rattle.code_scan.specs.Tokens.{tokens_of, joined, one_found, found_from}
use Rattle.code_scan.proofs.SameFronts.{IsRead, same_front, front_low, low_letter}
use Rattle.code_scan.proofs.SameStates.{GoesWith, IsPiece, goes_with}

-- where the rest is read, no letter past ASCII is next
ends_well : (size : ℕ) (divides : Bool) (n : ℕ) (bs : List ℕ) (ts : List script_token.Token) → script_tokens.tokens_from size divides n bs ≡ Ok ts → begins_letter (drop n bs) ≡ false
unfolding script_tokens.tokens_from
ends_well size divides zero [] ts read = refl
ends_well size divides (suc n) [] ts read = refl
ends_well size divides (suc n) (b ∷ bs) ts read = ends_well size divides n bs ts read
ends_well size divides zero (b ∷ bs) ts read =
    let first = bind_ok (script_tokens.front divides (b ∷ bs) (size - length (b ∷ bs))) _ ts read in
    low_letter b bs (front_low divides b bs (size - length (b ∷ bs)) first.0 first.1)

same_piece : (piece : Piece) (w : Option script_kind.TokenKind) (from to : ℕ) (first_in_line : Bool) → IsPiece piece w → map spot_of (tokens_of piece from to first_in_line) ≡ map spot_as (script_tokens.tokens_of w from to)
same_piece (Passed broken) None from to first is = refl
same_piece (Passed broken) (Some k) from to first is = absurd is
same_piece (One kind) None from to first is = absurd is
same_piece (One kind) (Some k) from to first is = ap (λ (x : TokenKind). let spot : Spot = (x, from, to) in spot ∷ []) is
same_piece (Opened letters) None from to first is = absurd is
same_piece (Opened letters) (Some k) from to first is = absurd is
same_piece (Shut letters) None from to first is = absurd is
same_piece (Shut letters) (Some k) from to first is = absurd is
same_piece (Reopened letters) None from to first is = absurd is
same_piece (Reopened letters) (Some k) from to first is = absurd is

abbrev tokens_in : Outcome (List script_token.Token) → List script_token.Token
tokens_in (Ok ts) = ts
tokens_in (Err e) = []

-- one front and what is behind it
one_more : (f : Front) (w : Option script_kind.TokenKind) (len at : ℕ) (first : Bool) (found : List Token) (others ts : List script_token.Token)
    → f.len ≡ len → IsPiece f.piece w → map spot_of found ≡ map spot_as others → script_tokens.tokens_of w at (at + len) ++ others ≡ ts
    → map spot_of (tokens_of f.piece at (at + f.len) first ++ found) ≡ map spot_as ts
one_more f w len at first found others ts long is later all =
    let here : map spot_of (tokens_of f.piece at (at + f.len) first) ≡ map spot_as (script_tokens.tokens_of w at (at + len)) = same_piece f.piece w at (at + f.len) first is ∙ ap (λ (n : ℕ). map spot_as (script_tokens.tokens_of w at (at + n))) long in
    map-append spot_of (tokens_of f.piece at (at + f.len) first) found ∙ ap (λ (xs : List Spot). xs ++ map spot_of found) here ∙ ap (λ (xs : List Spot). map spot_as (script_tokens.tokens_of w at (at + len)) ++ xs) later
    ∙ sym (map-append spot_as (script_tokens.tokens_of w at (at + len)) others) ∙ ap (map spot_as) all

same_from : (size : ℕ) (s : State) (divides : Bool) (skip : ℕ) (bs : List ℕ) (ts : List script_token.Token) → script_tokens.tokens_from size divides skip bs ≡ Ok ts → has_plain_lines bs ≡ true
    → are_plain_fronts s skip bs ≡ true → GoesWith s divides → map spot_of (found_from size s skip bs).tokens ≡ map spot_as ts
unfolding script_tokens.tokens_from found_from are_plain_fronts has_plain_lines joined one_found
same_from size s divides skip [] ts read plain fronts goes = ap (λ (r : Outcome (List script_token.Token)). map spot_as (tokens_in r)) read
same_from size s divides (suc skip) (b ∷ bs) ts read plain fronts goes = same_from size s divides skip bs ts read (and_parts (is_plain_byte b bs) (has_plain_lines bs) plain).1 fronts goes
same_from size s divides zero (b ∷ bs) ts read plain fronts goes =
    let at = size - length (b ∷ bs) in
    let plain' = (and_parts (is_plain_byte b bs) (has_plain_lines bs) plain).1 in
    let f = front s (b ∷ bs) in
    let fronts' = and_parts (is_plain_front s b bs) (are_plain_fronts (after s f.piece (take f.len (b ∷ bs))) (f.len - 1) bs) fronts in
    let first = bind_ok (script_tokens.front divides (b ∷ bs) at) _ ts read in
    let w = first.0.0 in
    let len = first.0.1 in
    let next = script_tokens.divides_next w (take len (b ∷ bs)) divides in
    let others = bind_ok (script_tokens.tokens_from size next (len - 1) bs) _ ts first.2 in
    let is : IsRead f (Ok (w, len)) = same_front s divides b bs at (Ok (w, len)) plain' fronts'.0 goes (ends_well size next (len - 1) bs others.0 others.1) first.1 in
    let state = after s f.piece (take f.len (b ∷ bs)) in
    let read' : script_tokens.tokens_from size (script_tokens.divides_next w (take f.len (b ∷ bs)) divides) (f.len - 1) bs ≡ Ok others.0 =
    subst (λ (n : ℕ). script_tokens.tokens_from size (script_tokens.divides_next w (take n (b ∷ bs)) divides) (n - 1) bs ≡ Ok others.0) (sym is.0) others.1 in
    let later = same_from size state (script_tokens.divides_next w (take f.len (b ∷ bs)) divides) (f.len - 1) bs others.0 read' plain' fronts'.1 (goes_with s divides f.piece w (take f.len (b ∷ bs)) is.1 goes) in
    one_more f w len at s.new_line (found_from size state (f.len - 1) bs).tokens others.0 ts is.0 is.1 later (ap tokens_in others.2)

when_ok : (test : Bool) (r : Outcome (List script_token.Token)) (e : ScanFault) (ts : List script_token.Token) → (if test then r else Err e) ≡ Ok ts → r ≡ Ok ts
when_ok true r e ts read = read
when_ok false r e ts read = absurd (grind (arith, read))

pub same_tokens : (text : List ℕ) → ReadsTheSame text
unfolding is_plain_text
same_tokens text = record {
  same = λ ts read plain.
      let plains = and_parts (has_plain_lines (behind_order_mark text)) (are_plain_fronts start 0 (behind_order_mark text)) plain in
      same_from (length text) start false 0 (behind_order_mark text) ts (when_ok (utf8_valid_len text == length text) (script_tokens.tokens text) (NotUtf8 (utf8_valid_len text)) ts read) plains.0 plains.1
      (record { slash = λ no. absurd (grind (arith, no)); no_hole = refl });
}
