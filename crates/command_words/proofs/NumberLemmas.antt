-- Numbers as text writes them.
use Rattle.std.proofs.Common.{◌≡◌, ◌&&◌, ◌<◌, ◌≤◌, ◌^◌, ℕ, Bool, true, false, nat_le, length, Result, Ok, Err, refl, subst, arith}
use Rattle.std.specs.List.{list_all}
use Rattle.std.specs.Result.{OkIff}
use Rattle.std.specs.Str.Parse.{ParsesUnsigned}
use Rattle.std.proofs.lemmas.Bool.{leb-true, le-leb, and_parts}
use Rattle.std.proofs.lemmas.Str.Parse.{IsDigitsTest, IsNumeralModel, numerals_by_value, parse_digits}
use Rattle.command_words.specs.Parts.{Text}
use Rattle.command_words.specs.Orders.{is_digit, is_number, number, is_between}

all_digits : IsDigitsTest (λ ds. list_all is_digit ds ≡ true)
all_digits = record {
  empty = refl;
  parts = λ c cs e.
      let k = and_parts (is_digit c) (list_all is_digit cs) e in
      let m = and_parts (nat_le 48 c) (nat_le c 57) k.0 in
      ((leb-true 48 c m.0, leb-true c 57 m.1), k.1);
  more = λ c cs k e. rw (le-leb 48 c k.0, le-leb c 57 k.1) e;
}

own : IsNumeralModel (λ ds. list_all is_digit ds ≡ true) number
own = numerals_by_value _ all_digits

-- digits are read as the number, unless that is too large
read_is : {E : Type 0} (text : Text) (r : Result ℕ E) → is_number text ≡ true → ParsesUnsigned 32 10 text r → OkIff r ((0 < length text) × (number text < 2 ^ 32)) (number text)
read_is text r is parsed = parse_digits own 32 text r parsed (and_parts (nat_le (length text) _) (list_all is_digit text) (and_parts (nat_le 1 (length text)) _ is).1).1

pub number_read : {E : Type 0} (text : Text) (n : ℕ) (r : Result ℕ E) → is_number text ≡ true → ParsesUnsigned 32 10 text r → r ≡ Ok n → n ≡ number text
number_read text n r is parsed ok = (subst (λ z. OkIff z ((0 < length text) × (number text < 2 ^ 32)) (number text)) ok (read_is text r is parsed)).1

in_range : (low high : ℕ) (text : Text) (b c d : Bool) → is_number text ≡ b → nat_le low (number text) ≡ c → nat_le (number text) high ≡ d → is_between low high text ≡ (b && (c && d))
in_range low high text b c d eb ec ed = rw (eb, ec, ed) refl

-- what isn't read is too large for the range, too
pub not_read : {E : Type 0} (low high : ℕ) (text : Text) (e : E) → high < 2 ^ 32 → is_number text ≡ true → ParsesUnsigned 32 10 text (Err e) → is_between low high text ≡ false
not_read low high text e small is parsed = go (nat_le low (number text)) (nat_le (number text) high) refl refl
  where
    go : (c d : Bool) → nat_le low (number text) ≡ c → nat_le (number text) high ≡ d → is_between low high text ≡ false
    go true true ec ed =
        let some : 1 ≤ length text = leb-true 1 (length text) (and_parts (nat_le 1 (length text)) _ is).0 in
        let less : number text ≤ high = leb-true (number text) high ed in
        absurd (read_is text (Err e) is parsed (omega (arith, some), omega (arith, less, small)))
    go true false ec ed = in_range low high text true true false is ec ed
    go false d ec ed = in_range low high text true false d is ec ed
