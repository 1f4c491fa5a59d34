-- The length of the longest front that is UTF-8.
use Rattle.std.proofs.Common.{◌≡◌, ℕ, zero, suc, ◌≤◌, Bool, true, false, if◌then◌else◌, List, length, take, IsUtf8, refl, subst, arith}
use Rattle.std.specs.Str.{is_utf8}
use Rattle.std.specs.Str.Lossy.{utf8_valid_len, valid_len_up_to}
use Rattle.std.proofs.lemmas.List.{take_all}
use Rattle.std.proofs.lemmas.Str.{IsUtf8-nil, IsUtf8-from_is_utf8, utf8_valid_len-IsUtf8}

pub valid_len : (bs : List ℕ) → IsUtf8 bs → utf8_valid_len bs ≡ length bs
valid_len bs text = utf8_valid_len-IsUtf8 bs text

valid_by : (bs : List ℕ) (n : ℕ) → valid_len_up_to bs n ≤ n
valid_by bs zero = omega arith
valid_by bs (suc n) = by (is_utf8 (take (suc n) bs)) (valid_by bs n)
  where
    by : (test : Bool) → valid_len_up_to bs n ≤ n → (if test then suc n else valid_len_up_to bs n) ≤ suc n
    by true less = omega arith
    by false less = omega (arith, less)

whole_valid : (bs : List ℕ) (n : ℕ) → valid_len_up_to bs n ≡ n → IsUtf8 (take n bs)
whole_valid bs zero is = IsUtf8-nil
whole_valid bs (suc n) is = by (is_utf8 (take (suc n) bs)) refl is (valid_by bs n)
  where
    by : (test : Bool) → is_utf8 (take (suc n) bs) ≡ test → (if test then suc n else valid_len_up_to bs n) ≡ suc n → valid_len_up_to bs n ≤ n → IsUtf8 (take (suc n) bs)
    by true valid is less = IsUtf8-from_is_utf8 (take (suc n) bs) valid
    by false valid is less = absurd (omega (arith, is, less))

pub valid_is : (text : List ℕ) → utf8_valid_len text ≡ length text → IsUtf8 text
unfolding utf8_valid_len
valid_is text is = subst IsUtf8 (take_all (length text) text (omega arith)) (whole_valid text (length text) is)
