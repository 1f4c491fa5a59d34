-- Pieces of a line, one behind the other.
use Rattle.std.proofs.Common.{◌≡◌, ℕ, List, [], ◌++◌, append_assoc}
use Rattle.std.proofs.lemmas.List.{append-nil}

pub one : (line : List ℕ) → line ≡ line ++ []
one line = simp append-nil

pub two : (line a b : List ℕ) → (line ++ a) ++ b ≡ line ++ (a ++ b)
two line a b = simp append_assoc

pub three : (line a b c : List ℕ) → ((line ++ a) ++ b) ++ c ≡ line ++ (a ++ b ++ c)
three line a b c = simp append_assoc

pub five : (line a b c d e : List ℕ) → ((((line ++ a) ++ b) ++ c) ++ d) ++ e ≡ line ++ (a ++ b ++ c ++ d ++ e)
five line a b c d e = simp append_assoc
