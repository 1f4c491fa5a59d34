-- Tokens in order are within their text.
use Rattle.std.proofs.Common.{◌≡◌, ℕ, zero, suc, ◌≤◌, List, [], ◌∷◌, length, take, refl, ap, arith}
use Rattle.js_scan.specs.declared.token.Token.{Token}
use Rattle.js_scan.specs.Tokens.{InOrder}
use Rattle.js_scan.specs.Utf8.{AreTexts}
use Rattle.js_scan.proofs.TokensLemmas.{in_order_bounds}
use Rattle.jq_words.specs.Words.{words_behind}

pub first_within : (low high : ℕ) (t : Token) (ts : List Token) → InOrder low high (t ∷ ts) → t.to ≤ high
first_within low high t ts sorted = in_order_bounds t.to high ts sorted.2

pub front_in_order : (low high k : ℕ) (ts : List Token) → InOrder low high ts → InOrder low high (take k ts)
front_in_order low high zero ts sorted = in_order_bounds low high ts sorted
front_in_order low high (suc k) [] sorted = sorted
front_in_order low high (suc k) (t ∷ ts) sorted = (sorted.0, sorted.1, front_in_order t.to high k ts sorted.2)

pub front_texts : (text : List ℕ) (k : ℕ) (ts : List Token) → AreTexts text ts → AreTexts text (take k ts)
front_texts text zero ts texts = tt
front_texts text (suc k) [] texts = tt
front_texts text (suc k) (t ∷ ts) texts = (texts.0, front_texts text k ts texts.1)

pub front_words : (text : List ℕ) (end k : ℕ) (ts : List Token) → words_behind text end (take k ts) ≡ take k (words_behind text end ts)
unfolding words_behind
front_words text end zero ts = refl
front_words text end (suc k) [] = refl
front_words text end (suc k) (t ∷ ts) = rw (front_words text t.to k ts) refl

pub all_words : (text : List ℕ) (end k : ℕ) (ts : List Token) → length ts ≤ k → take k (words_behind text end ts) ≡ words_behind text end ts
unfolding words_behind
all_words text end zero [] few = refl
all_words text end zero (t ∷ ts) few = let never : ⊥ = omega (arith, few) in absurd never
all_words text end (suc k) [] few = refl
all_words text end (suc k) (t ∷ ts) few = let fewer : length ts ≤ k = omega (arith, few) in rw (all_words text t.to k ts fewer) refl

as_long : (text : List ℕ) (end : ℕ) (ts : List Token) → length (words_behind text end ts) ≡ length ts
unfolding words_behind
as_long text end [] = refl
as_long text end (t ∷ ts) = ap suc (as_long text t.to ts)

-- words can be counted where their tokens can
pub as_many : (text : List ℕ) (end : ℕ) (ts : List Token) → length ts ≤ 18446744073709551615 → length (words_behind text end ts) ≤ 18446744073709551615
as_many text end ts few = omega (arith, as_long text end ts, few)
