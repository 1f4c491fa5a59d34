-- The words of a file stand in the order of their offsets, so that an offset tells where they go on.
use Rattle.std.proofs.Common.{◌≡◌, ℕ, zero, suc, ◌-◌, ◌<◌, List, [], ◌∷◌, length, drop, sym, ap, ◌∙◌, arith}
use Rattle.js_scan.specs.declared.token.Token.{Token}
use Rattle.js_scan.specs.Tokens.{InOrder}
use Rattle.jq_words.specs.Words.{Word, words_behind}
use Rattle.jq_words.specs.Results.{IsRest}
use Rattle.jq_cursor.specs.Notes.{AllBehind, Ascends}

behind_low : (text : List ℕ) (at end low high : ℕ) (ts : List Token) → InOrder low high ts → at < low → AllBehind at (words_behind text end ts)
unfolding words_behind
behind_low text at end low high [] sorted before = tt
behind_low text at end low high (t ∷ ts) sorted before =
    (omega (arith, before, sorted.0), behind_low text at t.to t.to high ts sorted.2 (omega (arith, before, sorted.0, sorted.1)))

pub ascend : (text : List ℕ) (end low high : ℕ) (ts : List Token) → InOrder low high ts → Ascends (words_behind text end ts)
unfolding words_behind
ascend text end low high [] sorted = tt
ascend text end low high (t ∷ ts) sorted = (behind_low text t.from t.to t.to high ts sorted.2 sorted.1, ascend text t.to t.to high ts sorted.2)

behind_more : (at k : ℕ) (ws : List Word) → AllBehind at ws → AllBehind at (drop k ws)
behind_more at zero ws all = all
behind_more at (suc k) [] all = tt
behind_more at (suc k) (w ∷ ws) all = behind_more at k ws all.1

first_behind : (at : ℕ) (ws rest : List Word) (w : Word) → AllBehind at ws → ws ≡ w ∷ rest → at < w.at
first_behind at ws rest w all here = (rw here at all).0

-- words that stand later begin behind
later : (i j : ℕ) (all a b : List Word) (v w : Word) → Ascends all → i < j → drop i all ≡ v ∷ a → drop j all ≡ w ∷ b → v.at < w.at
later i zero all a b v w sorted less first second = let never : ⊥ = omega (arith, less) in absurd never
later zero (suc j) [] a b v w sorted less first second = cc
later (suc i) (suc j) [] a b v w sorted less first second = cc
later zero (suc j) (x ∷ all) a b v w sorted less first second =
    let same : x ≡ v = cc in
    first_behind v.at (drop j all) b w (behind_more v.at j all (rw same at sorted.0)) second
later (suc i) (suc j) (x ∷ all) a b v w sorted less first second = later i j all a b v w sorted.1 (omega (arith, less)) first second

apart : (i j : ℕ) (all a b : List Word) (v w : Word) → Ascends all → drop i all ≡ v ∷ a → drop j all ≡ w ∷ b → v.at ≡ w.at → i < j → ⊥
apart i j all a b v w sorted first second same less = let further = later i j all a b v w sorted less first second in omega (arith, further, same)

-- the last words that begin at an offset
pub same_rest : (all a b : List Word) (v w : Word) → Ascends all → IsRest all a → IsRest all b → a ≡ v ∷ drop 1 a → b ≡ w ∷ drop 1 b → v.at ≡ w.at → a ≡ b
same_rest all a b v w sorted first second here there same =
    let i = length all - length a in
    let j = length all - length b in
    let not_less = apart i j all (drop 1 a) (drop 1 b) v w sorted (first.last ∙ here) (second.last ∙ there) same in
    let not_more = apart j i all (drop 1 b) (drop 1 a) w v sorted (second.last ∙ there) (first.last ∙ here) (sym same) in
    sym first.last ∙ ap (λ n. drop n all) (equal i j not_less not_more) ∙ second.last
  where
    equal : (m n : ℕ) → (m < n → ⊥) → (n < m → ⊥) → m ≡ n
    equal m n not_less not_more = omega (arith, not_less, not_more)
