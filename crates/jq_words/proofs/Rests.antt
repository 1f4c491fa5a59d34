-- The last of the last words.
use Rattle.std.proofs.Common.{◌≡◌, ℕ, zero, suc, ◌+◌, ◌-◌, ◌<◌, List, [], ◌∷◌, length, drop, sym, ap, ◌∙◌, arith}
use Rattle.std.proofs.lemmas.List.{drop-drop, drop_all, length-drop}
use Rattle.std.specs.Prelude.{Result, Ok, Err, OnOk}
pub use Rattle.text_bytes.proofs.Rests.{of_rest, itself, dropped}
use Rattle.jq_words.specs.declared.faults.ScriptFault.{ScriptFault}
use Rattle.jq_words.specs.Words.{Word}
use Rattle.jq_words.specs.Results.{IsRest, IsBehind}

pub behind_first : (all : List Word) → IsRest all (drop 1 all)
behind_first all = dropped 1 all

-- ---- behind the first word

pub passed : (all : List Word) → IsBehind all (drop 1 all)
passed all = record { part = itself (drop 1 all) }

both_less : (all rest : List Word) → IsRest all rest → IsRest (drop 1 all) (drop 1 rest)
both_less all [] part = record { shorter = omega arith; last = drop_all (length (drop 1 all) - 0) (drop 1 all) (omega arith) }
both_less all (r ∷ rs) part =
    let one : length (drop 1 all) ≡ length all - 1 = length-drop 1 all in
    let steps : 1 + (length (drop 1 all) - length rs) ≡ (length all - suc (length rs)) + 1 = omega (arith, one, part.shorter) in
    record {
      shorter = omega (arith, one, part.shorter);
      last = drop-drop (length (drop 1 all) - length rs) 1 all ∙ ap (λ n. drop n all) steps ∙ sym (drop-drop 1 (length all - suc (length rs)) all) ∙ ap (drop 1) part.last;
    }

pub rest_behind : (all middle rest : List Word) → IsRest all middle → IsBehind middle rest → IsBehind all rest
rest_behind all middle rest outer inner = record { part = of_rest (drop 1 all) (drop 1 middle) rest (both_less all middle outer) inner.part }

pub behind_rest : (all middle rest : List Word) → IsBehind all middle → IsRest middle rest → IsBehind all rest
behind_rest all middle rest outer inner = record { part = of_rest (drop 1 all) middle rest outer.part inner }

pub is_rest : (all rest : List Word) → IsBehind all rest → IsRest all rest
is_rest all rest behind = of_rest all (drop 1 all) rest (behind_first all) behind.part

pub behind_behind : (all middle rest : List Word) → IsBehind all middle → IsBehind middle rest → IsBehind all rest
behind_behind all middle rest outer inner = behind_rest all middle rest outer (is_rest middle rest inner)

pub shorter : (all rest : List Word) (w : Word) → all ≡ w ∷ drop 1 all → IsBehind all rest → length rest < length all
shorter all rest w here behind = let one : length all ≡ suc (length (drop 1 all)) = ap length here in omega (arith, one, behind.part.shorter)

pub on_ok_behind : {X : Type 0} (r : Result X ScriptFault) (all middle rest : List Word) → IsBehind all middle → OnOk r (IsBehind middle rest) → OnOk r (IsBehind all rest)
on_ok_behind (Ok x) all middle rest outer inner = behind_behind all middle rest outer inner
on_ok_behind (Err e) all middle rest outer inner = inner

-- one word more is passed
pub one_more_dropped : (n : ℕ) (ws : List Word) → drop 1 (drop n ws) ≡ drop (n + 1) ws
one_more_dropped n ws = drop-drop 1 n ws

pub two_passed : (ws : List Word) → drop 1 (drop 1 ws) ≡ drop 2 ws
two_passed ws = drop-drop 1 1 ws

pub passed_behind : (ws rest : List Word) → IsBehind (drop 1 ws) rest → IsRest ws rest
passed_behind ws rest inner = of_rest ws (drop 1 ws) rest (behind_first ws) (is_rest (drop 1 ws) rest inner)

pub passed_rest : (ws rest : List Word) → IsRest (drop 1 (drop 1 ws)) rest → IsBehind ws rest
passed_rest ws rest part = record { part = of_rest (drop 1 ws) (drop 1 (drop 1 ws)) rest (behind_first (drop 1 ws)) part }

pub passed_behind_rest : (ws middle rest : List Word) → IsBehind (drop 1 (drop 1 ws)) middle → IsRest middle rest → IsBehind ws rest
passed_behind_rest ws middle rest outer inner = passed_rest ws rest (of_rest (drop 1 (drop 1 ws)) middle rest (is_rest (drop 1 (drop 1 ws)) middle outer) inner)

pub some_dropped : (n : ℕ) (ws rest : List Word) → 0 < n → rest ≡ drop n ws → IsBehind ws rest
some_dropped zero ws rest some is = let never : ⊥ = omega (arith, some) in absurd never
some_dropped (suc n) [] rest some is = rw is (passed [])
some_dropped (suc n) (w ∷ ws) rest some is = rw is (record { part = dropped n ws })
