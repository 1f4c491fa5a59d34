-- The last of the last words, in one file.
use Rattle.std.proofs.Common.{◌≡◌, ℕ, ◌+◌, ◌<◌, ◌∷◌, length, drop, refl, ap, ◌∙◌}
use Rattle.std.specs.Prelude.{Result, Ok, Err, OnOk}
use Rattle.jq_words.specs.declared.faults.ScriptFault.{ScriptFault}
use Rattle.jq_words.specs.Words.{Word, Rest, past}
use Rattle.jq_words.specs.Results.{InFile, IsRest, IsBehind}
use Rattle.jq_words.proofs.Rests as lists

pub itself : (all : Rest) → InFile IsRest all all
itself all = record { left = lists.itself all.words; size = refl }

pub behind_first : (all : Rest) → InFile IsRest all (past 1 all)
behind_first all = record { left = lists.behind_first all.words; size = refl }

pub passed : (all : Rest) → InFile IsBehind all (past 1 all)
passed all = record { left = lists.passed all.words; size = refl }

pub of_rest : (all middle rest : Rest) → InFile IsRest all middle → InFile IsRest middle rest → InFile IsRest all rest
of_rest all middle rest outer inner = record { left = lists.of_rest all.words middle.words rest.words outer.left inner.left; size = inner.size ∙ outer.size }

pub rest_behind : (all middle rest : Rest) → InFile IsRest all middle → InFile IsBehind middle rest → InFile IsBehind all rest
rest_behind all middle rest outer inner = record { left = lists.rest_behind all.words middle.words rest.words outer.left inner.left; size = inner.size ∙ outer.size }

pub behind_rest : (all middle rest : Rest) → InFile IsBehind all middle → InFile IsRest middle rest → InFile IsBehind all rest
behind_rest all middle rest outer inner = record { left = lists.behind_rest all.words middle.words rest.words outer.left inner.left; size = inner.size ∙ outer.size }

pub is_rest : (all rest : Rest) → InFile IsBehind all rest → InFile IsRest all rest
is_rest all rest behind = record { left = lists.is_rest all.words rest.words behind.left; size = behind.size }

pub behind_behind : (all middle rest : Rest) → InFile IsBehind all middle → InFile IsBehind middle rest → InFile IsBehind all rest
behind_behind all middle rest outer inner = behind_rest all middle rest outer (is_rest middle rest inner)

pub shorter : (all rest : Rest) (w : Word) → all.words ≡ w ∷ drop 1 all.words → InFile IsBehind all rest → length rest.words < length all.words
shorter all rest w here behind = lists.shorter all.words rest.words w here behind.left

pub on_ok_behind : {X : Type 0} (r : Result X ScriptFault) (all middle rest : Rest) → InFile IsBehind all middle → OnOk r (InFile IsBehind middle rest) → OnOk r (InFile IsBehind all rest)
on_ok_behind (Ok x) all middle rest outer inner = behind_behind all middle rest outer inner
on_ok_behind (Err e) all middle rest outer inner = inner

-- one word more is passed
pub one_more_passed : (n : ℕ) (r : Rest) → past 1 (past n r) ≡ past (n + 1) r
one_more_passed n r = ap (λ ws. record { words = ws; size = r.size }) (lists.one_more_dropped n r.words)

pub passed_behind : (r rest : Rest) → InFile IsBehind (past 1 r) rest → InFile IsRest r rest
passed_behind r rest inner = record { left = lists.passed_behind r.words rest.words inner.left; size = inner.size }

pub passed_rest : (r rest : Rest) → InFile IsRest (past 1 (past 1 r)) rest → InFile IsBehind r rest
passed_rest r rest part = record { left = lists.passed_rest r.words rest.words part.left; size = part.size }

pub passed_behind_rest : (r middle rest : Rest) → InFile IsBehind (past 1 (past 1 r)) middle → InFile IsRest middle rest → InFile IsBehind r rest
passed_behind_rest r middle rest outer inner =
    record { left = lists.passed_behind_rest r.words middle.words rest.words outer.left inner.left; size = inner.size ∙ outer.size }

pub some_passed : (n : ℕ) (r rest : Rest) → 0 < n → rest ≡ past n r → InFile IsBehind r rest
some_passed n r rest some is =
    record { left = lists.some_dropped n r.words rest.words some (ap (λ (x : Rest). x.words) is); size = ap (λ (x : Rest). x.size) is }
