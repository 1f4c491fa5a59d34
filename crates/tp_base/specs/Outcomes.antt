-- What reading gives, and what code answers to it: the same, unless memory ran out.
--     o >>= f                        goes on with what was read, if there was no fault
--     GivesUnless memory view r read the result is what is read, seen by the view
--     ReadsUnless memory view r names read  the result, and the names that the code leaves, are what is read
use Rattle.std.specs.Prelude.{◌≡◌, ◌≢◌, Result, Ok, Err}

infixl 10 ◌>>=◌
abbrev pub ◌>>=◌ : {A B E : Type 0} → Result A E → (A → Result B E) → Result B E
(Ok x) >>= f = f x
(Err e) >>= f = Err e

abbrev pub GivesUnless : {X Y E : Type 0} → E → (X → Y) → Result X E → Result Y E → Type 0
GivesUnless memory view (Ok x) read = read ≡ Ok (view x)
GivesUnless memory view (Err e) read = e ≢ memory → read ≡ Err e

abbrev pub ReadsUnless : {X Y N E : Type 0} → E → (X → Y) → Result X E → N → N × Result Y E → Type 0
ReadsUnless memory view (Ok x) names read = read ≡ (names, Ok (view x))
ReadsUnless memory view (Err e) names read = e ≢ memory → read ≡ (names, Err e)
