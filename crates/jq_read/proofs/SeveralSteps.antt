-- Functions and lists that are handed over, one by one.
use Rattle.std.proofs.Common.{◌≡◌, ℕ, suc, ◌+◌, Bool, List, Ok, Err, Option, refl, arith}
use Rattle.jq_stmts.specs.Sharp.{ExactChain}
use Rattle.jq_words.specs.declared.faults.ScriptFault.{ScriptFault}
use Rattle.jq_words.specs.Words.{Word}
use Rattle.jq_read.specs.States.{Context, State, size}
use Rattle.jq_read.specs.Functions.{Block, handed}
use Rattle.jq_forms.specs.Heads.{behind_one}
use Rattle.jq_read.specs.Chains.{several}

module _ (lists : Bool) (block : Block) (room : ℕ) (c : Context) (chain : Option ExactChain) where
  pub goes_on : (n left : ℕ) (s t : State) (ws middle rest : List Word)
      → n ≡ left + 1 → handed lists block room c chain s ws ≡ Ok (t, middle) → behind_one (size c) left middle ≡ Ok rest
      → several lists block room c chain n s ws ≡ several lists block room c chain left t rest
  unfolding several
  goes_on n left s t ws middle rest count read next = let more : n ≡ suc left = omega (arith, count) in rw (more, read, next) refl

  pub fails : (n left : ℕ) (s : State) (ws : List Word) (e : ScriptFault)
      → n ≡ left + 1 → handed lists block room c chain s ws ≡ Err e → several lists block room c chain n s ws ≡ Err e
  unfolding several
  fails n left s ws e count read = let more : n ≡ suc left = omega (arith, count) in rw (more, read) refl

  pub comma_fails : (n left : ℕ) (s t : State) (ws middle : List Word) (e : ScriptFault)
      → n ≡ left + 1 → handed lists block room c chain s ws ≡ Ok (t, middle) → behind_one (size c) left middle ≡ Err e → several lists block room c chain n s ws ≡ Err e
  unfolding several
  comma_fails n left s t ws middle e count read next = let more : n ≡ suc left = omega (arith, count) in rw (more, read, next) refl

  pub ends : (n : ℕ) (s : State) (ws : List Word) → n ≡ 0 → several lists block room c chain n s ws ≡ Ok (s, ws)
  unfolding several
  ends n s ws none = rw none refl
