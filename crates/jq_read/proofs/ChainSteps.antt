-- The calls of a chain, one by one.
use Rattle.std.proofs.Common.{◌≡◌, ℕ, zero, suc, ◌-◌, true, false, List, [], ◌∷◌, length, drop, Ok, Err, refl, ap, ◌∙◌, codes}
use Rattle.jq_words.specs.declared.faults.ScriptFault.{ScriptFault}
use Rattle.jq_words.specs.Words.{Word, is_mark, begins, first_is}
use Rattle.jq_words.specs.Results.{IsRest, IsBehind}
use Rattle.jq_parts.specs.Bindings.{Value}
use Rattle.jq_read.specs.States.{Context, State, size}
use Rattle.jq_read.specs.Functions.{Block}
use Rattle.jq_read.specs.Chains.{call, all_read, calls}
use Rattle.jq_parts.specs.Calls.{ended}

module _ (block : Block) (room : ℕ) (c : Context) where
  -- the words that are left of a call are passed over
  skips : (v : Value) (s : State) (n : ℕ) (ws : List Word) → calls block room c v s n ws ≡ calls block room c v s 0 (drop n ws)
  unfolding calls
  skips v s zero ws = refl
  skips v s (suc n) [] = refl
  skips v s (suc n) (w ∷ ws) = skips v s n ws

  one_more : (v u : Value) (s t : State) (w : Word) (ws rest : List Word)
      → is_mark (codes ".") w ≡ true → call block room c v s (w ∷ ws) ≡ Ok (u, t, rest) → IsRest ws rest
      → calls block room c v s 0 (w ∷ ws) ≡ calls block room c u t 0 rest
  unfolding calls
  one_more v u s t w ws rest dot read part = rw (dot, read) (skips u t (length ws - length rest) ws ∙ ap (calls block room c u t 0) part.last)

  one_fails : (v : Value) (s : State) (w : Word) (ws : List Word) (e : ScriptFault)
      → is_mark (codes ".") w ≡ true → call block room c v s (w ∷ ws) ≡ Err e → calls block room c v s 0 (w ∷ ws) ≡ Err e
  unfolding calls
  one_fails v s w ws e dot read = rw (dot, read) refl

  one_ends : (v : Value) (s : State) (w : Word) (ws : List Word) → is_mark (codes ".") w ≡ false → calls block room c v s 0 (w ∷ ws) ≡ all_read s (w ∷ ws) (ended (size c) v (w ∷ ws))
  unfolding calls
  one_ends v s w ws dot = rw dot refl

  pub goes_on : (v u : Value) (s t : State) (ws rest : List Word)
      → begins (codes ".") ws ≡ true → call block room c v s ws ≡ Ok (u, t, rest) → IsBehind ws rest
      → calls block room c v s 0 ws ≡ calls block room c u t 0 rest
  unfolding first_is
  goes_on v u s t [] rest dot read behind = cc
  goes_on v u s t (w ∷ ws) rest dot read behind = one_more v u s t w ws rest dot read behind.part

  pub fails : (v : Value) (s : State) (ws : List Word) (e : ScriptFault) → begins (codes ".") ws ≡ true → call block room c v s ws ≡ Err e → calls block room c v s 0 ws ≡ Err e
  unfolding first_is
  fails v s [] e dot read = cc
  fails v s (w ∷ ws) e dot read = one_fails v s w ws e dot read

  pub ends : (v : Value) (s : State) (ws : List Word) → begins (codes ".") ws ≡ false → calls block room c v s 0 ws ≡ all_read s ws (ended (size c) v ws)
  unfolding first_is calls
  ends v s [] dot = refl
  ends v s (w ∷ ws) dot = one_ends v s w ws dot
