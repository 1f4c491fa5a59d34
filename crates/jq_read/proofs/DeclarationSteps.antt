-- Declarations, each behind a comma.
use Rattle.std.proofs.Common.{◌≡◌, ℕ, zero, suc, ◌-◌, true, false, List, [], ◌∷◌, length, drop, Option, Ok, Err, refl, ap, ◌∙◌, codes}
use Rattle.jq_words.specs.declared.faults.ScriptFault.{ScriptFault}
use Rattle.jq_words.specs.Words.{Word, is_mark, begins, first_is, want_name}
use Rattle.jq_words.specs.Results.{IsRest, IsBehind}
use Rattle.jq_words.proofs.Rests.{is_rest}
use Rattle.jq_read.specs.States.{Context, State, size}
use Rattle.jq_parts.specs.Bindings.{Value, under_bound}
use Rattle.jq_parts.specs.Scopes.{Handler, places_of}
use Rattle.jq_read.specs.Statements.{Blocks, with_declaration, value_behind, one, more_ones}

module _ (blocks : Blocks) (room : ℕ) (c : Context) where
  pub one_reads : (s t u : State) (ws behind rest : List Word) (name : List ℕ) (v : Option Value) (hs : List Handler)
      → want_name (size c) ws ≡ Ok (name, behind) → value_behind blocks room c s behind ≡ Ok (v, t, rest) → places_of hs ≡ places_of c.handlers
      → u ≡ with_declaration (record { name = name; value = v; under = under_bound v (places_of hs) }) t → one blocks room c s ws ≡ Ok (u, rest)
  unfolding one
  one_reads s t u ws behind rest name v hs named valued same is = rw (named, valued, is, same) refl

  -- the words that are left of a declaration are passed over
  skips : (s : State) (n : ℕ) (ws : List Word) → more_ones blocks room c s n ws ≡ more_ones blocks room c s 0 (drop n ws)
  unfolding more_ones
  skips s zero ws = refl
  skips s (suc n) [] = refl
  skips s (suc n) (w ∷ ws) = skips s n ws

  one_more : (s t : State) (w : Word) (ws rest : List Word)
      → is_mark (codes ",") w ≡ true → one blocks room c s ws ≡ Ok (t, rest) → IsRest ws rest → more_ones blocks room c s 0 (w ∷ ws) ≡ more_ones blocks room c t 0 rest
  unfolding more_ones
  one_more s t w ws rest comma read part = rw (comma, read) (skips t (length ws - length rest) ws ∙ ap (more_ones blocks room c t 0) part.last)

  one_fails : (s : State) (w : Word) (ws : List Word) (e : ScriptFault)
      → is_mark (codes ",") w ≡ true → one blocks room c s ws ≡ Err e → more_ones blocks room c s 0 (w ∷ ws) ≡ Err e
  unfolding more_ones
  one_fails s w ws e comma read = rw (comma, read) refl

  one_ends : (s : State) (w : Word) (ws : List Word) → is_mark (codes ",") w ≡ false → more_ones blocks room c s 0 (w ∷ ws) ≡ Ok (s, w ∷ ws)
  unfolding more_ones
  one_ends s w ws comma = rw comma refl

  pub goes_on : (s t : State) (ws rest : List Word)
      → begins (codes ",") ws ≡ true → one blocks room c s (drop 1 ws) ≡ Ok (t, rest) → IsBehind (drop 1 ws) rest → more_ones blocks room c s 0 ws ≡ more_ones blocks room c t 0 rest
  unfolding first_is
  goes_on s t [] rest comma read behind = cc
  goes_on s t (w ∷ ws) rest comma read behind = one_more s t w ws rest comma read (is_rest ws rest behind)

  pub fails : (s : State) (ws : List Word) (e : ScriptFault) → begins (codes ",") ws ≡ true → one blocks room c s (drop 1 ws) ≡ Err e → more_ones blocks room c s 0 ws ≡ Err e
  unfolding first_is
  fails s [] e comma read = cc
  fails s (w ∷ ws) e comma read = one_fails s w ws e comma read

  pub ends : (s : State) (ws : List Word) → begins (codes ",") ws ≡ false → more_ones blocks room c s 0 ws ≡ Ok (s, ws)
  unfolding first_is more_ones
  ends s [] comma = refl
  ends s (w ∷ ws) comma = one_ends s w ws comma
