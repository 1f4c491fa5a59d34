-- A free list, word by word.
use Rattle.std.proofs.Common.{◌≡◌, ℕ, true, false, List, [], ◌∷◌, Err, Some, None, Option, drop, IsTrue, is_some, refl, sym, ap, ◌∙◌}
use Rattle.jq_words.specs.declared.brackets.Bracket.{Bracket}
use Rattle.jq_words.specs.declared.faults.ScriptFault.{ScriptFault}
use Rattle.jq_words.specs.Words.{Word}
use Rattle.jq_words.specs.Brackets.{brackets_behind}
use Rattle.jq_words.specs.Results.{IsBehind, Began}
use Rattle.jq_words.proofs.Rests.{behind_first, behind_rest, passed}
use Rattle.jq_words.specs.FreeLists.{Rules, ends_list, cause_at, finish, free, free_from}

-- a list is read from its first word on
pub begins : (size : ℕ) (rules : Rules) (ws : List Word) → free_from size rules [] None ws ≡ free size rules ws
unfolding free
begins size rules ws = refl

one_more : (size : ℕ) (rules : Rules) (os : List Bracket) (before : Option Word) (w : Word) (ws : List Word)
    → ends_list os before w ≡ false → cause_at rules os before w ws ≡ None
    → free_from size rules os before (w ∷ ws) ≡ free_from size rules (brackets_behind os w) (Some w) ws
unfolding free_from
one_more size rules os before w ws ends cause = rw (ends, cause) refl

one_fails : (size : ℕ) (rules : Rules) (os : List Bracket) (before : Option Word) (w : Word) (ws : List Word) (e : ScriptFault)
    → ends_list os before w ≡ false → cause_at rules os before w ws ≡ Some e → free_from size rules os before (w ∷ ws) ≡ Err e
unfolding free_from
one_fails size rules os before w ws e ends cause = rw (ends, cause) refl

one_over : (size : ℕ) (rules : Rules) (os : List Bracket) (before : Option Word) (w : Word) (ws : List Word)
    → ends_list os before w ≡ true → free_from size rules os before (w ∷ ws) ≡ finish os before w.at (w ∷ ws)
unfolding free_from
one_over size rules os before w ws ends = rw ends refl

-- one word more
pub goes_on : (size : ℕ) (rules : Rules) (os : List Bracket) (before : Option Word) (w : Word) (ws : List Word)
    → ws ≡ w ∷ drop 1 ws → ends_list os before w ≡ false → cause_at rules os before w (drop 1 ws) ≡ None
    → free_from size rules os before ws ≡ free_from size rules (brackets_behind os w) (Some w) (drop 1 ws)
goes_on size rules os before w ws here ends cause = ap (free_from size rules os before) here ∙ one_more size rules os before w (drop 1 ws) ends cause

pub fails : (size : ℕ) (rules : Rules) (os : List Bracket) (before : Option Word) (w : Word) (ws : List Word) (e : ScriptFault)
    → ws ≡ w ∷ drop 1 ws → ends_list os before w ≡ false → cause_at rules os before w (drop 1 ws) ≡ Some e → free_from size rules os before ws ≡ Err e
fails size rules os before w ws e here ends cause = ap (free_from size rules os before) here ∙ one_fails size rules os before w (drop 1 ws) e ends cause

pub over : (size : ℕ) (rules : Rules) (os : List Bracket) (before : Option Word) (w : Word) (ws : List Word)
    → ws ≡ w ∷ drop 1 ws → ends_list os before w ≡ true → free_from size rules os before ws ≡ finish os before w.at ws
over size rules os before w ws here ends =
    ap (free_from size rules os before) here ∙ one_over size rules os before w (drop 1 ws) ends ∙ ap (finish os before w.at) (sym here)

pub ends : (size : ℕ) (rules : Rules) (os : List Bracket) (before : Option Word) (ws : List Word) → ws ≡ [] → free_from size rules os before ws ≡ finish os before size ws
unfolding free_from
ends size rules os before ws none = rw none refl

-- ---- how far it was read

pub began : (all : List Word) (before : Option Word) (ws : List Word) → Began all before ws → IsBehind all (drop 1 ws)
began all None ws so_far = rw so_far (passed all)
began all (Some b) ws so_far = behind_rest all ws (drop 1 ws) so_far (behind_first ws)

pub is_behind : (all : List Word) (before : Option Word) (ws : List Word) → Began all before ws → IsTrue (is_some before) → IsBehind all ws
is_behind all None ws so_far some = cc
is_behind all (Some b) ws so_far some = so_far
