-- The walk over words leads to the rows of their parts, or is refused where they are none.
use Rattle.std.proofs.Common.{◌≡◌, ℕ, Bool, true, false, List, [], ◌∷◌, Option, Some, None, refl, sym, ap, ◌∙◌}
use Rattle.std.specs.Prelude.{option_and_then, slice_get}
use Rattle.std.specs.Str.{bytes_eq, chars}
use Rattle.clap.specs.Lexer.{long_of, short_of}
use Rattle.clap.specs.Walk.{Row, Text, Walk, Waiting, idle, positional, option, used, walked, arg_by_long}
use Rattle.clap.specs.Faults.{walk_fault, turn_fault, use_fault}
use Rattle.clap.specs.Kinds.{Kinds}
use Rattle.command_words.specs.Parts.{Flag, flag_of, Key, key_name, key_of, Part, flag, given, name, State, reading, with_part, by_option, by_word, by_value, anything, value_of, names, Word, word_of}
use Rattle.command_words.proofs.Runs.{shape, rule_flag, rule_key, Hold, none, one, word, unfilled, use_hold, use_part, use_all, gate, at, got, wanted, wanted_behind}
use Rattle.command_words.proofs.TurnLemmas.{gate_same, settle_is, got_more, none_after, then_then, with_part_is, Looks, as_dashes, as_long, as_dashed, as_bare, looks, waits, rest_of, IsTurn, turn_name, turn_bare, turn_dashes, rule_of, long_rule, react_is, uses_flag, uses_key, turn_flag, turn_given, turn_key, unknown_refused, flag_refused, dashed_refused, value_bare, value_dashes, value_flag, value_given, value_key, or_else_nil}

-- each word that begins with one hyphen spells a character behind it, as text does
pub record IsSpelt (w : Text) : Type 0 where
  pub spelt : (x : ℕ) (xs : Text) → short_of w ≡ Some (x ∷ xs) → (c : ℕ) × (slice_get (chars (x ∷ xs)) 0 ≡ Some c)

pub data AreSpelt : List Text → Type 0 where
  end : AreSpelt []
  more : (w : Text) (ws : List Text) → IsSpelt w → AreSpelt ws → AreSpelt (w ∷ ws)

then_same : {X Y : Type 0} (o : Option X) (f g : X → Option Y) → ((x : X) → f x ≡ g x) → option_and_then f o ≡ option_and_then g o
then_same None f g same = refl
then_same (Some x) f g same = same x

-- ---- steps of the walk

-- a part is used at once
part_step : (w : Walk) (x : Text) (ws : List Text) (next : List Row) (rows : List Row) (hold : Hold) (s t : State) (p : Part) (after : Walk) (faults : Kinds)
    → IsTurn w x faults after → gate faults next ≡ option_and_then (λ r. use_part r p) (use_hold rows hold) → got after ws ≡ wanted t ws next → reading s (x ∷ ws) ≡ with_part p (reading t ws)
    → got w (x ∷ ws) ≡ wanted_behind s (x ∷ ws) rows hold
part_step w x ws next rows hold s t p after faults turn gated ih read =
    got_more w x ws next
    ∙ ap (λ z. option_and_then (λ r. got z ws) (gate (turn_fault shape [] w x) next)) turn.1
    ∙ ap (λ z. option_and_then (λ r. got after ws) (gate z next)) turn.0
    ∙ ap (λ z. option_and_then (λ r. z) (gate faults next)) ih
    ∙ gate_same faults next (wanted t ws)
    ∙ ap (option_and_then (wanted t ws)) gated
    ∙ then_then (use_hold rows hold) (λ r. use_part r p) (wanted t ws)
    ∙ then_same (use_hold rows hold) (λ r. option_and_then (wanted t ws) (use_part r p)) (wanted s (x ∷ ws))
    (λ r. sym (ap (option_and_then (λ ps. use_all ps r)) read ∙ with_part_is p (reading t ws) r))

-- a name waits to be used
name_step : (w : Walk) (x : Text) (ws : List Text) (rows : List Row) (hold : Hold) (s t : State) (p : Part) (after : Walk) (faults : Kinds) (next : List Row) (held : Hold)
    → IsTurn w x faults after → gate faults next ≡ use_hold rows hold → got after ws ≡ option_and_then (wanted t ws) (use_part next p) → reading s (x ∷ ws) ≡ with_part p (reading t ws)
    → got w (x ∷ ws) ≡ wanted_behind s (x ∷ ws) rows hold
name_step w x ws rows hold s t p after faults next held turn gated ih read =
    got_more w x ws next
    ∙ ap (λ z. option_and_then (λ r. got z ws) (gate (turn_fault shape [] w x) next)) turn.1
    ∙ ap (λ z. option_and_then (λ r. got after ws) (gate z next)) turn.0
    ∙ ap (λ z. option_and_then (λ r. z) (gate faults next)) ih
    ∙ gate_same faults next (λ r. option_and_then (wanted t ws) (use_part r p))
    ∙ ap (option_and_then (λ r. option_and_then (wanted t ws) (use_part r p))) gated
    ∙ then_same (use_hold rows hold) (λ r. option_and_then (wanted t ws) (use_part r p)) (wanted s (x ∷ ws))
    (λ r. sym (ap (option_and_then (λ ps. use_all ps r)) read ∙ with_part_is p (reading t ws) r))

refused_step : (w : Walk) (x : Text) (ws : List Text) (rows : List Row) (hold : Hold) (s : State) → gate (turn_fault shape [] w x) rows ≡ None → reading s (x ∷ ws) ≡ None
    → got w (x ∷ ws) ≡ wanted_behind s (x ∷ ws) rows hold
refused_step w x ws rows hold s refused read =
    got_more w x ws rows ∙ ap (option_and_then (λ r. got (walked shape.rules [] w x) ws)) refused
    ∙ sym (then_same (use_hold rows hold) (wanted s (x ∷ ws)) (λ r. None) (λ r. ap (option_and_then (λ ps. use_all ps r)) read) ∙ none_after (use_hold rows hold))

-- ---- after `--`

all_used : (o : Option (List Row)) → option_and_then (λ r. Some r) o ≡ o
all_used None = refl
all_used (Some r) = refl

pub names_walk : (n : Waiting) (ws : List Text) (rows : List Row) (hold : Hold) → got (at true n rows hold) ws ≡ wanted_behind names ws rows hold
unfolding walk_fault reading
names_walk n [] rows hold = settle_is rows hold ∙ sym (all_used (use_hold rows hold))
names_walk n (x ∷ ws) rows hold =
    name_step (at true n rows hold) x ws rows hold names names (name x) (at true positional (rest_of rows hold) (word x)) _ (rest_of rows hold) (word x)
    (turn_name n x rows hold) (settle_is rows hold) (names_walk positional ws (rest_of rows hold) (word x)) refl

-- ---- before `--`

-- the next state goes on with what is settled
state_step : (w : Walk) (x : Text) (ws : List Text) (rows : List Row) (hold : Hold) (s t : State) (after : Walk) (faults : Kinds) (next : List Row)
    → IsTurn w x faults after → gate faults next ≡ use_hold rows hold → got after ws ≡ wanted t ws next → reading s (x ∷ ws) ≡ reading t ws
    → got w (x ∷ ws) ≡ wanted_behind s (x ∷ ws) rows hold
state_step w x ws rows hold s t after faults next turn gated ih read =
    got_more w x ws next
    ∙ ap (λ z. option_and_then (λ r. got z ws) (gate (turn_fault shape [] w x) next)) turn.1
    ∙ ap (λ z. option_and_then (λ r. got after ws) (gate z next)) turn.0
    ∙ ap (λ z. option_and_then (λ r. z) (gate faults next)) ih
    ∙ gate_same faults next (wanted t ws)
    ∙ ap (option_and_then (wanted t ws)) gated
    ∙ then_same (use_hold rows hold) (wanted t ws) (wanted s (x ∷ ws)) (λ r. sym (ap (option_and_then (λ ps. use_all ps r)) read))

abbrev IsFree : List Text → Type 0
IsFree ws = (b : Bool) (rows : List Row) (hold : Hold) → got (at false (waits b) rows hold) ws ≡ wanted_behind anything ws rows hold

abbrev IsValued : List Text → Type 0
IsValued ws = (k : Key) (rows : List Row) → got (at false (option (key_name k)) rows (unfilled k)) ws ≡ wanted (value_of k) ws rows

module _ (x : Text) (ws : List Text) (free : IsFree ws) (valued : IsValued ws) where
  long_more : (b : Bool) (rows : List Row) (hold : Hold) (n : Text) (v : Option Text) → bytes_eq x (45 ∷ 45 ∷ []) ≡ false → long_of x ≡ Some (n, v)
      → (p : Option Flag) (k : Option Key) → arg_by_long shape.rules n ≡ rule_of p k
      → reading anything (x ∷ ws) ≡ by_option (λ s. reading s ws) p k v
      → got (at false (waits b) rows hold) (x ∷ ws) ≡ wanted_behind anything (x ∷ ws) rows hold
  long_more b rows hold n None d l (Some g) k found read =
      let next : List Row = used (rule_flag g) [] (rest_of rows hold) in
      part_step (at false (waits b) rows hold) x ws next rows hold anything anything (flag g) (at false idle next none) _ (turn_flag b x n g rows hold d l found)
      (react_is rows hold (use_fault false (rule_flag g) [] (rest_of rows hold)) next (flag g) (uses_flag g (rest_of rows hold))) (free true next none) read
  long_more b rows hold n (Some u) d l (Some g) k found read = refused_step (at false (waits b) rows hold) x ws rows hold anything (flag_refused (waits b) x n u g rows rows hold d l found) read
  long_more b rows hold n v d l None None found read = refused_step (at false (waits b) rows hold) x ws rows hold anything (unknown_refused (waits b) x n v rows rows hold d l found) read
  long_more b rows hold n (Some u) d l None (Some k) found read =
      let next : List Row = used (rule_key k) (u ∷ []) (rest_of rows hold) in
      part_step (at false (waits b) rows hold) x ws next rows hold anything anything (given k u) (at false idle next none) _ (turn_given b x n u k rows hold d l found)
      (react_is rows hold (use_fault false (rule_key k) (u ∷ []) (rest_of rows hold)) next (given k u) (uses_key k u (rest_of rows hold))) (free true next none) read
  long_more b rows hold n None d l None (Some k) found read =
      state_step (at false (waits b) rows hold) x ws rows hold anything (value_of k) (at false (option (key_name k)) (rest_of rows hold) (unfilled k)) _ (rest_of rows hold)
      (turn_key b x n k rows hold d l found) (ap (λ z. gate z (rest_of rows hold)) (or_else_nil _) ∙ settle_is rows hold) (valued k (rest_of rows hold)) read

  free_more : (b : Bool) (rows : List Row) (hold : Hold) → IsSpelt x → (o : Word) → Looks x o → reading anything (x ∷ ws) ≡ by_word (λ s. reading s ws) o x
      → got (at false (waits b) rows hold) (x ∷ ws) ≡ wanted_behind anything (x ∷ ws) rows hold
  free_more b rows hold spelt _ (as_dashes d) read =
      got_more (at false (waits b) rows hold) x ws rows
      ∙ ap (λ z. option_and_then (λ r. got z ws) (gate (turn_fault shape [] (at false (waits b) rows hold) x) rows)) (turn_dashes b x rows hold d).1
      ∙ ap (λ z. option_and_then (λ r. got (at true (waits b) rows hold) ws) (gate z rows)) (turn_dashes b x rows hold d).0
      ∙ names_walk (waits b) ws rows hold
      ∙ then_same (use_hold rows hold) (wanted names ws) (wanted anything (x ∷ ws)) (λ r. sym (ap (option_and_then (λ ps. use_all ps r)) read))
  free_more b rows hold spelt _ (as_long n v d l) read =
      long_more b rows hold n v d l (flag_of n) (key_of n) (long_rule n) read
  free_more b rows hold spelt _ (as_dashed y ys d l s) read =
      refused_step (at false (waits b) rows hold) x ws rows hold anything (dashed_refused (waits b) x y ys (spelt.spelt y ys s).0 rows rows hold d l s (spelt.spelt y ys s).1) read
  free_more b rows hold spelt _ (as_bare d l s) read =
      name_step (at false (waits b) rows hold) x ws rows hold anything anything (name x) (at false positional (rest_of rows hold) (word x)) _ (rest_of rows hold) (word x)
      (turn_bare b x rows hold d l s) (settle_is rows hold) (free false (rest_of rows hold) (word x)) read

  -- where the walk is refused, and the words are no parts
  value_refused : (k : Key) (rows : List Row) → gate (turn_fault shape [] (at false (option (key_name k)) rows (unfilled k)) x) rows ≡ None → reading (value_of k) (x ∷ ws) ≡ None
      → got (at false (option (key_name k)) rows (unfilled k)) (x ∷ ws) ≡ wanted (value_of k) (x ∷ ws) rows
  value_refused k rows refused read =
      got_more (at false (option (key_name k)) rows (unfilled k)) x ws rows ∙ ap (option_and_then (λ r. got (walked shape.rules [] (at false (option (key_name k)) rows (unfilled k)) x) ws)) refused
      ∙ sym (ap (option_and_then (λ ps. use_all ps rows)) read)

  value_long : (k : Key) (rows : List Row) (n : Text) (v : Option Text) → bytes_eq x (45 ∷ 45 ∷ []) ≡ false → long_of x ≡ Some (n, v)
      → (p : Option Flag) (j : Option Key) → arg_by_long shape.rules n ≡ rule_of p j
      → gate (turn_fault shape [] (at false (option (key_name k)) rows (unfilled k)) x) rows ≡ None
  value_long k rows n None d l (Some g) j found = value_flag k g x n rows rows d l found
  value_long k rows n (Some u) d l (Some g) j found = flag_refused (option (key_name k)) x n u g rows rows (unfilled k) d l found
  value_long k rows n v d l None None found = unknown_refused (option (key_name k)) x n v rows rows (unfilled k) d l found
  value_long k rows n (Some u) d l None (Some j) found = value_given k j x n u rows rows d l found
  value_long k rows n None d l None (Some j) found = value_key k j x n rows rows d l found

  value_more : (k : Key) (rows : List Row) → IsSpelt x → (o : Word) → Looks x o → reading (value_of k) (x ∷ ws) ≡ by_value k o x (reading anything ws)
      → got (at false (option (key_name k)) rows (unfilled k)) (x ∷ ws) ≡ wanted (value_of k) (x ∷ ws) rows
  value_more k rows spelt _ (as_dashes d) read =
      got_more (at false (option (key_name k)) rows (unfilled k)) x ws rows
      ∙ ap (λ z. option_and_then (λ r. got z ws) (gate (turn_fault shape [] (at false (option (key_name k)) rows (unfilled k)) x) rows)) (value_dashes k x rows d).1
      ∙ ap (λ z. option_and_then (λ r. got (at true (option (key_name k)) rows (unfilled k)) ws) (gate z rows)) (value_dashes k x rows d).0
      ∙ names_walk (option (key_name k)) ws rows (unfilled k)
      ∙ sym (ap (option_and_then (λ ps. use_all ps rows)) read)
  value_more k rows spelt _ (as_long n v d l) read = value_refused k rows (value_long k rows n v d l (flag_of n) (key_of n) (long_rule n)) read
  value_more k rows spelt _ (as_dashed y ys d l s) read =
      value_refused k rows (dashed_refused (option (key_name k)) x y ys (spelt.spelt y ys s).0 rows rows (unfilled k) d l s (spelt.spelt y ys s).1) read
  value_more k rows spelt _ (as_bare d l s) read =
      got_more (at false (option (key_name k)) rows (unfilled k)) x ws rows
      ∙ ap (λ z. option_and_then (λ r. got z ws) (gate (turn_fault shape [] (at false (option (key_name k)) rows (unfilled k)) x) rows)) (value_bare k x rows d l s).1
      ∙ ap (λ z. option_and_then (λ r. got (at false idle rows (one k x)) ws) (gate z rows)) (value_bare k x rows d l s).0
      ∙ free true rows (one k x)
      ∙ sym (ap (option_and_then (λ ps. use_all ps rows)) read ∙ with_part_is (given k x) (reading anything ws) rows)

pub walks : (ws : List Text) → AreSpelt ws → IsFree ws × IsValued ws
unfolding walk_fault reading
walks [] spelt = (λ b rows hold. settle_is rows hold ∙ sym (all_used (use_hold rows hold)), λ k rows. settle_is rows (unfilled k))
walks (x ∷ ws) (more _ _ here spelt) =
    let behind = walks ws spelt in
    (λ b rows hold. free_more x ws behind.0 behind.1 b rows hold here (word_of x) (looks x) refl, λ k rows. value_more x ws behind.0 behind.1 k rows here (word_of x) (looks x) refl)
