-- A sequence of statements, turn by turn, as the grammar reads it; and blocks.
use Rattle.std.proofs.Common.{◌≡◌, ℕ, zero, suc, ◌+◌, ◌-◌, ◌<◌, ◌≤◌, ◌==◌, ◌&&◌, ◌||◌, not, Bool, true, false, if◌then◌else◌, List, [], ◌∷◌, length, drop, Result, Ok, Err, refl, sym, ap, ◌∙◌, subst, codes, arith}
use Rattle.std.specs.List.{AllByRecursion}
use Rattle.tp_base.proofs.Truths.{and_true, and_false, or_false, or_true, suc_not_zero}
use Rattle.jq_words.specs.declared.faults.ScriptFault.{ScriptFault}
use Rattle.jq_words.specs.declared.faults.ScriptFault.TheVariants.{UnknownForm}
use Rattle.jq_words.specs.Words.{Word, Outcome, ◌>>=◌, is_mark, begins_name, want_open}
use Rattle.jq_words.specs.Results.{Leaves, IsRest, IsBehind}
use Rattle.jq_words.proofs.Rests.{of_rest, is_rest, shorter}
use Rattle.jq_read.specs.States.{Context, State, size}
use Rattle.jq_read.specs.Statements.{Blocks, form_at, is_branch, statement_as, statement, closes, sequence, braces, no_block, block}
use Rattle.jq_read.specs.declared.sequences.Between.{Between}
use Rattle.jq_read.specs.Sequences.{begin, goes_else, behind_statement, and_between, is_over, turn, at_file_end}

-- ---- outcomes

bound : {A B C : Type 0} (o : Outcome A) (f : A → Outcome B) (g : B → Outcome C) → ((o >>= f) >>= g) ≡ (o >>= λ x. f x >>= g)
bound (Ok x) f g = refl
bound (Err e) f g = refl

abbrev what_is_left : Between × State × List Word → State × List Word
what_is_left t = (t.1, t.2)

abbrev or_this : {A : Type 0} → Outcome A → A → A
or_this (Ok x) y = x
or_this (Err e) y = y

abbrev fault_or : {A : Type 0} → Outcome A → ScriptFault → ScriptFault
fault_or (Ok x) f = f
fault_or (Err e) f = e

-- what is read, and the words behind it
abbrev pub Reading : Type 0
Reading = Outcome (State × List Word)

turned : (o : Reading) (g : Bool) (b e : Between) (t : State) (rest : List Word) → (o >>= λ r. Ok (and_between g b r)) ≡ Ok (e, t, rest)
    → (r : State × List Word) × (o ≡ Ok r) × (and_between g b r ≡ (e, t, rest))
turned (Ok r) g b e t rest is = (r, refl, ap (λ o. or_this o (e, t, rest)) is)
turned (Err f) g b e t rest is = cc

not_turned : (o : Reading) (g : Bool) (b : Between) (e : ScriptFault) → (o >>= λ r. Ok (and_between g b r)) ≡ Err e → o ≡ Err e
not_turned (Ok r) g b e is = cc
not_turned (Err f) g b e is = ap (λ o. Err (fault_or o e)) is

-- ---- what stands between two statements

no_more : (b : Between) (ws : List Word) → begins_name (codes "else") ws ≡ false → goes_else b ws ≡ false
no_more b ws none = rw none (and_false (not (b.ifs == 0)))

none_open : (b : Between) (ws : List Word) → b.ifs ≡ 0 → goes_else b ws ≡ false
none_open b ws none = rw none refl

some_open : (n : ℕ) (b : Between) (ws : List Word) → b.ifs ≡ suc n → begins_name (codes "else") ws ≡ true → goes_else b ws ≡ true
some_open n b ws some goes = rw (some, suc_not_zero n, goes) refl

stays : (b : Between) (r : State × List Word) → goes_else b r.1 ≡ false → and_between false b r ≡ (begin, r.0, r.1)
stays b r none = rw none refl

goes : (b : Between) (r : State × List Word) → goes_else b r.1 ≡ true → and_between false b r ≡ (record { wanted = true; ifs = b.ifs - 1 }, r.0, drop 1 r.1)
goes b r some = rw some refl

-- ---- how many branches are open

no_more_ifs : (h : Bool) (b : Between) (ws : List Word) → goes_else b ws ≡ h → (behind_statement b ws).ifs ≤ b.ifs + 1
no_more_ifs true b ws is = rw is (omega arith)
no_more_ifs false b ws is = rw is (omega arith)

one_more_if : (g : Bool) (b : Between) (r : State × List Word) → (and_between g b r).0.ifs ≤ b.ifs + 1
one_more_if true b r = omega arith
one_more_if false b r = no_more_ifs (goes_else b r.1) b r.1 refl

-- Those that are open and the words that are left are together no more than the words of the sequence, so that they can be counted. It is
-- said of what can be counted, since that the words can be is known when the first one is read.
abbrev pub AreCounted : Between → List Word → Type 0
AreCounted b ws = length ws ≤ 18446744073709551615 → b.ifs + length ws ≤ 18446744073709551615

pub none_counted : (ws : List Word) → AreCounted begin ws
none_counted ws = λ few. omega (arith, few)

pub one_fits : (b : Between) (w : Word) (ws : List Word) → ws ≡ w ∷ drop 1 ws → length ws ≤ 18446744073709551615 → AreCounted b ws → b.ifs < 18446744073709551615
one_fits b w ws here few counted = let some : length ws ≡ suc (length (drop 1 ws)) = ap length here in omega (arith, some, counted few)

module _ (in_block : Bool) (blocks : Blocks) (room : ℕ) (c : Context) where
  pub still_counted : (b e : Between) (s t : State) (w : Word) (ws rest : List Word)
      → ws ≡ w ∷ drop 1 ws → length ws ≤ 18446744073709551615 → turn blocks room c b s ws ≡ Ok (e, t, rest) → IsBehind ws rest → AreCounted b ws → AreCounted e rest
  unfolding turn
  still_counted b e s t w ws rest here few read behind counted =
      let found = turned (statement_as (form_at s ws) blocks room c s ws) (is_branch (form_at s ws)) b e t rest read in
      let more : (and_between (is_branch (form_at s ws)) b found.0).0.ifs ≤ b.ifs + 1 = one_more_if (is_branch (form_at s ws)) b found.0 in
      let is : (and_between (is_branch (form_at s ws)) b found.0).0.ifs ≡ e.ifs = ap (λ (x : Between × State × List Word). x.0.ifs) found.2 in
      λ fewer. omega (arith, shorter ws rest w here behind, counted few, more, is)

  -- ---- words that are left are passed over

  statement_skips : (s : State) (n : ℕ) (ws : List Word) → statement blocks room c s n ws ≡ statement blocks room c s 0 (drop n ws)
  unfolding statement
  statement_skips s zero ws = refl
  statement_skips s (suc n) [] = refl
  statement_skips s (suc n) (w ∷ ws) = statement_skips s n ws

  skips : (s : State) (n : ℕ) (ws : List Word) → sequence in_block blocks room c s n ws ≡ sequence in_block blocks room c s 0 (drop n ws)
  unfolding sequence
  skips s zero ws = refl
  skips s (suc n) [] = refl
  skips s (suc n) (w ∷ ws) = skips s n ws

  statement_from : (s : State) (all rest : List Word) → IsRest all rest → statement blocks room c s (length all - length rest) all ≡ statement blocks room c s 0 rest
  statement_from s all rest part = statement_skips s (length all - length rest) all ∙ ap (statement blocks room c s 0) part.last

  sequence_from : (s : State) (all rest : List Word) → IsRest all rest → sequence in_block blocks room c s (length all - length rest) all ≡ sequence in_block blocks room c s 0 rest
  sequence_from s all rest part = skips s (length all - length rest) all ∙ ap (sequence in_block blocks room c s 0) part.last

  -- ---- what the grammar reads on behind a statement

  -- of a branch behind whose first word these words stand: its `else`
  abbrev pub and_else : List Word → State × List Word → Reading
  and_else ws r = if begins_name (codes "else") r.1 then statement blocks room c r.0 (length ws - length (drop 1 r.1)) ws else Ok r

  -- those of some branches, the innermost first, and then the sequence behind the statement behind whose first word others stand
  abbrev pub behind : List Word → List (List Word) → State × List Word → Reading
  behind top [] r = sequence in_block blocks room c r.0 (length top - length r.1) top
  behind top (f ∷ fs) r = and_else f r >>= behind top fs

  abbrev pub AreBefore : List (List Word) → List Word → Type 0
  AreBefore fs ws = AllByRecursion (λ f. IsRest f ws) fs

  -- Reading on from here gives all: between two statements; or where one is wanted, in a statement and in the branches that are open.
  pub data ReadsOn (b : Between) (s : State) (ws : List Word) (all : Reading) : Type 0 where
    between_two : b ≡ begin → sequence in_block blocks room c s 0 ws ≡ all → ReadsOn b s ws all
    in_statement : (top : List Word) (fs : List (List Word)) → b ≡ record { wanted = true; ifs = length fs } → IsRest top ws → AreBefore fs ws
        → (statement blocks room c s 0 ws >>= behind top fs) ≡ all → ReadsOn b s ws all

  branch_reads : (s t : State) (w : Word) (ws rest : List Word)
      → is_branch (form_at s (w ∷ ws)) ≡ true → statement_as (form_at s (w ∷ ws)) blocks room c s (w ∷ ws) ≡ Ok (t, rest) → IsRest ws rest
      → statement blocks room c s 0 (w ∷ ws) ≡ (statement blocks room c t 0 rest >>= and_else ws)
  unfolding statement
  branch_reads s t w ws rest is read part = rw (read, is) (ap (λ o. o >>= and_else ws) (statement_from t ws rest part))

  other_reads : (s t : State) (w : Word) (ws rest : List Word)
      → is_branch (form_at s (w ∷ ws)) ≡ false → statement_as (form_at s (w ∷ ws)) blocks room c s (w ∷ ws) ≡ Ok (t, rest) → statement blocks room c s 0 (w ∷ ws) ≡ Ok (t, rest)
  unfolding statement
  other_reads s t w ws rest is read = rw (read, is) refl

  no_else : (top : List Word) (fs : List (List Word)) (t : State) (rest : List Word) → begins_name (codes "else") rest ≡ false → IsRest top rest
      → behind top fs (t, rest) ≡ sequence in_block blocks room c t 0 rest
  no_else top [] t rest none part = sequence_from t top rest part
  no_else top (f ∷ fs) t rest none part = rw none (no_else top fs t rest none part)

  -- ---- one turn

  read_branch : (top : List Word) (fs : List (List Word)) (b e : Between) (s t : State) (w : Word) (ws rest : List Word) (all : Reading) (r : State × List Word)
      → b.ifs ≡ length fs → is_branch (form_at s (w ∷ ws)) ≡ true → statement_as (form_at s (w ∷ ws)) blocks room c s (w ∷ ws) ≡ Ok r → and_between true b r ≡ (e, t, rest)
      → IsRest ws rest → IsRest top rest → AreBefore fs rest → (statement blocks room c s 0 (w ∷ ws) >>= behind top fs) ≡ all → ReadsOn e t rest all
  read_branch top fs b e s t w ws rest all r count branches read is part here before whole =
      let one_more : b.ifs + 1 ≡ suc (length fs) = omega (arith, count) in
      let left : r ≡ (t, rest) = ap what_is_left is in
      in_statement top (ws ∷ fs) (sym (ap (λ x. x.0) is) ∙ ap (λ n. record { wanted = true; ifs = n }) one_more) here (part, before)
      (sym (bound (statement blocks room c t 0 rest) (and_else ws) (behind top fs))
      ∙ ap (λ o. o >>= behind top fs) (sym (branch_reads s t w ws rest branches (read ∙ ap (λ x. Ok x) left) part)) ∙ whole)

  read_other : (h : Bool) (top : List Word) (fs : List (List Word)) (b e : Between) (t : State) (rest : List Word) (all : Reading) (r : State × List Word)
      → begins_name (codes "else") r.1 ≡ h → b.ifs ≡ length fs → and_between false b r ≡ (e, t, rest) → IsRest top rest → AreBefore fs rest
      → behind top fs r ≡ all → ReadsOn e t rest all
  read_other false top fs b e t rest all r none count is here before whole =
      let same = sym (stays b r (no_more b r.1 none)) ∙ is in
      let left : r ≡ (t, rest) = ap what_is_left same in
      between_two (sym (ap (λ x. x.0) same))
      (sym (no_else top fs t rest (sym (ap (λ (x : State × List Word). begins_name (codes "else") x.1) left) ∙ none) here) ∙ sym (ap (behind top fs) left) ∙ whole)
  read_other true top [] b e t rest all r some count is here before whole =
      let same = sym (stays b r (none_open b r.1 count)) ∙ is in
      let left : r ≡ (t, rest) = ap what_is_left same in
      between_two (sym (ap (λ x. x.0) same)) (sym (sequence_from t top rest here) ∙ sym (ap (behind top []) left) ∙ whole)
  read_other true top (f ∷ fs) b e t rest all r some count is here before whole =
      let same = sym (goes b r (some_open (length fs) b r.1 count some)) ∙ is in
      let left : ◌≡◌ {A = State × List Word} (r.0, drop 1 r.1) (t, rest) = ap what_is_left same in
      let one_less : b.ifs - 1 ≡ length fs = omega (arith, count) in
      let else_read : and_else f r ≡ statement blocks room c t 0 rest =
      rw some (ap (λ (x : State × List Word). statement blocks room c x.0 (length f - length x.1) f) left ∙ statement_from t f rest before.0) in
      in_statement top fs (sym (ap (λ x. x.0) same) ∙ ap (λ n. record { wanted = true; ifs = n }) one_less) here before.1 (ap (λ o. o >>= behind top fs) (sym else_read) ∙ whole)

  one_turn : (g : Bool) (top : List Word) (fs : List (List Word)) (b e : Between) (s t : State) (w : Word) (ws rest : List Word) (all : Reading) (r : State × List Word)
      → b.ifs ≡ length fs → is_branch (form_at s (w ∷ ws)) ≡ g → statement_as (form_at s (w ∷ ws)) blocks room c s (w ∷ ws) ≡ Ok r → and_between g b r ≡ (e, t, rest)
      → IsRest ws rest → IsRest top rest → AreBefore fs rest → (statement blocks room c s 0 (w ∷ ws) >>= behind top fs) ≡ all → ReadsOn e t rest all
  one_turn true top fs b e s t w ws rest all r count branches read is part here before whole = read_branch top fs b e s t w ws rest all r count branches read is part here before whole
  one_turn false top fs b e s t w ws rest all r count none read is part here before whole =
      read_other (begins_name (codes "else") r.1) top fs b e t rest all r refl count is here before (ap (λ o. o >>= behind top fs) (sym (other_reads s r.0 w ws r.1 none read)) ∙ whole)

  any_turn : (top : List Word) (fs : List (List Word)) (b e : Between) (s t : State) (w : Word) (ws rest : List Word) (all : Reading)
      → b.ifs ≡ length fs → turn blocks room c b s (w ∷ ws) ≡ Ok (e, t, rest) → IsRest ws rest → IsRest top rest → AreBefore fs rest
      → (statement blocks room c s 0 (w ∷ ws) >>= behind top fs) ≡ all → ReadsOn e t rest all
  unfolding turn
  any_turn top fs b e s t w ws rest all count is part here before whole =
      let found = turned (statement_as (form_at s (w ∷ ws)) blocks room c s (w ∷ ws)) (is_branch (form_at s (w ∷ ws))) b e t rest is in
      one_turn (is_branch (form_at s (w ∷ ws))) top fs b e s t w ws rest all found.0 count refl found.1 found.2 part here before whole

  -- between two statements

  one_statement : (s : State) (w : Word) (ws : List Word) → closes in_block w ≡ false → sequence in_block blocks room c s 0 (w ∷ ws) ≡ (statement blocks room c s 0 (w ∷ ws) >>= behind ws [])
  unfolding sequence
  one_statement s w ws on = rw on refl

  open_here : (b : Between) (w : Word) → b ≡ begin → is_over in_block b w ≡ closes in_block w
  unfolding is_over
  open_here b w is = ap (λ (x : Between). is_over in_block x w) is ∙ ap (λ h. h && is_mark (codes "}") w) (and_true in_block)

  all_before : (fs : List (List Word)) (ws rest : List Word) → AreBefore fs ws → IsRest ws rest → AreBefore fs rest
  all_before [] ws rest before part = tt
  all_before (f ∷ fs) ws rest before part = (of_rest f ws rest before.0 part, all_before fs ws rest before.1 part)

  one_more : (b e : Between) (s t : State) (w : Word) (ws rest : List Word) (all : Reading) → ReadsOn b s (w ∷ ws) all
      → is_over in_block b w ≡ false → turn blocks room c b s (w ∷ ws) ≡ Ok (e, t, rest) → IsRest ws rest → IsRest (w ∷ ws) rest → ReadsOn e t rest all
  one_more b e s t w ws rest all (between_two is whole) on read part later =
      any_turn ws [] b e s t w ws rest all (ap (λ (x : Between). x.ifs) is) read part part tt (sym (one_statement s w ws (sym (open_here b w is) ∙ on)) ∙ whole)
  one_more b e s t w ws rest all (in_statement top fs is here before whole) on read part later =
      any_turn top fs b e s t w ws rest all (ap (λ (x : Between). x.ifs) is) read part (of_rest top (w ∷ ws) rest here later) (all_before fs (w ∷ ws) rest before later) whole

  statement_fails : (s : State) (w : Word) (ws : List Word) (e : ScriptFault) (b : Between) → turn blocks room c b s (w ∷ ws) ≡ Err e → statement blocks room c s 0 (w ∷ ws) ≡ Err e
  unfolding turn statement
  statement_fails s w ws e b is = rw (not_turned (statement_as (form_at s (w ∷ ws)) blocks room c s (w ∷ ws)) (is_branch (form_at s (w ∷ ws))) b e is) refl

  one_fails : (b : Between) (s : State) (w : Word) (ws : List Word) (e : ScriptFault) (all : Reading) → ReadsOn b s (w ∷ ws) all
      → is_over in_block b w ≡ false → turn blocks room c b s (w ∷ ws) ≡ Err e → all ≡ Err e
  one_fails b s w ws e all (between_two is whole) on read =
      sym whole ∙ one_statement s w ws (sym (open_here b w is) ∙ on) ∙ ap (λ o. o >>= behind ws []) (statement_fails s w ws e b read)
  one_fails b s w ws e all (in_statement top fs is here before whole) on read = sym whole ∙ ap (λ o. o >>= behind top fs) (statement_fails s w ws e b read)

  closed_here : (s : State) (w : Word) (ws : List Word) → closes in_block w ≡ true → sequence in_block blocks room c s 0 (w ∷ ws) ≡ Ok (s, w ∷ ws)
  unfolding sequence
  closed_here s w ws over = rw over refl

  one_over : (b : Between) (s : State) (w : Word) (ws : List Word) (all : Reading) → ReadsOn b s (w ∷ ws) all → is_over in_block b w ≡ true → all ≡ Ok (s, w ∷ ws)
  unfolding is_over
  one_over b s w ws all (between_two is whole) over = sym whole ∙ closed_here s w ws (sym (open_here b w is) ∙ over)
  one_over b s w ws all (in_statement top fs is here before whole) over =
      let never : false ≡ true = sym (ap (λ h. h && is_mark (codes "}") w) (and_false in_block)) ∙ sym (ap (λ (x : Between). is_over in_block x w) is) ∙ over in cc

  -- ---- the loop

  pub begins : (s : State) (ws : List Word) → ReadsOn begin s ws (sequence in_block blocks room c s 0 ws)
  begins s ws = between_two refl refl

  pub goes_on : (b e : Between) (s t : State) (w : Word) (ws rest : List Word) (all : Reading) → ReadsOn b s ws all
      → ws ≡ w ∷ drop 1 ws → is_over in_block b w ≡ false → turn blocks room c b s ws ≡ Ok (e, t, rest) → IsBehind ws rest → ReadsOn e t rest all
  goes_on b e s t w ws rest all on here still read behind =
      one_more b e s t w (drop 1 ws) rest all (subst (λ x. ReadsOn b s x all) here on) still (ap (turn blocks room c b s) (sym here) ∙ read) behind.part
      (subst (λ x. IsRest x rest) here (is_rest ws rest behind))

  pub fails : (b : Between) (s : State) (w : Word) (ws : List Word) (e : ScriptFault) (all : Reading) → ReadsOn b s ws all
      → ws ≡ w ∷ drop 1 ws → is_over in_block b w ≡ false → turn blocks room c b s ws ≡ Err e → all ≡ Err e
  fails b s w ws e all on here still read = one_fails b s w (drop 1 ws) e all (subst (λ x. ReadsOn b s x all) here on) still (ap (turn blocks room c b s) (sym here) ∙ read)

  pub over : (b : Between) (s : State) (w : Word) (ws : List Word) (all : Reading) → ReadsOn b s ws all → ws ≡ w ∷ drop 1 ws → is_over in_block b w ≡ true → all ≡ Ok (s, ws)
  over b s w ws all on here is = one_over b s w (drop 1 ws) all (subst (λ x. ReadsOn b s x all) here on) is ∙ ap (λ r. Ok (s, r)) (sym here)

  at_end : (b : Between) (s : State) (all : Reading) → ReadsOn b s [] all → all ≡ at_file_end in_block b c s
  unfolding at_file_end sequence statement
  at_end b s all (between_two is whole) =
      sym whole ∙ sym (ap (λ (x : Between). if in_block || x.wanted then Err (UnknownForm (size c)) else Ok (s, [])) is ∙ ap (λ (h : Bool). if h then Err (UnknownForm (size c)) else Ok (s, [])) (or_false in_block))
  at_end b s all (in_statement top fs is here before whole) =
      sym whole ∙ sym (ap (λ (x : Between). if in_block || x.wanted then Err (UnknownForm (size c)) else Ok (s, [])) is ∙ ap (λ (h : Bool). if h then Err (UnknownForm (size c)) else Ok (s, [])) (or_true in_block))

  ends : (b : Between) (s : State) (ws : List Word) (all : Reading) → ReadsOn b s ws all → ws ≡ [] → all ≡ at_file_end in_block b c s
  ends b s ws all on none = at_end b s all (subst (λ x. ReadsOn b s x all) none on)

  pub file_ends : {X : Type 0} (r : Result X ScriptFault) (b : Between) (s : State) (ws : List Word) (all : Reading) → ReadsOn b s ws all → ws ≡ []
      → Leaves {Y = State × List Word} (s, []) r (at_file_end in_block b c s) → Leaves {Y = State × List Word} (s, ws) r all
  file_ends (Ok x) b s ws all on none is = ends b s ws all on none ∙ is ∙ ap (λ x. Ok (s, x)) (sym none)
  file_ends (Err e) b s ws all on none is = λ known. ends b s ws all on none ∙ is known

-- ---- blocks

pub block_refused : (room : ℕ) (c : Context) (s : State) (ws : List Word) (e : ScriptFault) → want_open (size c) room (codes "{") ws ≡ Err e → block room 0 c s ws ≡ Err e
unfolding block braces no_block
block_refused zero c s ws e read = rw read refl
block_refused (suc room) c s ws e read = rw read refl

pub block_fails : (room : ℕ) (c : Context) (s : State) (ws inside : List Word) (e : ScriptFault)
    → 0 < room → want_open (size c) room (codes "{") ws ≡ Ok inside → sequence true (block (room - 1)) (room - 1) c s 0 inside ≡ Err e → block room 0 c s ws ≡ Err e
unfolding block braces no_block
block_fails zero c s ws inside e some read within = let never : ⊥ = omega (arith, some) in absurd never
block_fails (suc room) c s ws inside e some read within =
    let less : suc room - 1 ≡ room = omega arith in let inner = rw less at within in rw (read, inner) refl

pub block_reads : (room : ℕ) (c : Context) (s t : State) (ws inside rest : List Word)
    → 0 < room → want_open (size c) room (codes "{") ws ≡ Ok inside → sequence true (block (room - 1)) (room - 1) c s 0 inside ≡ Ok (t, rest)
    → block room 0 c s ws ≡ Ok (t, drop 1 rest)
unfolding block braces no_block
block_reads zero c s t ws inside rest some read within = let never : ⊥ = omega (arith, some) in absurd never
block_reads (suc room) c s t ws inside rest some read within =
    let less : suc room - 1 ≡ room = omega arith in let inner = rw less at within in rw (read, inner) refl

-- one bracket more is open
pub deeper : (room : ℕ) → 0 < room → block room 1 ≡ block (room - 1) 0
unfolding block
deeper zero some = let never : ⊥ = omega (arith, some) in absurd never
deeper (suc room) some = let less : suc room - 1 ≡ room = omega arith in rw less refl
