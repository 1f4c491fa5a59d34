-- Turns of the walk.
use Rattle.std.proofs.Common.{◌≡◌, ◌&&◌, ℕ, ◌==◌, Bool, true, false, if◌then◌else◌, List, [], ◌∷◌, Option, Some, None, option_map, refl, sym, ap, ◌∙◌}
use Rattle.std.specs.Prelude.{option_and_then, slice_get}
use Rattle.std.specs.Str.{bytes_eq, chars}
use Rattle.std.specs.List.{before_first}
use Rattle.tp_base.proofs.Truths.{and_false, or_false}
use Rattle.clap.specs.Lexer.{long_of, short_of}
use Rattle.clap.specs.Walk.{Row, Rule, Text, Walk, Waiting, idle, positional, option, used, settled, has_row, walked, arg_by_long, is_pending}
use Rattle.clap.specs.Faults.{settle_fault, walk_fault, turn_fault, use_fault, flags_fault}
use Rattle.clap.specs.Kinds.{Kinds, or_else}
use Rattle.clap.specs.declared.error.kind.ErrorKind.{ErrorKind}
use Rattle.command_words.specs.Parts.{Flag, plain, dead, runs, site, prune, flag_name, flag_of, Key, pairs, nodes, entries, list, gen, key_name, key_of, Part, flag, given, with_part, Word, dashes, long, dashed, bare, word_of, word_behind, is_equals, value_in}
use Rattle.command_words.proofs.Runs.{shape, rules_all, rule_flag, rule_key, rule_names, Hold, none, one, word, unfilled, held_at, hold_text, use_hold, use_part, use_all, gate, at, got, end_of}

pub shape_is : shape.rules ≡ rules_all
shape_is = refl

-- ---- gates

pub gate_then : {X : Type 0} (a b : Kinds) (x y : X) → gate (or_else a b) x ≡ option_and_then (λ z. gate b x) (gate a y)
gate_then [] b x y = refl
gate_then (k ∷ ks) b x y = refl

-- what is behind a gate is what went into it
pub gate_same : {X Y : Type 0} (a : Kinds) (x : X) (f : X → Option Y) → option_and_then (λ z. f x) (gate a x) ≡ option_and_then f (gate a x)
gate_same [] x f = refl
gate_same (k ∷ ks) x f = refl

pub or_else_assoc : (a b c : Kinds) → or_else (or_else a b) c ≡ or_else a (or_else b c)
or_else_assoc [] b c = refl
or_else_assoc (k ∷ ks) b c = refl

repeat_is : (b : Bool) (k : ErrorKind) (rows : List Row) → gate (or_else (if b && true then k ∷ [] else []) []) rows ≡ (if b then None else Some rows)
repeat_is true k rows = refl
repeat_is false k rows = refl

pub settle_is : (rows : List Row) (hold : Hold) → gate (settle_fault shape.rules false (held_at rows hold)) (settled shape.rules (held_at rows hold)).rows ≡ use_hold rows hold
settle_is rows none = refl
settle_is rows (one pairs v) = repeat_is (has_row (key_name pairs) rows) _ _
settle_is rows (one nodes v) = repeat_is (has_row (key_name nodes) rows) _ _
settle_is rows (one entries v) = repeat_is (has_row (key_name entries) rows) _ _
settle_is rows (one list v) = repeat_is (has_row (key_name list) rows) _ _
settle_is rows (one gen v) = repeat_is (has_row (key_name gen) rows) _ _
settle_is rows (word x) = refl
settle_is rows (unfilled pairs) = refl
settle_is rows (unfilled nodes) = refl
settle_is rows (unfilled entries) = refl
settle_is rows (unfilled list) = refl
settle_is rows (unfilled gen) = refl

-- ---- one turn more

pub got_more : (w : Walk) (x : Text) (ws : List Text) (r : List Row) → got w (x ∷ ws) ≡ option_and_then (λ z. got (walked shape.rules [] w x) ws) (gate (turn_fault shape [] w x) r)
unfolding walk_fault
got_more w x ws r =
    let e = end_of (walked shape.rules [] w x) ws in
    ap (λ f. gate f (settled shape.rules e.held).rows) (or_else_assoc (turn_fault shape [] w x) (walk_fault shape [] (walked shape.rules [] w x) ws) (settle_fault shape.rules false e.held))
    ∙ gate_then (turn_fault shape [] w x) (or_else (walk_fault shape [] (walked shape.rules [] w x) ws) (settle_fault shape.rules false e.held)) (settled shape.rules e.held).rows r

abbrev no_value : (Y : Type 0) → Option Y
no_value Y = None

pub none_after : {X Y : Type 0} (o : Option X) → option_and_then (λ x. no_value Y) o ≡ None
none_after None = refl
none_after (Some x) = refl

pub then_then : {X Y Z : Type 0} (o : Option X) (f : X → Option Y) (g : Y → Option Z) → option_and_then g (option_and_then f o) ≡ option_and_then (λ x. option_and_then g (f x)) o
then_then None f g = refl
then_then (Some x) f g = refl

pub with_part_is : (p : Part) (r : Option (List Part)) (rows : List Row) → option_and_then (λ ps. use_all ps rows) (with_part p r) ≡ option_and_then (λ after. option_and_then (λ ps. use_all ps after) r) (use_part rows p)
with_part_is p None rows = sym (none_after (use_part rows p))
with_part_is p (Some ps) rows = refl

-- ---- what a word looks like

pub data Looks (w : Text) : Word → Type 0 where
  as_dashes : bytes_eq w (45 ∷ 45 ∷ []) ≡ true → Looks w dashes
  as_long : (n : Text) (v : Option Text) → bytes_eq w (45 ∷ 45 ∷ []) ≡ false → long_of w ≡ Some (n, v) → Looks w (long n v)
  as_dashed : (x : ℕ) (xs : Text) → bytes_eq w (45 ∷ 45 ∷ []) ≡ false → long_of w ≡ None → short_of w ≡ Some (x ∷ xs) → Looks w dashed
  as_bare : bytes_eq w (45 ∷ 45 ∷ []) ≡ false → long_of w ≡ None → short_of w ≡ None → Looks w bare

looks_one : (a : ℕ) (s : Bool) → (a == 45) ≡ s → Looks (a ∷ []) bare
looks_one a true e = as_bare (rw e refl) (rw e refl) (rw e refl)
looks_one a false e = as_bare (rw e refl) (rw e refl) (rw e refl)

looks_two : (a b : ℕ) (rest : Text) (s t : Bool) → (a == 45) ≡ s → (b == 45) ≡ t → Looks (a ∷ b ∷ rest) (if s then (if t then word_behind rest else dashed) else bare)
looks_two a b rest false t e f = as_bare (rw e refl) (rw e refl) (rw e refl)
looks_two a b rest true false e f = as_dashed b rest (rw (e, f) refl) (rw (e, f) refl) (rw (e, f) refl)
looks_two a b [] true true e f = as_dashes (rw (e, f) refl)
looks_two a b (c ∷ cs) true true e f = as_long (before_first is_equals (c ∷ cs)) (value_in (c ∷ cs)) (rw (e, f) refl) (rw (e, f) refl)

pub looks : (w : Text) → Looks w (word_of w)
looks [] = as_bare refl refl refl
looks (a ∷ []) = looks_one a (a == 45) refl
looks (a ∷ b ∷ rest) = looks_two a b rest (a == 45) (b == 45) refl refl

-- ---- turns

-- nothing waits for a value
abbrev pub waits : Bool → Waiting
waits true = idle
waits false = positional

-- what is settled
abbrev pub rest_of : List Row → Hold → List Row
rest_of rows hold = (settled shape.rules (held_at rows hold)).rows

abbrev pub IsTurn : Walk → Text → Kinds → Walk → Type 0
IsTurn w x faults next = (turn_fault shape [] w x ≡ faults) × (walked shape.rules [] w x ≡ next)

abbrev settles : List Row → Hold → Kinds
settles rows hold = settle_fault shape.rules false (held_at rows hold)

pub turn_name : (n : Waiting) (x : Text) (rows : List Row) (hold : Hold) → IsTurn (at true n rows hold) x (settles rows hold) (at true positional (rest_of rows hold) (word x))
unfolding walked
turn_name n x rows hold = (rw (and_false (is_pending rule_names (hold_text hold))) refl, rw (and_false (is_pending rule_names (hold_text hold))) refl)

pub turn_bare : (b : Bool) (x : Text) (rows : List Row) (hold : Hold) → bytes_eq x (45 ∷ 45 ∷ []) ≡ false → long_of x ≡ None → short_of x ≡ None
    → IsTurn (at false (waits b) rows hold) x (settles rows hold) (at false positional (rest_of rows hold) (word x))
unfolding walked
turn_bare true x rows hold d l s = (rw (d, l, s, and_false (is_pending rule_names (hold_text hold))) refl, rw (d, l, s, and_false (is_pending rule_names (hold_text hold))) refl)
turn_bare false x rows hold d l s = (rw (d, l, s, and_false (is_pending rule_names (hold_text hold))) refl, rw (d, l, s, and_false (is_pending rule_names (hold_text hold))) refl)

pub turn_dashes : (b : Bool) (x : Text) (rows : List Row) (hold : Hold) → bytes_eq x (45 ∷ 45 ∷ []) ≡ true → IsTurn (at false (waits b) rows hold) x [] (at true (waits b) rows hold)
unfolding walked
turn_dashes true x rows hold d = (rw d refl, rw d refl)
turn_dashes false x rows hold d = (rw d refl, rw d refl)

-- the rule of a flag, or else of a key
abbrev pub rule_of : Option Flag → Option Key → Option Rule
rule_of (Some f) k = Some (rule_flag f)
rule_of None k = option_map rule_key k

pick : (p d r s u a b c e f : Bool) → (if p then Some (rule_flag plain) else (if d then Some (rule_flag dead) else (if r then Some (rule_flag runs) else (if s then Some (rule_flag site) else (if u then Some (rule_flag prune) else (if a then Some (rule_key pairs) else (if b then Some (rule_key nodes) else (if c then Some (rule_key entries) else (if e then Some (rule_key list) else (if f then Some (rule_key gen) else None))))))))))
    ≡ rule_of (if p then Some plain else (if d then Some dead else (if r then Some runs else (if s then Some site else (if u then Some prune else None))))) (if a then Some pairs else (if b then Some nodes else (if c then Some entries else (if e then Some list else (if f then Some gen else None)))))
pick true d r s u a b c e f = refl
pick false true r s u a b c e f = refl
pick false false true s u a b c e f = refl
pick false false false true u a b c e f = refl
pick false false false false true a b c e f = refl
pick false false false false false true b c e f = refl
pick false false false false false false true c e f = refl
pick false false false false false false false true e f = refl
pick false false false false false false false false true f = refl
pick false false false false false false false false false true = refl
pick false false false false false false false false false false = refl

-- the rule of a long name
pub long_rule : (n : Text) → arg_by_long shape.rules n ≡ rule_of (flag_of n) (key_of n)
long_rule n =
    rw (or_false (bytes_eq (flag_name plain) n), or_false (bytes_eq (flag_name dead) n), or_false (bytes_eq (flag_name runs) n), or_false (bytes_eq (flag_name site) n), or_false (bytes_eq (flag_name prune) n), or_false (bytes_eq (key_name pairs) n), or_false (bytes_eq (key_name nodes) n), or_false (bytes_eq (key_name entries) n), or_false (bytes_eq (key_name list) n), or_false (bytes_eq (key_name gen) n))
    (pick (bytes_eq (flag_name plain) n) (bytes_eq (flag_name dead) n) (bytes_eq (flag_name runs) n) (bytes_eq (flag_name site) n) (bytes_eq (flag_name prune) n) (bytes_eq (key_name pairs) n) (bytes_eq (key_name nodes) n) (bytes_eq (key_name entries) n) (bytes_eq (key_name list) n) (bytes_eq (key_name gen) n))

pub uses_flag : (f : Flag) (rows : List Row) → gate (use_fault false (rule_flag f) [] rows) (used (rule_flag f) [] rows) ≡ use_part rows (flag f)
uses_flag f rows = repeat_is (has_row (flag_name f) rows) _ _

pub uses_key : (k : Key) (v : Text) (rows : List Row) → gate (use_fault false (rule_key k) (v ∷ []) rows) (used (rule_key k) (v ∷ []) rows) ≡ use_part rows (given k v)
uses_key k v rows = repeat_is (has_row (key_name k) rows) _ _

pub or_else_nil : (a : Kinds) → or_else a [] ≡ a
or_else_nil [] = refl
or_else_nil (k ∷ ks) = refl

pub react_is : (rows : List Row) (hold : Hold) (f : Kinds) (next : List Row) (p : Part) → gate f next ≡ use_part (rest_of rows hold) p
    → gate (or_else (or_else (settles rows hold) f) []) next ≡ option_and_then (λ r. use_part r p) (use_hold rows hold)
react_is rows hold f next p is =
    ap (λ z. gate z next) (or_else_nil (or_else (settles rows hold) f))
    ∙ gate_then (settles rows hold) f next (rest_of rows hold)
    ∙ ap (λ z. option_and_then (λ r. z) (gate (settles rows hold) (rest_of rows hold))) is
    ∙ gate_same (settles rows hold) (rest_of rows hold) (λ r. use_part r p)
    ∙ ap (option_and_then (λ r. use_part r p)) (settle_is rows hold)

pub turn_flag : (b : Bool) (x n : Text) (g : Flag) (rows : List Row) (hold : Hold) → bytes_eq x (45 ∷ 45 ∷ []) ≡ false → long_of x ≡ Some (n, None) → arg_by_long shape.rules n ≡ Some (rule_flag g)
    → IsTurn (at false (waits b) rows hold) x (or_else (or_else (settles rows hold) (use_fault false (rule_flag g) [] (rest_of rows hold))) []) (at false idle (used (rule_flag g) [] (rest_of rows hold)) none)
unfolding walked
turn_flag true x n g rows hold d l f = (rw (d, l, f) refl, rw (d, l, f) refl)
turn_flag false x n g rows hold d l f = (rw (d, l, f) refl, rw (d, l, f) refl)

pub turn_given : (b : Bool) (x n v : Text) (k : Key) (rows : List Row) (hold : Hold) → bytes_eq x (45 ∷ 45 ∷ []) ≡ false → long_of x ≡ Some (n, Some v) → arg_by_long shape.rules n ≡ Some (rule_key k)
    → IsTurn (at false (waits b) rows hold) x (or_else (or_else (settles rows hold) (use_fault false (rule_key k) (v ∷ []) (rest_of rows hold))) []) (at false idle (used (rule_key k) (v ∷ []) (rest_of rows hold)) none)
unfolding walked
turn_given true x n v k rows hold d l f = (rw (d, l, f) refl, rw (d, l, f) refl)
turn_given false x n v k rows hold d l f = (rw (d, l, f) refl, rw (d, l, f) refl)

pub turn_key : (b : Bool) (x n : Text) (k : Key) (rows : List Row) (hold : Hold) → bytes_eq x (45 ∷ 45 ∷ []) ≡ false → long_of x ≡ Some (n, None) → arg_by_long shape.rules n ≡ Some (rule_key k)
    → IsTurn (at false (waits b) rows hold) x (or_else (settles rows hold) []) (at false (option (key_name k)) (rest_of rows hold) (unfilled k))
unfolding walked
turn_key true x n k rows hold d l f = (rw (d, l, f) refl, rw (d, l, f) refl)
turn_key false x n k rows hold d l f = (rw (d, l, f) refl, rw (d, l, f) refl)

-- ---- refused turns, whatever waits

pub unknown_refused : (n : Waiting) (x m : Text) (v : Option Text) (rows r : List Row) (hold : Hold) → bytes_eq x (45 ∷ 45 ∷ []) ≡ false → long_of x ≡ Some (m, v) → arg_by_long shape.rules m ≡ None
    → gate (turn_fault shape [] (at false n rows hold) x) r ≡ None
unknown_refused idle x m v rows r hold d l f = rw (d, l, f) refl
unknown_refused positional x m v rows r hold d l f = rw (d, l, f) refl
unknown_refused (option id) x m v rows r hold d l f = rw (d, l, f) refl

pub flag_refused : (n : Waiting) (x m v : Text) (g : Flag) (rows r : List Row) (hold : Hold) → bytes_eq x (45 ∷ 45 ∷ []) ≡ false → long_of x ≡ Some (m, Some v) → arg_by_long shape.rules m ≡ Some (rule_flag g)
    → gate (turn_fault shape [] (at false n rows hold) x) r ≡ None
flag_refused idle x m v g rows r hold d l f = rw (d, l, f) refl
flag_refused positional x m v g rows r hold d l f = rw (d, l, f) refl
flag_refused (option id) x m v g rows r hold d l f = rw (d, l, f) refl

pub dashed_refused : (n : Waiting) (x : Text) (y : ℕ) (ys : Text) (c : ℕ) (rows r : List Row) (hold : Hold) → bytes_eq x (45 ∷ 45 ∷ []) ≡ false → long_of x ≡ None → short_of x ≡ Some (y ∷ ys) → slice_get (chars (y ∷ ys)) 0 ≡ Some c
    → gate (turn_fault shape [] (at false n rows hold) x) r ≡ None
unfolding flags_fault
dashed_refused idle x y ys c rows r hold d l s is = rw (d, l, s, is) refl
dashed_refused positional x y ys c rows r hold d l s is = rw (d, l, s, is) refl
dashed_refused (option id) x y ys c rows r hold d l s is = rw (d, l, s, is) refl

-- ---- turns where an option waits for its value

pub value_bare : (k : Key) (x : Text) (rows : List Row) → bytes_eq x (45 ∷ 45 ∷ []) ≡ false → long_of x ≡ None → short_of x ≡ None
    → IsTurn (at false (option (key_name k)) rows (unfilled k)) x [] (at false idle rows (one k x))
unfolding walked
value_bare pairs x rows d l s = (rw (d, l, s) refl, rw (d, l, s) refl)
value_bare nodes x rows d l s = (rw (d, l, s) refl, rw (d, l, s) refl)
value_bare entries x rows d l s = (rw (d, l, s) refl, rw (d, l, s) refl)
value_bare list x rows d l s = (rw (d, l, s) refl, rw (d, l, s) refl)
value_bare gen x rows d l s = (rw (d, l, s) refl, rw (d, l, s) refl)

pub value_dashes : (k : Key) (x : Text) (rows : List Row) → bytes_eq x (45 ∷ 45 ∷ []) ≡ true → IsTurn (at false (option (key_name k)) rows (unfilled k)) x [] (at true (option (key_name k)) rows (unfilled k))
unfolding walked
value_dashes k x rows d = (rw d refl, rw d refl)

-- what waits for its value isn't settled
unfilled_fails : (k : Key) (f g : Kinds) (rows r : List Row) → gate (or_else (or_else (settles rows (unfilled k)) f) g) r ≡ None
unfilled_fails pairs f g rows r = refl
unfilled_fails nodes f g rows r = refl
unfilled_fails entries f g rows r = refl
unfilled_fails list f g rows r = refl
unfilled_fails gen f g rows r = refl

pub value_flag : (k : Key) (g : Flag) (x n : Text) (rows r : List Row) → bytes_eq x (45 ∷ 45 ∷ []) ≡ false → long_of x ≡ Some (n, None) → arg_by_long shape.rules n ≡ Some (rule_flag g)
    → gate (turn_fault shape [] (at false (option (key_name k)) rows (unfilled k)) x) r ≡ None
value_flag k g x n rows r d l f = rw (d, l, f) (unfilled_fails k _ _ rows r)

pub value_given : (k j : Key) (x n v : Text) (rows r : List Row) → bytes_eq x (45 ∷ 45 ∷ []) ≡ false → long_of x ≡ Some (n, Some v) → arg_by_long shape.rules n ≡ Some (rule_key j)
    → gate (turn_fault shape [] (at false (option (key_name k)) rows (unfilled k)) x) r ≡ None
value_given k j x n v rows r d l f = rw (d, l, f) (unfilled_fails k _ _ rows r)

pub value_key : (k j : Key) (x n : Text) (rows r : List Row) → bytes_eq x (45 ∷ 45 ∷ []) ≡ false → long_of x ≡ Some (n, None) → arg_by_long shape.rules n ≡ Some (rule_key j)
    → gate (turn_fault shape [] (at false (option (key_name k)) rows (unfilled k)) x) r ≡ None
value_key k j x n rows r d l f = rw (d, l, f, ← or_else_nil (settles rows (unfilled k))) (unfilled_fails k [] [] rows r)
