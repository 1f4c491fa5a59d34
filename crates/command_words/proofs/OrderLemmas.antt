-- The parts of the words, and what the matches say of them.
use Rattle.std.proofs.Common.{◌≡◌, ◌&&◌, ◌||◌, Bool, true, false, not, if◌then◌else◌, List, [], ◌∷◌, ◌++◌, Option, Some, None, is_some, codes, refl, sym, ap, subst, ◌∙◌, append-nil, append_assoc, true≢false}
use Rattle.std.specs.Prelude.{option_and_then, fold, slice_get, unwrap_or}
use Rattle.std.specs.List.{list_any}
use Rattle.std.specs.Str.{bytes_eq}
use Rattle.std.proofs.lemmas.Option.{none-some}
use Rattle.clap.specs.Walk.{Row, Text, has_row, first_of, all_of, one_of, used, row_text, with_values, with_default, more_values, reading_by}
use Rattle.clap.specs.Simple.{matches_of}
use Rattle.clap.specs.Kinds.{Kinds}
use Rattle.clap.specs.Faults.{fault_of}
use Rattle.clap.specs.declared.error.kind.ErrorKind.{ErrorKind}
use Rattle.clap.specs.declared.builder.value_parser.Reading.{Reading}
use Rattle.clap.specs.declared.parser.matches.ValueSource.TheVariants.{CommandLine, DefaultValue}
use Rattle.command_words.specs.Parts.{Flag, plain, dead, runs, site, prune, flag_name, Key, pairs, nodes, entries, list, gen, key_name, Part, flag, given, name, anything, reading}
use Rattle.command_words.specs.Orders.{is_same, are_once, says, value_from, names_in, order_of, order_in, order_from}
use Rattle.command_words.specs.Says.{AreRows}
use Rattle.command_words.specs.Command.{app}
use Rattle.command_words.proofs.Runs.{rule_flag, rule_key, rule_names, rules_all, use_part, use_all, gate, wanted}
use Rattle.command_words.proofs.Walks.{AreSpelt}
use Rattle.command_words.proofs.EndLemmas.{rows_at_end, ends, matched}
use Rattle.command_words.proofs.ViewLemmas.{gated, set_is, new_row, flag_key, key_flag, flag_names, names_flag, flag_flag, names_key, flag_step, key_step, names_step, kept_behind, there_behind, names_kept, row_at}

-- ---- what stands among the rows

or_false : (b : Bool) → b || false ≡ b
or_false true = refl
or_false false = refl

abbrev pub in_rows : Part → List Row → Bool
in_rows (flag f) rows = has_row (flag_name f) rows
in_rows (given k v) rows = has_row (key_name k) rows
in_rows (name x) rows = false

has_behind : (id : Text) (rows : List Row) (r : Row) → has_row id (rows ++ r ∷ []) ≡ bytes_eq r.id id || has_row id rows
has_behind id [] r = refl
has_behind id (x ∷ rows) r = ap (λ b. bytes_eq x.id id || b) (has_behind id rows r) ∙ swap (bytes_eq x.id id) (bytes_eq r.id id) (has_row id rows)
  where
    swap : (a b c : Bool) → a || (b || c) ≡ b || (a || c)
    swap true true c = refl
    swap true false c = refl
    swap false true c = refl
    swap false false c = refl

has_other : (id other : Text) (how : Reading) (vs : List Text) (rows : List Row) → bytes_eq id other ≡ false → has_row other (with_values id how CommandLine vs rows) ≡ has_row other rows
has_other id other how vs [] e = rw e refl
has_other id other how vs (r ∷ rows) e = go (has_other id other how vs rows e) (bytes_eq r.id id) refl
  where
    go : has_row other (with_values id how CommandLine vs rows) ≡ has_row other rows → (b : Bool) → bytes_eq r.id id ≡ b → has_row other (with_values id how CommandLine vs (r ∷ rows)) ≡ has_row other (r ∷ rows)
    go ih true is = rw is refl
    go ih false is = rw is (ap (λ z. bytes_eq r.id other || z) ih)

pub in_step : (q p : Part) (rows after : List Row) → use_part rows p ≡ Some after → in_rows q after ≡ is_same q p || in_rows q rows
in_step (flag f) (flag g) rows after e =
    let it = gated (has_row (flag_name g) rows) (used (rule_flag g) [] rows) after e in
    ap (has_row (flag_name f)) (sym it.1 ∙ set_is (flag_name g) _ (codes "true" ∷ []) rows it.0) ∙ has_behind (flag_name f) rows _
in_step (flag f) (given k v) rows after e =
    let it = gated (has_row (key_name k) rows) (used (rule_key k) (v ∷ []) rows) after e in
    ap (has_row (flag_name f)) (sym it.1 ∙ set_is (key_name k) _ (v ∷ []) rows it.0) ∙ has_behind (flag_name f) rows _ ∙ ap (λ b. b || has_row (flag_name f) rows) (key_flag k f)
in_step (flag f) (name x) rows after e =
    let it : used rule_names (x ∷ []) rows ≡ after = ap (λ o. unwrap_or o rows) e in
    ap (has_row (flag_name f)) (sym it) ∙ has_other (codes "names") (flag_name f) _ (x ∷ []) rows (names_flag f)
in_step (given k w) (flag f) rows after e =
    let it = gated (has_row (flag_name f) rows) (used (rule_flag f) [] rows) after e in
    ap (has_row (key_name k)) (sym it.1 ∙ set_is (flag_name f) _ (codes "true" ∷ []) rows it.0) ∙ has_behind (key_name k) rows _ ∙ ap (λ b. b || has_row (key_name k) rows) (flag_key f k)
in_step (given k w) (given j v) rows after e =
    let it = gated (has_row (key_name j) rows) (used (rule_key j) (v ∷ []) rows) after e in
    ap (has_row (key_name k)) (sym it.1 ∙ set_is (key_name j) _ (v ∷ []) rows it.0) ∙ has_behind (key_name k) rows _
in_step (given k w) (name x) rows after e =
    let it : used rule_names (x ∷ []) rows ≡ after = ap (λ o. unwrap_or o rows) e in
    ap (has_row (key_name k)) (sym it) ∙ has_other (codes "names") (key_name k) _ (x ∷ []) rows (names_key k)
in_step (name y) p rows after e = refl

-- ---- each part once

use_gate : (p : Part) (rows : List Row) (b : Bool) → in_rows p rows ≡ b → (after : List Row) × (use_part rows p ≡ (if b then None else Some after))
use_gate (flag f) rows b e = (used (rule_flag f) [] rows, ap (λ z. if z then None else Some (used (rule_flag f) [] rows)) e)
use_gate (given k v) rows b e = (used (rule_key k) (v ∷ []) rows, ap (λ z. if z then None else Some (used (rule_key k) (v ∷ []) rows)) e)
use_gate (name x) rows true e = absurd (true≢false (sym e))
use_gate (name x) rows false e = (used rule_names (x ∷ []) rows, refl)

pub once_is : (ps seen : List Part) (rows : List Row) → ((q : Part) → in_rows q rows ≡ list_any (is_same q) seen) → is_some (use_all ps rows) ≡ are_once seen ps
once_is [] seen rows same = refl
once_is (p ∷ ps) seen rows same = go (λ after next. once_is ps (p ∷ seen) after next) (in_rows p rows) refl
  where
    go : ((after : List Row) → ((q : Part) → in_rows q after ≡ list_any (is_same q) (p ∷ seen)) → is_some (use_all ps after) ≡ are_once (p ∷ seen) ps) → (b : Bool) → in_rows p rows ≡ b
        → is_some (use_all (p ∷ ps) rows) ≡ are_once seen (p ∷ ps)
    go ih true is = ap (λ o. is_some (option_and_then (use_all ps) o)) (use_gate p rows true is).1 ∙ ap (λ b. not b && are_once (p ∷ seen) ps) (sym is ∙ same p)
    go ih false is =
        let next = use_gate p rows false is in
        ap (λ o. is_some (option_and_then (use_all ps) o)) next.1
        ∙ ih next.0 (λ q. in_step q p rows next.0 next.1 ∙ ap (λ b. is_same q p || b) (same q))
        ∙ ap (λ b. not b && are_once (p ∷ seen) ps) (sym is ∙ same p)

none_in : (q : Part) → in_rows q [] ≡ list_any (is_same q) []
none_in (flag f) = refl
none_in (given k v) = refl
none_in (name x) = refl

pub once : (ps : List Part) → is_some (use_all ps []) ≡ are_once [] ps
once ps = once_is ps [] [] none_in

-- ---- all parts

used_first : (p : Part) (ps : List Part) (rows end : List Row) → use_all (p ∷ ps) rows ≡ Some end → (after : List Row) × (use_part rows p ≡ Some after) × (use_all ps after ≡ Some end)
used_first p ps rows end e = go (use_part rows p) refl
  where
    go : (o : Option (List Row)) → use_part rows p ≡ o → (after : List Row) × (use_part rows p ≡ Some after) × (use_all ps after ≡ Some end)
    go None is = absurd (none-some end (sym (ap (option_and_then (use_all ps)) is) ∙ e))
    go (Some after) is = (after, is, sym (ap (option_and_then (use_all ps)) is) ∙ e)

pub values_are : (k : Key) (ps : List Part) (rows end : List Row) → use_all ps rows ≡ Some end → first_of (key_name k) end ≡ value_from k ps (first_of (key_name k) rows)
values_are k [] rows end e = ap (first_of (key_name k)) (sym (ap (λ o. unwrap_or o rows) e))
values_are k (p ∷ ps) rows end e =
    let it = used_first p ps rows end e in
    values_are k ps it.0 end it.2 ∙ ap (value_from k ps) (key_step k p rows it.0 it.1)

pub names_are : (ps : List Part) (rows end : List Row) → use_all ps rows ≡ Some end → unwrap_or (all_of (codes "names") end) [] ≡ unwrap_or (all_of (codes "names") rows) [] ++ names_in ps
names_are [] rows end e = ap (λ r. unwrap_or (all_of (codes "names") r) []) (sym (ap (λ o. unwrap_or o rows) e)) ∙ sym (append-nil _)
names_are (flag f ∷ ps) rows end e =
    let it = used_first (flag f) ps rows end e in
    names_are ps it.0 end it.2 ∙ ap (λ o. unwrap_or o [] ++ names_in ps) (names_step (flag f) rows it.0 it.1)
names_are (given k v ∷ ps) rows end e =
    let it = used_first (given k v) ps rows end e in
    names_are ps it.0 end it.2 ∙ ap (λ o. unwrap_or o [] ++ names_in ps) (names_step (given k v) rows it.0 it.1)
names_are (name x ∷ ps) rows end e =
    let it = used_first (name x) ps rows end e in
    names_are ps it.0 end it.2 ∙ ap (λ o. unwrap_or o [] ++ names_in ps) (names_step (name x) rows it.0 it.1)
    ∙ append_assoc (unwrap_or (all_of (codes "names") rows) []) (x ∷ []) (names_in ps)

pub flag_there : (f : Flag) (ps : List Part) (rows end : List Row) → use_all ps rows ≡ Some end → has_row (flag_name f) end ≡ says f ps || has_row (flag_name f) rows
flag_there f [] rows end e = ap (has_row (flag_name f)) (sym (ap (λ o. unwrap_or o rows) e))
flag_there f (p ∷ ps) rows end e =
    let it = used_first p ps rows end e in
    flag_there f ps it.0 end it.2 ∙ ap (λ b. says f ps || b) (in_step (flag f) p rows it.0 it.1) ∙ swap (says f ps) (is_same (flag f) p) (has_row (flag_name f) rows)
  where
    swap : (a b c : Bool) → a || (b || c) ≡ (b || a) || c
    swap true true c = refl
    swap true false c = refl
    swap false true c = refl
    swap false false c = refl

-- ---- defaults

abbrev pub false_row : Flag → Row
false_row f = record { id = flag_name f; values = codes "false" ∷ []; count = None; source = Some DefaultValue; reading = reading_by (rule_flag f) }

either_same : {X : Type 0} (b : Bool) (x : X) → (if b then x else x) ≡ x
either_same true x = refl
either_same false x = refl

key_kept : (k : Key) (rows : List Row) → with_default rows (rule_key k) ≡ rows
key_kept k rows = either_same (has_row (key_name k) rows) rows

name_kept : (rows : List Row) → with_default rows rule_names ≡ rows
name_kept rows = either_same (has_row (codes "names") rows) rows

-- the rows with a row for a flag that has none
abbrev pub flagged : Flag → List Row → List Row
flagged f rows = with_default rows (rule_flag f)

abbrev pub first_flagged : List Row → List Row
first_flagged rows = flagged site (flagged runs (flagged dead (flagged plain rows)))

abbrev pub all_flagged : List Row → List Row
all_flagged rows = flagged prune (first_flagged rows)

defaults_are : (rows : List Row) → fold with_default rows rules_all ≡ all_flagged rows
defaults_are rows =
    let r : List Row = all_flagged rows in
    ap (λ z. with_default (with_default (with_default (with_default (with_default z (rule_key nodes)) (rule_key entries)) (rule_key list)) (rule_key gen)) rule_names) (key_kept pairs r)
    ∙ ap (λ z. with_default (with_default (with_default (with_default z (rule_key entries)) (rule_key list)) (rule_key gen)) rule_names) (key_kept nodes r)
    ∙ ap (λ z. with_default (with_default (with_default z (rule_key list)) (rule_key gen)) rule_names) (key_kept entries r)
    ∙ ap (λ z. with_default (with_default z (rule_key gen)) rule_names) (key_kept list r)
    ∙ ap (λ z. with_default z rule_names) (key_kept gen r)
    ∙ name_kept r

default_case : (f : Flag) (rows : List Row) (b : Bool) → has_row (flag_name f) rows ≡ b → flagged f rows ≡ (if b then rows else rows ++ false_row f ∷ [])
default_case f rows true is = ap (λ b. if b then rows else with_values (flag_name f) (reading_by (rule_flag f)) DefaultValue (codes "false" ∷ []) rows) is
default_case f rows false is =
    ap (λ b. if b then rows else with_values (flag_name f) (reading_by (rule_flag f)) DefaultValue (codes "false" ∷ []) rows) is
    ∙ new_row (flag_name f) (more_values DefaultValue (codes "false" ∷ [])) (false_row f ∷ []) rows is

-- a default leaves the rows of other names
pub other_flagged : {Y : Type 0} (look : Row → Option Y) (id : Text) (f : Flag) (rows : List Row) → bytes_eq (flag_name f) id ≡ false
    → option_and_then look (row_at id (flagged f rows)) ≡ option_and_then look (row_at id rows)
other_flagged look id f rows other = go (has_row (flag_name f) rows) refl
  where
    go : (b : Bool) → has_row (flag_name f) rows ≡ b → option_and_then look (row_at id (flagged f rows)) ≡ option_and_then look (row_at id rows)
    go true is = ap (λ r. option_and_then look (row_at id r)) (default_case f rows true is)
    go false is = ap (λ r. option_and_then look (row_at id r)) (default_case f rows false is) ∙ kept_behind look id rows (false_row f) other

names_flagged : (f : Flag) (rows : List Row) → all_of (codes "names") (flagged f rows) ≡ all_of (codes "names") rows
names_flagged f rows = go (has_row (flag_name f) rows) refl
  where
    go : (b : Bool) → has_row (flag_name f) rows ≡ b → all_of (codes "names") (flagged f rows) ≡ all_of (codes "names") rows
    go true is = ap (all_of (codes "names")) (default_case f rows true is)
    go false is = ap (all_of (codes "names")) (default_case f rows false is) ∙ names_kept rows (false_row f) (flag_names f)

has_flagged : (id : Text) (f : Flag) (rows : List Row) → bytes_eq (flag_name f) id ≡ false → has_row id (flagged f rows) ≡ has_row id rows
has_flagged id f rows other = go (has_row (flag_name f) rows) refl
  where
    go : (b : Bool) → has_row (flag_name f) rows ≡ b → has_row id (flagged f rows) ≡ has_row id rows
    go true is = ap (has_row id) (default_case f rows true is)
    go false is = ap (has_row id) (default_case f rows false is) ∙ has_behind id rows (false_row f) ∙ ap (λ b. b || has_row id rows) other

-- what a flag's row says once it has one
abbrev pub or_false_text : Bool → Option Text → Option Text
or_false_text b o = if b then o else Some (codes "false")

abbrev pub flag_text : Flag → List Row → Option Text
flag_text f rows = or_false_text (has_row (flag_name f) rows) (one_of (flag_name f) rows)

own_flagged : (f : Flag) (rows : List Row) → one_of (flag_name f) (flagged f rows) ≡ flag_text f rows
own_flagged f rows = go (has_row (flag_name f) rows) refl
  where
    go : (b : Bool) → has_row (flag_name f) rows ≡ b → one_of (flag_name f) (flagged f rows) ≡ flag_text f rows
    go true is = ap (one_of (flag_name f)) (default_case f rows true is) ∙ sym (ap (λ b. or_false_text b (one_of (flag_name f) rows)) is)
    go false is =
        ap (one_of (flag_name f)) (default_case f rows false is) ∙ there_behind row_text (flag_name f) rows (false_row f) is (flag_flag f)
        ∙ sym (ap (λ b. or_false_text b (one_of (flag_name f) rows)) is)

later_flagged : (f g : Flag) (rows : List Row) → bytes_eq (flag_name g) (flag_name f) ≡ false → one_of (flag_name f) (flagged g rows) ≡ one_of (flag_name f) rows
later_flagged f g rows other = other_flagged row_text (flag_name f) g rows other

text_flagged : (f g : Flag) (rows : List Row) → bytes_eq (flag_name g) (flag_name f) ≡ false → flag_text f (flagged g rows) ≡ flag_text f rows
text_flagged f g rows other =
    ap (λ b. or_false_text b (one_of (flag_name f) (flagged g rows))) (has_flagged (flag_name f) g rows other) ∙ ap (or_false_text (has_row (flag_name f) rows)) (later_flagged f g rows other)

flag_read : (f : Flag) (rows : List Row) → one_of (flag_name f) (all_flagged rows) ≡ flag_text f rows
flag_read plain rows =
    later_flagged plain prune (first_flagged rows) refl ∙ later_flagged plain site (flagged runs (flagged dead (flagged plain rows))) refl ∙ later_flagged plain runs (flagged dead (flagged plain rows)) refl ∙ later_flagged plain dead (flagged plain rows) refl
    ∙ own_flagged plain rows
flag_read dead rows =
    later_flagged dead prune (first_flagged rows) refl ∙ later_flagged dead site (flagged runs (flagged dead (flagged plain rows))) refl ∙ later_flagged dead runs (flagged dead (flagged plain rows)) refl ∙ own_flagged dead (flagged plain rows)
    ∙ text_flagged dead plain rows refl
flag_read runs rows =
    later_flagged runs prune (first_flagged rows) refl ∙ later_flagged runs site (flagged runs (flagged dead (flagged plain rows))) refl ∙ own_flagged runs (flagged dead (flagged plain rows)) ∙ text_flagged runs dead (flagged plain rows) refl
    ∙ text_flagged runs plain rows refl
flag_read site rows =
    later_flagged site prune (first_flagged rows) refl ∙ own_flagged site (flagged runs (flagged dead (flagged plain rows))) ∙ text_flagged site runs (flagged dead (flagged plain rows)) refl ∙ text_flagged site dead (flagged plain rows) refl
    ∙ text_flagged site plain rows refl
flag_read prune rows =
    own_flagged prune (first_flagged rows) ∙ text_flagged prune site (flagged runs (flagged dead (flagged plain rows))) refl ∙ text_flagged prune runs (flagged dead (flagged plain rows)) refl
    ∙ text_flagged prune dead (flagged plain rows) refl ∙ text_flagged prune plain rows refl

-- ---- the whole

-- what the rows of a parse say
abbrev flag_of : Flag → List Part → Option Text → Option Text
flag_of f ps o = if says f ps then Some (codes "true") else o

one_more : (b c : Bool) (o : Option Text) → (if c then Some (codes "true") else (if b then Some (codes "true") else o)) ≡ (if b || c then Some (codes "true") else o)
one_more true true o = refl
one_more true false o = refl
one_more false true o = refl
one_more false false o = refl

flag_all : (f : Flag) (ps : List Part) (rows end : List Row) → use_all ps rows ≡ Some end → one_of (flag_name f) end ≡ flag_of f ps (one_of (flag_name f) rows)
flag_all f [] rows end e = ap (one_of (flag_name f)) (sym (ap (λ o. unwrap_or o rows) e))
flag_all f (flag g ∷ ps) rows end e =
    let it = used_first (flag g) ps rows end e in
    flag_all f ps it.0 end it.2 ∙ ap (flag_of f ps) (flag_step f (flag g) rows it.0 it.1) ∙ one_more (bytes_eq (flag_name g) (flag_name f)) (says f ps) (one_of (flag_name f) rows)
flag_all f (given k v ∷ ps) rows end e =
    let it = used_first (given k v) ps rows end e in
    flag_all f ps it.0 end it.2 ∙ ap (flag_of f ps) (flag_step f (given k v) rows it.0 it.1)
flag_all f (name x ∷ ps) rows end e =
    let it = used_first (name x) ps rows end e in
    flag_all f ps it.0 end it.2 ∙ ap (flag_of f ps) (flag_step f (name x) rows it.0 it.1)

said_text : (b : Bool) (o : Option Text) → or_false_text b (if b then Some (codes "true") else o) ≡ Some (if b then codes "true" else codes "false")
said_text true o = refl
said_text false o = refl

rows_are : (ps : List Part) (rows : List Row) → use_all ps [] ≡ Some rows → AreRows ps (all_flagged rows)
rows_are ps rows e = record {
  flags = λ f.
      flag_read f rows
      ∙ ap (λ o. or_false_text (has_row (flag_name f) rows) o) (flag_all f ps [] rows e)
      ∙ ap (λ b. or_false_text b (flag_of f ps None)) (flag_there f ps [] rows e ∙ or_false (says f ps))
      ∙ said_text (says f ps) None;
  values = λ k.
      kept k prune (first_flagged rows) ∙ kept k site (flagged runs (flagged dead (flagged plain rows))) ∙ kept k runs (flagged dead (flagged plain rows)) ∙ kept k dead (flagged plain rows) ∙ kept k plain rows ∙ values_are k ps [] rows e;
  names = ap (λ o. unwrap_or o [])
      (names_flagged prune (first_flagged rows) ∙ names_flagged site (flagged runs (flagged dead (flagged plain rows))) ∙ names_flagged runs (flagged dead (flagged plain rows)) ∙ names_flagged dead (flagged plain rows) ∙ names_flagged plain rows)
      ∙ names_are ps [] rows e;
}
  where
    kept : (k : Key) (f : Flag) (rows : List Row) → first_of (key_name k) (flagged f rows) ≡ first_of (key_name k) rows
    kept k f rows = other_flagged (λ r. slice_get r.values 0) (key_name k) f rows (flag_key f k)

-- where the command takes the words, they are parts, each once, and the matches say what the parts say
pub taken : (ws : List Text) → AreSpelt ws → fault_of app ws ≡ [] → (ps : List Part) × (reading anything ws ≡ Some ps) × (are_once [] ps ≡ true) × AreRows ps (matches_of app ws)
taken ws spelt none = go (reading anything ws) refl
  where
    rows : List Row
    rows = rows_at_end ws

    ended : Some rows ≡ wanted anything ws []
    ended = sym (ap (λ f. gate f rows) none) ∙ ends ws spelt

    go : (o : Option (List Part)) → reading anything ws ≡ o → (ps : List Part) × (reading anything ws ≡ Some ps) × (are_once [] ps ≡ true) × AreRows ps (matches_of app ws)
    go None is = absurd (none-some rows (sym (ended ∙ ap (option_and_then (λ ps. use_all ps [])) is)))
    go (Some ps) is =
        let used_is : use_all ps [] ≡ Some rows = sym (ended ∙ ap (option_and_then (λ ps. use_all ps [])) is) in
        let all : matches_of app ws ≡ all_flagged rows = matched ws ∙ defaults_are rows in
        (ps, is, sym (once ps) ∙ ap is_some used_is, subst (AreRows ps) (sym all) (rows_are ps rows used_is))

-- where it refuses them, they give no order
pub refused : (ws : List Text) (k : ErrorKind) (ks : Kinds) → AreSpelt ws → fault_of app ws ≡ k ∷ ks → order_of ws ≡ None
refused ws k ks spelt some = go (reading anything ws) refl
  where
    ended : None ≡ wanted anything ws []
    ended = sym (ap (λ f. gate f (rows_at_end ws)) some) ∙ ends ws spelt

    go : (o : Option (List Part)) → reading anything ws ≡ o → order_of ws ≡ None
    go None is = ap (option_and_then order_in) is
    go (Some ps) is =
        let unused : use_all ps [] ≡ None = sym (ended ∙ ap (option_and_then (λ ps. use_all ps [])) is) in
        ap (option_and_then order_in) is ∙ ap (λ b. if b then order_from ps else None) (sym (once ps) ∙ ap is_some unused)
