-- What a parse of the whole command comes to.
use Rattle.std.proofs.Common.{◌≡◌, ◌||◌, Bool, true, false, if◌then◌else◌, List, [], ◌∷◌, Option, Some, None, codes, refl, ap, ◌∙◌}
use Rattle.std.specs.Prelude.{fold, is_some}
use Rattle.tp_base.proofs.Truths.{or_true}
use Rattle.clap.specs.Walk.{Row, Rule, Text, Walk, idle, has_row, finished, nothing_held, settled, walk, with_default}
use Rattle.clap.specs.Simple.{built, entered, matches_of}
use Rattle.clap.specs.Kinds.{Kinds, or_else}
use Rattle.clap.specs.Faults.{check_fault, default_fault, defaults_fault, entered_fault, fault_of, is_simple_and_free, settle_fault, walk_fault}
use Rattle.command_words.specs.Parts.{Flag, plain, dead, runs, site, prune, flag_name, Key, pairs, nodes, entries, list, gen, key_name, anything}
use Rattle.command_words.specs.Command.{app}
use Rattle.command_words.proofs.Runs.{shape, rule_flag, rule_key, rule_names, rules_all, none, gate, at, end_of, wanted}
use Rattle.command_words.proofs.TurnLemmas.{or_else_nil}
use Rattle.command_words.proofs.Walks.{AreSpelt, walks}

pub simple : is_simple_and_free app ≡ true
simple = refl

no_sub : (stop : Option (Text × List Text)) → (entered_fault (built app) stop ≡ []) × (is_some (entered (built app) stop) ≡ false)
no_sub None = (refl, refl)
no_sub (Some p) = (refl, refl)

abbrev no_kinds : Kinds
no_kinds = []

nothing_either : (b : Bool) → (if b then no_kinds else no_kinds) ≡ []
nothing_either true = refl
nothing_either false = refl

flag_default : (f : Flag) (rows : List Row) → default_fault rows (rule_flag f) ≡ []
flag_default f rows = nothing_either (has_row (flag_name f) rows || false)

key_default : (k : Key) (rows : List Row) → default_fault rows (rule_key k) ≡ []
key_default k rows = rw (or_true (has_row (key_name k) rows)) refl

names_default : (rows : List Row) → default_fault rows rule_names ≡ []
names_default rows = rw (or_true (has_row (codes "names") rows)) refl

pub data AreQuiet : List Rule → Type 0 where
  quiet_end : AreQuiet []
  quiet_more : (r : Rule) (rs : List Rule) → ((rows : List Row) → default_fault rows r ≡ []) → AreQuiet rs → AreQuiet (r ∷ rs)

quiet : (rs : List Rule) → AreQuiet rs → (rows : List Row) → defaults_fault rows rs ≡ []
unfolding defaults_fault
quiet [] quiet_end rows = refl
quiet (r ∷ rs) (quiet_more _ _ so behind) rows = ap (λ z. or_else z (defaults_fault (with_default rows r) rs)) (so rows) ∙ quiet rs behind (with_default rows r)

all_quiet : AreQuiet rules_all
all_quiet =
    quiet_more _ _ (flag_default plain) (quiet_more _ _ (flag_default dead) (quiet_more _ _ (flag_default runs) (quiet_more _ _ (flag_default site) (quiet_more _ _ (flag_default prune)
    (quiet_more _ _ (key_default pairs) (quiet_more _ _ (key_default nodes) (quiet_more _ _ (key_default entries) (quiet_more _ _ (key_default list) (quiet_more _ _ (key_default gen)
    (quiet_more _ _ names_default quiet_end))))))))))

or_else_three : (a b c d e : Kinds) → b ≡ [] → d ≡ [] → e ≡ [] → or_else a (or_else b (or_else c (or_else d e))) ≡ or_else a c
or_else_three a b c d e no_b no_d no_e = ap (or_else a) (ap (λ z. or_else z (or_else c (or_else d e))) no_b ∙ ap (or_else c) (ap (λ z. or_else z e) no_d ∙ no_e) ∙ or_else_nil c)

abbrev start : Walk
start = at false idle [] none

fault_is : (ws : List Text) → fault_of app ws ≡ or_else (walk_fault shape [] start ws) (settle_fault shape.rules false (end_of start ws).held)
fault_is ws =
    let stop = (walk shape.rules [] nothing_held ws).stopped in
    let end = (end_of start ws).held in
    or_else_three (walk_fault shape [] start ws) (entered_fault (built app) stop) (settle_fault shape.rules false end) (defaults_fault (settled shape.rules end).rows rules_all)
    (check_fault shape (finished shape.rules end) (is_some (entered (built app) stop))) (no_sub stop).0 (quiet rules_all all_quiet (settled shape.rules end).rows)
    (rw ((no_sub stop).1) refl)

-- the rows of the words
abbrev pub rows_at_end : List Text → List Row
rows_at_end ws = (settled shape.rules (end_of start ws).held).rows

pub ends : (ws : List Text) → AreSpelt ws → gate (fault_of app ws) (rows_at_end ws) ≡ wanted anything ws []
ends ws spelt = ap (λ z. gate z (rows_at_end ws)) (fault_is ws) ∙ (walks ws spelt).0 true [] none

pub matched : (ws : List Text) → matches_of app ws ≡ fold with_default (rows_at_end ws) rules_all
matched ws = refl
