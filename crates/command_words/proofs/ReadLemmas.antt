-- Matches, as they are read.
use Rattle.std.proofs.Common.{◌≡◌, ◌&&◌, ℕ, Bool, true, false, if◌then◌else◌, List, [], length, Option, Some, None, is_some, codes, refl, sym, ap, ◌∙◌}
use Rattle.std.specs.Prelude.{option_and_then, option_map, unwrap_or}
use Rattle.std.specs.Option.{option_map_or}
use Rattle.clap.specs.Matches.{found_of, first_value, raw_values, matched_of, one_text}
use Rattle.clap.specs.Walk.{Text}
use Rattle.clap.specs.declared.parser.matches.ArgMatches.{ArgMatches}
use Rattle.clap.proofs.WalkLemmas.{first_value-rows, one_text-rows, raw_values-rows}
use Rattle.std.proofs.lemmas.Option.{none-some}
use Rattle.limits.specs.declared.budgets.Limits.{Limits}
use Rattle.limits.specs.Budgets.{standard}
use Rattle.command_words.specs.Parts.{Flag, plain, flag_name, Key, pairs, nodes, entries, list, gen, key_name, Part}
use Rattle.command_words.specs.declared.words.Mode.{Mode}
use Rattle.command_words.specs.declared.words.Order.{Order}
use Rattle.command_words.specs.Orders.{is_named, are_named, is_well, mode_in, order_by, order_from, says, value_in, names_in, value_or, is_between, number, number_or, is_good, are_good, limits_by, limits_if, size_if, least, most}
use Rattle.command_words.specs.Says.{Says}

module _ (ps : List Part) (m : ArgMatches) (said : Says ps m) where
  pub value_is : (k : Key) → first_value (found_of m) (key_name k) ≡ value_in k ps
  value_is k = first_value-rows (found_of m) (key_name k) ∙ said.values k

  pub flag_text : (f : Flag) → one_text (found_of m) (flag_name f) ≡ Some (if says f ps then codes "true" else codes "false")
  flag_text f = one_text-rows (found_of m) (flag_name f) ∙ said.flags f

  pub names_is : unwrap_or (option_map raw_values (matched_of (found_of m) (codes "names"))) [] ≡ names_in ps
  names_is = ap (λ o. unwrap_or o []) (raw_values-rows (found_of m) (codes "names")) ∙ said.names

-- a flag, from what `get_flag` says
pub flag_is : (b flag : Bool) (text : Option Text) → text ≡ Some (if b then codes "true" else codes "false") → (text ≡ Some (codes "true") → flag ≡ true) → (text ≡ Some (codes "false") → flag ≡ false) → flag ≡ b
flag_is true flag text is so other = so is
flag_is false flag text is so other = other is

-- a value in its range, or the default
good_value : (low high default : ℕ) (o : Option Text) → value_or low high default o ≡ (if option_map_or (is_between low high) o true then Some (option_map_or number o default) else None)
good_value low high default None = refl
good_value low high default (Some v) = refl

four : {X : Type 0} (a b c d : Bool) (w x y z : ℕ) (f : ℕ → ℕ → ℕ → ℕ → X)
    → option_and_then (λ i. option_and_then (λ j. option_and_then (λ k. option_and_then (λ l. Some (f i j k l)) (if d then Some z else None)) (if c then Some y else None)) (if b then Some x else None)) (if a then Some w else None)
    ≡ (if a && (b && (c && d)) then Some (f w x y z) else None)
four true true true true w x y z f = refl
four true true true false w x y z f = refl
four true true false d w x y z f = refl
four true false c d w x y z f = refl
four false b c d w x y z f = refl

abbrev pub value_by : List Part → Key → ℕ → Option ℕ
value_by ps k default = value_or (least k) (most k) default (value_in k ps)

abbrev pub limits_with : List Part → ℕ → ℕ → ℕ → ℕ → Limits
limits_with ps i j k l = record { plain = says plain ps; pairs = i; nodes = j; entries = k; list = l }

pub limits_are : (ps : List Part) → option_and_then (λ i. option_and_then (λ j. option_and_then (λ k. option_and_then (λ l. Some (limits_with ps i j k l)) (value_by ps list standard.list)) (value_by ps entries standard.entries)) (value_by ps nodes standard.nodes)) (value_by ps pairs standard.pairs)
    ≡ limits_if ps
limits_are ps =
    rw (
      good_value (least list) (most list) standard.list (value_in list ps),
      good_value (least entries) (most entries) standard.entries (value_in entries ps),
      good_value (least nodes) (most nodes) standard.nodes (value_in nodes ps),
      good_value (least pairs) (most pairs) standard.pairs (value_in pairs ps),
    )
    (four (is_good ps pairs) (is_good ps nodes) (is_good ps entries) (is_good ps list) (number_or pairs standard.pairs ps) (number_or nodes standard.nodes ps) (number_or entries standard.entries ps) (number_or list standard.list ps) (limits_with ps))

abbrev taking : List Part → Option ℕ → Option ℕ → Option ℕ → Option ℕ → Option Limits
taking ps a b c d = option_and_then (λ i. option_and_then (λ j. option_and_then (λ k. option_and_then (λ l. Some (limits_with ps i j k l)) d) c) b) a

-- the limits, from the values one after another
pub limits_from : (ps : List Part) (a b c d : Option ℕ) → value_by ps pairs standard.pairs ≡ a → value_by ps nodes standard.nodes ≡ b → value_by ps entries standard.entries ≡ c → value_by ps list standard.list ≡ d
    → taking ps a b c d ≡ limits_if ps
limits_from ps a b c d ea eb ec ed =
    sym (ap (λ z. taking ps z (value_by ps nodes standard.nodes) (value_by ps entries standard.entries) (value_by ps list standard.list)) ea
    ∙ ap (λ z. taking ps a z (value_by ps entries standard.entries) (value_by ps list standard.list)) eb
    ∙ ap (λ z. taking ps a b z (value_by ps list standard.list)) ec
    ∙ ap (taking ps a b c) ed)
    ∙ limits_are ps

-- a value as the code reads it
pub value_got : (ps : List Part) (m : ArgMatches) → Says ps m → (k : Key) (default : ℕ) (r o : Option ℕ) → r ≡ value_or (least k) (most k) default (first_value (found_of m) (key_name k)) → r ≡ o → value_by ps k default ≡ o
value_got ps m said k default r o is was = sym (is ∙ ap (value_or (least k) (most k) default) (value_is ps m said k)) ∙ was

-- the size, from what stands for it
pub size_none : (ps : List Part) → value_in gen ps ≡ None → size_if ps ≡ Some None
size_none ps e = rw e refl

abbrev pub sized : Option ℕ → Option (Option ℕ)
sized = option_and_then (λ n. Some (Some n))

pub size_some : (ps : List Part) (text : Text) (r : Option ℕ) → value_in gen ps ≡ Some text → r ≡ (if is_between 0 (most gen) text then Some (number text) else None) → sized r ≡ size_if ps
size_some ps text r e is = ap (sized) is ∙ go (is_between 0 (most gen) text) refl ∙ rw e refl
  where
    go : (b : Bool) → is_between 0 (most gen) text ≡ b → sized (if b then Some (number text) else None) ≡ (if b then Some (Some (number text)) else None)
    go true _ = refl
    go false _ = refl

-- ---- the order

pub some_if : {X : Type 0} (b : Bool) (x y : X) → (if b then Some x else None) ≡ Some y → (b ≡ true) × (x ≡ y)
some_if true x y e = (refl, ap (λ o. unwrap_or o x) e)
some_if false x y e = absurd (none-some y e)

sized_same : (o : Option Text) → is_some (option_map number o) ≡ is_some o
sized_same None = refl
sized_same (Some v) = refl

abbrev pub order_with : Mode → List Text → Option ℕ → Limits → Order
order_with m names size limits = record { names = names; size = size; mode = m; limits = limits }

abbrev ordered_by : List Part → Option Mode → Option Order
ordered_by ps o = option_and_then (λ m. if is_well m ps then Some (order_by m ps) else None) o

module _ (ps : List Part) where
  -- without one mode there is no order
  pub no_mode : mode_in ps ≡ None → order_from ps ≡ None
  no_mode e = ap (ordered_by ps) e

  not_well : (m : Mode) → mode_in ps ≡ Some m → is_well m ps ≡ false → order_from ps ≡ None
  not_well m e ill = ap (ordered_by ps) e ∙ ap (λ b. if b then Some (order_by m ps) else None) ill

  none_if : {X : Type 0} (b : Bool) (x : X) → (if b then Some x else None) ≡ None → b ≡ false
  none_if true x e = absurd (none-some x (sym e))
  none_if false x e = refl

  and_false : (a b c : Bool) → b ≡ false → a && (b && c) ≡ false
  and_false true b c e = ap (λ z. z && c) e
  and_false false b c e = refl

  and_last : (a b c : Bool) → c ≡ false → a && (b && c) ≡ false
  and_last true true c e = e
  and_last true false c e = refl
  and_last false b c e = refl

  pub no_limits : (m : Mode) → mode_in ps ≡ Some m → limits_if ps ≡ None → order_from ps ≡ None
  no_limits m e none = not_well m e (ap (λ b. b && (is_good ps gen && are_named m ps)) (none_if (are_good ps) (limits_by ps) none))

  pub no_size : (m : Mode) → mode_in ps ≡ Some m → size_if ps ≡ None → order_from ps ≡ None
  no_size m e none = not_well m e (and_false (are_good ps) (is_good ps gen) (are_named m ps) (none_if (is_good ps gen) (option_map number (value_in gen ps)) none))

  named_is : (m : Mode) (size : Option ℕ) (count : ℕ) → size_if ps ≡ Some size → count ≡ length (names_in ps) → is_named m (is_some size) count ≡ are_named m ps
  named_is m size count es counted =
      let s = some_if (is_good ps gen) (option_map number (value_in gen ps)) size es in
      ap (λ b. is_named m b count) (ap is_some (sym s.1) ∙ sized_same (value_in gen ps)) ∙ ap (is_named m (is_some (value_in gen ps))) counted

  pub not_named : (m : Mode) (size : Option ℕ) (count : ℕ) → mode_in ps ≡ Some m → size_if ps ≡ Some size → count ≡ length (names_in ps) → is_named m (is_some size) count ≡ false → order_from ps ≡ None
  not_named m size count e es counted ill = not_well m e (and_last (are_good ps) (is_good ps gen) (are_named m ps) (sym (named_is m size count es counted) ∙ ill))

  pub is_ordered : (m : Mode) (limits : Limits) (size : Option ℕ) (count : ℕ) (names : List Text)
      → mode_in ps ≡ Some m → limits_if ps ≡ Some limits → size_if ps ≡ Some size → count ≡ length (names_in ps) → is_named m (is_some size) count ≡ true → names ≡ names_in ps
      → order_from ps ≡ Some (order_with m names size limits)
  is_ordered m limits size count names e el es counted well en =
      let l = some_if (are_good ps) (limits_by ps) limits el in
      let s = some_if (is_good ps gen) (option_map number (value_in gen ps)) size es in
      let named : are_named m ps ≡ true = sym (named_is m size count es counted) ∙ well in
      let all : is_well m ps ≡ true = ap (λ b. b && (is_good ps gen && are_named m ps)) l.0 ∙ ap (λ b. b && are_named m ps) s.0 ∙ named in
      ap (ordered_by ps) e
      ∙ ap (λ b. if b then Some (order_by m ps) else None) all
      ∙ ap Some (ap (λ z. order_with m z (option_map number (value_in gen ps)) (limits_by ps)) (sym en) ∙ ap (λ z. order_with m names z (limits_by ps)) s.1 ∙ ap (order_with m names size) l.1)
