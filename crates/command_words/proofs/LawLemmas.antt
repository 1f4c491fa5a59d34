-- What every order has.
use Rattle.std.proofs.Common.{◌≡◌, ◌&&◌, ◌≤◌, ◌+◌, ◌*◌, ◌%◌, ◌==◌, ℕ, true, false, if◌then◌else◌, nat_le, List, [], ◌∷◌, length, Option, Some, None, is_some, refl, sym, ap, subst, ◌∙◌, true≢false, arith}
use Rattle.std.specs.Prelude.{◌↔◌, Bool, IsSome, option_and_then, option_map, IfSome}
use Rattle.std.specs.Option.{option_map_or}
use Rattle.std.proofs.lemmas.Bool.{leb-true, eqb-true, and_parts}
use Rattle.std.proofs.lemmas.Option.{none-some}
use Rattle.limits.specs.declared.budgets.TheConstants.{MOST_PAIRS, MOST_BRANCHES, MOST_ENTRIES, MOST_LIST}
use Rattle.limits.specs.Budgets.{standard, IsInRange}
use Rattle.triple_gen.specs.declared.triple.TheConstants.{MOST_BOXES}
use Rattle.command_words.specs.declared.words.Mode.{Mode}
use Rattle.command_words.specs.declared.words.Mode.TheVariants as mode
use Rattle.command_words.specs.declared.words.Order.{Order}
use Rattle.limits.specs.declared.pages.TheConstants.{MOST_PAGES}
use Rattle.command_words.specs.Parts.{Text, Part, pairs, nodes, entries, list, gen, anything, reading}
use Rattle.command_words.specs.Orders.{are_once, is_number, is_good, are_good, is_report, is_site, takes_pages, are_names, is_named, are_named, is_well, is_between, number, mode_in, value_in, names_in, limits_by, order_by, order_from, order_in, order_of}
use Rattle.command_words.proofs.ReadLemmas.{some_if}

-- an order is that of parts that are well
pub record IsFromParts (o : Order) : Type 0 where
  pub parts : List Part
  pub mode : Mode
  pub is_well : is_well mode parts ≡ true
  pub same : order_by mode parts ≡ o

pub from_parts : (ws : List Text) (o : Order) → order_of ws ≡ Some o → IsFromParts o
from_parts ws o is = go (reading anything ws) is
  where
    by_mode : (ps : List Part) (m : Option Mode) → option_and_then (λ m. if is_well m ps then Some (order_by m ps) else None) m ≡ Some o → IsFromParts o
    by_mode ps None e = absurd (none-some o e)
    by_mode ps (Some m) e =
        let it = some_if (is_well m ps) (order_by m ps) o e in
        record { parts = ps; mode = m; is_well = it.0; same = it.1 }

    if_once : (ps : List Part) (b : Bool) → (if b then order_from ps else None) ≡ Some o → IsFromParts o
    if_once ps true e = by_mode ps (mode_in ps) e
    if_once ps false e = absurd (none-some o e)

    go : (r : Option (List Part)) → option_and_then order_in r ≡ Some o → IsFromParts o
    go None e = absurd (none-some o e)
    go (Some ps) e = if_once ps (are_once [] ps) e

-- a mode takes names
some_names : (m : Mode) (ns : List Text) → are_names m (length ns) ≡ true → ns ≡ [] → ⊥
some_names mode.Report ns e none = true≢false (sym e ∙ ap (λ z. are_names mode.Report (length z)) none)
some_names mode.Prune ns e none = true≢false (sym e ∙ ap (λ z. are_names mode.Prune (length z)) none)
some_names mode.Dead ns e none = true≢false (sym e ∙ ap (λ z. are_names mode.Dead (length z)) none)
some_names mode.Runs ns e none = true≢false (sym e ∙ ap (λ z. are_names mode.Runs (length z)) none)
some_names mode.Site ns e none = true≢false (sym e ∙ ap (λ z. are_names mode.Site (length z)) none)
some_names mode.SitePrune ns e none = true≢false (sym e ∙ ap (λ z. are_names mode.SitePrune (length z)) none)

no_names : (ns : List Text) → length ns ≡ 0 → ns ≡ []
no_names [] e = refl
no_names (a ∷ ns) e = absurd (omega (arith, e))

one_there : (m : Mode) (o : Option Text) (ns : List Text) → is_named m (is_some o) (length ns) ≡ true → IsSome (option_map number o) ↔ (ns ≡ [])
one_there m None ns e = (λ is. absurd (true≢false (sym is)), λ none. absurd (some_names m ns e none))
one_there m (Some v) ns e = (λ is. no_names ns (eqb-true (length ns) 0 (and_parts (is_report m) (length ns == 0) e).1), λ none. refl)

few_there : (o : Option Text) → (ps : List Part) → value_in gen ps ≡ o → is_good ps gen ≡ true → IfSome (option_map number o) (λ n. n ≤ MOST_BOXES)
few_there None ps is good = tt
few_there (Some v) ps is good =
    let between : is_between 0 MOST_BOXES v ≡ true = subst (λ z. option_map_or (is_between 0 MOST_BOXES) z true ≡ true) is good in
    leb-true (number v) MOST_BOXES (and_parts (nat_le 0 (number v)) (nat_le (number v) MOST_BOXES) (and_parts (is_number v) _ between).1).1

pub one : (ws : List Text) (o : Order) → order_of ws ≡ Some o → IsSome o.size ↔ (o.names ≡ [])
one ws o is =
    let from = from_parts ws o is in
    let ps = from.parts in
    let m = from.mode in
    let named : are_named m ps ≡ true = (and_parts (is_good ps gen) (are_named m ps) (and_parts (are_good ps) (is_good ps gen && are_named m ps) from.is_well).1).1 in
    subst (λ (z : Order). IsSome z.size ↔ (z.names ≡ [])) from.same (one_there m (value_in gen ps) (names_in ps) named)

pub few : (ws : List Text) (o : Order) → order_of ws ≡ Some o → IfSome o.size (λ n. n ≤ MOST_BOXES)
few ws o is =
    let from = from_parts ws o is in
    let ps = from.parts in
    let good : is_good ps gen ≡ true = (and_parts (is_good ps gen) (are_named from.mode ps) (and_parts (are_good ps) (is_good ps gen && are_named from.mode ps) from.is_well).1).0 in
    subst (λ (z : Order). IfSome z.size (λ n. n ≤ MOST_BOXES)) from.same (few_there (value_in gen ps) ps refl good)

-- a mode takes no more names than a site of the most pages
short_site : (n : ℕ) → is_site n ≡ true → n ≤ 2 * MOST_PAGES + 1
short_site n e = leb-true n (2 * MOST_PAGES + 1) (and_parts (nat_le 3 n) (nat_le n (2 * MOST_PAGES + 1)) (and_parts (n % 2 == 1) (nat_le 3 n && nat_le n (2 * MOST_PAGES + 1)) e).1).1

short_names : (m : Mode) (n : ℕ) → are_names m n ≡ true → n ≤ 2 * MOST_PAGES + 1
short_names m n e = go (takes_pages m) e
  where
    go : (b : Bool) → (if b then is_site n else n == 3) ≡ true → n ≤ 2 * MOST_PAGES + 1
    go true e' = short_site n e'
    go false e' = let is = eqb-true n 3 e' in omega (arith, is)

short_there : (m : Mode) (o : Option Text) (n : ℕ) → is_named m (is_some o) n ≡ true → n ≤ 2 * MOST_PAGES + 1
short_there m None n e = short_names m n e
short_there m (Some v) n e = let is = eqb-true n 0 (and_parts (is_report m) (n == 0) e).1 in omega (arith, is)

pub short : (ws : List Text) (o : Order) → order_of ws ≡ Some o → length o.names ≤ 2 * MOST_PAGES + 1
short ws o is =
    let from = from_parts ws o is in
    let ps = from.parts in
    let m = from.mode in
    let named : are_named m ps ≡ true = (and_parts (is_good ps gen) (are_named m ps) (and_parts (are_good ps) (is_good ps gen && are_named m ps) from.is_well).1).1 in
    subst (λ (z : Order). length z.names ≤ 2 * MOST_PAGES + 1) from.same (short_there m (value_in gen ps) (length (names_in ps)) named)

named_there : (m : Mode) (o : Option Text) (n : ℕ) → is_named m (is_some o) n ≡ true → is_named m (is_some (option_map number o)) n ≡ true
named_there m None n e = e
named_there m (Some v) n e = e

pub named : (ws : List Text) (o : Order) → order_of ws ≡ Some o → is_named o.mode (is_some o.size) (length o.names) ≡ true
named ws o is =
    let from = from_parts ws o is in
    let ps = from.parts in
    let m = from.mode in
    let well : are_named m ps ≡ true = (and_parts (is_good ps gen) (are_named m ps) (and_parts (are_good ps) (is_good ps gen && are_named m ps) from.is_well).1).1 in
    subst (λ (z : Order). is_named z.mode (is_some z.size) (length z.names) ≡ true) from.same (named_there m (value_in gen ps) (length (names_in ps)) well)

-- a value that is well, or a default that is, is in its range
in_its_range : (low high default : ℕ) (o : Option Text) → low ≤ default → default ≤ high → option_map_or (is_between low high) o true ≡ true
    → (low ≤ option_map_or number o default) × (option_map_or number o default ≤ high)
in_its_range low high default None least most good = (least, most)
in_its_range low high default (Some v) least most good =
    let is = and_parts (nat_le low (number v)) (nat_le (number v) high) (and_parts (is_number v) _ good).1 in
    (leb-true low (number v) is.0, leb-true (number v) high is.1)

limits_in_range : (ps : List Part) → are_good ps ≡ true → IsInRange (limits_by ps)
limits_in_range ps good =
    let p = and_parts (is_good ps pairs) (is_good ps nodes && (is_good ps entries && is_good ps list)) good in
    let n = and_parts (is_good ps nodes) (is_good ps entries && is_good ps list) p.1 in
    let e = and_parts (is_good ps entries) (is_good ps list) n.1 in
    let of_pairs = in_its_range 1 MOST_PAIRS standard.pairs (value_in pairs ps) (omega arith) (omega arith) p.0 in
    let of_nodes = in_its_range 1 MOST_BRANCHES standard.nodes (value_in nodes ps) (omega arith) (omega arith) n.0 in
    let of_entries = in_its_range 1 MOST_ENTRIES standard.entries (value_in entries ps) (omega arith) (omega arith) e.0 in
    let of_list = in_its_range 0 MOST_LIST standard.list (value_in list ps) (omega arith) (omega arith) e.1 in
    record { pairs_least = of_pairs.0; pairs = of_pairs.1; nodes_least = of_nodes.0; nodes = of_nodes.1; entries_least = of_entries.0; entries = of_entries.1; list = of_list.1 }

pub in_range : (ws : List Text) (o : Order) → order_of ws ≡ Some o → IsInRange o.limits
in_range ws o is =
    let from = from_parts ws o is in
    let ps = from.parts in
    let good : are_good ps ≡ true = (and_parts (are_good ps) (is_good ps gen && are_named from.mode ps) from.is_well).0 in
    subst (λ (z : Order). IsInRange z.limits) from.same (limits_in_range ps good)
