-- Which rules go is told by what becomes of the spans: a block that goes holds no rule that stays.
use Rattle.std.proofs.Common.{◌≡◌, ℕ, zero, suc, ◌+◌, ◌&&◌, not, Bool, true, false, if◌then◌else◌, List, [], ◌∷◌, ◌++◌, length, drop, map, Option, Some, refl, sym, ap, ◌∙◌, subst, arith, length-append, append_assoc}
use Rattle.std.specs.List.{list_all}
use Rattle.std.proofs.lemmas.Bool.{and_parts}
use Rattle.std.proofs.lemmas.Bool.Decides.{nat_tests}
use Rattle.css_read.specs.declared.fronts.Front.{Front}
use Rattle.css_read.specs.declared.fronts.Front.TheVariants.{Passed, Opens, Closes, Styles}
use Rattle.css_read.specs.declared.holders.Holder.{Holder}
use Rattle.css_read.specs.declared.sheets.Range.{Range}
use Rattle.css_read.specs.Holders.{innermost, holder_of, holders_from, holders_of, owners_from, owners_of}
use Rattle.css_read.specs.Pruned.{Flagged, goes, with_flags, of_rule, is_fixed, gone_rules, is_owner, held_by, insides, all_of_some, gone_holders}
use Rattle.css_read.specs.Sheets.{Sheet}
use Rattle.css_read.proofs.ItemLemmas.{ranges_of}
use Rattle.css_read.proofs.PlanLemmas.{Plan, keep, drop_rule, drop_block, relist, going_after, IsPlan, ArePlans}
use Rattle.css_read.proofs.PrunedLemmas.{first_flag, IsByBlock, AreByBlocks, IsByFlags, AreByFlags, IsPrunedTo, mark_size, spans_of, steps_are}
use Rattle.css_read.proofs.RelistLemmas.{HasTexts, text_of}
use Rattle.css_read.proofs.RulePlans.{texts_left}
use Rattle.css_read.proofs.SpanLemmas.{Span, steps_at, rules_in}

-- ---- the rules that go, by their spans

-- what stands in a block that goes does too
abbrev pub goes_by : ℕ → Plan → Bool
goes_by zero keep = false
goes_by zero drop_rule = true
goes_by zero drop_block = true
goes_by zero (relist rs ts) = false
goes_by (suc m) p = true

abbrev pub if_rule : Front → Bool → List Bool
if_rule (Styles len) g = g ∷ []
if_rule f g = []

abbrev pub gone_by : ℕ → List Plan → List Span → List Bool
gone_by m (p ∷ ps) (s ∷ ss) = if_rule s.front (goes_by m p) ++ gone_by (going_after m p s.front) ps ss
gone_by m ps ss = []

-- ---- all that a holder has

-- of what has these owners, all that one has goes
abbrev pub AllGo : ℕ → List (Option ℕ) → List Bool → Type 0
AllGo n (o ∷ owners) (g ∷ gone) = (is_owner n o ≡ true → g ≡ true) × AllGo n owners gone
AllGo n owners gone = Unit {0}

all_append : (xs ys : List Bool) → list_all (λ x. x) (xs ++ ys) ≡ true → (list_all (λ x. x) xs ≡ true) × (list_all (λ x. x) ys ≡ true)
all_append [] ys all = (refl, all)
all_append (x ∷ xs) ys all =
    let both = and_parts x (list_all (λ x. x) (xs ++ ys)) all in
    let later = all_append xs ys both.1 in
    (rw (both.0, later.0) refl, later.1)

held_go : (n : ℕ) (owners : List (Option ℕ)) (gone : List Bool) → list_all (λ x. x) (held_by n owners gone) ≡ true → AllGo n owners gone
held_go n [] gone all = tt
held_go n (o ∷ owners) [] all = tt
held_go n (o ∷ owners) (g ∷ gone) all = by (is_owner n o) all (held_go n owners gone)
  where
    by : (test : Bool) → list_all (λ x. x) (if test then g ∷ held_by n owners gone else held_by n owners gone) ≡ true → (list_all (λ x. x) (held_by n owners gone) ≡ true → AllGo n owners gone) → (test ≡ true → g ≡ true) × AllGo n owners gone
    by true all later = let both = and_parts g (list_all (λ x. x) (held_by n owners gone)) all in (λ is. both.0, later both.1)
    by false all later = (λ is. absurd (wrong is), later all)
      where
        wrong : false ≡ true → ⊥
        wrong same = cc

some_all : (gs : List Bool) → all_of_some gs ≡ true → list_all (λ x. x) gs ≡ true
some_all [] all = absurd (wrong all)
  where
    wrong : false ≡ true → ⊥
    wrong same = cc
some_all (g ∷ gs) all = all

-- a holder that goes has only what goes
pub holder_all : (owners : List (Option ℕ)) (rules : List Bool) (n : ℕ) (h : Holder) (hs : List Holder) → first_flag (gone_holders owners rules n (h ∷ hs)) ≡ true → AllGo n owners rules × AllGo n (insides hs) (gone_holders owners rules (n + 1) hs)
unfolding gone_holders
holder_all owners rules n h hs all =
    let inner = gone_holders owners rules (n + 1) hs in
    let both = and_parts (h.loose && h.bare) (all_of_some (held_by n owners rules ++ held_by n (insides hs) inner)) all in
    let parts = all_append (held_by n owners rules) (held_by n (insides hs) inner) (some_all (held_by n owners rules ++ held_by n (insides hs) inner) both.1) in
    (held_go n owners rules parts.0, held_go n (insides hs) inner parts.1)

last_go : (n : ℕ) (before os : List (Option ℕ)) (found gs : List Bool) → length before ≡ length found → AllGo n (before ++ os) (found ++ gs) → AllGo n os gs
last_go n [] os [] gs same all = all
last_go n [] os (g ∷ found) gs same all = absurd (omega arith)
last_go n (o ∷ before) os [] gs same all = absurd (omega arith)
last_go n (o ∷ before) os (g ∷ found) gs same all = last_go n before os found gs (omega arith) all.1

left_go : (n : ℕ) (owners before os : List (Option ℕ)) (gone found gs : List Bool) → owners ≡ before ++ os → gone ≡ found ++ gs → length before ≡ length found → AllGo n owners gone → AllGo n os gs
left_go n owners before os gone found gs owned rules same all = last_go n before os found gs same (subst (λ (xs : List Bool). AllGo n (before ++ os) xs) rules (subst (λ (xs : List (Option ℕ)). AllGo n xs gone) owned all))

-- ---- the blocks that are open and go

-- of what is left all that the innermost m of the open blocks have goes, rules and blocks
abbrev pub AreGoing : ℕ → List ℕ → List (Option ℕ) → List Bool → List (Option ℕ) → List Bool → Type 0
AreGoing zero outer os gs is hs = Unit {0}
AreGoing (suc m) [] os gs is hs = ⊥
AreGoing (suc m) (n ∷ outer) os gs is hs = AllGo n os gs × AllGo n is hs × AreGoing m outer os gs is hs

going_rule : (m : ℕ) (outer : List ℕ) (o : Option ℕ) (os : List (Option ℕ)) (g : Bool) (gs : List Bool) (is : List (Option ℕ)) (hs : List Bool) → AreGoing m outer (o ∷ os) (g ∷ gs) is hs → AreGoing m outer os gs is hs
going_rule zero outer o os g gs is hs going = tt
going_rule (suc m) [] o os g gs is hs going = absurd going
going_rule (suc m) (n ∷ outer) o os g gs is hs going = (going.0.1, going.1, going_rule m outer o os g gs is hs going.2)

pub going_block : (m : ℕ) (outer : List ℕ) (os : List (Option ℕ)) (gs : List Bool) (i : Option ℕ) (is : List (Option ℕ)) (h : Bool) (hs : List Bool) → AreGoing m outer os gs (i ∷ is) (h ∷ hs) → AreGoing m outer os gs is hs
going_block zero outer os gs i is h hs going = tt
going_block (suc m) [] os gs i is h hs going = absurd going
going_block (suc m) (n ∷ outer) os gs i is h hs going = (going.0, going.1.1, going_block m outer os gs i is h hs going.2)

going_close : (m : ℕ) (outer : List ℕ) (os : List (Option ℕ)) (gs : List Bool) (is : List (Option ℕ)) (hs : List Bool) → AreGoing (suc m) outer os gs is hs → AreGoing m (drop 1 outer) os gs is hs
going_close m [] os gs is hs going = absurd going
going_close m (n ∷ outer) os gs is hs going = going.2

own_is : (n : ℕ) → is_owner n (Some n) ≡ true
own_is n = grind (arith, nat_tests)

pub rule_goes : (m : ℕ) (outer : List ℕ) (os : List (Option ℕ)) (g : Bool) (gs : List Bool) (is : List (Option ℕ)) (hs : List Bool) → AreGoing (suc m) outer (innermost outer ∷ os) (g ∷ gs) is hs → g ≡ true
rule_goes m [] os g gs is hs going = absurd going
rule_goes m (n ∷ outer) os g gs is hs going = going.0.0 (own_is n)

pub block_goes : (m : ℕ) (outer : List ℕ) (os : List (Option ℕ)) (gs : List Bool) (is : List (Option ℕ)) (h : Bool) (hs : List Bool) → AreGoing (suc m) outer os gs (innermost outer ∷ is) (h ∷ hs) → h ≡ true
block_goes m [] os gs is h hs going = absurd going
block_goes m (n ∷ outer) os gs is h hs going = going.1.0 (own_is n)

-- ---- a step

abbrev pub rules_at : List ℕ → List Flagged → ℕ → ℕ → List Span → List Bool
rules_at text fs k at ss = gone_rules text k (ranges_of (rules_in (steps_at at ss))) fs

abbrev pub blocks_at : List ℕ → List (Option ℕ) → List Bool → ℕ → List ℕ → ℕ → List Span → List Bool
blocks_at text owners gone hn outer at ss = gone_holders owners gone hn (holders_from text hn outer (steps_at at ss))

-- what is left of the rules and of the blocks
record AreBehind (text : List ℕ) (fs : List Flagged) (owners : List (Option ℕ)) (gone : List Bool) (k at hn m : ℕ) (outer : List ℕ) (ss : List Span) : Type 0 where
  before : List (Option ℕ)
  found : List Bool
  owned : owners ≡ before ++ owners_from hn outer (steps_at at ss)
  rules : gone ≡ found ++ rules_at text fs k at ss
  same : length before ≡ length found
  going : AreGoing m outer (owners_from hn outer (steps_at at ss)) (rules_at text fs k at ss) (insides (holders_from text hn outer (steps_at at ss))) (blocks_at text owners gone hn outer at ss)

abbrev GoneFrom : List ℕ → List Flagged → List (Option ℕ) → List Bool → ℕ → List Plan → List Span → Type 0
GoneFrom text fs owners gone at ps ss =
    (k hn m : ℕ) (outer : List ℕ) → AreByFlags text fs k at ps ss → AreByBlocks (blocks_at text owners gone hn outer at ss) ps ss → AreBehind text fs owners gone k at hn m outer ss
    → rules_at text fs k at ss ≡ gone_by m ps ss

none_left : (text : List ℕ) (list : List Flagged) → list_all goes list ≡ true → texts_left text list ≡ []
none_left text [] all = refl
none_left text (f ∷ fs) all = by f.1 all (none_left text fs)
  where
    by : (g : Bool) → (g && list_all goes fs) ≡ true → (list_all goes fs ≡ true → texts_left text fs ≡ []) → (if g then texts_left text fs else Rattle.css_read.specs.Pruned.bytes_of text f ∷ texts_left text fs) ≡ []
    by true all later = later all
    by false all later = absurd (wrong all)
      where
        wrong : false ≡ true → ⊥
        wrong same = cc

-- some of a list stay where others stand in its place
some_left : (text : List ℕ) (list : List Flagged) (s : Span) (ts : List Span) → HasTexts s ts (texts_left text list) → list_all goes list ≡ false
some_left text list s ts has = by (list_all goes list) refl
  where
    by : (test : Bool) → list_all goes list ≡ test → test ≡ false
    by false is = refl
    by true is = absurd (some (has.texts_are ∙ none_left text list is))
      where
        some : text_of has.first ∷ map text_of has.others ≡ [] → ⊥
        some same = cc

rule_by : (text : List ℕ) (fs : List Flagged) (k at to : ℕ) (p : Plan) (s : Span) (len : ℕ) → to ≡ at + length s.bytes → s.front ≡ Styles len → IsPlan at to s p → IsByFlags text fs k at s p (Styles len)
    → (list_all goes (of_rule k fs) && not (is_fixed text k (record { from = at; to = at + length s.bytes }) (of_rule k fs))) ≡ goes_by 0 p
rule_by text fs k at to keep s len end front is flags = rw flags (and_none (list_all goes (of_rule k fs)))
  where
    and_none : (x : Bool) → (x && false) ≡ false
    and_none true = refl
    and_none false = refl
rule_by text fs k at to drop_rule s len end front is flags = rw (flags.0, flags.1) refl
rule_by text fs k at to drop_block s len end front is flags = absurd (subst Rattle.css_read.proofs.PlanLemmas.IsOpening front is)
rule_by text fs k at to (relist rs ts) s len end front is flags = rw (some_left text (of_rule k fs) s ts flags.2) refl

head_tail : (g h : Bool) (gs hs : List Bool) → g ≡ h → gs ≡ hs → g ∷ gs ≡ h ∷ hs
head_tail g h gs hs first later = rw (first, later) refl

passed_stays : (m at to : ℕ) (bytes : List ℕ) (p : Plan) → IsPlan at to (record { front = Passed; bytes = bytes }) p → going_after m p Passed ≡ m
passed_stays zero at to bytes keep is = refl
passed_stays zero at to bytes drop_rule is = absurd is
passed_stays zero at to bytes drop_block is = absurd is
passed_stays zero at to bytes (relist rs ts) is = absurd is.0
passed_stays (suc m) at to bytes p is = refl

style_stays : (m at to len : ℕ) (bytes : List ℕ) (p : Plan) → IsPlan at to (record { front = Styles len; bytes = bytes }) p → going_after m p (Styles len) ≡ m
style_stays zero at to len bytes keep is = refl
style_stays zero at to len bytes drop_rule is = refl
style_stays zero at to len bytes drop_block is = absurd is
style_stays zero at to len bytes (relist rs ts) is = refl
style_stays (suc m) at to len bytes p is = refl

close_falls : (at to : ℕ) (bytes : List ℕ) (p : Plan) → IsPlan at to (record { front = Closes; bytes = bytes }) p → going_after 0 p Closes ≡ 0
close_falls at to bytes keep is = refl
close_falls at to bytes drop_rule is = absurd is
close_falls at to bytes drop_block is = absurd is
close_falls at to bytes (relist rs ts) is = absurd is.0

-- behind white space, a comment, or what is passed over
passed_step : (text : List ℕ) (fs : List Flagged) (owners : List (Option ℕ)) (gone : List Bool) (k at hn m : ℕ) (outer : List ℕ) (p : Plan) (bytes : List ℕ) (ps : List Plan) (ss : List Span)
    → ArePlans at (p ∷ ps) ((record { front = Passed; bytes = bytes }) ∷ ss) → AreByFlags text fs k at (p ∷ ps) ((record { front = Passed; bytes = bytes }) ∷ ss)
    → AreByBlocks (blocks_at text owners gone hn outer at ((record { front = Passed; bytes = bytes }) ∷ ss)) (p ∷ ps) ((record { front = Passed; bytes = bytes }) ∷ ss)
    → AreBehind text fs owners gone k at hn m outer ((record { front = Passed; bytes = bytes }) ∷ ss) → GoneFrom text fs owners gone (at + length bytes) ps ss
    → rules_at text fs k at ((record { front = Passed; bytes = bytes }) ∷ ss) ≡ gone_by m (p ∷ ps) ((record { front = Passed; bytes = bytes }) ∷ ss)
unfolding owners_from holders_from
passed_step text fs owners gone k at hn m outer p bytes ps ss are flags blocks left later =
    let behind : AreBehind text fs owners gone k (at + length bytes) hn m outer ss = record { before = left.before; found = left.found; owned = left.owned; rules = left.rules; same = left.same; going = left.going } in
    later k hn m outer flags.1 blocks.1 behind ∙ ap (λ n. gone_by n ps ss) (sym (passed_stays m at (at + length bytes) bytes p are.0))

-- behind the end of a block
close_step : (text : List ℕ) (fs : List Flagged) (owners : List (Option ℕ)) (gone : List Bool) (k at hn m : ℕ) (outer : List ℕ) (p : Plan) (bytes : List ℕ) (ps : List Plan) (ss : List Span)
    → ArePlans at (p ∷ ps) ((record { front = Closes; bytes = bytes }) ∷ ss) → AreByFlags text fs k at (p ∷ ps) ((record { front = Closes; bytes = bytes }) ∷ ss)
    → AreByBlocks (blocks_at text owners gone hn outer at ((record { front = Closes; bytes = bytes }) ∷ ss)) (p ∷ ps) ((record { front = Closes; bytes = bytes }) ∷ ss)
    → AreBehind text fs owners gone k at hn m outer ((record { front = Closes; bytes = bytes }) ∷ ss) → GoneFrom text fs owners gone (at + length bytes) ps ss
    → rules_at text fs k at ((record { front = Closes; bytes = bytes }) ∷ ss) ≡ gone_by m (p ∷ ps) ((record { front = Closes; bytes = bytes }) ∷ ss)
unfolding owners_from holders_from
close_step text fs owners gone k at hn zero outer p bytes ps ss are flags blocks left later =
    let behind : AreBehind text fs owners gone k (at + length bytes) hn 0 (drop 1 outer) ss = record { before = left.before; found = left.found; owned = left.owned; rules = left.rules; same = left.same; going = tt } in
    later k hn 0 (drop 1 outer) flags.1 blocks.1 behind ∙ ap (λ n. gone_by n ps ss) (sym (close_falls at (at + length bytes) bytes p are.0))
close_step text fs owners gone k at hn (suc m) outer p bytes ps ss are flags blocks left later =
    let behind : AreBehind text fs owners gone k (at + length bytes) hn m (drop 1 outer) ss =
    record { before = left.before; found = left.found; owned = left.owned; rules = left.rules; same = left.same; going = going_close m outer _ _ _ _ left.going }
    in
    later k hn m (drop 1 outer) flags.1 blocks.1 behind

-- behind a rule
style_step : (text : List ℕ) (fs : List Flagged) (owners : List (Option ℕ)) (gone : List Bool) (k at hn m : ℕ) (outer : List ℕ) (p : Plan) (len : ℕ) (bytes : List ℕ) (ps : List Plan) (ss : List Span)
    → ArePlans at (p ∷ ps) ((record { front = Styles len; bytes = bytes }) ∷ ss) → AreByFlags text fs k at (p ∷ ps) ((record { front = Styles len; bytes = bytes }) ∷ ss)
    → AreByBlocks (blocks_at text owners gone hn outer at ((record { front = Styles len; bytes = bytes }) ∷ ss)) (p ∷ ps) ((record { front = Styles len; bytes = bytes }) ∷ ss)
    → AreBehind text fs owners gone k at hn m outer ((record { front = Styles len; bytes = bytes }) ∷ ss) → GoneFrom text fs owners gone (at + length bytes) ps ss
    → rules_at text fs k at ((record { front = Styles len; bytes = bytes }) ∷ ss) ≡ gone_by m (p ∷ ps) ((record { front = Styles len; bytes = bytes }) ∷ ss)
unfolding owners_from holders_from gone_rules
style_step text fs owners gone k at hn m outer p len bytes ps ss are flags blocks left later =
    let to = at + length bytes in
    let g = list_all goes (of_rule k fs) && not (is_fixed text k (record { from = at; to = to }) (of_rule k fs)) in
    let os = owners_from hn outer (steps_at to ss) in
    let gs = rules_at text fs (k + 1) to ss in
    let behind : AreBehind text fs owners gone (k + 1) to hn m outer ss =
    record {
      before = left.before ++ innermost outer ∷ [];
      found = left.found ++ g ∷ [];
      owned = left.owned ∙ sym (append_assoc left.before (innermost outer ∷ []) os);
      rules = left.rules ∙ sym (append_assoc left.found (g ∷ []) gs);
      same = length-append left.before (innermost outer ∷ []) ∙ ap (λ n. n + 1) left.same ∙ sym (length-append left.found (g ∷ []));
      going = going_rule m outer (innermost outer) os g gs (insides (holders_from text hn outer (steps_at to ss))) (blocks_at text owners gone hn outer to ss) left.going;
    }
    in
    let first : g ≡ goes_by m p = by m left.going in
    head_tail g (goes_by m p) gs _ first (later (k + 1) hn m outer flags.1 blocks.1 behind ∙ ap (λ n. gone_by n ps ss) (sym (style_stays m at to len bytes p are.0)))
  where
    by : (m : ℕ) → AreGoing m outer (innermost outer ∷ owners_from hn outer (steps_at (at + length bytes) ss)) ((list_all goes (of_rule k fs) && not (is_fixed text k (record { from = at; to = at + length bytes }) (of_rule k fs))) ∷ rules_at text fs (k + 1) (at + length bytes) ss)
        (insides (holders_from text hn outer (steps_at (at + length bytes) ss))) (blocks_at text owners gone hn outer (at + length bytes) ss)
        → (list_all goes (of_rule k fs) && not (is_fixed text k (record { from = at; to = at + length bytes }) (of_rule k fs))) ≡ goes_by m p
    by zero going = rule_by text fs k at (at + length bytes) p (record { front = Styles len; bytes = bytes }) len refl refl are.0 flags.0
    by (suc m) going = rule_goes m outer _ _ _ _ _ going

-- behind the `{` of a block that holds rules
open_step : (text : List ℕ) (fs : List Flagged) (owners : List (Option ℕ)) (gone : List Bool) (k at hn m : ℕ) (outer : List ℕ) (p : Plan) (bytes : List ℕ) (ps : List Plan) (ss : List Span)
    → ArePlans at (p ∷ ps) ((record { front = Opens; bytes = bytes }) ∷ ss) → AreByFlags text fs k at (p ∷ ps) ((record { front = Opens; bytes = bytes }) ∷ ss)
    → AreByBlocks (blocks_at text owners gone hn outer at ((record { front = Opens; bytes = bytes }) ∷ ss)) (p ∷ ps) ((record { front = Opens; bytes = bytes }) ∷ ss)
    → AreBehind text fs owners gone k at hn m outer ((record { front = Opens; bytes = bytes }) ∷ ss) → GoneFrom text fs owners gone (at + length bytes) ps ss
    → rules_at text fs k at ((record { front = Opens; bytes = bytes }) ∷ ss) ≡ gone_by m (p ∷ ps) ((record { front = Opens; bytes = bytes }) ∷ ss)
unfolding owners_from holders_from holder_of gone_holders
open_step text fs owners gone k at hn m outer p bytes ps ss are flags blocks left later = by m p are.0 blocks.0 left.going
  where
    to : ℕ
    to = at + length bytes

    here : Span
    here = record { front = Opens; bytes = bytes }

    all : first_flag (blocks_at text owners gone hn outer at (here ∷ ss)) ≡ true
        → AllGo hn (owners_from (hn + 1) (hn ∷ outer) (steps_at to ss)) (rules_at text fs k to ss) × AllGo hn (insides (holders_from text (hn + 1) (hn ∷ outer) (steps_at to ss))) (blocks_at text owners gone (hn + 1) (hn ∷ outer) to ss)
    all goes_first =
        let both = holder_all owners gone hn (holder_of text outer (record { front = Opens; from = at; to = to }) (steps_at to ss)) (holders_from text (hn + 1) (hn ∷ outer) (steps_at to ss)) goes_first in
        (left_go hn owners left.before (owners_from (hn + 1) (hn ∷ outer) (steps_at to ss)) gone left.found (rules_at text fs k to ss) left.owned left.rules left.same both.0, both.1)

    on : (m2 : ℕ) → AreGoing m2 (hn ∷ outer) (owners_from (hn + 1) (hn ∷ outer) (steps_at to ss)) (rules_at text fs k to ss) (insides (holders_from text (hn + 1) (hn ∷ outer) (steps_at to ss))) (blocks_at text owners gone (hn + 1) (hn ∷ outer) to ss)
        → rules_at text fs k to ss ≡ gone_by m2 ps ss
    on m2 going = later k (hn + 1) m2 (hn ∷ outer) flags.1 blocks.1 (record { before = left.before; found = left.found; owned = left.owned; rules = left.rules; same = left.same; going = going })

    by : (m : ℕ) (p : Plan) → IsPlan at to here p → IsByBlock (blocks_at text owners gone hn outer at (here ∷ ss)) p
        → AreGoing m outer (owners_from hn outer (steps_at at (here ∷ ss))) (rules_at text fs k at (here ∷ ss)) (insides (holders_from text hn outer (steps_at at (here ∷ ss)))) (blocks_at text owners gone hn outer at (here ∷ ss))
        → rules_at text fs k to ss ≡ gone_by (going_after m p Opens) ps ss
    by zero keep is block going = on 0 tt
    by zero drop_rule is block going = absurd is
    by zero drop_block is block going = let both = all block in on 1 (both.0, both.1, tt)
    by zero (relist rs ts) is block going = absurd is.0
    by (suc m) p is block going =
        let both = all (block_goes m outer _ _ _ _ _ going) in
        on (suc (suc m)) (both.0, both.1, going_block (suc m) outer (owners_from (hn + 1) (hn ∷ outer) (steps_at to ss)) (rules_at text fs k to ss) _ (insides (holders_from text (hn + 1) (hn ∷ outer) (steps_at to ss))) _ (blocks_at text owners gone (hn + 1) (hn ∷ outer) to ss) going)

-- ---- all spans

front_step : (text : List ℕ) (fs : List Flagged) (owners : List (Option ℕ)) (gone : List Bool) (k at hn m : ℕ) (outer : List ℕ) (p : Plan) (f : Front) (bytes : List ℕ) (ps : List Plan) (ss : List Span)
    → ArePlans at (p ∷ ps) ((record { front = f; bytes = bytes }) ∷ ss) → AreByFlags text fs k at (p ∷ ps) ((record { front = f; bytes = bytes }) ∷ ss)
    → AreByBlocks (blocks_at text owners gone hn outer at ((record { front = f; bytes = bytes }) ∷ ss)) (p ∷ ps) ((record { front = f; bytes = bytes }) ∷ ss)
    → AreBehind text fs owners gone k at hn m outer ((record { front = f; bytes = bytes }) ∷ ss) → GoneFrom text fs owners gone (at + length bytes) ps ss
    → rules_at text fs k at ((record { front = f; bytes = bytes }) ∷ ss) ≡ gone_by m (p ∷ ps) ((record { front = f; bytes = bytes }) ∷ ss)
front_step text fs owners gone k at hn m outer p Passed bytes ps ss are flags blocks left later = passed_step text fs owners gone k at hn m outer p bytes ps ss are flags blocks left later
front_step text fs owners gone k at hn m outer p Closes bytes ps ss are flags blocks left later = close_step text fs owners gone k at hn m outer p bytes ps ss are flags blocks left later
front_step text fs owners gone k at hn m outer p (Styles len) bytes ps ss are flags blocks left later = style_step text fs owners gone k at hn m outer p len bytes ps ss are flags blocks left later
front_step text fs owners gone k at hn m outer p Opens bytes ps ss are flags blocks left later = open_step text fs owners gone k at hn m outer p bytes ps ss are flags blocks left later

gone_from : (text : List ℕ) (fs : List Flagged) (owners : List (Option ℕ)) (gone : List Bool) (ss : List Span) (at : ℕ) (ps : List Plan) → ArePlans at ps ss → GoneFrom text fs owners gone at ps ss
unfolding gone_rules
gone_from text fs owners gone [] at [] are k hn m outer flags blocks left = refl
gone_from text fs owners gone [] at (p ∷ ps) are k hn m outer flags blocks left = absurd are
gone_from text fs owners gone (s ∷ ss) at [] are k hn m outer flags blocks left = absurd are
gone_from text fs owners gone (s ∷ ss) at (p ∷ ps) are k hn m outer flags blocks left =
    front_step text fs owners gone k at hn m outer p s.front s.bytes ps ss are flags blocks left (gone_from text fs owners gone ss (at + length s.bytes) ps are.1)

-- The rules of a sheet that go, by what becomes of its spans.
pub gone_are : (text : List ℕ) (sheet : Sheet) (flags : List Bool) (is : IsPrunedTo text sheet flags) → sheet.rules ≡ ranges_of (rules_in (steps_at (mark_size text) (spans_of text)))
    → gone_rules text 0 sheet.rules (with_flags sheet.items flags) ≡ gone_by 0 is.plans (spans_of text)
unfolding owners_of holders_of
gone_are text sheet flags is rules =
    let fs = with_flags sheet.items flags in
    let at = mark_size text in
    let ss = spans_of text in
    let gone = gone_rules text 0 sheet.rules fs in
    let here : gone ≡ rules_at text fs 0 at ss = ap (λ (rs : List Range). gone_rules text 0 rs fs) rules in
    let steps = steps_are text in
    let owned : owners_of text ≡ owners_from 0 [] (steps_at at ss) = ap (owners_from 0 []) steps in
    let blocks : AreByBlocks (blocks_at text (owners_of text) gone 0 [] at ss) is.plans ss = subst (λ (st : List Rattle.css_read.specs.Holders.Step). AreByBlocks (gone_holders (owners_of text) gone 0 (holders_from text 0 [] st)) is.plans ss) steps is.blocks_are in
    here ∙ gone_from text fs (owners_of text) gone ss at is.plans is.are 0 0 0 [] is.flags_are blocks (record { before = []; found = []; owned = owned; rules = here; same = refl; going = tt })
