-- What is found from left to right is what the definitions say, which look ahead for the end of each block.
use Rattle.std.proofs.Common.{◌≡◌, ℕ, zero, suc, ◌+◌, ◌-◌, ◌≤◌, ◌<◌, ◌==◌, ◌&&◌, ◌||◌, nat_lt, Bool, true, false, if◌then◌else◌, List, [], ◌∷◌, ◌++◌, length, drop, refl, sym, ap, ◌∙◌, arith, length-append, append_assoc, append-nil}
use Rattle.std.proofs.lemmas.Bool.Decides.{nat_tests}
use Rattle.tp_base.proofs.Truths.{and_true, and_false, or_true}
use Rattle.text_bytes.specs.OrderMark.{behind_order_mark}
use Rattle.css_read.specs.declared.fronts.Front.{Front}
use Rattle.css_read.specs.declared.fronts.Front.TheVariants.{Passed, Opens, Closes, Styles}
use Rattle.css_read.specs.declared.holders.Holder.{Holder}
use Rattle.css_read.specs.FoundHolders.{Found, none_found, changed, innermost_changed, not_bare, ended_at, begun, passed_over, found_after, found_from}
use Rattle.css_read.specs.Holders.{Step, steps_from, steps_of, ends_block, in_block, last_end, is_plain, is_bare, innermost, holder_of, holders_from, holders_of, owners_from, owners_of}
use Rattle.css_read.specs.Rules.{next_front, depth_after}
use Rattle.css_read.specs.Units.{begins_gap}
use Rattle.css_read.proofs.FrontLemmas.{front_end}
use Rattle.css_read.proofs.Lengths.{mark_no_longer}

-- ---- one changed

pub length-changed : (f : Holder → Holder) (n : ℕ) (hs : List Holder) → length (changed f n hs) ≡ length hs
length-changed f n [] = refl
length-changed f zero (h ∷ hs) = refl
length-changed f (suc n) (h ∷ hs) = ap suc (length-changed f n hs)

changed_same : (f g : Holder → Holder) → ((h : Holder) → f h ≡ g h) → (n : ℕ) (hs : List Holder) → changed f n hs ≡ changed g n hs
changed_same f g same n [] = refl
changed_same f g same zero (h ∷ hs) = ap (λ (k : Holder). k ∷ hs) (same h)
changed_same f g same (suc n) (h ∷ hs) = ap (λ (ks : List Holder). h ∷ ks) (changed_same f g same n hs)

changed_twice : (f g : Holder → Holder) (n : ℕ) (hs : List Holder) → changed g n (changed f n hs) ≡ changed (λ h. g (f h)) n hs
changed_twice f g n [] = refl
changed_twice f g zero (h ∷ hs) = refl
changed_twice f g (suc n) (h ∷ hs) = ap (λ (ks : List Holder). h ∷ ks) (changed_twice f g n hs)

changed_before : (f : Holder → Holder) (n : ℕ) (hs : List Holder) (h : Holder) → n < length hs → changed f n (hs ++ h ∷ []) ≡ changed f n hs ++ h ∷ []
changed_before f n [] h less = absurd (omega arith)
changed_before f zero (k ∷ hs) h less = refl
changed_before f (suc n) (k ∷ hs) h less = ap (λ (ks : List Holder). k ∷ ks) (changed_before f n hs h (omega arith))

changed_last : (f : Holder → Holder) (hs : List Holder) (h : Holder) → changed f (length hs) (hs ++ h ∷ []) ≡ hs ++ f h ∷ []
changed_last f [] h = refl
changed_last f (k ∷ hs) h = ap (λ (ks : List Holder). k ∷ ks) (changed_last f hs h)

-- ---- what the steps that are left make of an open holder, in whose block n others are open

-- where its block ends, if it does
abbrev end_or : ℕ → ℕ → List Step → ℕ
end_or to n [] = to
end_or to n (s ∷ ss) = if ends_block n s.front then s.to else end_or to (depth_after n s.front) ss

abbrev finish : List ℕ → ℕ → List Step → Holder → Holder
finish text n ss h = record h { to = end_or h.to n ss; bare = h.bare && is_bare text n (in_block n ss) }

-- of all that are open, the innermost first
abbrev finish_all : List ℕ → ℕ → List Step → List ℕ → List Holder → List Holder
finish_all text n ss [] hs = hs
finish_all text n ss (k ∷ outer) hs = finish_all text (suc n) ss outer (changed (finish text n ss) k hs)

-- each of some numbers is below the one before it, and the first below another
abbrev pub Descends : ℕ → List ℕ → Type 0
Descends n [] = Unit {0}
Descends n (k ∷ outer) = (k < n) × Descends k outer

descends_below : (n m : ℕ) (outer : List ℕ) → n ≤ m → Descends n outer → Descends m outer
descends_below n m [] less below = tt
descends_below n m (k ∷ outer) less below = (omega (arith, less, below.0), below.1)

length-finish_all : (text : List ℕ) (n : ℕ) (ss : List Step) (outer : List ℕ) (hs : List Holder) → length (finish_all text n ss outer hs) ≡ length hs
length-finish_all text n ss [] hs = refl
length-finish_all text n ss (k ∷ outer) hs = length-finish_all text (suc n) ss outer (changed (finish text n ss) k hs) ∙ length-changed (finish text n ss) k hs

finish_before : (text : List ℕ) (n : ℕ) (ss : List Step) (outer : List ℕ) (hs : List Holder) (h : Holder) → Descends (length hs) outer → finish_all text n ss outer (hs ++ h ∷ []) ≡ finish_all text n ss outer hs ++ h ∷ []
finish_before text n ss [] hs h below = refl
finish_before text n ss (k ∷ outer) hs h below =
    let f = finish text n ss in
    ap (finish_all text (suc n) ss outer) (changed_before f k hs h below.0)
    ∙ finish_before text (suc n) ss outer (changed f k hs) h (descends_below k (length (changed f k hs)) outer (omega (arith, length-changed f k hs, below.0)) below.1)

changed_none : (f : Holder → Holder) → ((h : Holder) → f h ≡ h) → (n : ℕ) (hs : List Holder) → changed f n hs ≡ hs
changed_none f same n [] = refl
changed_none f same zero (h ∷ hs) = ap (λ (k : Holder). k ∷ hs) (same h)
changed_none f same (suc n) (h ∷ hs) = ap (λ (ks : List Holder). h ∷ ks) (changed_none f same n hs)

-- nothing is left
finish_end : (text : List ℕ) (n : ℕ) (outer : List ℕ) (hs : List Holder) → finish_all text n [] outer hs ≡ hs
unfolding in_block is_bare
finish_end text n [] hs = refl
finish_end text n (k ∷ outer) hs = ap (finish_all text (suc n) [] outer) (changed_none (finish text n []) (λ h. ap (λ (b : Bool). record h { bare = b }) (and_true h.bare)) k hs) ∙ finish_end text (suc n) outer hs

-- two lists of steps that make the same of each holder, at levels that rise together
finish_same : (text : List ℕ) (ss ts : List Step) (p q : ℕ → ℕ) → ((i : ℕ) → p (suc i) ≡ suc (p i)) → ((i : ℕ) → q (suc i) ≡ suc (q i)) → ((i : ℕ) (h : Holder) → finish text (p i) ss h ≡ finish text (q i) ts h)
    → (i : ℕ) (outer : List ℕ) (hs : List Holder) → finish_all text (p i) ss outer hs ≡ finish_all text (q i) ts outer hs
finish_same text ss ts p q up rise same i [] hs = refl
finish_same text ss ts p q up rise same i (k ∷ outer) hs =
    ap (finish_all text (suc (p i)) ss outer) (changed_same (finish text (p i) ss) (finish text (q i) ts) (same i) k hs)
    ∙ ap (λ (n : ℕ). finish_all text n ss outer (changed (finish text (q i) ts) k hs)) (sym (up i))
    ∙ finish_same text ss ts p q up rise same (suc i) outer (changed (finish text (q i) ts) k hs)
    ∙ ap (λ (n : ℕ). finish_all text n ts outer (changed (finish text (q i) ts) k hs)) (rise i)

-- ---- one step

abbrev step_at : Front → ℕ → ℕ → Step
step_at f from to = record { front = f; from = from; to = to }

-- a step that ends no block and is plain
bare_plain : (x b : Bool) → x ≡ true → (x && b) ≡ b
bare_plain true b is = refl
bare_plain false b is = absurd (wrong is)
  where
    wrong : false ≡ true → ⊥
    wrong same = cc

goes_on : (text : List ℕ) (n m : ℕ) (s : Step) (ss : List Step) → ends_block n s.front ≡ false → depth_after n s.front ≡ m → (nat_lt 0 n || is_plain text s) ≡ true → (h : Holder) → finish text n (s ∷ ss) h ≡ finish text m ss h
unfolding in_block is_bare
goes_on text n m s ss stays depth plain h =
    rw (stays, depth) (ap (λ (b : Bool). record h { to = end_or h.to m ss; bare = h.bare && b }) (bare_plain (nat_lt 0 n || is_plain text s) (is_bare text m (in_block m ss)) plain))

some_open : (n : ℕ) (x : Bool) → (nat_lt 0 (suc n) || x) ≡ true
some_open n x = let over : nat_lt 0 (suc n) ≡ true = grind (arith, nat_tests) in ap (λ (b : Bool). b || x) over

spoiled : (text : List ℕ) (from to : ℕ) (ss : List Step) → begins_gap (drop from text) ≡ false → (h : Holder) → finish text 0 (step_at Passed from to ∷ ss) h ≡ finish text 0 ss (not_bare h)
unfolding in_block is_bare
spoiled text from to ss gap h = rw gap (ap (λ (b : Bool). record h { to = end_or h.to 0 ss; bare = b }) (and_false h.bare))

closed : (text : List ℕ) (from to : ℕ) (ss : List Step) (h : Holder) → finish text 0 (step_at Closes from to ∷ ss) h ≡ ended_at to h
unfolding in_block is_bare
closed text from to ss h = ap (λ (b : Bool). record h { to = to; bare = b }) (and_true h.bare)

-- a block that the file's end closes ends there
end_is : (size n at : ℕ) (ss : List Step) → last_end at ss ≡ size → last_end at (in_block n ss) ≡ end_or size n ss
unfolding in_block
end_is size n at [] end = end
end_is size n at (s ∷ ss) end = by (ends_block n s.front) (end_is size (depth_after n s.front) s.to ss end)
  where
    by : (test : Bool) → last_end s.to (in_block (depth_after n s.front) ss) ≡ end_or size (depth_after n s.front) ss → last_end s.to (if test then [] else in_block (depth_after n s.front) ss) ≡ (if test then s.to else end_or size (depth_after n s.front) ss)
    by true later = refl
    by false later = later

-- ---- all steps

abbrev Says : List ℕ → Found → List Step → Type 0
Says text f ss = (found_from text f ss).holders ≡ finish_all text 0 ss f.opened f.holders ++ holders_from text (length f.holders) f.opened ss

abbrev pub AreOpen : Found → Type 0
AreOpen f = Descends (length f.holders) f.opened

plain_says : (text : List ℕ) (f : Found) (s : Step) (ss : List Step) → ((n : ℕ) → ends_block n s.front ≡ false) → ((n : ℕ) → depth_after n s.front ≡ n) → is_plain text s ≡ true
    → finish_all text 0 (s ∷ ss) f.opened f.holders ≡ finish_all text 0 ss f.opened f.holders
plain_says text f s ss stays depth plain =
    finish_same text (s ∷ ss) ss (λ i. i) (λ i. i) (λ i. refl) (λ i. refl) (λ i h. goes_on text i i s ss (stays i) (depth i) (ap (λ (b : Bool). nat_lt 0 i || b) plain ∙ or_true (nat_lt 0 i)) h) 0 f.opened f.holders

passed_step : (text : List ℕ) (gap : Bool) (f : Found) (from to : ℕ) (ss : List Step) → begins_gap (drop from text) ≡ gap → (found_from text f (step_at Passed from to ∷ ss)).holders ≡ (found_from text (passed_over gap f) ss).holders
unfolding found_from
passed_step text gap f from to ss is = ap (λ (g : Bool). (found_from text (passed_over g f) ss).holders) is

passed_says : (text : List ℕ) (gap : Bool) (f : Found) (from to : ℕ) (ss : List Step) → begins_gap (drop from text) ≡ gap → Says text (passed_over gap f) ss → Says text f (step_at Passed from to ∷ ss)
unfolding holders_from
passed_says text true f from to ss gap later =
    passed_step text true f from to ss gap ∙ later
    ∙ ap (λ (hs : List Holder). hs ++ holders_from text (length f.holders) f.opened ss) (sym (plain_says text f (step_at Passed from to) ss (λ n. refl) (λ n. refl) gap))
passed_says text false f from to ss gap later = passed_step text false f from to ss gap ∙ later ∙ by f.opened
  where
    by : (outer : List ℕ)
        → finish_all text 0 ss outer (innermost_changed not_bare outer f.holders) ++ holders_from text (length (innermost_changed not_bare outer f.holders)) outer ss
        ≡ finish_all text 0 (step_at Passed from to ∷ ss) outer f.holders ++ holders_from text (length f.holders) outer ss
    by [] = refl
    by (k ∷ outer) =
        let all = step_at Passed from to ∷ ss in
        let count : length (changed not_bare k f.holders) ≡ length f.holders = length-changed not_bare k f.holders in
        let first : changed (finish text 0 ss) k (changed not_bare k f.holders) ≡ changed (finish text 0 all) k f.holders =
        changed_twice not_bare (finish text 0 ss) k f.holders ∙ changed_same (λ h. finish text 0 ss (not_bare h)) (finish text 0 all) (λ h. sym (spoiled text from to ss gap h)) k f.holders
        in
        let others : finish_all text 1 ss outer (changed (finish text 0 all) k f.holders) ≡ finish_all text 1 all outer (changed (finish text 0 all) k f.holders) =
        finish_same text ss all suc suc (λ i. refl) (λ i. refl) (λ i h. sym (goes_on text (suc i) (suc i) (step_at Passed from to) ss refl refl (some_open i _) h)) 0 outer (changed (finish text 0 all) k f.holders)
        in
        ap (λ (hs : List Holder). finish_all text 1 ss outer hs ++ holders_from text (length (changed not_bare k f.holders)) (k ∷ outer) ss) first
        ∙ ap (λ (hs : List Holder). hs ++ holders_from text (length (changed not_bare k f.holders)) (k ∷ outer) ss) others
        ∙ ap (λ (m : ℕ). finish_all text 1 all outer (changed (finish text 0 all) k f.holders) ++ holders_from text m (k ∷ outer) ss) count

opened_says : (text : List ℕ) (f : Found) (from to : ℕ) (ss : List Step) → AreOpen f → last_end to ss ≡ length text → Says text (found_after text f Opens from to) ss → Says text f (step_at Opens from to ∷ ss)
unfolding found_from holders_from holder_of
opened_says text f from to ss are end later =
    let n = length f.holders in
    let new = begun text f.opened from to in
    let s = step_at Opens from to in
    let count : length (f.holders ++ new ∷ []) ≡ n + 1 = length-append f.holders (new ∷ []) in
    let last : changed (finish text 0 ss) n (f.holders ++ new ∷ []) ≡ f.holders ++ finish text 0 ss new ∷ [] = changed_last (finish text 0 ss) f.holders new in
    let before : finish_all text 1 ss f.opened (f.holders ++ finish text 0 ss new ∷ []) ≡ finish_all text 1 ss f.opened f.holders ++ finish text 0 ss new ∷ [] = finish_before text 1 ss f.opened f.holders (finish text 0 ss new) are in
    let up : finish_all text 1 ss f.opened f.holders ≡ finish_all text 0 (s ∷ ss) f.opened f.holders =
    finish_same text ss (s ∷ ss) suc (λ i. i) (λ i. refl) (λ i. refl) (λ i h. sym (goes_on text i (suc i) s ss refl (one_more i) (or_true (nat_lt 0 i)) h)) 0 f.opened f.holders
    in
    let holder : finish text 0 ss new ≡ holder_of text f.opened s ss = ap (λ (k : ℕ). record new { to = k; bare = is_bare text 0 (in_block 0 ss) }) (sym (end_is (length text) 0 to ss end)) in
    let others = holders_from text (n + 1) (n ∷ f.opened) ss in
    later
    ∙ ap (λ (hs : List Holder). finish_all text 1 ss f.opened hs ++ holders_from text (length (f.holders ++ new ∷ [])) (n ∷ f.opened) ss) last
    ∙ ap (λ (m : ℕ). finish_all text 1 ss f.opened (f.holders ++ finish text 0 ss new ∷ []) ++ holders_from text m (n ∷ f.opened) ss) count
    ∙ ap (λ (hs : List Holder). hs ++ others) (before ∙ ap (λ (hs : List Holder). hs ++ finish text 0 ss new ∷ []) up ∙ ap (λ (h : Holder). finish_all text 0 (s ∷ ss) f.opened f.holders ++ h ∷ []) holder)
    ∙ append_assoc (finish_all text 0 (s ∷ ss) f.opened f.holders) (holder_of text f.opened s ss ∷ []) others
  where
    one_more : (i : ℕ) → i + 1 ≡ suc i
    one_more i = omega arith

closed_says : (text : List ℕ) (f : Found) (from to : ℕ) (ss : List Step) → Says text (found_after text f Closes from to) ss → Says text f (step_at Closes from to ∷ ss)
unfolding found_from holders_from
closed_says text f from to ss later = later ∙ by f.opened
  where
    one_less : (i : ℕ) → suc i - 1 ≡ i
    one_less i = omega arith

    not_none : (i : ℕ) → (suc i == 0) ≡ false
    not_none i = grind (arith, nat_tests)

    by : (outer : List ℕ)
        → finish_all text 0 ss (drop 1 outer) (innermost_changed (ended_at to) outer f.holders) ++ holders_from text (length (innermost_changed (ended_at to) outer f.holders)) (drop 1 outer) ss
        ≡ finish_all text 0 (step_at Closes from to ∷ ss) outer f.holders ++ holders_from text (length f.holders) (drop 1 outer) ss
    by [] = refl
    by (k ∷ outer) =
        let s = step_at Closes from to in
        let count : length (changed (ended_at to) k f.holders) ≡ length f.holders = length-changed (ended_at to) k f.holders in
        let first : changed (finish text 0 (s ∷ ss)) k f.holders ≡ changed (ended_at to) k f.holders = changed_same (finish text 0 (s ∷ ss)) (ended_at to) (closed text from to ss) k f.holders in
        let others : finish_all text 1 (s ∷ ss) outer (changed (ended_at to) k f.holders) ≡ finish_all text 0 ss outer (changed (ended_at to) k f.holders) =
        finish_same text (s ∷ ss) ss suc (λ i. i) (λ i. refl) (λ i. refl) (λ i h. goes_on text (suc i) i s ss (not_none i) (one_less i) (some_open i _) h) 0 outer (changed (ended_at to) k f.holders)
        in
        ap (λ (m : ℕ). finish_all text 0 ss outer (changed (ended_at to) k f.holders) ++ holders_from text m outer ss) count
        ∙ ap (λ (hs : List Holder). hs ++ holders_from text (length f.holders) outer ss) (sym others)
        ∙ ap (λ (hs : List Holder). finish_all text 1 (s ∷ ss) outer hs ++ holders_from text (length f.holders) outer ss) (sym first)

styled_says : (text : List ℕ) (f : Found) (len from to : ℕ) (ss : List Step) → Says text (found_after text f (Styles len) from to) ss → Says text f (step_at (Styles len) from to ∷ ss)
unfolding found_from holders_from
styled_says text f len from to ss later = later ∙ ap (λ (hs : List Holder). hs ++ holders_from text (length f.holders) f.opened ss) (sym (plain_says text f (step_at (Styles len) from to) ss (λ n. refl) (λ n. refl) refl))

-- those that are open stay so
open_after_step : (text : List ℕ) (f : Found) (front : Front) (from to : ℕ) → AreOpen f → AreOpen (found_after text f front from to)
open_after_step text f Passed from to are = by (begins_gap (drop from text))
  where
    by : (gap : Bool) → AreOpen (passed_over gap f)
    by true = are
    by false = go f.opened are
      where
        go : (outer : List ℕ) → Descends (length f.holders) outer → Descends (length (innermost_changed not_bare outer f.holders)) outer
        go [] is = tt
        go (k ∷ outer) is = rw (length-changed not_bare k f.holders) is
open_after_step text f Opens from to are = (omega (arith, length-append f.holders (begun text f.opened from to ∷ [])), are)
open_after_step text f Closes from to are = go f.opened are
  where
    go : (outer : List ℕ) → Descends (length f.holders) outer → Descends (length (innermost_changed (ended_at to) outer f.holders)) (drop 1 outer)
    go [] is = tt
    go (k ∷ outer) is = descends_below k (length (changed (ended_at to) k f.holders)) outer (omega (arith, length-changed (ended_at to) k f.holders, is.0)) is.1
open_after_step text f (Styles len) from to are = are

step_says : (text : List ℕ) (f : Found) (front : Front) (from to : ℕ) (ss : List Step) → AreOpen f → last_end to ss ≡ length text → Says text (found_after text f front from to) ss → Says text f (step_at front from to ∷ ss)
step_says text f Passed from to ss are end later = passed_says text (begins_gap (drop from text)) f from to ss refl later
step_says text f Opens from to ss are end later = opened_says text f from to ss are end later
step_says text f Closes from to ss are end later = closed_says text f from to ss later
step_says text f (Styles len) from to ss are end later = styled_says text f len from to ss later

all_say : (text : List ℕ) (ss : List Step) (at : ℕ) (f : Found) → AreOpen f → last_end at ss ≡ length text → Says text f ss
unfolding found_from holders_from
all_say text [] at f are end = sym (append-nil (finish_all text 0 [] f.opened f.holders) ∙ finish_end text 0 f.opened f.holders)
all_say text (s ∷ ss) at f are end = step_says text f s.front s.from s.to ss are end (all_say text ss s.to (found_after text f s.front s.from s.to) (open_after_step text f s.front s.from s.to are) end)

-- ---- owners

length-innermost : (g : Holder → Holder) (outer : List ℕ) (hs : List Holder) → length (innermost_changed g outer hs) ≡ length hs
length-innermost g [] hs = refl
length-innermost g (k ∷ outer) hs = length-changed g k hs

abbrev Owns : List ℕ → Found → List Step → Type 0
Owns text f ss = (found_from text f ss).owners ≡ f.owners ++ owners_from (length f.holders) f.opened ss

owned_step : (text : List ℕ) (f : Found) (front : Front) (from to : ℕ) (ss : List Step) → Owns text (found_after text f front from to) ss → Owns text f (step_at front from to ∷ ss)
unfolding found_from owners_from
owned_step text f Passed from to ss later = later ∙ by (begins_gap (drop from text))
  where
    by : (gap : Bool) → (passed_over gap f).owners ++ owners_from (length (passed_over gap f).holders) (passed_over gap f).opened ss ≡ f.owners ++ owners_from (length f.holders) f.opened ss
    by true = refl
    by false = ap (λ (n : ℕ). f.owners ++ owners_from n f.opened ss) (length-innermost not_bare f.opened f.holders)
owned_step text f Opens from to ss later = later ∙ ap (λ (n : ℕ). f.owners ++ owners_from n (length f.holders ∷ f.opened) ss) (length-append f.holders (begun text f.opened from to ∷ []))
owned_step text f Closes from to ss later = later ∙ ap (λ (n : ℕ). f.owners ++ owners_from n (drop 1 f.opened) ss) (length-innermost (ended_at to) f.opened f.holders)
owned_step text f (Styles len) from to ss later = later ∙ append_assoc f.owners (innermost f.opened ∷ []) (owners_from (length f.holders) f.opened ss)

all_own : (text : List ℕ) (ss : List Step) (f : Found) → Owns text f ss
unfolding found_from owners_from
all_own text [] f = sym (append-nil f.owners)
all_own text (s ∷ ss) f = owned_step text f s.front s.from s.to ss (all_own text ss (found_after text f s.front s.from s.to))

-- ---- a text

ends_with : (size depth skip : ℕ) (bs : List ℕ) → length bs ≤ size → last_end (size - (length bs - skip)) (steps_from size depth skip bs) ≡ size
unfolding steps_from
ends_with size depth skip [] within = omega arith
ends_with size depth (suc skip) (b ∷ bs) within = let same : length (b ∷ bs) - suc skip ≡ length bs - skip = omega arith in rw same (ends_with size depth skip bs (omega arith))
ends_with size depth zero (b ∷ bs) within =
    let begun = next_front (nat_lt 0 depth) (b ∷ bs) in
    let end = front_end (nat_lt 0 depth) b bs in
    let few = ap length end.whole ∙ length-append end.front begun.1 in
    let same : length bs - (length bs - length begun.1) ≡ length begun.1 = omega arith in
    rw same at (ends_with size (depth_after depth begun.0) (length bs - length begun.1) bs (omega arith))

pub holders_found : (text : List ℕ) → (found_from text none_found (steps_of text)).holders ≡ holders_of text
unfolding holders_of steps_of
holders_found text = all_say text (steps_of text) (length text - (length (behind_order_mark text) - 0)) none_found tt (ends_with (length text) 0 0 (behind_order_mark text) (mark_no_longer text))

pub owners_found : (text : List ℕ) → (found_from text none_found (steps_of text)).owners ≡ owners_of text
unfolding owners_of
owners_found text = all_own text (steps_of text) none_found
