-- What stands in the block of each holder, from the last holder to the first.
use Rattle.std.proofs.Common.{◌≡◌, ℕ, ◌+◌, ◌<◌, ◌≤◌, ◌&&◌, Bool, true, false, if◌then◌else◌, List, [], ◌∷◌, ◌++◌, length, drop, set, get_or, replicate, Option, refl, sym, ap, ◌∙◌, arith}
use Rattle.std.specs.List.{list_all}
use Rattle.std.proofs.lemmas.List.{append-nil, length-replicate, get_or-replicate, drop_all, drop_more, drop-set, get_or_read}
use Rattle.css_read.specs.declared.holders.Holder.{Holder}
use Rattle.css_read.specs.Pruned.{is_owner, held_by, insides, all_of_some, gone_holders}
use Rattle.css_prune.specs.declared.holders.Held.{Held}
use Rattle.css_prune.specs.declared.holders.Held.TheVariants.{Nothing, Gone, Stays}
use Rattle.css_prune.specs.Holding.{and_one, and_all, all_go, AreTold}

-- ---- the order doesn't count

swap : (h : Held) (f g : Bool) → and_one (and_one h f) g ≡ and_one (and_one h g) f
swap Stays f g = refl
swap Nothing true true = refl
swap Nothing true false = refl
swap Nothing false true = refl
swap Nothing false false = refl
swap Gone true true = refl
swap Gone true false = refl
swap Gone false true = refl
swap Gone false false = refl

one_later : (h : Held) (g : Bool) (gs : List Bool) → and_all (and_one h g) gs ≡ and_one (and_all h gs) g
one_later h g [] = refl
one_later h g (f ∷ fs) = ap (λ x. and_all x fs) (swap h g f) ∙ one_later (and_one h f) g fs

among : (h : Held) (fs gs : List Bool) (g : Bool) → and_all h (fs ++ g ∷ gs) ≡ and_one (and_all h (fs ++ gs)) g
among h [] gs g = one_later h g gs
among h (f ∷ fs) gs g = among (and_one h f) fs gs g

-- ---- whether all of some go

some_stay : (gs : List Bool) → and_all Stays gs ≡ Stays
some_stay [] = refl
some_stay (g ∷ gs) = some_stay gs

so_far : (gs : List Bool) → all_go (and_all Gone gs) ≡ list_all (λ x. x) gs
so_far [] = refl
so_far (true ∷ gs) = so_far gs
so_far (false ∷ gs) = ap all_go (some_stay gs)

pub all_told : (gs : List Bool) → all_go (and_all Nothing gs) ≡ all_of_some gs
all_told [] = refl
all_told (true ∷ gs) = so_far gs
all_told (false ∷ gs) = ap all_go (some_stay gs)

-- ---- rules, one after the other

told_first : (t : Bool) (h : Held) (g : Bool) (gs : List Bool) → and_all (if t then and_one h g else h) gs ≡ and_all h (if t then g ∷ gs else gs)
told_first true h g gs = refl
told_first false h g gs = refl

pub rule_told : (n : ℕ) (owner : Option ℕ) (owners : List (Option ℕ)) (g : Bool) (gs : List Bool) (old new : List Held) → AreTold owner g old new → n < length old
    → and_all (get_or new n Nothing) (held_by n owners gs) ≡ and_all (get_or old n Nothing) (held_by n (owner ∷ owners) (g ∷ gs))
rule_told n owner owners g gs old new told within =
    ap (λ h. and_all h (held_by n owners gs)) (told.each n within) ∙ told_first (is_owner n owner) (get_or old n Nothing) g (held_by n owners gs)

-- ---- holders, from the last one on

pub record AreAll (owners : List (Option ℕ)) (rules : List Bool) (hs : List Holder) (later : List Bool) (held : List Held) : Type 0 where
  pub each : (n : ℕ) → n < length held → get_or held n Nothing ≡ and_all Nothing (held_by n owners rules ++ held_by n (insides hs) later)

told_among : (t : Bool) (h : Held) (fs gs : List Bool) (g : Bool) → h ≡ and_all Nothing (fs ++ gs) → (if t then and_one h g else h) ≡ and_all Nothing (fs ++ (if t then g ∷ gs else gs))
told_among true h fs gs g is = ap (λ x. and_one x g) is ∙ sym (among Nothing fs gs g)
told_among false h fs gs g is = is

pub holder_told : (owners : List (Option ℕ)) (rules : List Bool) (h : Holder) (hs : List Holder) (g : Bool) (later : List Bool) (old new : List Held)
    → AreAll owners rules hs later old → AreTold h.inside g old new → AreAll owners rules (h ∷ hs) (g ∷ later) new
holder_told owners rules h hs g later old new all told = record {
  each = λ n within.
      let before : n < length old = omega (arith, told.count) in
      told.each n before ∙ told_among (is_owner n h.inside) (get_or old n Nothing) (held_by n owners rules) (held_by n (insides hs) later) g (all.each n before);
}

pub next_gone : (owners : List (Option ℕ)) (rules : List Bool) (n : ℕ) (h : Holder) (hs : List Holder) (later : List Bool) (held : List Held)
    → AreAll owners rules hs later held → n < length held → later ≡ gone_holders owners rules (n + 1) hs
    → (h.loose && h.bare && all_go (get_or held n Nothing)) ∷ later ≡ gone_holders owners rules n (h ∷ hs)
unfolding gone_holders
next_gone owners rules n h hs later held all within are =
    rw (← are, all.each n within, all_told (held_by n owners rules ++ held_by n (insides hs) later)) refl

pub none_done : (owners : List (Option ℕ)) (rules : List Bool) (hs : List Holder) (n : ℕ) (start held : List Held) (flags : List Bool)
    → n ≡ length hs → start ≡ replicate n Nothing → length held ≡ length start → length flags ≡ n
    → ((m : ℕ) → m < length start → get_or held m Nothing ≡ and_all (get_or start m Nothing) (held_by m owners rules))
    → (drop n flags ≡ gone_holders owners rules n (drop n hs)) × AreAll owners rules (drop n hs) (drop n flags) held
unfolding gone_holders
none_done owners rules hs n start held flags size are same count each =
    let few : length hs ≤ n = omega arith in
    let size : length start ≡ n = rw are (length-replicate n Nothing) in
    rw (drop_all n flags (omega arith), drop_all n hs few) (
      refl,
      record {
        each = λ m within.
            let here : m < n = omega arith in
            each m (omega arith) ∙ rw (are, get_or-replicate n m Nothing Nothing here, append-nil (held_by m owners rules)) refl;
      },
    )

pub one_done : (owners : List (Option ℕ)) (rules : List Bool) (hs : List Holder) (number n : ℕ) (h d : Holder) (x : Held) (held new : List Held) (gone : List Bool) (goes : Bool)
    → number ≡ n + 1 → n < length hs → h ≡ get_or hs n d → length gone ≡ length hs → length held ≡ length hs
    → drop number gone ≡ gone_holders owners rules number (drop number hs) → AreAll owners rules (drop number hs) (drop number gone) held
    → x ≡ get_or held n x → goes ≡ (h.loose && h.bare && all_go x) → AreTold h.inside goes held new
    → (drop n (set gone n goes) ≡ gone_holders owners rules n (drop n hs)) × AreAll owners rules (drop n hs) (drop n (set gone n goes)) new
one_done owners rules hs number n h d x held new gone goes next within at flags states later all read is told =
    let first : drop n hs ≡ h ∷ drop (n + 1) hs = drop_more hs n d within ∙ ap (λ x. x ∷ drop (n + 1) hs) (sym at) in
    let later_is = rw next at later in
    let all_is = rw next at all in
    rw (drop-set gone n goes (omega arith), first) (
      ap (λ g. g ∷ drop (n + 1) gone) (is ∙ ap (λ y. h.loose && h.bare && all_go y) (get_or_read held n x (omega arith) read Nothing)) ∙ next_gone owners rules n h (drop (n + 1) hs) (drop (n + 1) gone) held all_is (omega arith) later_is,
      holder_told owners rules h (drop (n + 1) hs) goes (drop (n + 1) gone) held new all_is told,
    )
