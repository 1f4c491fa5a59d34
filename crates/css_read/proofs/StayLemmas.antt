-- The selectors of a sheet that stay, rule by rule, and the numbers of their rules.
use Rattle.std.proofs.Common.{◌≡◌, ℕ, suc, ◌+◌, ◌≤◌, ◌&&◌, not, Bool, true, false, if◌then◌else◌, List, [], ◌∷◌, ◌++◌, length, take, drop, map, get_or, refl, sym, ap, ◌∙◌, subst, arith, length-append, append_assoc, length-drop}
use Rattle.std.specs.List.{list_all}
use Rattle.std.proofs.lemmas.List.{get_or_at, length-take-le}
use Rattle.tp_base.specs.Names.{Named}
use Rattle.tp_base.proofs.Truths.{and_true, and_false}
use Rattle.css_read.specs.Effects.{stayed_in, number_left}
use Rattle.css_read.specs.Pruned.{Flagged, goes, with_flags, of_rule}
use Rattle.css_read.specs.Rules.{Rule}
use Rattle.css_read.specs.Sheets.{Item}
use Rattle.css_read.proofs.AgainLemmas.{AreKnownIn}
use Rattle.css_read.proofs.ItemLemmas.{AreOf, AreItemsOf, items_from, own_of, others_of}
use Rattle.css_read.proofs.PrunedLemmas.{IsOwned, flags_taken}
use Rattle.css_read.proofs.RulePlans.{texts_left}
use Rattle.css_read.proofs.ShiftLemmas.{item_text, AreWithin}

-- ---- the flags of each rule, one rule after another

abbrev pub AreGroups : List ℕ → List Flagged → ℕ → List Rule → List Flagged → Type 0
AreGroups text fs k [] gs = gs ≡ []
AreGroups text fs k (r ∷ rs) gs = (o : IsOwned text fs k r) × (others : List Flagged) × (gs ≡ of_rule k fs ++ others) × AreOf k o.own × AreGroups text fs (k + 1) rs others

flags_split : (own others : List Item) (flags : List Bool) → length own ≤ length flags → with_flags (own ++ others) flags ≡ with_flags own (take (length own) flags) ++ with_flags others (drop (length own) flags)
flags_split [] others flags few = refl
flags_split (i ∷ own) others [] few = absurd (omega arith)
flags_split (i ∷ own) others (g ∷ flags) few = ap (λ (fs : List Flagged). (i, g) ∷ fs) (flags_split own others flags (omega arith))

pub groups_from : (text : List ℕ) (fs : List Flagged) (k : ℕ) (rs : List Rule) (items : List Item) (flags : List Bool) → AreItemsOf text k rs items → length flags ≡ length items
    → ((j : ℕ) → k ≤ j → of_rule j fs ≡ of_rule j (with_flags items flags)) → AreGroups text fs k rs (with_flags items flags)
groups_from text fs k [] items flags are count same = ap (λ (is : List Item). with_flags is flags) are
groups_from text fs k (r ∷ rs) items flags are count same =
    let own = are.0 in
    let others = are.1 in
    let whole : items ≡ own ++ others = are.2 in
    let sizes = ap length whole ∙ length-append own others in
    let from = items_from text (k + 1) rs others are.5 in
    let few : length own ≤ length flags = omega arith in
    let taken : length (take (length own) flags) ≡ length own = length-take-le (length own) flags few in
    let left = length-drop (length own) flags in
    let list : of_rule k fs ≡ with_flags own (take (length own) flags) = same k (omega arith) ∙ ap (λ (is : List Item). of_rule k (with_flags is flags)) whole ∙ own_of k own others flags are.4 from ∙ flags_taken own flags in (
      record { own = own; flags = take (length own) flags; list = list; places = are.3; count = taken },
      with_flags others (drop (length own) flags),
      ap (λ (is : List Item). with_flags is flags) whole ∙ flags_split own others flags few ∙ ap (λ (gs : List Flagged). gs ++ with_flags others (drop (length own) flags)) (sym list),
      are.4,
      groups_from text fs (k + 1) rs others (drop (length own) flags) are.5 (omega arith) (λ j less. same j (omega arith) ∙ ap (λ (is : List Item). of_rule j (with_flags is flags)) whole ∙ others_of j k own others flags (omega arith) are.4),
    )

-- ---- those that stay

abbrev pub unflagged : List Flagged → List Item
unflagged [] = []
unflagged (f ∷ fs) = if goes f then unflagged fs else f.0 ∷ unflagged fs

pub stayed-append : (fixed : List Bool) (xs ys : List Flagged) → stayed_in fixed (xs ++ ys) ≡ stayed_in fixed xs ++ stayed_in fixed ys
stayed-append fixed [] ys = refl
stayed-append fixed (f ∷ xs) ys = by (goes f && not (get_or fixed f.0.rule false)) (stayed-append fixed xs ys)
  where
    by : (test : Bool) → stayed_in fixed (xs ++ ys) ≡ stayed_in fixed xs ++ stayed_in fixed ys
        → (if test then stayed_in fixed (xs ++ ys) else f.0 ∷ stayed_in fixed (xs ++ ys)) ≡ (if test then stayed_in fixed xs else f.0 ∷ stayed_in fixed xs) ++ stayed_in fixed ys
    by true later = later
    by false later = ap (λ (is : List Item). f.0 ∷ is) later

-- in a rule that is fixed all of them do
pub fixed_stay : (fixed : List Bool) (k : ℕ) (own : List Item) (flags : List Bool) → AreOf k own → length flags ≡ length own → get_or fixed k false ≡ true → stayed_in fixed (with_flags own flags) ≡ own
fixed_stay fixed k [] flags of count is = refl
fixed_stay fixed k (i ∷ own) [] of count is = absurd (omega arith)
fixed_stay fixed k (i ∷ own) (g ∷ flags) of count is =
    let here : get_or fixed i.rule false ≡ true = ap (λ n. get_or fixed n false) of.0 ∙ is in
    rw (here, and_false g) (ap (λ (is : List Item). i ∷ is) (fixed_stay fixed k own flags of.1 (omega arith) is))

-- in another rule those that aren't flagged
pub free_stay : (fixed : List Bool) (k : ℕ) (own : List Item) (flags : List Bool) → AreOf k own → get_or fixed k false ≡ false → stayed_in fixed (with_flags own flags) ≡ unflagged (with_flags own flags)
free_stay fixed k [] flags of is = refl
free_stay fixed k (i ∷ own) [] of is = refl
free_stay fixed k (i ∷ own) (g ∷ flags) of is =
    let here : get_or fixed i.rule false ≡ false = ap (λ n. get_or fixed n false) of.0 ∙ is in
    rw (here, and_true g, free_stay fixed k own flags of.1 is) refl

pub none_stay : (fs : List Flagged) → list_all goes fs ≡ true → unflagged fs ≡ []
none_stay [] all = refl
none_stay (f ∷ fs) all = by f.1 all (none_stay fs)
  where
    by : (g : Bool) → (g && list_all goes fs) ≡ true → (list_all goes fs ≡ true → unflagged fs ≡ []) → (if g then unflagged fs else f.0 ∷ unflagged fs) ≡ []
    by true all later = later all
    by false all later = absurd (wrong all)
      where
        wrong : false ≡ true → ⊥
        wrong same = cc

pub texts_are : (text : List ℕ) (fs : List Flagged) → texts_left text fs ≡ map (item_text text) (unflagged fs)
texts_are text [] = refl
texts_are text (f ∷ fs) = by f.1 (texts_are text fs)
  where
    by : (g : Bool) → texts_left text fs ≡ map (item_text text) (unflagged fs) → (if g then texts_left text fs else item_text text f.0 ∷ texts_left text fs) ≡ map (item_text text) (if g then unflagged fs else f.0 ∷ unflagged fs)
    by true later = later
    by false later = ap (λ (ts : List (List ℕ)). item_text text f.0 ∷ ts) later

pub within_stay : (text : List ℕ) (own : List Item) (flags : List Bool) → AreWithin text own → AreWithin text (unflagged (with_flags own flags))
within_stay text [] flags are = tt
within_stay text (i ∷ own) [] are = tt
within_stay text (i ∷ own) (g ∷ flags) are = by g (within_stay text own flags are.1)
  where
    by : (g : Bool) → AreWithin text (unflagged (with_flags own flags)) → AreWithin text (if g then unflagged (with_flags own flags) else i ∷ unflagged (with_flags own flags))
    by true later = later
    by false later = (are.0, later)

pub of_stay : (k : ℕ) (own : List Item) (flags : List Bool) → AreOf k own → AreOf k (unflagged (with_flags own flags))
of_stay k [] flags are = tt
of_stay k (i ∷ own) [] are = tt
of_stay k (i ∷ own) (g ∷ flags) are = by g (of_stay k own flags are.1)
  where
    by : (g : Bool) → AreOf k (unflagged (with_flags own flags)) → AreOf k (if g then unflagged (with_flags own flags) else i ∷ unflagged (with_flags own flags))
    by true later = later
    by false later = (are.0, later)

pub known_stay : (text : List ℕ) (names : List Named) (fixed : List Bool) (items : List Item) (flags : List Bool) → AreKnownIn text names items → AreKnownIn text names (stayed_in fixed (with_flags items flags))
known_stay text names fixed [] flags are = tt
known_stay text names fixed (i ∷ items) [] are = tt
known_stay text names fixed (i ∷ items) (g ∷ flags) are = by (g && not (get_or fixed i.rule false)) (known_stay text names fixed items flags are.1)
  where
    by : (test : Bool) → AreKnownIn text names (stayed_in fixed (with_flags items flags)) → AreKnownIn text names (if test then stayed_in fixed (with_flags items flags) else i ∷ stayed_in fixed (with_flags items flags))
    by true later = later
    by false later = (are.0, later)

pub few_stay : (fixed : List Bool) (items : List Item) (flags : List Bool) → length (stayed_in fixed (with_flags items flags)) ≤ length items
few_stay fixed [] flags = omega arith
few_stay fixed (i ∷ items) [] = omega arith
few_stay fixed (i ∷ items) (g ∷ flags) = by (g && not (get_or fixed i.rule false)) (few_stay fixed items flags)
  where
    by : (test : Bool) → length (stayed_in fixed (with_flags items flags)) ≤ length items → length (if test then stayed_in fixed (with_flags items flags) else i ∷ stayed_in fixed (with_flags items flags)) ≤ suc (length items)
    by true later = omega arith
    by false later = omega arith

-- ---- a list from a place on

pub record HasFrom (all : List Bool) (k : ℕ) (rest : List Bool) : Type 0 where
  pub front : List Bool
  pub whole : all ≡ front ++ rest
  pub size : length front ≡ k

pub has_next : (all : List Bool) (k : ℕ) (g : Bool) (rest : List Bool) → HasFrom all k (g ∷ rest) → HasFrom all (k + 1) rest
has_next all k g rest is = record {
  front = is.front ++ g ∷ [];
  whole = is.whole ∙ sym (append_assoc is.front (g ∷ []) rest);
  size = length-append is.front (g ∷ []) ∙ ap (λ n. n + 1) is.size;
}

pub has_at : (all : List Bool) (k : ℕ) (g : Bool) (rest : List Bool) (d : Bool) → HasFrom all k (g ∷ rest) → get_or all k d ≡ g
has_at all k g rest d is = ap (λ (gs : List Bool). get_or gs k d) is.whole ∙ get_or_at is.front g rest d k is.size

-- ---- the numbers of rules

abbrev pub if_stays : Bool → ℕ
if_stays g = if g then 0 else 1

number_step : (front : List Bool) (g : Bool) (rest : List Bool) → number_left (front ++ g ∷ rest) (length front + 1) ≡ number_left (front ++ g ∷ rest) (length front) + if_stays g
number_step [] g rest = ap (λ n. if_stays g + n) (none rest) ∙ swapped (if_stays g)
  where
    none : (gs : List Bool) → number_left gs 0 ≡ 0
    none [] = refl
    none (g ∷ gs) = refl

    swapped : (n : ℕ) → n + 0 ≡ 0 + n
    swapped n = omega arith
number_step (f ∷ front) g rest =
    let next : suc (length front) + 1 ≡ suc (length front + 1) = omega arith in
    ap (λ n. number_left (f ∷ front ++ g ∷ rest) n) next ∙ ap (λ n. if_stays f + n) (number_step front g rest) ∙ assoc (if_stays f) (number_left (front ++ g ∷ rest) (length front)) (if_stays g)
  where
    assoc : (a b c : ℕ) → a + (b + c) ≡ a + b + c
    assoc a b c = omega arith

pub number_next : (gone : List Bool) (k j : ℕ) (g : Bool) (rest : List Bool) → HasFrom gone k (g ∷ rest) → number_left gone k ≡ j → number_left gone (k + 1) ≡ j + if_stays g
number_next gone k j g rest is at =
    subst (λ (n : ℕ). number_left gone (n + 1) ≡ number_left gone n + if_stays g) is.size (subst (λ (gs : List Bool). number_left gs (length is.front + 1) ≡ number_left gs (length is.front) + if_stays g) (sym is.whole) (number_step is.front g rest))
    ∙ ap (λ n. n + if_stays g) at

-- selectors of a rule that stays, by its new number
abbrev pub AreNumbered : List Bool → ℕ → List Item → Type 0
AreNumbered gone j [] = Unit {0}
AreNumbered gone j (i ∷ items) = (number_left gone i.rule ≡ j) × (get_or gone i.rule true ≡ false) × AreNumbered gone j items

pub numbered : (gone : List Bool) (k j : ℕ) (items : List Item) → AreOf k items → number_left gone k ≡ j → get_or gone k true ≡ false → AreNumbered gone j items
numbered gone k j [] of number stays = tt
numbered gone k j (i ∷ items) of number stays = (ap (number_left gone) of.0 ∙ number, ap (λ n. get_or gone n true) of.0 ∙ stays, numbered gone k j items of.1 number stays)
