-- What is remembered of added children.
use Rattle.std.proofs.Common.{◌≡◌, ℕ, ◌<◌, ◌≤◌, ◌^◌, nat_le, Bool, true, false, List, [], ◌∷◌, ◌++◌, map, Option, Some, None, IfSome, slice_get, Contains, refl, sym, ap, ◌∙◌, inl, inr, subst}
use Rattle.std.specs.List.{filter}
use Rattle.std.proofs.lemmas.List.{map-append}
use Rattle.std.proofs.lemmas.List.Elements.{filter-append, Contains-append_cases}
use Rattle.tp_base.specs.Classes.{has_class, union_of}
use Rattle.tp_base.proofs.Lists.{Contains-at}
use Rattle.tp_base.proofs.Rising.{Contains-here, Contains-cons, Contains-none}
use Rattle.pair_table.specs.declared.table.Row.{Row}
use Rattle.pair_table.specs.Rows.{IsRowOf}
use Rattle.pair_table.proofs.RowLemmas.{row_of_pair}
use Rattle.simple_core.specs.declared.system.System.{System}
use Rattle.simple_core.specs.declared.rules.Link.{Link}
use Rattle.simple_core.specs.Labels.{given_by_links}
use Rattle.simple_core.specs.Rounds.{grown, IsFirst}
use Rattle.simple_core.specs.Pairs.{Pair}
use Rattle.simple_core.proofs.RoundLemmas.{grown-one_more}
use Rattle.class_adding.specs.declared.gifts.Gift.{Gift}
use Rattle.class_adding.specs.Filling.{GivesSame, IsBefore}
use Rattle.class_adding.specs.Fresh.{HasGiven}
use Rattle.class_adding.specs.Gifts.{given_by, AreEarly, IsGiven, AreGifts}
use Rattle.class_adding.proofs.AddedLemmas.{has_from, has_never}

given_by-push : (k : ℕ) (gifts : List Gift) (g : Gift) → given_by k (gifts ++ g ∷ []) ≡ given_by k gifts ++ given_by k (g ∷ [])
given_by-push k gifts g =
    let p : Gift → Bool = λ g. nat_le g.round k in
    let f : Gift → ℕ = λ g. g.to in
    ap (map f) (filter-append p gifts (g ∷ [])) ∙ map-append f (filter p gifts) (filter p (g ∷ []))

-- an element between two lists, and none
join_one : (xs ys : List ℕ) (x : ℕ) → (xs ++ x ∷ []) ++ ys ≡ xs ++ x ∷ ys
join_one [] ys x = refl
join_one (y ∷ xs) ys x = ap (λ z. y ∷ z) (join_one xs ys x)

join_none : (xs ys : List ℕ) → (xs ++ []) ++ ys ≡ xs ++ ys
join_none [] ys = refl
join_none (y ∷ xs) ys = ap (λ z. y ∷ z) (join_none xs ys)

one_link : (k : ℕ) (g : Gift) (l : Link) (others : List Link) (label before : List ℕ) → g.to ≡ l.to → nat_le g.round k ≡ has_class l.from label
    → (before ++ given_by k (g ∷ [])) ++ given_by_links others label ≡ before ++ given_by_links (l ∷ others) label
one_link k g l others label before to same = elim (has_class l.from label) as (λ b. has_class l.from label ≡ b → (before ++ given_by k (g ∷ [])) ++ given_by_links others label ≡ before ++ given_by_links (l ∷ others) label) [
  | true ↦ λ e. rw (same ∙ e, e) (join_one before (given_by_links others label) g.to ∙ ap (λ a. before ++ a ∷ given_by_links others label) to)
  | false ↦ λ e. rw (same ∙ e, e) (join_none before (given_by_links others label))
] refl

-- the loop over the links from a child
pub record IsGiving (s : System) (kind : ℕ) (seen : List ℕ) (gifts : List Gift) (rest : List Link) : Type 0 where
  pub whole : (k : ℕ) → given_by k gifts ++ given_by_links rest (grown s k kind seen) ≡ given_by_links s.down (grown s k kind seen)
  pub early : AreEarly gifts

pub giving_some : (s made : System) (kind : ℕ) (seen : List ℕ) (gifts gifts' : List Gift) (rest : List Link) (l : Link) (others : List Link) (r : ℕ) → made ≡ s → rest ≡ l ∷ others → IsGiving s kind seen gifts rest
    → IsFirst (λ k. grown made k kind seen) l.from (Some r) → r < 2 ^ 62 → gifts' ≡ gifts ++ record { to = l.to; round = r } ∷ [] → IsGiving s kind seen gifts' others
giving_some s made kind seen gifts gifts' rest l others r is split so_far first bound next =
    let g : Gift = record { to = l.to; round = r } in
    let f = subst (λ (z : List Link). IsGiving s kind seen gifts z) split so_far in
    let first' = subst (λ (z : System). IsFirst (λ k. grown z k kind seen) l.from (Some r)) is first in
    subst (λ (z : List Gift). IsGiving s kind seen z others) (sym next) (record {
      whole = λ k.
          let label = grown s k kind seen in
          ap (λ z. z ++ given_by_links others label) (given_by-push k gifts g)
          ∙ one_link k g l others label (given_by k gifts) refl (has_from (λ k. grown s k kind seen) (grown-one_more s kind seen) l.from r first' k)
          ∙ f.whole k;
      early = λ x there. elim (Contains-append_cases gifts (g ∷ []) x there) [
        | inl old ↦ f.early x old
        | inr new ↦ elim ((Contains-cons x g []).0 new) [
          | inl here ↦ subst (λ (z : Gift). z.round < 2 ^ 62) (sym here) bound
          | inr none ↦ absurd (Contains-none x none)
        ]
      ];
    })

pub giving_none : (s made : System) (kind : ℕ) (seen : List ℕ) (gifts : List Gift) (rest : List Link) (l : Link) (others : List Link) → made ≡ s → rest ≡ l ∷ others → IsGiving s kind seen gifts rest
    → IsFirst (λ k. grown made k kind seen) l.from None → IsGiving s kind seen gifts others
giving_none s made kind seen gifts rest l others is split so_far first =
    let f = subst (λ (z : List Link). IsGiving s kind seen gifts z) split so_far in
    let first' = subst (λ (z : System). IsFirst (λ k. grown z k kind seen) l.from None) is first in
    record {
      whole = λ k.
          let label = grown s k kind seen in
          let none : given_by_links (l ∷ others) label ≡ given_by_links others label = rw (sym (has_never (λ k. grown s k kind seen) l.from first' k)) refl in
          ap (λ z. given_by k gifts ++ z) (sym none) ∙ f.whole k;
      early = f.early;
    }

-- one gift more that comes as early in both rounds
pub gifts_next : (k m : ℕ) (rest : List Gift) (g : Gift) (others : List Gift) → rest ≡ g ∷ others → nat_le g.round m ≡ nat_le g.round k → given_by m others ≡ given_by k others → given_by m rest ≡ given_by k rest
gifts_next k m rest g others split same behind = subst (λ (z : List Gift). given_by m z ≡ given_by k z) (sym split) (elim (nat_le g.round k) as (λ b. nat_le g.round k ≡ b → given_by m (g ∷ others) ≡ given_by k (g ∷ others)) [
  | true ↦ λ e. rw (same ∙ e, e) (ap (λ z. g.to ∷ z) behind)
  | false ↦ λ e. rw (same ∙ e, e) behind
] refl)

pub first_early : (rest : List Gift) (g : Gift) (others : List Gift) (o : Option ℕ) → rest ≡ g ∷ others → AreEarly rest → IfSome o (λ r. r ≡ g.round) → IfSome o (λ r. r < 2 ^ 62)
first_early rest g others None split early is = tt
first_early rest g others (Some r) split early is =
    subst (λ n. n < 2 ^ 62) (sym is) (early g (subst (λ (z : List Gift). Contains z g) (sym split) (Contains-here g g others refl)))

-- until the next gift, what a child gives stays as it is
pub same_gifts : (s : System) (k m kind : ℕ) (seen : List ℕ) (gifts : List Gift) → IsGiven s kind seen gifts → given_by m gifts ≡ given_by k gifts → GivesSame s k m (kind, seen)
same_gifts s k m kind seen gifts is same = sym (is.gives m) ∙ same ∙ is.gives k

-- what a child gives, as a list that is lent has it
pub has_given : (s : System) (k : ℕ) (known : Pair → Type 0) (kind : ℕ) (seen : List ℕ) (gifts lent : List Gift) (wake : Option ℕ) (old new : List ℕ) → IsGiven s kind seen gifts → lent ≡ gifts → new ≡ union_of old (given_by k lent)
    → ((m : ℕ) → k ≤ m → IsBefore m wake → given_by m lent ≡ given_by k lent) → IfSome wake (λ r. k < r) → IfSome wake (λ r. r < 2 ^ 62) → known (kind, seen) → HasGiven s k known (kind, seen) wake old new
has_given s k known kind seen gifts lent wake old new is same given stays after bound told = record {
  given = given ∙ ap (λ z. union_of old z) (ap (given_by k) same ∙ is.gives k);
  same = λ m le before. same_gifts s k m kind seen gifts is (subst (λ (z : List Gift). given_by m z ≡ given_by k z) same (stays m le before));
  after = after;
  bound = bound;
  told = told;
}

-- a row, and a list of them
abbrev Kept : Type 0
Kept = Row (List Gift)

-- what is remembered of a pair
pub remembered : (s : System) (known : Pair → Type 0) (rows : List Kept) (kind : ℕ) (seen : List ℕ) (i : ℕ) (gifts : List Gift) → AreGifts s known rows → IsRowOf rows kind seen i → ((r : Kept) → slice_get rows i ≡ Some r → gifts ≡ r.value)
    → known (kind, seen) × IsGiven s kind seen gifts
remembered s known rows kind seen i gifts are there is =
    let row = row_of_pair rows kind seen i there in
    let r = row.0 in
    let a = subst (λ (n : ℕ). known (n, r.label) × IsGiven s n r.label r.value) row.2 (are r (Contains-at rows i r row.1)) in
    let b = subst (λ (z : List ℕ). known (kind, z) × IsGiven s kind z r.value) row.3 a in
    (b.0, subst (λ (z : List Gift). IsGiven s kind seen z) (sym (is r row.1)) b.1)

pub gifts_kept : (s : System) (known known' : Pair → Type 0) (rows : List Kept) → ((q : Pair) → known q → known' q) → AreGifts s known rows → AreGifts s known' rows
gifts_kept s known known' rows kept are r there = let row = are r there in (kept (r.kind, r.label) row.0, row.1)

pub gifts_push : (s : System) (known : Pair → Type 0) (rows rows' : List Kept) (row : Kept) → AreGifts s known rows → rows' ≡ rows ++ row ∷ [] → known (row.kind, row.label) → IsGiven s row.kind row.label row.value → AreGifts s known rows'
gifts_push s known rows rows' row are is there given = λ r in_rows. elim (Contains-append_cases rows (row ∷ []) r (subst (λ (z : List Kept). Contains z r) is in_rows)) [
  | inl old ↦ are r old
  | inr new ↦ elim ((Contains-cons r row []).0 new) [
    | inl here ↦ subst (λ (z : Kept). known (z.kind, z.label) × IsGiven s z.kind z.label z.value) (sym here) (there, given)
    | inr none ↦ absurd (Contains-none r none)
  ]
]

pub no_gifts : (s : System) (known : Pair → Type 0) (rows : List Kept) → rows ≡ [] → AreGifts s known rows
no_gifts s known rows none r there = absurd (Contains-none r (subst (λ (z : List Kept). Contains z r) none there))
