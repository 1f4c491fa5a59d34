-- A walk in post-order: what it leaves, and that it is the walk of a proof through its entries.
use Rattle.std.proofs.Common.{◌≡◌, ℕ, zero, suc, ◌<◌, true, false, eqb, cond, List, [], ◌∷◌, ◌++◌, length, map, get_or, Contains, Some, None, unwrap_or, slice_get, nat_lt, inl, inr, refl, sym, ap, ◌∙◌, subst, arith}
use Rattle.std.specs.List.{position_or_len}
use Rattle.std.proofs.lemmas.Bool.Decides.{Decides-eqb, eqb_tells, Decides-ltb}
use Rattle.std.proofs.lemmas.List.{length-append}
use Rattle.std.proofs.lemmas.List.Elements.{Contains-append_left, Contains-push, Contains-push_cases}
use Rattle.std.proofs.lemmas.List.Sums.{position_or_len_is}
use Rattle.std.proofs.lemmas.Option.{slice_get_within, slice_get-get_or, get_or_from_slice_get}
use Rattle.tp_base.proofs.Lists.{Contains-at, at_Contains, push_cases, cons_cases, first_there, next_there}
use Rattle.tp_base.proofs.Rising.{Contains-none}
use Rattle.proof_maker.specs.Needs.{Walks, done, seen, new}
use Rattle.proof_maker.specs.Numbering.{Post}
use Rattle.proof_maker.specs.Numbering as post
use Rattle.proof_needs.specs.Numbers.{number_in}
use Rattle.proof_needs.specs.Sets.{AreDistinct, IsMore}

append_more : {X : Type 0} (xs ys : List X) → IsMore xs (xs ++ ys)
append_more [] ys i x at = cc
append_more (y ∷ xs) ys zero x at = at
append_more (y ∷ xs) ys (suc i) x at = append_more xs ys i x at

append_at : {X : Type 0} (xs : List X) (y : X) (ys : List X) → slice_get (xs ++ y ∷ ys) (length xs) ≡ Some y
append_at [] y ys = refl
append_at (x ∷ xs) y ys = append_at xs y ys

distinct_push : {X : Type 0} (xs : List X) (y : X) → AreDistinct xs → (¬ Contains xs y) → AreDistinct (xs ++ y ∷ [])
distinct_push xs y distinct fresh i j x at at' = elim (push_cases xs y i x at) [
  | inl a ↦ elim (push_cases xs y j x at') [
    | inl b ↦ distinct i j x a b
    | inr b ↦ absurd (fresh (subst (Contains xs) (sym b.1) (Contains-at xs i x a)))
  ]
  | inr a ↦ elim (push_cases xs y j x at') [
    | inl b ↦ absurd (fresh (subst (Contains xs) (sym a.1) (Contains-at xs j x b)))
    | inr b ↦ a.0 ∙ sym b.0
  ]
]

module _ (names : ℕ → List ℕ) where
  pub post_more : (before ts out : List ℕ) → Post names before ts out → IsMore before out
  post_more before ts out (post.done b) i x at = at
  post_more before ts out (post.known b t rest o is p) i x at = post_more before rest out p i x at
  post_more before ts out (post.new b t rest mid o fresh first fresh' p) i x at = post_more (mid ++ t ∷ []) rest out p i x (append_more mid (t ∷ []) i x (post_more before (names t) mid first i x at))

  pub post_kept : (before ts out : List ℕ) → Post names before ts out → (x : ℕ) → Contains before x → Contains out x
  post_kept before ts out p x is = let i = at_Contains before x is in Contains-at out i.0 x (post_more before ts out p i.0 x i.1)

  pub post_distinct : (before ts out : List ℕ) → Post names before ts out → AreDistinct before → AreDistinct out
  post_distinct before ts out (post.done b) distinct = distinct
  post_distinct before ts out (post.known b t rest o is p) distinct = post_distinct before rest out p distinct
  post_distinct before ts out (post.new b t rest mid o fresh first fresh' p) distinct = post_distinct (mid ++ t ∷ []) rest out p (distinct_push mid t (post_distinct before (names t) mid first distinct) fresh')

  -- what holds of all that is walked to, and of what such a number names, holds of all that gets a number
  pub post_each : (Good : ℕ → Type 0) → ((k f : ℕ) → Good k → Contains (names k) f → Good f) → (before ts out : List ℕ) → Post names before ts out → ((x : ℕ) → Contains before x → Good x) → ((x : ℕ) → Contains ts x → Good x)
      → (x : ℕ) → Contains out x → Good x
  post_each Good down before ts out (post.done b) old each x is = old x is
  post_each Good down before ts out (post.known b t rest o there p) old each x is = post_each Good down before rest out p old (λ y in'. each y (next_there t rest y in')) x is
  post_each Good down before ts out (post.new b t rest mid o fresh first fresh' p) old each x is =
      let here : Good t = each t (first_there t rest) in
      let inner = post_each Good down before (names t) mid first old (λ f in'. down t f here in') in
      post_each Good down (mid ++ t ∷ []) rest out p (λ y in'. elim (Contains-push_cases mid t y in') [ inl b' ↦ inner y b' | inr same ↦ subst Good same here ]) (λ y in'. each y (next_there t rest y in')) x is

  -- what is walked to gets a number, and so does what it names
  pub post_closed : (before ts out : List ℕ) → Post names before ts out → ((x f : ℕ) → Contains before x → Contains (names x) f → Contains before f)
      → ((t : ℕ) → Contains ts t → Contains out t) × ((x f : ℕ) → Contains out x → Contains (names x) f → Contains out f)
  post_closed before ts out (post.done b) closed = (λ t is. absurd (Contains-none t is), closed)
  post_closed before ts out (post.known b t rest o there p) closed =
      let r = post_closed before rest out p closed in
      (λ x is. elim (cons_cases t rest x is) [ inl same ↦ subst (Contains out) same (post_kept before rest out p t there) | inr later ↦ r.0 x later ], r.1)
  post_closed before ts out (post.new b t rest mid o fresh first fresh' p) closed =
      let inner = post_closed before (names t) mid first closed in
      let r = post_closed (mid ++ t ∷ []) rest out p (λ x f is named. elim (Contains-push_cases mid t x is) [
        | inl old ↦ Contains-append_left mid (t ∷ []) f (inner.1 x f old named)
        | inr same ↦ Contains-append_left mid (t ∷ []) f (inner.0 f (subst (λ z. Contains (names z) f) (sym same) named))
      ]) in
      (λ x is. elim (cons_cases t rest x is) [ inl same ↦ subst (Contains out) same (post_kept (mid ++ t ∷ []) rest out p t (Contains-push mid t)) | inr later ↦ r.0 x later ], r.1)

-- in an order without repeats the number of what stands at a place is the place
pub number_is : (order : List ℕ) (i x : ℕ) → AreDistinct order → slice_get order i ≡ Some x → number_in order x ≡ i
number_is order i x distinct at =
    let lt = slice_get_within order i x at in
    let place : position_or_len (eqb x) order ≡ i =
    position_or_len_is (eqb x) order i x (omega (arith, lt)) (λ k less. before k less) (λ less. (Decides-eqb x (get_or order i x)).1 (sym (get_or_from_slice_get order i x x at))) in
    let within : nat_lt (position_or_len (eqb x) order) (length order) ≡ true = ap (λ n. nat_lt n (length order)) place ∙ (Decides-ltb i (length order)).1 lt in
    ap (λ b. unwrap_or (cond b (Some (position_or_len (eqb x) order)) None) 0) within ∙ place
  where
    before : (k : ℕ) → k < i → eqb x (get_or order k x) ≡ false
    before k less = elim (eqb_tells x (get_or order k x)) [
      | inl same ↦
          let there : slice_get order k ≡ Some x = slice_get-get_or order k x (omega (arith, slice_get_within order i x at)) ∙ ap Some (sym same.1) in
          let never = distinct k i x there at in
          absurd (omega arith)
      | inr apart ↦ apart.0
    ]

-- a walk through triples is one through their numbers
module _ (names : ℕ → List ℕ) (order : List ℕ) (distinct : AreDistinct order) (numbers : ℕ → List ℕ) (are : (e t : ℕ) → slice_get order e ≡ Some t → numbers e ≡ map (number_in order) (names t)) where
  pub walks : (before ts out : List ℕ) → Post names before ts out → IsMore out order → Walks numbers (length before) (map (number_in order) ts) (length out)
  walks before ts out (post.done b) more = done (length before)
  walks before ts out (post.known b t rest o there p) more =
      let i = at_Contains before t there in
      let is : number_in order t ≡ i.0 = number_is order i.0 t distinct (more i.0 t (post_more names before rest out p i.0 t i.1)) in
      let lt = slice_get_within before i.0 t i.1 in
      seen (length before) (number_in order t) (length out) (map (number_in order) rest) (omega arith) (walks before rest out p more)
  walks before ts out (post.new b t rest mid o fresh first fresh' p) more =
      let later = post_more names (mid ++ t ∷ []) rest out p in
      let at : slice_get order (length mid) ≡ Some t = more (length mid) t (later (length mid) t (append_at mid t [])) in
      let is : number_in order t ≡ length mid = number_is order (length mid) t distinct at in
      let inner : Walks numbers (length before) (map (number_in order) (names t)) (length mid) = walks before (names t) mid first (λ i x here. more i x (later i x (append_more mid (t ∷ []) i x here))) in
      let inner' : Walks numbers (length before) (numbers (number_in order t)) (number_in order t) =
      subst (λ n. Walks numbers (length before) (numbers n) n) (sym is) (subst (λ ns. Walks numbers (length before) ns (length mid)) (sym (are (length mid) t at)) inner) in
      let size : length (mid ++ t ∷ []) ≡ suc (number_in order t) = let a = length-append mid (t ∷ []) in omega arith in
      let outer : Walks numbers (suc (number_in order t)) (map (number_in order) rest) (length out) = subst (λ n. Walks numbers n (map (number_in order) rest) (length out)) size (walks (mid ++ t ∷ []) rest out p more) in
      new (length before) (number_in order t) (length out) (map (number_in order) rest) inner' outer
