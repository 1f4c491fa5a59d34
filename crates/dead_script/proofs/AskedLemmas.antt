-- Guards that are there once for several probes, one statement after another.
use Rattle.std.proofs.Common.{◌≡◌, ℕ, zero, suc, ◌+◌, ◌-◌, ◌<◌, ◌≤◌, All, List, [], ◌∷◌, ◌++◌, length, map, take, drop, get_or, refl, sym, ap, None, ◌∙◌, subst, inl, inr, append_assoc, length-append, arith}
use Rattle.std.specs.Prelude.{unwrap_or, slice_get}
use Rattle.std.specs.List.{range_with_len}
use Rattle.std.proofs.lemmas.List.{map-append, map_more, take-map, take-take, length-map, length-drop, length-take-le, get_or-take, get_or_append_left, get_or_push, get_or_default, flat_map_more, drop-append-le, drop_all}
use Rattle.std.proofs.lemmas.List.Elements.{All-nil, All-cons, All-head, All-tail, All-take, All-drop}
use Rattle.std.proofs.lemmas.List.FromFn.{length-range_with_len, length-map-range_with_len, take-map-range_with_len, map-range_with_len_more}
use Rattle.std.proofs.lemmas.Option.{unwrap_or-slice_get}
use Rattle.jq_stmts.specs.declared.chains.Chain as code
use Rattle.jq_stmts.specs.declared.stmts.Stmt as stmt
use Rattle.jq_stmts.specs.Statements.{Chain, Statement}
use Rattle.jq_stmts.specs.Views.{chain_of, statement_of, statements_of}
use Rattle.guard_sem.specs.Guards.{Guard, always}
use Rattle.rule_translate.specs.Translation.{guard_of, of_chains}
use Rattle.dead_script.specs.Probes.{probe, probes, all_probes, probe_guards}
use Rattle.dead_script.specs.Asked.{by_number, InOrder, AreAsked}
use Rattle.dead_script.specs.Sharing.{further_guards}

-- ---- what stands at numbers

module _ {X : Type 0} (d : X) where
  -- numbers that were known
  pub known_more : (xs ys : List X) (numbers : List ℕ) → All (λ k. k < length xs) numbers → by_number d (xs ++ ys) numbers ≡ by_number d xs numbers
  known_more xs ys [] all = refl
  known_more xs ys (k ∷ numbers) all =
      ap (λ (x : X). x ∷ by_number d (xs ++ ys) numbers) (get_or_append_left xs ys d k (All-head (λ j. j < length xs) k numbers all))
      ∙ ap (λ (l : List X). get_or xs k d ∷ l) (known_more xs ys numbers (All-tail (λ j. j < length xs) k numbers all))

  -- numbers of what is behind
  pub behind : (xs ys : List X) (n : ℕ) → length xs ≡ n → by_number d (xs ++ ys) (range_with_len n (length ys)) ≡ ys
  behind xs [] n long = refl
  behind xs (y ∷ ys) n long =
      let here : get_or (xs ++ y ∷ ys) n d ≡ y = ap (λ (l : List X). get_or l n d) (sym (append_assoc xs (y ∷ []) ys)) ∙ get_or_append_left (xs ++ y ∷ []) ys d n (omega (arith, length-append xs (y ∷ []))) ∙ get_or_push xs y d n long in
      let rest : by_number d (xs ++ y ∷ ys) (range_with_len (n + 1) (length ys)) ≡ ys = ap (λ (l : List X). by_number d l (range_with_len (n + 1) (length ys))) (sym (append_assoc xs (y ∷ []) ys)) ∙ behind (xs ++ y ∷ []) ys (n + 1) (omega (arith, length-append xs (y ∷ []))) in
      ap (λ (x : X). x ∷ by_number d (xs ++ y ∷ ys) (range_with_len (n + 1) (length ys))) here ∙ ap (λ (l : List X). y ∷ l) rest

  -- the numbers of all
  pub all_by_number : (xs : List X) → by_number d xs (range_with_len 0 (length xs)) ≡ xs
  all_by_number xs = behind [] xs 0 refl

-- ---- numbers in order

pub in_order_known : (k n : ℕ) (numbers : List ℕ) → InOrder k numbers n → (k ≤ n) × All (λ j. j < n) numbers
in_order_known k n [] same = (omega (arith, same), All-nil (λ j. j < n))
in_order_known k n (j ∷ numbers) (inl (less, are)) = let rest = in_order_known k n numbers are in (rest.0, All-cons (λ i. i < n) j numbers (omega (arith, less, rest.0)) rest.1)
in_order_known k n (j ∷ numbers) (inr (same, are)) = let rest = in_order_known (k + 1) n numbers are in (omega (arith, rest.0), All-cons (λ i. i < n) j numbers (omega (arith, same, rest.0)) rest.1)

only_old : (n : ℕ) (old : List ℕ) → All (λ j. j < n) old → InOrder n old n
only_old n [] all = refl
only_old n (j ∷ old) all = inl (All-head (λ i. i < n) j old all, only_old n old (All-tail (λ i. i < n) j old all))

in_order_old : (k n : ℕ) (numbers old : List ℕ) → InOrder k numbers n → All (λ j. j < n) old → InOrder k (numbers ++ old) n
in_order_old k n [] old same all = subst (λ m. InOrder m old n) (sym same) (only_old n old all)
in_order_old k n (j ∷ numbers) old (inl (less, are)) all = inl (less, in_order_old k n numbers old are all)
in_order_old k n (j ∷ numbers) old (inr (same, are)) all = inr (same, in_order_old (k + 1) n numbers old are all)

only_new : (n c m : ℕ) → n + c ≡ m → InOrder n (range_with_len n c) m
only_new n zero m sum = omega (arith, sum)
only_new n (suc c) m sum = inr (refl, only_new (n + 1) c m (omega (arith, sum)))

in_order_new : (k n c m : ℕ) (numbers : List ℕ) → n + c ≡ m → InOrder k numbers n → InOrder k (numbers ++ range_with_len n c) m
in_order_new k n c m [] sum same = subst (λ i. InOrder i (range_with_len n c) m) (sym same) (only_new n c m sum)
in_order_new k n c m (j ∷ numbers) sum (inl (less, are)) = inl (less, in_order_new k n c m numbers sum are)
in_order_new k n c m (j ∷ numbers) sum (inr (same, are)) = inr (same, in_order_new (k + 1) n c m numbers sum are)

-- ---- probes behind the same handlers

range_parts : (a m n b : ℕ) → a + m ≡ b → range_with_len a (m + n) ≡ range_with_len a m ++ range_with_len b n
range_parts a zero n b sum =
    let none : zero + n ≡ n = omega arith in
    let at : a ≡ b = omega (arith, sum) in
    ap (range_with_len a) none ∙ ap (λ i. range_with_len i n) at
range_parts a (suc m) n b sum =
    let on : suc m + n ≡ suc (m + n) = omega arith in
    ap (range_with_len a) on ∙ ap (λ (l : List ℕ). a ∷ l) (range_parts (a + 1) m n b (omega (arith, sum)))

pub range_more : (a n b : ℕ) → a + n ≡ b → range_with_len a (n + 1) ≡ range_with_len a n ++ b ∷ []
range_more a n b sum = range_parts a n 1 b sum

same_over : (f g : ℕ → Guard) (a n : ℕ) → ((k : ℕ) → k < a + n → f k ≡ g k) → map f (range_with_len a n) ≡ map g (range_with_len a n)
same_over f g a zero same = refl
same_over f g a (suc n) same =
    ap (λ (z : Guard). z ∷ map f (range_with_len (a + 1) n)) (same a (omega arith))
    ∙ ap (λ (l : List Guard). g a ∷ l) (same_over f g (a + 1) n (λ k less. same k (omega (arith, less))))

abbrev asked_at : Statement → ℕ → Guard
asked_at s k = guard_of (probe s k)

same_asked : (s u : Statement) (n k : ℕ) → n ≤ length s.handlers → n ≤ length u.handlers → take n s.handlers ≡ take n u.handlers → k < n → asked_at s k ≡ asked_at u k
same_asked s u n k within within_other same less =
    let fronts : take k s.handlers ≡ take k u.handlers = sym (take-take k n s.handlers (omega (arith, less))) ∙ ap (take k) same ∙ take-take k n u.handlers (omega (arith, less)) in
    let here : unwrap_or (slice_get s.handlers k) s.chain ≡ unwrap_or (slice_get u.handlers k) u.chain =
    unwrap_or-slice_get s.handlers k s.chain
    ∙ sym (get_or-take n s.handlers k s.chain less)
    ∙ ap (λ (l : List Chain). get_or l k s.chain) same
    ∙ get_or-take n u.handlers k s.chain less
    ∙ get_or_default u.handlers k s.chain u.chain (omega (arith, less, within_other))
    ∙ sym (unwrap_or-slice_get u.handlers k u.chain) in
    ap (λ (l : List Chain). of_chains None l (unwrap_or (slice_get s.handlers k) s.chain)) fronts ∙ ap (of_chains None (take k u.handlers)) here

guards_of_probes : (s : Statement) (ks : List ℕ) → map guard_of (map (probe s) ks) ≡ map (asked_at s) ks
guards_of_probes s [] = refl
guards_of_probes s (k ∷ ks) = ap (λ (l : List Guard). asked_at s k ∷ l) (guards_of_probes s ks)

guards_next : (done : List Statement) (s : Statement) → probe_guards (done ++ s ∷ []) ≡ probe_guards done ++ map (asked_at s) (range_with_len 0 (length s.handlers + 1))
guards_next done s =
    ap (map guard_of) (sym (flat_map_more probes [] done s))
    ∙ map-append guard_of (all_probes done) (probes s)
    ∙ ap (λ (l : List Guard). probe_guards done ++ l) (guards_of_probes s (range_with_len 0 (length s.handlers + 1)))

-- The numbers of the probes of these handlers stand one behind the other, from this one on, and are those of every statement in them.
pub record AreKept (hs : List Chain) (start : ℕ) (guards : List Guard) (numbers : List ℕ) : Type 0 where
  pub within : start + length hs ≤ length numbers
  pub of_handlers : (s : Statement) (n : ℕ) → n ≤ length hs → n ≤ length s.handlers → take n hs ≡ take n s.handlers → by_number always guards (take n (drop start numbers)) ≡ map (asked_at s) (range_with_len 0 n)

pub none_kept : AreKept [] 0 [] []
none_kept = record { within = omega arith; of_handlers = none }
  where
    none : (s : Statement) (n : ℕ) → n ≤ 0 → n ≤ length s.handlers → take n [] ≡ take n s.handlers → by_number always [] (take n (drop 0 [])) ≡ map (asked_at s) (range_with_len 0 n)
    none s zero few within same = refl
    none s (suc n) few within same = absurd (omega (arith, few))

pub none_asked : AreAsked [] [] []
none_asked = record { of_probes = refl; in_order = refl }

-- ---- one statement more

module _ (done : List Statement) (s : Statement) (hs : List Chain) (start n : ℕ) (guards : List Guard) (numbers : List ℕ) (asked : AreAsked (probe_guards done) guards numbers) (kept : AreKept hs start guards numbers) (in_first : n ≤ length hs) (in_second : n ≤ length s.handlers) (same : take n hs ≡ take n s.handlers) where
  abbrev old : List ℕ
  old = take n (drop start numbers)

  abbrev news : List Guard
  news = further_guards s n

  abbrev fresh : List ℕ
  fresh = range_with_len (length guards) (length news)

  abbrev many : ℕ
  many = length s.handlers + 1

  known : All (λ k. k < length guards) numbers
  known = (in_order_known 0 (length guards) numbers asked.in_order).1

  old_known : All (λ k. k < length guards) old
  old_known = All-take (λ k. k < length guards) n (drop start numbers) (All-drop (λ k. k < length guards) start numbers known)

  as_many : length old ≡ n
  as_many = length-take-le n (drop start numbers) (omega (arith, length-drop start numbers, kept.within, in_first))

  of_statement : by_number always (guards ++ news) (old ++ fresh) ≡ map (asked_at s) (range_with_len 0 many)
  of_statement =
      let all : n + (many - n) ≡ many = omega (arith, in_second) in
      map-append (λ k. get_or (guards ++ news) k always) old fresh
      ∙ ap (λ (l : List Guard). l ++ by_number always (guards ++ news) fresh) (known_more always guards news old old_known ∙ kept.of_handlers s n in_first in_second same)
      ∙ ap (λ (l : List Guard). map (asked_at s) (range_with_len 0 n) ++ l) (behind always guards news (length guards) refl)
      ∙ sym (map-append (asked_at s) (range_with_len 0 n) (range_with_len n (many - n)))
      ∙ ap (map (asked_at s)) (sym (range_parts 0 n (many - n) n (omega arith)) ∙ ap (range_with_len 0) all)

  next_probes : probe_guards (done ++ s ∷ []) ≡ by_number always (guards ++ news) (numbers ++ (old ++ fresh))
  next_probes =
      guards_next done s
      ∙ ap (λ (l : List Guard). l ++ map (asked_at s) (range_with_len 0 many)) (asked.of_probes ∙ sym (known_more always guards news numbers known))
      ∙ ap (λ (l : List Guard). by_number always (guards ++ news) numbers ++ l) (sym of_statement)
      ∙ sym (map-append (λ k. get_or (guards ++ news) k always) numbers (old ++ fresh))

  next_order : InOrder 0 (numbers ++ (old ++ fresh)) (length (guards ++ news))
  next_order =
      subst (λ (l : List ℕ). InOrder 0 l (length (guards ++ news))) (append_assoc numbers old fresh)
      (in_order_new 0 (length guards) (length news) (length (guards ++ news)) (numbers ++ old) (sym (length-append guards news)) (in_order_old 0 (length guards) numbers old asked.in_order old_known))

  last_ones : drop (length numbers) (numbers ++ (old ++ fresh)) ≡ old ++ fresh
  last_ones = drop-append-le (length numbers) numbers (old ++ fresh) (omega arith) ∙ ap (λ (l : List ℕ). l ++ (old ++ fresh)) (drop_all (length numbers) numbers (omega arith))

  next_handlers : (u : Statement) (m : ℕ) → m ≤ length s.handlers → m ≤ length u.handlers → take m s.handlers ≡ take m u.handlers
      → by_number always (guards ++ news) (take m (drop (length numbers) (numbers ++ (old ++ fresh)))) ≡ map (asked_at u) (range_with_len 0 m)
  next_handlers u m within within_other fronts =
      ap (λ (l : List ℕ). by_number always (guards ++ news) (take m l)) last_ones
      ∙ sym (take-map (λ k. get_or (guards ++ news) k always) m (old ++ fresh))
      ∙ ap (take m) of_statement
      ∙ take-map-range_with_len (asked_at s) 0 many m (omega (arith, within))
      ∙ same_over (asked_at s) (asked_at u) 0 m (λ k less. same_asked s u m k within within_other fronts (omega (arith, less)))

  all_within : length numbers + length s.handlers ≤ length (numbers ++ (old ++ fresh))
  all_within =
      omega (arith, length-append numbers (old ++ fresh), length-append old fresh, as_many, length-range_with_len (length guards) (length news), length-map-range_with_len (asked_at s) n (many - n), in_second)

  pub next_asked : (guards_then : List Guard) (numbers_then : List ℕ) → guards_then ≡ guards ++ news → numbers_then ≡ (numbers ++ old) ++ range_with_len (length guards) (many - n)
      → AreAsked (probe_guards (done ++ s ∷ [])) guards_then numbers_then × AreKept s.handlers (length numbers) guards_then numbers_then
  next_asked guards_then numbers_then are numbered =
      let order : numbers_then ≡ numbers ++ (old ++ fresh) =
      numbered ∙ ap (λ c. (numbers ++ old) ++ range_with_len (length guards) c) (sym (length-map-range_with_len (asked_at s) n (many - n))) ∙ append_assoc numbers old fresh in
      subst (λ (l : List ℕ). AreAsked (probe_guards (done ++ s ∷ [])) guards_then l × AreKept s.handlers (length numbers) guards_then l) (sym order)
      (subst (λ (l : List Guard). AreAsked (probe_guards (done ++ s ∷ [])) l (numbers ++ (old ++ fresh)) × AreKept s.handlers (length numbers) l (numbers ++ (old ++ fresh))) (sym are)
      (record { of_probes = next_probes; in_order = next_order }, record { within = all_within; of_handlers = next_handlers }))

-- one guard more of a statement
pub further_next : (s : Statement) (k i : ℕ) (old now new : List Guard) (numbers numbers_now numbers_new : List ℕ) → k ≤ i
    → now ≡ old ++ map (asked_at s) (range_with_len k (i - k)) → numbers_now ≡ numbers ++ range_with_len (length old) (i - k)
    → new ≡ now ++ asked_at s i ∷ [] → numbers_new ≡ numbers_now ++ length now ∷ []
    → (new ≡ old ++ map (asked_at s) (range_with_len k (i + 1 - k))) × (numbers_new ≡ numbers ++ range_with_len (length old) (i + 1 - k))
further_next s k i old now new numbers numbers_now numbers_new from so_far numbered more numbered_more =
    let count : i - k + 1 ≡ i + 1 - k = omega (arith, from) in
    let here : length old + (i - k) ≡ length now = omega (arith, ap length so_far, length-append old (map (asked_at s) (range_with_len k (i - k))), length-map-range_with_len (asked_at s) k (i - k)) in (
      more
          ∙ ap (λ (l : List Guard). l ++ asked_at s i ∷ []) so_far
          ∙ append_assoc old (map (asked_at s) (range_with_len k (i - k))) (asked_at s i ∷ [])
          ∙ ap (λ (l : List Guard). old ++ l) (sym (map-range_with_len_more (asked_at s) k (i - k) i (omega (arith, from))))
          ∙ ap (λ n. old ++ map (asked_at s) (range_with_len k n)) count,
      numbered_more
          ∙ ap (λ (l : List ℕ). l ++ length now ∷ []) numbered
          ∙ append_assoc numbers (range_with_len (length old) (i - k)) (length now ∷ [])
          ∙ ap (λ (l : List ℕ). numbers ++ l) (sym (range_more (length old) (i - k) (length now) here))
          ∙ ap (λ n. numbers ++ range_with_len (length old) n) count,
    )

-- the same by the statements of the code
pub one_asked : (stmts : List stmt.Stmt) (i : ℕ) (item : stmt.Stmt) (before handlers : List code.Chain) (start n next : ℕ) (guards guards_then : List Guard) (numbers numbers_old numbers_then : List ℕ)
    → i < length stmts → item ≡ get_or stmts i item → handlers ≡ item.handlers → next ≡ length numbers
    → AreAsked (probe_guards (statements_of (take i stmts))) guards numbers → AreKept (map chain_of before) start guards numbers
    → n ≤ length before → n ≤ length handlers → take n (map chain_of before) ≡ take n (map chain_of handlers)
    → numbers_old ≡ numbers ++ take n (drop start numbers) → guards_then ≡ guards ++ further_guards (statement_of item) n → numbers_then ≡ numbers_old ++ range_with_len (length guards) (length (statement_of item).handlers + 1 - n)
    → AreAsked (probe_guards (statements_of (take (i + 1) stmts))) guards_then numbers_then × AreKept (map chain_of handlers) next guards_then numbers_then
one_asked stmts i item before handlers start n next guards guards_then numbers numbers_old numbers_then less at those counted asked kept in_first in_second same olds news fresh =
    let more : statements_of (take (i + 1) stmts) ≡ statements_of (take i stmts) ++ statement_of item ∷ [] =
    map_more statement_of stmts i item less ∙ ap (λ (z : stmt.Stmt). statements_of (take i stmts) ++ statement_of z ∷ []) (sym at) in
    let long : length handlers ≡ length item.handlers = ap length those in
    let both = next_asked (statements_of (take i stmts)) (statement_of item) (map chain_of before) start n guards numbers asked kept
    (omega (arith, in_first, length-map {B = Chain} before chain_of))
    (omega (arith, in_second, long, length-map {B = Chain} item.handlers chain_of))
    (same ∙ ap (λ (l : List code.Chain). take n (map chain_of l)) those)
    guards_then numbers_then news (fresh ∙ ap (λ (l : List ℕ). l ++ range_with_len (length guards) (length (statement_of item).handlers + 1 - n)) olds) in (
      subst (λ (l : List Statement). AreAsked (probe_guards l) guards_then numbers_then) (sym more) both.0,
      subst (λ m. AreKept (map chain_of handlers) m guards_then numbers_then) (sym counted) (subst (λ (l : List code.Chain). AreKept (map chain_of l) (length numbers) guards_then numbers_then) (sym those) both.1),
    )
