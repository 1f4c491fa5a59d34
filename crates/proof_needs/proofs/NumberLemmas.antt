-- The walk by tasks: what waits leads to the end of the walk, and each task leaves less to do.
use Rattle.std.proofs.Common.{◌≡◌, ℕ, zero, suc, ◌+◌, ◌-◌, ◌<◌, Bool, true, false, true≢false, not, ◌||◌, eqb, List, [], ◌∷◌, ◌++◌, if◌then◌else◌, length, map, reverse, take, get_or, All, Contains, Option, option_map, unwrap_or, Vec, inl, inr, refl, sym, ap, ◌∙◌, subst, append-nil, arith}
use Rattle.std.specs.List.{list_any}
use Rattle.std.specs.Global.{Global}
use Rattle.indexmap.specs.IndexSet.{insert_key}
use Rattle.std.proofs.lemmas.Bool.{cases_Bool}
use Rattle.std.proofs.lemmas.Bool.Decides.{Decides-eqb, eqb_tells}
use Rattle.std.proofs.lemmas.Cmp.{nat_eq_equiv}
use Rattle.std.proofs.lemmas.List.{reverse-append, reverse-reverse, length-reverse, length-map, length-append}
use Rattle.std.proofs.lemmas.List.Elements.{All-append, All-push, All-cons, All-head, All-tail, All-nil, Contains-push}
use Rattle.std.proofs.lemmas.List.Folds.{list_any-append}
use Rattle.std.proofs.lemmas.Map.Views.{Contains-from_any, list_any-from_Contains}
use Rattle.std.proofs.lemmas.Option.{slice_get_read}
use Rattle.tp_base.proofs.Truths.{or_false}
use Rattle.proof_needs.specs.declared.numbers.Task.{Task}
use Rattle.proof_needs.specs.declared.numbers.Task.TheVariants.{Visit, Number}
use Rattle.proof_needs.specs.Numbers.{Walk, entering, numbering, Tour, done, known, new, nothing_entered, Tours, names_at, AreBelow, IsTaskBelow, IsVisited, IsTaken, Left, room}

module _ (names : ℕ → List ℕ) where
  -- the walk through one and then through others
  tour_then : (t : ℕ) (ts : List ℕ) (w mid out : Walk) → Tour names (t ∷ []) w mid → Tour names ts mid out → Tour names (t ∷ ts) w out
  tour_then t ts w mid out (known p q v x is (done y)) rest = known p ts w out is rest
  tour_then t ts w mid out (new p q v m x fresh first (done y)) rest = new p ts w m out fresh first rest

  -- to walk to each of these, and then to do what waits
  visits_left : (ts : List ℕ) (tasks : List Task) (w out : Walk) → Left names (map Visit ts ++ tasks) w out → (mid : Walk) × Tour names ts w mid × Left names tasks mid out
  visits_left [] tasks w out left = (w, done w, left)
  visits_left (t ∷ ts) tasks w out (mid, first, left) = let r = visits_left ts tasks mid out left in (r.0, tour_then t ts w mid r.0 first r.1, r.2)

  -- what a task leaves leads where the task does
  taken_left : (task : Task) (tasks tasks' : List Task) (w w' out : Walk) → IsTaken names task tasks tasks' w w' → Left names (reverse tasks') w' out → Left names (task ∷ reverse tasks) w out
  taken_left (Visit t) tasks tasks' w w' out (inl (is, same, walk)) left = (w, known t [] w w is (done w), subst (λ v. Left names (reverse tasks) v out) walk (subst (λ l. Left names (reverse l) w' out) same left))
  taken_left (Visit t) tasks tasks' w w' out (inr (fresh, grown, walk)) left =
      let turned : reverse tasks' ≡ map Visit (names t) ++ Number t ∷ reverse tasks =
      ap reverse grown ∙ reverse-append (tasks ++ Number t ∷ []) (reverse (map Visit (names t)))
      ∙ ap (λ l. l ++ reverse (tasks ++ Number t ∷ [])) (reverse-reverse (map Visit (names t)))
      ∙ ap (λ l. map Visit (names t) ++ l) (reverse-append tasks (Number t ∷ [])) in
      let r = visits_left (names t) (Number t ∷ reverse tasks) w' out (subst (λ l. Left names l w' out) turned left) in
      let first : Tour names (names t) (entering t w) r.0 = subst (λ v. Tour names (names t) v r.0) walk r.1 in
      (numbering t r.0, new t [] w r.0 (numbering t r.0) fresh first (done (numbering t r.0)), r.2)
  taken_left (Number t) tasks tasks' w w' out (same, walk) left = subst (λ v. Left names (reverse tasks) v out) walk (subst (λ l. Left names (reverse l) w' out) same left)

All-reverse : {X : Type 0} (P : X → Type 0) (xs : List X) → All P xs → All P (reverse xs)
All-reverse P [] all = all
All-reverse P (x ∷ xs) all = subst (All P) (sym (reverse-append (x ∷ []) xs)) (All-push P (reverse xs) x (All-reverse P xs (All-tail P x xs all)) (All-head P x xs all))

visits_below : (n : ℕ) (ts : List ℕ) → AreBelow n ts → All (IsTaskBelow n) (map Visit ts)
visits_below n [] all = All-nil (IsTaskBelow n)
visits_below n (t ∷ ts) all = All-cons (IsTaskBelow n) (Visit t) (map Visit ts) (All-head (λ t. t < n) t ts all) (visits_below n ts (All-tail (λ t. t < n) t ts all))

All-left : {X : Type 0} (P : X → Type 0) (xs ys : List X) → All P (xs ++ ys) → All P xs
All-left P [] ys all = All-nil P
All-left P (x ∷ xs) ys all = All-cons P x xs (All-head P x (xs ++ ys) all) (All-left P xs ys (All-tail P x (xs ++ ys) all))

All-last : {X : Type 0} (P : X → Type 0) (xs : List X) (x : X) → All P (xs ++ x ∷ []) → P x
All-last P [] x all = All-head P x [] all
All-last P (y ∷ xs) x all = All-last P xs x (All-tail P y (xs ++ x ∷ []) all)

module _ (lists : List (Vec ℕ Global)) where
  names_below : (n : ℕ) → All (λ (v : Vec ℕ Global). AreBelow n v.items) lists → (t : ℕ) → AreBelow n (names_at lists t)
  names_below n all t = at lists all t
    where
      at : (ls : List (Vec ℕ Global)) → All (λ (v : Vec ℕ Global). AreBelow n v.items) ls → (t : ℕ) → AreBelow n (names_at ls t)
      at [] all t = All-nil (λ i. i < n)
      at (v ∷ ls) all zero = All-head (λ (v : Vec ℕ Global). AreBelow n v.items) v ls all
      at (v ∷ ls) all (suc t) = at ls (All-tail (λ (v : Vec ℕ Global). AreBelow n v.items) v ls all) t

  -- between two tasks
  pub record IsWalking (roots : List ℕ) (tasks : List Task) (w : Walk) : Type 0 where
    pub below : All (IsTaskBelow (length lists)) tasks
    pub leads : (out : Walk) → Left (names_at lists) (reverse tasks) w out → Tour (names_at lists) roots nothing_entered out

  walking_start : (roots : List ℕ) (tasks : List Task) → AreBelow (length lists) roots → tasks ≡ reverse (map Visit roots) → IsWalking roots tasks nothing_entered
  walking_start roots tasks all is = record {
    below = subst (All (IsTaskBelow (length lists))) (sym is) (All-reverse (IsTaskBelow (length lists)) (map Visit roots) (visits_below (length lists) roots all));
    leads = λ out left.
        let turned : reverse tasks ≡ map Visit roots ++ [] = ap reverse is ∙ reverse-reverse (map Visit roots) ∙ sym (append-nil (map Visit roots)) in
        let r = visits_left (names_at lists) roots [] nothing_entered out (subst (λ l. Left (names_at lists) l nothing_entered out) turned left) in
        subst (Tour (names_at lists) roots nothing_entered) r.2 r.1;
  }

  pub walking_below : (roots : List ℕ) (tasks popped : List Task) (task : Task) (w : Walk) → IsWalking roots tasks w → tasks ≡ popped ++ task ∷ [] → IsTaskBelow (length lists) task
  walking_below roots tasks popped task w walking is = All-last (IsTaskBelow (length lists)) popped task (subst (All (IsTaskBelow (length lists))) is walking.below)

  pub walking_next : (roots : List ℕ) (tasks popped tasks' : List Task) (task : Task) (w w' : Walk) → All (λ (v : Vec ℕ Global). AreBelow (length lists) v.items) lists → IsWalking roots tasks w → tasks ≡ popped ++ task ∷ []
      → IsTaken (names_at lists) task popped tasks' w w' → IsWalking roots tasks' w'
  walking_next roots tasks popped tasks' task w w' all walking is taken = record {
    below = by task (walking_below roots tasks popped task w walking is) taken;
    leads = λ out left.
        let turned : task ∷ reverse popped ≡ reverse tasks = sym (ap reverse is ∙ reverse-append popped (task ∷ [])) in
        walking.leads out (subst (λ l. Left (names_at lists) l w out) turned (taken_left (names_at lists) task popped tasks' w w' out taken left));
  }
    where
      before : All (IsTaskBelow (length lists)) popped
      before = All-left (IsTaskBelow (length lists)) popped (task ∷ []) (subst (All (IsTaskBelow (length lists))) is walking.below)

      by : (task : Task) → IsTaskBelow (length lists) task → IsTaken (names_at lists) task popped tasks' w w' → All (IsTaskBelow (length lists)) tasks'
      by (Visit t) less (inl (in', same, walk)) = subst (All (IsTaskBelow (length lists))) (sym same) before
      by (Visit t) less (inr (fresh, grown, walk)) =
          subst (All (IsTaskBelow (length lists))) (sym grown) (All-append (IsTaskBelow (length lists)) (popped ++ Number t ∷ []) (reverse (map Visit (names_at lists t)))
          (All-push (IsTaskBelow (length lists)) popped (Number t) before less)
          (All-reverse (IsTaskBelow (length lists)) (map Visit (names_at lists t)) (visits_below (length lists) (names_at lists t) (names_below (length lists) all t))))
      by (Number t) less (same, walk) = subst (All (IsTaskBelow (length lists))) (sym same) before

  walking_end : (roots : List ℕ) (w : Walk) → IsWalking roots [] w → Tours (names_at lists) roots w.order
  walking_end roots w walking = (w.entered, walking.leads w refl)

  -- the first state, as the code makes it
  pub started : (roots : List ℕ) (tasks : List Task) (entered order : List ℕ) → AreBelow (length lists) roots → tasks ≡ reverse (map Visit roots) → entered ≡ [] → order ≡ [] → IsWalking roots tasks (record { entered = entered; order = order })
  started roots tasks entered order all is e o =
      let empty : nothing_entered ≡ record { entered = entered; order = order } = (λ k. record { entered = sym e k; order = sym o k }) in
      subst (IsWalking roots tasks) empty (walking_start roots tasks all is)

  -- and the last, where nothing waits
  pub ended : (roots : List ℕ) (tasks popped : List Task) (n : ℕ) (w : Walk) → IsWalking roots tasks w → tasks ≡ popped ++ [] → popped ≡ take (n - 1) tasks → n ≡ 0 → Tours (names_at lists) roots w.order
  ended roots tasks popped n w walking is rest none =
      let empty : tasks ≡ [] = is ∙ append-nil popped ∙ rest ∙ ap (λ m. take (m - 1) tasks) none in
      walking_end roots w (subst (λ l. IsWalking roots l w) empty walking)

-- whether a number is entered, as the code tests it
any_is : (xs : List ℕ) (t : ℕ) → list_any (eqb t) xs ≡ true → Contains xs t
any_is xs t e = Contains-from_any {eq = eqb} (λ x y same. (Decides-eqb x y).0 same) t xs e

pub any_there : (xs : List ℕ) (t : ℕ) → Contains xs t → list_any (eqb t) xs ≡ true
any_there xs t is = list_any-from_Contains nat_eq_equiv t xs is

pub not_any : (xs : List ℕ) (t : ℕ) → (¬ Contains xs t) → list_any (eqb t) xs ≡ false
not_any xs t never = elim (cases_Bool (list_any (eqb t) xs)) [ inl e ↦ absurd (never (any_is xs t e)) | inr e ↦ e ]

-- entering another leaves the tests as they were
any_other : (xs : List ℕ) (k t : ℕ) → (k ≡ t → ⊥) → list_any (eqb k) (xs ++ t ∷ []) ≡ list_any (eqb k) xs
any_other xs k t other = elim (eqb_tells k t) [
  | inl same ↦ absurd (other same.1)
  | inr apart ↦ list_any-append (eqb k) xs (t ∷ []) ∙ ap (λ b. list_any (eqb k) xs || (b || false)) apart.0 ∙ or_false (list_any (eqb k) xs)
]

any_itself : (xs : List ℕ) (t : ℕ) → list_any (eqb t) (xs ++ t ∷ []) ≡ true
any_itself xs t = any_there (xs ++ t ∷ []) t (Contains-push xs t)

room_past : (lists : List (Vec ℕ Global)) (k t : ℕ) (entered : List ℕ) → t < k → room lists k (entered ++ t ∷ []) ≡ room lists k entered
room_past [] k t entered lt = refl
room_past (v ∷ lists) k t entered lt =
    ap (λ b. (if b then 0 else suc (length v.items)) + room lists (suc k) (entered ++ t ∷ [])) (any_other entered k t (λ same. omega arith))
    ∙ ap (λ n. (if list_any (eqb k) entered then 0 else suc (length v.items)) + n) (room_past lists (suc k) t entered (omega arith))

-- entering one that wasn't takes its tasks
room_entered : (lists : List (Vec ℕ Global)) (k j : ℕ) (entered : List ℕ) → j < length lists → (¬ Contains entered (k + j))
    → suc (length (names_at lists j)) + room lists k (entered ++ (k + j) ∷ []) ≡ room lists k entered
room_entered [] k j entered lt fresh = absurd (omega arith)
room_entered (v ∷ lists) k zero entered lt fresh =
    let here : k + 0 ≡ k = omega arith in
    let was : list_any (eqb k) entered ≡ false = not_any entered k (λ is. fresh (subst (Contains entered) (sym here) is)) in
    let now : list_any (eqb k) (entered ++ (k + 0) ∷ []) ≡ true = ap (λ n. list_any (eqb k) (entered ++ n ∷ [])) here ∙ any_itself entered k in
    let later = room_past lists (suc k) (k + 0) entered (omega arith) in
    let a : room (v ∷ lists) k (entered ++ (k + 0) ∷ []) ≡ room lists (suc k) entered = ap (λ b. (if b then 0 else suc (length v.items)) + room lists (suc k) (entered ++ (k + 0) ∷ [])) now ∙ zero_plus (room lists (suc k) (entered ++ (k + 0) ∷ [])) ∙ later in
    let b : room (v ∷ lists) k entered ≡ suc (length v.items) + room lists (suc k) entered = ap (λ b. (if b then 0 else suc (length v.items)) + room lists (suc k) entered) was in
    ap (λ n. suc (length v.items) + n) a ∙ sym b
  where
    zero_plus : (n : ℕ) → 0 + n ≡ n
    zero_plus n = omega arith
room_entered (v ∷ lists) k (suc j) entered lt fresh =
    let next : k + suc j ≡ suc k + j = omega arith in
    let rest = room_entered lists (suc k) j entered (omega arith) (λ is. fresh (subst (Contains entered) (sym next) is)) in
    let rest' : suc (length (names_at lists j)) + room lists (suc k) (entered ++ (k + suc j) ∷ []) ≡ room lists (suc k) entered = ap (λ n. suc (length (names_at lists j)) + room lists (suc k) (entered ++ n ∷ [])) next ∙ rest in
    let same = any_other entered k (k + suc j) (λ same. omega arith) in
    let a : room (v ∷ lists) k (entered ++ (k + suc j) ∷ []) ≡ (if list_any (eqb k) entered then 0 else suc (length v.items)) + room lists (suc k) (entered ++ (k + suc j) ∷ []) = ap (λ b. (if b then 0 else suc (length v.items)) + room lists (suc k) (entered ++ (k + suc j) ∷ [])) same in
    sums (if list_any (eqb k) entered then 0 else suc (length v.items)) (suc (length (names_at lists j))) (room lists (suc k) (entered ++ (k + suc j) ∷ [])) (room (v ∷ lists) k (entered ++ (k + suc j) ∷ [])) (room lists (suc k) entered) a rest'
  where
    sums : (here named more all rest : ℕ) → all ≡ here + more → named + more ≡ rest → named + all ≡ here + rest
    sums here named more all rest p q = omega arith

pub walking_smaller : (lists : List (Vec ℕ Global)) (tasks popped tasks' : List Task) (task : Task) (w w' : Walk) → IsTaskBelow (length lists) task → tasks ≡ popped ++ task ∷ [] → IsTaken (names_at lists) task popped tasks' w w'
    → room lists 0 w'.entered + length tasks' < room lists 0 w.entered + length tasks
walking_smaller lists tasks popped tasks' task w w' below is taken =
    let count : length tasks ≡ length popped + 1 = ap length is ∙ length-append popped (task ∷ []) in
    by task below taken count
  where
    by : (task : Task) → IsTaskBelow (length lists) task → IsTaken (names_at lists) task popped tasks' w w' → length tasks ≡ length popped + 1 → room lists 0 w'.entered + length tasks' < room lists 0 w.entered + length tasks
    by (Visit t) below (inl (in', same, walk)) count =
        let a : length tasks' ≡ length popped = ap length same in
        let b : room lists 0 w'.entered ≡ room lists 0 w.entered = ap (λ (v : Walk). room lists 0 v.entered) walk in
        omega arith
    by (Visit t) below (inr (fresh, grown, walk)) count =
        let a : length tasks' ≡ length (popped ++ Number t ∷ []) + length (reverse (map Visit (names_at lists t))) = ap length grown ∙ length-append (popped ++ Number t ∷ []) (reverse (map Visit (names_at lists t))) in
        let b : length (popped ++ Number t ∷ []) ≡ length popped + 1 = length-append popped (Number t ∷ []) in
        let c : length (reverse (map Visit (names_at lists t))) ≡ length (names_at lists t) = length-reverse (map Visit (names_at lists t)) ∙ length-map (names_at lists t) Visit in
        let d : room lists 0 w'.entered ≡ room lists 0 (w.entered ++ t ∷ []) = ap (λ (v : Walk). room lists 0 v.entered) walk in
        let e : suc (length (names_at lists t)) + room lists 0 (w.entered ++ t ∷ []) ≡ room lists 0 w.entered = subst (λ n. suc (length (names_at lists t)) + room lists 0 (w.entered ++ n ∷ []) ≡ room lists 0 w.entered) zero_plus (room_entered lists 0 t w.entered below (λ is. fresh (subst (Contains w.entered) zero_plus is))) in
        omega arith
      where
        zero_plus : 0 + t ≡ t
        zero_plus = omega arith
    by (Number t) below (same, walk) count =
        let a : length tasks' ≡ length popped = ap length same in
        let b : room lists 0 w'.entered ≡ room lists 0 w.entered = ap (λ (v : Walk). room lists 0 v.entered) walk in
        omega arith

-- what comes of a triple that is walked to
pub visited_known : (names : ℕ → List ℕ) (t : ℕ) (tasks : List Task) (old now order : List ℕ) (fresh : Bool) → fresh ≡ not (list_any (eqb t) old) → fresh ≡ false → now ≡ insert_key eqb old t
    → IsVisited names t tasks tasks (record { entered = old; order = order }) (record { entered = now; order = order })
visited_known names t tasks old now order fresh tells known' is =
    let there : list_any (eqb t) old ≡ true = turned (list_any (eqb t) old) (sym known' ∙ tells) in
    let same : now ≡ old = is ∙ ap (λ b. if b then old else old ++ t ∷ []) there in
    inl (any_is old t there, refl, ap (λ (e : List ℕ). let w : Walk = record { entered = e; order = order } in w) same)
  where
    turned : (b : Bool) → false ≡ not b → b ≡ true
    turned true e = refl
    turned false e = e

pub visited_new : (lists : List (Vec ℕ Global)) (t : ℕ) (named : Vec ℕ Global) (tasks tasks' : List Task) (old now order : List ℕ) (fresh : Bool) → fresh ≡ not (list_any (eqb t) old) → fresh ≡ true → now ≡ insert_key eqb old t → t < length lists → named ≡ get_or lists t named
    → tasks' ≡ tasks ++ Number t ∷ [] ++ reverse (map Visit named.items) → IsVisited (names_at lists) t tasks tasks' (record { entered = old; order = order }) (record { entered = now; order = order })
visited_new lists t named tasks tasks' old now order fresh tells new' is lt at grown =
    let never : list_any (eqb t) old ≡ false = turned (list_any (eqb t) old) (sym new' ∙ tells) in
    let more : now ≡ old ++ t ∷ [] = is ∙ ap (λ b. if b then old else old ++ t ∷ []) never in
    let names : names_at lists t ≡ named.items = ap (λ (o : Option (Vec ℕ Global)). unwrap_or (option_map (λ (v : Vec ℕ Global). v.items) o) []) (slice_get_read lists (length lists) t named refl lt at) in
    inr (
      λ there. true≢false (sym (any_there old t there) ∙ never),
      grown ∙ ap (λ ns. tasks ++ Number t ∷ [] ++ reverse (map Visit ns)) (sym names),
      ap (λ (e : List ℕ). let w : Walk = record { entered = e; order = order } in w) more,
    )
  where
    turned : (b : Bool) → true ≡ not b → b ≡ false
    turned true e = e
    turned false e = refl
