-- Pairs of brackets, one token after the other, as loops do.
use Rattle.std.proofs.Common.{◌≡◌, ◌≢◌, ℕ, zero, suc, ◌-◌, ◌<◌, ◌==◌, Bool, true, false, if◌then◌else◌, List, [], ◌∷◌, ◌++◌, length, get_or, Option, Some, None, refl, sym, ap, subst, ◌∙◌, append_assoc, arith, true-eqb, false-eqb}
use Rattle.std.proofs.lemmas.List.{append-nil}
use Rattle.code_tokens.specs.declared.pairs.Opened.{Opened}
use Rattle.code_tokens.specs.declared.pairs.Pair.{Pair}
use Rattle.code_scan.specs.declared.token.Token.{Token}
use Rattle.code_tokens.specs.Pairs.{ended_pair, open_after, pairs_from, paired, other_among, other_in, AreOthers, alone_at, alone_from}

pub goes_on : (text : List ℕ) (size at : ℕ) (os : List Opened) (t : Token) (ts rest : List Token) (before total : List Pair) → rest ≡ t ∷ ts → at ≡ size - length rest
    → before ++ pairs_from text size os rest ≡ total → (before ++ ended_pair text at t os) ++ pairs_from text size (open_after text at t os) ts ≡ total
unfolding pairs_from
goes_on text size at os t ts rest before total is here so_far =
    let place : at ≡ size - length (t ∷ ts) = here ∙ ap (λ (us : List Token). size - length us) is in
    let so_far' : before ++ pairs_from text size os (t ∷ ts) ≡ total = subst (λ us. before ++ pairs_from text size os us ≡ total) is so_far in
    rw place (append_assoc before (ended_pair text (size - length (t ∷ ts)) t os) (pairs_from text size (open_after text (size - length (t ∷ ts)) t os) ts) ∙ so_far')

pub ends : (text : List ℕ) (size : ℕ) (os : List Opened) (rest : List Token) (before total : List Pair) → before ++ pairs_from text size os rest ≡ total → length rest ≡ 0 → before ≡ total
unfolding pairs_from
ends text size os [] before total so_far none = sym (append-nil before) ∙ so_far
ends text size os (t ∷ ts) before total so_far none = absurd (omega arith)

-- ---- the other bracket

pub none_pushed : (old : List (Option ℕ)) → ((j : ℕ) → get_or old j None ≡ None) → (j : ℕ) → get_or (old ++ None ∷ []) j None ≡ None
none_pushed [] f zero = refl
none_pushed [] f (suc j) = refl
none_pushed (x ∷ xs) f zero = f zero
none_pushed (x ∷ xs) f (suc j) = none_pushed xs (λ k. f (suc k)) j

by_test : (test : Bool) (i k : ℕ) (v w x : Option ℕ) → (i == k) ≡ test → (i ≡ k → x ≡ v) → (i ≢ k → x ≡ w) → x ≡ (if test then v else w)
by_test true i k v w x is same apart = same (true-eqb i k (sym is))
by_test false i k v w x is same apart = apart (false-eqb i k (sym is))

pub put_twice : (old mid new : List (Option ℕ)) (p : Pair) → length mid ≡ length old
    → (p.opening < length old → get_or mid p.opening None ≡ Some p.closing) → ((n : ℕ) → n ≢ p.opening → get_or mid n None ≡ get_or old n None)
    → (p.closing < length mid → get_or new p.closing None ≡ Some p.opening) → ((n : ℕ) → n ≢ p.closing → get_or new n None ≡ get_or mid n None)
    → (i : ℕ) → i < length old → get_or new i None ≡ paired p i (get_or old i None)
put_twice old mid new p long first first_apart second second_apart i less =
    by_test (i == p.closing) i p.closing (Some p.opening) _ (get_or new i None) refl (λ same. ap (λ n. get_or new n None) same ∙ second (omega (arith, same, less, long)))
    (λ apart. second_apart i apart ∙ by_test (i == p.opening) i p.opening (Some p.closing) _ (get_or mid i None) refl (λ same. ap (λ n. get_or mid n None) same ∙ first (omega (arith, same, less)))
    (λ apart'. first_apart i apart'))

pub one_other : (old new : List (Option ℕ)) (p : Pair) (ps rest pairs : List Pair) (size : ℕ) → rest ≡ p ∷ ps → length old ≡ size
    → ((i : ℕ) → i < length old → get_or new i None ≡ paired p i (get_or old i None))
    → ((i : ℕ) → i < size → other_among (get_or old i None) rest i ≡ other_in pairs i) → (i : ℕ) → i < size → other_among (get_or new i None) ps i ≡ other_in pairs i
unfolding other_among
one_other old new p ps rest pairs size is long changed so_far i less =
    ap (λ (g : Option ℕ). other_among g ps i) (changed i (omega (arith, less, long))) ∙ subst (λ (qs : List Pair). other_among (get_or old i None) qs i ≡ other_in pairs i) is (so_far i less)

pub all_others : (others : List (Option ℕ)) (rest pairs : List Pair) (size : ℕ) → length rest ≡ 0 → length others ≡ size
    → ((i : ℕ) → i < size → other_among (get_or others i None) rest i ≡ other_in pairs i) → AreOthers pairs size others
unfolding other_among
all_others others [] pairs size none long so_far = (long, so_far)
all_others others (p ∷ ps) pairs size none long so_far = absurd (omega arith)

-- ---- brackets by themselves

pub one_alone : (text : List ℕ) (size at : ℕ) (pairs : List Pair) (t : Token) (ts rest : List Token) (other : Option ℕ) (before total : List ℕ) → rest ≡ t ∷ ts → at ≡ size - length rest → other ≡ other_in pairs at
    → before ++ alone_from text size pairs rest ≡ total → (before ++ alone_at text t other) ++ alone_from text size pairs ts ≡ total
unfolding alone_from
one_alone text size at pairs t ts rest other before total is here found so_far =
    let place : at ≡ size - length (t ∷ ts) = here ∙ ap (λ (us : List Token). size - length us) is in
    let so_far' : before ++ alone_from text size pairs (t ∷ ts) ≡ total = subst (λ us. before ++ alone_from text size pairs us ≡ total) is so_far in
    let found' : other ≡ other_in pairs (size - length (t ∷ ts)) = found ∙ ap (other_in pairs) place in
    rw found' (append_assoc before (alone_at text t (other_in pairs (size - length (t ∷ ts)))) (alone_from text size pairs ts) ∙ so_far')

pub all_alone : (text : List ℕ) (size : ℕ) (pairs : List Pair) (rest : List Token) (before total : List ℕ) → before ++ alone_from text size pairs rest ≡ total → length rest ≡ 0 → before ≡ total
unfolding alone_from
all_alone text size pairs [] before total so_far none = sym (append-nil before) ∙ so_far
all_alone text size pairs (t ∷ ts) before total so_far none = absurd (omega arith)
