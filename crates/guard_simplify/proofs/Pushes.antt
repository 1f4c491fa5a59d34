-- Loops that push what one more element gives.
use Rattle.std.proofs.Common.{◌≡◌, ℕ, ◌+◌, ◌<◌, List, [], ◌∷◌, ◌++◌, length, map, fold, take, Some, sym, ap, ◌∙◌, subst, arith, append_assoc}
use Rattle.std.specs.Prelude.{slice_get, get_or}
use Rattle.std.proofs.lemmas.List.{map-append, take_more}
use Rattle.std.proofs.lemmas.List.Sums.{fold-append}
use Rattle.std.proofs.lemmas.List.FromFn.{map-range_with_len_more}
use Rattle.tp_base.proofs.Lists.{take_next}
use Rattle.simple_core.specs.declared.rules.Local.{Local}
use Rattle.simple_core.specs.declared.rules.Spawn.{Spawn}
use Rattle.guard_sem.specs.Guards.{Guard, guards_of}
use Rattle.guard_sem.specs.declared.rules.Rule.{Rule}
use Rattle.guard_simplify.specs.declared.keys.Key.{Key}
use Rattle.guard_simplify.specs.Firsts.{with_new}
use Rattle.guard_simplify.specs.Auxiliaries.{Place, same_place}
use Rattle.guard_simplify.specs.Numbered.{IsNumbered, AreNumbered}
use Rattle.guard_simplify.specs.ForestRules.{kind_among, children_spawned}
use Rattle.guard_simplify.specs.SeenRules.{class_locals}
use Rattle.guard_simplify.proofs.NumberedLemmas.{numbered_push}

pub class_pushed : (number needs : ℕ) (classes : List ℕ) (old now new : List Local) (i a : ℕ) (set : List ℕ) → now ≡ old ++ class_locals number needs (take i classes) → set ≡ needs ∷ [] → slice_get classes i ≡ Some a
    → new ≡ now ++ record { needs = set; gives = a; stmt = Some number } ∷ [] → new ≡ old ++ class_locals number needs (take (i + 1) classes)
class_pushed number needs classes old now new i a set before one at last =
    let rule : ℕ → Local = λ a. record { needs = needs ∷ []; gives = a; stmt = Some number } in
    let front = class_locals number needs (take i classes) in
    let whole : class_locals number needs (take (i + 1) classes) ≡ front ++ rule a ∷ [] = ap (map rule) (take_next classes i a at) ∙ map-append rule (take i classes) (a ∷ []) in
    let pushed : new ≡ now ++ rule a ∷ [] = last ∙ ap (λ (z : List ℕ). now ++ record { needs = z; gives = a; stmt = Some number } ∷ []) one in
    pushed ∙ ap (λ z. z ++ rule a ∷ []) before ∙ append_assoc old front (rule a ∷ []) ∙ ap (λ z. old ++ z) (sym whole)

pub child_pushed : (ps : List Place) (i a : ℕ) (q : List ℕ) (old now new : List Spawn) (k kind : ℕ) → now ≡ old ++ children_spawned ps i a q k → kind ≡ kind_among ps (i, q ++ k ∷ [])
    → new ≡ now ++ record { needs = a; kind = kind } ∷ [] → new ≡ old ++ children_spawned ps i a q (k + 1)
child_pushed ps i a q old now new k kind before is last =
    let spawn : ℕ → Spawn = λ k. record { needs = a; kind = kind_among ps (i, q ++ k ∷ []) } in
    let front = children_spawned ps i a q k in
    let whole : children_spawned ps i a q (k + 1) ≡ front ++ spawn k ∷ [] = map-range_with_len_more spawn 0 k k (omega arith) in
    let pushed : new ≡ now ++ spawn k ∷ [] = last ∙ ap (λ (z : ℕ). now ++ record { needs = a; kind = z } ∷ []) is in
    pushed ∙ ap (λ z. z ++ spawn k ∷ []) before ∙ append_assoc old front (spawn k ∷ []) ∙ ap (λ z. old ++ z) (sym whole)

pub node_entered : (i : ℕ) (paths : List (List ℕ)) (old now new : List Place) (m : ℕ) (q : List ℕ) (p : Place) → now ≡ fold (with_new same_place) old (map (λ q. (i, q)) (take m paths)) → p ≡ (i, q) → q ≡ get_or paths m q
    → m < length paths → new ≡ with_new same_place now p → new ≡ fold (with_new same_place) old (map (λ q. (i, q)) (take (m + 1) paths))
node_entered i paths old now new m q p before is at less last =
    let pair : List ℕ → Place = λ q. (i, q) in
    let front : List Place = map pair (take m paths) in
    let next : take (m + 1) paths ≡ take m paths ++ q ∷ [] = take_more paths m q less ∙ ap (λ z. take m paths ++ z ∷ []) (sym at) in
    let whole : map pair (take (m + 1) paths) ≡ front ++ pair q ∷ [] = ap (map pair) next ∙ map-append pair (take m paths) (q ∷ []) in
    last ∙ ap (with_new same_place now) is ∙ ap (λ (z : List Place). with_new same_place z (pair q)) before
    ∙ sym (fold-append (with_new same_place) old front (pair q ∷ [])) ∙ ap (fold (with_new same_place) old) (sym whole)

pub rule_numbered : (n : ℕ) (old mid new : List Key) (rules : List Rule) (i : ℕ) (r : Rule) (numbers pushed : List ℕ) (a : ℕ) → AreNumbered n old mid (guards_of (map (λ (r : Rule). r.guard) (take i rules))) numbers → IsNumbered n mid new r.guard a
    → r ≡ get_or rules i r → i < length rules → pushed ≡ numbers ++ a ∷ [] → AreNumbered n old new (guards_of (map (λ (r : Rule). r.guard) (take (i + 1) rules))) pushed
rule_numbered n old mid new rules i r numbers pushed a listed one at less last =
    let guard_of : Rule → Guard = λ r. r.guard in
    let next : take (i + 1) rules ≡ take i rules ++ r ∷ [] = take_more rules i r less ∙ ap (λ z. take i rules ++ z ∷ []) (sym at) in
    let whole : map guard_of (take (i + 1) rules) ≡ map guard_of (take i rules) ++ r.guard ∷ [] = ap (map guard_of) next ∙ map-append guard_of (take i rules) (r ∷ []) in
    let grown = numbered_push n old mid new (map guard_of (take i rules)) numbers r.guard a listed one in
    subst (λ z. AreNumbered n old new (guards_of z) pushed) (sym whole) (subst (λ z. AreNumbered n old new (guards_of (map guard_of (take i rules) ++ r.guard ∷ [])) z) (sym last) grown)
