-- The visible atoms of a label, by those with which it asked in the round before.
use Rattle.std.proofs.Common.{true, false, ◌≡◌, ℕ, zero, suc, ◌<◌, List, ◌∷◌, map, get_or, Option, Some, None, slice_get, IsSomeAnd, IfSome, Contains, refl, sym, ap, ◌∙◌, inl, inr, arith, subst}
use Rattle.std.specs.List.{filter}
use Rattle.std.specs.List.Sorted.{IsStrictlyIncreasing}
use Rattle.std.proofs.lemmas.Option.{get_or_from_slice_get}
use Rattle.tp_base.specs.Classes.{has_class, with_class, union_of}
use Rattle.tp_base.proofs.ClassLemmas.{same_members, has_class-Contains, Contains-has_class, Contains-union_of, IsStrictlyIncreasing-union_of, Contains-cut_to, IsStrictlyIncreasing-cut_to}
use Rattle.tp_base.proofs.Lists.{Contains-at}
use Rattle.simple_core.specs.declared.system.System.{System}
use Rattle.simple_core.specs.declared.summaries.First.{First}
use Rattle.simple_core.specs.Labels.{kinds_at, visible_in}
use Rattle.simple_core.proofs.Members.{among_all, filter-Contains, Contains-filter}
use Rattle.simple_core.proofs.RoundLemmas.{grown-rises, grown-one_more}
use Rattle.need_table.specs.declared.entries.Entry.{Entry}
use Rattle.need_table.specs.Tables.{pair_of, atoms_from, labels, IsPlaceFrom, IsSeenBefore, IsTable}
use Rattle.need_table.proofs.ChildLemmas.{some_at, and_at}
use Rattle.need_table.proofs.FillLemmas.{label_now}
use Rattle.need_table.proofs.GainLemmas.{fresh_is, old_or_fresh}

before_one : (n : ℕ) → 0 < n → (m : ℕ) × (n ≡ suc m)
before_one zero less = absurd (omega arith)
before_one (suc m) less = (m, refl)

pub some_more : {X : Type 0} {P Q : X → Type 0} (o : Option X) → ((x : X) → P x → Q x) → IfSome o P → IfSome o Q
some_more None more known = known
some_more (Some x) more known = more x known

-- one visible atom more, or another one
pub seen_more : (s : System) (seen seen' : List ℕ) (rest others : List First) (f : First) → rest ≡ f ∷ others → has_class f.atom s.visible ≡ true → seen' ≡ with_class f.atom seen
    → union_of seen' (filter (λ a. has_class a s.visible) (map (λ f. f.atom) others)) ≡ union_of seen (filter (λ a. has_class a s.visible) (map (λ f. f.atom) rest))
seen_more s seen seen' rest others f split is_visible is =
    let left = filter (λ a. has_class a s.visible) (map (λ (f : First). f.atom) others) in
    let kept : filter (λ a. has_class a s.visible) (map (λ (f : First). f.atom) (f ∷ others)) ≡ f.atom ∷ left = rw is_visible refl in
    ap (λ z. union_of z left) is ∙ ap (union_of seen) (sym kept) ∙ ap (λ (z : List First). union_of seen (filter (λ a. has_class a s.visible) (map (λ (f : First). f.atom) z))) (sym split)

pub seen_same : (s : System) (seen : List ℕ) (rest others : List First) (f : First) → rest ≡ f ∷ others → has_class f.atom s.visible ≡ false
    → union_of seen (filter (λ a. has_class a s.visible) (map (λ f. f.atom) others)) ≡ union_of seen (filter (λ a. has_class a s.visible) (map (λ f. f.atom) rest))
seen_same s seen rest others f split hidden =
    let left = filter (λ a. has_class a s.visible) (map (λ (f : First). f.atom) others) in
    let gone : filter (λ a. has_class a s.visible) (map (λ (f : First). f.atom) (f ∷ others)) ≡ left = rw hidden refl in
    ap (union_of seen) (sym gone) ∙ ap (λ (z : List First). union_of seen (filter (λ a. has_class a s.visible) (map (λ (f : First). f.atom) z))) (sym split)

-- the atoms that it asked with and the new ones that are visible
pub seen_all : (s : System) (e : Entry) (parent before fresh : List ℕ) → IsSeenBefore s e fresh parent → before ≡ parent → IsStrictlyIncreasing e.label
    → union_of before (filter (λ a. has_class a s.visible) fresh) ≡ visible_in s e.label
seen_all s e parent before fresh is copied up =
    let rises : IsStrictlyIncreasing before = subst IsStrictlyIncreasing (sym copied) is.rises in
    let new = filter (λ a. has_class a s.visible) fresh in
    let all = union_of before new in
    let seen = visible_in s e.label in
    same_members all seen (IsStrictlyIncreasing-union_of before new rises) (IsStrictlyIncreasing-cut_to s.visible e.label up)
    (among_all all seen (λ a there. elim ((Contains-union_of before new a).0 there) [
      | inl old ↦ (is.members a).0 (inl (subst (λ (z : List ℕ). Contains z a) copied old))
      | inr one ↦ let both = filter-Contains (λ a. has_class a s.visible) fresh a one in (is.members a).0 (inr (Contains-has_class a s.visible both.1, both.0))
    ]))
    (among_all seen all (λ a there. (Contains-union_of before new a).1 (elim ((is.members a).1 there) [
      | inl old ↦ inl (subst (λ (z : List ℕ). Contains z a) (sym copied) old)
      | inr one ↦ inr (Contains-filter (λ a. has_class a s.visible) fresh a one.1 (has_class-Contains a s.visible one.0))
    ])))

-- what an entry asked in the round before has the atoms that were visible there
pub before_at : (s : System) (pairs : ℕ) (entries : List Entry) (i k place : ℕ) (x : Entry) → IsTable s pairs entries → IsSomeAnd (slice_get entries i) (λ e. e.rounds ≡ Some k) → x ≡ get_or entries i x → IsPlaceFrom x.firsts.items k place
    → 0 < k → (j : ℕ) (c : Entry) → Contains x.children.items j → slice_get entries j ≡ Some c → IsSeenBefore s x (atoms_from place x.firsts.items) c.parent
before_at s pairs entries i k place x table rounds read found later j c child at_j =
    let e = some_at (λ (e : Entry). e.rounds ≡ Some k) (slice_get entries i) rounds in
    let here : x ≡ e.0 = read ∙ get_or_from_slice_get entries i e.0 x e.1 in
    let there : Contains entries x = subst (Contains entries) (sym here) (Contains-at entries i e.0 e.1) in
    let at : x.rounds ≡ Some k = subst (λ (z : Entry). z.rounds ≡ Some k) (sym here) e.2 in
    let p = before_one k later in
    let m = p.0 in
    let q = pair_of x in
    let fresh = atoms_from place x.firsts.items in
    let is_fresh = fresh_is s x k place (table.up_to x there) at found in
    let asks = and_at (λ (c : Entry). Contains (kinds_at s (labels s q m)) c.kind × (c.parent ≡ visible_in s (labels s q m))) (slice_get entries j) c at_j (table.only x there m j (at ∙ ap Some p.1) child) in
    let now : x.label ≡ labels s q k = label_now s x k (table.up_to x there) at in
    record {
      rises = subst IsStrictlyIncreasing (sym asks.1) (IsStrictlyIncreasing-cut_to s.visible (labels s q m) (grown-rises s m q.0 q.1));
      members = λ a. (
        λ either. (Contains-cut_to s.visible x.label a).1 (elim either [
          | inl old ↦
              let both = (Contains-cut_to s.visible (labels s q m) a).0 (subst (λ (z : List ℕ). Contains z a) asks.1 old) in
              (both.0, subst (λ (z : List ℕ). Contains z a) (sym now) (subst (λ z. Contains (labels s q z) a) (sym p.1) (grown-one_more s q.0 q.1 m a both.1)))
          | inr new ↦ (new.0, subst (λ (z : List ℕ). Contains z a) (sym now) ((is_fresh a).0 new.1).0)
        ]),
        λ seen.
            let both = (Contains-cut_to s.visible x.label a).0 seen in
            elim (old_or_fresh s q k fresh is_fresh m p.1 a (subst (λ (z : List ℕ). Contains z a) now both.1)) [
              | inl old ↦ inl (subst (λ (z : List ℕ). Contains z a) (sym asks.1) ((Contains-cut_to s.visible (labels s q m) a).1 (both.0, old)))
              | inr new ↦ inr (both.0, new)
            ],
      );
    }

-- the label of the entry at a place rises
pub label_rises : (s : System) (pairs : ℕ) (entries : List Entry) (i k : ℕ) (x : Entry) → IsTable s pairs entries → IsSomeAnd (slice_get entries i) (λ e. e.rounds ≡ Some k) → x ≡ get_or entries i x → IsStrictlyIncreasing x.label
label_rises s pairs entries i k x table rounds read =
    let e = some_at (λ (e : Entry). e.rounds ≡ Some k) (slice_get entries i) rounds in
    let here : x ≡ e.0 = read ∙ get_or_from_slice_get entries i e.0 x e.1 in
    let there : Contains entries x = subst (Contains entries) (sym here) (Contains-at entries i e.0 e.1) in
    subst IsStrictlyIncreasing (sym (label_now s x k (table.up_to x there) (subst (λ (z : Entry). z.rounds ≡ Some k) (sym here) e.2))) (grown-rises s k x.kind x.parent)
