-- A label that gets atoms, and the firsts of those that are new.
use Rattle.std.proofs.Common.{◌≡◌, ℕ, ◌≤◌, false, List, [], ◌∷◌, ◌++◌, map, length, Contains, refl, sym, inl, inr, arith, subst, length-append}
use Rattle.std.specs.List.Sorted.{IsStrictlyIncreasing}
use Rattle.std.proofs.lemmas.Bool.{cases_Bool}
use Rattle.tp_base.specs.Classes.{has_class, union_of}
use Rattle.tp_base.proofs.ClassLemmas.{same_members, Contains-has_class, Contains-union_of, IsStrictlyIncreasing-union_of}
use Rattle.tree_sem.proofs.NodeLemmas.{Contains-map, map-Contains}
use Rattle.simple_core.specs.Labels.{set_of}
use Rattle.simple_core.proofs.Members.{among_all}
use Rattle.simple_core.proofs.RoundLemmas.{set_of-is, is-set_of, set_of-rises}
use Rattle.simple_core.specs.declared.summaries.First.{First}
use Rattle.need_table.specs.Tables.{fresh_of}
use Rattle.need_table.proofs.FillLemmas.{fresh_of-is, is-fresh_of}

-- the atoms of what is new
fresh_atom-is : (own : List ℕ) (round : ℕ) (given : List ℕ) (a : ℕ) → Contains (map (λ f. f.atom) (fresh_of own round given)) a → Contains given a
fresh_atom-is own round given a there =
    let f = map-Contains (λ (f : First). f.atom) (fresh_of own round given) a there in
    subst (Contains given) (sym f.2) (fresh_of-is own round given f.0 f.1).0

is-fresh_atom : (own : List ℕ) (round : ℕ) (given : List ℕ) (a : ℕ) → Contains given a → has_class a own ≡ false → Contains (map (λ f. f.atom) (fresh_of own round given)) a
is-fresh_atom own round given a there new = Contains-map (λ (f : First). f.atom) (fresh_of own round given) (record { atom = a; round = round }) (is-fresh_of own round given a there new)

-- the set of what is new in a set that begins with nothing
pub fresh_all : (label : List ℕ) → IsStrictlyIncreasing label → label ≡ set_of (map (λ f. f.atom) (fresh_of [] 0 label))
fresh_all label rises =
    let atoms = map (λ (f : First). f.atom) (fresh_of [] 0 label) in
    same_members label (set_of atoms) rises (set_of-rises atoms)
    (among_all label (set_of atoms) (λ a there. is-set_of atoms a (is-fresh_atom [] 0 label a there refl)))
    (among_all (set_of atoms) label (λ a there. fresh_atom-is [] 0 label a (set_of-is atoms a there)))

-- a label gets no more by what it has
pub union_fresh : (own : List ℕ) (round : ℕ) (given : List ℕ) → IsStrictlyIncreasing own → union_of own given ≡ union_of own (set_of (map (λ f. f.atom) (fresh_of own round given)))
union_fresh own round given rises =
    let atoms = map (λ (f : First). f.atom) (fresh_of own round given) in
    let all = union_of own given in
    let some = union_of own (set_of atoms) in
    same_members all some (IsStrictlyIncreasing-union_of own given rises) (IsStrictlyIncreasing-union_of own (set_of atoms) rises)
    (among_all all some (λ a there. (Contains-union_of own (set_of atoms) a).1 (elim ((Contains-union_of own given a).0 there) [
      | inl old ↦ inl old
      | inr new ↦ elim (cases_Bool (has_class a own)) [
        | inl known ↦ inl (Contains-has_class a own known)
        | inr fresh ↦ inr (is-set_of atoms a (is-fresh_atom own round given a new fresh))
      ]
    ])))
    (among_all some all (λ a there. (Contains-union_of own given a).1 (elim ((Contains-union_of own (set_of atoms) a).0 there) [
      | inl old ↦ inl old
      | inr new ↦ inr (fresh_atom-is own round given a (set_of-is atoms a new))
    ])))

-- no longer, nothing more
pub none_more : {X : Type 0} (xs ys : List X) → length (xs ++ ys) ≤ length xs → ys ≡ []
none_more xs [] same = refl
none_more xs (y ∷ ys) same = absurd (omega (arith, same, length-append xs (y ∷ ys)))
