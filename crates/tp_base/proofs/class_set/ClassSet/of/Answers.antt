use Rattle.std.proofs.Common.{ℕ, ◌≡◌, List, [], Contains, ◌⊎◌, inl, inr, subst, sym, eqb, arith}
use Rattle.std.specs.List.{dedup}
use Rattle.std.specs.List.Sorted.{IsStrictlyIncreasing}
use Rattle.std.proofs.lemmas.List.Sorted.{Contains-permutation, IsPermutation-sym}
use Rattle.std.proofs.lemmas.List.Filters.{dedup_is}
use Rattle.std.proofs.lemmas.List.Kept.{Contains-dedup_nat, Contains-from_dedup}
use Rattle.std.proofs.lemmas.Map.Keys.{IsStrictlyIncreasing-dedup}
use Rattle.tp_base.specs.Classes.{union_of}
use Rattle.tp_base.proofs.ClassLemmas.{IsStrictlyIncreasing-union_of, union_of-keeps_right, Contains-union_of}
use Rattle.tp_base.proofs.Rising.{Contains-none, same_members, All-from_Contains}
use Rattle.tp_base.proofs.class_set.ClassSet.of.Goals as goal

no_left : (xs : List ℕ) (x : ℕ) → Contains [] x ⊎ Contains xs x → Contains xs x
no_left xs x (inl none) = absurd (Contains-none x none)
no_left xs x (inr there) = there

pub invariant_of-result : goal.invariant_of-result
invariant_of-result c =
    subst IsStrictlyIncreasing (sym (dedup_is eqb c.sort.new.self.items c.dedup.new.self.items c.dedup.ensures.filtered))
    (IsStrictlyIncreasing-dedup c.sort.new.self.items c.in_ok-sort.ensures.sorted)

pub returns : goal.returns
returns c =
    let atoms = c.args.atoms.items in
    let sorted = c.sort.new.self.items in
    let set = c.dedup.new.self.items in
    let is : set ≡ dedup eqb sorted = dedup_is eqb sorted set c.dedup.ensures.filtered in
    let rises : IsStrictlyIncreasing set = subst IsStrictlyIncreasing (sym is) (IsStrictlyIncreasing-dedup sorted c.in_ok-sort.ensures.sorted) in
    same_members set (union_of [] atoms) rises (IsStrictlyIncreasing-union_of [] atoms (λ k within. absurd (omega arith)))
    (All-from_Contains (Contains (union_of [] atoms)) set (λ x there.
    union_of-keeps_right [] atoms x
    (Contains-permutation sorted atoms x (IsPermutation-sym atoms sorted c.in_ok-sort.ensures.permutation)
    (Contains-from_dedup eqb sorted x (subst (λ (zs : List ℕ). Contains zs x) is there)))))
    (All-from_Contains (Contains set) (union_of [] atoms) (λ x there.
    subst (λ (zs : List ℕ). Contains zs x) (sym is)
    (Contains-dedup_nat sorted x (Contains-permutation atoms sorted x c.in_ok-sort.ensures.permutation (no_left atoms x ((Contains-union_of [] atoms x).0 there))))))
