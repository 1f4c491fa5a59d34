use Rattle.std.proofs.Common.{ℕ, ◌≡◌, List, Contains, subst, sym, eqb}
use Rattle.std.specs.List.{dedup}
use Rattle.std.proofs.lemmas.List.Sorted.{Contains-permutation, IsPermutation-sym}
use Rattle.std.proofs.lemmas.List.Filters.{dedup_is}
use Rattle.std.proofs.lemmas.List.Kept.{Contains-dedup_nat, Contains-from_dedup}
use Rattle.class_adding.proofs.due.in_order.Goals as goal

pub returns : goal.returns
returns c =
    let old = c.args.numbers.items in
    let sorted = c.sort.new.self.items in
    let set = c.dedup.new.self.items in
    let is : set ≡ dedup eqb sorted = dedup_is eqb sorted set c.dedup.ensures.filtered in
    λ x. (
      λ there. Contains-permutation sorted old x (IsPermutation-sym old sorted c.in_ok-sort.ensures.permutation) (Contains-from_dedup eqb sorted x (subst (λ (zs : List ℕ). Contains zs x) is there)),
      λ there. subst (λ (zs : List ℕ). Contains zs x) (sym is) (Contains-dedup_nat sorted x (Contains-permutation old sorted x c.in_ok-sort.ensures.permutation there)),
    )
