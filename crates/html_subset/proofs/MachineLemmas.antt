-- Steps of the machine.
use Rattle.std.proofs.Common.{◌≡◌, ℕ, ◌-◌, ◌≤◌, ◌||◌, Bool, true, false, if◌then◌else◌, List, [], ◌∷◌, length, take, reverse, Option, option_map, Ok, Err, refl, ap, ◌∙◌, arith}
use Rattle.html_subset.specs.Labels.{Outcome, ◌>>=◌}
use Rattle.std.proofs.lemmas.List.{take_all}
use Rattle.html_table.specs.declared.elements.Kind.TheVariants as k
use Rattle.html_table.specs.declared.scopes.Scope.TheVariants as within
use Rattle.html_table.specs.declared.open_elements.Ending.{Ending}
use Rattle.html_table.specs.declared.open_elements.Ending.TheVariants as does
use Rattle.html_table.specs.Elements as of_element
use Rattle.html_table.specs.Elements.{is_root, is_void, Element}
use Rattle.html_table.specs.TreeTable.{behind, has_kind, closed_at_end, ending}
use Rattle.html_subset.specs.Machine.{Machine, cut, with_open, with_implied, paragraph_end, end_tag}

same_step : (r : Outcome Machine) → (r >>= λ m. Ok m) ≡ r
same_step (Ok m) = refl
same_step (Err e) = refl

pub none_implied : (at : ℕ) (m : Machine) → with_implied [] at m ≡ Ok m
unfolding with_implied
none_implied at m = refl

pub one_implied : (name : List ℕ) (at : ℕ) (m : Machine) → with_implied (name ∷ []) at m ≡ with_open name at m
unfolding with_implied
one_implied name at m = same_step (with_open name at m)

same_steps : (r : Outcome Machine) (f g : Machine → Outcome Machine) → ((m : Machine) → f m ≡ g m) → (r >>= f) ≡ (r >>= g)
same_steps (Ok m) f g same = same m
same_steps (Err e) f g same = refl

pub two_implied : (name more : List ℕ) (at : ℕ) (m : Machine) → with_implied (name ∷ more ∷ []) at m ≡ (with_open name at m >>= λ n. with_open more at n)
unfolding with_implied
two_implied name more at m = same_steps (with_open name at m) (λ n. with_open more at n >>= λ o. Ok o) (λ n. with_open more at n) (λ n. same_step (with_open more at n))

-- where no element is closed nothing changes
pub nothing_cut : (n : ℕ) (m : Machine) → length m.elements ≤ n → cut n m ≡ m
unfolding cut
nothing_cut n m all =
    let none : length m.at - (length m.elements - n) ≡ length m.at = omega (arith, all) in
    let same : take (length m.at - (length m.elements - n)) m.at ≡ m.at = ap (λ i. take i m.at) none ∙ take_all (length m.at) m.at (omega arith) in
    rw (same, take_all n m.elements all) refl

-- ---- end tags

module _ (e : Element) (at : ℕ) (m : Machine) where
  abbrev ended : Bool → Bool → Ending
  ended r p = if r then does.Nothing else (if p then does.Paragraph else does.Leaves (length (closed_at_end e (reverse m.elements))))

  abbrev left : Option ℕ
  left = option_map length (behind (has_kind k.Paragraph) within.Walls (reverse m.elements))

  abbrev goes : Bool → Bool → Outcome Machine
  goes r p = if r then Ok m else (if p then paragraph_end left at m else Ok (cut (length (closed_at_end e (reverse m.elements))) m))

  pub ends_nothing : ending e (reverse m.elements) ≡ does.Nothing → end_tag e at m ≡ Ok m
  unfolding end_tag
  ends_nothing = by (is_root e.kind || is_void e.kind) (of_element.is e.kind k.Paragraph)
    where
      by : (r p : Bool) → ended r p ≡ does.Nothing → goes r p ≡ Ok m
      by true p same = refl
      by false true same = absurd cc
      by false false same = absurd cc

  pub ends_paragraph : ending e (reverse m.elements) ≡ does.Paragraph → end_tag e at m ≡ paragraph_end left at m
  unfolding end_tag
  ends_paragraph = by (is_root e.kind || is_void e.kind) (of_element.is e.kind k.Paragraph)
    where
      by : (r p : Bool) → ended r p ≡ does.Paragraph → goes r p ≡ paragraph_end left at m
      by true p same = absurd cc
      by false true same = refl
      by false false same = absurd cc

  pub ends_open : (n : ℕ) → ending e (reverse m.elements) ≡ does.Leaves n → end_tag e at m ≡ Ok (cut n m)
  unfolding end_tag
  ends_open n = by (is_root e.kind || is_void e.kind) (of_element.is e.kind k.Paragraph)
    where
      by : (r p : Bool) → ended r p ≡ does.Leaves n → goes r p ≡ Ok (cut n m)
      by true p same = absurd cc
      by false true same = absurd cc
      by false false same = let one : length (closed_at_end e (reverse m.elements)) ≡ n = (let both : does.Leaves (length (closed_at_end e (reverse m.elements))) ≡ does.Leaves n = same in cc) in ap (λ i. Ok (cut i m)) one
