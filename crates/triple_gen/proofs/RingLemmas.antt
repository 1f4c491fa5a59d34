-- The lines of one box more.
use Rattle.std.proofs.Common.{◌≡◌, ℕ, ◌+◌, ◌%◌, suc, List, [], ◌∷◌, ◌++◌, sym, ap, ◌∙◌, append-nil, arith}
use Rattle.std.specs.List.{flat_map, range_with_len}
use Rattle.std.proofs.lemmas.Grind.{flat_map-append}
use Rattle.tp_base.proofs.Lists.{range_more}
use Rattle.triple_gen.specs.Ring.{script_line}

pub one_more : (line : ℕ → List ℕ) (i : ℕ) (before : List ℕ) → before ≡ flat_map line (range_with_len 0 i) → before ++ line i ≡ flat_map line (range_with_len 0 (i + 1))
one_more line i before so_far =
    let next : i + 1 ≡ suc i = omega arith in
    let all : flat_map line (range_with_len 0 i ++ i ∷ []) ≡ flat_map line (range_with_len 0 i) ++ line i = flat_map-append line (range_with_len 0 i) (i ∷ []) ∙ ap (λ z. flat_map line (range_with_len 0 i) ++ z) (append-nil (line i)) in
    let here : 0 + i ≡ i = omega arith in
    let range : range_with_len 0 (suc i) ≡ range_with_len 0 i ++ i ∷ [] = range_more 0 i ∙ ap (λ k. range_with_len 0 i ++ k ∷ []) here in
    ap (λ z. z ++ line i) so_far ∙ sym all ∙ ap (flat_map line) (sym range ∙ ap (range_with_len 0) (sym next))

pub one_more_script : (n i : ℕ) (before now : List ℕ) → before ≡ flat_map (λ i. script_line i ((i + 1) % n)) (range_with_len 0 i) → now ≡ before ++ script_line i ((i + 1) % n)
    → now ≡ flat_map (λ i. script_line i ((i + 1) % n)) (range_with_len 0 (i + 1))
one_more_script n i before now so_far is = is ∙ one_more (λ i. script_line i ((i + 1) % n)) i before so_far
