-- What is the same, where its parts are.
use Rattle.std.proofs.Common.{◌≡◌, ℕ, ◌+◌, ◌<◌, Decides, List, [], ◌∷◌, length, map, take, get_or, refl, sym, ap, ◌∙◌, arith}
use Rattle.std.proofs.lemmas.List.{length-map, get_or-map, take_more_same}
use Rattle.sel_text.specs.declared.selectors.Compound.{Compound}
use Rattle.sel_text.specs.declared.selectors.Join.{Join}
use Rattle.sel_text.specs.declared.selectors.Join.TheVariants.{Inside, Child}
use Rattle.sel_text.specs.contracts.selectors.JoinPartialEq as its
use Rattle.sel_text.specs.Parts.{selector_from}

pub joins_decided : (j k : Join) → Decides (its.TheImpl.eq-value.it j k) (j ≡ k)
joins_decided Inside Inside = (λ yes. refl, λ same. refl)
joins_decided Inside Child = (λ yes. cc, λ same. cc)
joins_decided Child Inside = (λ yes. cc, λ same. cc)
joins_decided Child Child = (λ yes. refl, λ same. refl)

compounds_same : (cs ds : List Compound) → map (λ (c : Compound). c.atoms) cs ≡ map (λ (d : Compound). d.atoms) ds → cs ≡ ds
compounds_same [] [] same = refl
compounds_same [] (d ∷ ds) same = cc
compounds_same (c ∷ cs) [] same = cc
compounds_same (c ∷ cs) (d ∷ ds) same =
    let first : c.atoms ≡ d.atoms = cc in
    let others : map (λ (e : Compound). e.atoms) cs ≡ map (λ (e : Compound). e.atoms) ds = cc in
    let one : c ≡ d = λ i. record { atoms = first i } in
    ap (λ (e : Compound). e ∷ cs) one ∙ ap (λ (l : List Compound). d ∷ l) (compounds_same cs ds others)

pub selectors_same : (cs ds : List Compound) (js ks : List Join) → js ≡ ks → map (λ (c : Compound). c.atoms) cs ≡ map (λ (d : Compound). d.atoms) ds → selector_from cs js ≡ selector_from ds ks
selectors_same cs ds js ks joins parts = ap (selector_from cs) joins ∙ ap (λ (l : List Compound). selector_from l ks) (compounds_same cs ds parts)

-- one element more
pub one_same : {X Y : Type 0} (f : X → Y) (xs ys : List X) (i : ℕ) (x y : X) → i < length xs → i < length ys → x ≡ get_or xs i x → y ≡ get_or ys i y → f x ≡ f y → take i (map f xs) ≡ take i (map f ys)
    → take (i + 1) (map f xs) ≡ take (i + 1) (map f ys)
one_same f xs ys i x y in_first in_second at other same so_far =
    take_more_same (map f xs) (map f ys) i (f x) (omega (arith, in_first, length-map xs f)) (omega (arith, in_second, length-map ys f)) so_far
    (get_or-map f xs i x (f x) in_first ∙ ap f (sym at) ∙ same ∙ ap f other ∙ sym (get_or-map f ys i y (f x) in_second))
