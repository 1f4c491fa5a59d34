-- A name in lower case is a name, and so is the name with which a text begins.
use Rattle.std.proofs.Common.{◌≡◌, ℕ, suc, ◌+◌, ◌<◌, Bool, true, false, cond, ◌==◌, ◌||◌, ◌&&◌, if◌then◌else◌, List, [], ◌∷◌, take, map, refl, arith}
use Rattle.std.proofs.lemmas.List.{length-map}
use Rattle.std.specs.Char.{to_ascii_lowercase, is_ascii_digit}
use Rattle.std.specs.List.{prefix_len}
use Rattle.std.proofs.lemmas.Bool.Decides.{nat_tests}
use Rattle.std.proofs.lemmas.List.Folds.{length-prefix_len}
use Rattle.text_bytes.proofs.Fronts.{own_run}
use Rattle.sel_text.specs.Bytes.{starts_name, in_name, begins_name, name_len}
use Rattle.sel_text.specs.Readable.{IsName}

-- ---- lower case changes no test

same_start : (b : ℕ) → starts_name (to_ascii_lowercase b) ≡ starts_name b
same_start b = grind (arith, nat_tests)

same_in : (b : ℕ) → in_name (to_ascii_lowercase b) ≡ in_name b
same_in b = grind (arith, nat_tests)

same_dash : (b : ℕ) → (to_ascii_lowercase b == 45) ≡ (b == 45)
same_dash b = grind (arith, nat_tests)

begins_name-lowered : (bs : List ℕ) → begins_name (map to_ascii_lowercase bs) ≡ begins_name bs
unfolding begins_name
begins_name-lowered [] = refl
begins_name-lowered (b ∷ []) = same_start b
begins_name-lowered (b ∷ c ∷ bs) = rw (same_start b, same_start c, same_dash b, same_dash c) refl

prefix_len-lowered : (bs : List ℕ) → prefix_len in_name (map to_ascii_lowercase bs) ≡ prefix_len in_name bs
prefix_len-lowered [] = refl
prefix_len-lowered (b ∷ bs) = rw (same_in b, prefix_len-lowered bs) refl

pub name_lowered : (name : List ℕ) → IsName name → IsName (map to_ascii_lowercase name)
unfolding name_len
name_lowered name n = record {
  some = rw (length-map name to_ascii_lowercase) n.some;
  whole = rw (begins_name-lowered name, prefix_len-lowered name, length-map name to_ascii_lowercase) n.whole;
}

-- ---- the name with which a text begins

one_in : (p d q : Bool) → p ≡ true → (p || d || q) ≡ true
one_in true d q h = refl
one_in false d q h = let no : false ≡ true = h in absurd cc

first_in : (p q r d : Bool) → (p || q && r) ≡ true → (p || d || q) ≡ true
first_in true q r d h = refl
first_in false true r true h = refl
first_in false true r false h = refl
first_in false false r d h = let no : false ≡ true = h in absurd cc

-- where the second byte is in no name, the first one begins one by itself
first_alone : (p q s t d : Bool) → (p || q && (s || t)) ≡ true → (s || d || t) ≡ false → p ≡ true
first_alone true q s t d h off = refl
first_alone false q true t d h off = let wrong : true ≡ false = off in absurd cc
first_alone false q false t true h off = let wrong : true ≡ false = off in absurd cc
first_alone false q false true false h off = let wrong : true ≡ false = off in absurd cc
first_alone false true false false false h off = let wrong : false ≡ true = h in absurd cc
first_alone false false false false false h off = let wrong : false ≡ true = h in absurd cc

begins_front : (bs : List ℕ) → begins_name bs ≡ true → begins_name (take (prefix_len in_name bs) bs) ≡ true
unfolding begins_name
begins_front [] h = h
begins_front (b ∷ []) h =
    let first : in_name b ≡ true = one_in (starts_name b) (is_ascii_digit b) (b == 45) h in
    rw first h
begins_front (b ∷ c ∷ bs) h =
    let first : in_name b ≡ true = first_in (starts_name b) (b == 45) (starts_name c || c == 45) (is_ascii_digit b) h in
    elim (in_name c) as (λ x. in_name c ≡ x → begins_name (take (cond (in_name b) (1 + cond x (1 + prefix_len in_name bs) 0) 0) (b ∷ c ∷ bs)) ≡ true) [
      | true ↦ λ is. let two : 1 + (1 + prefix_len in_name bs) ≡ suc (suc (prefix_len in_name bs)) = omega arith in rw (first, two) h
      | false ↦ λ is. rw first (first_alone (starts_name b) (b == 45) (starts_name c) (c == 45) (is_ascii_digit c) h is)
    ] refl

len_begins : (b : Bool) (n : ℕ) → 0 < (if b then n else 0) → (b ≡ true) × ((if b then n else 0) ≡ n)
len_begins true n some = (refl, refl)
len_begins false n some = absurd (omega arith)

pub name_front : (bs : List ℕ) → 0 < name_len bs → IsName (take (name_len bs) bs)
unfolding name_len
name_front bs some =
    let is = len_begins (begins_name bs) (prefix_len in_name bs) some in
    let count = length-prefix_len in_name bs in
    rw is.1 (record {
      some = rw (count, ← is.1) some;
      whole = rw (begins_front bs is.0, own_run in_name bs, count) refl;
    })
