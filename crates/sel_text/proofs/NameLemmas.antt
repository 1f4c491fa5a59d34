-- Names and what may stand behind them.
use Rattle.std.proofs.Common.{◌≡◌, ℕ, ◌-◌, ◌<◌, Bool, true, false, ◌==◌, ◌||◌, ◌&&◌, nat_eq, if◌then◌else◌, List, [], ◌∷◌, ◌++◌, length, Some, Ok, codes, refl, sym, ap, ◌∙◌, arith, add-zero, length-append}
use Rattle.std.proofs.lemmas.Bool.{ne_eqb, eq-eqb, lt-ltb}
use Rattle.std.proofs.lemmas.List.Folds.{prefix_len-append}
use Rattle.std.proofs.Math.Seq.{take-append_seam, drop-append_seam}
use Rattle.std.specs.List.{starts_with, prefix_len}
use Rattle.tp_base.specs.declared.atoms.AtomKind.{AtomKind}
use Rattle.tp_base.proofs.Truths.{not_both}
use Rattle.text_bytes.specs.Rests.{IsRest}
use Rattle.text_bytes.specs.Blanks.{is_blank}
use Rattle.sel_text.specs.Bytes.{starts_name, in_name, begins_name, name_len, behind_gap}
use Rattle.sel_text.specs.Grammar.{name_at}
use Rattle.sel_text.specs.Readable.{IsName}
use Rattle.sel_text.proofs.Gaps.{stops}

-- a byte that passes a test is none that doesn't
pub not_byte : (p : ℕ → Bool) (k b : ℕ) → p k ≡ false → p b ≡ true → (b == k) ≡ false
not_byte p k b fails passes = ne_eqb b k (λ e. not_both (p b) passes (ap p e ∙ fails))

-- a byte with which a name may begin
abbrev pub is_start : ℕ → Bool
is_start b = starts_name b || b == 45

-- a text that begins with no white space, no comment and no `>`
abbrev pub IsStart : List ℕ → Type 0
IsStart [] = ⊥
IsStart (b ∷ bs) = (is_blank b ≡ false) × ((b == 47) ≡ false) × ((b == 62) ≡ false)

no_blank : (b : ℕ) → is_start b ≡ true → is_blank b ≡ false
no_blank b h = rw (not_byte is_start 32 b refl h, not_byte is_start 9 b refl h, not_byte is_start 10 b refl h, not_byte is_start 12 b refl h, not_byte is_start 13 b refl h) refl

pub start_of_byte : (b : ℕ) (bs : List ℕ) → is_start b ≡ true → IsStart (b ∷ bs)
start_of_byte b bs h = (no_blank b h, not_byte is_start 47 b refl h, not_byte is_start 62 b refl h)

pub no_comment : (b : ℕ) (bs : List ℕ) → (b == 47) ≡ false → starts_with nat_eq (b ∷ bs) (codes "/*") ≡ false
no_comment b bs no_slash = rw (ne_eqb 47 b (λ e. not_both (b == 47) (eq-eqb b 47 (sym e)) no_slash)) refl

-- such a text is behind each gap already
pub no_gap : (blanks : Bool) (bs : List ℕ) → IsStart bs → behind_gap blanks 0 bs ≡ bs
no_gap blanks [] s = absurd s
no_gap true (b ∷ bs) s = stops true b bs s.0 (no_comment b bs s.1)
no_gap false (b ∷ bs) s = stops false b bs refl (no_comment b bs s.1)

-- ---- names

either : (b c : Bool) → (if b then c else false) ≡ true → b ≡ true
either true c h = refl
either false c h = h

len_begins : (b : Bool) (n k : ℕ) → (if b then n else 0) ≡ k → 0 < k → (b ≡ true) × (n ≡ k)
len_begins true n k e some = (refl, e)
len_begins false n k e some = absurd (omega arith)

pub name_begins : (name : List ℕ) → IsName name → (begins_name name ≡ true) × (prefix_len in_name name ≡ length name)
unfolding name_len
name_begins name n = len_begins (begins_name name) (prefix_len in_name name) (length name) n.whole n.some

pub begins_more : (name rest : List ℕ) → begins_name name ≡ true → begins_name (name ++ rest) ≡ true
unfolding begins_name
begins_more [] rest h = cc
begins_more (b ∷ []) [] h = h
begins_more (b ∷ []) (c ∷ rest) h = rw h refl
begins_more (b ∷ c ∷ name) rest h = h

pub or_start : (p q r : Bool) → (p || q && r) ≡ true → (p || q) ≡ true
or_start true q r h = refl
or_start false true r h = refl
or_start false false r h = h

pub first_of_name : (name rest : List ℕ) → begins_name name ≡ true → IsStart (name ++ rest)
unfolding begins_name
first_of_name [] rest h = let no : false ≡ true = h in absurd cc
first_of_name (b ∷ []) rest h = start_of_byte b rest (rw h refl)
first_of_name (b ∷ c ∷ name) rest h = start_of_byte b (c ∷ name ++ rest) (or_start (starts_name b) (b == 45) (starts_name c || c == 45) h)

-- no byte of a name is next
abbrev pub IsEnd : List ℕ → Type 0
IsEnd rest = prefix_len in_name rest ≡ 0

pub name_len-append : (name rest : List ℕ) → IsName name → IsEnd rest → name_len (name ++ rest) ≡ length name
unfolding name_len
name_len-append name rest n end =
    let is = name_begins name n in
    rw (begins_more name rest is.0, prefix_len-append in_name name rest, is.1, eq-eqb (length name) (length name) refl, end) (add-zero (length name))

pub reads_name : (to : ℕ) (k : AtomKind) (name rest : List ℕ) → IsName name → IsEnd rest → name_at to k (name ++ rest) ≡ Ok (Some (k, name), rest)
unfolding name_at
reads_name to k name rest n end =
    let start = first_of_name name rest (name_begins name n).0 in
    rw (no_gap false (name ++ rest) start, name_len-append name rest n end, lt-ltb 0 (length name) n.some, take-append_seam name rest, drop-append_seam name rest) refl

-- what is behind a front is the last of the whole
pub behind_front : (front rest : List ℕ) → IsRest (front ++ rest) rest
behind_front front rest =
    let count : length (front ++ rest) - length rest ≡ length front = omega (arith, length-append front rest) in
    record { shorter = omega (arith, length-append front rest); last = rw count (drop-append_seam front rest) }
