-- The flags of a sheet's selectors as flags of the parts of lists.
use Rattle.std.proofs.Common.{◌≡◌, ℕ, suc, ◌+◌, ◌-◌, ◌<◌, ◌==◌, ◌&&◌, ◌||◌, not, Bool, true, false, if◌then◌else◌, List, [], ◌∷◌, ◌++◌, length, map, refl, sym, ap, ◌∙◌, subst, arith, length-append}
use Rattle.std.specs.List.{list_all}
use Rattle.css_read.specs.declared.sheets.Range.{Range}
use Rattle.css_read.specs.Order.{range_of}
use Rattle.css_read.specs.Pruned as spec
use Rattle.css_read.specs.Pruned.{Flagged, goes, end_of_last, list_cuts}
use Rattle.css_read.specs.Sheets.{Item}
use Rattle.css_read.proofs.CutLemmas.{Spot, size_of, spots, all_go, last_to, spot_cuts, part_size}
use Rattle.css_read.proofs.ListLemmas.{BeginsList}
use Rattle.css_read.proofs.PartLemmas.{joined, place_at, places}
use Rattle.css_read.proofs.RelistLemmas.{HowBegun, with_flags, joined_size}
use Rattle.css_read.proofs.ThinLemmas.{lead, solid, trail, end_gap, Part, some_stay, lead_of, last_trail, part_left, thinned, joined_all, EachPart, AreGaps, IsStart, strip_start, solid_end, last_gaps, end_gaps, thinned_some}
use Rattle.css_read.proofs.UnitLemmas.{Chunk, flat, flat-append, strip, with_solid, solids}

-- ---- places are spots

abbrev pub zipped : List Range → List Bool → List Spot
zipped (r ∷ rs) (g ∷ gs) = (r, g) ∷ zipped rs gs
zipped rs gs = []

strip_size : (p : List Chunk) → size_of (strip p) ≡ size_of (solid p) + size_of (trail p)
strip_size p = ap size_of (sym (solid_end (strip p))) ∙ ap length (flat-append (solid p) (trail p)) ∙ length-append (flat (solid p)) (flat (trail p))

range_same : (a b c d : ℕ) → a ≡ c → b ≡ d → ◌≡◌ {A = Range} (record { from = a; to = b }) (record { from = c; to = d })
range_same a b c d first second = rw (first, second) refl

pub place_is : (at : ℕ) (p : List Chunk) → place_at (at + size_of p) p ≡ record { from = at + size_of (lead p); to = at + size_of (lead p) + size_of (solid p) }
place_is at p =
    let from : at + size_of p - size_of (strip p) ≡ at + size_of (lead p) = omega (arith, part_size p, strip_size p) in
    range_same _ _ _ _ from (ap (λ n. n + size_of (solid p)) from)

pub places_zip : (at : ℕ) (p : List Chunk) (ps : List (List Chunk)) (flags : List Bool) → spots at (with_flags (p ∷ ps) flags) ≡ zipped (places (at + size_of (joined p ps)) p ps) flags
places_zip at p [] [] = refl
places_zip at p (q ∷ qs) [] = refl
places_zip at p [] (g ∷ flags) = ap (λ (r : Range). (r, g) ∷ []) (sym (place_is at p))
places_zip at p (q ∷ qs) (g ∷ flags) =
    let size = joined_size p q qs in
    let before : at + size_of (joined p (q ∷ qs)) - suc (size_of (joined q qs)) ≡ at + size_of p = omega arith in
    let after : at + size_of p + 1 + size_of (joined q qs) ≡ at + size_of (joined p (q ∷ qs)) = omega arith in
    let first : place_at (at + size_of (joined p (q ∷ qs)) - suc (size_of (joined q qs))) p ≡ record { from = at + size_of (lead p); to = at + size_of (lead p) + size_of (solid p) } = ap (λ n. place_at n p) before ∙ place_is at p in
    let later : spots (at + size_of p + 1) (with_flags (q ∷ qs) flags) ≡ zipped (places (at + size_of (joined p (q ∷ qs))) q qs) flags = places_zip (at + size_of p + 1) q qs flags ∙ ap (λ n. zipped (places n q qs) flags) after in
    ap (λ (r : Range). (r, g) ∷ spots (at + size_of p + 1) (with_flags (q ∷ qs) flags)) (sym first) ∙ ap (λ (ss : List Spot). (place_at (at + size_of (joined p (q ∷ qs)) - suc (size_of (joined q qs))) p, g) ∷ ss) later

-- ---- the cuts of a list

abbrev pub spot_of : Flagged → Spot
spot_of f = (range_of f.0, f.1)

pub flags_zip : (items : List Item) (flags : List Bool) → map spot_of (spec.with_flags items flags) ≡ zipped (map range_of items) flags
flags_zip [] flags = refl
flags_zip (i ∷ items) [] = refl
flags_zip (i ∷ items) (g ∷ flags) = ap (λ (ss : List Spot). (range_of i, g) ∷ ss) (flags_zip items flags)

pub all_same : (fs : List Flagged) → all_go (map spot_of fs) ≡ list_all goes fs
all_same [] = refl
all_same (f ∷ fs) = ap (λ (x : Bool). f.1 && x) (all_same fs)

last_same : (to : ℕ) (fs : List Flagged) → last_to to (map spot_of fs) ≡ end_of_last to fs
last_same to [] = refl
last_same to (f ∷ fs) = last_same f.0.to fs

pub cuts_same : (fs : List Flagged) → spot_cuts (map spot_of fs) ≡ list_cuts fs
cuts_same [] = refl
cuts_same (f ∷ []) = refl
cuts_same (f ∷ g ∷ fs) = rw (all_same (g ∷ fs), last_same g.0.to fs, cuts_same (g ∷ fs)) refl

-- ---- how a list that is left begins

-- with no at-rule
abbrev pub StartsWell : List Chunk → Type 0
StartsWell [] = Unit {0}
StartsWell (c ∷ cs) = (c.first == 64) ≡ false

solid_start : (cs : List Chunk) → IsStart cs → IsStart (solids cs)
solid_start [] start = tt
solid_start (c ∷ cs) start = rw start start

-- without a selector there is no gap behind it
no_solid : (cs : List Chunk) → IsStart cs → solids cs ≡ [] → end_gap cs ≡ []
no_solid [] start none = refl
no_solid (c ∷ cs) start none = absurd (some (rw start at none))
  where
    some : with_solid false c (solids cs) ≡ [] → ⊥
    some none = cc

begins_solid : (cs behind : List Chunk) → IsStart cs → StartsWell cs → 0 < length cs → BeginsList (cs ++ behind)
begins_solid [] behind start well some = absurd (omega arith)
begins_solid (c ∷ cs) behind start well some = (start, well)

begins_joined : (p : List Chunk) (qs : List (List Chunk)) → BeginsList p → 0 < length p → BeginsList (joined p qs)
begins_joined [] qs begins some = absurd (omega arith)
begins_joined (c ∷ p) [] begins some = begins
begins_joined (c ∷ p) (q ∷ qs) begins some = begins

-- a part that stays before others
stays_begun : (p q : List Chunk) (qs : List (List Chunk)) (cs : List Chunk) → solid p ≡ cs → StartsWell (solid p) → BeginsList (joined (part_left [] p (trail p)) (q ∷ qs))
stays_begun p q qs [] is well =
    let none : trail p ≡ [] = no_solid (strip p) (strip_start p) is in
    let nothing : part_left [] p (trail p) ≡ [] = rw (is, none) refl in
    rw nothing (refl, refl)
stays_begun p q qs (c ∷ cs) is well =
    let some : 0 < length (solid p) = rw is (omega arith) in
    begins_joined (part_left [] p (trail p)) (q ∷ qs) (begins_solid (solid p) (trail p) (solid_start (strip p) (strip_start p)) well some) (omega (arith, length-append (solid p) (trail p)))

last_begun : (p : List Chunk) (behind cs : List Chunk) → solid p ≡ cs → StartsWell (solid p) → AreGaps behind → (gaps : Bool) × HowBegun gaps (part_left [] p behind)
last_begun p behind [] is well gaps = (true, subst AreGaps (sym (ap (λ (ds : List Chunk). ds ++ behind) is)) gaps)
last_begun p behind (c ∷ cs) is well gaps =
    let some : 0 < length (solid p) = rw is (omega arith) in
    (false, begins_solid (solid p) behind (solid_start (strip p) (strip_start p)) well some)

pub how_begun : (ps : List Part) → EachPart (λ p. StartsWell (solid p)) ps → some_stay ps ≡ true → (gaps : Bool) × HowBegun gaps (joined_all (thinned [] ps))
how_begun [] well some = absurd (not_some some)
  where
    not_some : false ≡ true → ⊥
    not_some same = cc
how_begun ((p, flag) ∷ ps) well some = by (some_stay ps) flag refl some (how_begun ps well.1)
  where
    not_some : false ≡ true → ⊥
    not_some same = cc

    by : (more flag : Bool) → some_stay ps ≡ more → (not flag || more) ≡ true → (some_stay ps ≡ true → (gaps : Bool) × HowBegun gaps (joined_all (thinned [] ps)))
        → (gaps : Bool) × HowBegun gaps (joined_all (if more then (if flag then thinned [] ps else part_left [] p (trail p) ∷ thinned (lead_of ps) ps) else (if flag then [] else part_left [] p (last_trail (trail p) ps) ∷ [])))
    by true true is some later = later is
    by true false is some later = let left = thinned_some (lead_of ps) ps is in rw left.2 (false, stays_begun p left.0 left.1 (solid p) refl well.0)
    by false true is some later = absurd (not_some some)
    by false false is some later = last_begun p (last_trail (trail p) ps) (solid p) refl well.0 (last_gaps (trail p) ps (end_gaps (strip p)))
