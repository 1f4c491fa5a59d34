-- A list of selectors as chunks, each of which is passed over where it stands: also a string that a line end ends.
use Rattle.std.proofs.Common.{◌≡◌, ℕ, ◌+◌, ◌-◌, ◌==◌, ◌&&◌, ◌||◌, not, Bool, true, false, if◌then◌else◌, List, [], ◌∷◌, ◌++◌, length, codes, refl, sym, ap, ◌∙◌, subst, arith, length-append, append_assoc, append-nil, inl, inr}
use Rattle.std.proofs.lemmas.Bool.{and_parts, cases_Bool, not-true}
use Rattle.std.proofs.lemmas.Bool.Decides.{nat_tests}
use Rattle.std.proofs.lemmas.List.{take_at, drop_at, append_cancel_right}
use Rattle.text_bytes.specs.Blanks.{is_blank}
use Rattle.sel_text.specs.Bytes.{behind_gap}
use Rattle.css_read.specs.Pieces.{with_unit, solid_len, piece_of, from_comma, first_piece, more_pieces, pieces}
use Rattle.css_read.specs.Units.{is_quote, begins_comment, begins_gap, behind_string, behind_unit, after_byte, stops_at, from_first_in}
use Rattle.css_read.proofs.Firsts.{skips}
use Rattle.css_read.proofs.FrontLemmas.{comment_unit}
use Rattle.css_read.proofs.Lengths.{close_no_longer}
use Rattle.css_read.proofs.PartLemmas.{comma, joined, IsPart, AreParts, PartsOf, one_comma, place_at, places, at_comma, more_step}
use Rattle.css_read.proofs.ScanLemmas.{AreSameTo, unit_same, no_front}
use Rattle.css_read.proofs.UnitLemmas.{Chunk, flat, flat-append, is_gap, AreUnits, ArePassed, brackets_after, has_none, other_unit, string_unit, gap_passed, gap_stops, strip, with_solid, solids, solid_step, ends_string, is_end, string_passed}

-- ---- one chunk

-- it begins a gap where it is one
gap_of : (b : ℕ) (m rest : List ℕ) → behind_unit (b ∷ m ++ rest) ≡ rest → begins_gap (b ∷ m ++ rest) ≡ begins_gap (b ∷ m)
gap_of b (e ∷ m) rest behind = refl
gap_of b [] [] behind = refl
gap_of b [] (d ∷ t) behind = elim (cases_Bool (begins_comment (b ∷ d ∷ t))) [
  | inl comment ↦
      let few = close_no_longer t in
      let long = ap length (sym (comment_unit b (d ∷ t) comment) ∙ behind) in
      absurd (omega arith)
  | inr none ↦ ap (λ (x : Bool). is_blank b || x) (none ∙ sym (alone b))
]
  where
    alone : (b : ℕ) → begins_comment (b ∷ []) ≡ false
    alone b = grind (arith, nat_tests)

pub gap_here : (c : Chunk) (rest : List ℕ) → behind_unit (c.first ∷ c.more ++ rest) ≡ rest → begins_gap (c.first ∷ c.more ++ rest) ≡ is_gap c
gap_here c rest behind = gap_of c.first c.more rest behind

pub scan_step : (bytes : List ℕ) (brackets : _) (b : ℕ) (p rest : List ℕ) → stops_at bytes b brackets ≡ false → behind_unit (b ∷ p ++ rest) ≡ rest
    → from_first_in bytes brackets 0 (b ∷ p ++ rest) ≡ from_first_in bytes (after_byte b brackets) 0 rest
unfolding from_first_in
scan_step bytes brackets b p rest stops behind =
    let count = length-append p rest in
    let left : length (p ++ rest) - length rest ≡ length p = omega arith in
    rw (stops, behind, left) (skips bytes (after_byte b brackets) (length p) (p ++ rest) ∙ ap (from_first_in bytes (after_byte b brackets) 0) (drop_at p rest (length p) refl))

pub scan_passed : (bytes : List ℕ) (brackets : _) (cs : List Chunk) (rest : List ℕ) → ArePassed cs rest → has_none bytes brackets cs ≡ true
    → from_first_in bytes brackets 0 (flat cs ++ rest) ≡ from_first_in bytes (brackets_after brackets cs) 0 rest
scan_passed bytes brackets [] rest passed none = refl
scan_passed bytes brackets (c ∷ cs) rest passed none =
    let both = and_parts (not (stops_at bytes c.first brackets)) (has_none bytes (after_byte c.first brackets) cs) none in
    ap (λ bs. from_first_in bytes brackets 0 (c.first ∷ bs)) (append_assoc c.more (flat cs) rest)
    ∙ scan_step bytes brackets c.first c.more (flat cs ++ rest) (not-true _ both.0) passed.0
    ∙ scan_passed bytes (after_byte c.first brackets) cs rest passed.1 both.1

pub passed_units : (cs : List Chunk) (rest : List ℕ) → AreUnits cs rest → ArePassed cs rest
passed_units [] rest units = tt
passed_units (c ∷ cs) rest units = (units.0.passes (flat cs ++ rest) units.1, passed_units cs rest units.2)

pub passed_append : (cs ds : List Chunk) (rest : List ℕ) → ArePassed cs (flat ds ++ rest) → ArePassed ds rest → ArePassed (cs ++ ds) rest
passed_append [] ds rest first second = second
passed_append (c ∷ cs) ds rest first second =
    let same : flat (cs ++ ds) ++ rest ≡ flat cs ++ (flat ds ++ rest) = ap (λ bs. bs ++ rest) (flat-append cs ds) ∙ append_assoc (flat cs) (flat ds) rest in
    (rw same first.0, passed_append cs ds rest first.1 second)

pub passed_front : (cs ds : List Chunk) (rest : List ℕ) → ArePassed (cs ++ ds) rest → ArePassed cs (flat ds ++ rest)
passed_front [] ds rest passed = tt
passed_front (c ∷ cs) ds rest passed =
    let same : flat (cs ++ ds) ++ rest ≡ flat cs ++ (flat ds ++ rest) = ap (λ bs. bs ++ rest) (flat-append cs ds) ∙ append_assoc (flat cs) (flat ds) rest in
    (rw same at passed.0, passed_front cs ds rest passed.1)

pub passed_behind : (cs ds : List Chunk) (rest : List ℕ) → ArePassed (cs ++ ds) rest → ArePassed ds rest
passed_behind [] ds rest passed = passed
passed_behind (c ∷ cs) ds rest passed = passed_behind cs ds rest passed.1

-- ---- other bytes behind

-- the same byte, or none where it is no line end
pub data SameNext : List ℕ → List ℕ → Type 0 where
  same_byte : (d : ℕ) (t u : List ℕ) → SameNext (d ∷ t) (d ∷ u)
  no_line : (d : ℕ) (t : List ℕ) → (d == 10) ≡ false → SameNext (d ∷ t) []

unit_to : (b : ℕ) (x : List ℕ) (c : ℕ) (t u : List ℕ) → behind_unit (b ∷ x ++ c ∷ t) ≡ c ∷ t → behind_unit (b ∷ x ++ c ∷ u) ≡ c ∷ u
unit_to b x c t u at =
    let long = ap length at in
    let same : AreSameTo c t u (behind_unit (b ∷ x ++ c ∷ t)) (behind_unit (b ∷ x ++ c ∷ u)) = unit_same c t u b x (omega arith) in
    let none : same.front ≡ [] = no_front same.front c t (sym at ∙ same.first) in
    same.second ∙ ap (λ (f : List ℕ). f ++ c ∷ u) none

string_closed : (quote : ℕ) (escaped : Bool) (m : List ℕ) (d : ℕ) (t : List ℕ) → behind_string quote escaped (m ++ d ∷ t) ≡ d ∷ t → (d == 10) ≡ false → ends_string quote escaped m ≡ true
unfolding behind_string ends_string
string_closed quote true [] d t at line = let few = Rattle.css_read.proofs.Lengths.string_no_longer quote false t in let long = ap length at in absurd (omega arith)
string_closed quote false [] d t at line = absurd (by (d == quote) at)
  where
    by : (test : Bool) → (if test then t else (if d == 10 then d ∷ t else behind_string quote (d == 92) t)) ≡ d ∷ t → ⊥
    by true at = let long = ap length at in omega arith
    by false at =
        let later : behind_string quote (d == 92) t ≡ d ∷ t = rw line at at in
        let few = Rattle.css_read.proofs.Lengths.string_no_longer quote (d == 92) t in
        let long = ap length later in
        omega arith
string_closed quote true (b ∷ m) d t at line = string_closed quote false m d t at line
string_closed quote false (b ∷ m) d t at line = by (b == quote) (b == 10) at (string_closed quote (b == 92) m d t)
  where
    ended : (m : List ℕ) → m ++ d ∷ t ≡ d ∷ t → is_end m ≡ true
    ended [] same = refl
    ended (e ∷ m) same = let long = ap length same in absurd (omega (arith, length-append m (d ∷ t)))

    by : (closes breaks : Bool) → (if closes then m ++ d ∷ t else (if breaks then b ∷ m ++ d ∷ t else behind_string quote (b == 92) (m ++ d ∷ t))) ≡ d ∷ t
        → (behind_string quote (b == 92) (m ++ d ∷ t) ≡ d ∷ t → (d == 10) ≡ false → ends_string quote (b == 92) m ≡ true)
        → (if closes then is_end m else (if breaks then false else ends_string quote (b == 92) m)) ≡ true
    by true breaks at later = ended m at
    by false true at later = let long = ap length at in absurd (omega (arith, length-append m (d ∷ t)))
    by false false at later = later at line

-- the last one
unit_alone : (b : ℕ) (m : List ℕ) (d : ℕ) (t : List ℕ) → behind_unit (b ∷ m ++ d ∷ t) ≡ d ∷ t → (d == 10) ≡ false → behind_unit (b ∷ m ++ []) ≡ []
unit_alone b m d t at line = elim (cases_Bool (is_quote b)) [
  | inl quote ↦ string_unit b (m ++ []) quote ∙ string_passed b false m [] (string_closed b false m d t (sym (string_unit b (m ++ d ∷ t) quote) ∙ at) line)
  | inr other ↦ elim (cases_Bool (begins_comment (b ∷ m ++ d ∷ t))) [
    | inl comment ↦ (Rattle.css_read.proofs.FrontLemmas.comment_stays b m d t [] comment at).behind
    | inr none ↦
        let alone : m ≡ [] = no_front m d t (sym at ∙ other_unit b (m ++ d ∷ t) other none) in
        ap (λ (x : List ℕ). behind_unit (b ∷ x ++ [])) alone ∙ other_unit b [] other (one b)
  ]
]
  where
    one : (b : ℕ) → begins_comment (b ∷ []) ≡ false
    one b = grind (arith, nat_tests)

last_same : (b : ℕ) (m rest others : List ℕ) → SameNext rest others → behind_unit (b ∷ m ++ rest) ≡ rest → behind_unit (b ∷ m ++ others) ≡ others
last_same b m rest others (same_byte d t u) at = unit_to b m d t u at
last_same b m rest others (no_line d t line) at = unit_alone b m d t at line

pub passed_before : (cs : List Chunk) (rest others : List ℕ) → SameNext rest others → ArePassed cs rest → ArePassed cs others
passed_before [] rest others next passed = tt
passed_before (c ∷ []) rest others next passed = (last_same c.first c.more rest others next passed.0, tt)
passed_before (c ∷ e ∷ cs) rest others next passed = (unit_to c.first c.more e.first (e.more ++ flat cs ++ rest) (e.more ++ flat cs ++ others) passed.0, passed_before (e ∷ cs) rest others next passed.1)

-- ---- parts

comma_here : (c : Chunk) (rest : List ℕ) → behind_unit (c.first ∷ c.more ++ rest) ≡ rest → c.first ≡ 44 → c ≡ comma
comma_here c rest behind is =
    let all : c.more ++ rest ≡ rest = sym (other_unit c.first (c.more ++ rest) (quote c.first is) (comment c.first (c.more ++ rest) is)) ∙ behind in
    same c.first c.more is (append_cancel_right c.more [] rest all)
  where
    quote : (b : ℕ) → b ≡ 44 → is_quote b ≡ false
    quote b is = rw is refl

    comment : (b : ℕ) (bs : List ℕ) → b ≡ 44 → begins_comment (b ∷ bs) ≡ false
    comment b bs is = rw is refl

    same : (b : ℕ) (m : List ℕ) → b ≡ 44 → m ≡ [] → (record { first = b; more = m }) ≡ comma
    same b m is none = rw (is, none) refl

closes : (ends : List ℕ) (b : ℕ) (brackets : _) (cs : List Chunk) → b ≡ 44 → brackets ≡ [] → PartsOf ends (after_byte b brackets) cs → PartsOf ends [] cs
unfolding after_byte
closes ends b brackets cs is none parts = rw (is, none) at parts

parts_by : (test : Bool) (ends : List ℕ) (brackets : _) (c : Chunk) (cs : List Chunk) (rest : List ℕ) → stops_at (codes ",") c.first brackets ≡ test → behind_unit (c.first ∷ c.more ++ rest) ≡ rest
    → (not (stops_at ends c.first brackets) && has_none ends (after_byte c.first brackets) cs) ≡ true → PartsOf ends (after_byte c.first brackets) cs → PartsOf ends brackets (c ∷ cs)
parts_by true ends brackets c cs rest stops behind none later =
    let is = one_comma c.first brackets stops in
    let same : c ≡ comma = comma_here c rest behind is.0 in
    let others : PartsOf ends [] cs = closes ends c.first brackets cs is.0 is.1 later in
    record {
      first = [];
      others = others.first ∷ others.others;
      is = record { passes = refl; commas = refl; closed = is.1 };
      are = (others.is, others.are);
      whole = ap (λ ds. comma ∷ ds) others.whole ∙ ap (λ d. d ∷ cs) (sym same);
    }
parts_by false ends brackets c cs rest stops behind none later =
    let both = and_parts (not (stops_at ends c.first brackets)) (has_none ends (after_byte c.first brackets) cs) none in
    record {
      first = c ∷ later.first;
      others = later.others;
      is = record { passes = rw (not-true _ both.0) later.is.passes; commas = rw stops later.is.commas; closed = later.is.closed };
      are = later.are;
      whole = onto c later.first later.others cs later.whole;
    }
  where
    onto : (c : Chunk) (p : List Chunk) (ps : List (List Chunk)) (cs : List Chunk) → joined p ps ≡ cs → joined (c ∷ p) ps ≡ c ∷ cs
    onto c p [] cs whole = ap (λ ds. c ∷ ds) whole
    onto c p (q ∷ ps) cs whole = ap (λ ds. c ∷ ds) whole

pub parts_passed : (ends : List ℕ) (brackets : _) (cs : List Chunk) (rest : List ℕ) → ArePassed cs rest → has_none ends brackets cs ≡ true → brackets_after brackets cs ≡ [] → PartsOf ends brackets cs
parts_passed ends brackets [] rest passed none closed = record { first = []; others = []; is = record { passes = refl; commas = refl; closed = closed }; are = tt; whole = refl }
parts_passed ends brackets (c ∷ cs) rest passed none closed =
    let both = and_parts (not (stops_at ends c.first brackets)) (has_none ends (after_byte c.first brackets) cs) none in
    parts_by (stops_at (codes ",") c.first brackets) ends brackets c cs (flat cs ++ rest) refl passed.0 none (parts_passed ends (after_byte c.first brackets) cs rest passed.1 both.1 closed)

-- ---- white space and comments at both ends

strip_by : (test : Bool) (c : Chunk) (cs : List Chunk) (rest : List ℕ) → is_gap c ≡ test → behind_unit (c.first ∷ c.more ++ (flat cs ++ rest)) ≡ flat cs ++ rest → behind_gap true 0 (flat cs ++ rest) ≡ flat (strip cs) ++ rest
    → behind_gap true 0 (c.first ∷ (c.more ++ (flat cs ++ rest))) ≡ flat (if test then strip cs else c ∷ cs) ++ rest
strip_by true c cs rest is behind later = gap_passed c.first c.more (flat cs ++ rest) (gap_here c (flat cs ++ rest) behind ∙ is) behind ∙ later
strip_by false c cs rest is behind later =
    gap_stops c.first (c.more ++ (flat cs ++ rest)) (gap_here c (flat cs ++ rest) behind ∙ is) ∙ ap (λ bs. c.first ∷ bs) (sym (append_assoc c.more (flat cs) rest))

gap_strip : (cs : List Chunk) (rest : List ℕ) → ArePassed cs rest → behind_gap true 0 rest ≡ rest → behind_gap true 0 (flat cs ++ rest) ≡ flat (strip cs) ++ rest
gap_strip [] rest passed end = end
gap_strip (c ∷ cs) rest passed end =
    ap (λ bs. behind_gap true 0 (c.first ∷ bs)) (append_assoc c.more (flat cs) rest) ∙ strip_by (is_gap c) c cs rest refl passed.0 (gap_strip cs rest passed.1 end)

unit_len : (gap : Bool) (c : Chunk) (ds : List Chunk) → with_unit gap (1 + length c.more) (length (flat ds)) ≡ length (flat (with_solid gap c ds))
unit_len true c [] = refl
unit_len true c (d ∷ ds) = let count = length-append c.more (flat (d ∷ ds)) in grind (arith, nat_tests)
unit_len false c ds = let count = length-append c.more (flat ds) in omega arith

solid_flat : (cs : List Chunk) (rest : List ℕ) → ArePassed cs rest → solid_len 0 rest ≡ 0 → solid_len 0 (flat cs ++ rest) ≡ length (flat (solids cs))
solid_flat [] rest passed end = end
solid_flat (c ∷ cs) rest passed end =
    ap (λ bs. solid_len 0 (c.first ∷ bs)) (append_assoc c.more (flat cs) rest)
    ∙ solid_step c.first c.more (flat cs ++ rest) passed.0
    ∙ ap (λ (g : Bool). with_unit g (1 + length c.more) (solid_len 0 (flat cs ++ rest))) (gap_here c (flat cs ++ rest) passed.0)
    ∙ ap (with_unit (is_gap c) (1 + length c.more)) (solid_flat cs rest passed.1 end)
    ∙ unit_len (is_gap c) c (solids cs)

strip_passed : (cs : List Chunk) (rest : List ℕ) → ArePassed cs rest → ArePassed (strip cs) rest
strip_passed [] rest passed = tt
strip_passed (c ∷ cs) rest passed = by (is_gap c) (strip_passed cs rest passed.1) passed
  where
    by : (test : Bool) → ArePassed (strip cs) rest → ArePassed (c ∷ cs) rest → ArePassed (if test then strip cs else c ∷ cs) rest
    by true later passed = later
    by false later passed = passed

-- ---- the places of selectors

piece_at : (to : ℕ) (p : List Chunk) → ArePassed p [] → ArePassed (strip p) [] → piece_of to (flat p) ≡ place_at to p
unfolding piece_of behind_gap solid_len
piece_at to p passed stripped =
    let solid : behind_gap true 0 (flat p) ≡ flat (strip p) = ap (behind_gap true 0) (sym (append-nil (flat p))) ∙ gap_strip p [] passed refl ∙ append-nil (flat (strip p)) in
    let len : solid_len 0 (flat (strip p)) ≡ length (flat (solids (strip p))) = ap (solid_len 0) (sym (append-nil (flat (strip p)))) ∙ solid_flat (strip p) [] stripped refl in
    rw (solid, len) refl

scan_part : (p : List Chunk) (rest : List ℕ) → ArePassed p rest → has_none (codes ",") [] p ≡ true → brackets_after [] p ≡ [] → from_comma (flat p ++ rest) ≡ from_comma rest
scan_part p rest passed none closed = scan_passed (codes ",") [] p rest passed none ∙ ap (λ os. from_first_in (codes ",") os 0 rest) closed

at_nothing : from_comma [] ≡ []
unfolding from_first_in
at_nothing = refl

piece_before : (to : ℕ) (p : List Chunk) (rest : List ℕ) → ArePassed p [] → from_comma (flat p ++ rest) ≡ rest → first_piece to (flat p ++ rest) ≡ place_at (to - length rest) p
unfolding first_piece
piece_before to p rest passed at =
    let count = length-append (flat p) rest in
    let left : length (flat p ++ rest) - length rest ≡ length (flat p) = omega arith in
    rw (at, left, take_at (flat p) rest (length (flat p)) refl) (piece_at (to - length rest) p passed (strip_passed p [] passed))

pub pieces_passed : (ends : List ℕ) (to : ℕ) (p : List Chunk) (ps : List (List Chunk)) → ArePassed (joined p ps) [] → IsPart ends [] p → AreParts ends ps → pieces to (flat (joined p ps)) ≡ places to p ps
unfolding pieces more_pieces
pieces_passed ends to p [] passed is are =
    let scan : from_comma (flat p ++ []) ≡ [] = scan_part p [] passed is.commas is.closed ∙ at_nothing in
    let at : from_comma (flat p) ≡ [] = ap from_comma (sym (append-nil (flat p))) ∙ scan in
    let unit : to - 0 ≡ to = omega arith in
    let first : first_piece to (flat p) ≡ place_at to p = ap (first_piece to) (sym (append-nil (flat p))) ∙ piece_before to p [] passed scan ∙ ap (λ n. place_at n p) unit in
    rw (first, at) refl
pieces_passed ends to p (q ∷ qs) passed is are =
    let inner = flat (joined q qs) in
    let tail : flat (comma ∷ joined q qs) ++ [] ≡ 44 ∷ inner = append-nil (44 ∷ inner) in
    let before : ArePassed p (44 ∷ inner) = subst (λ (bs : List ℕ). ArePassed p bs) tail (passed_front p (comma ∷ joined q qs) [] passed) in
    let alone : ArePassed p [] = passed_before p (44 ∷ inner) [] (no_line 44 inner refl) before in
    let scan : from_comma (flat p ++ 44 ∷ inner) ≡ 44 ∷ inner = scan_part p (44 ∷ inner) before is.commas is.closed ∙ at_comma inner in
    let later : pieces to inner ≡ places to q qs = pieces_passed ends to q qs (passed_behind p (comma ∷ joined q qs) [] passed).1 are.0 are.1 in
    rw (flat-append p (comma ∷ joined q qs), scan, piece_before to p (44 ∷ inner) alone scan, more_step to 44 inner, later) refl
