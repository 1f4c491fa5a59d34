-- What a selector with its marks reads as: the tokens that are judged, in the compounds that stay.
use Rattle.std.proofs.Common.{◌≡◌, ℕ, zero, suc, ◌+◌, ◌-◌, ◌<◌, ◌==◌, Bool, true, false, if◌then◌else◌, List, [], ◌∷◌, ◌++◌, length, drop, codes, Option, Some, None, Ok, refl, sym, ap, ◌∙◌, arith, length-append, append_assoc}
use Rattle.std.proofs.lemmas.Bool.{lt-ltb}
use Rattle.std.proofs.lemmas.List.{drop_at}
use Rattle.sel_text.specs.declared.faults.TheConstants.{MOST_PARTS}
use Rattle.sel_text.specs.declared.selectors.Join.{Join}
use Rattle.sel_text.specs.declared.selectors.Join.TheVariants as code
use Rattle.sel_text.specs.Bytes.{begins_with, begins_name, name_len, behind_close, behind_gap}
use Rattle.sel_text.specs.Grammar.{Word, Begun, is_dropped_element, is_dropped_class, any_part, first_part, part_of, behind_near, join_at}
use Rattle.sel_text.specs.Syntax.{Item, part, joined, whole_part, first_item, later_item, item_at, finished_after, begun_after, Syntax, with_item, nothing, syntax_from}
use Rattle.sel_text.proofs.Gaps.{gap_skip, stops}
use Rattle.sel_text.proofs.NameLemmas.{IsStart, no_comment, no_gap}
use Rattle.widen_sheet.specs.declared.marks.Mark.{Mark}
use Rattle.widen_sheet.specs.declared.tokens.Kind.{Kind}
use Rattle.widen_sheet.specs.declared.tokens.Kind.TheVariants.{Judged, Other, Inside, Child}
use Rattle.widen_sheet.specs.Wide.{Wide, has, is_combinator, letter, joint, opening, closing, goes, kinds}
use Rattle.widen_sheet.proofs.JoinReads.{IsJoin, IsToken, AreTokens}
use Rattle.widen_sheet.proofs.PieceLemmas.{close_found}
use Rattle.widen_sheet.proofs.QuietTexts.{whole_mark, mark_is, still_none}
use Rattle.widen_sheet.proofs.TokenReads.{IsGood, IsFirst, IsLater, pseudo_is, sign_start, later_first}

-- ---- one item

syntax_skip : (to n : ℕ) (begun : Bool) (skip : ℕ) (bs : List ℕ) → syntax_from true to n begun skip bs ≡ syntax_from true to n begun 0 (drop skip bs)
unfolding syntax_from
syntax_skip to n begun zero bs = refl
syntax_skip to n begun (suc skip) [] = refl
syntax_skip to n begun (suc skip) (b ∷ bs) = syntax_skip to n begun skip bs

step : (to n : ℕ) (begun : Bool) (text rest : List ℕ) (i : Item) → 0 < length text → item_at true to n begun (text ++ rest) ≡ Ok (i, rest) → syntax_from true to n begun 0 (text ++ rest) ≡ with_item i (syntax_from true to (finished_after n i) (begun_after begun i) 0 rest)
unfolding syntax_from
step to n begun [] rest i some is = absurd (omega arith)
step to n begun (b ∷ p) rest i some is =
    let count = length-append p rest in
    let left : length (p ++ rest) - length rest ≡ length p = omega arith in
    rw (is, left) (ap (with_item i) (syntax_skip to (finished_after n i) (begun_after begun i) (length p) (p ++ rest) ∙ ap (syntax_from true to (finished_after n i) (begun_after begun i) 0) (drop_at p rest (length p) refl)))

first_read : (to n : ℕ) (bs rest : List ℕ) (b : Begun) (w : Option Word) → n < MOST_PARTS → first_part true bs ≡ Some b → part_of to b ≡ Ok (w, rest) → item_at true to n false bs ≡ Ok (part w, rest)
unfolding item_at first_item whole_part
first_read to n bs rest b w less begins is = rw (begins, lt-ltb n MOST_PARTS less, is) refl

later_read : (to n : ℕ) (bs rest : List ℕ) (c : ℕ) (cs : List ℕ) (b : Begun) (w : Option Word) → join_at to bs ≡ Ok (None, c ∷ cs) → any_part true (c ∷ cs) ≡ Some b → part_of to b ≡ Ok (w, rest) → item_at true to n true bs ≡ Ok (part w, rest)
unfolding item_at later_item whole_part
later_read to n bs rest c cs b w none begins is = rw (none, begins, is) refl

join_read : (to n : ℕ) (bs rest : List ℕ) (j : Join) → join_at to bs ≡ Ok (Some j, rest) → item_at true to n true bs ≡ Ok (joined j, rest)
unfolding item_at later_item
join_read to n bs rest j is = rw is refl

-- ---- tokens that stay

pub near_none : (to b : ℕ) (bs : List ℕ) → IsStart (b ∷ bs) → behind_near to (b ∷ bs) ≡ Ok (None, b ∷ bs)
unfolding behind_near
near_none to b bs start = rw (start.0, start.2) refl

join_none : (to b : ℕ) (bs : List ℕ) → IsStart (b ∷ bs) → join_at to (b ∷ bs) ≡ Ok (None, b ∷ bs)
unfolding join_at
join_none to b bs start = ap (behind_near to) (no_gap false (b ∷ bs) start) ∙ near_none to b bs start

some_text : (text : List ℕ) → ((rest : List ℕ) → IsStart (text ++ rest)) → 0 < length text
some_text [] start = absurd (start [])
some_text (b ∷ bs) start = omega arith

pub first_token : (to n : ℕ) (text rest : List ℕ) (w : Option Word) → IsFirst text w → IsGood rest → n < MOST_PARTS → syntax_from true to n false 0 (text ++ rest) ≡ with_item (part w) (syntax_from true to n true 0 rest)
first_token to n text rest w f good less = let is = f.reads to rest good in step to n false text rest (part w) (some_text text f.start) (first_read to n (text ++ rest) rest is.0 w less is.1 is.2)

pub later_token : (to n : ℕ) (text rest : List ℕ) (w : Option Word) → IsLater text w → IsGood rest → syntax_from true to n true 0 (text ++ rest) ≡ with_item (part w) (syntax_from true to n true 0 rest)
later_token to n text rest w l good =
    let is = l.reads to rest good in
    let same : text ++ rest ≡ l.sign ∷ (l.more ++ rest) = ap (λ (x : List ℕ). x ++ rest) l.whole in
    let none : join_at to (text ++ rest) ≡ Ok (None, l.sign ∷ (l.more ++ rest)) = ap (join_at to) same ∙ join_none to l.sign (l.more ++ rest) (sign_start l.sign (l.more ++ rest) l.is) in
    step to n true text rest (part w) (omega (arith, ap length l.whole)) (later_read to n (text ++ rest) rest l.sign (l.more ++ rest) is.0 w none (ap (any_part true) (sym same) ∙ is.1) is.2)

pub join_token : (to n : ℕ) (text rest : List ℕ) (j : Join) → IsJoin text j → IsStart rest → syntax_from true to n true 0 (text ++ rest) ≡ with_item (joined j) (syntax_from true to (n + 1) false 0 rest)
join_token to n text rest j is start = step to n true text rest (joined j) (omega (arith, ap length is.whole)) (join_read to n (text ++ rest) rest j (is.reads to rest start))

-- ---- marks

hover_is : IsLater (codes ":hover") None
unfolding name_len begins_name is_dropped_element is_dropped_class
hover_is = pseudo_is false (codes "hover") (record { some = omega arith; whole = refl }) refl

abbrev comment : Mark → List ℕ → List ℕ
comment m own = codes "/*~" ++ (letter m ∷ (own ++ codes "~*/"))

comment_gap : (m : Mark) (own x : List ℕ) → has (codes "*/") own ≡ false → behind_gap false 0 (comment m own ++ x) ≡ behind_gap false 0 x
unfolding behind_gap
comment_gap m own x none =
    let inner : List ℕ = 126 ∷ letter m ∷ own in
    let text : (126 ∷ (letter m ∷ (own ++ codes "~*/"))) ++ x ≡ inner ++ 126 ∷ 42 ∷ 47 ∷ x = append_assoc inner (codes "~*/") x in
    let close : behind_close ((126 ∷ (letter m ∷ (own ++ codes "~*/"))) ++ x) ≡ x = ap behind_close text ∙ close_found inner x (still_none m own none) in
    let body : List ℕ = 42 ∷ (126 ∷ (letter m ∷ (own ++ codes "~*/"))) in
    let size = length-append body x in
    let left : length (body ++ x) - length x ≡ length body = omega arith in
    rw (close, left) (gap_skip false (length body) (body ++ x) ∙ ap (behind_gap false 0) (drop_at body x (length body) refl))

good_comment : (m : Mark) (own : List ℕ) (b : ℕ) (x : List ℕ) → has (codes "*/") own ≡ false → (b == 40) ≡ false → (b == 47) ≡ false → IsGood (comment m own ++ b ∷ x)
good_comment m own b x none apart slash = (refl, ap (begins_with 40) (comment_gap m own (b ∷ x) none ∙ stops false b x refl (no_comment b x slash)) ∙ apart)

-- a comment before a part is passed over
comment_join : (to : ℕ) (m : Mark) (own : List ℕ) (b : ℕ) (x : List ℕ) → has (codes "*/") own ≡ false → IsStart (b ∷ x) → join_at to (comment m own ++ b ∷ x) ≡ Ok (None, b ∷ x)
unfolding join_at
comment_join to m own b x none start = ap (behind_near to) (comment_gap m own (b ∷ x) none ∙ no_gap false (b ∷ x) start) ∙ near_none to b x start

hover_first : (to n : ℕ) (begun : Bool) (rest : List ℕ) → IsGood rest → n < MOST_PARTS → syntax_from true to n begun 0 (codes ":hover" ++ rest) ≡ syntax_from true to n true 0 rest
hover_first to n false rest good less = first_token to n (codes ":hover") rest None (later_first (codes ":hover") None hover_is) good less
hover_first to n true rest good less = later_token to n (codes ":hover") rest None hover_is good

comment_hover : (to n : ℕ) (m : Mark) (own rest : List ℕ) → has (codes "*/") own ≡ false → IsGood rest → syntax_from true to n true 0 (comment m own ++ (codes ":hover" ++ rest)) ≡ syntax_from true to n true 0 rest
comment_hover to n m own rest none good =
    let is = hover_is.reads to rest good in
    let same : (comment m own ++ codes ":hover") ++ rest ≡ comment m own ++ (codes ":hover" ++ rest) = append_assoc (comment m own) (codes ":hover") rest in
    let begins : join_at to ((comment m own ++ codes ":hover") ++ rest) ≡ Ok (None, 58 ∷ (codes "hover" ++ rest)) = ap (join_at to) same ∙ comment_join to m own 58 (codes "hover" ++ rest) none (refl, refl, refl) in
    ap (syntax_from true to n true 0) (sym same)
    ∙ step to n true (comment m own ++ codes ":hover") rest (part None) (omega (arith, length-append (comment m own) (codes ":hover"))) (later_read to n ((comment m own ++ codes ":hover") ++ rest) rest 58 (codes "hover" ++ rest) is.0 None begins is.1 is.2)

pub mark_read : (to n : ℕ) (begun : Bool) (m : Mark) (own rest : List ℕ) → has (codes "*/") own ≡ false → IsGood (joint m ++ rest) → n < MOST_PARTS
    → syntax_from true to n begun 0 (opening m ++ (own ++ (closing m ++ rest))) ≡ syntax_from true to n true 0 (joint m ++ rest)
mark_read to n begun m own rest none good less =
    let all : whole_mark m own ++ rest ≡ codes ":hover" ++ (comment m own ++ (codes ":hover" ++ (joint m ++ rest))) = ap (λ (x : List ℕ). codes ":hover" ++ x) (append_assoc (comment m own) (codes ":hover" ++ joint m) rest) in
    ap (syntax_from true to n begun 0) (mark_is m own rest ∙ all)
    ∙ hover_first to n begun (comment m own ++ (codes ":hover" ++ (joint m ++ rest))) (good_comment m own 58 (codes "hover" ++ (joint m ++ rest)) none refl refl) less
    ∙ comment_hover to n m own (joint m ++ rest) none good

-- ---- what stays of the tokens

abbrev pub kept_token : (wanted : Bool) (k : Kind) (text : List ℕ) → IsToken wanted k text → Bool → Syntax → Syntax
kept_token true Judged text is gone s = if gone then s else with_item (part is.0) s
kept_token false Judged text is gone s = if gone then s else with_item (part is.0) s
kept_token wanted Other text is gone s = s
kept_token wanted Inside text is gone s = with_item (joined code.Inside) s
kept_token wanted Child text is gone s = with_item (joined code.Child) s
kept_token wanted k text is gone s = s

abbrev pub kept : (wanted : Bool) (w : Wide) → AreTokens wanted w → Syntax
kept true [] are = nothing None
kept false [] are = nothing None
kept true (t ∷ ts) are = kept_token true t.kind t.text are.0 (goes (kinds ts)) (kept (is_combinator t.kind) ts are.1)
kept false (t ∷ ts) are = kept_token false t.kind t.text are.0 (goes (kinds ts)) (kept (is_combinator t.kind) ts are.1)
