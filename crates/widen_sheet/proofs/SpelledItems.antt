-- A selector of a widened sheet is read as what is left of the selector of the sheet.
use Rattle.std.proofs.Common.{◌≡◌, ℕ, ◌-◌, ◌≤◌, Bool, true, false, List, [], ◌∷◌, ◌++◌, length, take, slice_range, codes, Option, Some, None, Ok, Err, refl, sym, ap, ◌∙◌, subst, arith, append-nil}
use Rattle.tp_base.specs.Names.{Named}
use Rattle.sel_text.specs.declared.faults.SelFault.{SelFault}
use Rattle.sel_text.specs.declared.faults.SelFault.TheVariants as sel
use Rattle.sel_text.specs.declared.faults.TheConstants.{MOST_PARTS}
use Rattle.sel_text.specs.declared.selectors.Compound.{Compound}
use Rattle.sel_text.specs.Bytes.{behind_gap}
use Rattle.sel_text.specs.Grammar.{Word}
use Rattle.sel_text.specs.Reading as one
use Rattle.sel_text.specs.Reading.{Ending, compounds_of, selector_or, read_syntax, read_piece, read_selector}
use Rattle.sel_text.specs.Selectors.{Selector, simple}
use Rattle.sel_text.specs.Syntax.{part, Syntax, with_item, nothing, syntax_from, syntax_of}
use Rattle.sel_text.proofs.NameLemmas.{no_gap}
use Rattle.widen_sheet.specs.declared.tokens.Kind.{Kind}
use Rattle.widen_sheet.specs.declared.tokens.Kind.TheVariants.{Judged, Other, Inside, Child, Next, Later}
use Rattle.widen_sheet.specs.SameSheet.{subject_of, atoms_in}
use Rattle.widen_sheet.specs.Wide.{Wide, has, is_combinator, goes, kinds, spelled, compounds_left, dropped}
use Rattle.widen_sheet.specs.declared.marks.Mark.TheVariants as mark
use Rattle.widen_sheet.proofs.JoinReads.{IsToken, AreTokens}
use Rattle.widen_sheet.proofs.SlotPieces.{words}
use Rattle.widen_sheet.proofs.SpelledNames.{number, IsKnown, AreKnown, AllKnown, compounds_known, compound_in, syntax_read, continued, words_in, HasWord, HaveWords, kept_left}
use Rattle.widen_sheet.proofs.SpelledReads.{first_token, kept_token, kept}
use Rattle.widen_sheet.proofs.SpelledSyntax.{whole_kept, spelled_syntax, front_ok, at_end}
use Rattle.widen_sheet.proofs.TokenReads.{IsFirst, good_none, later_first}

-- ---- the atoms of a part

slice_whole : (bs : List ℕ) → slice_range bs 0 (length bs) ≡ bs
slice_whole bs = let all : length bs - 0 ≡ length bs = omega arith in ap (λ n. take n bs) all ∙ whole_of bs
  where
    whole_of : (bs : List ℕ) → take (length bs) bs ≡ bs
    whole_of [] = refl
    whole_of (b ∷ bs) = ap (λ (r : List ℕ). b ∷ r) (whole_of bs)

one_syntax : (to : ℕ) (text : List ℕ) (w : Option Word) → IsFirst text w → syntax_of true to text ≡ with_item (part w) (nothing None)
unfolding syntax_of
one_syntax to text w f =
    let bare : behind_gap true 0 text ≡ text = ap (behind_gap true 0) (sym (append-nil text)) ∙ no_gap true (text ++ []) (f.start []) ∙ append-nil text in
    ap (syntax_from true to 0 false 0) bare ∙ ap (syntax_from true to 0 false 0) (sym (append-nil text)) ∙ first_token to 0 text [] w f good_none (omega arith) ∙ ap (with_item (part w)) (at_end to 0)

abbrev IfKnown : List Named → Option Word → Type 0
IfKnown names None = Unit {0}
IfKnown names (Some w) = IsKnown names w

one_read : (names : List Named) (w : Option Word) → IfKnown names w → read_syntax (with_item (part w) (nothing None)) names ≡ (names, Ok (simple (words_in names w)))
one_read names None known = syntax_read names (with_item (part None) (nothing None)) refl (tt, tt)
one_read names (Some w) known = syntax_read names (with_item (part (Some w)) (nothing None)) refl ((known, tt), tt)

part_atoms : (names : List Named) (text : List ℕ) (w : Option Word) → IsFirst text w → IfKnown names w → atoms_in names text ≡ words_in names w
unfolding atoms_in read_selector read_piece
part_atoms names text w f known =
    ap (λ (x : List ℕ). subject_of (read_syntax (syntax_of true (length text) x) names).1) (slice_whole text)
    ∙ ap (λ (x : Syntax). subject_of (read_syntax x names).1) (one_syntax (length text) text w f)
    ∙ ap (λ (e : Ending Selector). subject_of e.1) (one_read names w known)

-- ---- the words of what stays

abbrev HasKnown : List Named → Syntax → Type 0
HasKnown names x = AllKnown names (x.names ∷ x.others)

known_part : (names : List Named) (w : Option Word) (x : Syntax) → HasKnown names (with_item (part w) x) → IfKnown names w × HasKnown names x
known_part names None x known = (tt, known)
known_part names (Some w) x known = (known.0.0, (known.0.1, known.1))

token_word : (names : List Named) (wanted : Bool) (k : Kind) (text : List ℕ) (is : IsToken wanted k text) (g : Bool) (x : Syntax) → HasKnown names (kept_token wanted k text is g x) → HasWord (atoms_in names) names wanted k text is g × HasKnown names x
token_word names true Judged text is true x known = (tt, known)
token_word names false Judged text is true x known = (tt, known)
token_word names true Judged text is false x known = let both = known_part names is.0 x known in (part_atoms names text is.0 is.1 both.0, both.1)
token_word names false Judged text is false x known = let both = known_part names is.0 x known in (part_atoms names text is.0 (later_first text is.0 is.1) both.0, both.1)
token_word names true Other text is g x known = (tt, known)
token_word names false Other text is g x known = (tt, known)
token_word names true Inside text is g x known = absurd is
token_word names true Child text is g x known = absurd is
token_word names true Next text is g x known = absurd is
token_word names true Later text is g x known = absurd is
token_word names false Inside text is g x known = (tt, known.1)
token_word names false Child text is g x known = (tt, known.1)
token_word names false Next text is g x known = (tt, known)
token_word names false Later text is g x known = (tt, known)

have_words : (names : List Named) (wanted : Bool) (w : Wide) (are : AreTokens wanted w) → HasKnown names (kept wanted w are) → HaveWords (atoms_in names) names wanted w are
have_words names true [] are known = tt
have_words names false [] are known = tt
have_words names true (t ∷ ts) are known =
    let first = token_word names true t.kind t.text are.0 (goes (kinds ts)) (kept (is_combinator t.kind) ts are.1) known in
    (first.0, have_words names (is_combinator t.kind) ts are.1 first.1)
have_words names false (t ∷ ts) are known =
    let first = token_word names false t.kind t.text are.0 (goes (kinds ts)) (kept (is_combinator t.kind) ts are.1) known in
    (first.0, have_words names (is_combinator t.kind) ts are.1 first.1)

whole_known : (names : List Named) (g : Bool) (x : Syntax) → HasKnown names (whole_kept g x) → HasKnown names x
whole_known names true x known = known.1
whole_known names false x known = known

-- ---- no fault

token_fault : (wanted : Bool) (k : Kind) (text : List ℕ) (is : IsToken wanted k text) (g : Bool) (x : Syntax) → (kept_token wanted k text is g x).fault ≡ x.fault
token_fault true Judged text is true x = refl
token_fault false Judged text is true x = refl
token_fault true Judged text is false x = by is.0
  where
    by : (w : Option Word) → (with_item (part w) x).fault ≡ x.fault
    by None = refl
    by (Some w) = refl
token_fault false Judged text is false x = by is.0
  where
    by : (w : Option Word) → (with_item (part w) x).fault ≡ x.fault
    by None = refl
    by (Some w) = refl
token_fault true Other text is g x = refl
token_fault false Other text is g x = refl
token_fault true Inside text is g x = refl
token_fault true Child text is g x = refl
token_fault true Next text is g x = refl
token_fault true Later text is g x = refl
token_fault false Inside text is g x = refl
token_fault false Child text is g x = refl
token_fault false Next text is g x = refl
token_fault false Later text is g x = refl

kept_fault : (wanted : Bool) (w : Wide) (are : AreTokens wanted w) → (kept wanted w are).fault ≡ None
kept_fault true [] are = refl
kept_fault false [] are = refl
kept_fault true (t ∷ ts) are = token_fault true t.kind t.text are.0 (goes (kinds ts)) (kept (is_combinator t.kind) ts are.1) ∙ kept_fault (is_combinator t.kind) ts are.1
kept_fault false (t ∷ ts) are = token_fault false t.kind t.text are.0 (goes (kinds ts)) (kept (is_combinator t.kind) ts are.1) ∙ kept_fault (is_combinator t.kind) ts are.1

whole_fault : (g : Bool) (x : Syntax) → x.fault ≡ None → (whole_kept g x).fault ≡ None
whole_fault true x none = none
whole_fault false x none = none

-- ---- the selector

-- what is read with a table that stays, and isn't refused
abbrev pub IsStill : List Named → Ending Selector → Type 0
IsStill names (later, Ok s) = later ≡ names
IsStill names (later, Err (sel.Skipped why at)) = later ≡ names
IsStill names (later, Err e) = ⊥

ends_of : (names : List Named) (e : one.Ending (List Compound)) (fault : Option SelFault) (x : Syntax) → fault ≡ None → IsStill names (one.then_read e (λ later compounds. (later, selector_or fault compounds x.joins))) → Rattle.css_read.proofs.MovedLemmas.OfNames e
    → Rattle.widen_sheet.proofs.SpelledNames.Ends names e
ends_of names (later, Ok cs) None x none still of = still
ends_of names (later, Ok cs) (Some e) x none still of = absurd cc
ends_of names (later, Err sel.TooManyAtoms) fault x none still of = absurd still
ends_of names (later, Err (sel.Skipped why at)) fault x none still of = absurd of
ends_of names (later, Err sel.Memory) fault x none still of = absurd of

pub spelled_read : (names : List Named) (to : ℕ) (w : Wide) (are : AreTokens true w) → has (codes "*/") (words w) ≡ false → compounds_left (kinds w) ≤ MOST_PARTS → IsStill names (read_piece true to (spelled w) names)
    → read_piece true to (spelled w) names ≡ (names, Ok (dropped (atoms_in names) w))
unfolding read_piece syntax_of read_syntax
spelled_read names to w are none few still =
    let x = whole_kept (goes (kinds w)) (kept true w are) in
    let syntax : syntax_of true to (spelled w) ≡ x = ap (syntax_from true to 0 false 0) (no_gap true (spelled w) (front_ok true w mark.Inside are)) ∙ spelled_syntax to w are none few in
    let fault : x.fault ≡ None = whole_fault (goes (kinds w)) (kept true w are) (kept_fault true w are) in
    let here : IsStill names (read_syntax x names) = subst (λ (y : Syntax). IsStill names (read_syntax y names)) syntax still in
    let known : HasKnown names x = compounds_known names (x.names ∷ x.others) (ends_of names (compounds_of names (x.names ∷ x.others)) x.fault x fault here (Rattle.css_read.proofs.MovedLemmas.compounds_names names (x.names ∷ x.others))) in
    let have = have_words names true w are (whole_known names (goes (kinds w)) (kept true w are) known) in
    ap (λ (y : Syntax). read_syntax y names) syntax ∙ syntax_read names x fault known ∙ ap (λ (s : Selector). (names, Ok s)) (kept_left (atoms_in names) names w are have)
