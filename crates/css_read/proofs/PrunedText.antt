-- The pruned text of a sheet is UTF-8: no range that goes begins or ends inside a character.
use Rattle.std.proofs.Common.{◌≡◌, ℕ, zero, suc, ◌+◌, ◌-◌, ◌≤◌, ◌==◌, nat_eq, nat_lt, Bool, true, false, if◌then◌else◌, List, [], ◌∷◌, ◌++◌, length, take, drop, map, slice_range, Result, Ok, Err, refl, sym, ap, ◌∙◌, subst, arith, length-append, append_assoc}
use Rattle.std.specs.List.{starts_with, list_all}
use Rattle.std.specs.Str.{IsUtf8, IsCharBoundary}
use Rattle.std.specs.Str.Lossy.{utf8_valid_len}
use Rattle.std.proofs.Math.Utf8.{encode}
use Rattle.std.proofs.lemmas.Bool.Decides.{nat_tests}
use Rattle.std.proofs.lemmas.List.{map-append}
use Rattle.std.proofs.lemmas.Str.{IsCharBoundary-start, IsCharBoundary-past_char}
use Rattle.text_bytes.specs.OrderMark.{behind_order_mark}
use Rattle.text_bytes.proofs.Utf8.{valid_is}
use Rattle.tp_base.specs.Names.{Named}
use Rattle.css_read.specs.declared.faults.SheetFault.{SheetFault}
use Rattle.css_read.specs.declared.faults.SheetFault.TheVariants.{NotUtf8}
use Rattle.css_read.specs.declared.fronts.Front.{Front}
use Rattle.css_read.specs.declared.fronts.Front.TheVariants.{Passed, Opens, Closes, Styles}
use Rattle.css_read.specs.declared.sheets.Range.{Range}
use Rattle.css_read.specs.Holders.{Step, begins_block, ends_block, in_block, last_end, open_after, holder_of, holders_from, holders_of, owners_of, steps_of}
use Rattle.css_read.specs.Order.{range_of}
use Rattle.css_read.specs.Pieces.{pieces}
use Rattle.css_read.specs.Pruned.{Flagged, goes, with_flags, of_rule, is_fixed, gone_rules, gone_holders, gone_ranges, wholes, end_of_last, list_cuts, lists_cuts, cuts, pruned}
use Rattle.css_read.specs.Reading.{Ending, pieces_of, add_rules, empty_sheet, read_sheet}
use Rattle.css_read.specs.Rules.{Rule, depth_after, rules_of}
use Rattle.css_read.specs.Sheets.{Item, Sheet}
use Rattle.css_read.proofs.CharLemmas.{IsBetween, AreBetween, between_append, utf8_left}
use Rattle.css_read.proofs.EdgeLemmas.{AreEdges, edge_at, read_part, span_edges}
use Rattle.css_read.proofs.ItemLemmas.{AreItemsOf, ranges_of, sheet_of}
use Rattle.css_read.proofs.PieceEdges.{pieces_edges}
use Rattle.css_read.proofs.PrunedLemmas.{spans_of, mark_size, mark_of, steps_are, rules_steps}
use Rattle.css_read.proofs.RelistLemmas.{some_listed}
use Rattle.css_read.proofs.RulePlans.{slice_at}
use Rattle.css_read.proofs.SpanLemmas.{Span, bytes_of, AreRead, IsReadBefore, steps_at, rules_in, spans_read}

-- ---- holders and rules

last_edge : (text : List ℕ) (n at : ℕ) (ss : List Step) → IsCharBoundary text at → AreEdges text ss → IsCharBoundary text (last_end at (in_block n ss))
unfolding in_block
last_edge text n at [] here edges = here
last_edge text n at (s ∷ ss) here edges = by (ends_block n s.front) (last_edge text (depth_after n s.front) s.to ss edges.1 edges.2)
  where
    by : (test : Bool) → IsCharBoundary text (last_end s.to (in_block (depth_after n s.front) ss)) → IsCharBoundary text (last_end s.to (if test then [] else in_block (depth_after n s.front) ss))
    by true later = edges.1
    by false later = later

holders_edges : (text : List ℕ) (n : ℕ) (outer : List ℕ) (ss : List Step) → AreEdges text ss → AreBetween text (wholes (holders_from text n outer ss))
unfolding holders_from holder_of
holders_edges text n outer [] edges = tt
holders_edges text n outer (s ∷ ss) edges =
    by (begins_block s.front) (holders_edges text (n + 1) (n ∷ outer) ss edges.2) (holders_edges text n (open_after n outer s.front) ss edges.2)
  where
    by : (test : Bool) → AreBetween text (wholes (holders_from text (n + 1) (n ∷ outer) ss)) → AreBetween text (wholes (holders_from text n (open_after n outer s.front) ss))
        → AreBetween text (wholes (if test then holder_of text outer s ss ∷ holders_from text (n + 1) (n ∷ outer) ss else holders_from text n (open_after n outer s.front) ss))
    by true first second = ((edges.0, last_edge text 0 s.to ss edges.1 edges.2), first)
    by false first second = second

rules_edges : (text : List ℕ) (ss : List Step) → AreEdges text ss → AreBetween text (ranges_of (rules_in ss))
rules_edges text [] edges = tt
rules_edges text (s ∷ ss) edges = by s.front (rules_edges text ss edges.2)
  where
    by : (f : Front) → AreBetween text (ranges_of (rules_in ss)) → AreBetween text (ranges_of (rules_in ((record { front = f; from = s.from; to = s.to }) ∷ ss)))
    by (Styles len) later = ((edges.0, edges.1), later)
    by Passed later = later
    by Opens later = later
    by Closes later = later

gone_edges : (text : List ℕ) (rs : List Range) (gone : List Bool) → AreBetween text rs → AreBetween text (gone_ranges rs gone)
gone_edges text [] gone between = tt
gone_edges text (r ∷ rs) [] between = tt
gone_edges text (r ∷ rs) (g ∷ gone) between = by g (gone_edges text rs gone between.1)
  where
    by : (test : Bool) → AreBetween text (gone_ranges rs gone) → AreBetween text (if test then r ∷ gone_ranges rs gone else gone_ranges rs gone)
    by true later = (between.0, later)
    by false later = later

-- ---- lists

abbrev AreFlagEdges : List ℕ → List Flagged → Type 0
AreFlagEdges text [] = Unit {0}
AreFlagEdges text (f ∷ fs) = IsBetween text (range_of f.0) × AreFlagEdges text fs

flag_edges : (text : List ℕ) (items : List Item) (flags : List Bool) → AreBetween text (map range_of items) → AreFlagEdges text (with_flags items flags)
flag_edges text [] flags between = tt
flag_edges text (i ∷ items) [] between = tt
flag_edges text (i ∷ items) (g ∷ flags) between = (between.0, flag_edges text items flags between.1)

own_edges : (text : List ℕ) (k : ℕ) (fs : List Flagged) → AreFlagEdges text fs → AreFlagEdges text (of_rule k fs)
own_edges text k [] edges = tt
own_edges text k (f ∷ fs) edges = by (f.0.rule == k) (own_edges text k fs edges.1)
  where
    by : (test : Bool) → AreFlagEdges text (of_rule k fs) → AreFlagEdges text (if test then f ∷ of_rule k fs else of_rule k fs)
    by true later = (edges.0, later)
    by false later = later

end_edge : (text : List ℕ) (to : ℕ) (fs : List Flagged) → IsCharBoundary text to → AreFlagEdges text fs → IsCharBoundary text (end_of_last to fs)
end_edge text to [] here edges = here
end_edge text to (f ∷ fs) here edges = end_edge text f.0.to fs edges.0.1 edges.1

list_edges : (text : List ℕ) (fs : List Flagged) → AreFlagEdges text fs → AreBetween text (list_cuts fs)
list_edges text [] edges = tt
list_edges text (f ∷ []) edges = tt
list_edges text (f ∷ g ∷ fs) edges = by (list_all goes (g ∷ fs)) (goes f) (list_edges text (g ∷ fs) edges.1)
  where
    by : (all test : Bool) → AreBetween text (list_cuts (g ∷ fs))
        → AreBetween text (if all then (if test then [] else (record { from = f.0.to; to = end_of_last g.0.to fs }) ∷ []) else (if test then (record { from = f.0.from; to = g.0.from }) ∷ list_cuts (g ∷ fs) else list_cuts (g ∷ fs)))
    by true true later = tt
    by true false later = ((edges.0.1, end_edge text g.0.to fs edges.1.0.1 edges.1.1), tt)
    by false true later = ((edges.0.0, edges.1.0.0), later)
    by false false later = later

lists_edges : (text : List ℕ) (k : ℕ) (rs : List Range) (fs : List Flagged) → AreFlagEdges text fs → AreBetween text (lists_cuts text k rs fs)
unfolding lists_cuts
lists_edges text k [] fs edges = tt
lists_edges text k (r ∷ rs) fs edges = between_append text _ _ (by (is_fixed text k r (of_rule k fs))) (lists_edges text (k + 1) rs fs edges)
  where
    by : (test : Bool) → AreBetween text (if test then [] else list_cuts (of_rule k fs))
    by true = tt
    by false = list_edges text (of_rule k fs) (own_edges text k fs edges)

-- ---- the selectors of a sheet

abbrev AreListEdges : List ℕ → List Rule → Type 0
AreListEdges text [] = Unit {0}
AreListEdges text (r ∷ rs) = AreBetween text (pieces_of text r) × AreListEdges text rs

list_at : (text pre : List ℕ) (n at : ℕ) (len : ℕ) (bytes rest : List ℕ) → IsUtf8 text → IsReadBefore n (record { front = Styles len; bytes = bytes }) rest → text ≡ pre ++ (bytes ++ rest) → length pre ≡ at → IsCharBoundary text at
    → AreBetween text (pieces_of text (record { from = at; brace = at + len; to = at + length bytes }))
list_at text pre n at len bytes rest utf8 read whole before here =
    let l = some_listed (nat_lt 0 n) bytes rest len read.some read.reads in
    let text_is : text ≡ pre ++ (l.list ++ 123 ∷ l.block) = whole ∙ ap (λ bs. pre ++ bs) l.whole in
    let slice : slice_range text at (at + len) ≡ l.list = ap (λ bs. slice_range bs at (at + len)) text_is ∙ slice_at pre l.list (123 ∷ l.block) at (at + len) before (ap (λ n. at + n) l.size) in
    subst (λ (bs : List ℕ). AreBetween text (pieces (at + len) bs)) (sym slice) (pieces_edges text pre l.list (123 ∷ l.block) (at + len) utf8 text_is (omega arith) (omega (arith, before, l.size)) (subst (IsCharBoundary text) (sym before) here))

lists_at : (text : List ℕ) (ss : List Span) (n at : ℕ) (pre : List ℕ) → IsUtf8 text → AreRead n ss → text ≡ pre ++ bytes_of ss → length pre ≡ at → IsCharBoundary text at → AreListEdges text (rules_in (steps_at at ss))
lists_at text [] n at pre utf8 read whole before here = tt
lists_at text (s ∷ ss) n at pre utf8 read whole before here =
    let rest = bytes_of ss in
    let sizes = ap length whole ∙ length-append pre (s.bytes ++ rest) in
    let size = length-append s.bytes rest in
    let part = read_part (nat_lt 0 n) s.bytes rest (s.front, rest) read.0.some read.0.reads refl in
    let end = edge_at text pre (s.bytes ++ rest) rest (at + length s.bytes) utf8 whole part (omega (arith, sizes, size, before)) in
    by s.front read.0 (lists_at text ss (depth_after n s.front) (at + length s.bytes) (pre ++ s.bytes) utf8 read.1 (whole ∙ sym (append_assoc pre s.bytes rest)) (length-append pre s.bytes ∙ ap (λ k. k + length s.bytes) before) end)
  where
    by : (f : Front) → IsReadBefore n (record { front = f; bytes = s.bytes }) (bytes_of ss) → AreListEdges text (rules_in (steps_at (at + length s.bytes) ss)) → AreListEdges text (rules_in (steps_at at ((record { front = f; bytes = s.bytes }) ∷ ss)))
    by (Styles len) read later = (list_at text pre n at len s.bytes (bytes_of ss) utf8 read whole before here, later)
    by Passed read later = later
    by Opens read later = later
    by Closes read later = later

items_edges : (text : List ℕ) (k : ℕ) (rs : List Rule) (items : List Item) → AreItemsOf text k rs items → AreListEdges text rs → AreBetween text (map range_of items)
items_edges text k [] items are edges = subst (λ (is : List Item). AreBetween text (map range_of is)) (sym are) tt
items_edges text k (r ∷ rs) items (own, others, whole, places, of, later) edges =
    subst (λ (is : List Item). AreBetween text (map range_of is)) (sym whole) (subst (AreBetween text) (sym (map-append range_of own others))
    (between_append text (map range_of own) (map range_of others) (subst (AreBetween text) (sym places) edges.0) (items_edges text (k + 1) rs others later edges.1)))

-- ---- a text

mark_by : (text : List ℕ) (b c d : ℕ) (bs : List ℕ) → starts_with nat_eq (b ∷ c ∷ d ∷ bs) (0xEF ∷ 0xBB ∷ 0xBF ∷ []) ≡ true → (b ≡ 0xEF) × (c ≡ 0xBB) × (d ≡ 0xBF)
mark_by text b c d bs is = (grind (arith, nat_tests), grind (arith, nat_tests), grind (arith, nat_tests))

mark_char : encode 65279 ≡ 0xEF ∷ 0xBB ∷ 0xBF ∷ []
unfolding encode
mark_char = refl

mark_edge : (text : List ℕ) → IsUtf8 text → IsCharBoundary text (mark_size text)
unfolding behind_order_mark
mark_edge text utf8 = by text utf8 (starts_with nat_eq text (0xEF ∷ 0xBB ∷ 0xBF ∷ [])) refl
  where
    by : (text : List ℕ) → IsUtf8 text → (test : Bool) → starts_with nat_eq text (0xEF ∷ 0xBB ∷ 0xBF ∷ []) ≡ test → IsCharBoundary text (length text - length (if test then drop 3 text else text))
    by text utf8 false is = let none : 0 ≡ length text - length text = omega arith in subst (IsCharBoundary text) none (IsCharBoundary-start text utf8)
    by [] utf8 true is = absurd cc
    by (b ∷ []) utf8 true is = absurd (grind (arith, nat_tests))
    by (b ∷ c ∷ []) utf8 true is = absurd (grind (arith, nat_tests))
    by (b ∷ c ∷ d ∷ bs) utf8 true is =
        let bytes = mark_by (b ∷ c ∷ d ∷ bs) b c d bs is in
        let all : b ∷ c ∷ d ∷ bs ≡ encode 65279 ++ bs = rw (bytes.0, bytes.1, bytes.2, mark_char) refl in
        let size : 3 ≡ length (b ∷ c ∷ d ∷ bs) - length bs = omega arith in
        subst (IsCharBoundary (b ∷ c ∷ d ∷ bs)) size (IsCharBoundary-past_char (b ∷ c ∷ d ∷ bs) bs 0 65279 (omega arith) utf8 all)

pub cuts_between : (text : List ℕ) (names later : List Named) (sheet : Sheet) (flags : List Bool) → IsUtf8 text → add_rules text empty_sheet names (rules_of text) ≡ (later, Ok sheet) → AreBetween text (cuts text sheet flags)
unfolding cuts holders_of
cuts_between text names later sheet flags utf8 read =
    let at = mark_size text in
    let ss = spans_of text in
    let is = sheet_of text names later (rules_of text) sheet read in
    let mark = mark_of text in
    let spans = spans_read 0 0 (behind_order_mark text) in
    let sizes = ap length mark.whole ∙ length-append mark.mark (behind_order_mark text) in
    let before : length mark.mark ≡ at = omega arith in
    let whole : text ≡ mark.mark ++ bytes_of ss = mark.whole ∙ ap (λ bs. mark.mark ++ bs) (sym spans.bytes) in
    let here = mark_edge text utf8 in
    let edges : AreEdges text (steps_at at ss) = span_edges text ss 0 at mark.mark utf8 spans.read whole before here in
    let lists : AreListEdges text (rules_of text) = subst (AreListEdges text) (sym (rules_steps text)) (lists_at text ss 0 at mark.mark utf8 spans.read whole before here) in
    let fs = with_flags sheet.items flags in
    let items = flag_edges text sheet.items flags (items_edges text 0 (rules_of text) sheet.items is.items lists) in
    let gone = gone_rules text 0 sheet.rules fs in
    let holders : AreBetween text (wholes (holders_from text 0 [] (steps_of text))) = subst (λ (steps : List Step). AreBetween text (wholes (holders_from text 0 [] steps))) (sym (steps_are text)) (holders_edges text 0 [] (steps_at at ss) edges) in
    let rules : AreBetween text sheet.rules = subst (AreBetween text) (sym (is.rules ∙ ap ranges_of (rules_steps text))) (rules_edges text (steps_at at ss) edges) in
    between_append text _ _ (gone_edges text (wholes (holders_from text 0 [] (steps_of text))) (gone_holders (owners_of text) gone 0 (holders_from text 0 [] (steps_of text))) holders)
    (between_append text _ _ (gone_edges text sheet.rules gone rules) (lists_edges text 0 sheet.rules fs items))

pub pruned_utf8 : (text : List ℕ) (names later : List Named) (sheet : Sheet) (flags : List Bool) → IsUtf8 text → add_rules text empty_sheet names (rules_of text) ≡ (later, Ok sheet) → IsUtf8 (pruned text sheet flags)
unfolding pruned
pruned_utf8 text names later sheet flags utf8 read = utf8_left text (cuts text sheet flags) utf8 (cuts_between text names later sheet flags utf8 read)

-- ---- a sheet that was read

pub record IsAccepted (text : List ℕ) (names later : List Named) (sheet : Sheet) : Type 0 where
  pub utf8 : IsUtf8 text
  pub read : add_rules text empty_sheet names (rules_of text) ≡ (later, Ok sheet)

pub accepted : (text : List ℕ) (names later : List Named) (sheet : Sheet) → read_sheet text names ≡ (later, Ok sheet) → IsAccepted text names later sheet
unfolding read_sheet
accepted text names later sheet read = by (utf8_valid_len text == length text) refl read
  where
    same : (utf8_valid_len text == length text) ≡ true → utf8_valid_len text ≡ length text
    same is = grind (arith, nat_tests)

    wrong : (e : SheetFault) → ◌≡◌ {A = Ending Sheet} (names, Err e) (later, Ok sheet) → ⊥
    wrong e is = not_ok e (ap (λ (x : Ending Sheet). x.1) is)
      where
        not_ok : (e : SheetFault) → ◌≡◌ {A = Result Sheet SheetFault} (Err e) (Ok sheet) → ⊥
        not_ok e is = cc

    by : (test : Bool) → (utf8_valid_len text == length text) ≡ test → (if test then add_rules text empty_sheet names (rules_of text) else (names, Err (NotUtf8 (utf8_valid_len text)))) ≡ (later, Ok sheet) → IsAccepted text names later sheet
    by true valid is = record { utf8 = valid_is text (same valid); read = is }
    by false valid is = absurd (wrong (NotUtf8 (utf8_valid_len text)) is)
