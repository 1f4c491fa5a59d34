-- A sheet in which other selectors stand has the same rules in the same at-rules, with these selectors.
use Rattle.std.proofs.Common.{◌≡◌, ℕ, suc, ◌+◌, ◌&&◌, Bool, true, false, nat_eq, nat_lt, List, [], ◌∷◌, ◌++◌, length, drop, map, slice_range, Ok, refl, sym, ap, ◌∙◌, subst, arith, length-append, append_assoc, append-nil, inl, inr}
use Rattle.std.specs.List.{starts_with}
use Rattle.std.proofs.lemmas.Bool.{cases_Bool, and_parts, eqb-true}
use Rattle.std.proofs.lemmas.List.{drop_at}
use Rattle.text_bytes.specs.OrderMark.{behind_order_mark}
use Rattle.tp_base.specs.Names.{Named}
use Rattle.css_read.specs.declared.fronts.Front.{Front}
use Rattle.css_read.specs.declared.fronts.Front.TheVariants.{Passed, Opens, Closes, Styles}
use Rattle.css_read.specs.declared.sheets.Range.{Range}
use Rattle.css_read.specs.Effects.{Scope, scopes_of}
use Rattle.css_read.specs.Holders.{Step, steps_from, steps_of, innermost, owners_from, owners_of}
use Rattle.css_read.specs.Order.{AreApart, range_of}
use Rattle.css_read.specs.Pieces.{pieces}
use Rattle.css_read.specs.Reading.{add_rules, empty_sheet}
use Rattle.css_read.specs.Rules.{Rule, list_ends, depth_after, rules_of}
use Rattle.css_read.specs.Sheets.{Item, Sheet}
use Rattle.css_read.proofs.CutLemmas.{size_of}
use Rattle.css_read.proofs.ItemLemmas.{AreOf, AreItemsOf, ranges_of, sheet_of}
use Rattle.css_read.proofs.PartLemmas.{joined, places, IsPart, AreParts}
use Rattle.css_read.proofs.PieceOrder.{from_earlier}
use Rattle.css_read.proofs.PrunedLemmas.{spans_of, mark_size, steps_are, rules_steps}
use Rattle.css_read.proofs.RulePlans.{slice_at}
use Rattle.css_read.proofs.ScopeLemmas.{stack_after, scope_at, scopes_in, scopes_are}
use Rattle.css_read.proofs.SpanLemmas as fate
use Rattle.css_read.proofs.SpanLemmas.{Span, bytes_of, AreRead, Fate, left_of, AreFair, left_read, steps_at, read_steps, spans_read, rules_in, rules_are}
use Rattle.css_read.proofs.UnitLemmas.{Chunk, flat, ArePassed}
use Rattle.widen_sheet.proofs.ChangedRules.{IsRuleOf, rule_of, changed_rule, rule_changed, first_change, other_changes, changed_part, changed_parts, changed_list, part_changed, parts_changed, list_passed, first_is, others_are}
use Rattle.widen_sheet.proofs.ChangedTexts.{HasChange, replaced, changes, changes_are, move_on, places_apart, AreListed, list_replaced, ArePairs, pairs_append, texts_changed, list_pairs}
use Rattle.widen_sheet.proofs.PassedLemmas.{no_line, passed_before, pieces_passed}
use Rattle.widen_sheet.proofs.PieceCuts.{Meets, meets_behind}
use Rattle.widen_sheet.proofs.PieceLemmas.{Piece, out_of, text_of as piece_text, AreWhole}
use Rattle.widen_sheet.proofs.SheetPieces.{plain, out_both, text_both, whole_both}
use Rattle.widen_sheet.proofs.TwinCuts.{IsSameKind, AreTwinSteps, steps_to, AreTwinItems, items_to}
use Rattle.widen_sheet.proofs.TwinLists.{IsTwinList, IsTwinSheet, twin_none, twin_plain, twin_both, twin_list, twin_span}

-- ---- from one span on

pub record IsChangedTo (new : Item → List ℕ) (text : List ℕ) (n k at : ℕ) (ss : List Span) (items : List Item) : Type 0 where
  pub fates : List Fate
  pub fair : AreFair fates ss n 0
  pub bytes : replaced new text at items ≡ bytes_of (left_of fates ss)
  pub apart : AreApart at (length text) (map range_of items)
  pub scopes : (stack : List (List (List ℕ))) → scopes_in stack (left_of fates ss) ≡ scopes_in stack ss
  pub owners : (m : ℕ) (outer : List ℕ) (at_new : ℕ) → owners_from m outer (steps_at at_new (left_of fates ss)) ≡ owners_from m outer (steps_at at ss)
  pub rules : (at_new : ℕ) → length (rules_in (steps_at at_new (left_of fates ss))) ≡ length (rules_in (steps_at at ss))
  pub pairs : (other pre : List ℕ) (at_new : ℕ) (js : List Item) → other ≡ pre ++ bytes_of (left_of fates ss) → length pre ≡ at_new → AreItemsOf other k (rules_in (steps_at at_new (left_of fates ss))) js → ArePairs new other items js
  pub twin : (other pre : List ℕ) (at_new : ℕ) (js : List Item) → other ≡ pre ++ bytes_of (left_of fates ss) → length pre ≡ at_new → AreItemsOf other k (rules_in (steps_at at_new (left_of fates ss))) js → IsTwinSheet at_new at (left_of fates ss) ss js items

none_left : (new : Item → List ℕ) (text pre : List ℕ) (n k at : ℕ) → text ≡ pre ++ [] → length pre ≡ at → IsChangedTo new text n k at [] []
unfolding owners_from
none_left new text pre n k at whole before = record {
  fates = [];
  fair = tt;
  bytes = ap (drop at) whole ∙ drop_at pre [] at before;
  apart = omega (arith, ap length whole, length-append {A = ℕ} pre [], before);
  scopes = λ stack. refl;
  owners = λ m outer at_new. refl;
  rules = λ at_new. refl;
  pairs = λ other pre at_new js whole before are. subst (ArePairs new other []) (sym are) tt;
  twin = λ other pre at_new js whole before are. subst (λ (is : List Item). IsTwinSheet at_new at [] [] is []) (sym are) (twin_none at_new at);
}

-- the selectors of a rule that stands in a text
rule_listed : (inside : Bool) (text pre block rest : List ℕ) (at len : ℕ) (p : List Chunk) (ps : List (List Chunk)) (own others : List Item) → text ≡ pre ++ ((flat (joined p ps) ++ 123 ∷ block) ++ rest) → length pre ≡ at → len ≡ size_of (joined p ps)
    → ArePassed (joined p ps) (123 ∷ block ++ rest) → IsPart (list_ends inside) [] p → AreParts (list_ends inside) ps → map range_of own ≡ pieces (at + len) (slice_range text at (at + len))
    → AreApart (at + size_of (joined p ps)) (length text) (map range_of others) → AreListed text at p ps own others
rule_listed inside text pre block rest at len p ps own others whole before size passed is are owned apart =
    let list = flat (joined p ps) in
    let all : text ≡ pre ++ (list ++ (123 ∷ block ++ rest)) = whole ∙ ap (λ bs. pre ++ bs) (append_assoc list (123 ∷ block) rest) in
    let slice : slice_range text at (at + len) ≡ list = ap (λ bs. slice_range bs at (at + len)) all ∙ slice_at pre list (123 ∷ block ++ rest) at (at + len) before (ap (λ n. at + n) (sym size)) in
    let alone : ArePassed (joined p ps) [] = passed_before (joined p ps) (123 ∷ block ++ rest) [] (no_line 123 (block ++ rest) refl) passed in
    record {
      pre = pre;
      z = 123 ∷ block ++ rest;
      whole = all;
      before = before;
      places_are = owned ∙ ap (pieces (at + len)) slice ∙ pieces_passed (list_ends inside) (at + len) p ps alone is are ∙ ap (λ n. places (at + n) p ps) size;
      apart = apart;
    }

same_kind : (f : Front) → IsSameKind f f
same_kind Passed = tt
same_kind Opens = tt
same_kind Closes = tt
same_kind (Styles len) = tt

-- a span at which no rule stands
span_stays : (new : Item → List ℕ) (text pre : List ℕ) (n k at : ℕ) (f : Front) (bytes : List ℕ) (ss : List Span) (items : List Item) → text ≡ pre ++ (bytes ++ bytes_of ss) → length pre ≡ at
    → ((xs : List (List (List ℕ))) → scope_at xs bytes f ≡ []) → ((outer : List ℕ) → Rattle.css_read.specs.Holders.owner_at outer f ≡ []) → ((from to : ℕ) → Rattle.css_read.specs.Rules.rules_at f from to ≡ [])
    → IsChangedTo new text (depth_after n f) k (at + length bytes) ss items → IsChangedTo new text n k at ((record { front = f; bytes = bytes }) ∷ ss) items
unfolding owners_from
span_stays new text pre n k at f bytes ss items whole before no_scope no_owner no_rule later =
    let left = left_of later.fates ss in
    let slice : slice_range text at (at + length bytes) ≡ bytes = ap (λ bs. slice_range bs at (at + length bytes)) whole ∙ slice_at pre bytes (bytes_of ss) at (at + length bytes) before refl in
    record {
      fates = fate.stays ∷ later.fates;
      fair = later.fair;
      bytes = move_on new text at (at + length bytes) items (omega arith) later.apart ∙ ap (λ bs. bs ++ replaced new text (at + length bytes) items) slice ∙ ap (λ bs. bytes ++ bs) later.bytes;
      apart = from_earlier at (at + length bytes) (length text) (map range_of items) (omega arith) later.apart;
      scopes = λ stack. ap (λ (xs : List Scope). scope_at stack bytes f ++ xs) (later.scopes (stack_after stack bytes f));
      owners = λ m outer at_new. ap (λ xs. Rattle.css_read.specs.Holders.owner_at outer f ++ xs) (later.owners (Rattle.css_read.specs.Holders.number_after m f) (Rattle.css_read.specs.Holders.open_after m outer f) (at_new + length bytes));
      rules = λ at_new. ap (λ (rs : List Rule). length (rs ++ rules_in (steps_at (at_new + length bytes) left))) (no_rule at_new (at_new + length bytes)) ∙ later.rules (at_new + length bytes) ∙ sym (ap (λ (rs : List Rule). length (rs ++ rules_in (steps_at (at + length bytes) ss))) (no_rule at (at + length bytes)));
      pairs = λ other pre at_new js whole before are. later.pairs other (pre ++ bytes) (at_new + length bytes) js (whole ∙ sym (append_assoc pre bytes (bytes_of left))) (length-append pre bytes ∙ ap (λ n. n + length bytes) before)
          (subst (λ (rs : List Rule). AreItemsOf other k (rs ++ rules_in (steps_at (at_new + length bytes) left)) js) (no_rule at_new (at_new + length bytes)) are);
      twin = λ other pre at_new js whole before are. twin_span at_new at f f bytes bytes left ss [] [] js items (same_kind f) (twin_plain at_new at bytes)
          (later.twin other (pre ++ bytes) (at_new + length bytes) js (whole ∙ sym (append_assoc pre bytes (bytes_of left))) (length-append pre bytes ∙ ap (λ n. n + length bytes) before)
          (subst (λ (rs : List Rule). AreItemsOf other k (rs ++ rules_in (steps_at (at_new + length bytes) left)) js) (no_rule at_new (at_new + length bytes)) are));
    }

-- a rule, with its selectors and those behind it
rule_becomes : (new : Item → List ℕ) (text : List ℕ) (ch : (i : Item) → HasChange new text i) (pre : List ℕ) (n k at len : ℕ) (bytes : List ℕ) (ss : List Span) (own others : List Item) → text ≡ pre ++ (bytes ++ bytes_of ss) → length pre ≡ at
    → IsRuleOf n (record { front = Styles len; bytes = bytes }) (bytes_of ss) → map range_of own ≡ pieces (at + len) (slice_range text at (at + len)) → AreOf k own
    → IsChangedTo new text n (k + 1) (at + length bytes) ss others → IsChangedTo new text n k at ((record { front = Styles len; bytes = bytes }) ∷ ss) (own ++ others)
unfolding owners_from
rule_becomes new text ch pre n k at len bytes ss own others whole before r owned numbers later =
    let s : Span = record { front = Styles len; bytes = bytes } in
    let inside = nat_lt 0 n in
    let rest = bytes_of ss in
    let left = left_of later.fates ss in
    let xs = changes ch own in
    let old = joined r.first r.others in
    let list = changed_list xs r.first r.others in
    let t = changed_rule xs r in
    let len_is : len ≡ size_of old = styles_same len (size_of old) r.size in
    let bytes_are : text ≡ pre ++ ((flat old ++ 123 ∷ r.block) ++ rest) = whole ∙ ap (λ bs. pre ++ (bs ++ rest)) r.whole in
    let sizes : length bytes ≡ size_of old + suc (length r.block) = ap length r.whole ∙ length-append (flat old) (123 ∷ r.block) in
    let behind : AreApart (at + size_of old) (length text) (map range_of others) = from_earlier (at + size_of old) (at + length bytes) (length text) (map range_of others) (omega (arith, sizes)) later.apart in
    let listed : AreListed text at r.first r.others own others = rule_listed inside text pre r.block rest at len r.first r.others own others bytes_are before len_is r.passed r.is r.are owned behind in
    let block : slice_range text (at + size_of old) (at + length bytes) ≡ 123 ∷ r.block =
    ap (λ bs. slice_range bs (at + size_of old) (at + length bytes)) (listed_whole pre (flat old) (123 ∷ r.block) rest text bytes_are)
    ∙ slice_at (pre ++ flat old) (123 ∷ r.block) rest (at + size_of old) (at + length bytes) (length-append pre (flat old) ∙ ap (λ m. m + size_of old) before) (omega (arith, sizes))
    in
    let first : IsPart (list_ends inside) [] (changed_part (first_change xs) r.first) = part_changed inside (first_change xs) r.first (first_is xs (changes_are ch own)) r.is in
    let parts : AreParts (list_ends inside) (changed_parts (other_changes xs) r.others) = parts_changed inside (other_changes xs) r.others (others_are xs (changes_are ch own)) r.are in
    record {
      fates = fate.becomes (t ∷ []) ∷ later.fates;
      fair = (tt, tt, (rule_changed n s rest xs r (changes_are ch own), tt), later.fair);
      bytes = list_replaced new text ch at r.first r.others own others listed
          ∙ ap (λ bs. flat list ++ bs) (move_on new text (at + size_of old) (at + length bytes) others (omega (arith, sizes)) later.apart ∙ ap (λ bs. bs ++ replaced new text (at + length bytes) others) block ∙ ap (λ bs. 123 ∷ r.block ++ bs) later.bytes)
          ∙ sym (append_assoc (flat list) (123 ∷ r.block) (bytes_of left));
      apart = subst (λ (rs : List Range). AreApart at (length text) rs) (sym (ranges_append own others))
          (Rattle.css_read.proofs.PieceOrder.joined at (at + size_of old) (length text) (map range_of own) (map range_of others) (subst (AreApart at (at + size_of old)) (sym listed.places_are) (places_apart at r.first r.others)) behind);
      scopes = λ stack. scope_same stack (drop (size_of list) t.bytes) (drop len bytes) (drop_at (flat list) (123 ∷ r.block) (size_of list) refl ∙ sym (ap (drop len) r.whole ∙ drop_at (flat old) (123 ∷ r.block) len (sym len_is))) _ _ (later.scopes stack);
      owners = λ m outer at_new. ap (λ xs. innermost outer ∷ xs) (later.owners m outer (at_new + length t.bytes));
      rules = λ at_new. ap suc (later.rules (at_new + length t.bytes));
      pairs = λ other pre2 at_new js whole2 before2 are.
          let own2 = are.0 in
          let others2 = are.1 in
          let size2 = length-append pre2 (t.bytes ++ bytes_of left) in
          let size3 = length-append t.bytes (bytes_of left) in
          let size4 = length-append (flat list) (123 ∷ r.block) in
          let again : AreListed other at_new (changed_part (first_change xs) r.first) (changed_parts (other_changes xs) r.others) own2 [] =
          rule_listed inside other pre2 r.block (bytes_of left) at_new (size_of list) (changed_part (first_change xs) r.first) (changed_parts (other_changes xs) r.others) own2 [] whole2 before2 refl
          (list_passed xs r.first r.others (r.block ++ rest) (r.block ++ bytes_of left) (changes_are ch own) r.passed) first parts are.3 (omega (arith, ap length whole2, size2, size3, size4, before2))
          in
          let texts = with_first new own xs r.first r.others (texts_changed new text ch at r.first r.others own others listed) in
          let here : ArePairs new other own own2 = list_pairs new other at_new k _ _ own own2 [] texts again numbers are.4 in
          let behind2 : ArePairs new other others others2 =
          later.pairs other (pre2 ++ t.bytes) (at_new + length t.bytes) others2 (whole2 ∙ sym (append_assoc pre2 t.bytes (bytes_of left))) (length-append pre2 t.bytes ∙ ap (λ m. m + length t.bytes) before2) are.5
          in
          subst (ArePairs new other (own ++ others)) (sym are.2) (pairs_append new other own own2 others others2 here behind2);
      twin = λ other pre2 at_new js whole2 before2 are.
          let own2 = are.0 in
          let others2 = are.1 in
          let size2 = length-append pre2 (t.bytes ++ bytes_of left) in
          let size3 = length-append t.bytes (bytes_of left) in
          let size4 = length-append (flat list) (123 ∷ r.block) in
          let again : AreListed other at_new (changed_part (first_change xs) r.first) (changed_parts (other_changes xs) r.others) own2 [] =
          rule_listed inside other pre2 r.block (bytes_of left) at_new (size_of list) (changed_part (first_change xs) r.first) (changed_parts (other_changes xs) r.others) own2 [] whole2 before2 refl
          (list_passed xs r.first r.others (r.block ++ rest) (r.block ++ bytes_of left) (changes_are ch own) r.passed) first parts are.3 (omega (arith, ap length whole2, size2, size3, size4, before2))
          in
          let front = twin_list new text other ch at_new at k r.first r.others own own2 others listed again numbers are.4 in
          let span = twin_rule at_new at (flat list) (flat old) (123 ∷ r.block) bytes own2 own (sym r.whole) front in
          let behind2 : IsTwinSheet (at_new + length t.bytes) (at + length bytes) left ss others2 others =
          later.twin other (pre2 ++ t.bytes) (at_new + length t.bytes) others2 (whole2 ∙ sym (append_assoc pre2 t.bytes (bytes_of left))) (length-append pre2 t.bytes ∙ ap (λ m. m + length t.bytes) before2) are.5
          in
          subst (λ (is : List Item). IsTwinSheet at_new at (t ∷ left) (s ∷ ss) is (own ++ others)) (sym are.2) (twin_span at_new at t.front s.front t.bytes bytes left ss own2 own others2 others tt span behind2);
    }
  where
    styles_same : (a b : ℕ) → Styles a ≡ Styles b → a ≡ b
    styles_same a b same = cc

    listed_whole : (pre xs ys zs all : List ℕ) → all ≡ pre ++ ((xs ++ ys) ++ zs) → all ≡ (pre ++ xs) ++ (ys ++ zs)
    listed_whole pre xs ys zs all is = is ∙ ap (λ bs. pre ++ bs) (append_assoc xs ys zs) ∙ sym (append_assoc pre xs (ys ++ zs))

    ranges_append : (own others : List Item) → map range_of (own ++ others) ≡ map range_of own ++ map range_of others
    ranges_append [] others = refl
    ranges_append (i ∷ own) others = ap (λ (rs : List Range). range_of i ∷ rs) (ranges_append own others)

    scope_same : (stack : List (List (List ℕ))) (a b : List ℕ) → a ≡ b → (ys zs : List Scope) → ys ≡ zs → ◌≡◌ {A = List Scope} ((a, Rattle.css_read.proofs.ScopeLemmas.top_heads stack) ∷ ys) ((b, Rattle.css_read.proofs.ScopeLemmas.top_heads stack) ∷ zs)
    scope_same stack a b same ys zs later = rw (same, later) refl

    twin_rule : (a c : ℕ) (out old block bytes : List ℕ) (js is : List Item) → old ++ block ≡ bytes → IsTwinList a c out old js is → IsTwinList a c (out ++ block) bytes js is
    twin_rule a c out old block bytes js is whole front =
        subst (λ (xs : List Item). IsTwinList a c (out ++ block) bytes xs is) (append-nil js)
        (subst (λ (xs : List Item). IsTwinList a c (out ++ block) bytes (js ++ []) xs) (append-nil is)
        (subst (λ (bs : List ℕ). IsTwinList a c (out ++ block) bs (js ++ []) (is ++ [])) whole (twin_both a c out old block block js is [] [] front (twin_plain (a + length out) (c + length old) block))))

    with_first : (new : Item → List ℕ) (own : List Item) (xs : List Rattle.widen_sheet.proofs.ChangedRules.Change) (p : List Chunk) (ps : List (List Chunk)) → Rattle.widen_sheet.proofs.ChangedTexts.HaveTexts new own (changed_parts xs (p ∷ ps))
        → Rattle.widen_sheet.proofs.ChangedTexts.HaveTexts new own (changed_part (first_change xs) p ∷ changed_parts (other_changes xs) ps)
    with_first new own xs p ps have = have

abbrev From : (Item → List ℕ) → List ℕ → ℕ → ℕ → ℕ → List Span → Type 0
From new text n k at ss = (pre : List ℕ) (items : List Item) → text ≡ pre ++ bytes_of ss → length pre ≡ at → AreItemsOf text k (rules_in (steps_at at ss)) items → IsChangedTo new text n k at ss items

span_by : (new : Item → List ℕ) (text : List ℕ) (ch : (i : Item) → HasChange new text i) (n k at : ℕ) (f : Front) (bytes : List ℕ) (ss : List Span) → AreRead n ((record { front = f; bytes = bytes }) ∷ ss) → ((m : ℕ) → From new text (depth_after n f) m (at + length bytes) ss)
    → From new text n k at ((record { front = f; bytes = bytes }) ∷ ss)
span_by new text ch n k at Passed bytes ss read later pre items whole before are =
    span_stays new text pre n k at Passed bytes ss items whole before (λ xs. refl) (λ outer. refl) (λ from to. refl) (later k (pre ++ bytes) items (whole ∙ sym (append_assoc pre bytes (bytes_of ss))) (length-append pre bytes ∙ ap (λ m. m + length bytes) before) are)
span_by new text ch n k at Opens bytes ss read later pre items whole before are =
    span_stays new text pre n k at Opens bytes ss items whole before (λ xs. refl) (λ outer. refl) (λ from to. refl) (later k (pre ++ bytes) items (whole ∙ sym (append_assoc pre bytes (bytes_of ss))) (length-append pre bytes ∙ ap (λ m. m + length bytes) before) are)
span_by new text ch n k at Closes bytes ss read later pre items whole before are =
    span_stays new text pre n k at Closes bytes ss items whole before (λ xs. refl) (λ outer. refl) (λ from to. refl) (later k (pre ++ bytes) items (whole ∙ sym (append_assoc pre bytes (bytes_of ss))) (length-append pre bytes ∙ ap (λ m. m + length bytes) before) are)
span_by new text ch n k at (Styles len) bytes ss read later pre items whole before are =
    let r = rule_of n (record { front = Styles len; bytes = bytes }) (bytes_of ss) len refl read.0 in
    let others = later (k + 1) (pre ++ bytes) are.1 (whole ∙ sym (append_assoc pre bytes (bytes_of ss))) (length-append pre bytes ∙ ap (λ m. m + length bytes) before) are.5 in
    subst (IsChangedTo new text n k at ((record { front = Styles len; bytes = bytes }) ∷ ss)) (sym are.2) (rule_becomes new text ch pre n k at len bytes ss are.0 are.1 whole before r are.3 are.4 others)

pub spans_changed : (new : Item → List ℕ) (text : List ℕ) (ch : (i : Item) → HasChange new text i) (ss : List Span) (n k at : ℕ) → AreRead n ss → From new text n k at ss
spans_changed new text ch [] n k at read = λ pre items whole before are. subst (IsChangedTo new text n k at []) (sym are) (none_left new text pre n k at whole before)
spans_changed new text ch (s ∷ ss) n k at read = span_by new text ch n k at s.front s.bytes ss read (λ m. spans_changed new text ch ss (depth_after n s.front) m (at + length s.bytes) read.1)

-- ---- a byte order mark stays one

abbrev pub has_mark : List ℕ → Bool
has_mark bs = starts_with nat_eq bs (0xEF ∷ 0xBB ∷ 0xBF ∷ [])

record HasFront (text : List ℕ) : Type 0 where
  mark : List ℕ
  whole : text ≡ mark ++ behind_order_mark text
  kept : (xs : List ℕ) → (has_mark (mark ++ xs) ≡ true → has_mark text ≡ true) → behind_order_mark (mark ++ xs) ≡ xs

marked : (text : List ℕ) → has_mark text ≡ true → (rest : List ℕ) × (text ≡ 0xEF ∷ 0xBB ∷ 0xBF ∷ rest)
marked [] is = absurd cc
marked (x ∷ []) is = let e = and_parts (nat_eq 0xEF x) false is in absurd (wrong e.1)
  where
    wrong : false ≡ true → ⊥
    wrong e = cc
marked (x ∷ y ∷ []) is = let e = and_parts (nat_eq 0xEF x) (nat_eq 0xBB y && false) is in absurd (wrong (and_parts (nat_eq 0xBB y) false e.1).1)
  where
    wrong : false ≡ true → ⊥
    wrong e = cc
marked (x ∷ y ∷ z ∷ rest) is =
    let first = and_parts (nat_eq 0xEF x) (nat_eq 0xBB y && (nat_eq 0xBF z && true)) is in
    let second = and_parts (nat_eq 0xBB y) (nat_eq 0xBF z && true) first.1 in
    let third = and_parts (nat_eq 0xBF z) true second.1 in (
      rest,
      rw (← eqb-true 0xEF x first.0, ← eqb-true 0xBB y second.0, ← eqb-true 0xBF z third.0) refl,
    )

front_of : (text : List ℕ) → HasFront text
unfolding behind_order_mark
front_of text = elim (cases_Bool (has_mark text)) [
  | inl yes' ↦
      let is = marked text yes' in
      record {
        mark = 0xEF ∷ 0xBB ∷ 0xBF ∷ [];
        whole = rw yes' (is.1 ∙ ap (λ bs. 0xEF ∷ 0xBB ∷ 0xBF ∷ bs) (sym (ap (drop 3) is.1)));
        kept = λ xs same. refl;
      }
  | inr none ↦ record {
    mark = [];
    whole = rw none refl;
    kept = λ xs same. elim (cases_Bool (has_mark xs)) [
      | inl here ↦ absurd (both (sym (same here) ∙ none))
      | inr other ↦ rw other refl
    ];
  }
]
  where
    both : true ≡ false → ⊥
    both e = cc

-- ---- a whole sheet

-- the same pieces, with what stands where in both
pub record AreInPieces (text wide : List ℕ) (s again : Sheet) : Type 0 where
  pub parts : List Piece
  pub spelt : out_of parts ≡ wide
  pub stands : piece_text parts ≡ text
  pub whole : AreWhole parts
  pub items : AreTwinItems (Meets 0 0 parts) again.items s.items
  pub steps : AreTwinSteps (Meets 0 0 parts) (steps_of wide) (steps_of text)

behind_front : (at : ℕ) (front wide text : List ℕ) (left ss : List Span) (s again : Sheet) → length front ≡ at → wide ≡ front ++ bytes_of left → text ≡ front ++ bytes_of ss → steps_of wide ≡ steps_at at left → steps_of text ≡ steps_at at ss → IsTwinSheet at at left ss again.items s.items → AreInPieces text wide s again
behind_front at front wide text left ss s again before wide_is text_is steps steps_text twin =
    let first = plain front in
    let out_size : 0 + length (out_of first.parts) ≡ at = omega (arith, ap length first.spelt, before) in
    let text_size : 0 + length (piece_text first.parts) ≡ at = omega (arith, ap length first.stands, before) in
    let here : (e f : ℕ) → Meets at at twin.parts e f → Meets 0 0 (first.parts ++ twin.parts) e f = λ e f meets.
    meets_behind 0 0 first.parts twin.parts e f (subst (λ (n : ℕ). Meets n (0 + length (piece_text first.parts)) twin.parts e f) (sym out_size) (subst (λ (n : ℕ). Meets at n twin.parts e f) (sym text_size) meets))
    in
    record {
      parts = first.parts ++ twin.parts;
      spelt = out_both first.parts twin.parts ∙ ap (λ bs. bs ++ out_of twin.parts) first.spelt ∙ ap (λ bs. front ++ bs) twin.spelt ∙ sym wide_is;
      stands = text_both first.parts twin.parts ∙ ap (λ bs. bs ++ piece_text twin.parts) first.stands ∙ ap (λ bs. front ++ bs) twin.stands ∙ sym text_is;
      whole = whole_both first.parts twin.parts first.whole twin.whole;
      items = items_to (Meets at at twin.parts) (Meets 0 0 (first.parts ++ twin.parts)) again.items s.items here twin.items;
      steps = subst (λ (xs : List Step). AreTwinSteps (Meets 0 0 (first.parts ++ twin.parts)) xs (steps_of text)) (sym steps) (subst (AreTwinSteps (Meets 0 0 (first.parts ++ twin.parts)) (steps_at at left)) (sym steps_text)
          (steps_to (Meets at at twin.parts) (Meets 0 0 (first.parts ++ twin.parts)) (steps_at at left) (steps_at at ss) here twin.steps));
    }

pub record IsSameSheet (new : Item → List ℕ) (text wide : List ℕ) (s again : Sheet) : Type 0 where
  pub pairs : ArePairs new wide s.items again.items
  pub rules : length again.rules ≡ length s.rules
  pub scopes : scopes_of wide ≡ scopes_of text
  pub owners : owners_of wide ≡ owners_of text
  pub pieces : AreInPieces text wide s again

ranges_size : (rs : List Rule) → length (ranges_of rs) ≡ length rs
ranges_size [] = refl
ranges_size (r ∷ rs) = ap suc (ranges_size rs)

pub sheet_changed : (new : Item → List ℕ) (text wide : List ℕ) (ch : (i : Item) → HasChange new text i) (names later others last : List Named) (s again : Sheet) → add_rules text empty_sheet names (rules_of text) ≡ (later, Ok s)
    → replaced new text 0 s.items ≡ wide → (has_mark wide ≡ true → has_mark text ≡ true) → add_rules wide empty_sheet others (rules_of wide) ≡ (last, Ok again) → IsSameSheet new text wide s again
unfolding owners_of rules_of steps_of
sheet_changed new text wide ch names later others last s again read is mark read_again =
    let at = mark_size text in
    let ss = spans_of text in
    let own = sheet_of text names later (rules_of text) s read in
    let front = front_of text in
    let spans = spans_read 0 0 (behind_order_mark text) in
    let text_is : text ≡ front.mark ++ bytes_of ss = front.whole ∙ ap (λ bs. front.mark ++ bs) (sym spans.bytes) in
    let sizes = ap length front.whole ∙ length-append front.mark (behind_order_mark text) in
    let before : length front.mark ≡ at = omega arith in
    let items : AreItemsOf text 0 (rules_in (steps_at at ss)) s.items = subst (λ (rs : List Rule). AreItemsOf text 0 rs s.items) (rules_steps text) own.items in
    let changed = spans_changed new text ch ss 0 0 at spans.read front.mark s.items text_is before items in
    let left = left_of changed.fates ss in
    let slice : slice_range text 0 at ≡ front.mark = ap (λ bs. slice_range bs 0 at) text_is ∙ slice_at [] front.mark (bytes_of ss) 0 at refl (omega (arith, before)) in
    let wide_is : wide ≡ front.mark ++ bytes_of left = sym is ∙ move_on new text 0 at s.items (omega arith) changed.apart ∙ ap (λ bs. bs ++ replaced new text at s.items) slice ∙ ap (λ bs. front.mark ++ bs) changed.bytes in
    let kept : behind_order_mark wide ≡ bytes_of left = ap behind_order_mark wide_is ∙ front.kept (bytes_of left) (λ there. mark (ap has_mark wide_is ∙ there)) in
    let left_is : AreRead 0 left = left_read changed.fates ss 0 0 changed.fair spans.read in
    let size : at + length (bytes_of left) ≡ length wide = sym (ap length wide_is ∙ length-append front.mark (bytes_of left) ∙ ap (λ n. n + length (bytes_of left)) before) in
    let steps : steps_of wide ≡ steps_at at left = ap (steps_from (length wide) 0 0) kept ∙ read_steps (length wide) 0 at left left_is size in
    let rules : rules_of wide ≡ rules_in (steps_at at left) = rules_are (length wide) 0 0 (behind_order_mark wide) ∙ ap rules_in steps in
    let there = sheet_of wide others last (rules_of wide) again read_again in
    let count : (rs : List Rule) (t : Sheet) → t.rules ≡ ranges_of rs → length t.rules ≡ length rs = λ rs t same. ap length same ∙ ranges_size rs in
    record {
      pairs = changed.pairs wide front.mark at again.items wide_is before (subst (λ (rs : List Rule). AreItemsOf wide 0 rs again.items) rules there.items);
      rules = count (rules_of wide) again there.rules ∙ ap length rules ∙ changed.rules at ∙ sym (count (rules_of text) s own.rules ∙ ap length (rules_steps text));
      scopes = scopes_are wide at left (record { pre = front.mark; whole = wide_is; before = before }) steps rules ∙ changed.scopes [] ∙ sym (scopes_are text at ss (record { pre = front.mark; whole = text_is; before = before }) (steps_are text) (rules_steps text));
      owners = ap (owners_from 0 []) steps ∙ changed.owners 0 [] at ∙ sym (ap (owners_from 0 []) (steps_are text));
      pieces = behind_front at front.mark wide text left ss s again before wide_is text_is steps (steps_are text) (changed.twin wide front.mark at again.items wide_is before (subst (λ (rs : List Rule). AreItemsOf wide 0 rs again.items) rules there.items));
    }
